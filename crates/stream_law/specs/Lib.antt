pub mod Sources
pub mod Sinks
pub mod Streams
pub mod Keeping
