pub mod Matching
pub mod Over
pub mod Priority
pub mod Tells
pub mod Told
pub mod View
pub mod code
