pub mod Sound
pub mod code
