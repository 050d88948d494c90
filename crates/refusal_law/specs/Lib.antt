pub mod Refusals
pub mod code
