pub mod Acts
pub mod Asked
pub mod Heard
pub mod Small
pub mod code
