pub mod Digits
pub mod Grammars
pub mod Rightness
pub mod Steps
pub mod Rooms
pub mod Fills
pub mod Longer
pub mod Sorts
