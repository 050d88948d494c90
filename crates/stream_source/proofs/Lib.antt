pub mod Texts
pub mod Fills
