pub mod Rests
pub mod Onwards
pub mod Openings
pub mod Lent
