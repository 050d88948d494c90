pub mod Lists
pub mod Bounds
pub mod Clocked
pub mod Border
pub mod Days
pub mod Closes
pub mod Kept
pub mod Parts
