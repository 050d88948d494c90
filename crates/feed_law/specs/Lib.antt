pub mod Texts
pub mod Worlds
pub mod Turns
pub mod Feeds
pub mod Pieces
pub mod Saving
