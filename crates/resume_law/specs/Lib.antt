pub mod Answers
pub mod Saved
pub mod Rebuilt
pub mod Calls
pub mod Pieces
pub mod Comes
pub mod code
