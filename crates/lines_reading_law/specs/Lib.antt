pub mod Lines
pub mod Grammars
pub mod Answers
pub mod Walk
