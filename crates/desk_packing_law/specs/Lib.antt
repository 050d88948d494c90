pub mod Answers
pub mod Runs
pub mod Settings
pub mod Sessions
pub mod Events
pub mod Stages
