pub mod Counted
pub mod Outcomes
pub mod Answered
