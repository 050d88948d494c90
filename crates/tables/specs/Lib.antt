pub mod Lengths
pub mod Records
pub mod Put
pub mod Tables
pub mod Same
pub mod Live
