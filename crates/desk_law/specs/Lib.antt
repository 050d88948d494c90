pub mod Calls
pub mod Reads
pub mod Writes
pub mod Feeding
pub mod Standings
pub mod Resuming
pub mod Versions
pub mod Determined
