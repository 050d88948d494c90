pub mod Carried
pub mod Places
pub mod Accepted
pub mod Rows
