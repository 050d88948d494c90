pub mod Tests
pub mod Ends
pub mod Turns
pub mod Settles
