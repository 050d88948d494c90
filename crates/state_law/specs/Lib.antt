pub mod Set
pub mod Now
pub mod Opening
pub mod Clock
pub mod Trades
pub mod Day
pub mod code
