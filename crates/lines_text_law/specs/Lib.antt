pub mod Text
pub mod Numerals
pub mod Forms
pub mod Grammar
pub mod Reading
pub mod code
