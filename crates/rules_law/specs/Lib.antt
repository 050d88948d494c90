pub mod Slabs
pub mod Growth
pub mod Reference
pub mod Mark
pub mod Close
pub mod Meaning
