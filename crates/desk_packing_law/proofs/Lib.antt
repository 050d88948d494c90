pub mod Codes
pub mod Listed
pub mod Packs
pub mod Inverse
pub mod EventInverse
pub mod StagePacks
pub mod StageInverse
