pub mod Logic
pub mod Numbered
pub mod Cascade
pub mod Valid
pub mod Multiples
pub mod Refusals
pub mod Papers
