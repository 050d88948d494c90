pub mod Writing
pub mod ByKind
pub mod Back
pub mod ReportLines
pub mod Short
