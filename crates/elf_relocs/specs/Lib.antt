pub mod FieldOffsets
pub mod Runs
