pub mod VariableCounts
pub mod GeneratedTexts
pub mod GeneratedUnits
pub mod GeneratedLines
pub mod GeneratedFiles
pub mod Asked
