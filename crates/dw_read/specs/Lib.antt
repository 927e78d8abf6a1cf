pub mod MacroFields
pub mod ViewLines
pub mod SlotPaths
pub mod NameSections
pub mod AllFields
pub mod FoundPaths
pub mod ReadData
