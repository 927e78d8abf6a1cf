pub mod FieldOffsets
pub mod KeptNames
pub mod LongestFronts
pub mod RootValues
pub mod UnitPaths
pub mod JoinedFiles
pub mod Sources
