pub mod Passes
pub mod ScanStates
pub mod CodedEntries
pub mod ViewUnits
pub mod Fronts
pub mod HeaderRows
pub mod ValueWalks
pub mod SectionOrder
