pub mod LentTables
pub mod PlacedTables
pub mod UnitLists
pub mod UnitStretches
pub mod SectionHeaders
