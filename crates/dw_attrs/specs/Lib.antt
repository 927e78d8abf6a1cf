pub mod Sayings
pub mod UnitValues
pub mod ArenaEntries
pub mod EntryIndexes
pub mod UnitReads
