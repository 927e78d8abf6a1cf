pub mod NamedPlaces
pub mod NameFields
pub mod PathSlots
pub mod SlotMarks
pub mod SlotSearch
pub mod TextEnds
pub mod SlotTables
