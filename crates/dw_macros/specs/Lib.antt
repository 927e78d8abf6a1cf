pub mod OperationRooms
pub mod HeaderRooms
pub mod TextEnds
pub mod UnitEnds
pub mod MacroEvents
pub mod EventMeanings
