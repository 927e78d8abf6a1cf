pub mod ViewSources
pub mod ChangeSteps
pub mod OffsetRooms
pub mod ViewTables
pub mod PlainOpcodes
pub mod HeaderFields
pub mod TableMoves
pub mod NewTexts
