pub mod Patching
pub mod RecordMoves
pub mod OffsetLists
