pub mod PatchLaws
pub mod RunLaws
pub mod SameRecordLaws
pub mod RecordMoveLaws
pub mod MovedTableLaws
pub mod WorkedMoves
pub mod SaidCellLaws
pub mod OffsetListLaws
