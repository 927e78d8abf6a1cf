pub mod MarkCountLaws
pub mod UnitCountLaws
pub mod RowCountLaws
pub mod MappedCountLaws
pub mod CountLoopLaws
pub mod ReadingLaws
pub mod OutputLaws
pub mod ExerciseLaws
