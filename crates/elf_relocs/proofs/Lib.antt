pub mod SourceLaws
pub mod OffsetLaws
pub mod RunPlaceLaws
