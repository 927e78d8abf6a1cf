pub mod LookLaws
pub mod WalkLaws
pub mod NameLaws
pub mod SearchLaws
pub mod PlaceLaws
pub mod TakenLaws
pub mod EachLookLaws
