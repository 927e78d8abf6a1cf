pub mod KindLaws
pub mod ReadLaws
pub mod FixedLaws
pub mod InsideLaws
