pub mod Decided
pub mod Readable
pub mod CanSplit
