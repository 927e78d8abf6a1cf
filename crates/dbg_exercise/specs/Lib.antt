pub mod ViewCounts
pub mod Exercises
