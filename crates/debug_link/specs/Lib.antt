pub mod Sums
pub mod Tables
pub mod Links
