pub mod NewIds
pub mod EditedFiles
pub mod SameSections
pub mod Leaving
pub mod Outcomes
pub mod Judged
