pub mod Roots
pub mod Folders
pub mod Looks
pub mod Errors
pub mod Walks
pub mod NewPaths
pub mod Searches
