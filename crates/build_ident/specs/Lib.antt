pub mod Ids
pub mod IdFails
pub mod Searches
