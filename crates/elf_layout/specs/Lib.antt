pub mod Given
pub mod PartsGiven
pub mod Patched
