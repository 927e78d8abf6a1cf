pub mod Spelled
pub mod Coded
pub mod QuietSpecs
pub mod Rests
pub mod Fronts
pub mod Spots
pub mod Kept
