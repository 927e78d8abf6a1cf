-- What the contracts of the crate are about.
pub mod Shapes
pub mod LinkedNodes
pub mod UnitArenas
pub mod ScannedNodes
pub mod NextNodes
pub mod Walks
pub mod UnitForests
