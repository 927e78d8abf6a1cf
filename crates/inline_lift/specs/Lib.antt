pub mod GrowingPaths
pub mod LiftedTables
pub mod Lifted
pub mod LiftedFiles
pub mod LiftFails
pub mod Filled
pub mod GrownRows
