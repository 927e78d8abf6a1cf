pub use Rattle.dw_base.specs.Paths
pub mod Components
pub mod PlainPaths
pub mod CleanPaths
pub mod CountingPairs
