pub use Rattle.dw_base.specs.StringTables
pub mod Pool
pub mod LentPool
