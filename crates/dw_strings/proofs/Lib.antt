pub mod Rules
pub mod PlacedLaws
pub mod PoolLaws
pub mod LentPoolLaws
