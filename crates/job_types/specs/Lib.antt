pub mod Settings
pub mod Kinds
pub mod Modes
pub mod Verdicts
