pub mod Matching
pub mod Joined
pub mod UnstripFails
pub mod Rejoined
