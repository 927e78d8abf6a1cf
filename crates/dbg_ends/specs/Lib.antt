pub mod Ends
pub mod Due
pub mod Steps
pub mod Told
