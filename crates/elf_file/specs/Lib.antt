pub mod FileHeader
pub mod IsElf
pub mod Fixed
