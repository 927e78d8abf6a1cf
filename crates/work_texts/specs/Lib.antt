pub mod Lists
pub mod Fields
pub mod Rules
pub mod BadFields
pub mod Reading
pub mod Whole
pub mod Keys
