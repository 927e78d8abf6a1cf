pub mod RisingLaws
pub mod Sayings
pub mod WriteLaws
