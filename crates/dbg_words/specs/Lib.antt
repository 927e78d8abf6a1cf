pub mod CommandLines
pub mod PathWords
pub mod Decimals
pub mod Dashes
pub mod Matches
pub mod MapWords
pub mod Words
