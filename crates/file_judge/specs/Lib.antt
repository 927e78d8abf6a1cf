pub mod FileJudges
pub mod FileMakes
pub mod KeptNodes
