pub mod XorLaws
pub mod SumLaws
pub mod TableLaws
pub mod LinkLaws
