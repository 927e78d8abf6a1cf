pub mod DebugNameLaws
pub mod KeptNodeLaws
pub mod SaidLaws
