pub mod Rules
pub mod InlineLaws
pub mod CleanLaws
pub mod CountingLaws
