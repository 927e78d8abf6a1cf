pub mod NoteLaws
pub mod TextLaws
pub mod SectionLaws
pub mod OwnLaws
pub mod IdLaws
pub mod PieceLaws
