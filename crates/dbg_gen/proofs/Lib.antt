pub mod CountLaws
pub mod FileLaws
pub mod GeneratedLaws
pub mod OnceLaws
pub mod SizeLaws
pub mod TextThereLaws
