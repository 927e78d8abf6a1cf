pub mod RegisterLaws
pub mod AddressLaws
pub mod RowLaws
pub mod HeaderLaws
pub mod WholeLaws
pub mod TableLaws
pub mod WorkedRows
