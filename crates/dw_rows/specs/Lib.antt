pub mod ProgramPlaces
pub mod TableRows
