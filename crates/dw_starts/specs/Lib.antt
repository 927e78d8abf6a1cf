pub mod StringTables
pub mod MacroSections
pub mod UnitPlaces
pub mod LineStarts
pub mod MacroNames
