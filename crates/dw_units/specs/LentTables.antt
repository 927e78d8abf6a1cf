-- The table of a unit as the code has it: lent or its own (DWARF 5, 7.5.3).
use Rattle.std.specs.Prelude.{List}
use Rattle.dw_base.specs.AbbreviationTables.{Abbreviation}
use Rattle.dw_units.specs.declared.unit_table.TableSource.{TableSource}
use Rattle.dw_units.specs.declared.unit_table.TableSource.TheVariants.{Kept, Read}

abbrev pub table_in : TableSource → List Abbreviation
table_in (Kept table) = table.now
table_in (Read table) = table
