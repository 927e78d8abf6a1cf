-- The abbreviations of a unit (DWARF 5, 7.5.1 and 7.5.3): the offset in its header is one into .debug_abbrev, and a table stands there. One
-- into another section, which a relocation makes of it in a relocatable file, counts as one past .debug_abbrev: it is refused as the table
-- of its number.
use Rattle.std.specs.Prelude.{true, false, ◌≡◌, List}
use Rattle.dw_base.specs.AbbreviationFails.{AbbreviationFails}
use Rattle.dw_base.specs.AbbreviationTables.{Abbreviation, IsTable}
use Rattle.dw_base.specs.Refusals.{at}
use Rattle.dw_base.specs.UnitHeaders.{UnitBase}
use Rattle.dw_base.specs.declared.fault.Kind.TheVariants.{Abbreviation as AbbreviationKind}
use Rattle.dw_base.specs.declared.fault.Refusal.{Refusal}
use Rattle.dw_base.specs.declared.units.UnitHeader.{UnitHeader}

-- the table of a unit
pub record IsUnitTable (base : UnitBase) (h : UnitHeader) (list : List Abbreviation) : Type 0 where
  pub here : h.elsewhere ≡ false
  pub is : IsTable base.abbrevs.bytes h.abbrevs list

-- a unit has none that can be read
pub data UnitTableFails (base : UnitBase) (h : UnitHeader) : Refusal → Type 0 where
  other_section : h.elsewhere ≡ true → UnitTableFails base h (at AbbreviationKind base.abbrevs.number h.abbrevs)
  table_fails : {r : Refusal} → AbbreviationFails base.abbrevs.bytes base.abbrevs.number h.abbrevs r → UnitTableFails base h r
