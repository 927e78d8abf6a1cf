use Rattle.std.proofs.Common.{map, take}
use Rattle.std.specs.HashMap.{get}
use Rattle.std.specs.Prelude.{nat_eq}
use Rattle.dw_base.specs.ViewData.{debug_data}
use Rattle.dw_entries.specs.ViewUnits.{unit_section_at}
use Rattle.dw_units.specs.PlacedTables.{AreKnown, tables_of}
use Rattle.dw_units.specs.SectionHeaders.{numbers_of}
use Rattle.dw_units.specs.UnitLists.{ListsAll}
use Rattle.dw_units.proofs.reading.list_units.Given as goal

-- the units of the sections so far are listed
abbrev pub invariant-loop-one : goal.invariant-loop-one
invariant-loop-one l = record {
  known : AreKnown (debug_data l.view) (λ at. get nat_eq l.numbers at) l.tables.items;
  listed : ListsAll (debug_data l.view) (tables_of (debug_data l.view).base.abbrevs.bytes l.tables.items) (map (unit_section_at l.view) (numbers_of (take l.one-index l.list))) l.units.items;
}
