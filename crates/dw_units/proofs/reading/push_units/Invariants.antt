use Rattle.std.proofs.Common.{take}
use Rattle.std.specs.HashMap.{get}
use Rattle.std.specs.Prelude.{nat_eq}
use Rattle.dw_base.specs.ViewData.{debug_data}
use Rattle.dw_units.specs.PlacedTables.{AreKnown, tables_of}
use Rattle.dw_units.specs.UnitLists.{Adds, Grows}
use Rattle.dw_units.proofs.reading.push_units.Given as goal

-- the units so far stand behind the others
abbrev pub invariant-loop-header : goal.invariant-loop-header
invariant-loop-header l = record {
  known : AreKnown (debug_data l.view) (λ at. get nat_eq l.numbers at) l.tables.items;
  grows : Grows (tables_of (debug_data l.view).base.abbrevs.bytes l.fn.tables.items) (tables_of (debug_data l.view).base.abbrevs.bytes l.tables.items);
  adds : Adds (debug_data l.view) (tables_of (debug_data l.view).base.abbrevs.bytes l.tables.items) (take l.header-index l.headers) l.fn.units.items l.units.items;
}
