use Rattle.std.proofs.Common.{vec_len}
use Rattle.std.specs.HashMap.{get}
use Rattle.std.specs.Prelude.{nat_eq}
use Rattle.dw_abbrev.specs.Kept.{AllKept}
use Rattle.dw_base.specs.ViewData.{debug_data}
use Rattle.dw_units.specs.PlacedTables.{AreKnown}
use Rattle.dw_units.proofs.reading.add_tables.Given as goal

-- what is known so far, and what is left
abbrev pub invariant-loop-one : goal.invariant-loop-one
invariant-loop-one l = record {
  left : AllKept (debug_data l.view).base.abbrevs.bytes l.kept.items;
  known : AreKnown (debug_data l.view) (λ at. get nat_eq l.numbers at) l.tables.items;
}

abbrev pub decreases-loop-one : goal.decreases-loop-one
decreases-loop-one l = vec_len l.kept
