use Rattle.std.proofs.Common.{◌≤◌, length, take}
use Rattle.dw_base.specs.EntryScans.{SpellsValues}
use Rattle.dw_entries.proofs.entry_values.walked_end.Given as goal

-- the values so far stand from the first place up to this one
abbrev pub invariant-loop-spec : goal.invariant-loop-spec
invariant-loop-spec l = record {
  values : SpellsValues l.params l.bytes l.from (take l.spec-index l.specs) l.place;
  further : l.from ≤ l.place;
  within : l.place ≤ length l.bytes;
}
