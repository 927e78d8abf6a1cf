use Rattle.std.proofs.Common.{◌-◌, ◌≤◌, length}
use Rattle.dw_entries.specs.Passes.{Nulls}
use Rattle.dw_entries.proofs.nulls.behind_nulls.Given as goal

-- the codes so far stand from the first place up to this one
abbrev pub invariant-nulls : goal.invariant-nulls
invariant-nulls l = record {
  nulls : Nulls l.bytes l.from l.depth l.place l.lists;
  further : l.from ≤ l.place;
  within : l.place ≤ length l.bytes;
  depth : l.lists ≤ l.depth;
}

abbrev pub decreases-nulls : goal.decreases-nulls
decreases-nulls l = length l.bytes - l.place
