use Rattle.std.proofs.Common.{◌≡◌, ◌≤◌, length, drop, false}
use Rattle.dw_base.specs.Texts.{has_nul}
use Rattle.dw_base.proofs.texts.nul_end.Given as goal

-- no NUL stands from here on
abbrev pub invariant-bytes : goal.invariant-bytes
invariant-bytes l = record {
  inside : l.end ≤ length l.table;
  none : has_nul (drop l.end l.table) ≡ false;
}

abbrev pub decreases-bytes : goal.decreases-bytes
decreases-bytes l = l.end
