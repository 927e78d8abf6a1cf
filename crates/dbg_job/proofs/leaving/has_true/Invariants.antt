-- None so far is true.
use Rattle.std.proofs.Common.{◌≡◌, false, take}
use Rattle.std.specs.List.{list_any}
use Rattle.dbg_job.proofs.leaving.has_true.Given as goal

abbrev pub invariant-loop-is : goal.invariant-loop-is
invariant-loop-is l = list_any (λ t. t) (take l.is-index l.list) ≡ false
