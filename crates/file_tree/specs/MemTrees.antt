-- What a tree in memory tells, and which of its calls are to fail.
use Rattle.std.specs.Prelude.{◌≡◌, ℕ, true, length, IsErr, IsErrOf, OnOk, Result}
use Rattle.file_tree.specs.declared.mem_tree.MemTree.{MemTree}
use Rattle.file_tree.specs.declared.node.TreeErr.{TreeErr}
use Rattle.file_tree.specs.declared.node.TreeErr.TheVariants.{Failed}
use Rattle.file_tree.specs.Seen.{Seen}
use Rattle.file_tree.specs.Logs.{past_with, ToFail, is_due}

-- it tells all
abbrev pub seen_of : MemTree → Seen
seen_of m = record { tells = true; past = past_with m.first.items m.log.calls.items m.log.effects.items; faults = m.faults }

abbrev pub to_fail_of : MemTree → ToFail
to_fail_of m = record { listed = m.listed.items; from = m.stop }

-- the number of the next call
abbrev pub number_of : MemTree → ℕ
number_of m = length m.log.calls.items

-- it fails only where it is set to, and there it does, want of memory aside; else no fault is counted
pub record FailsAsSet {T : Type 0} (old new : MemTree) (result : Result T TreeErr) : Type 0 where
  pub failed : IsErrOf result Failed → is_due (to_fail_of old) (number_of old) ≡ true
  pub due : is_due (to_fail_of old) (number_of old) ≡ true → IsErr result
  pub set : to_fail_of new ≡ to_fail_of old
  pub faults : OnOk result (new.faults ≡ old.faults)
