use Rattle.std.specs.Prelude.{suc, ◌-◌, length}
use Rattle.dw_sources.proofs.RootLaws.{CodePass}
use Rattle.dw_sources.proofs.roots.first_code.Given as goal

abbrev pub invariant-codes : goal.invariant-codes
invariant-codes l = CodePass l.bytes l.from l.place

abbrev pub decreases-codes : goal.decreases-codes
decreases-codes l = suc (length l.bytes) - l.place
