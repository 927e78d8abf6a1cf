use Rattle.std.proofs.Common.{◌≡◌, ◌++◌, drop}
use Rattle.dw_read.proofs.all_fields.given_units.Given as goal

abbrev pub invariant-loop-section : goal.invariant-loop-section
invariant-loop-section l = l.units.items ++ drop l.section-index l.found ≡ l.found
