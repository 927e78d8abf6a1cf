use Rattle.std.proofs.Common.{◌≡◌}
use Rattle.debug_link.specs.Tables.{times}
use Rattle.debug_link.proofs.table.times_x8.Given as goal

-- times x so many times
abbrev pub invariant-terms : goal.invariant-terms
invariant-terms l = l.product ≡ times l.i l.rest
