use Rattle.std.proofs.Common.{take}
use Rattle.dw_abbrev.specs.Rests.{AreApart}
use Rattle.dw_abbrev.proofs.keeping.are_apart.Given as goal

-- the codes so far are none of those
abbrev pub invariant-loop-abbrev : goal.invariant-loop-abbrev
invariant-loop-abbrev l = AreApart (take l.abbrev-index l.own) l.others
