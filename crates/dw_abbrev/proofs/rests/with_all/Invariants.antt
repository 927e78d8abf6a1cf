use Rattle.std.proofs.Common.{◌≡◌, ◌++◌, take}
use Rattle.dw_abbrev.proofs.rests.with_all.Given as goal

-- those so far stand behind
abbrev pub invariant-loop-rest : goal.invariant-loop-rest
invariant-loop-rest l = l.all.items ≡ l.fn.all.items ++ take l.rest-index l.rests
