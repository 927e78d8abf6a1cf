use Rattle.std.proofs.Common.{◌≡◌, replicate, None}
use Rattle.dw_rewrite.proofs.file.no_contents.Given as goal

-- none is given for the sections before this one
abbrev pub invariant-loop-i : goal.invariant-loop-i
invariant-loop-i l = l.items.items ≡ replicate l._i None
