use Rattle.std.proofs.Common.{◌-◌, ◌^◌}
use Rattle.dw_relocs.specs.FieldWalks.{PassedSo, ground_of}
use Rattle.dw_relocs.proofs.marks.passed.Given as goal

abbrev pub invariant-loop-place : goal.invariant-loop-place
invariant-loop-place l = PassedSo (ground_of l.view l.section) l.fn.marks.place l.to l.at

abbrev pub decreases-loop-place : goal.decreases-loop-place
decreases-loop-place l = 2 ^ 31 - l.at.place
