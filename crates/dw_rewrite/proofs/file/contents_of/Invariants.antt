use Rattle.std.proofs.Common.{vec_len}
use Rattle.dw_rewrite.proofs.GivenLaws.{Giving}
use Rattle.dw_rewrite.proofs.file.contents_of.Given as goal

-- the bodies that are left stand in the file, and those that were taken are given
abbrev pub invariant-loop-body : goal.invariant-loop-body
invariant-loop-body l = Giving l.elf.bytes.now l.fn.bodies.items l.bodies.items l.items.items

abbrev pub decreases-loop-body : goal.decreases-loop-body
decreases-loop-body l = vec_len l.bodies
