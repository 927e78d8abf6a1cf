-- No section so far begins in the file header.
use Rattle.std.proofs.Common.{ℕ, ◌<◌}
use Rattle.dw_base.specs.Elf.{nth_section}
use Rattle.dbg_unstrip.specs.Matching.{InHeader}
use Rattle.dbg_unstrip.proofs.matching.hides_header.Given as goal

abbrev pub invariant-loop-section : goal.invariant-loop-section
invariant-loop-section l = (j : ℕ) → j < l.section → InHeader l.elf.bytes.now (nth_section l.elf.bytes.now j) → ⊥
