-- No section so far is refused.
use Rattle.std.proofs.Common.{ℕ, ◌<◌}
use Rattle.dw_base.specs.LayoutFails.{SectionStays}
use Rattle.dw_base.specs.declared.fault.Refusal.{Refusal}
use Rattle.elf_layout.specs.Given.{body_given}
use Rattle.elf_layout.proofs.bodies.all_can_be_written.Given as goal

abbrev pub invariant-loop-section : goal.invariant-loop-section
invariant-loop-section l =
    (i : ℕ) (r : Refusal) → i < l.section → SectionStays l.elf.bytes.now (body_given l.elf.bytes.now l.contents) i r → ⊥
