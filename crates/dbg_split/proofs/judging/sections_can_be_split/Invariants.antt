-- No section so far bars, and it is known whether one of them is droppable.
use Rattle.std.proofs.Common.{◌≡◌, ℕ, ◌<◌}
use Rattle.dw_base.specs.declared.fault.Refusal.{Refusal}
use Rattle.dbg_split.specs.SplitFails.{SectionBars, drops_before}
use Rattle.dbg_split.proofs.judging.sections_can_be_split.Given as goal

abbrev pub invariant-loop-section : goal.invariant-loop-section
invariant-loop-section l = record {
  free : (i : ℕ) (r : Refusal) → i < l.section → SectionBars l.elf.bytes.now i r → ⊥;
  behind : l.behind ≡ drops_before l.elf.bytes.now l.section;
}
