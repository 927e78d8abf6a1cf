-- No section so far has the name.
use Rattle.std.proofs.Common.{◌≡◌, ◌<◌, ℕ, false}
use Rattle.dw_base.specs.Elf.{section_name}
use Rattle.dw_base.specs.Texts.{same_text}
use Rattle.dbg_unstrip.proofs.pairing.contents_called.Given as goal

abbrev pub invariant-loop-section : goal.invariant-loop-section
invariant-loop-section l = (k : ℕ) → k < l.section → same_text (section_name l.elf.bytes.now k) l.name ≡ false
