-- The kept sections so far.
use Rattle.std.proofs.Common.{◌≡◌}
use Rattle.elf_layout.specs.PartsGiven.{parts_given}
use Rattle.dbg_split.specs.StrippedFile.{kept_parts}
use Rattle.dbg_split.proofs.stripping.kept_parts.Given as goal

abbrev pub invariant-loop-section : goal.invariant-loop-section
invariant-loop-section l = parts_given l.parts.items ≡ kept_parts l.elf.bytes.now l.section
