use Rattle.dw_base.specs.NameTables.{NamesTexts}
use Rattle.dw_base.specs.NameOffsets.{OffsetsRead}
use Rattle.dw_offsets.proofs.name_texts.check_texts.Given as goal

-- the string offsets so far can be read and name texts
abbrev pub invariant-loop-i : goal.invariant-loop-i
invariant-loop-i l = record { texts : NamesTexts l.view l.section l.table l.i; offsets : OffsetsRead l.view l.section l.table l.i }
