use Rattle.std.proofs.Common.{ℕ, ◌<◌}
use Rattle.dw_base.specs.Elf.{nth_segment}
use Rattle.dw_base.specs.ElfFails.{SegmentReads}
use Rattle.elf_file.proofs.segments.segments_lie.Given as goal

-- the segments before this one end in the file
abbrev pub invariant-loop-index : goal.invariant-loop-index
invariant-loop-index l = (i : ℕ) → i < l.index → SegmentReads l.bytes (nth_segment l.bytes i)
