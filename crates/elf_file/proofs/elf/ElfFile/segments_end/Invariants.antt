use Rattle.std.proofs.Common.{◌≡◌, drop}
use Rattle.dw_base.specs.Layout.{segment_ends, greatest}
use Rattle.elf_file.proofs.elf.ElfFile.segments_end.Given as goal

-- what is left leads to the end of the whole
abbrev pub invariant-loop-segment : goal.invariant-loop-segment
invariant-loop-segment l = greatest l.end (segment_ends (drop l.segment-index l.self.segments.items)) ≡ greatest l.fn.first (segment_ends l.self.segments.items)
