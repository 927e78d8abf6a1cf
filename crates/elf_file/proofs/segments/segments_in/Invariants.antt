use Rattle.std.proofs.Common.{◌≡◌}
use Rattle.dw_base.specs.Elf.{nth_segment}
use Rattle.dw_base.specs.Lists.{tabulate}
use Rattle.elf_file.proofs.segments.segments_in.Given as goal

-- the segments before this one are read
abbrev pub invariant-loop-index : goal.invariant-loop-index
invariant-loop-index l = l.segments.items ≡ tabulate (nth_segment l.bytes) l.index
