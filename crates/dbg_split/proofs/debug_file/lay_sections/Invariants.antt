-- What is laid, and the new headers, are those of the sections so far.
use Rattle.std.proofs.Common.{◌≡◌, ◌+◌, ◌++◌, ◌≤◌, length}
use Rattle.dw_base.specs.Layout.{output_limit, laid, new_heads}
use Rattle.dw_base.specs.Lists.{tabulate}
use Rattle.dbg_split.specs.DebugFile.{debug_part}
use Rattle.dbg_split.proofs.debug_file.lay_sections.Given as goal

abbrev pub invariant-loop-section : goal.invariant-loop-section
invariant-loop-section l = record {
  small : length l.front + length l.out ≤ output_limit;
  bytes : l.front ++ l.out ≡ laid l.front (tabulate (debug_part l.elf.bytes.now) l.section);
  heads : l.heads.items ≡ new_heads l.front (tabulate (debug_part l.elf.bytes.now) l.section);
}
