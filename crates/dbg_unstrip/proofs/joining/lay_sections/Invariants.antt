-- What is laid, and the new headers, are those of the sections so far.
use Rattle.std.proofs.Common.{◌≡◌, ◌+◌, ◌++◌, ◌≤◌, length}
use Rattle.dw_base.specs.Layout.{output_limit, laid, new_heads}
use Rattle.dw_base.specs.Lists.{tabulate}
use Rattle.dbg_unstrip.specs.Joined.{joined_front, joined_part, kept_place}
use Rattle.dbg_unstrip.proofs.joining.lay_sections.Given as goal

abbrev pub invariant-loop-section : goal.invariant-loop-section
invariant-loop-section l = record {
  small : length l.header + length l.out ≤ output_limit;
  place : l.place ≡ kept_place l.debug.bytes.now l.section;
  bytes : l.header ++ l.out ≡ laid (joined_front l.stripped.bytes.now l.debug.bytes.now) (tabulate (joined_part l.stripped.bytes.now l.debug.bytes.now) l.section);
  heads : l.heads.items ≡ new_heads (joined_front l.stripped.bytes.now l.debug.bytes.now) (tabulate (joined_part l.stripped.bytes.now l.debug.bytes.now) l.section);
}
