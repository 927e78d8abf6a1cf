-- What is laid so far, with the parts that are left, is the whole, and each part so far has a header.
use Rattle.std.proofs.Common.{◌≡◌, ◌+◌, ◌++◌, ◌≤◌, drop, length, vec_len}
use Rattle.dw_base.specs.Layout.{output_limit, laid}
use Rattle.elf_layout.specs.PartsGiven.{parts_given}
use Rattle.dbg_split.proofs.measuring.lay_parts.Given as goal

abbrev pub invariant-loop-part : goal.invariant-loop-part
invariant-loop-part l = record {
  small : length l.front + length l.out ≤ output_limit;
  count : vec_len l.heads ≡ l.part-index;
  bytes : laid (l.front ++ l.out) (parts_given (drop l.part-index l.parts)) ≡ laid (l.front ++ l.initial.out) (parts_given l.parts);
}
