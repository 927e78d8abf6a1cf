-- What is laid so far, with the parts that are left, is the whole; so are the headers.
use Rattle.std.proofs.Common.{◌≡◌, ◌≤◌, ◌++◌, drop, vec_len}
use Rattle.dw_base.specs.Layout.{output_limit, laid, new_heads}
use Rattle.elf_layout.specs.PartsGiven.{parts_given}
use Rattle.elf_layout.proofs.parts.lay_parts.Given as goal

abbrev pub invariant-loop-part : goal.invariant-loop-part
invariant-loop-part l = record {
  small : vec_len l.out ≤ output_limit;
  longer : vec_len l.initial.out ≤ vec_len l.out;
  bytes : laid l.out.items (parts_given (drop l.part-index l.parts)) ≡ laid l.initial.out.items (parts_given l.parts);
  heads : l.heads.items ++ new_heads l.out.items (parts_given (drop l.part-index l.parts))
      ≡ l.initial.heads.items ++ new_heads l.initial.out.items (parts_given l.parts);
}
