-- What is pushed and made so far, with what stands from here on, is the whole.
use Rattle.std.proofs.Common.{◌≡◌, ◌+◌, ◌++◌, ◌≤◌, drop, length, vec_len}
use Rattle.dw_base.specs.Layout.{output_limit}
use Rattle.elf_layout.specs.Patched.{AreInOrder, patched_from}
use Rattle.elf_layout.proofs.patched.push_sorted.Given as goal

abbrev pub invariant-loop-field : goal.invariant-loop-field
invariant-loop-field l = record {
  bytes : (l.out ++ l.made.items) ++ patched_from l.order l.old l.done (drop l.field-index l.fields)
      ≡ (l.fn.out ++ l.fn.made.items) ++ patched_from l.order l.old 0 l.fields;
  order : AreInOrder (length l.old) l.done (drop l.field-index l.fields);
  inside : l.done ≤ length l.old;
  room : length l.out + vec_len l.made + length l.old ≤ output_limit + l.done;
}
