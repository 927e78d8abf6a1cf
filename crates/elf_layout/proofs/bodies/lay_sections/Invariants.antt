-- What is laid so far, with the sections that are left, is the whole; so are the headers.
use Rattle.std.proofs.Common.{◌≡◌, ◌+◌, ◌≤◌, ◌++◌, length}
use Rattle.dw_base.specs.Elf.{section_count}
use Rattle.dw_base.specs.Layout.{output_limit, laid, new_heads}
use Rattle.elf_layout.specs.Given.{parts_with}
use Rattle.elf_layout.proofs.bodies.lay_sections.Given as goal

abbrev pub invariant-loop-given : goal.invariant-loop-given
invariant-loop-given l = record {
  small : length l.front + length l.out ≤ output_limit;
  left : l.section + length l.given-iterator.rest.items ≡ section_count l.elf.bytes.now;
  bytes : laid (l.front ++ l.out) (parts_with l.elf.bytes.now l.section l.given-iterator.rest.items) ≡ laid l.front (parts_with l.elf.bytes.now 0 l.fn.contents.items);
  heads : l.heads.items ++ new_heads (l.front ++ l.out) (parts_with l.elf.bytes.now l.section l.given-iterator.rest.items)
      ≡ new_heads l.front (parts_with l.elf.bytes.now 0 l.fn.contents.items);
}
