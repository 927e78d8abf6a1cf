-- There is an item for each section so far, and none for those that take no room.
use Rattle.std.proofs.Common.{◌≡◌, ℕ, ◌<◌, true, None, length}
use Rattle.dw_base.specs.Elf.{is_empty_kind, nth_section}
use Rattle.elf_layout.specs.Given.{item_of}
use Rattle.reader_cases.proofs.elf_layout_tests.contents_with.Given as goal

abbrev pub invariant-loop-section : goal.invariant-loop-section
invariant-loop-section l = record {
  each : length l.items.items ≡ l.section;
  none : (i : ℕ) → i < l.section → is_empty_kind (nth_section l.elf.bytes.now i) ≡ true → item_of l.items.items i ≡ None;
}
