-- No symbol table so far has it as its string table.
use Rattle.std.proofs.Common.{◌≡◌, false, take}
use Rattle.std.specs.List.{list_any}
use Rattle.dbg_split.specs.Droppable.{links_symbols}
use Rattle.dbg_split.proofs.dropping.names_symbols.Given as goal

abbrev pub invariant-loop-head : goal.invariant-loop-head
invariant-loop-head l = list_any (links_symbols l.section) (take l.head-index l.elf.sections.items) ≡ false
