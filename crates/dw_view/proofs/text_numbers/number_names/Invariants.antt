-- The names of so many sections have numbers.
use Rattle.std.specs.HashMap.{get}
use Rattle.std.specs.Prelude.{nat_eq}
use Rattle.dw_view.specs.TextNumbers.{NamesNumbered}
use Rattle.dw_view.proofs.text_numbers.number_names.Given as goal

abbrev pub invariant-loop-section : goal.invariant-loop-section
invariant-loop-section l = NamesNumbered (λ k. get nat_eq l.numbers.kept k) l.elf.bytes.now l.section l.names.items
