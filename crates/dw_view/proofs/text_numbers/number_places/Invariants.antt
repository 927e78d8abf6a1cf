-- So many texts from the last on have numbers.
use Rattle.std.proofs.Common.{◌-◌}
use Rattle.std.specs.HashMap.{get}
use Rattle.std.specs.Prelude.{nat_eq}
use Rattle.dw_view.specs.TextNumbers.{AreNumbered, KeepsNumbers, PlacesNumbered}
use Rattle.dw_view.proofs.text_numbers.number_places.Given as goal

abbrev pub invariant-loop-passed : goal.invariant-loop-passed
invariant-loop-passed l = record {
  numbered : AreNumbered (λ k. get nat_eq l.numbers.kept k) l.numbers.free;
  keeps : KeepsNumbers (λ k. get nat_eq l.fn.numbers.kept k) (λ k. get nat_eq l.numbers.kept k);
  places : PlacesNumbered (λ k. get nat_eq l.numbers.kept k) l.table (l.size - l.passed) l.places.items;
}
