-- The text behind the last place is the empty one.
use Rattle.std.proofs.Common.{◌-◌, length, arith}
use Rattle.dw_view.proofs.TextNumberLaws.{keeps-none, places-none}
use Rattle.dw_view.proofs.text_numbers.number_places.Goals as goal

pub loop-passed-init : goal.loop-passed-init
loop-passed-init c = record {
  numbered = c.requires.numbered;
  keeps = keeps-none _;
  places = places-none _ c.args.table.now c.in_ok-places.places.items (length c.args.table.now - 0) (omega arith) c.in_ok-places.ensures.noughts;
}
