use Rattle.dw_rewrite.proofs.OffsetAddLaws.{AddPass}
use Rattle.dw_rewrite.specs.NewPlaces.{places_known}
use Rattle.dw_rewrite.proofs.records.add_fields.Given as goal

abbrev pub invariant-loop-at : goal.invariant-loop-at
invariant-loop-at l = AddPass l.source (places_known l.new_places l.into) l.fields l.fn.offsets l.offsets l.at-index
