use Rattle.dw_rewrite.proofs.FieldSetLaws.{SetPass}
use Rattle.dw_rewrite.specs.NewPlaces.{places_known}
use Rattle.dw_rewrite.proofs.change.set_fields.Given as goal

abbrev pub invariant-loop-at : goal.invariant-loop-at
invariant-loop-at l = SetPass l.source (places_known l.new_places l.into) l.fields l.fn.patches l.patches l.at-index
