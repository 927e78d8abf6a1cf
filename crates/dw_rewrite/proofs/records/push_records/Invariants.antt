use Rattle.dw_rewrite.proofs.RecordPushLaws.{RecordPass}
use Rattle.dw_base.specs.declared.debug_sections.DebugSection.TheVariants.{Str, LineStr, Line}
use Rattle.dw_rewrite.specs.NewPlaces.{places_known}
use Rattle.dw_rewrite.proofs.records.push_records.Given as goal

abbrev pub invariant-loop-found : goal.invariant-loop-found
invariant-loop-found l =
    RecordPass l.sources l.view (places_known l.new_places Str) (places_known l.new_places LineStr) (places_known l.new_places Line) l.paths l.fn.bodies.items l.bodies.items l.found-index
