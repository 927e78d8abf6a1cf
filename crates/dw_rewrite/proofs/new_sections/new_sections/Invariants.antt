use Rattle.std.proofs.Common.{◌≡◌, ◌++◌, drop}
use Rattle.dw_rewrite.specs.NewTables.{bodies_known}
use Rattle.dw_base.specs.declared.debug_sections.DebugSection.TheVariants.{Str, LineStr, Line}
use Rattle.dw_rewrite.specs.NewPlaces.{places_known}
use Rattle.dw_rewrite.proofs.new_sections.new_sections.Given as goal

abbrev pub invariant-loop-found : goal.invariant-loop-found
invariant-loop-found l =
    l.bodies.items ++ bodies_known l.maps l.view (places_known l.new_places Str) (places_known l.new_places LineStr) (places_known l.new_places Line) (drop l.found-index l.paths)
    ≡ l.fn.bodies.items ++ bodies_known l.maps l.view (places_known l.new_places Str) (places_known l.new_places LineStr) (places_known l.new_places Line) l.paths
