use Rattle.dw_relocs.specs.FieldWalks.{ground_of}
use Rattle.dw_relocs.proofs.LinePassLaws.{PlacesSo}
use Rattle.dw_relocs.proofs.lines.pass_places.Given as goal

abbrev pub invariant-loop-place : goal.invariant-loop-place
invariant-loop-place l = PlacesSo (ground_of l.view l.section) l.start l.fn.width l.places l.behind l.place-index l.fn.pass l.now
