use Rattle.dw_lines.specs.NewTexts.{known_by}
use Rattle.dw_rewrite.proofs.GrowthLaws.{TablePass}
use Rattle.dw_rewrite.proofs.tables.note_sections.Given as goal

abbrev pub invariant-loop-found : goal.invariant-loop-found
invariant-loop-found l =
    TablePass l.maps l.view l.texts l.sections l.fn.pool.texts (known_by l.fn.known) l.pool (known_by l.known) l.found-index
