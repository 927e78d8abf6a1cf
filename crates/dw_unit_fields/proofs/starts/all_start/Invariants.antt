use Rattle.dw_unit_fields.proofs.StartLaws.{AllPassed}
use Rattle.dw_unit_fields.proofs.starts.all_start.Given as goal

abbrev pub invariant-loop-found : goal.invariant-loop-found
invariant-loop-found l = AllPassed l.view l.starts l.places l.paths l.found-index
