use Rattle.dw_read.proofs.RoomFitLaws.{FitPassed}
use Rattle.dw_read.proofs.rooms.fit_rooms.Given as goal

abbrev pub invariant-loop-path : goal.invariant-loop-path
invariant-loop-path l = FitPassed l.maps l.info l.paths l.path-index
