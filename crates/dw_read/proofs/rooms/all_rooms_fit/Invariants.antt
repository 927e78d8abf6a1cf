use Rattle.dw_read.proofs.RoomFitLaws.{AllFitPassed}
use Rattle.dw_read.proofs.rooms.all_rooms_fit.Given as goal

abbrev pub invariant-loop-found : goal.invariant-loop-found
invariant-loop-found l = AllFitPassed l.maps l.view l.paths l.found-index
