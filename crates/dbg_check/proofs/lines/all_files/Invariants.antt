-- Those so far agree.
use Rattle.dbg_check.proofs.ListLaws.{SoFar}
use Rattle.dbg_check.specs.Tables.{FileAgrees, file_said}
use Rattle.dbg_check.proofs.lines.all_files.Given as goal

abbrev pub invariant-loop-number : goal.invariant-loop-number
invariant-loop-number l = SoFar (FileAgrees l.maps) (file_said l.old) (file_said l.new) l.files l.others l.number
