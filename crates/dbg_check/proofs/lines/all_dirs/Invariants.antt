-- Those so far agree.
use Rattle.dw_macros.specs.EventMeanings.{text_bytes}
use Rattle.dbg_check.proofs.ListLaws.{SoFar}
use Rattle.dbg_check.specs.Tables.{PathAgrees}
use Rattle.dbg_check.proofs.lines.all_dirs.Given as goal

abbrev pub invariant-loop-number : goal.invariant-loop-number
invariant-loop-number l = SoFar (PathAgrees l.maps) (text_bytes l.old) (text_bytes l.new) l.dirs l.others l.number
