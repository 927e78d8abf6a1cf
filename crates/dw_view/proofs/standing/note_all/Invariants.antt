-- So many sections from the last on are noted.
use Rattle.std.proofs.Common.{◌-◌}
use Rattle.dw_view.specs.Standing.{AreLeft, heads_of}
use Rattle.dw_view.proofs.standing.note_all.Given as goal

abbrev pub invariant-loop-passed : goal.invariant-loop-passed
invariant-loop-passed l = AreLeft l.stripped.bytes.now l.names (l.count - l.passed) (heads_of l.heads.heads) l.next.items
