-- Of the sections so far it is known for which they stand, and these are no longer left.
use Rattle.std.proofs.Common.{◌≡◌}
use Rattle.dw_base.specs.Lists.{tabulate}
use Rattle.dw_view.specs.Standing.{AreTaken, NextAre, heads_of, stand_by}
use Rattle.dw_view.proofs.standing.numbered_stands.Given as goal

abbrev pub invariant-loop-section : goal.invariant-loop-section
invariant-loop-section l = record {
  stands : l.stands.items ≡ tabulate (stand_by l.debug.bytes.now l.stripped.bytes.now l.names l.others) l.section;
  next : NextAre l.stripped.bytes.now l.names l.next.items;
  taken : AreTaken l.debug.bytes.now l.stripped.bytes.now l.names l.others l.section (heads_of l.heads.heads);
}
