use Rattle.std.proofs.Common.{◌≡◌, ◌<◌}
use Rattle.file_tree.specs.declared.node.TreeErr.TheVariants.{Failed}
use Rattle.journal_core.specs.Cores.{core_of}
use Rattle.work_journal.specs.Groups.{IsFlush, IsMade}
use Rattle.work_journal.specs.Spares.{IsHit}
use Rattle.work_journal.specs.Rounds.{AreLater}
use Rattle.work_journal.specs.Runs.{Came}
use Rattle.work_journal.proofs.GoesLaws.{well}
use Rattle.work_journal.proofs.groups.flush_group.Given as goal

abbrev pub invariant-loop-job : goal.invariant-loop-job
invariant-loop-job g l = record {
  same_tree : l.desk.tree.ghost_name ≡ l.fn.desk.tree.ghost_name;
  flush : IsFlush (g.M.Maker.view l.maker) (core_of l.desk.core) l.job l.last;
  later : AreLater (core_of l.fn.desk.core) (core_of l.desk.core) l.last;
  came : Came Failed (IsHit l.work (g.M.Maker.view l.maker) (λ j. j < l.last)) 1 l.work (λ w. IsMade w (g.M.Maker.view l.maker)) (core_of l.fn.desk.core) (g.T.Tree.seen l.fn.desk.tree.now) (core_of l.desk.core) (g.T.Tree.seen l.desk.tree.now) well;
}
