use Rattle.std.proofs.Common.{◌≡◌, get_or}
use Rattle.file_tree.specs.declared.node.TreeErr.TheVariants.{Failed}
use Rattle.journal_core.specs.Table.{with_state}
use Rattle.journal_core.specs.Cores.{core_of}
use Rattle.work_journal.specs.Jobs.{moved_at, AreTargets}
use Rattle.work_journal.specs.Spares.{IsHit}
use Rattle.work_journal.specs.Runs.{Came}
use Rattle.work_journal.proofs.GoesLaws.{well}
use Rattle.work_journal.proofs.jobs.move_job.Given as goal

abbrev pub invariant-loop-step : goal.invariant-loop-step
invariant-loop-step g l = record {
  same_tree : l.desk.tree.ghost_name ≡ l.fn.desk.tree.ghost_name;
  core : core_of l.desk.core ≡ with_state (core_of l.fn.desk.core) l.job (moved_at l.step (get_or (g.M.Maker.view l.maker).steps l.job 0));
  came : Came Failed (IsHit l.work (g.M.Maker.view l.maker) (λ j. j ≡ l.job)) 0 l.work (λ w. AreTargets w (g.M.Maker.view l.maker) l.job) (core_of l.fn.desk.core) (g.T.Tree.seen l.fn.desk.tree.now) (core_of l.desk.core) (g.T.Tree.seen l.desk.tree.now) well;
}
