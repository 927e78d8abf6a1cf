use Rattle.std.proofs.Common.{◌≡◌, length}
use Rattle.file_tree.specs.declared.node.TreeErr.TheVariants.{Failed}
use Rattle.journal_core.specs.Table.{with_state}
use Rattle.journal_core.specs.Cores.{core_of}
use Rattle.work_journal.specs.Jobs.{staged_at, AreNodes}
use Rattle.work_journal.specs.Spares.{InWork}
use Rattle.work_journal.specs.Runs.{Came}
use Rattle.work_journal.proofs.GoesLaws.{well}
use Rattle.work_journal.proofs.jobs.stage_job.Given as goal

abbrev pub invariant-loop-step : goal.invariant-loop-step
invariant-loop-step g l = record {
  same_tree : l.desk.tree.ghost_name ≡ l.fn.desk.tree.ghost_name;
  core : core_of l.desk.core ≡ with_state (core_of l.fn.desk.core) l.job (staged_at l.step (length l.nodes.items));
  came : Came Failed (InWork l.work) 0 l.work (λ w. AreNodes w l.job l.nodes.items) (core_of l.fn.desk.core) (g.T.Tree.seen l.fn.desk.tree.now) (core_of l.desk.core) (g.T.Tree.seen l.desk.tree.now) well;
}
