use Rattle.std.proofs.Common.{◌≡◌}
use Rattle.file_tree.specs.declared.node.TreeErr.TheVariants.{Failed}
use Rattle.journal_core.specs.Cores.{core_of}
use Rattle.work_journal.specs.Ending.{AreTexts, IsPutting}
use Rattle.work_journal.specs.Spares.{InWork}
use Rattle.work_journal.specs.Runs.{Came}
use Rattle.work_journal.proofs.GoesLaws.{well}
use Rattle.work_journal.proofs.closing.put_texts.Given as goal

abbrev pub invariant-loop-part : goal.invariant-loop-part
invariant-loop-part g l = record {
  same_tree : l.desk.tree.ghost_name ≡ l.fn.desk.tree.ghost_name;
  so_far : IsPutting (core_of l.fn.desk.core) (core_of l.desk.core) l.part;
  came : Came Failed (InWork l.work) 0 l.work (λ w. AreTexts w l.texts) (core_of l.fn.desk.core) (g.T.Tree.seen l.fn.desk.tree.now) (core_of l.desk.core) (g.T.Tree.seen l.desk.tree.now) well;
}
