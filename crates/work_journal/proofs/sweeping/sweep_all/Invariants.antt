use Rattle.std.proofs.Common.{◌≡◌, map, take}
use Rattle.std.specs.String.{string_bytes}
use Rattle.file_tree.specs.Trees.{is_below}
use Rattle.std.specs.Prelude.{⊤}
use Rattle.file_tree.specs.declared.node.TreeErr.TheVariants.{Failed}
use Rattle.journal_core.specs.Cores.{core_of}
use Rattle.work_journal.specs.Clearing.{AreGone}
use Rattle.work_journal.specs.Spares.{InWork}
use Rattle.work_journal.specs.Runs.{Came}
use Rattle.work_journal.proofs.GoesLaws.{well}
use Rattle.work_journal.proofs.sweeping.sweep_all.Given as goal

abbrev pub invariant-loop-i : goal.invariant-loop-i
invariant-loop-i g l = record {
  same_tree : l.desk.tree.ghost_name ≡ l.fn.desk.tree.ghost_name;
  core : core_of l.desk.core ≡ core_of l.fn.desk.core;
  gone : AreGone (is_below l.work) (take l.i (map string_bytes l.present)) (g.T.Tree.seen l.fn.desk.tree.now) (g.T.Tree.seen l.desk.tree.now);
  came : Came Failed (InWork l.work) 0 l.work (λ w. ⊤) (core_of l.fn.desk.core) (g.T.Tree.seen l.fn.desk.tree.now) (core_of l.desk.core) (g.T.Tree.seen l.desk.tree.now) well;
}
