use Rattle.file_tree.specs.declared.node.TreeErr.TheVariants.{Failed}
use Rattle.work_journal.proofs.GoesLaws.{came_passed, came_lists}
use Rattle.work_journal.proofs.JobErrLaws.{ok_by}
use Rattle.work_journal.proofs.FinishLaws.{came_listed}
use Rattle.work_journal.proofs.ClearLaws.{all_listed}
use Rattle.work_journal.proofs.clearing.list_work.Goals as goal

pub returns-in_err-paths-clause-came : goal.returns-in_err-paths-clause-came
returns-in_err-paths-clause-came g c = came_passed Failed _ _ _ _ _ _ _ _ _ _ (c.in_err-paths.was) c.from_residual.ensures.1
    (came_lists _ _ _ _ _ _ _ _ c.list.ensures.core c.list.ensures.done c.list.ensures.failed c.list.ensures.cause c.list.ensures.tells)

pub returns-clause-came : goal.returns-clause-came
returns-clause-came g c = came_listed _ _ _ _ _ _ _ _ (ok_by _ _ (c.in_ok-paths.was))
    (came_lists _ _ _ _ _ _ _ _ c.list.ensures.core c.list.ensures.done c.list.ensures.failed c.list.ensures.cause c.list.ensures.tells)

pub returns-clause-all : goal.returns-clause-all
returns-clause-all g c = all_listed c.args.work.now _ _ _ (g.T.Tree.seen c.args.desk.now.tree.now) _ c.in-Paths.is c.in_ok-paths.ensures.told c.list.ensures.now c.list.ensures.tells
