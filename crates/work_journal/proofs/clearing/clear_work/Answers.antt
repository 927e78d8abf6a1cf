use Rattle.std.proofs.Common.{◌∙◌, ap}
use Rattle.file_tree.specs.declared.node.TreeErr.TheVariants.{Failed}
use Rattle.journal_core.specs.Table.{CoreState}
use Rattle.work_journal.proofs.GoesLaws.{came_passed, came_well, came_next, came_after, came_least, came_settles}
use Rattle.work_journal.proofs.FinishLaws.{settled_closed}
use Rattle.work_journal.proofs.ClearLaws.{cleared}
use Rattle.work_journal.proofs.clearing.clear_work.Goals as goal

pub returns-in_err-paths-clause-came : goal.returns-in_err-paths-clause-came
returns-in_err-paths-clause-came g c = came_least (came_passed Failed _ _ _ _ _ _ _ _ _ _ (c.in_err-paths.was) c.from_residual.ensures.1 c.list_work.ensures.came)

pub sweep_ends-requires : goal.sweep_ends-requires
sweep_ends-requires g c = record { phase = ap (λ (x : CoreState). x.phase) c.list_work.ensures.core ∙ c.requires.phase }

pub returns-in_err-sweep_ends-clause-came : goal.returns-in_err-sweep_ends-clause-came
returns-in_err-sweep_ends-clause-came g c = came_least (came_passed Failed _ _ _ _ _ _ _ _ _ _ (c.in_err-sweep_ends.was) c.from_residual-in_err-sweep_ends.ensures.1
    (came_next _ _ _ _ _ _ _ _ _ _ (λ w h. h) (came_well _ _ _ _ _ _ _ _ (c.in_ok-paths.was) c.list_work.ensures.came) c.sweep_ends.ensures.came))

pub returns-in_err-settle-clause-came : goal.returns-in_err-settle-clause-came
returns-in_err-settle-clause-came g c = came_passed Failed _ _ _ _ _ _ _ _ _ _ (c.in_err-settle.was) c.from_residual-in_err-settle.ensures.1
    (came_after _ _ _ _ _ _ _ _ _ _ (λ w h. h) (came_well _ _ _ _ _ _ _ _ (c.in_ok-sweep_ends.was) (came_next _ _ _ _ _ _ _ _ _ _ (λ w h. h) (came_well _ _ _ _ _ _ _ _ (c.in_ok-paths.was) c.list_work.ensures.came) c.sweep_ends.ensures.came)) (came_settles _ _ _ _ _ _ _ c.settle.ensures.core c.settle.ensures.done c.settle.ensures.failed c.settle.ensures.cause c.settle.ensures.tells))

pub returns-clause-closed : goal.returns-clause-closed
returns-clause-closed g c = settled_closed _ _ _ c.requires.phase (c.sweep_ends.ensures.core ∙ c.list_work.ensures.core) c.settle.ensures.core

pub returns-clause-came : goal.returns-clause-came
returns-clause-came g c = came_well _ _ _ _ _ _ _ _ (c.in_ok-settle.was)
    (came_after _ _ _ _ _ _ _ _ _ _ (λ w h. h) (came_well _ _ _ _ _ _ _ _ (c.in_ok-sweep_ends.was) (came_next _ _ _ _ _ _ _ _ _ _ (λ w h. h) (came_well _ _ _ _ _ _ _ _ (c.in_ok-paths.was) c.list_work.ensures.came) c.sweep_ends.ensures.came)) (came_settles _ _ _ _ _ _ _ c.settle.ensures.core c.settle.ensures.done c.settle.ensures.failed c.settle.ensures.cause c.settle.ensures.tells))

pub returns-clause-cleared : goal.returns-clause-cleared
returns-clause-cleared g c = cleared c.args.work.now _ _ _ _ _ c.as_slice.ensures.value c.in_ok-paths.ensures.all c.in_ok-sweep_ends.ensures.gone
    c.sweep_ends.ensures.came.tells c.settle.ensures.tells c.settle.ensures.now c.in_ok-settle.ensures.done
