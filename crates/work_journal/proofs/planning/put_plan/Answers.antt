use Rattle.file_tree.specs.declared.node.TreeErr.TheVariants.{Failed}
use Rattle.work_journal.proofs.GoesLaws.{came_passed, came_well, came_next, came_after, came_least, came_only, came_settles}
use Rattle.work_journal.proofs.ClearLaws.{plan_alone}
use Rattle.std.proofs.Common.{refl}
use Rattle.work_journal.proofs.planning.put_plan.Goals as goal

pub returns-in_err-propose-clause-came : goal.returns-in_err-propose-clause-came
returns-in_err-propose-clause-came g c = came_least (came_passed Failed _ _ _ _ _ _ _ _ _ _ (c.in_err-propose.was) c.from_residual-in_err-propose.ensures.1
    (came_next _ _ _ _ _ _ _ _ _ _ (λ w h. h) (came_well _ _ _ _ _ _ _ _ (c.in_ok-sweep_all.was) (came_only _ _ _ _ _ _ _ _ (λ w h. tt) c.sweep_all.ensures.came)) c.propose.ensures.came))

pub returns-in_err-settle-clause-came : goal.returns-in_err-settle-clause-came
returns-in_err-settle-clause-came g c = came_passed Failed _ _ _ _ _ _ _ _ _ _ (c.in_err-settle.was) c.from_residual-in_err-settle.ensures.1
    (came_after _ _ _ _ _ _ _ _ _ _ (λ w h. h)
    (came_well _ _ _ _ _ _ _ _ (c.in_ok-propose.was)
    (came_next _ _ _ _ _ _ _ _ _ _ (λ w h. h) (came_well _ _ _ _ _ _ _ _ (c.in_ok-sweep_all.was) (came_only _ _ _ _ _ _ _ _ (λ w h. tt) c.sweep_all.ensures.came)) c.propose.ensures.came))
    (came_settles _ _ _ _ _ _ _ c.settle.ensures.core c.settle.ensures.done c.settle.ensures.failed c.settle.ensures.cause c.settle.ensures.tells))

pub returns-in_err-adopt-clause-came : goal.returns-in_err-adopt-clause-came
returns-in_err-adopt-clause-came g c = came_passed Failed _ _ _ _ _ _ _ _ _ _ (c.in_err-adopt.was) c.from_residual-in_err-adopt.ensures.1
    (came_next _ _ _ _ _ _ _ _ _ _ (λ w h. tt)
    (came_well _ _ _ _ _ _ _ _ (c.in_ok-settle.was)
    (came_after _ _ _ _ _ _ _ _ _ _ (λ w h. h)
    (came_well _ _ _ _ _ _ _ _ (c.in_ok-propose.was)
    (came_next _ _ _ _ _ _ _ _ _ _ (λ w h. h) (came_well _ _ _ _ _ _ _ _ (c.in_ok-sweep_all.was) (came_only _ _ _ _ _ _ _ _ (λ w h. tt) c.sweep_all.ensures.came)) c.propose.ensures.came))
    (came_settles _ _ _ _ _ _ _ c.settle.ensures.core c.settle.ensures.done c.settle.ensures.failed c.settle.ensures.cause c.settle.ensures.tells)))
    c.adopt.ensures.came)

pub returns-clause-came : goal.returns-clause-came
returns-clause-came g c = came_well _ _ _ _ _ _ _ _ (c.in_ok-adopt.was)
    (came_next _ _ _ _ _ _ _ _ _ _ (λ w h. tt)
    (came_well _ _ _ _ _ _ _ _ (c.in_ok-settle.was)
    (came_after _ _ _ _ _ _ _ _ _ _ (λ w h. h)
    (came_well _ _ _ _ _ _ _ _ (c.in_ok-propose.was)
    (came_next _ _ _ _ _ _ _ _ _ _ (λ w h. h) (came_well _ _ _ _ _ _ _ _ (c.in_ok-sweep_all.was) (came_only _ _ _ _ _ _ _ _ (λ w h. tt) c.sweep_all.ensures.came)) c.propose.ensures.came))
    (came_settles _ _ _ _ _ _ _ c.settle.ensures.core c.settle.ensures.done c.settle.ensures.failed c.settle.ensures.cause c.settle.ensures.tells)))
    c.adopt.ensures.came)

pub returns-clause-alone : goal.returns-clause-alone
returns-clause-alone g c = λ all. plan_alone _ _ _ _ _ _ (g.T.Tree.seen c.propose.new.desk.tree.now) (g.T.Tree.seen c.settle.new.self.tree.now) _ refl c.in_ok-sweep_all.ensures.gone c.sweep_all.ensures.came.tells c.propose.ensures.came.tells c.settle.ensures.tells c.adopt.ensures.came.tells
    c.in_ok-propose.ensures.puts c.settle.ensures.now c.in_ok-adopt.ensures.moves all
