use Rattle.std.proofs.Common.{ap}
use Rattle.file_tree.specs.declared.node.TreeErr.TheVariants.{Failed}
use Rattle.journal_core.specs.Table.{CoreState}
use Rattle.journal_core.specs.Cores.{core_of}
use Rattle.work_journal.proofs.GoesLaws.{came_passed, came_well, came_next, came_after, came_least, came_settles}
use Rattle.work_journal.proofs.EndLaws.{renew_allowed, replace_allowed}
use Rattle.work_journal.proofs.renewing.put_over.Goals as goal

pub put_again-requires : goal.put_again-requires
put_again-requires g c = record { allowed = renew_allowed (core_of c.args.desk.now.core) c.requires.phase }

pub returns-in_err-put_again-clause-came : goal.returns-in_err-put_again-clause-came
returns-in_err-put_again-clause-came g c = came_least (came_passed Failed _ _ _ _ _ _ _ _ _ _ (c.in_err-put_again.was) c.from_residual.ensures.1 c.put_again.ensures.came)

pub returns-in_err-settle-clause-came : goal.returns-in_err-settle-clause-came
returns-in_err-settle-clause-came g c = came_passed Failed _ _ _ _ _ _ _ _ _ _ (c.in_err-settle.was) c.from_residual-in_err-settle.ensures.1
    (came_after _ _ _ _ _ _ _ _ _ _ (λ w h. h)
    (came_well _ _ _ _ _ _ _ _ (c.in_ok-put_again.was) c.put_again.ensures.came)
    (came_settles _ _ _ _ _ _ _ c.settle.ensures.core c.settle.ensures.done c.settle.ensures.failed c.settle.ensures.cause c.settle.ensures.tells))

pub replace-requires : goal.replace-requires
replace-requires g c = record {
  allowed = replace_allowed (core_of c.args.desk.now.core) (core_of c.put_again.new.desk.core) (core_of c.settle.new.self.core) c.in_ok-put_again.ensures.core c.settle.ensures.core;
}

pub returns-in_err-replace-clause-came : goal.returns-in_err-replace-clause-came
returns-in_err-replace-clause-came g c = came_passed Failed _ _ _ _ _ _ _ _ _ _ (c.in_err-replace.was) c.from_residual-in_err-replace.ensures.1
    (came_next _ _ _ _ _ _ _ _ _ _ (λ w h. tt)
    (came_well _ _ _ _ _ _ _ _ (c.in_ok-settle.was)
    (came_after _ _ _ _ _ _ _ _ _ _ (λ w h. h)
    (came_well _ _ _ _ _ _ _ _ (c.in_ok-put_again.was) c.put_again.ensures.came)
    (came_settles _ _ _ _ _ _ _ c.settle.ensures.core c.settle.ensures.done c.settle.ensures.failed c.settle.ensures.cause c.settle.ensures.tells)))
    c.replace.ensures.came)

pub returns-clause-closed : goal.returns-clause-closed
returns-clause-closed g c = ap (λ (x : CoreState). x.phase) c.in_ok-replace.ensures.core

pub returns-clause-came : goal.returns-clause-came
returns-clause-came g c = came_well _ _ _ _ _ _ _ _ (c.in_ok-replace.was)
    (came_next _ _ _ _ _ _ _ _ _ _ (λ w h. tt)
    (came_well _ _ _ _ _ _ _ _ (c.in_ok-settle.was)
    (came_after _ _ _ _ _ _ _ _ _ _ (λ w h. h)
    (came_well _ _ _ _ _ _ _ _ (c.in_ok-put_again.was) c.put_again.ensures.came)
    (came_settles _ _ _ _ _ _ _ c.settle.ensures.core c.settle.ensures.done c.settle.ensures.failed c.settle.ensures.cause c.settle.ensures.tells)))
    c.replace.ensures.came)
