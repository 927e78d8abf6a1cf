use Rattle.std.proofs.Common.{ap}
use Rattle.file_tree.specs.declared.node.TreeErr.TheVariants.{Failed}
use Rattle.journal_core.specs.Table.{CoreState}
use Rattle.journal_core.specs.Cores.{core_of}
use Rattle.work_journal.proofs.GoesLaws.{came_passed, came_well, came_next, came_after, came_settles}
use Rattle.work_journal.proofs.EndLaws.{settled_texts}
use Rattle.work_journal.proofs.closing.close_run.Goals as goal

pub returns-in_err-settle-clause-came : goal.returns-in_err-settle-clause-came
returns-in_err-settle-clause-came g c = came_passed Failed _ _ _ _ _ _ _ _ _ _ (c.in_err-settle.was) c.from_residual-in_err-settle.ensures.1
    (came_after _ _ _ _ _ _ _ _ _ _ (λ w h. h)
    (came_well _ _ _ _ _ _ _ _ (c.in_ok-put_texts.was) c.put_texts.ensures.came)
    (came_settles _ _ _ _ _ _ _ c.settle.ensures.core c.settle.ensures.done c.settle.ensures.failed c.settle.ensures.cause c.settle.ensures.tells))

pub close_texts-requires : goal.close_texts-requires
close_texts-requires g c = record { phase = settled_texts (core_of c.args.desk.now.core) (core_of c.put_texts.new.desk.core) (core_of c.settle.new.self.core) c.in_ok-put_texts.ensures.core c.settle.ensures.core }

pub returns-in_err-close_texts-clause-came : goal.returns-in_err-close_texts-clause-came
returns-in_err-close_texts-clause-came g c = came_passed Failed _ _ _ _ _ _ _ _ _ _ (c.in_err-close_texts.was) c.from_residual-in_err-close_texts.ensures.1
    (came_next _ _ _ _ _ _ _ _ _ _ (λ w h. tt)
    (came_well _ _ _ _ _ _ _ _ (c.in_ok-settle.was)
    (came_after _ _ _ _ _ _ _ _ _ _ (λ w h. h)
    (came_well _ _ _ _ _ _ _ _ (c.in_ok-put_texts.was) c.put_texts.ensures.came)
    (came_settles _ _ _ _ _ _ _ c.settle.ensures.core c.settle.ensures.done c.settle.ensures.failed c.settle.ensures.cause c.settle.ensures.tells)))
    c.close_texts.ensures.came)

pub returns-clause-closed : goal.returns-clause-closed
returns-clause-closed g c = ap (λ (x : CoreState). x.phase) c.in_ok-close_texts.ensures.core

pub returns-clause-came : goal.returns-clause-came
returns-clause-came g c = came_well _ _ _ _ _ _ _ _ (c.in_ok-close_texts.was)
    (came_next _ _ _ _ _ _ _ _ _ _ (λ w h. tt)
    (came_well _ _ _ _ _ _ _ _ (c.in_ok-settle.was)
    (came_after _ _ _ _ _ _ _ _ _ _ (λ w h. h)
    (came_well _ _ _ _ _ _ _ _ (c.in_ok-put_texts.was) c.put_texts.ensures.came)
    (came_settles _ _ _ _ _ _ _ c.settle.ensures.core c.settle.ensures.done c.settle.ensures.failed c.settle.ensures.cause c.settle.ensures.tells)))
    c.close_texts.ensures.came)
