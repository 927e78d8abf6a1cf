use Rattle.std.proofs.Common.{◌∙◌, ap, sym, ℕ, List}
use Rattle.journal_core.specs.declared.event.Event.TheVariants.{Replace}
use Rattle.journal_core.specs.Names.{fresh, final}
use Rattle.journal_core.specs.Calls.{moves_again}
use Rattle.work_journal.specs.Work.{work_path}
use Rattle.work_journal.proofs.GoesLaws.{came_no_memory, came_moves, came_inside}
use Rattle.work_journal.proofs.renewing.replace.Goals as goal

pub returns-in_err-from-clause-came : goal.returns-in_err-from-clause-came
returns-in_err-from-clause-came g c = came_no_memory _ _ _ _ _ c.from_residual.ensures.1

pub returns-in_err-to-clause-came : goal.returns-in_err-to-clause-came
returns-in_err-to-clause-came g c = came_no_memory _ _ _ _ _ c.from_residual-in_err-to.ensures.1

pub returns-clause-came : goal.returns-clause-came
returns-clause-came g c = came_inside (final 3) (c.as_str-2.ensures.value ∙ c.in_ok-to.ensures.path) (came_moves _ _ _ _ _ _ _ Replace (fresh 3) (final 3) _ _ moves_again c.requires.allowed
    (c.as_str.ensures.value ∙ c.in_ok-from.ensures.path) (λ w given h. ap (λ (x : List ℕ). work_path x (final 3)) given.work_is ∙ sym (c.as_str-2.ensures.value ∙ c.in_ok-to.ensures.path))
    c.rename.ensures.core c.rename.ensures.done c.rename.ensures.failed c.rename.ensures.cause c.rename.ensures.tells)
