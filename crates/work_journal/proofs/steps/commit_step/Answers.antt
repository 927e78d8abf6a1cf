use Rattle.std.proofs.Common.{ℕ, List, sym, ap, ◌∙◌}
use Rattle.file_tree.specs.declared.node.Node.TheVariants as node
use Rattle.journal_core.specs.declared.event.Event.TheVariants.{Commit}
use Rattle.journal_core.specs.Names.{commit}
use Rattle.journal_core.specs.Calls.{puts_mark}
use Rattle.work_journal.proofs.GoesLaws.{came_no_memory, came_puts}
use Rattle.work_journal.proofs.steps.commit_step.Goals as goal

pub returns-in_err-path-clause-came : goal.returns-in_err-path-clause-came
returns-in_err-path-clause-came g c = came_no_memory _ _ _ _ _ c.from_residual.ensures.1

pub returns-clause-came : goal.returns-clause-came
returns-clause-came g c = came_puts _ _ _ _ _ _ _ (Commit c.args.job) (commit c.args.job) _ _ puts_mark c.requires.allowed tt
    (c.as_str.ensures.value ∙ c.in_ok-path.ensures.path) (λ w is. is ∙ ap (λ (b : List ℕ). node.File b 420) (sym (c.new-bytes.ensures.value ∙ c.new.ensures.items))) c.put.ensures.core c.put.ensures.done c.put.ensures.failed c.put.ensures.cause c.put.ensures.tells
