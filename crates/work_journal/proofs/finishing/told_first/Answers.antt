use Rattle.std.proofs.Common.{◌≡◌, false, arith, rules, sym, ◌∙◌}
use Rattle.journal_core.specs.Cores.{core_of}
use Rattle.journal_core.specs.declared.event.Phase.TheVariants.{Empty, Renewing}
use Rattle.work_texts.specs.declared.journal_err.JournalErr.TheVariants as run
use Rattle.work_journal.specs.Finishing.{has_ended}
use Rattle.work_journal.proofs.GoesLaws.{came_given}
use Rattle.work_journal.proofs.FinishLaws.{mild_blames, on_ok_kept}
use Rattle.work_journal.proofs.finishing.told_first.Goals as goal

pub returns-then-is_old-clause-planned : goal.returns-then-is_old-clause-planned
returns-then-is_old-clause-planned g c = on_ok_kept _ _ _ (λ e. has_ended e) c.put_node_over.ensures.closed

pub returns-then-is_old-clause-alone : goal.returns-then-is_old-clause-alone
returns-then-is_old-clause-alone g c =
    let old : (core_of c.args.desk.now.core).phase ≡ Renewing false false = search rules in
    λ phase. let d : Renewing false false ≡ Empty = sym old ∙ phase in absurd (cc)

pub returns-then-is_old-clause-blame : goal.returns-then-is_old-clause-blame
returns-then-is_old-clause-blame g c = mild_blames _ _ _ _ c.put_node_over.ensures.mild

pub returns-then-is_old-clause-came : goal.returns-then-is_old-clause-came
returns-then-is_old-clause-came g c = came_given run.Tree _ _ _ _ _ _ _ _ (λ w given tells told k. told.ends 3 c.index-texts-3.result (omega arith)) c.put_node_over.ensures.came

pub returns-clause-came : goal.returns-clause-came
returns-clause-came g c = came_given run.Tree _ _ _ _ _ _ _ _ (λ w given tells told k. told.puts) c.plan_first.ensures.came
