use Rattle.std.proofs.Common.{◌≡◌, ◌≢◌, rules}
use Rattle.journal_core.specs.Cores.{core_of}
use Rattle.journal_core.specs.declared.event.Phase.TheVariants.{Empty}
use Rattle.work_texts.specs.declared.journal_err.JournalErr.TheVariants as run
use Rattle.work_journal.specs.Finishing.{has_begun}
use Rattle.work_journal.proofs.GoesLaws.{came_still}
use Rattle.work_journal.proofs.FinishLaws.{mild_blames, on_ok_kept, kept_begun, start_new}
use Rattle.work_journal.proofs.finishing.plan_first.Goals as goal

pub returns-then-not-is_new-clause-came : goal.returns-then-not-is_new-clause-came
returns-then-not-is_new-clause-came g c = came_still run.Tree _ _ _ _ _ (λ h. cc)

pub returns-clause-planned : goal.returns-clause-planned
returns-clause-planned g c =
    let phase : (core_of c.args.desk.now.core).phase ≡ Empty = search rules in
    on_ok_kept _ _ _ (λ k. has_begun (kept_begun _ _ _ (start_new _ _ c.requires.start phase) k)) c.put_node.ensures.core

pub returns-clause-blame : goal.returns-clause-blame
returns-clause-blame g c = mild_blames _ _ _ _ c.put_node.ensures.mild

pub returns-then-not-is_new-clause-alone : goal.returns-then-not-is_new-clause-alone
returns-then-not-is_new-clause-alone g c =
    let other : (core_of c.args.desk.now.core).phase ≢ Empty = search rules in
    λ phase. absurd (other phase)

pub returns-clause-alone : goal.returns-clause-alone
returns-clause-alone g c = λ phase. c.put_node.ensures.alone
