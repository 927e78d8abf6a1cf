use Rattle.work_journal.proofs.StepLaws.{call_kept, step_kept, failure_partway}
use Rattle.work_journal.proofs.RestartLaws.{end_whole, start_keeps}
use Rattle.work_journal.proofs.PresentLaws.{present_keeps, opened_shown}
use Rattle.work_journal.proofs.ApartLaws.{target_apart}
use Rattle.work_journal.proofs.RunLaws.{run_one}
use Rattle.work_journal.proofs.LookLaws.{look_leaves, look_runs}
use Rattle.file_tree.proofs.MomentLaws.{spans_join}
use Rattle.work_journal.specs.Wanted.{IsPartway}
use Rattle.std.proofs.Common.{refl}
use Rattle.work_journal.proofs.law.bridge_laws.Goals as goal

pub returns-clause-call : goal.returns-clause-call
returns-clause-call c = call_kept

pub returns-clause-step : goal.returns-clause-step
returns-clause-step c = step_kept

pub returns-clause-failure : goal.returns-clause-failure
returns-clause-failure c = failure_partway

pub returns-clause-whole : goal.returns-clause-whole
returns-clause-whole c = end_whole

pub returns-clause-start : goal.returns-clause-start
returns-clause-start c = start_keeps

pub returns-clause-present : goal.returns-clause-present
returns-clause-present c = present_keeps

pub returns-clause-opened : goal.returns-clause-opened
returns-clause-opened c = opened_shown

pub returns-clause-apart : goal.returns-clause-apart
returns-clause-apart c = target_apart

pub returns-clause-one : goal.returns-clause-one
returns-clause-one c = λ work d e f calls few run go. run_one work d e f calls calls refl few run go

pub returns-clause-looks : goal.returns-clause-looks
returns-clause-looks c = look_leaves

pub returns-clause-looks_run : goal.returns-clause-looks_run
returns-clause-looks_run c = look_runs

pub returns-clause-joins : goal.returns-clause-joins
returns-clause-joins c = λ w old mid new a b. spans_join (IsPartway w) old mid new a b
