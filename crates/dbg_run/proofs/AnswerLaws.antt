-- What the run over a root promises over any judge, of the judge of files.
use Rattle.std.proofs.Common.{◌≡◌, ℕ, true, List, subst, ◌⊎◌}
use Rattle.std.specs.Prelude.{Some, Result, Ok, Err, IfErr, IfOk, IsTrue}
use Rattle.dbg_job.specs.EditedFiles.{EditedFails}
use Rattle.dbg_job.specs.Outcomes.{OutcomeFails}
use Rattle.dbg_split.specs.SplitFails.{SplitFails}
use Rattle.file_tree.specs.Causes.{Rose}
use Rattle.file_tree.specs.Seen.{Seen, map_now, now_of}
use Rattle.file_tree.specs.Trees.{TreeMap}
use Rattle.job_types.specs.Settings.{Settings}
use Rattle.journal_core.specs.Table.{CoreState}
use Rattle.root_plan.specs.Roots.{work_folder}
use Rattle.file_judge.specs.FileJudges.{file_view}
use Rattle.root_run.specs.declared.run_err.RunErr.{RunErr}
use Rattle.root_run.specs.Cores.{LeadsTo, SettlesFew, ShowsCore}
use Rattle.root_run.specs.Dues.{IsResumed, IsUnopposed, RunCut, RunDue}
use Rattle.root_run.specs.Finals.{IsDone}
use Rattle.root_run.specs.RootRuns.{StaysPartway}
use Rattle.root_run.specs.RunEnds.{RunEnds, run_status}
use Rattle.root_run.specs.RunEnds.{status_of as answer_status}
use Rattle.root_run.specs.Underway.{IsUnderway, is_mild_end}
use Rattle.dbg_run.specs.Roots.{HasReport, IsUnderwayIn, OnlyBelow, PassesOver, RootRan}

-- its clauses, where the judge goes by settings of its own
pub record Answered (root : List ℕ) (o s : Settings) (jobs : ℕ) (old new : Seen) (result : Result (List ℕ) RunErr) : Type 0 where
  pub images : (start : TreeMap) → IsUnderway start root (work_folder root) o (file_view s) (OutcomeFails s) old
      → StaysPartway start root (work_folder root) o (file_view s) (OutcomeFails s) old new
  pub done : (start : TreeMap) → IsUnderway start root (work_folder root) o (file_view s) (OutcomeFails s) old
      → IfOk result (λ report. IsDone start root (work_folder root) o (file_view s) (OutcomeFails s) report new)
  pub steps : (start : TreeMap) → IsUnderway start root (work_folder root) o (file_view s) (OutcomeFails s) old → (c : CoreState)
      → ShowsCore start root (work_folder root) o (file_view s) (OutcomeFails s) (map_now old.past) c → LeadsTo (work_folder root) c old.past new.past result
  pub settles : (start : TreeMap) → IsUnderway start root (work_folder root) o (file_view s) (OutcomeFails s) old
      → SettlesFew start root o (file_view s) (OutcomeFails s) jobs old.past new.past
  pub mild : (start : TreeMap) → IsUnderway start root (work_folder root) o (file_view s) (OutcomeFails s) old → IfErr result (λ e. IsTrue (is_mild_end e))
  pub refused : (t : TreeMap) → now_of old ≡ Some t → IfErr result (λ e. run_status e ≡ 3 → o.skip ≡ true → IsResumed root (work_folder root) o t)
  pub ends : IfErr result (RunEnds root (work_folder root) o (file_view s) (OutcomeFails s) (EditedFails s) SplitFails old new)
  pub fault : IfErr result (λ e. run_status e ≡ 6 → Rose old.faults new.faults)
  pub due : (t : TreeMap) → now_of old ≡ Some t → RunDue root (work_folder root) o (file_view s) (OutcomeFails s) t (answer_status result)
      ⊎ RunCut root (work_folder root) o (file_view s) (OutcomeFails s) t (answer_status result)
  pub exact : (t : TreeMap) (n : ℕ) → now_of old ≡ Some t → RunDue root (work_folder root) o (file_view s) (OutcomeFails s) t n
      → (answer_status result ≡ n) ⊎ RunCut root (work_folder root) o (file_view s) (OutcomeFails s) t (answer_status result)
  pub completes : (start : TreeMap) → IsUnderway start root (work_folder root) o (file_view s) (OutcomeFails s) old
      → IsUnopposed start root o (file_view s) (OutcomeFails s) → (Rose old.faults new.faults → ⊥) → IfErr result (λ e. run_status e ≡ 13)
  pub below : OnlyBelow root (now_of old) (now_of new)
  pub tells : new.tells ≡ old.tells

report-by : (root : List ℕ) (o : Settings) (old new : Seen) (result : Result (List ℕ) RunErr)
    → ((start : TreeMap) → IsUnderwayIn start root o old → IfOk result (λ report. IsDone start root (work_folder root) o (file_view o) (OutcomeFails o) report new))
    → IfOk result (HasReport root o old new)
report-by root o old new (Ok report) done = record { is = done }
report-by root o old new (Err e) done = tt

passed-by : (root : List ℕ) (o : Settings) (old : Seen) (result : Result (List ℕ) RunErr)
    → ((t : TreeMap) → now_of old ≡ Some t → IfErr result (λ e. run_status e ≡ 3 → o.skip ≡ true → IsResumed root (work_folder root) o t))
    → IfErr result (λ e. PassesOver root o old (run_status e))
passed-by root o old (Ok report) refused = tt
passed-by root o old (Err e) refused = λ three skips t tells. refused t tells three skips

-- where they are the run's, this is what the command is told
pub answered_ran : (root : List ℕ) (o s : Settings) (jobs : ℕ) (old new : Seen) (result : Result (List ℕ) RunErr) → s ≡ o → Answered root o s jobs old new result
    → RootRan root o jobs old new result
answered_ran root o s jobs old new result same answered =
    let a : Answered root o o jobs old new result = subst (λ (x : Settings). Answered root o x jobs old new result) same answered in
    record {
      images = a.images;
      ended = report-by root o old new result a.done;
      steps = a.steps;
      settles = a.settles;
      mild = a.mild;
      passed = passed-by root o old result a.refused;
      ends = a.ends;
      fault = a.fault;
      due = a.due;
      comes = a.exact;
      completes = λ u. a.completes u.start u.underway u.unopposed;
      below = a.below;
      tells = a.tells;
    }
