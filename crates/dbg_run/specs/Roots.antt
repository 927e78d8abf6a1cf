-- The command `run` over a build root: how it ends, when it is done, what it keeps, whichever start it is, and what keeps it from being done.
-- This project's profile.
use Rattle.std.specs.Prelude.{◌≡◌, ◌≢◌, ◌⊎◌, ◌++◌, ◌<◌, ℕ, true, false, List, length, map, Option, Some, Result, IfErr, IfOk, IsTrue, is_some}
use Rattle.std.specs.Option.{ForSome}
use Rattle.std.specs.FinMap as fin
use Rattle.dw_base.specs.Paths.{PathMap}
use Rattle.dbg_job.specs.EditedFiles.{EditedFails}
use Rattle.dbg_job.specs.Outcomes.{OutcomeFails}
use Rattle.dbg_split.specs.SplitFails.{SplitFails}
use Rattle.file_tree.specs.declared.node.Node.{Node}
use Rattle.file_tree.specs.declared.node.Node.TheVariants as node
use Rattle.file_tree.specs.Causes.{Rose}
use Rattle.file_tree.specs.Heard.{Heard, Said, grown}
use Rattle.file_tree.specs.Seen.{Seen, Past, Happened, map_now, now_of}
use Rattle.file_tree.specs.Trees.{TreeMap, is_below}
use Rattle.job_types.specs.Modes.{not_executable}
use Rattle.job_types.specs.Settings.{Settings}
use Rattle.journal_core.specs.declared.event.Phase.TheVariants.{Closed}
use Rattle.journal_core.specs.Table.{CoreState}
use Rattle.work_texts.specs.declared.journal_err.JournalErr.{JournalErr}
use Rattle.work_texts.specs.declared.journal_err.JournalErr.TheVariants as journal
use Rattle.work_texts.specs.declared.plan.JobLine.{JobLine}
use Rattle.work_texts.specs.declared.plan.PlanData.{PlanData}
use Rattle.work_journal.specs.Runs.{Runs}
use Rattle.root_plan.specs.declared.plan_err.PlanErr.{PlanErr}
use Rattle.root_plan.specs.declared.plan_err.PlanErr.TheVariants as plan
use Rattle.root_plan.specs.Makers.{job_at}
use Rattle.root_plan.specs.Roots.{in_root, work_folder}
use Rattle.root_plan.specs.Targets.{debug_name, debug_path}
use Rattle.file_judge.specs.FileJudges.{file_view}
use Rattle.file_judge.specs.KeptNodes.{IsKeptPair}
use Rattle.root_run.specs.declared.run_err.RunErr.{RunErr}
use Rattle.root_run.specs.declared.run_err.RunErr.TheVariants as run
use Rattle.root_run.specs.Cores.{LeadsTo, SettlesFew, ShowsCore}
use Rattle.root_run.specs.Dues.{IsFresh, IsResumed, IsUnopposed, RunCut, RunDue}
use Rattle.root_run.specs.Finals.{IsDone}
use Rattle.root_run.specs.RootRuns.{StaysPartway}
use Rattle.root_run.specs.RunEnds.{RunEnds, run_status}
use Rattle.root_run.specs.RunEnds.{status_of as answer_status}
use Rattle.root_run.specs.Underway.{IsUnderway, is_mild_end}
use Rattle.root_run.specs.Wholes.{IsRootPlan}
use Rattle.dbg_ends.specs.declared.end.End.{End}
use Rattle.dbg_ends.specs.declared.end.End.TheVariants as end

-- ### How it ends

-- the end of a root that has no plan
abbrev pub plan_end : List ℕ → PlanErr → End
plan_end root plan.Absent = end.Absent root
plan_end root plan.Entries = end.Entries
plan_end root (plan.PathTooLong path) = end.LongPath path
plan_end root (plan.FileTooLarge path size) = end.Limit path size
plan_end root plan.PlanTooLarge = end.LongPlan
plan_end root (plan.Refused path refusal) = end.Refused path refusal
plan_end root (plan.Taken path) = end.Taken path
plan_end root plan.Tree = end.TreeFault
plan_end root plan.NoMemory = end.NoMemory

-- the end of a run that couldn't be taken up, or brought to its end
abbrev pub journal_end : JournalErr → End
journal_end (journal.Changed path planned digest) = end.Changed path
journal_end (journal.Refused path refusal) = end.Refused path refusal
journal_end journal.Tree = end.TreeFault
journal_end journal.NoMemory = end.NoMemory
journal_end (journal.PlanText file at) = end.PlanText file at
journal_end (journal.OtherRun field kept given) = end.OtherRun field

-- the end of a run over this root that gives no report
abbrev pub run_end : List ℕ → RunErr → End
run_end root (run.Plan e) = plan_end root e
run_end root (run.Journal e) = journal_end e

-- why it gives none
abbrev pub NoReport : List ℕ → Settings → Seen → Seen → RunErr → Type 0
NoReport root o old new failure =
    RunEnds root (work_folder root) o (file_view o) (OutcomeFails o) (EditedFails o) SplitFails old new failure

-- a run of these words over the root, which was clean before it, is underway in the tree: not begun, stopped at any moment, or over
abbrev pub IsUnderwayIn : TreeMap → List ℕ → Settings → Seen → Type 0
IsUnderwayIn start root o seen = IsUnderway start root (work_folder root) o (file_view o) (OutcomeFails o) seen

-- all that a stop may leave of the tree, at every moment between two, is partway through the run
abbrev pub StaysIn : TreeMap → List ℕ → Settings → Seen → Seen → Type 0
StaysIn start root o old new = StaysPartway start root (work_folder root) o (file_view o) (OutcomeFails o) old new

-- the core that the tree shows
abbrev pub ShowsRoot : TreeMap → List ℕ → Settings → TreeMap → CoreState → Type 0
ShowsRoot start root o t c = ShowsCore start root (work_folder root) o (file_view o) (OutcomeFails o) t c

-- the tree was asked to settle once for each group of so many jobs, and four times beside
abbrev pub SettlesIn : TreeMap → List ℕ → Settings → ℕ → Seen → Seen → Type 0
SettlesIn start root o jobs old new = SettlesFew start root o (file_view o) (OutcomeFails o) jobs old.past new.past

-- wherever it was underway, it has come to its end with this report: the tree is that of a run that knows of no stops, and no stop
-- leaves another one
pub record HasReport (root : List ℕ) (o : Settings) (old new : Seen) (report : List ℕ) : Type 0 where
  pub is : (start : TreeMap) → IsUnderwayIn start root o old
      → IsDone start root (work_folder root) o (file_view o) (OutcomeFails o) report new

-- it is done: it has come to its end, and its report, and nothing else, went to the output
pub record RootDone (root : List ℕ) (o : Settings) (old new : Seen) (heard said : Heard) : Type 0 where
  pub report : List ℕ
  pub ended : HasReport root o old new report
  pub told : said.bytes ≡ grown heard.bytes report

-- how the writing of a report ends: it went to the output, or the output failed, and a first part of it did
pub data ReportEnds (report : List ℕ) (heard said : Heard) : End → Type 0 where
  whole : said.bytes ≡ grown heard.bytes report → Said report heard said → ReportEnds report heard said end.Done
  failed : Said report heard said → Rose heard.faults said.faults → ReportEnds report heard said end.OutputFault

-- how a run ends
pub data RootEnds (root : List ℕ) (o : Settings) (old new : Seen) (heard said : Heard) : End → Type 0 where
  -- without a report: nothing goes to the output
  unreported : (failure : RunErr) → NoReport root o old new failure → said ≡ heard → RootEnds root o old new heard said (run_end root failure)
  -- with one, of which a first part went to the output, which failed
  cut : {report : List ℕ} → HasReport root o old new report → Said report heard said → Rose heard.faults said.faults
      → RootEnds root o old new heard said end.OutputFault
  done : RootDone root o old new heard said → RootEnds root o old new heard said end.Done

-- ### What stands behind it

-- statuses of a run that has come to its end: its report was written, or the output failed
pub data IsReported (n : ℕ) : Type 0 where
  done : n ≡ 0 → IsReported n
  failed : n ≡ 7 → IsReported n

-- what such a run leaves: the tree of a run that knows of no stops; and in the output the report that its work folder tells, whole where
-- it is done, and else a first part
pub record RootFinal (start : TreeMap) (root : List ℕ) (o : Settings) (n : ℕ) (new : Seen) (heard said : Heard) : Type 0 where
  pub report : List ℕ
  pub ended : IsDone start root (work_folder root) o (file_view o) (OutcomeFails o) report new
  pub told : Said report heard said
  pub whole : n ≡ 0 → said.bytes ≡ grown heard.bytes report

-- the calls of a start lead the core that its tree shows to one core alone, which is that of a run that is over where it has come to its end
pub record RootSteps (work : List ℕ) (c : CoreState) (old new : Past) (n : ℕ) : Type 0 where
  pub rest : List Happened
  pub last : CoreState
  pub first : new.first ≡ old.first
  pub log : new.log ≡ old.log ++ rest
  pub runs : Runs work c (map (λ h. h.call) rest) last
  pub only : (d : CoreState) → Runs work c (map (λ h. h.call) rest) d → d ≡ last
  pub closed : IsReported n → last.phase ≡ Closed

-- where it was underway, no text of the work folder is bad or of another run, no planned file has changed, and one is refused only where
-- there is no plan yet
pub record RootMild (root : List ℕ) (t : TreeMap) (n : ℕ) : Type 0 where
  pub own : n ≢ 9
  pub unchanged : n ≢ 10
  pub whole : n ≢ 11
  pub unplanned : n ≡ 3 → IsFresh root (work_folder root) t

-- where files that are refused are passed over, a file is refused only by a plan that is there
abbrev pub PassesOver : List ℕ → Settings → Seen → ℕ → Type 0
PassesOver root o old n = n ≡ 3 → o.skip ≡ true → ForSome (now_of old) (IsResumed root (work_folder root) o)

-- only paths below the root may hold other things than before
pub record OnlyBelow (root : List ℕ) (old new : Option TreeMap) : Type 0 where
  pub tells : is_some new ≡ is_some old
  pub others : (t u : TreeMap) (q : List ℕ) → old ≡ Some t → new ≡ Some u → is_below root q ≡ false → fin.get u q ≡ fin.get t q

-- ### What it keeps

-- what holds of a job's file as it stood before the run, and of what stands at the job's targets behind it: the edited file in its
-- place; or the stripped file there and the debug file at its own path. Each file in its place has the mode of the one before
pub data JobHolds (One : List ℕ → List ℕ → Type 0) (Two : List ℕ → List ℕ → List ℕ → List ℕ → Type 0) (start t : TreeMap)
    (root : List ℕ) (job : JobLine) : Type 0 where
  edited : {b file : List ℕ} {mode : ℕ} → job.split ≡ false → fin.get start (in_root root job.path) ≡ Some (node.File b mode)
      → fin.get t (in_root root job.path) ≡ Some (node.File file mode) → One b file → JobHolds One Two start t root job
  parted : {b stripped debug : List ℕ} {mode : ℕ} → job.split ≡ true → fin.get start (in_root root job.path) ≡ Some (node.File b mode)
      → fin.get t (in_root root job.path) ≡ Some (node.File stripped mode)
      → fin.get t (in_root root (debug_path job.path)) ≡ Some (node.File debug (not_executable mode))
      → Two b (debug_name job.path) stripped debug → JobHolds One Two start t root job

-- and so it is of each job of each plan of the root, wherever the run was underway in the tree before
pub record OfJobs (One : List ℕ → List ℕ → Type 0) (Two : List ℕ → List ℕ → List ℕ → List ℕ → Type 0) (root : List ℕ) (o : Settings)
    (old new : Seen) : Type 0 where
  pub is : (start : TreeMap) (p : PlanData) (made : List (List Node)) (j : ℕ) → IsUnderwayIn start root o old
      → IsRootPlan start root o (file_view o) (OutcomeFails o) p made → j < length p.jobs
      → JobHolds One Two start (map_now new.past) root (job_at p.jobs j)

-- a stripped file and the debug file of this name mean together what the file before meant, with the map applied once to each source path
abbrev pub PartsMean : PathMap → List ℕ → List ℕ → List ℕ → List ℕ → Type 0
PartsMean m b name stripped debug = IsKeptPair m b name (record { stripped = stripped; debug = debug })

-- ### What keeps it from being done

-- nothing does: it is underway in the tree, and may have begun to change it; and nothing is opposed to a run over the root as it was
pub record RootUnopposed (root : List ℕ) (o : Settings) (seen : Seen) : Type 0 where
  pub start : TreeMap
  pub underway : IsUnderwayIn start root o seen
  pub unopposed : IsUnopposed start root o (file_view o) (OutcomeFails o)

-- ### A start

-- the status that is due of a run, where the tree tells that it holds this map
abbrev pub RootDue : List ℕ → Settings → TreeMap → ℕ → Type 0
RootDue root o t n = RunDue root (work_folder root) o (file_view o) (OutcomeFails o) t n

-- statuses that may come in its place: of a fault of the tree or of the output, of want of memory, and of the jobs of a plan that is there
abbrev pub RootCut : List ℕ → Settings → TreeMap → ℕ → Type 0
RootCut root o t n = RunCut root (work_folder root) o (file_view o) (OutcomeFails o) t n ⊎ (n ≡ 7)

-- what a start of a run does and leaves, by the status with which it ends
pub record RootStarts (root : List ℕ) (o : Settings) (jobs : ℕ) (old new : Seen) (heard said : Heard) (n : ℕ) : Type 0 where
  pub images : (start : TreeMap) → IsUnderwayIn start root o old → StaysIn start root o old new
  pub ended : (start : TreeMap) → IsUnderwayIn start root o old → IsReported n → RootFinal start root o n new heard said
  pub steps : (start : TreeMap) → IsUnderwayIn start root o old → (c : CoreState) → ShowsRoot start root o (map_now old.past) c
      → RootSteps (work_folder root) c old.past new.past n
  pub settles : (start : TreeMap) → IsUnderwayIn start root o old → SettlesIn start root o jobs old new
  pub mild : (start : TreeMap) → IsUnderwayIn start root o old → RootMild root (map_now old.past) n
  pub passed : PassesOver root o old n
  pub due : (t : TreeMap) → now_of old ≡ Some t → RootDue root o t n ⊎ RootCut root o t n
  pub comes : (t : TreeMap) (k : ℕ) → now_of old ≡ Some t → RootDue root o t k → (n ≡ k) ⊎ RootCut root o t n
  pub completes : RootUnopposed root o old → (Rose old.faults new.faults → ⊥) → (Rose heard.faults said.faults → ⊥) → (n ≡ 0) ⊎ (n ≡ 13)

-- what the run over the root did, and what it answered: its report, or why there is none
pub record RootRan (root : List ℕ) (o : Settings) (jobs : ℕ) (old new : Seen) (result : Result (List ℕ) RunErr) : Type 0 where
  pub images : (start : TreeMap) → IsUnderwayIn start root o old → StaysIn start root o old new
  pub ended : IfOk result (HasReport root o old new)
  pub steps : (start : TreeMap) → IsUnderwayIn start root o old → (c : CoreState) → ShowsRoot start root o (map_now old.past) c
      → LeadsTo (work_folder root) c old.past new.past result
  pub settles : (start : TreeMap) → IsUnderwayIn start root o old → SettlesIn start root o jobs old new
  pub mild : (start : TreeMap) → IsUnderwayIn start root o old → IfErr result (λ e. IsTrue (is_mild_end e))
  pub passed : IfErr result (λ e. PassesOver root o old (run_status e))
  pub ends : IfErr result (NoReport root o old new)
  pub fault : IfErr result (λ e. run_status e ≡ 6 → Rose old.faults new.faults)
  pub due : (t : TreeMap) → now_of old ≡ Some t
      → RootDue root o t (answer_status result) ⊎ RunCut root (work_folder root) o (file_view o) (OutcomeFails o) t (answer_status result)
  pub comes : (t : TreeMap) (n : ℕ) → now_of old ≡ Some t → RootDue root o t n
      → (answer_status result ≡ n) ⊎ RunCut root (work_folder root) o (file_view o) (OutcomeFails o) t (answer_status result)
  pub completes : RootUnopposed root o old → (Rose old.faults new.faults → ⊥) → IfErr result (λ e. run_status e ≡ 13)
  pub below : OnlyBelow root (now_of old) (now_of new)
  pub tells : new.tells ≡ old.tells
