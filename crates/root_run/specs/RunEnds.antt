-- Why a run over a build root ends without a report, by the step at which it does, and what became of the tree.
use Rattle.std.specs.Prelude.{◌≡◌, ◌≤◌, ◌==◌, ◌||◌, ℕ, Bool, false, List, Result, Ok, Err}
use Rattle.dw_base.specs.declared.fault.Refusal.{Refusal}
use Rattle.file_tree.specs.declared.node.TreeErr.{TreeErr}
use Rattle.file_tree.specs.declared.node.TreeErr.TheVariants as tree
use Rattle.file_tree.specs.Seen.{Seen, now_of}
use Rattle.file_tree.specs.Causes.{Rose}
use Rattle.job_types.specs.Settings.{Settings}
use Rattle.work_texts.specs.declared.plan.PlanData.{PlanData}
use Rattle.work_texts.specs.declared.journal_err.JournalErr.{JournalErr}
use Rattle.work_texts.specs.declared.journal_err.JournalErr.TheVariants as journal
use Rattle.work_journal.specs.declared.opening.Opened.TheVariants as opened
use Rattle.work_journal.specs.Blames.{is_mild_run, RunBlames}
use Rattle.work_journal.specs.Opening.{Opens}
use Rattle.work_journal.specs.Planned.{AreSourcesApart}
use Rattle.root_plan.specs.declared.plan_err.PlanErr.{PlanErr}
use Rattle.root_plan.specs.declared.plan_err.PlanErr.TheVariants as plan
use Rattle.root_plan.specs.Verdicts.{JudgeView}
use Rattle.root_plan.specs.Walks.{AreWalked, WalkEnds}
use Rattle.root_plan.specs.Plans.{IsPlanOf, PlanEnds, key_of}
use Rattle.root_plan.specs.Makers.{plan_view, IsJobRefused, job_at}
use Rattle.root_run.specs.declared.run_err.RunErr.{RunErr}
use Rattle.root_run.specs.declared.run_err.RunErr.TheVariants as run

-- ### Ends

-- the end where a call of the tree failed
abbrev pub tree_run : TreeErr → RunErr
tree_run tree.Failed = run.Journal journal.Tree
tree_run tree.NoMemory = run.Journal journal.NoMemory

-- the exit status of each end
abbrev pub plan_status : PlanErr → ℕ
plan_status plan.Absent = 4
plan_status plan.Entries = 8
plan_status (plan.PathTooLong path) = 8
plan_status (plan.FileTooLarge path size) = 8
plan_status plan.PlanTooLarge = 8
plan_status (plan.Refused path refusal) = 3
plan_status (plan.Taken path) = 5
plan_status plan.Tree = 6
plan_status plan.NoMemory = 13

abbrev pub journal_status : JournalErr → ℕ
journal_status (journal.Changed path planned digest) = 10
journal_status (journal.Refused path refusal) = 3
journal_status journal.Tree = 6
journal_status journal.NoMemory = 13
journal_status (journal.PlanText file at) = 11
journal_status (journal.OtherRun field kept given) = 9

abbrev pub run_status : RunErr → ℕ
run_status (run.Plan e) = plan_status e
run_status (run.Journal e) = journal_status e

-- whether an end of this status leaves the tree as it was
abbrev pub leaves_tree : ℕ → Bool
leaves_tree n = n == 4 || n == 5 || n == 8 || n == 9 || n == 11

-- that of a run: 0 where it gives a report
abbrev pub status_of : {A : Type 0} → Result A RunErr → ℕ
status_of (Ok report) = 0
status_of (Err e) = run_status e

-- ### Why

-- nothing is changed between two moments
pub record IsSame (old new : Seen) : Type 0 where
  pub now : now_of new ≡ now_of old
  pub later : old.faults ≤ new.faults
  pub tells : new.tells ≡ old.tells

-- what refuses a job's file, by the plan's jobs
abbrev pub JobRefuses : (v : JudgeView) → (List ℕ → Refusal → Type 0) → (List ℕ → List ℕ → Refusal → Type 0) → PlanData → ℕ → List ℕ → Refusal → Type 0
JobRefuses v edit_fails split_fails p j bytes r = IsJobRefused v edit_fails split_fails (job_at p.jobs j) bytes r

-- why a run ends, by the trees that it began with and that it left
pub data RunEnds (root work : List ℕ) (s : Settings) (v : JudgeView) (fails : List ℕ → List ℕ → Refusal → Type 0)
    (edit_fails : List ℕ → Refusal → Type 0) (split_fails : List ℕ → List ℕ → Refusal → Type 0) (old new : Seen) : RunErr → Type 0 where
  -- a call of the tree failed, or memory is wanting: at any step
  failed : Rose old.faults new.faults → RunEnds root work s v fails edit_fails split_fails old new (run.Journal journal.Tree)
  no_memory : RunEnds root work s v fails edit_fails split_fails old new (run.Journal journal.NoMemory)
  -- nothing lies below the root, or too much: the tree is as it was
  walking : {e : PlanErr} → WalkEnds old new root e → IsSame old new → RunEnds root work s v fails edit_fails split_fails old new (run.Plan e)
  -- a text of the work folder is none, or of another run: the tree is as it was
  opening : {paths : List (List ℕ)} {e : JournalErr} → AreWalked (now_of old) root paths → is_mild_run e ≡ false
      → Opens work paths (key_of s) old (Err e) → IsSame old new → RunEnds root work s v fails edit_fails split_fails old new (run.Journal e)
  -- neither text is there, and the root has no plan: the tree is as it was
  planning : {paths : List (List ℕ)} {e : PlanErr} → AreWalked (now_of old) root paths → Opens work paths (key_of s) old (Ok opened.Empty)
      → PlanEnds old new root paths s v fails e → IsSame old new → RunEnds root work s v fails edit_fails split_fails old new (run.Plan e)
  -- a job of the plan that is there: its file isn't the planned one, or is refused, as it stands now, when it was just read; and where no
  -- job makes another one's file, as it stood when the run began
  resumed : {paths : List (List ℕ)} {e : JournalErr} (p : PlanData) → AreWalked (now_of old) root paths → Opens work paths (key_of s) old (Ok (opened.Resumed p))
      → is_mild_run e ≡ false → new.tells ≡ old.tells → RunBlames (plan_view root p.jobs) (JobRefuses v edit_fails split_fails p) new e
      → (AreSourcesApart work (plan_view root p.jobs) → RunBlames (plan_view root p.jobs) (JobRefuses v edit_fails split_fails p) old e)
      → RunEnds root work s v fails edit_fails split_fails old new (run.Journal e)
  -- a job of a plan that was just made, the same: only over a tree that doesn't tell, which may have changed beside the run
  planned : {paths : List (List ℕ)} {e : JournalErr} (p : PlanData) → AreWalked (now_of old) root paths → Opens work paths (key_of s) old (Ok opened.Empty)
      → IsPlanOf (now_of old) root paths s v fails p → old.tells ≡ false
      → is_mild_run e ≡ false → RunBlames (plan_view root p.jobs) (JobRefuses v edit_fails split_fails p) new e
      → RunEnds root work s v fails edit_fails split_fails old new (run.Journal e)
