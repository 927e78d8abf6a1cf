-- A run over a build root that a start takes up: the tree tells what it holds, and all that stops left of it is partway.
use Rattle.std.specs.Prelude.{◌≡◌, ℕ, true, Bool, List}
use Rattle.dw_base.specs.declared.fault.Refusal.{Refusal}
use Rattle.file_tree.specs.Seen.{Seen}
use Rattle.file_tree.specs.Trees.{TreeMap}
use Rattle.job_types.specs.Settings.{Settings}
use Rattle.work_journal.specs.Blames.{is_mild_run}
use Rattle.root_plan.specs.Verdicts.{JudgeView}
use Rattle.root_run.specs.declared.run_err.RunErr.{RunErr}
use Rattle.root_run.specs.declared.run_err.RunErr.TheVariants as run
use Rattle.root_run.specs.RootRuns.{AllPartway}
use Rattle.root_run.specs.Wholes.{IsClean}

-- a run over this root, which was clean before it, is underway in a tree: not begun, stopped at any moment, or over
pub record IsUnderway (start : TreeMap) (root work : List ℕ) (s : Settings) (v : JudgeView) (fails : List ℕ → List ℕ → Refusal → Type 0)
    (seen : Seen) : Type 0 where
  pub tells : seen.tells ≡ true
  pub clean : IsClean start root work
  pub partway : AllPartway start root work s v fails seen

-- no job's file is changed or refused, and no text of the work folder is bad or of another run
abbrev pub is_mild_end : RunErr → Bool
is_mild_end (run.Plan e) = true
is_mild_end (run.Journal e) = is_mild_run e
