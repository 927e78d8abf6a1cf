-- The tree at the end of a run over a build root, which knows of no stops.
use Rattle.std.specs.Prelude.{◌≡◌, ℕ, List, []}
use Rattle.dw_base.specs.declared.fault.Refusal.{Refusal}
use Rattle.file_tree.specs.declared.node.Node.{Node}
use Rattle.file_tree.specs.Trees.{TreeMap}
use Rattle.file_tree.specs.Seen.{Seen, map_now}
use Rattle.file_tree.specs.Images.{state_of}
use Rattle.job_types.specs.Settings.{Settings}
use Rattle.work_texts.specs.declared.plan.PlanData.{PlanData}
use Rattle.root_plan.specs.Verdicts.{JudgeView}
use Rattle.root_run.specs.Wholes.{IsRootPlan, wanted_of}
use Rattle.root_run.specs.Partways.{HasEnded}

-- the run is done, and this is its report
pub record IsFinalRun (start : TreeMap) (root work : List ℕ) (s : Settings) (v : JudgeView) (fails : List ℕ → List ℕ → Refusal → Type 0)
    (report : List ℕ) (t : TreeMap) : Type 0 where
  pub plan : PlanData
  pub made : List (List Node)
  pub planned : IsRootPlan start root s v fails plan made
  pub reports : plan.report ≡ report
  pub ended : HasEnded (wanted_of start root work plan made) t

-- and all of it is stored: no stop leaves another tree
pub record IsDone (start : TreeMap) (root work : List ℕ) (s : Settings) (v : JudgeView) (fails : List ℕ → List ℕ → Refusal → Type 0)
    (report : List ℕ) (seen : Seen) : Type 0 where
  pub final_is : IsFinalRun start root work s v fails report (map_now seen.past)
  pub stored : (state_of seen.past).changes ≡ []
