-- Trees partway through a run over a build root: what a stop at any moment may leave.
use Rattle.std.specs.Prelude.{◌≡◌, ℕ, List}
use Rattle.dw_base.specs.declared.fault.Refusal.{Refusal}
use Rattle.file_tree.specs.declared.node.Node.{Node}
use Rattle.file_tree.specs.Trees.{TreeMap}
use Rattle.file_tree.specs.Seen.{Seen}
use Rattle.file_tree.specs.Images.{Images, state_of, LeavesOnly}
use Rattle.job_types.specs.Settings.{Settings}
use Rattle.work_texts.specs.declared.plan.PlanData.{PlanData}
use Rattle.work_journal.specs.Wanted.{Wanted}
use Rattle.root_plan.specs.Verdicts.{JudgeView}
use Rattle.root_run.specs.Wholes.{IsRootPlan, wanted_of}
use Rattle.root_run.specs.Partways.{IsPartwayBy}

-- what is wanted by a plan of the root
pub record IsRootWanted (start : TreeMap) (root work : List ℕ) (s : Settings) (v : JudgeView) (fails : List ℕ → List ℕ → Refusal → Type 0)
    (w : Wanted) : Type 0 where
  pub plan : PlanData
  pub made : List (List Node)
  pub planned : IsRootPlan start root s v fails plan made
  pub is : w ≡ wanted_of start root work plan made

-- a tree partway through the run
abbrev pub IsPartwayRun : TreeMap → List ℕ → List ℕ → Settings → (v : JudgeView) → (List ℕ → List ℕ → Refusal → Type 0) → TreeMap → Type 0
IsPartwayRun start root work s v fails t = IsPartwayBy start work (IsRootWanted start root work s v fails) t

-- all that a stop may leave of a tree is partway
abbrev pub AllPartway : TreeMap → List ℕ → List ℕ → Settings → (v : JudgeView) → (List ℕ → List ℕ → Refusal → Type 0) → Seen → Type 0
AllPartway start root work s v fails seen = Images (IsPartwayRun start root work s v fails) (state_of seen.past)

-- and all that one may leave at every moment between two
abbrev pub StaysPartway : TreeMap → List ℕ → List ℕ → Settings → (v : JudgeView) → (List ℕ → List ℕ → Refusal → Type 0) → Seen → Seen → Type 0
StaysPartway start root work s v fails old new = LeavesOnly (IsPartwayRun start root work s v fails) old.past new.past
