-- Trees partway through a gather, and those that it leaves in the end.
use Rattle.std.specs.Prelude.{◌≡◌, ◌≢◌, ◌≤◌, ℕ, true, List, [], length, Some}
use Rattle.file_tree.specs.Trees.{TreeMap, keys_below}
use Rattle.file_tree.specs.Seen.{Seen, map_now}
use Rattle.file_tree.specs.Images.{Images, LeavesOnly, state_of}
use Rattle.work_texts.specs.declared.plan.PlanData.{PlanData}
use Rattle.root_paths.specs.Roots.{most_paths}
use Rattle.root_run.specs.Partways.{IsPartwayBy, HasEnded}
use Rattle.src_gather.specs.Gathering.{IsGatherPlan}
use Rattle.src_gather.specs.Makers.{gather_folder}
use Rattle.src_gather.specs.Wholes.{IsClean, IsPlanned, IsGatherWanted, wanted_of}

-- a tree partway through a gather: it isn't planned yet, or it is partway by what a plan of the tree before wants
abbrev pub IsPartwayGather : TreeMap → List ℕ → List ℕ → List ℕ → TreeMap → Type 0
IsPartwayGather start root from dest t = IsPartwayBy start (gather_folder root) (IsGatherWanted start root from dest) t

-- a gather is underway in a tree: the tree tells, was clean before, and all that stops left of it is partway. Nobody else writes below
-- the folder of sources, since all paths but those of the gather are as before
pub record IsUnderway (start : TreeMap) (root from dest : List ℕ) (seen : Seen) : Type 0 where
  pub tells : seen.tells ≡ true
  pub clean : IsClean start root
  pub partway : Images (IsPartwayGather start root from dest) (state_of seen.past)

-- all that a stop may leave at every moment between two is partway
abbrev pub StaysPartway : TreeMap → List ℕ → List ℕ → List ℕ → Seen → Seen → Type 0
StaysPartway start root from dest old new = LeavesOnly (IsPartwayGather start root from dest) old.past new.past

-- the gather is done, and this is its report; and all of it is stored
pub record IsFinal (start : TreeMap) (root from dest report : List ℕ) (t : TreeMap) : Type 0 where
  pub plan : PlanData
  pub sources : List (List ℕ)
  pub planned : IsPlanned start root from dest plan sources
  pub reports : plan.report ≡ report
  pub ended : HasEnded (wanted_of start root dest plan sources) t

pub record IsDone (start : TreeMap) (root from dest report : List ℕ) (seen : Seen) : Type 0 where
  pub final_is : IsFinal start root from dest report (map_now seen.past)
  pub stored : (state_of seen.past).changes ≡ []

-- nothing is opposed to a gather: it has a plan, and what lies below the root now isn't more than the limit
pub record IsUnopposed (start : TreeMap) (root from dest : List ℕ) (seen : Seen) : Type 0 where
  pub some : keys_below start root ≢ []
  pub plan : PlanData
  pub is : IsGatherPlan (Some start) root from dest (keys_below start root) plan
  pub few : length (keys_below (map_now seen.past) root) ≤ most_paths
