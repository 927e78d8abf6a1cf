-- What a plan that is committed leaves: of the core, that the run is under way, and its jobs are as before but for a settle;
-- of the work folder, the plan alone.
use Rattle.std.specs.Prelude.{◌≡◌, ◌≢◌, ◌++◌, ℕ, true, List, map, Some, None}
use Rattle.std.specs.FinMap as fin
use Rattle.file_tree.specs.declared.node.Node.{Node}
use Rattle.file_tree.specs.Trees.{is_below}
use Rattle.file_tree.specs.Seen.{Past, Happened, Seen, map_now}
use Rattle.journal_core.specs.declared.event.Phase.TheVariants.{Running}
use Rattle.journal_core.specs.Names.{plan}
use Rattle.journal_core.specs.Table.{CoreState, settled_job}
use Rattle.work_journal.specs.Work.{work_path}

pub record Keeping (c d : CoreState) : Type 0 where
  pub running : d.phase ≡ Running
  pub steps_are : d.steps ≡ c.steps
  pub states_are : d.states ≡ map settled_job c.states

-- where the tree tells, this plan lies below the work folder, and nothing else
pub record HasPlanAlone (work : List ℕ) (node : Node) (seen : Seen) : Type 0 where
  pub there : seen.tells ≡ true → fin.get (map_now seen.past) (work_path work plan) ≡ Some node
  pub alone : seen.tells ≡ true → (q : List ℕ) → is_below work q ≡ true → q ≢ work_path work plan → fin.get (map_now seen.past) q ≡ None

-- the new past has the old one's calls and more
pub record IsSince (old new : Past) : Type 0 where
  pub rest : List Happened
  pub first : new.first ≡ old.first
  pub log : new.log ≡ old.log ++ rest

-- at some moment between two this plan lay below the work folder, and nothing else
pub record BeganAlone (work : List ℕ) (node : Node) (old new : Seen) : Type 0 where
  pub mid : Seen
  pub tells : mid.tells ≡ old.tells
  pub before : IsSince old.past mid.past
  pub after : IsSince mid.past new.past
  pub alone : HasPlanAlone work node mid
