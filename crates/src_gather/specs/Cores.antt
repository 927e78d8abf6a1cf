-- The calls of a gather as events of its core, and how often the tree is asked to settle.
use Rattle.std.specs.Prelude.{◌+◌, ◌≤◌, ℕ, List, [], length}
use Rattle.file_tree.specs.Seen.{Past, settles_of}
use Rattle.file_tree.specs.Trees.{TreeMap, keys_below}
use Rattle.journal_core.specs.Starts.{shown_core}
use Rattle.journal_core.specs.Table.{CoreState, new_core}
use Rattle.work_texts.specs.declared.plan.PlanData.{PlanData}
use Rattle.work_journal.specs.Rounds.{rounds_of}
use Rattle.work_journal.specs.Wanted.{IsPartway}
use Rattle.work_journal.specs.Work.{presence}
use Rattle.root_run.specs.Cores.{is_old_end}
use Rattle.root_run.specs.Partways.{IsUnstarted}
use Rattle.src_gather.specs.Makers.{gather_folder}
use Rattle.src_gather.specs.Starts.{copy_steps}
use Rattle.src_gather.specs.Wholes.{IsPlanned, wanted_of}

-- the core that a tree shows: by a plan of the tree before the gather; where that has none, one with no jobs
pub data ShowsCore (start : TreeMap) (root from dest : List ℕ) (t : TreeMap) : CoreState → Type 0 where
  by_plan : {p : PlanData} {sources : List (List ℕ)} → IsPlanned start root from dest p sources → IsPartway (wanted_of start root dest p sources) t
      → ShowsCore start root from dest t (shown_core (copy_steps p) (presence (is_old_end t (gather_folder root)) (gather_folder root) (keys_below t root)))
  by_none : IsUnstarted start (gather_folder root) t → ((p : PlanData) (sources : List (List ℕ)) → IsPlanned start root from dest p sources → ⊥)
      → ShowsCore start root from dest t (new_core [])

-- the tree was asked to settle at most so many times: once for each round of copies, and four times beside; where there is no plan, once
pub record SettlesFew (start : TreeMap) (root from dest : List ℕ) (in_flight : ℕ) (old new : Past) : Type 0 where
  pub few : (p : PlanData) (sources : List (List ℕ)) → IsPlanned start root from dest p sources
      → settles_of new ≤ settles_of old + (rounds_of (length p.jobs) in_flight + 4)
  pub none : ((p : PlanData) (sources : List (List ℕ)) → IsPlanned start root from dest p sources → ⊥) → settles_of new ≤ settles_of old + 1
