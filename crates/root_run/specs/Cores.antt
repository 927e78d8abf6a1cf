-- The calls of a run over a build root as events of its core.
use Rattle.std.specs.FinMap as fin
use Rattle.std.specs.Prelude.{◌≡◌, ◌++◌, ◌+◌, ◌≤◌, ◌==◌, ℕ, Bool, false, List, [], map, length, get_or, Option, Some, None, Result, OnOk}
use Rattle.dw_base.specs.declared.fault.Refusal.{Refusal}
use Rattle.file_tree.specs.declared.node.Node.{Node}
use Rattle.file_tree.specs.declared.node.Node.TheVariants as node
use Rattle.file_tree.specs.Trees.{TreeMap, keys_below}
use Rattle.file_tree.specs.Seen.{Past, Happened, settles_of}
use Rattle.job_types.specs.Settings.{Settings}
use Rattle.journal_core.specs.declared.event.Phase.TheVariants.{Closed}
use Rattle.journal_core.specs.Names.{final}
use Rattle.journal_core.specs.Table.{CoreState, new_core}
use Rattle.journal_core.specs.Starts.{shown_core}
use Rattle.work_texts.specs.declared.plan.PlanData.{PlanData}
use Rattle.work_journal.specs.Runs.{Runs}
use Rattle.work_journal.specs.Rounds.{rounds_of}
use Rattle.work_journal.specs.Wanted.{IsPartway}
use Rattle.work_journal.specs.Work.{work_path, presence}
use Rattle.root_plan.specs.Verdicts.{JudgeView}
use Rattle.root_run.specs.Wholes.{IsRootPlan, wanted_of, steps_of}
use Rattle.root_run.specs.Partways.{IsUnstarted}

-- a finished text is an earlier program's: it begins `dbgfinished 1`, and byte 12 is the version's digit
abbrev pub says_old : Option Node → Bool
says_old None = false
says_old (Some (node.File bytes mode)) = get_or bytes 12 0 == 49
says_old (Some (node.Link target)) = false

-- the one that stands in the work folder of this tree
abbrev pub is_old_end : TreeMap → List ℕ → Bool
is_old_end t work = says_old (fin.get t (work_path work (final 3)))

-- the core that a tree shows: by a plan of the tree before the run; where that has none, one with no jobs
pub data ShowsCore (start : TreeMap) (root work : List ℕ) (s : Settings) (v : JudgeView) (fails : List ℕ → List ℕ → Refusal → Type 0) (t : TreeMap) : CoreState → Type 0 where
  by_plan : {p : PlanData} {made : List (List Node)} → IsRootPlan start root s v fails p made → IsPartway (wanted_of start root work p made) t
      → ShowsCore start root work s v fails t (shown_core (steps_of p) (presence (is_old_end t work) work (keys_below t root)))
  by_none : IsUnstarted start work t → ((p : PlanData) (made : List (List Node)) → IsRootPlan start root s v fails p made → ⊥)
      → ShowsCore start root work s v fails t (new_core [])

-- the calls between two moments lead the core to one core alone, and where all went well to one whose run is over
pub record LeadsTo {A E : Type 0} (work : List ℕ) (c : CoreState) (old new : Past) (result : Result A E) : Type 0 where
  pub rest : List Happened
  pub last : CoreState
  pub first : new.first ≡ old.first
  pub log : new.log ≡ old.log ++ rest
  pub runs : Runs work c (map (λ h. h.call) rest) last
  pub only : (d : CoreState) → Runs work c (map (λ h. h.call) rest) d → d ≡ last
  pub closed : OnOk result (last.phase ≡ Closed)

-- the tree was asked to settle at most so many times: once for each round of jobs, and four times beside; where the root has no
-- plan, once
pub record SettlesFew (start : TreeMap) (root : List ℕ) (s : Settings) (v : JudgeView) (fails : List ℕ → List ℕ → Refusal → Type 0)
    (in_flight : ℕ) (old new : Past) : Type 0 where
  pub few : (p : PlanData) (made : List (List Node)) → IsRootPlan start root s v fails p made
      → settles_of new ≤ settles_of old + (rounds_of (length p.jobs) in_flight + 4)
  pub none : ((p : PlanData) (made : List (List Node)) → IsRootPlan start root s v fails p made → ⊥) → settles_of new ≤ settles_of old + 1
