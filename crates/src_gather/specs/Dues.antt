-- What is due of a gather whose tree tells what it holds: its report, or the first end whose cause holds.
use Rattle.std.specs.Prelude.{◌≡◌, ◌<◌, ℕ, true, List, [], length, Option, Some, Result, Ok, Err}
use Rattle.file_tree.specs.Trees.{TreeMap, keys_below}
use Rattle.work_texts.specs.declared.journal_err.JournalErr.{JournalErr}
use Rattle.work_texts.specs.declared.journal_err.JournalErr.TheVariants as journal
use Rattle.work_texts.specs.declared.plan.PlanData.{PlanData}
use Rattle.root_paths.specs.Roots.{most_paths}
use Rattle.root_run.specs.Dues.{TextShown, HasOwnPlan, IsFresh}
use Rattle.root_run.specs.RunEnds.{journal_status}
use Rattle.src_gather.specs.declared.gather_err.GatherErr.{GatherErr}
use Rattle.src_gather.specs.declared.gather_err.GatherErr.TheVariants as err
use Rattle.src_gather.specs.Errors.{IsStopped}
use Rattle.src_gather.specs.Gathering.{IsGatherPlan, gather_key}
use Rattle.src_gather.specs.GatherEnds.{PlanEnds, is_text}
use Rattle.src_gather.specs.Makers.{gather_folder}

-- what a text of the work folder shows, by its status
abbrev pub GatherShown : List ℕ → List ℕ → List ℕ → TreeMap → ℕ → Type 0
GatherShown root from dest t n = TextShown root (gather_folder root) (gather_key from dest) t n

-- why there is no report to give
pub data IsDue (root from dest : List ℕ) (t : TreeMap) : GatherErr → Type 0 where
  many : most_paths < length (keys_below t root) → IsDue root from dest t err.Entries
  none : keys_below t root ≡ [] → IsDue root from dest t (err.Absent root)
  -- a text of the work folder is none, or of another gather
  opening : {e : JournalErr} → is_text e ≡ true → GatherShown root from dest t (journal_status e) → IsDue root from dest t (err.Journal e)
  -- neither text is there, and no plan can be made
  planning : {e : GatherErr} → IsFresh root (gather_folder root) t → PlanEnds (Some t) root from dest (keys_below t root) e → IsDue root from dest t e

-- there is one: a text of this gather is there, or neither is, and a plan can be made
pub data HasReport (root from dest : List ℕ) (t : TreeMap) : Type 0 where
  own : GatherShown root from dest t 0 → HasReport root from dest t
  planned : (p : PlanData) → IsFresh root (gather_folder root) t → IsGatherPlan (Some t) root from dest (keys_below t root) p → HasReport root from dest t

-- what may come in its place: a fault of the tree, or a cut; and, where a plan is there, that one of its sources has changed
pub data IsCut (root from dest : List ℕ) (t : TreeMap) : GatherErr → Type 0 where
  stopped : {e : GatherErr} → IsStopped e → IsCut root from dest t e
  changed : {path was : List ℕ} {digest : Option (List ℕ)} → HasOwnPlan root (gather_folder root) (gather_key from dest) t
      → IsCut root from dest t (err.Journal (journal.Changed path was digest))

-- an answer is the one that is due, or one that may come in its place
pub data AnswersDue (root from dest : List ℕ) (t : TreeMap) {A : Type 0} : Result A GatherErr → Type 0 where
  reports : {report : A} → HasReport root from dest t → AnswersDue root from dest t (Ok report)
  ends : {e : GatherErr} → IsDue root from dest t e → AnswersDue root from dest t (Err e)
  cut : {e : GatherErr} → IsCut root from dest t e → AnswersDue root from dest t (Err e)
