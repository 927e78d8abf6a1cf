-- The planned files of a run's jobs, as they stand before the run.
use Rattle.std.specs.Prelude.{◌≡◌, ℕ, ◌<◌, List, length, IsTrue}
use Rattle.file_tree.specs.Seen.{Seen}
use Rattle.journal_core.specs.Calls.{is_uncommitted}
use Rattle.journal_core.specs.Names.{IsStep}
use Rattle.journal_core.specs.Table.{CoreState, state_of}
use Rattle.work_journal.specs.Files.{FileStands}
use Rattle.work_journal.specs.Spares.{InWork}
use Rattle.work_journal.specs.Views.{MakerView}

-- where the tree tells, a file with the job's planned digest stands at its source
pub record HasPlanned (v : MakerView) (seen : Seen) (j : ℕ) : Type 0 where
  pub bytes : List ℕ
  pub mode : ℕ
  pub stands : FileStands seen (v.source j) bytes mode
  pub planned : v.digest bytes ≡ v.planned j

-- so it does for each of the first jobs that isn't committed
pub record ArePlanned (v : MakerView) (c : CoreState) (seen : Seen) (jobs : ℕ) : Type 0 where
  pub each : (j : ℕ) → j < jobs → IsTrue (is_uncommitted (state_of c j)) → HasPlanned v seen j

-- no source lies in the work folder, and no target is another job's source
pub record AreSourcesApart (work : List ℕ) (v : MakerView) : Type 0 where
  pub outside : (i : ℕ) → i < length v.steps → InWork work (v.source i) → ⊥
  pub others : (i j k : ℕ) → i < length v.steps → IsStep v.steps j k → v.target j k ≡ v.source i → j ≡ i
