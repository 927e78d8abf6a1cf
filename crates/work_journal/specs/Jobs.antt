-- A job on its way: so many of its steps are staged or moved, and all else is as it was.
use Rattle.std.specs.Prelude.{◌≡◌, ℕ, ◌<◌, ◌==◌, if◌then◌else◌, List, length, get_or}
use Rattle.file_tree.specs.declared.node.Node.{Node}
use Rattle.journal_core.specs.declared.event.JobState.{JobState}
use Rattle.journal_core.specs.declared.event.JobState.TheVariants.{Fresh, Staged, Going, Done}
use Rattle.journal_core.specs.declared.event.Phase.TheVariants.{Running}
use Rattle.journal_core.specs.Names.{temp}
use Rattle.journal_core.specs.Table.{CoreState, state_of, steps_of}
use Rattle.journal_core.specs.Relation.{ahead}
use Rattle.journal_core.specs.Shapes.{most_in_flight}
use Rattle.work_journal.specs.Wanted.{Wanted}
use Rattle.work_journal.specs.Views.{MakerView}

-- a job of n steps of which k are staged
abbrev pub staged_at : ℕ → ℕ → JobState
staged_at k n = if k == n then Staged else Fresh k

-- and one of which k are moved
abbrev pub moved_at : ℕ → ℕ → JobState
moved_at k n = if k == n then Done else Going k

-- a job of n steps that may be staged: it is as at first, and one of the first 64 that aren't done
pub record MayStage (c : CoreState) (job n : ℕ) : Type 0 where
  pub running : c.phase ≡ Running
  pub some : 0 < n
  pub steps_are : steps_of c job ≡ n
  pub is_new : state_of c job ≡ Fresh 0
  pub near : ahead c.states job < most_in_flight

-- a job of n steps that is committed, and of which k are moved
pub record MayMove (c : CoreState) (job k n : ℕ) : Type 0 where
  pub steps_are : steps_of c job ≡ n
  pub below : k < n
  pub going : state_of c job ≡ Going k

-- these are the wanted nodes of a job's steps
abbrev pub AreNodes : Wanted → ℕ → List Node → Type 0
AreNodes w job ns = (k : ℕ) (d : Node) → k < length ns → w.node (temp job k) ≡ get_or ns k d

-- the outputs of a job are to stand where the maker has them
abbrev pub AreTargets : Wanted → MakerView → ℕ → Type 0
AreTargets w v job = (k : ℕ) → k < get_or v.steps job 0 → w.output job k ≡ v.target job k
