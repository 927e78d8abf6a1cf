-- The jobs of a run between two settles: those that are done, those that are staged or ready, and those to come.
use Rattle.std.specs.Prelude.{◌≡◌, ℕ, zero, suc, ◌<◌, ◌≤◌, Bool, true, false, [], length, IsTrue}
use Rattle.file_tree.specs.declared.node.Node.TheVariants as node
use Rattle.journal_core.specs.declared.event.JobState.{JobState}
use Rattle.journal_core.specs.declared.event.JobState.TheVariants.{Fresh, Staged, Ready, Going, Done}
use Rattle.journal_core.specs.declared.event.Phase.TheVariants.{Running}
use Rattle.journal_core.specs.Names.{commit}
use Rattle.journal_core.specs.Table.{CoreState, state_of}
use Rattle.work_journal.specs.Views.{MakerView}
use Rattle.work_journal.specs.Wanted.{Wanted}
use Rattle.work_journal.specs.Jobs.{AreTargets}

abbrev pub is_new : JobState → Bool
is_new (Fresh staged) = staged_none staged
  where
    staged_none : ℕ → Bool
    staged_none zero = true
    staged_none (suc n) = false
is_new Staged = false
is_new Ready = false
is_new (Going moved) = false
is_new Done = true

abbrev pub is_staged : JobState → Bool
is_staged (Fresh staged) = false
is_staged Staged = true
is_staged Ready = false
is_staged (Going moved) = false
is_staged Done = true

abbrev pub is_settled : JobState → Bool
is_settled (Fresh staged) = false
is_settled Staged = false
is_settled Ready = true
is_settled (Going moved) = false
is_settled Done = true

-- the core has the maker's jobs, and the run is under way
pub record IsUnder (v : MakerView) (c : CoreState) : Type 0 where
  pub running : c.phase ≡ Running
  pub steps_are : c.steps ≡ v.steps
  pub same_length : length c.states ≡ length v.steps

-- all before the first are done, from there to the job all are staged or done, and the others as at first or done
pub record IsGroup (v : MakerView) (c : CoreState) (first job : ℕ) : Type 0 where
  pub under : IsUnder v c
  pub before : (i : ℕ) → i < first → state_of c i ≡ Done
  pub staged : (i : ℕ) → first ≤ i → i < job → IsTrue (is_staged (state_of c i))
  pub rest : (i : ℕ) → job ≤ i → IsTrue (is_new (state_of c i))

-- the same once it is settled: before this job all are done, from there to the end all are ready or done
pub record IsFlush (v : MakerView) (c : CoreState) (job last : ℕ) : Type 0 where
  pub under : IsUnder v c
  pub before : (i : ℕ) → i < job → state_of c i ≡ Done
  pub ready : (i : ℕ) → job ≤ i → i < last → IsTrue (is_settled (state_of c i))
  pub rest : (i : ℕ) → last ≤ i → IsTrue (is_new (state_of c i))

-- wanted files whose outputs stand where the maker has them, and whose commit marks are empty
pub record IsMade (w : Wanted) (v : MakerView) : Type 0 where
  pub outputs : (j : ℕ) → j < length v.steps → AreTargets w v j
  pub marks : (j : ℕ) → w.node (commit j) ≡ node.File [] 420
