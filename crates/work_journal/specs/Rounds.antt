-- A run of all jobs, as far as it has come: the jobs taken since the last settle, and the run before and after.
use Rattle.std.specs.Prelude.{◌≡◌, ◌*◌, ℕ, ◌<◌, ◌≤◌, ◌==◌, ◌+◌, ◌-◌, ◌/◌, if◌then◌else◌, Result, Ok, Err, nat_lt, Bool, true, false, length, get_or, IsTrue}
use Rattle.journal_core.specs.declared.event.JobState.{JobState}
use Rattle.journal_core.specs.declared.event.JobState.TheVariants.{Fresh, Staged, Ready, Going, Done}
use Rattle.journal_core.specs.Calls.{is_uncommitted}
use Rattle.journal_core.specs.Table.{CoreState, state_of}
use Rattle.journal_core.specs.Relation.{ahead}
use Rattle.work_journal.specs.declared.rounds.Round.{Round}
use Rattle.work_journal.specs.declared.job_err.JobErr.{JobErr}
use Rattle.work_journal.specs.Views.{MakerView}
use Rattle.work_journal.specs.Groups.{is_new, IsUnder, IsGroup}

-- a job of n steps as a start finds it: as at first, partly moved, or done
abbrev pub is_found : ℕ → JobState → Bool
is_found n (Fresh staged) = is_new (Fresh staged)
is_found n Staged = false
is_found n Ready = false
is_found n (Going moved) = nat_lt moved n
is_found n Done = true

-- the core of a start: it has the maker's jobs
pub record IsBegun (v : MakerView) (c : CoreState) : Type 0 where
  pub under : IsUnder v c
  pub found : (i : ℕ) → i < length v.steps → IsTrue (is_found (get_or v.steps i 0) (state_of c i))

-- the jobs before this one are as at first or done
pub record IsMending (v : MakerView) (c : CoreState) (job : ℕ) : Type 0 where
  pub under : IsUnder v c
  pub mended : (i : ℕ) → i < job → IsTrue (is_new (state_of c i))
  pub found : (i : ℕ) → job ≤ i → i < length v.steps → IsTrue (is_found (get_or v.steps i 0) (state_of c i))

-- the round has fewer jobs than may be in flight
pub record IsRound (v : MakerView) (c : CoreState) (r : Round) (job in_flight : ℕ) : Type 0 where
  pub group : IsGroup v c r.first job
  pub order : r.first ≤ job
  pub count : ahead c.states job ≡ r.taken
  pub few : r.taken < in_flight

-- a job that is being moved: it was committed
abbrev pub is_moving : JobState → Bool
is_moving (Fresh staged) = false
is_moving Staged = false
is_moving Ready = false
is_moving (Going moved) = true
is_moving Done = false

abbrev pub IsMoving : CoreState → ℕ → Type 0
IsMoving c j = IsTrue (is_moving (state_of c j))

-- the jobs that aren't being moved are as before, and those that are stay committed
pub record AreCalm (c d : CoreState) : Type 0 where
  pub same : (i : ℕ) → is_moving (state_of c i) ≡ false → state_of d i ≡ state_of c i
  pub moved : (i : ℕ) → IsMoving c i → is_uncommitted (state_of d i) ≡ false

-- the jobs from this one on are as before
pub record AreLater (c d : CoreState) (from : ℕ) : Type 0 where
  pub same : (i : ℕ) → from ≤ i → state_of d i ≡ state_of c i

-- each job is done
pub record AreDone (v : MakerView) (c : CoreState) : Type 0 where
  pub under : IsUnder v c
  pub each : (i : ℕ) → i < length v.steps → state_of c i ≡ Done

-- ### Settles

-- how many groups of so many there are at most
abbrev pub rounds_of : ℕ → ℕ → ℕ
rounds_of jobs in_flight = (jobs + (in_flight - 1)) / in_flight

-- how often jobs are settled until then: once for each round that is over, or at most for each round
abbrev pub settles_so_far : ℕ → ℕ → Result Round JobErr → ℕ
settles_so_far jobs in_flight (Ok r) = (jobs - r.taken) / in_flight
settles_so_far jobs in_flight (Err e) = rounds_of jobs in_flight

-- and by one job that is taken into a round: once where it ends the round
abbrev pub settles_of_one : Round → Result Round JobErr → ℕ
settles_of_one r (Ok s) = if s.first == r.first then 0 else 1
settles_of_one r (Err e) = 1

-- jobs that a round came to have are those that were taken into it since it was settled
pub record IsCounted (r s : Round) (in_flight : ℕ) : Type 0 where
  pub counted : settles_of_one r (Ok s) * in_flight + s.taken ≤ r.taken + 1
