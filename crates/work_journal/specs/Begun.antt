-- The core that a start begins with, job by job: what the names in the work folder show.
use Rattle.std.specs.Prelude.{◌≡◌, ℕ, ◌<◌, List, length, get_or}
use Rattle.journal_core.specs.declared.event.JobState.{JobState}
use Rattle.journal_core.specs.declared.event.JobState.TheVariants.{Done}
use Rattle.journal_core.specs.Names.{temp, commit}
use Rattle.journal_core.specs.Starts.{shown_state}
use Rattle.work_journal.specs.Work.{work_path, there_mark, has_path}

-- the state that a job of n steps shows by these paths
abbrev pub state_by : List ℕ → List (List ℕ) → ℕ → ℕ → JobState
state_by work paths job n = shown_state n (there_mark (has_path paths (work_path work (commit job)))) (λ k. there_mark (has_path paths (work_path work (temp job k))))

-- the numbers of steps of the first jobs, and the states that they show
pub record AreShown (work : List ℕ) (paths : List (List ℕ)) (all steps : List ℕ) (states : List JobState) (jobs : ℕ) : Type 0 where
  pub same_steps : length steps ≡ jobs
  pub same_states : length states ≡ jobs
  pub steps_are : (j : ℕ) → j < jobs → get_or steps j 0 ≡ get_or all j 0
  pub states_are : (j : ℕ) → j < jobs → get_or states j Done ≡ state_by work paths j (get_or all j 0)
