-- The jobs that a settle looks at: those of a span in which all staged jobs are.
use Rattle.std.specs.Prelude.{◌≡◌, ℕ, ◌<◌, ◌≤◌, Bool, true, false, List, length, get_or}
use Rattle.journal_core.specs.declared.event.JobState.{JobState}
use Rattle.journal_core.specs.declared.event.JobState.TheVariants.{Fresh, Staged, Ready, Going, Done}
use Rattle.journal_core.specs.Table.{settled_job}

abbrev pub is_staged : JobState → Bool
is_staged (Fresh staged) = false
is_staged Staged = true
is_staged Ready = false
is_staged (Going moved) = false
is_staged Done = false

-- the span from one job up to another lies within the jobs, and has all that are staged
pub record SpanHas (from to : ℕ) (states : List JobState) : Type 0 where
  pub inside : to ≤ length states
  pub staged : (i : ℕ) → is_staged (get_or states i Done) ≡ true → (from ≤ i) × (i < to)

-- a span has another one, and one job more
pub record SpanCovers (from to job first end : ℕ) : Type 0 where
  pub old : (i : ℕ) → from ≤ i → i < to → (first ≤ i) × (i < end)
  pub one : (first ≤ job) × (job < end)
  pub within : (n : ℕ) → to ≤ n → job < n → end ≤ n

-- the jobs before this one are settled, and the others are as they were
pub record SettledTo (old now : List JobState) (upto : ℕ) : Type 0 where
  pub same_length : length now ≡ length old
  pub before : (i : ℕ) → i < upto → get_or now i Done ≡ settled_job (get_or old i Done)
  pub behind : (i : ℕ) → upto ≤ i → get_or now i Done ≡ get_or old i Done
