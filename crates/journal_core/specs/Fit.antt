-- Which states a job of so many steps can be in.
use Rattle.std.specs.Prelude.{◌≡◌, ℕ, ◌<◌, Bool, true, false, ◌&&◌, nat_lt, List, [], ◌∷◌, length, get_or, IsTrue}
use Rattle.journal_core.specs.declared.event.JobState.{JobState}
use Rattle.journal_core.specs.declared.event.JobState.TheVariants.{Fresh, Staged, Ready, Going, Done}

-- a count of steps that are staged or moved is below their number
abbrev pub fits : ℕ → JobState → Bool
fits n (Fresh staged) = nat_lt staged n
fits n Staged = true
fits n Ready = true
fits n (Going moved) = nat_lt moved n
fits n Done = true

-- each job has a step, and a state that fits; and no list is longer than the other
abbrev pub are_fit : List ℕ → List JobState → Bool
are_fit [] [] = true
are_fit [] (s ∷ ss) = false
are_fit (n ∷ ns) [] = false
are_fit (n ∷ ns) (s ∷ ss) = nat_lt 0 n && fits n s && are_fit ns ss

-- the same in the words of a caller
pub record AreFit (steps : List ℕ) (states : List JobState) : Type 0 where
  pub same_length : length states ≡ length steps
  pub has_step : (j : ℕ) → j < length steps → 0 < get_or steps j 0
  pub each_fits : (j : ℕ) → j < length steps → IsTrue (fits (get_or steps j 0) (get_or states j Done))
