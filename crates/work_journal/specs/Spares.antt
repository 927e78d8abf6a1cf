-- What calls leave as it is: paths that they don't change, and how often they settle.
use Rattle.std.specs.Prelude.{◌≡◌, ◌⊎◌, ◌+◌, ◌≤◌, ℕ, List, true, IsTrue}
use Rattle.std.specs.FinMap as fin
use Rattle.file_tree.specs.Trees.{is_below}
use Rattle.file_tree.specs.Seen.{Seen, map_now, settles_of}
use Rattle.journal_core.specs.Names.{IsStep}
use Rattle.work_journal.specs.Views.{MakerView}

-- where the tree tells, no path is changed but these, and it was asked to settle at most so many times more
pub record Spares (hits : List ℕ → Type 0) (settles : ℕ) (old new : Seen) : Type 0 where
  pub others : old.tells ≡ true → (q : List ℕ) → (hits q → ⊥) → fin.get (map_now new.past) q ≡ fin.get (map_now old.past) q
  pub most : old.tells ≡ true → settles_of new.past ≤ settles_of old.past + settles

-- a path in the work folder
abbrev pub InWork : List ℕ → List ℕ → Type 0
InWork work q = IsTrue (is_below work q)

-- or this one
abbrev pub InWorkOr : List ℕ → List ℕ → List ℕ → Type 0
InWorkOr work path q = InWork work q ⊎ (path ≡ q)

-- or a target of such a job
pub data IsHit (work : List ℕ) (v : MakerView) (moves : ℕ → Type 0) (q : List ℕ) : Type 0 where
  in_work : InWork work q → IsHit work v moves q
  is_target : (j k : ℕ) → IsStep v.steps j k → moves j → v.target j k ≡ q → IsHit work v moves q
