-- Calls that only look at a tree.
use Rattle.std.specs.Prelude.{◌≡◌, ◌≤◌, ◌++◌, ℕ, List, map, true}
use Rattle.file_tree.specs.declared.call.Call.TheVariants as call
use Rattle.file_tree.specs.declared.call.Effect.TheVariants as effect
use Rattle.file_tree.specs.Seen.{Seen, Happened, now_of}
use Rattle.file_tree.specs.Moments.{LooksOnly}

-- between two moments a tree was only looked at: it holds what it held, and its calls since are lists and reads
pub record Looked (old new : Seen) : Type 0 where
  pub now : now_of new ≡ now_of old
  pub later : old.faults ≤ new.faults
  pub tells : new.tells ≡ old.tells
  pub looks : old.tells ≡ true → LooksOnly old.past new.past

-- a look at a path
abbrev pub read_at : List ℕ → Happened
read_at path = record { call = call.Read path; effect = effect.Same }

-- where the tree tells, each of these paths was looked at, in their order, and nothing else was asked
pub record LookedAt (old new : Seen) (paths : List (List ℕ)) : Type 0 where
  pub log : old.tells ≡ true → new.past.log ≡ old.past.log ++ map read_at paths

-- it was only looked at, in the end at these paths
pub record LookedLast (old new : Seen) (paths : List (List ℕ)) : Type 0 where
  pub mid : Seen
  pub before : Looked old mid
  pub each : LookedAt mid new paths
