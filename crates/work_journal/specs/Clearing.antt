-- What lies below the work folder as its paths are taken away: before there is a plan, and at the end of a run.
use Rattle.std.specs.Prelude.{◌≡◌, ◌⊎◌, ℕ, Bool, true, false, ◌&&◌, not, List, [], None}
use Rattle.std.specs.FinMap as fin
use Rattle.file_tree.specs.Trees.{is_below}
use Rattle.file_tree.specs.Seen.{Seen, map_now}
use Rattle.file_tree.specs.Images.{state_of}
use Rattle.work_journal.specs.Work.{has_path}
use Rattle.work_journal.specs.Finishing.{end_paths}

-- a path below the work folder that is none of the lists' and not the finished text's
abbrev pub is_other : List ℕ → List ℕ → Bool
is_other work q = is_below work q && not (has_path (end_paths work) q)

-- where the tree tells, all that lies below the work folder is among these paths
pub record AreAll (work : List ℕ) (paths : List (List ℕ)) (seen : Seen) : Type 0 where
  pub others : seen.tells ≡ true → (q : List ℕ) → is_below work q ≡ true → has_path paths q ≡ false → fin.get (map_now seen.past) q ≡ None

-- where the tree tells, of the paths that are covered none comes to be there, and none of these is there
pub record AreGone (covers : List ℕ → Bool) (paths : List (List ℕ)) (old new : Seen) : Type 0 where
  pub each : old.tells ≡ true → (q : List ℕ) → covers q ≡ true → (fin.get (map_now old.past) q ≡ None) ⊎ (has_path paths q ≡ true) → fin.get (map_now new.past) q ≡ None

-- where the tree tells, the work folder has only the lists and the finished text, and all is stored
pub record IsCleared (work : List ℕ) (seen : Seen) : Type 0 where
  pub gone : seen.tells ≡ true → (q : List ℕ) → is_other work q ≡ true → fin.get (map_now seen.past) q ≡ None
  pub stored : seen.tells ≡ true → (state_of seen.past).changes ≡ []
