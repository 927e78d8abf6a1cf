-- The walk of a build root: all paths below it, and why there are none.
use Rattle.std.specs.Prelude.{◌≡◌, ◌≢◌, ◌≤◌, ◌<◌, ℕ, List, [], length, Option, Some}
use Rattle.file_tree.specs.Trees.{TreeMap, keys_below}
use Rattle.file_tree.specs.Seen.{Seen, now_of}
use Rattle.file_tree.specs.Causes.{Rose, AreInOrder}
use Rattle.root_paths.specs.declared.path_err.PathErr.{PathErr}
use Rattle.root_paths.specs.declared.path_err.PathErr.TheVariants as err
use Rattle.root_paths.specs.Roots.{most_paths}
use Rattle.root_paths.specs.Errors.{IsStopped}

-- where the tree tells, these are all paths below the root
pub record AreBelow (old : Option TreeMap) (root : List ℕ) (paths : List (List ℕ)) : Type 0 where
  pub are : (t : TreeMap) → old ≡ Some t → paths ≡ keys_below t root

-- the paths below a root: in byte order, each once, some, and not too many
pub record AreWalked (old : Option TreeMap) (root : List ℕ) (paths : List (List ℕ)) : Type 0 where
  pub all : AreBelow old root paths
  pub in_order : AreInOrder paths
  pub some : paths ≢ []
  pub few : length paths ≤ most_paths

-- where the tree tells, more paths than the limit lie below the root
pub record AreMany (old : Option TreeMap) (root : List ℕ) : Type 0 where
  pub many : (t : TreeMap) → old ≡ Some t → most_paths < length (keys_below t root)

-- why a root gives no paths
pub data WalkEnds (old new : Seen) (root : List ℕ) : PathErr → Type 0 where
  absent : AreBelow (now_of old) root [] → WalkEnds old new root err.Absent
  many : AreMany (now_of old) root → WalkEnds old new root err.Entries
  failed : Rose old.faults new.faults → WalkEnds old new root err.Tree
  memory : WalkEnds old new root err.NoMemory

-- where the tree tells, and there is an answer, nothing but this comes in its place
pub record OnlyStopped (old : Seen) (root : List ℕ) (e : PathErr) : Type 0 where
  pub stopped : (t : TreeMap) (paths : List (List ℕ)) → now_of old ≡ Some t → AreWalked (now_of old) root paths → IsStopped e
