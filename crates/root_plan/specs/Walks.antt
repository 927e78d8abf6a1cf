-- Why the walk of a build root gives no plan. Its paths are those of the walk.
use Rattle.std.specs.Prelude.{◌≡◌, ℕ, List, [], Some}
use Rattle.file_tree.specs.Trees.{TreeMap}
use Rattle.file_tree.specs.Seen.{Seen, now_of}
use Rattle.file_tree.specs.Causes.{Rose}
use Rattle.root_plan.specs.declared.plan_err.PlanErr.{PlanErr}
use Rattle.root_plan.specs.declared.plan_err.PlanErr.TheVariants as err
use Rattle.root_plan.specs.Errors.{IsStopped}
pub use Rattle.root_paths.specs.Walks.{AreBelow, AreWalked, AreMany}

-- why a root gives no paths
pub data WalkEnds (old new : Seen) (root : List ℕ) : PlanErr → Type 0 where
  absent : AreBelow (now_of old) root [] → WalkEnds old new root err.Absent
  many : AreMany (now_of old) root → WalkEnds old new root err.Entries
  failed : Rose old.faults new.faults → WalkEnds old new root err.Tree
  memory : WalkEnds old new root err.NoMemory

-- where the tree tells, and there is an answer, nothing but this comes in its place
pub record OnlyStopped (old : Seen) (root : List ℕ) (e : PlanErr) : Type 0 where
  pub stopped : (t : TreeMap) (paths : List (List ℕ)) → now_of old ≡ Some t → AreWalked (now_of old) root paths → IsStopped e
