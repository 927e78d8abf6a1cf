-- Why there is no plan, where a call of the tree failed or there are no paths; and when two ends are one.
use Rattle.std.specs.Prelude.{ℕ, List}
use Rattle.dw_base.specs.declared.fault.Refusal.{Refusal}
use Rattle.file_tree.specs.declared.node.TreeErr.{TreeErr}
use Rattle.file_tree.specs.declared.node.TreeErr.TheVariants as tree
use Rattle.root_paths.specs.declared.path_err.PathErr.{PathErr}
use Rattle.root_paths.specs.declared.path_err.PathErr.TheVariants as path
use Rattle.root_plan.specs.declared.plan_err.PlanErr.{PlanErr}
use Rattle.root_plan.specs.declared.plan_err.PlanErr.TheVariants as err

abbrev pub tree_ends : TreeErr → PlanErr
tree_ends tree.Failed = err.Tree
tree_ends tree.NoMemory = err.NoMemory

-- what is said of the root's paths, as the end of a plan
abbrev pub path_ends : PathErr → PlanErr
path_ends path.Absent = err.Absent
path_ends path.Entries = err.Entries
path_ends (path.PathTooLong p) = err.PathTooLong p
path_ends (path.Taken p) = err.Taken p
path_ends path.Tree = err.Tree
path_ends path.NoMemory = err.NoMemory

-- what can come in place of an answer that there is: a fault of the tree, or a cut
pub data IsStopped : PlanErr → Type 0 where
  failed : IsStopped err.Tree
  no_memory : IsStopped err.NoMemory

-- two ends are one, but for what is left open: which of several refusals of a file is named, and which of several new paths that
-- are taken or too long
pub data AreSameEnds : PlanErr → PlanErr → Type 0 where
  same_entries : AreSameEnds err.Entries err.Entries
  same_paths : {path other : List ℕ} → AreSameEnds (err.PathTooLong path) (err.PathTooLong other)
  same_file : {path : List ℕ} {size : ℕ} → AreSameEnds (err.FileTooLarge path size) (err.FileTooLarge path size)
  same_text : AreSameEnds err.PlanTooLarge err.PlanTooLarge
  same_refused : {path : List ℕ} {r q : Refusal} → AreSameEnds (err.Refused path r) (err.Refused path q)
  same_taken : {path other : List ℕ} → AreSameEnds (err.Taken path) (err.Taken other)

-- or one of them is a fault of the tree, or a cut
pub data IsOneEnd (e f : PlanErr) : Type 0 where
  same : AreSameEnds e f → IsOneEnd e f
  first_stopped : IsStopped e → IsOneEnd e f
  other_stopped : IsStopped f → IsOneEnd e f
