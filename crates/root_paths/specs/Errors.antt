-- Why there are no paths, where a call of the tree failed; and what can come in their place.
use Rattle.file_tree.specs.declared.node.TreeErr.{TreeErr}
use Rattle.file_tree.specs.declared.node.TreeErr.TheVariants as tree
use Rattle.root_paths.specs.declared.path_err.PathErr.{PathErr}
use Rattle.root_paths.specs.declared.path_err.PathErr.TheVariants as err

abbrev pub tree_ends : TreeErr → PathErr
tree_ends tree.Failed = err.Tree
tree_ends tree.NoMemory = err.NoMemory

-- what can come in place of an answer that there is: a fault of the tree, or a cut
pub data IsStopped : PathErr → Type 0 where
  failed : IsStopped err.Tree
  no_memory : IsStopped err.NoMemory
