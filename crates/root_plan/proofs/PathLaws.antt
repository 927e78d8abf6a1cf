-- What is said of the paths of a root, as the end of a plan.
use Rattle.std.proofs.Common.{◌≡◌, ℕ, List, Some}
use Rattle.file_tree.specs.Trees.{TreeMap}
use Rattle.file_tree.specs.Seen.{Seen, now_of}
use Rattle.root_paths.specs.declared.path_err.PathErr.{PathErr}
use Rattle.root_paths.specs.Errors.{IsStopped as IsPathStopped}
use Rattle.root_paths.specs.Errors.{IsStopped as path_stop}
use Rattle.root_paths.specs.Walks.{AreWalked, WalkEnds as PathsEnd, OnlyStopped as PathsStopped}
use Rattle.root_paths.specs.Walks.{WalkEnds as paths_end}
use Rattle.root_paths.specs.NewPaths.{IsTooLong as IsLongPath, NewEnds as NewPathEnds}
use Rattle.root_paths.specs.NewPaths.{IsTooLong as long_path, NewEnds as new_path}
use Rattle.root_plan.specs.Errors.{IsStopped, path_ends}
use Rattle.root_plan.specs.Errors.{IsStopped as stop}
use Rattle.root_plan.specs.Walks.{WalkEnds, OnlyStopped}
use Rattle.root_plan.specs.Walks.{WalkEnds as walk}
use Rattle.root_plan.specs.Tallies.{IsTooLong}
use Rattle.root_plan.specs.Tallies.{IsTooLong as too_long}
use Rattle.root_plan.specs.Plans.{NewEnds}
use Rattle.root_plan.specs.Plans.{NewEnds as new}

pub walk_ends : (old now : Seen) (root : List ℕ) (e : PathErr) → PathsEnd old now root e → WalkEnds old now root (path_ends e)
walk_ends old now root e (paths_end.absent none) = walk.absent none
walk_ends old now root e (paths_end.many m) = walk.many m
walk_ends old now root e (paths_end.failed rose) = walk.failed rose
walk_ends old now root e paths_end.memory = walk.memory

stopped : (e : PathErr) → IsPathStopped e → IsStopped (path_ends e)
stopped e path_stop.failed = stop.failed
stopped e path_stop.no_memory = stop.no_memory

pub only_stopped : (old : Seen) (root : List ℕ) (e : PathErr) → PathsStopped old root e → OnlyStopped old root (path_ends e)
only_stopped old root e only = record { stopped = λ tree paths here are. stopped e (only.stopped tree paths here are) }

pub long_ends : (path : List ℕ) (e : PathErr) → IsLongPath path e → IsTooLong path (path_ends e)
long_ends path e (long_path.long l) = too_long.long l
long_ends path e long_path.no_memory = too_long.no_memory

pub new_ends : (present news : List (List ℕ)) (e : PathErr) → NewPathEnds present news e → NewEnds present news (path_ends e)
new_ends present news e (new_path.too_long c is) = new.too_long c (long_ends _ e is)
new_ends present news e (new_path.taken short t) = new.taken short t
new_ends present news e new_path.no_memory = new.no_memory
