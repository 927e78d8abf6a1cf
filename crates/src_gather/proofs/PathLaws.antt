-- What is said of paths, as the end of a gather.
use Rattle.std.proofs.Common.{ℕ, List}
use Rattle.std.specs.Prelude.{Contains}
use Rattle.file_tree.specs.Seen.{Seen}
use Rattle.root_paths.specs.declared.path_err.PathErr.{PathErr}
use Rattle.root_paths.specs.NewPaths.{IsTooLong, NewEnds}
use Rattle.root_paths.specs.NewPaths.{IsTooLong as far, NewEnds as new}
use Rattle.root_paths.specs.Walks.{WalkEnds}
use Rattle.root_paths.specs.Walks.{WalkEnds as walk}
use Rattle.src_gather.specs.declared.gather_err.GatherErr.{GatherErr}
use Rattle.src_gather.specs.Errors.{IsPathEnd}
use Rattle.src_gather.specs.Errors.{IsPathEnd as end}
use Rattle.src_gather.specs.GatherEnds.{IsLong, CopyEnds, RootEnds}
use Rattle.src_gather.specs.GatherEnds.{IsLong as long, CopyEnds as copy, RootEnds as root_end}

pub walk_end : (old new : Seen) (root : List ℕ) (e : PathErr) (g : GatherErr) → WalkEnds old new root e → IsPathEnd root e g → RootEnds old new root g
walk_end old new root e g (walk.absent none) end.same = root_end.absent none
walk_end old new root e g (walk.absent none) end.cut = root_end.no_memory
walk_end old new root e g (walk.many m) end.same = root_end.many m
walk_end old new root e g (walk.many m) end.cut = root_end.no_memory
walk_end old new root e g (walk.failed rose) end.same = root_end.failed rose
walk_end old new root e g (walk.failed rose) end.cut = root_end.no_memory
walk_end old new root e g walk.memory end.same = root_end.no_memory
walk_end old new root e g walk.memory end.cut = root_end.no_memory

pub ruleset walk_rules = (walk_end)

pub long_end : (root path : List ℕ) (e : PathErr) (g : GatherErr) → IsTooLong path e → IsPathEnd root e g → IsLong path g
long_end root path e g (far.long l) end.same = long.long l
long_end root path e g (far.long l) end.cut = long.no_memory
long_end root path e g far.no_memory end.same = long.no_memory
long_end root path e g far.no_memory end.cut = long.no_memory

pub ruleset long_rules = (long_end)

copies-long : (present news : List (List ℕ)) (root path : List ℕ) (e : PathErr) (g : GatherErr) → Contains news path → IsTooLong path e → IsPathEnd root e g → CopyEnds present news g
copies-long present news root path e g c (far.long l) end.same = copy.too_long c l
copies-long present news root path e g c (far.long l) end.cut = copy.no_memory
copies-long present news root path e g c far.no_memory end.same = copy.no_memory
copies-long present news root path e g c far.no_memory end.cut = copy.no_memory

pub copies_end : (present news : List (List ℕ)) (root : List ℕ) (e : PathErr) (g : GatherErr) → NewEnds present news e → IsPathEnd root e g → CopyEnds present news g
copies_end present news root e g (new.too_long {path} c is) ended = copies-long present news root path e g c is ended
copies_end present news root e g (new.taken short t) end.same = copy.taken t
copies_end present news root e g (new.taken short t) end.cut = copy.no_memory
copies_end present news root e g new.no_memory end.same = copy.no_memory
copies_end present news root e g new.no_memory end.cut = copy.no_memory

pub ruleset copy_rules = (copies_end)
