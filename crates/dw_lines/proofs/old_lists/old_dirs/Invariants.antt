use Rattle.std.proofs.Common.{◌-◌, length}
use Rattle.dw_lines.proofs.OldListLaws.{DirsUpTo}
use Rattle.dw_lines.proofs.old_lists.old_dirs.Given as goal

-- the directories so far stand from the first place up to this one
abbrev pub invariant-dirs : goal.invariant-dirs
invariant-dirs l = record { read : DirsUpTo l.section l.table l.start l.dirs.items l.place }

abbrev pub decreases-dirs : goal.decreases-dirs
decreases-dirs l = length l.table - l.place
