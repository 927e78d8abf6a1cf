use Rattle.std.proofs.Common.{◌-◌, length}
use Rattle.dw_lines.proofs.OldListLaws.{FilesUpTo}
use Rattle.dw_lines.proofs.old_lists.old_files.Given as goal

-- the files so far stand from the first place up to this one
abbrev pub invariant-files : goal.invariant-files
invariant-files l = record { read : FilesUpTo l.section l.table l.start l.files.items l.place }

abbrev pub decreases-files : goal.decreases-files
decreases-files l = length l.table - l.place
