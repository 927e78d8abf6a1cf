use Rattle.std.proofs.Common.{◌≡◌, ◌++◌, take}
use Rattle.dw_base.specs.LineTables.{texts_of}
use Rattle.dw_lines.proofs.table.paths_of.Given as goal

-- the paths so far are the directories and those of the files so far
abbrev pub invariant-loop-file : goal.invariant-loop-file
invariant-loop-file l = l.paths.items ≡ l.dirs ++ texts_of (take l.file-index l.files)
