use Rattle.std.proofs.Common.{◌≡◌, take}
use Rattle.dw_base.specs.LineTables.{texts_of}
use Rattle.dw_lines.proofs.table.texts_of.Given as goal

-- the texts so far are those of the entries so far
abbrev pub invariant-loop-file : goal.invariant-loop-file
invariant-loop-file l = l.texts.items ≡ texts_of (take l.file-index l.files)
