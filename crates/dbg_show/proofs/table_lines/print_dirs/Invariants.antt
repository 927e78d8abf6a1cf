use Rattle.std.proofs.Common.{◌+◌, drop}
use Rattle.std.specs.String.{string_bytes}
use Rattle.dw_base.specs.LineMeanings.{dir_texts}
use Rattle.dbg_show.specs.LineTexts.{dirs_text, first_number}
use Rattle.dbg_show.specs.Printing.{Goes}
use Rattle.dbg_show.proofs.table_lines.print_dirs.Given as goal

-- the directories from here on are left
abbrev pub invariant-loop-index : goal.invariant-loop-index
invariant-loop-index g l =
    Goes (dirs_text (first_number l.lists.version) (dir_texts l.lists.source l.lists.dirs)) (dirs_text (l.first + l.index) (dir_texts l.lists.source (drop l.index l.lists.dirs)))
    (string_bytes l.fn.text) (g.O.Sink.heard l.fn.out) (g.O.Sink.heard l.out) (string_bytes l.text)
