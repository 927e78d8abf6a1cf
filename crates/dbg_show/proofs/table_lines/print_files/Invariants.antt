use Rattle.std.proofs.Common.{◌+◌, drop}
use Rattle.std.specs.String.{string_bytes}
use Rattle.dw_base.specs.LineMeanings.{file_texts}
use Rattle.dbg_show.specs.LineTexts.{files_text, first_number}
use Rattle.dbg_show.specs.Printing.{Goes}
use Rattle.dbg_show.proofs.table_lines.print_files.Given as goal

-- the files from here on are left
abbrev pub invariant-loop-index : goal.invariant-loop-index
invariant-loop-index g l =
    Goes (files_text (first_number l.lists.version) (file_texts l.lists.source l.lists.files)) (files_text (l.first + l.index) (file_texts l.lists.source (drop l.index l.lists.files)))
    (string_bytes l.fn.text) (g.O.Sink.heard l.fn.out) (g.O.Sink.heard l.out) (string_bytes l.text)
