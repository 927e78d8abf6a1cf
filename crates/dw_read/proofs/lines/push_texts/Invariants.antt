use Rattle.std.proofs.Common.{◌≡◌, ◌++◌, drop}
use Rattle.dw_read.specs.ViewLines.{text_fields}
use Rattle.dw_read.proofs.lines.push_texts.Given as goal

abbrev pub invariant-loop-text : goal.invariant-loop-text
invariant-loop-text l =
    l.fields.items ++ text_fields l.section l.str l.texts l.width (drop l.text-index l.all)
    ≡ l.fn.fields.items ++ text_fields l.section l.str l.texts l.width (l.all)
