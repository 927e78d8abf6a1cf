-- A table that can't be written.
use Rattle.std.proofs.lemmas.Result.{err_from_is_err_and}
use Rattle.dw_rewrite.proofs.LineWriteLaws.{fault-there}
use Rattle.dw_base.specs.declared.debug_sections.DebugSection.TheVariants.{Str, LineStr}
use Rattle.dw_lines.specs.NewTexts.{texts_known}
use Rattle.dw_rewrite.proofs.lines.write_table.Goals as goal

pub returns-in_err-written-clause-refused : goal.returns-in_err-written-clause-refused
returns-in_err-written-clause-refused c =
    let p = err_from_is_err_and c.from_residual.result c.from_residual.ensures.1 in
    rw (p.1, p.2) (fault-there c.args.maps.now c.args.view.now c.args.section c.args.table.now (texts_known c.args.new_texts.now Str) (texts_known c.args.new_texts.now LineStr)
    c.in_err-written.field-0.0 c.requires.stands c.in_err-written.ensures.refused)
