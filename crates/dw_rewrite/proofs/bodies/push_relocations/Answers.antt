-- Those of the one kind, and behind them that of the other.
use Rattle.std.proofs.lemmas.Result.{err_from_is_err_and}
use Rattle.dw_base.specs.DebugData.{line_source}
use Rattle.dw_base.specs.ViewData.{debug_data}
use Rattle.dw_base.specs.declared.debug_sections.DebugSection.TheVariants.{Str, LineStr}
use Rattle.dw_lines.specs.NewTexts.{KnownTexts, texts_known}
use Rattle.dw_rewrite.specs.LineOffsets.{OffsetMisses, line_offsets}
use Rattle.dw_rewrite.proofs.BodyRowLaws.{either-first, either-known}
use Rattle.dw_rewrite.proofs.bodies.push_relocations.Goals as goal

pub returns-in_err-push_standing-clause-refused : goal.returns-in_err-push_standing-clause-refused
returns-in_err-push_standing-clause-refused c =
    let p = err_from_is_err_and c.from_residual.result c.from_residual.ensures.1 in
    rw (p.1, p.2) (either-first _ _ c.in_err-push_standing.field-0.0 c.in_err-push_standing.ensures.refused)

pub returns-in_err-push_line_record-clause-refused : goal.returns-in_err-push_line_record-clause-refused
returns-in_err-push_line_record-clause-refused c =
    let p = err_from_is_err_and c.from_residual-in_err-push_line_record.result c.from_residual-in_err-push_line_record.ensures.1 in
    rw (p.1, p.2) (either-known _ (λ (n : KnownTexts). OffsetMisses (line_source (debug_data c.args.view.now)).number (line_source (debug_data c.args.view.now)).cells
    (line_offsets c.args.maps.now (line_source (debug_data c.args.view.now)) (texts_known n Str) (texts_known n LineStr) c.args.tables.now)) _ _ c.in_err-push_line_record.field-0.0
    c.texts-new_texts.ensures.texts c.in_err-push_line_record.ensures.refused)
