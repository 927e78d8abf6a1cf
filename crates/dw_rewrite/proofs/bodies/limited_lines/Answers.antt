-- Line tables that aren't too long; and why there are none.
use Rattle.std.proofs.Common.{◌<◌, ◌≤◌, length, arith}
use Rattle.std.proofs.lemmas.Result.{err_from_is_err_and}
use Rattle.dw_base.specs.DebugData.{line_source}
use Rattle.dw_base.specs.Layout.{output_limit}
use Rattle.dw_base.specs.ViewData.{debug_data}
use Rattle.dw_base.specs.declared.debug_sections.DebugSection.TheVariants.{Str, LineStr}
use Rattle.dw_lines.specs.NewTexts.{texts_known}
use Rattle.dw_rewrite.proofs.LineWriteLaws.{long-fault, one-fault}
use Rattle.dw_rewrite.proofs.bodies.limited_lines.Goals as goal

pub returns-in_err-lines-clause-refused : goal.returns-in_err-lines-clause-refused
returns-in_err-lines-clause-refused c =
    let p = err_from_is_err_and c.from_residual.result c.from_residual.ensures.1 in
    rw (p.1, p.2) (one-fault c.args.maps.now (line_source (debug_data c.args.view.now)) (texts_known c.args.new_texts.now Str) (texts_known c.args.new_texts.now LineStr) c.args.tables.now
    c.in_err-lines.field-0.0 c.in_err-lines.ensures.refused)

pub returns-then-len-gt-OUTPUT_LIMIT-clause-refused : goal.returns-then-len-gt-OUTPUT_LIMIT-clause-refused
returns-then-len-gt-OUTPUT_LIMIT-clause-refused c =
    let over : output_limit < length c.in_ok-lines.lines.bytes.items = omega (arith, c.len.ensures, c.in_ok-lines.lines.bytes.ok.0) in
    long-fault c.args.maps.now (line_source (debug_data c.args.view.now)) (texts_known c.args.new_texts.now Str) (texts_known c.args.new_texts.now LineStr) c.args.tables.now
    c.in_ok-lines.lines.bytes.items c.in_ok-lines.lines.starts.items c.long_lines.result c.in_ok-lines.ensures.written over c.long_lines.ensures

pub returns-clause-small : goal.returns-clause-small
returns-clause-small c =
    let small : length c.in_ok-lines.lines.bytes.items ≤ output_limit = omega (arith, c.len.ensures, c.in_ok-lines.lines.bytes.ok.0) in
    small
