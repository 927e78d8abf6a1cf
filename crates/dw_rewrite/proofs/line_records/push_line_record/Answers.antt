-- The section of line tables of a view, by its name.
use Rattle.std.proofs.lemmas.Result.{err_from_is_err_and}
use Rattle.dw_rewrite.proofs.LineRecordLaws.{view-fit, view-misses, view-record}
use Rattle.dw_base.specs.declared.debug_sections.DebugSection.TheVariants.{Str, LineStr}
use Rattle.dw_lines.specs.NewTexts.{texts_known}
use Rattle.dw_rewrite.proofs.line_records.push_line_record.Goals as goal

pub push_held_lines-requires-clause-fit : goal.push_held_lines-requires-clause-fit
push_held_lines-requires-clause-fit c =
    view-fit c.args.maps.now c.args.sources.now c.args.view.now c.in-Some.section (texts_known c.args.new_texts.now Str) (texts_known c.args.new_texts.now LineStr) c.args.tables.now c.args.starts.now
    c.requires.view c.requires.relocations c.requires.left c.requires.tables c.requires.starts c.in-Some.ensures.section

pub returns-in_err-push_held_lines-clause-refused : goal.returns-in_err-push_held_lines-clause-refused
returns-in_err-push_held_lines-clause-refused c =
    let p = err_from_is_err_and c.from_residual.result c.from_residual.ensures.1 in
    rw (p.1, p.2) (view-misses c.args.maps.now c.args.view.now c.in-Some.section (texts_known c.args.new_texts.now Str) (texts_known c.args.new_texts.now LineStr) c.args.tables.now
    c.in_err-push_held_lines.field-0.0 c.in-Some.ensures.section c.in_err-push_held_lines.ensures.refused)

pub returns-in_ok-push_held_lines-clause-bodies : goal.returns-in_ok-push_held_lines-clause-bodies
returns-in_ok-push_held_lines-clause-bodies c =
    view-record c.args.maps.now c.args.sources.now c.args.view.now c.in-Some.section (texts_known c.args.new_texts.now Str) (texts_known c.args.new_texts.now LineStr) c.args.tables.now
    c.args.bodies.now.items _ c.in-Some.ensures.section c.in_ok-push_held_lines.ensures.bodies
