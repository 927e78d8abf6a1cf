-- No table yet, one more, one that can't be written, and all.
use Rattle.std.proofs.Common.{arith, ◌∙◌}
use Rattle.std.proofs.lemmas.Result.{err_from_is_err_and}
use Rattle.dw_lines.specs.ViewSources.{view_source}
use Rattle.dw_rewrite.proofs.LineWriteLaws.{pass-ends, pass-more, pass-starts, stand-at, tables-fault}
use Rattle.dw_base.specs.declared.debug_sections.DebugSection.TheVariants.{Str, LineStr}
use Rattle.dw_lines.specs.NewTexts.{texts_known}
use Rattle.dw_rewrite.proofs.lines.written_tables.Goals as goal

pub write_table-requires-clause-stands : goal.write_table-requires-clause-stands
write_table-requires-clause-stands c =
    stand-at (view_source c.args.view.now c.args.section) c.args.tables.now c.loop-table.table-index c.table-item.result c.requires.stand (omega arith) c.table-item.is

pub returns-in_err-write_table-clause-refused : goal.returns-in_err-write_table-clause-refused
returns-in_err-write_table-clause-refused c =
    let p = err_from_is_err_and c.from_residual-in_err-write_table.result c.from_residual-in_err-write_table.ensures.1 in
    rw (p.1, p.2) (tables-fault c.args.maps.now (view_source c.args.view.now c.args.section) (texts_known c.args.new_texts.now Str) (texts_known c.args.new_texts.now LineStr) c.args.tables.now
    c.loop-table.table-index c.table-item.result c.in_err-write_table.field-0.0 (omega arith) c.table-item.is c.in_err-write_table.ensures.refused)

pub loop-table-preserved : goal.loop-table-preserved
loop-table-preserved c =
    pass-more c.args.maps.now (view_source c.args.view.now c.args.section) (texts_known c.args.new_texts.now Str) (texts_known c.args.new_texts.now LineStr) c.args.tables.now
    c.loop-table.table-index _ c.table-item.result c.loop-table.bytes.items c.write_table.new.bytes.items c.loop-table.starts.items c.push.new.self.items (omega arith) c.table-item.is
    c.loop-table.invariant (c.len.ensures ∙ c.loop-table.bytes.ok.0) c.in_ok-push.ensures.items c.in_ok-write_table.ensures.bytes c.in_ok-write_table.ensures.can

pub loop-table-init : goal.loop-table-init
loop-table-init c = pass-starts c.args.maps.now (view_source c.args.view.now c.args.section) (texts_known c.args.new_texts.now Str) (texts_known c.args.new_texts.now LineStr) c.args.tables.now _ _ c.in_ok-bytes.ensures.items c.in_ok-starts.ensures.items

pub returns-clause-written : goal.returns-clause-written
returns-clause-written c =
    pass-ends c.args.maps.now (view_source c.args.view.now c.args.section) (texts_known c.args.new_texts.now Str) (texts_known c.args.new_texts.now LineStr) c.args.tables.now c.loop-table.table-index
    c.loop-table.bytes.items c.loop-table.starts.items c.loop-table-test.false c.loop-table.invariant
