-- No table has moved yet, one is one of those that move, one more has moved, and all have.
use Rattle.std.proofs.Common.{arith, refl, rules}
use Rattle.dw_lines.specs.ViewSources.{view_source}
use Rattle.dw_rewrite.proofs.LineMoveLaws.{pass-inside, pass-more, pass-offsets, pass-order, pass-runs, pass-stands, pass-starts}
use Rattle.dw_base.specs.declared.debug_sections.DebugSection.TheVariants.{Str, LineStr}
use Rattle.dw_lines.specs.NewTexts.{texts_known}
use Rattle.dw_rewrite.proofs.line_records.line_moves.Goals as goal

pub bounds-starts-i : goal.bounds-starts-i
bounds-starts-i c =
    pass-inside c.args.maps.now (view_source c.args.view.now c.args.section) (texts_known c.args.new_texts.now Str) (texts_known c.args.new_texts.now LineStr) c.args.tables.now c.args.starts.now
    c.loop-i.runs.items c.loop-i.offsets.items c.loop-i.i c.index-tables-i.result c.loop-i.invariant (omega arith) c.index-tables-i.is

pub push_table-requires-clause-stands : goal.push_table-requires-clause-stands
push_table-requires-clause-stands c =
    pass-stands c.args.maps.now (view_source c.args.view.now c.args.section) (texts_known c.args.new_texts.now Str) (texts_known c.args.new_texts.now LineStr) c.args.tables.now c.args.starts.now
    c.loop-i.runs.items c.loop-i.offsets.items c.loop-i.i c.index-tables-i.result c.loop-i.invariant (omega arith) c.index-tables-i.is

pub push_table-requires-clause-order : goal.push_table-requires-clause-order
push_table-requires-clause-order c =
    pass-order c.args.maps.now (view_source c.args.view.now c.args.section) (texts_known c.args.new_texts.now Str) (texts_known c.args.new_texts.now LineStr) c.args.tables.now c.args.starts.now
    c.loop-i.runs.items c.loop-i.offsets.items c.loop-i.i c.index-tables-i.result c.loop-i.invariant (omega arith) c.index-tables-i.is

pub loop-i-preserved : goal.loop-i-preserved
loop-i-preserved c =
    pass-more c.args.maps.now (view_source c.args.view.now c.args.section) (texts_known c.args.new_texts.now Str) (texts_known c.args.new_texts.now LineStr) c.args.tables.now c.args.starts.now
    c.loop-i.runs.items c.push_table.new.runs.items c.loop-i.offsets.items c.push_table.new.offsets.items c.loop-i.i _ c.index-tables-i.result c.loop-i.invariant (omega arith)
    c.index-tables-i.is refl c.in_ok-push_table.ensures.runs c.in_ok-push_table.ensures.offsets

pub loop-i-init : goal.loop-i-init
loop-i-init c =
    pass-starts c.args.maps.now (view_source c.args.view.now c.args.section) (texts_known c.args.new_texts.now Str) (texts_known c.args.new_texts.now LineStr) c.args.tables.now c.args.starts.now
    _ _ (search rules) (search rules) c.requires.moves

pub returns-clause-runs : goal.returns-clause-runs
returns-clause-runs c =
    pass-runs c.args.maps.now (view_source c.args.view.now c.args.section) (texts_known c.args.new_texts.now Str) (texts_known c.args.new_texts.now LineStr) c.args.tables.now c.args.starts.now
    c.loop-i.runs.items c.loop-i.offsets.items c.loop-i.i (omega arith) c.loop-i.invariant

pub returns-clause-offsets : goal.returns-clause-offsets
returns-clause-offsets c =
    pass-offsets c.args.maps.now (view_source c.args.view.now c.args.section) (texts_known c.args.new_texts.now Str) (texts_known c.args.new_texts.now LineStr) c.args.tables.now c.args.starts.now
    c.loop-i.runs.items c.loop-i.offsets.items c.loop-i.i (omega arith) c.loop-i.invariant
