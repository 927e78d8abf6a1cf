-- The next table.
use Rattle.std.proofs.Common.{arith}
use Rattle.std.proofs.lemmas.Result.{err_from_is_err_and}
use Rattle.dw_lines.specs.ViewSources.{view_source}
use Rattle.dw_relocs.specs.FieldWalks.{ground_of}
use Rattle.dw_relocs.proofs.LinePassLaws.{next-is, next-stands, next-start, tables-end, tables-fail, tables-more, tables-start}
use Rattle.dw_relocs.proofs.lines.pass_tables.Goals as goal

pub loop-table-init : goal.loop-table-init
loop-table-init c =
    tables-start (ground_of c.args.view.now c.args.section) (view_source c.args.view.now c.args.section) c.args.tables.now c.args.pass c.requires.tables c.requires.stands

pub pass_table-requires-clause-own : goal.pass_table-requires-clause-own
pass_table-requires-clause-own c =
    next-start (ground_of c.args.view.now c.args.section) (view_source c.args.view.now c.args.section) c.args.tables.now c.table-item.result c.loop-table.table-index c.args.pass
    c.loop-table.now (omega arith) c.table-item.is c.loop-table.invariant

pub pass_table-requires-clause-table : goal.pass_table-requires-clause-table
pass_table-requires-clause-table c =
    next-is (ground_of c.args.view.now c.args.section) (view_source c.args.view.now c.args.section) c.args.tables.now c.table-item.result c.loop-table.table-index c.args.pass
    c.loop-table.now (omega arith) c.table-item.is c.loop-table.invariant

pub pass_table-requires-clause-stands : goal.pass_table-requires-clause-stands
pass_table-requires-clause-stands c =
    next-stands (ground_of c.args.view.now c.args.section) (view_source c.args.view.now c.args.section) c.args.tables.now c.table-item.result c.loop-table.table-index c.args.pass
    c.loop-table.now (omega arith) c.table-item.is c.loop-table.invariant

pub loop-table-preserved : goal.loop-table-preserved
loop-table-preserved c =
    tables-more (ground_of c.args.view.now c.args.section) (view_source c.args.view.now c.args.section) c.args.tables.now c.table-item.result c.loop-table.table-index c.args.pass
    c.loop-table.now c.in_ok-now.now (omega arith) c.table-item.is c.loop-table.invariant c.in_ok-now.ensures.passed

pub returns-clause-passed : goal.returns-clause-passed
returns-clause-passed c =
    tables-end (ground_of c.args.view.now c.args.section) (view_source c.args.view.now c.args.section) c.args.tables.now c.loop-table.table-index c.args.pass c.loop-table.now
    (omega arith) c.loop-table.invariant

pub returns-in_err-now-clause-refused : goal.returns-in_err-now-clause-refused
returns-in_err-now-clause-refused c =
    let p = err_from_is_err_and c.from_residual.result c.from_residual.ensures.1 in
    rw (p.1, p.2) (tables-fail (ground_of c.args.view.now c.args.section) (view_source c.args.view.now c.args.section) c.args.tables.now c.table-item.result
    c.loop-table.table-index c.args.pass c.loop-table.now c.in_err-now.field-0.0 (omega arith) c.table-item.is c.loop-table.invariant c.in_err-now.ensures.refused)
