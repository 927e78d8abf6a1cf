-- The row that is given, and the operations that give none.
use Rattle.std.proofs.Common.{refl, sym, ◌∙◌, arith}
use Rattle.dw_rows.specs.ProgramPlaces.{cells_left}
use Rattle.dw_rows.specs.TableRows.{rows_from}
use Rattle.dw_rows.proofs.AddressLaws.{stands-behind}
use Rattle.dw_rows.proofs.RowLaws.{row-given, row-more}
use Rattle.dw_rows.proofs.rows.next_row.Goals as goal

pub returns-then-gives_row-clause-row : goal.returns-then-gives_row-clause-row
returns-then-gives_row-clause-row c =
    row-given c.args.view.now c.args.section c.operations.place _ c.operations.rest.now c.split_at.result.1.now
    (rows_from c.args.params.now c.args.counts.now (cells_left c.args.view.now c.args.section c.args.start c.args.left.now) c.args.registers) c.args.params.now c.args.counts.now
    c.operations.now c.moved-row.result c.behind_row.result c.in-Some.operation c.in-Some.size c.operations.invariant.rows
    c.in-Some.ensures.operation c.in-Some.ensures.further c.in-Some.ensures.within c.moved-row.ensures.registers refl c.split_at.ensures.back (sym c.if-gives_row.true ∙ c.gives_row.ensures)
    c.behind_row.ensures.registers

pub operations-preserved : goal.operations-preserved
operations-preserved c = record {
  rows = row-more c.args.view.now c.args.section c.operations.place _ c.operations.rest.now c.split_at.result.1.now
      (rows_from c.args.params.now c.args.counts.now (cells_left c.args.view.now c.args.section c.args.start c.args.left.now) c.args.registers) c.args.params.now c.args.counts.now
      c.operations.now c.moved-row.result c.in-Some.operation c.in-Some.size c.operations.invariant.rows
      c.in-Some.ensures.operation c.in-Some.ensures.further c.in-Some.ensures.within c.moved-row.ensures.registers refl c.split_at.ensures.back
      (sym c.if-gives_row.false ∙ c.gives_row.ensures);
  stands = stands-behind c.args.view.now c.args.section c.operations.place c.in-Some.size _ c.operations.rest.now c.split_at.result.1.now c.operations.invariant.stands
      c.in-Some.ensures.within refl c.split_at.ensures.back;
  within = (let behind = c.split_at.ensures.back_len in
      let before = c.operations.invariant.within in
      omega (arith, behind, before));
  index = c.moved-row.ensures.index;
}
