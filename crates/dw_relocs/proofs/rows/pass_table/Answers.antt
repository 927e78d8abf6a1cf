-- Behind the string offsets the table goes on.
use Rattle.std.proofs.Common.{length}
use Rattle.dw_base.specs.FileViews.{section_bytes}
use Rattle.dw_relocs.specs.FieldWalks.{ground_of}
use Rattle.dw_relocs.proofs.RowListLaws.{table-goes}
use Rattle.dw_relocs.proofs.rows.pass_table.Goals as goal

pub returns : goal.returns
returns c = record {
  goes = table-goes (ground_of c.args.view.now c.args.section) (length (section_bytes c.args.view.now c.args.section)) c.args.item.now c.args.pass c.pass_row.result
      c.requires.next c.pass_row.ensures.goes;
}
