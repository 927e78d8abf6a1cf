-- The table was read, so nothing refuses it.
use Rattle.std.proofs.Common.{refl, take}
use Rattle.dw_lines.specs.ViewSources.{view_source}
use Rattle.dw_lines.proofs.TableLaws.{table-excludes, table-read}
use Rattle.dw_lines.proofs.table.LineTable.read.Goals as goal

pub returns-clause-none : goal.returns-clause-none
returns-clause-none c = λ r f.
    table-excludes (view_source c.args.view.now c.args.section) c.args.at c.table_made.result r
    (table-read c.args.view.now c.args.section c.args.at c.in-Ok.lists.behind c.order.result c.bytes-bytes.result.now (take c.in-Some.header.end c.bytes-bytes.result.now)
    c.in-Some.header c.in-Ok.lists.dirs.items c.in-Ok.lists.files.items c.in-Ok-defined_files.defined.items c.in-Ok.lists.texts.items c.table_made.result c.order.ensures.order
    c.bytes-bytes.ensures.bytes c.in-Some.ensures.header refl c.in-Ok.ensures.read c.in-Ok.ensures.texts c.if-lists-header.false c.in-Ok-defined_files.ensures.read c.table_made.ensures.table)
    f
