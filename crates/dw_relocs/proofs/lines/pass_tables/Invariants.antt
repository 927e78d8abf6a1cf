use Rattle.dw_lines.specs.ViewSources.{view_source}
use Rattle.dw_relocs.specs.FieldWalks.{ground_of}
use Rattle.dw_relocs.specs.LinePasses.{TablesSo}
use Rattle.dw_relocs.proofs.lines.pass_tables.Given as goal

abbrev pub invariant-loop-table : goal.invariant-loop-table
invariant-loop-table l = TablesSo (ground_of l.view l.section) (view_source l.view l.section) l.tables l.table-index l.fn.pass l.now
