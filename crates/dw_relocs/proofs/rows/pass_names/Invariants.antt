use Rattle.std.proofs.Common.{length}
use Rattle.dw_base.specs.FileViews.{section_bytes}
use Rattle.dw_relocs.specs.FieldWalks.{ground_of}
use Rattle.dw_relocs.proofs.RowListLaws.{NamesSo}
use Rattle.dw_relocs.proofs.rows.pass_names.Given as goal

abbrev pub invariant-loop-item : goal.invariant-loop-item
invariant-loop-item l = NamesSo (ground_of l.view l.section) (length (section_bytes l.view l.section)) l.list l.item-index l.fn.pass l.now
