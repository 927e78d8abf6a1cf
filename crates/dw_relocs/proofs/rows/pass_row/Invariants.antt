use Rattle.dw_relocs.specs.FieldWalks.{ground_of}
use Rattle.dw_relocs.proofs.RowLaws.{RowSo}
use Rattle.dw_relocs.proofs.rows.pass_row.Given as goal

abbrev pub invariant-loop-i : goal.invariant-loop-i
invariant-loop-i l = RowSo (ground_of l.view l.section) l.start l.width l.i l.fn.pass l.now
