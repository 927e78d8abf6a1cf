use Rattle.std.proofs.Common.{length}
use Rattle.dw_base.specs.FileViews.{section_bytes}
use Rattle.dw_relocs.specs.FieldWalks.{ground_of}
use Rattle.dw_relocs.proofs.RowListLaws.{SlotsSo}
use Rattle.dw_relocs.proofs.rows.pass_slots.Given as goal

abbrev pub invariant-loop-item : goal.invariant-loop-item
invariant-loop-item l = SlotsSo (ground_of l.view l.section) (length (section_bytes l.view l.section)) l.list l.item-index l.fn.pass l.now
