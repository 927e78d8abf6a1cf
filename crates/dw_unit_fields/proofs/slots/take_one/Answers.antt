-- A slot that a value names lies in the section.
use Rattle.std.proofs.Common.{length}
use Rattle.dw_unit_fields.proofs.SlotRunLaws.{mark-inside}
use Rattle.dw_unit_fields.proofs.slots.take_one.Goals as goal

pub mark-requires : goal.mark-requires
mark-requires c = record {
  inside = mark-inside c.args.contributions.now c.args.base c.args.index.now.index (length c.args.marks.now) c.in-Some.place c.place_by.result c.requires.within
      c.place_by.ensures c.in-Some.is;
}
