-- The field lies in the section, and its offset is that of the slot's cells.
use Rattle.std.proofs.Common.{sym}
use Rattle.dw_offsets.proofs.PathSlotLaws.{slot-offset, slot-there}
use Rattle.dw_offsets.proofs.slot_fields.Table.field.Goals as goal

pub offset-requires-clause-inside : goal.offset-requires-clause-inside
offset-requires-clause-inside c =
    slot-there c.self.inside.view.now c.self.inside.section c.args.at c.args.size c.args.self.now (sym c.self.view_is) c.requires.inside

pub returns-clause-offset : goal.returns-clause-offset
returns-clause-offset c =
    slot-offset c.self.inside.view.now c.self.inside.section c.args.at c.args.size c.args.self.now c.offset.result (sym c.self.view_is)
    c.requires.some c.requires.inside c.offset.ensures.read
