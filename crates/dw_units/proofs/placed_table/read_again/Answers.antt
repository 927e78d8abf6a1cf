-- A table that could be read isn't refused.
use Rattle.dw_units.proofs.PlacedLaws.{never-refused}
use Rattle.dw_units.proofs.placed_table.read_again.Goals as goal

pub unreachable-requires : goal.unreachable-requires
unreachable-requires c = never-refused c.args.bytes.now 0 c.args.at _ _ c.in-Err-Refused.ensures.refused c.in-Err-Refused.field-0-is c.requires.stands
