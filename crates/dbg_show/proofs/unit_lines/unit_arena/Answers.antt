-- A unit that can be read isn't refused.
use Rattle.dw_attrs.proofs.EntryPassLaws.{unit-passes}
use Rattle.dbg_show.proofs.unit_lines.unit_arena.Goals as goal

pub unreachable-requires : goal.unreachable-requires
unreachable-requires c =
    unit-passes c.args.view.now c.args.unit.now c.args.table.now _ _ c.in-Err-Refused.ensures.refused c.in-Err-Refused.field-0-is c.requires.reads
