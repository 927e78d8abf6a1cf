-- No string offset at first, and one more.
use Rattle.dw_offsets.proofs.NameStringLaws.{strings-first, strings-more}
use Rattle.dw_offsets.proofs.name_strings.push_fields.Goals as goal

pub loop-i-init : goal.loop-i-init
loop-i-init c = strings-first c.args.fields.now.items c.args.table.now.width c.args.table.now.strings

pub loop-i-preserved : goal.loop-i-preserved
loop-i-preserved c =
    strings-more c.args.fields.now.items c.loop-i.fields.items c.push.new.self.items c.args.table.now c.loop-i.i _ _ c.loop-i.invariant
    c.string_place-at.ensures.place c.offset_size-size.ensures.size c.in_ok-push.ensures.items
