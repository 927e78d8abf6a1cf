-- What was put into the room of a path.
use Rattle.std.proofs.Common.{ap, sym, ◌∙◌, arith, option_map}
use Rattle.dw_rewrite.proofs.InlineRoomLaws.{room-put}
use Rattle.dw_rewrite.proofs.inline.map_room.Goals as goal

pub returns-clause-out : goal.returns-clause-out
returns-clause-out c =
    room-put c.args.maps.now c.args.info.now c.args.out.now c.copy_from_slice.new.self c.in-Some.mapped.items c.args.path _ (omega arith)
    (c.copy_from_slice.ensures.after ∙ c.deref.ensures.value)
    (ap (option_map (λ path. path.items)) (sym c.in-Some.is) ∙ c.in_ok-mapped.ensures.value)
