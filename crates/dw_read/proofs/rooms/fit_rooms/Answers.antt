-- One that would be longer.
use Rattle.std.proofs.Common.{arith, sym, ◌∙◌}
use Rattle.std.proofs.lemmas.List.{get_or_default}
use Rattle.dw_read.proofs.RoomFitLaws.{rooms-refused}
use Rattle.dw_read.proofs.rooms.fit_rooms.Goals as goal

pub returns-then-not-fits_room-clause-refused : goal.returns-then-not-fits_room-clause-refused
returns-then-not-fits_room-clause-refused c =
    rooms-refused c.args.maps.now c.args.section c.args.info.now c.args.paths.now c.loop-path.path-index _ c.at.result (omega arith)
    (get_or_default c.args.paths.now c.loop-path.path-index _ _ (omega arith)) (sym c.fits_room.ensures ∙ c.if-not-fits_room.true) c.at.ensures
