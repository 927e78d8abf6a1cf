-- One path more, and one that would be longer.
use Rattle.std.proofs.Common.{arith}
use Rattle.std.proofs.lemmas.List.{get_or_default}
use Rattle.std.proofs.lemmas.Result.{err_from_is_err_and}
use Rattle.dw_rewrite.proofs.InlineRoomLaws.{rooms-more, rooms-refused}
use Rattle.dw_rewrite.proofs.inline.map_rooms.Goals as goal

pub map_room-requires-clause-inside : goal.map_room-requires-clause-inside
map_room-requires-clause-inside c = c.requires.rooms.each c.loop-path.path-index _ (omega arith)

pub returns-in_err-map_room-clause-refused : goal.returns-in_err-map_room-clause-refused
returns-in_err-map_room-clause-refused c =
    let p = err_from_is_err_and c.from_residual.result c.from_residual.ensures.1 in
    rw (p.1, p.2) (rooms-refused c.args.maps.now c.args.section c.args.info.now c.args.paths.now c.loop-path.path-index _ c.in_err-map_room.field-0.0 (omega arith)
    (get_or_default c.args.paths.now c.loop-path.path-index _ _ (omega arith)) c.in_err-map_room.ensures.refused)

pub loop-path-preserved : goal.loop-path-preserved
loop-path-preserved c = record {
  long = c.in_ok-map_room.ensures.long;
  passed = rooms-more c.args.maps.now c.args.info.now c.args.paths.now c.args.out.now c.loop-path.out c.map_room.new.out c.loop-path.path-index _ (omega arith)
      (get_or_default c.args.paths.now c.loop-path.path-index _ _ (omega arith)) c.loop-path.invariant.passed c.in_ok-map_room.ensures.out c.in_ok-map_room.ensures.fits;
}
