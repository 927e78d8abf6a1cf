use Rattle.std.proofs.Common.{◌≡◌, length}
use Rattle.dw_rewrite.proofs.InlineRoomLaws.{RoomsPassed}
use Rattle.dw_rewrite.proofs.inline.map_rooms.Given as goal

abbrev pub invariant-loop-path : goal.invariant-loop-path
invariant-loop-path l = record {
  long : length l.out ≡ length l.info;
  passed : RoomsPassed l.maps l.info l.paths l.fn.out l.out l.path-index;
}
