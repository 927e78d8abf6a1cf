-- What is known of a section, and why a path of one would grow.
use Rattle.std.proofs.Common.{arith}
use Rattle.std.proofs.lemmas.Result.{err_from_is_err_and}
use Rattle.dw_read.proofs.RoomFitLaws.{all-end}
use Rattle.dw_unit_fields.proofs.SectionFactLaws.{places-at, facts-at, facts-row}
use Rattle.dw_read.proofs.rooms.all_rooms_fit.Goals as goal

pub rooms_fit-requires : goal.rooms_fit-requires
rooms_fit-requires c = record {
  paths = places-at c.args.view.now c.args.paths.now c.loop-found.found-index c.found-item.result c.requires.placed (omega arith)
      c.found-item.is;
}

pub returns-in_err-rooms_fit-clause-refused : goal.returns-in_err-rooms_fit-clause-refused
returns-in_err-rooms_fit-clause-refused c =
    let p = err_from_is_err_and c.from_residual.result c.from_residual.ensures.1 in
    rw (p.1, p.2) (facts-row c.args.maps.now c.args.view.now c.found-item.result c.in_err-rooms_fit.field-0.0
    (facts-at c.args.view.now c.args.paths.now c.loop-found.found-index c.found-item.result c.requires.placed (omega arith)
    c.found-item.is) c.in_err-rooms_fit.ensures.refused)

pub returns-clause-fits : goal.returns-clause-fits
returns-clause-fits c = all-end c.args.maps.now c.args.view.now c.args.paths.now c.loop-found.found-index c.requires.placed (omega arith) c.loop-found.invariant
