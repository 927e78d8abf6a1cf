-- What was found of units and of slots, and what the test of each says of the readings.
use Rattle.std.proofs.lemmas.Result.{err_from_is_err_and}
use Rattle.dw_read.proofs.MapCheckLaws.{map-found, shared-fault, slots-are, units-placed}
use Rattle.dw_read.proofs.map_checks.check_map.Goals as goal

pub all_rooms_fit-requires : goal.all_rooms_fit-requires
all_rooms_fit-requires c = record {
  placed = units-placed c.args.view.now c.args.fields.now c.args.marks.now c.args.tables.now c.units.result.now c.requires.found c.units.ensures;
}

pub slots_stay-requires : goal.slots_stay-requires
slots_stay-requires c = record {
  slots = slots-are c.args.view.now c.args.fields.now c.args.marks.now c.args.tables.now c.slots.result.now c.requires.found c.slots.ensures;
}

pub returns-in_err-slots_stay-clause-refused : goal.returns-in_err-slots_stay-clause-refused
returns-in_err-slots_stay-clause-refused c =
    let p = err_from_is_err_and c.from_residual-in_err-slots_stay.result c.from_residual-in_err-slots_stay.ensures.1 in
    rw (p.1, p.2) (shared-fault c.args.maps.now c.args.view.now c.args.fields.now c.args.marks.now c.args.tables.now c.slots.result.now c.in_err-slots_stay.field-0.0 c.requires.found
    c.slots.ensures c.in_err-slots_stay.ensures.refused)

pub returns-clause-found : goal.returns-clause-found
returns-clause-found c =
    map-found c.args.maps.now c.args.view.now c.args.fields.now c.args.marks.now c.args.tables.now c.units.result.now c.slots.result.now c.requires.found c.units.ensures
    c.slots.ensures c.in_ok-all_rooms_fit.ensures.fits c.in_ok-slots_stay.ensures.stay
