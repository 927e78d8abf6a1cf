-- Those of each kind.
use Rattle.std.proofs.lemmas.Result.{err_from_is_err_and}
use Rattle.dw_base.specs.declared.debug_sections.DebugSection.TheVariants.{Str, LineStr, Line}
use Rattle.dw_rewrite.specs.NewPlaces.{places_known}
use Rattle.dw_rewrite.proofs.StandingLaws.{macros-fault, names-fault, slots-fault, standing-make, standing-pushed, units-fault}
use Rattle.dw_rewrite.proofs.records.push_standing.Goals as goal

pub returns-in_err-push_records-clause-refused : goal.returns-in_err-push_records-clause-refused
returns-in_err-push_records-clause-refused c =
    let p = err_from_is_err_and c.from_residual.result c.from_residual.ensures.1 in
    rw (p.1, p.2) (units-fault c.args.view.now (places_known c.args.new_places.now Str) (places_known c.args.new_places.now LineStr) (places_known c.args.new_places.now Line)
    c.args.paths.now c.units.result.now c.in_err-push_records.field-0.0 c.units.ensures c.in_err-push_records.ensures.refused)

pub returns-in_err-push_records-2-clause-refused : goal.returns-in_err-push_records-2-clause-refused
returns-in_err-push_records-2-clause-refused c =
    let p = err_from_is_err_and c.from_residual-in_err-push_records-2.result c.from_residual-in_err-push_records-2.ensures.1 in
    rw (p.1, p.2) (slots-fault c.args.view.now (places_known c.args.new_places.now Str) (places_known c.args.new_places.now LineStr) (places_known c.args.new_places.now Line)
    c.args.paths.now c.slots.result.now c.in_err-push_records-2.field-0.0 c.slots.ensures c.in_err-push_records-2.ensures.refused)

pub returns-in_err-push_records-3-clause-refused : goal.returns-in_err-push_records-3-clause-refused
returns-in_err-push_records-3-clause-refused c =
    let p = err_from_is_err_and c.from_residual-in_err-push_records-3.result c.from_residual-in_err-push_records-3.ensures.1 in
    rw (p.1, p.2) (macros-fault c.args.view.now (places_known c.args.new_places.now Str) (places_known c.args.new_places.now LineStr) (places_known c.args.new_places.now Line)
    c.args.paths.now c.macros.result.now c.in_err-push_records-3.field-0.0 c.macros.ensures c.in_err-push_records-3.ensures.refused)

pub returns-in_err-push_records-4-clause-refused : goal.returns-in_err-push_records-4-clause-refused
returns-in_err-push_records-4-clause-refused c =
    let p = err_from_is_err_and c.from_residual-in_err-push_records-4.result c.from_residual-in_err-push_records-4.ensures.1 in
    rw (p.1, p.2) (names-fault c.args.view.now (places_known c.args.new_places.now Str) (places_known c.args.new_places.now LineStr) (places_known c.args.new_places.now Line)
    c.args.paths.now c.names.result.now c.in_err-push_records-4.field-0.0 c.names.ensures c.in_err-push_records-4.ensures.refused)

pub returns-clause-bodies : goal.returns-clause-bodies
returns-clause-bodies c =
    standing-pushed c.args.sources.now c.args.view.now (places_known c.args.new_places.now Str) (places_known c.args.new_places.now LineStr) (places_known c.args.new_places.now Line)
    c.args.paths.now c.units.result.now c.slots.result.now c.macros.result.now c.names.result.now c.args.bodies.now.items c.push_records.new.bodies.items
    c.push_records-2.new.bodies.items c.push_records-3.new.bodies.items c.push_records-4.new.bodies.items c.units.ensures c.slots.ensures c.macros.ensures c.names.ensures
    c.in_ok-push_records.ensures.bodies c.in_ok-push_records-2.ensures.bodies c.in_ok-push_records-3.ensures.bodies c.in_ok-push_records-4.ensures.bodies

pub returns-clause-makes : goal.returns-clause-makes
returns-clause-makes c =
    standing-make c.args.view.now (places_known c.args.new_places.now Str) (places_known c.args.new_places.now LineStr) (places_known c.args.new_places.now Line)
    c.args.paths.now c.units.result.now c.slots.result.now c.macros.result.now c.names.result.now c.units.ensures c.slots.ensures c.macros.ensures c.names.ensures
    c.in_ok-push_records.ensures.makes c.in_ok-push_records-2.ensures.makes c.in_ok-push_records-3.ensures.makes c.in_ok-push_records-4.ensures.makes
