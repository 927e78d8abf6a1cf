-- All events, and one that names no unit.
use Rattle.std.proofs.Common.{rules, ◌≡◌, [], ◌∷◌}
use Rattle.std.proofs.lemmas.Result.{err_from_is_err_and}
use Rattle.dw_macros.specs.MacroEvents.{events_left}
use Rattle.dw_starts.proofs.MacroLoopLaws.{events-over, events-refused}
use Rattle.dw_starts.proofs.macros.left_name.Goals as goal

pub returns-in_err-event_names-clause-refused : goal.returns-in_err-event_names-clause-refused
returns-in_err-event_names-clause-refused c =
    let p = err_from_is_err_and c.from_residual.result c.from_residual.ensures.1 in
    let first : events_left c.loop-event.event-iterator ≡ c.in-Some.event ∷ events_left c.next.new.self = search rules in
    rw (p.1, p.2) (events-refused c.args.section c.args.places.now c.in-Some.event (events_left c.args.events) (events_left c.loop-event.event-iterator) (events_left c.next.new.self)
    c.in_err-event_names.field-0.0 c.loop-event.invariant first c.in_err-event_names.ensures.refused)

pub returns-clause-named : goal.returns-clause-named
returns-clause-named c =
    let none : events_left c.loop-event.event-iterator ≡ [] = search rules in
    events-over c.args.places.now (events_left c.args.events) (events_left c.loop-event.event-iterator) c.loop-event.invariant none
