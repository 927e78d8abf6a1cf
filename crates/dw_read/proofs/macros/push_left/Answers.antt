-- One event more, and all.
use Rattle.std.proofs.Common.{rules, ◌≡◌, [], ◌∷◌}
use Rattle.dw_macros.specs.MacroEvents.{events_left}
use Rattle.dw_read.proofs.MacroSectionLaws.{event-more, events-over}
use Rattle.dw_read.proofs.macros.push_left.Goals as goal

pub loop-event-preserved : goal.loop-event-preserved
loop-event-preserved c =
    let first : events_left c.loop-event.event-iterator ≡ c.in-Some.event ∷ events_left c.next.new.self = search rules in
    event-more c.args.section c.args.width c.in-Some.event (events_left c.args.events) (events_left c.loop-event.event-iterator) (events_left c.next.new.self) c.args.fields.now.items
    c.loop-event.fields.items c.push_event.new.fields.items first c.loop-event.invariant c.in_ok-push_event.ensures

pub returns : goal.returns
returns c =
    let none : events_left c.loop-event.event-iterator ≡ [] = search rules in
    events-over c.args.section c.args.width (events_left c.args.events) (events_left c.loop-event.event-iterator) c.args.fields.now.items c.loop-event.fields.items none c.loop-event.invariant
