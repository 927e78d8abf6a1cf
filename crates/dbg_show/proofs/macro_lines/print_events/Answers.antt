-- Printed whole, or cut at one.
use Rattle.std.proofs.Common.{rules, ◌≡◌, [], ◌∷◌}
use Rattle.std.specs.String.{string_bytes}
use Rattle.dw_macros.specs.MacroEvents.{events_left}
use Rattle.dbg_show.proofs.MacroLoopLaws.{events-over, events-cut, here-there}
use Rattle.dbg_show.proofs.macro_lines.print_events.Goals as goal

pub print_event-requires-clause-there : goal.print_event-requires-clause-there
print_event-requires-clause-there g c =
    let first : events_left c.loop-event.event-iterator ≡ c.in-Some.event ∷ events_left c.next.new.self = search rules in
    here-there c.args.source.now c.in-Some.event (events_left c.args.events) (events_left c.loop-event.event-iterator) (events_left c.next.new.self) (string_bytes c.args.text.now)
    (string_bytes c.loop-event.text) (g.O.Sink.heard c.args.out.now) (g.O.Sink.heard c.loop-event.out) c.loop-event.invariant first

pub returns-in-Err-clause-cut : goal.returns-in-Err-clause-cut
returns-in-Err-clause-cut g c =
    let first : events_left c.loop-event.event-iterator ≡ c.in-Some.event ∷ events_left c.next.new.self = search rules in
    events-cut c.args.source.now c.in-Some.event (events_left c.args.events) (events_left c.loop-event.event-iterator) (events_left c.next.new.self) (string_bytes c.args.text.now)
    (string_bytes c.loop-event.text) (g.O.Sink.heard c.args.out.now) (g.O.Sink.heard c.loop-event.out) (g.O.Sink.heard c.print_event.new.out) c.in-Err.e c.loop-event.invariant.goes first
    c.in-Err.ensures.cut

pub returns-clause-done : goal.returns-clause-done
returns-clause-done g c =
    let none : events_left c.loop-event.event-iterator ≡ [] = search rules in
    events-over c.args.source.now (events_left c.args.events) (events_left c.loop-event.event-iterator) (string_bytes c.args.text.now) (string_bytes c.loop-event.text)
    (g.O.Sink.heard c.args.out.now) (g.O.Sink.heard c.loop-event.out) c.loop-event.invariant.goes none
