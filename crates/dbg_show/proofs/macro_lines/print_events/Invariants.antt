use Rattle.std.specs.String.{string_bytes}
use Rattle.dw_macros.specs.MacroEvents.{events_left}
use Rattle.dbg_show.proofs.MacroLoopLaws.{EventsGo}
use Rattle.dbg_show.proofs.macro_lines.print_events.Given as goal

-- the events that the iterator has are left
abbrev pub invariant-loop-event : goal.invariant-loop-event
invariant-loop-event g l =
    EventsGo l.source (events_left l.fn.events) (events_left l.event-iterator) (string_bytes l.fn.text) (g.O.Sink.heard l.fn.out) (g.O.Sink.heard l.out) (string_bytes l.text)
