use Rattle.std.proofs.Common.{◌≡◌, ◌++◌}
use Rattle.dw_macros.specs.MacroEvents.{events_left}
use Rattle.dw_read.specs.MacroFields.{event_fields}
use Rattle.dw_read.proofs.macros.push_left.Given as goal

abbrev pub invariant-loop-event : goal.invariant-loop-event
invariant-loop-event l =
    l.fields.items ++ event_fields l.section l.width (events_left l.event-iterator) ≡ l.fn.fields.items ++ event_fields l.section l.width (events_left l.fn.events)
