use Rattle.dw_macros.specs.MacroEvents.{events_left}
use Rattle.dw_starts.proofs.MacroLoopLaws.{EventsPassed}
use Rattle.dw_starts.proofs.macros.left_name.Given as goal

abbrev pub invariant-loop-event : goal.invariant-loop-event
invariant-loop-event l = EventsPassed l.places (events_left l.fn.events) (events_left l.event-iterator)
