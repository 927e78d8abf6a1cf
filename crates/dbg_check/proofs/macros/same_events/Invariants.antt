-- What is left of both walks says the same exactly where all does.
use Rattle.dw_macros.specs.MacroEvents.{events_left}
use Rattle.dbg_check.proofs.MacroLaws.{SameLeft}
use Rattle.dbg_check.specs.MacroSides.{events_said}
use Rattle.dbg_check.proofs.macros.same_events.Given as goal

abbrev pub invariant-loop-event : goal.invariant-loop-event
invariant-loop-event l =
    SameLeft (events_said l.old (events_left l.fn.events)) (events_said l.new (events_left l.fn.others)) (events_said l.old (events_left l.event-iterator))
    (events_said l.new (events_left l.others))
