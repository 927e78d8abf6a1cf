-- The first event, and those behind it.
use Rattle.dw_macros.proofs.EventLaws.{next-event, next-none}
use Rattle.dw_macros.proofs.events.next_event.Goals as goal

pub returns-in-Some-clause-event : goal.returns-in-Some-clause-event
returns-in-Some-clause-event c =
    next-event c.args.view.now c.args.section c.args.place c.in-Some.read.1 c.args.width c.in-Some.read.0 c.in-Some.ensures.event c.in-Some.ensures.behind

pub returns-in-None-clause-none : goal.returns-in-None-clause-none
returns-in-None-clause-none c = next-none c.args.view.now c.args.section c.args.place c.args.width c.in-None.ensures.event
