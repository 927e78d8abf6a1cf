-- Behind an event offsets can be read, too.
use Rattle.dw_macros.proofs.EventLaws.{reads-behind}
use Rattle.dw_macros.proofs.events.event_in.Goals as goal

pub returns-in-Some-clause-reads : goal.returns-in-Some-clause-reads
returns-in-Some-clause-reads c =
    reads-behind c.args.view.now c.args.section c.args.place c.in-Some.next c.args.width c.bytes.result.now c.in-Some.operation c.event_by.result
    c.requires.reads c.bytes.ensures.bytes c.in-Some.ensures.operation c.event_by.ensures.event c.event_by.ensures.behind
