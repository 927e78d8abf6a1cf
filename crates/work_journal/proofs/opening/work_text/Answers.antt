use Rattle.work_journal.proofs.OpeningLaws.{found_stands, found_blames, found_fault, fault_blames, looked_read, fault_of}
use Rattle.work_journal.proofs.opening.work_text.Goals as goal

pub returns-in-Ok-clause-stands : goal.returns-in-Ok-clause-stands
returns-in-Ok-clause-stands g c = found_stands (g.T.Tree.seen c.args.tree.now) c.args.path.now c.in-Ok.found c.text_in.result c.in-Ok.ensures.told c.text_in.ensures.bytes

pub returns-in-Ok-clause-blame : goal.returns-in-Ok-clause-blame
returns-in-Ok-clause-blame g c = found_blames (g.T.Tree.seen c.args.tree.now) c.args.path.now c.args.file c.in-Ok.found c.text_in.result c.in-Ok.ensures.told c.text_in.ensures.bad

pub returns-in-Ok-clause-looked : goal.returns-in-Ok-clause-looked
returns-in-Ok-clause-looked g c = looked_read _ _ _ _ c.args.path.now c.read.ensures.done c.read.ensures.failed c.read.ensures.cause c.read.ensures.tells (λ h. absurd (found_fault c.args.file c.in-Ok.found c.text_in.result c.text_in.ensures.bad h))

pub returns-in-Err-clause-blame : goal.returns-in-Err-clause-blame
returns-in-Err-clause-blame g c = fault_blames (g.T.Tree.seen c.args.tree.now) c.args.path.now c.args.file c.in-Err.e c.stopped.result c.stopped.ensures.value

pub returns-in-Err-clause-looked : goal.returns-in-Err-clause-looked
returns-in-Err-clause-looked g c = looked_read _ _ _ _ c.args.path.now c.read.ensures.done c.read.ensures.failed c.read.ensures.cause c.read.ensures.tells (fault_of _ c.in-Err.e c.stopped.result c.in-Err.is c.stopped.ensures.value)
