-- What the job of the number makes, and why it doesn't.
use Rattle.src_gather.proofs.CopyLaws.{copy_changed, copy_whole, never_refused}
use Rattle.src_gather.proofs.copying.CopyMakerMaker.make.Goals as goal

pub returns-clause-changed : goal.returns-clause-changed
returns-clause-changed c = copy_changed c.copy_nodes.result _ _ _ c.job_of-line.result.now c.args.job _ c.job_of-line.ensures.value c.copy_nodes.ensures.ends

pub returns-clause-refused : goal.returns-clause-refused
returns-clause-refused c = never_refused c.copy_nodes.result c.job_of-line.result.now _ c.copy_nodes.ensures.ends

pub returns-clause-planned : goal.returns-clause-planned
returns-clause-planned c = λ r e. absurd (never_refused c.copy_nodes.result c.job_of-line.result.now _ c.copy_nodes.ensures.ends r e)

pub returns-clause-whole : goal.returns-clause-whole
returns-clause-whole c = copy_whole c.copy_nodes.result c.job_of-line.result.now _ _ c.job_of-line.ensures.value c.copy_nodes.ensures.ends
