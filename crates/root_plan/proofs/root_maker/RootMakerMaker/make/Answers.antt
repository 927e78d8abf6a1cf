-- What the job of the number makes, and why it doesn't.
use Rattle.root_plan.proofs.MakerLaws.{make_refused, make_whole}
use Rattle.root_plan.proofs.root_maker.RootMakerMaker.make.Goals as goal

pub returns-clause-refused : goal.returns-clause-refused
returns-clause-refused g c = make_refused c.make_nodes.result _ _ _ c.job_of-line.result.now _ _ c.args.mode c.job_of-line.ensures.value c.make_nodes.ensures.ends

pub returns-clause-whole : goal.returns-clause-whole
returns-clause-whole g c = make_whole c.make_nodes.result _ _ _ c.job_of-line.result.now _ _ c.args.mode c.job_of-line.ensures.value c.make_nodes.ensures.ends
