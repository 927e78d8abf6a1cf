use Rattle.work_journal.proofs.BlameLaws.{make_blames}
use Rattle.work_journal.proofs.taking.make_nodes.Goals as goal

pub returns-in-Err-clause-blame : goal.returns-in-Err-clause-blame
returns-in-Err-clause-blame g c = make_blames _ _ _ _ _ _ _ c.in-Err.e _ c.requires.there c.in-Err.is c.unmade.ensures.value c.make.ensures.changed c.make.ensures.refused c.make.ensures.planned c.make.ensures.whole
