-- The end of a gather by its report, and by why it has none.
use Rattle.std.proofs.Common.{refl}
use Rattle.dbg_run.proofs.GatherLaws.{reported_ends, reported_starts, unreported_ends, unreported_fault, unreported_starts}
use Rattle.dbg_run.proofs.RootLaws.{reported_fault}
use Rattle.dbg_run.proofs.gather.gathered_end.Goals as goal

pub returns-in-Ok-clause-ends : goal.returns-in-Ok-clause-ends
returns-in-Ok-clause-ends g c = reported_ends _ _ _ _ _ _ _ _ c.in-Ok.report _ _ c.in-Ok.is c.write_report.ensures.ends c.gathered.ensures.ran

pub returns-in-Ok-clause-starts : goal.returns-in-Ok-clause-starts
returns-in-Ok-clause-starts g c = reported_starts _ _ _ _ _ _ _ _ c.in-Ok.report _ _ c.in-Ok.is c.write_report.ensures.ends c.gathered.ensures.ran

pub returns-in-Ok-clause-fault : goal.returns-in-Ok-clause-fault
returns-in-Ok-clause-fault g c = λ is. reported_fault _ _ _ _ _ c.write_report.ensures.ends is

pub returns-in-Ok-clause-others : goal.returns-in-Ok-clause-others
returns-in-Ok-clause-others g c = c.gathered.ensures.ran.below

pub returns-in-Ok-clause-tells : goal.returns-in-Ok-clause-tells
returns-in-Ok-clause-tells g c = c.gathered.ensures.ran.tells

pub returns-in-Err-clause-ends : goal.returns-in-Err-clause-ends
returns-in-Err-clause-ends g c = unreported_ends _ _ _ _ _ _ _ _ c.in-Err.failure _ _ c.in-Err.is c.gather_end.ensures.end refl c.gathered.ensures.ran

pub returns-in-Err-clause-starts : goal.returns-in-Err-clause-starts
returns-in-Err-clause-starts g c = unreported_starts _ _ _ _ _ _ _ _ c.in-Err.failure _ _ c.in-Err.is c.gather_end.ensures.end c.gathered.ensures.ran

pub returns-in-Err-clause-fault : goal.returns-in-Err-clause-fault
returns-in-Err-clause-fault g c = unreported_fault _ _ _ _ _ _ c.in-Err.failure _ _ c.in-Err.is c.gather_end.ensures.end c.gathered.ensures.ran

pub returns-in-Err-clause-others : goal.returns-in-Err-clause-others
returns-in-Err-clause-others g c = c.gathered.ensures.ran.below

pub returns-in-Err-clause-tells : goal.returns-in-Err-clause-tells
returns-in-Err-clause-tells g c = c.gathered.ensures.ran.tells
