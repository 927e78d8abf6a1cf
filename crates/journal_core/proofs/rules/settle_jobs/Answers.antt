use Rattle.std.proofs.Common.{arith}
use Rattle.journal_core.proofs.SpanLaws.{settled_whole}
use Rattle.journal_core.proofs.rules.settle_jobs.Goals as goal

pub returns : goal.returns
returns c = settled_whole _ _ _ _ _ c.requires c.loop-i.invariant (omega arith)
