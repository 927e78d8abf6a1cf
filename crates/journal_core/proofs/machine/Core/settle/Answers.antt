use Rattle.journal_core.proofs.SpanLaws.{span_settled}
use Rattle.journal_core.proofs.machine.Core.settle.Goals as goal

pub invariant_of-self-clause-span : goal.invariant_of-self-clause-span
invariant_of-self-clause-span c = span_settled _ _ c.settle_jobs.ensures
