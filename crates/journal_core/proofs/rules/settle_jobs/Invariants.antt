use Rattle.journal_core.specs.Span.{SettledTo}
use Rattle.journal_core.proofs.rules.settle_jobs.Given as goal

-- the jobs so far are settled, and the others are as they were
abbrev pub invariant-loop-i : goal.invariant-loop-i
invariant-loop-i l = SettledTo l.initial.states.items l.states.items l.i
