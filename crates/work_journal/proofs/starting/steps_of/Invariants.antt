use Rattle.std.proofs.Common.{◌≡◌, take}
use Rattle.work_journal.proofs.starting.steps_of.Given as goal

abbrev pub invariant-loop-job : goal.invariant-loop-job
invariant-loop-job g l = l.steps.items ≡ take l.job (g.M.Maker.view l.maker).steps
