use Rattle.std.proofs.Common.{map}
use Rattle.std.specs.String.{string_bytes}
use Rattle.work_journal.specs.Begun.{AreShown}
use Rattle.work_journal.proofs.starting.shown_jobs.Given as goal

abbrev pub invariant-loop-job : goal.invariant-loop-job
invariant-loop-job g l = AreShown l.work (map string_bytes l.present) (g.M.Maker.view l.maker).steps l.steps.items l.states.items l.job
