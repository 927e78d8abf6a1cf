-- What is said of a file is one thing.
use Rattle.dbg_job.proofs.JudgedLaws.{said-only}
use Rattle.dbg_job.proofs.outcomes.verdict.Goals as goal

pub returns-clause-only : goal.returns-clause-only
returns-clause-only c =
    said-only c.args.options.now c.args.bytes.now c.args.debug_name.now c.in_ok-verdict.verdict c.in_ok-verdict.ensures.said
