-- What is said of a file of a build root before its outputs are made. This project's profile.
use Rattle.job_types.specs.declared.outcome.Outcome.{Outcome}
use Rattle.job_types.specs.declared.outcome.Outcome.TheVariants as outcome
use Rattle.job_types.specs.declared.outcome.Verdict.{Verdict}
use Rattle.job_types.specs.declared.outcome.Verdict.TheVariants as verdict

-- what a job makes of a file says this of it
abbrev pub verdict_of : Outcome → Verdict
verdict_of (outcome.Split stripped debug id sources) = verdict.Split id sources
verdict_of (outcome.Edited bytes sources) = verdict.Edited sources
verdict_of (outcome.Left why) = verdict.Left why
