use Rattle.std.proofs.Common.{◌≡◌, ◌-◌, None}
use Rattle.work_texts.specs.Rules.{path_of}
use Rattle.work_texts.specs.Reading.{job_at, many_at}
use Rattle.work_texts.proofs.Loops.{left_at}
use Rattle.work_texts.proofs.reading.jobs.Given as goal

-- the jobs so far, and what is left, are all that is read
abbrev pub invariant-jobs : goal.invariant-jobs
invariant-jobs l = left_at job_at path_of l.jobs.items (l.count - l.counter) l.rest ≡ many_at job_at path_of l.count None l.bytes
