use Rattle.std.proofs.Common.{◌≡◌, ◌++◌, drop}
use Rattle.std.specs.List.{flat_map}
use Rattle.work_texts.specs.Fields.{text_of, job_fields}
use Rattle.work_texts.proofs.writing.put_jobs.Given as goal

-- what is written, and the jobs that are left, are all
abbrev pub invariant-loop-job : goal.invariant-loop-job
invariant-loop-job l = l.out.items ++ text_of (flat_map job_fields (drop l.job-index l.jobs)) ≡ l.fn.out.items ++ text_of (flat_map job_fields l.jobs)
