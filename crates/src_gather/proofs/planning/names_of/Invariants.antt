-- The names so far, and those of the jobs that are left, are all.
use Rattle.std.proofs.Common.{◌≡◌, ◌++◌, drop, map}
use Rattle.work_texts.specs.Lists.{bytes_of}
use Rattle.src_gather.proofs.LoopLaws.{name_at}
use Rattle.src_gather.proofs.planning.names_of.Given as goal

abbrev pub invariant-loop-job : goal.invariant-loop-job
invariant-loop-job l = map bytes_of l.names.items ++ map name_at (drop l.job-index l.jobs) ≡ map name_at l.jobs
