-- The paths so far, and those of the jobs that are left, are all.
use Rattle.std.proofs.Common.{◌≡◌, ◌++◌, drop, map}
use Rattle.std.specs.String.{string_bytes}
use Rattle.src_gather.proofs.LoopLaws.{copy_at}
use Rattle.src_gather.proofs.planning.copies_of.Given as goal

abbrev pub invariant-loop-job : goal.invariant-loop-job
invariant-loop-job l = map string_bytes l.paths.items ++ map (copy_at l.folder) (drop l.job-index l.jobs) ≡ map (copy_at l.folder) l.jobs
