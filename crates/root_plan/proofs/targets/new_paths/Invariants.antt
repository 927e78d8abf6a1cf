-- The paths so far, and those of the jobs that are left, are all.
use Rattle.std.proofs.Common.{◌≡◌, ◌++◌, drop, map}
use Rattle.std.specs.List.{flat_map}
use Rattle.std.specs.String.{string_bytes}
use Rattle.root_plan.proofs.TargetLaws.{paths_in}
use Rattle.root_plan.proofs.targets.new_paths.Given as goal

abbrev pub invariant-loop-job : goal.invariant-loop-job
invariant-loop-job l = map string_bytes l.paths.items ++ flat_map (paths_in l.root) (drop l.job-index l.jobs) ≡ flat_map (paths_in l.root) l.jobs
