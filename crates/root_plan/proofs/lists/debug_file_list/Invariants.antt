-- What is written, and the jobs that are left, are all.
use Rattle.std.proofs.Common.{◌≡◌, ◌++◌, drop}
use Rattle.std.specs.List.{flat_map}
use Rattle.root_plan.proofs.ListLaws.{debug_text}
use Rattle.root_plan.proofs.lists.debug_file_list.Given as goal

abbrev pub invariant-loop-job : goal.invariant-loop-job
invariant-loop-job l = l.out.items ++ flat_map debug_text (drop l.job-index l.jobs) ≡ flat_map debug_text l.jobs
