-- The paths that were looked at are those that the job makes.
use Rattle.std.proofs.Common.{◌∙◌, ◌++◌, List, String, ap, map}
use Rattle.std.specs.declared.alloc.Global.{Global}
use Rattle.std.specs.String.{string_bytes}
use Rattle.root_paths.proofs.EachLookLaws.{each_at}
use Rattle.root_plan.proofs.TargetLaws.{paths_in}
use Rattle.root_plan.proofs.planning.look_at_job.Goals as goal

pub returns-clause-each : goal.returns-clause-each
returns-clause-each g c =
    each_at _ _ _ _
    (ap (map (λ (s : String Global). string_bytes s)) c.deref.ensures.value ∙ c.in_ok-push_paths.ensures.value
    ∙ ap (λ (ss : List (String Global)). map (λ (s : String Global). string_bytes s) ss ++ paths_in c.args.root.now c.args.job.now) c.new-paths.ensures.items)
    c.in_ok-look_at_each.ensures.each
