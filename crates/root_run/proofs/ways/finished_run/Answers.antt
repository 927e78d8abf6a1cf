-- The report of a run that is over.
use Rattle.std.proofs.Common.{rules}
use Rattle.root_plan.specs.Plans.{key_of}
use Rattle.root_run.proofs.OldLaws.{cleared-over}
use Rattle.root_run.proofs.ways.finished_run.Goals as goal

pub returns : goal.returns
returns g c = record {
  ended = cleared-over _ (key_of c.args.options.now) c.args.report _ _ _ c.args.old c.clear_finished-cleared.result (search rules) c.clear_finished-cleared.ensures.ran c.report_end.ensures.value;
}
