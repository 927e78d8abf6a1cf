-- The report of a gather that is over.
use Rattle.std.proofs.Common.{rules}
use Rattle.src_gather.proofs.CarriedLaws.{cleared-over}
use Rattle.src_gather.proofs.starting.finished_gather.Goals as goal

pub returns : goal.returns
returns g c = record {
  ended = cleared-over _ c.args.key.now c.args.report _ _ _ c.args.old c.clear_finished-cleared.result (search rules) c.clear_finished-cleared.ensures.ran c.report_end.ensures.value;
}
