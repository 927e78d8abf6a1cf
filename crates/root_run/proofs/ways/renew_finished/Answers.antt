-- The desk's tree is the lent one, and its core is that of a run that an earlier program finished.
use Rattle.std.proofs.Common.{rules}
use Rattle.work_journal.proofs.FinishLaws.{finish_whole}
use Rattle.work_journal.proofs.ClearLaws.{cleared_whole}
use Rattle.root_run.proofs.ways.renew_finished.Goals as goal

pub returns : goal.returns
returns g c = record {
  ran = record {
    ran = finish_whole _ _ _ _ _ _ _ _ _ _ (search rules) c.new-desk.ensures.seen (search rules) c.renew_at-renewed.ensures.closed c.renew_at-renewed.ensures.came;
    cleared = cleared_whole _ _ _ _ (search rules) c.renew_at-renewed.ensures.cleared;
    mild = c.renew_at-renewed.ensures.mild;
  };
}
