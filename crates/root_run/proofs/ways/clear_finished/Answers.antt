-- The desk's tree is the lent one, and its core is closed.
use Rattle.std.proofs.Common.{rules}
use Rattle.work_journal.proofs.FinishLaws.{finish_whole}
use Rattle.work_journal.proofs.ClearLaws.{cleared_whole}
use Rattle.root_run.proofs.ways.clear_finished.Goals as goal

pub returns : goal.returns
returns g c = record {
  ran = record {
    ran = finish_whole _ _ _ _ _ _ _ _ _ _ (search rules) c.new-desk.ensures.seen (search rules) c.clear-cleared.ensures.closed c.clear-cleared.ensures.came;
    cleared = cleared_whole _ _ _ _ (search rules) c.clear-cleared.ensures.cleared;
    mild = c.clear-cleared.ensures.mild;
  };
}
