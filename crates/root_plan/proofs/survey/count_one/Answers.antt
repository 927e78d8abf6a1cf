-- The count that was set is one more.
use Rattle.root_plan.proofs.CountLaws.{counts_more}
use Rattle.root_plan.proofs.survey.count_one.Goals as goal

pub returns : goal.returns
returns c = record {
  counts = counts_more _ _ _ c.in_ok-key.key c.count_of-count.result c.in_ok-insert.ensures.entries c.in_ok-key.ensures.items c.count_of-count.ensures.value;
}
