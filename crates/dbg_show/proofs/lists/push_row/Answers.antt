-- What stands in front of the file, the file, and what stands behind it.
use Rattle.dbg_show.proofs.RowTextLaws.{row-ends}
use Rattle.dbg_show.proofs.lists.push_row.Goals as goal

pub returns : goal.returns
returns c = record {
  text = row-ends c.push_back.result c.args.lists.now c.args.row.now _ _ _ _ c.push_back.ensures.text c.in_ok-push_shown.ensures.text c.in_ok-push_front.ensures.text;
}
