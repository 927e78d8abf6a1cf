-- No unit at first; then those of a section of the list.
use Rattle.dw_base.specs.ViewData.{debug_data}
use Rattle.dw_units.proofs.ListedLaws.{headers-item, lists-start}
use Rattle.dw_units.proofs.reading.list_units.Goals as goal

pub loop-one-init : goal.loop-one-init
loop-one-init c = record {
  known = c.requires.known;
  listed = lists-start (debug_data c.args.view.now) c.args.view.now _ c.args.list.now c.new-units.result.items c.new-units.ensures.items;
}

pub push_section-requires-clause-has : goal.push_section-requires-clause-has
push_section-requires-clause-has c =
    headers-item c.args.view.now c.args.list.now c.loop-one.one-index c.one-item.result c.requires.has c.loop-one-test.true c.one-item.is
