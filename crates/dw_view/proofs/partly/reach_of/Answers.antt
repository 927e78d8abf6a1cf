-- The record of an item is there.
use Rattle.dw_view.proofs.PartlyLaws.{reach-none}
use Rattle.dw_view.proofs.partly.reach_of.Goals as goal

pub returns-in-None : goal.returns-in-None
returns-in-None c =
    record { reach = reach-none c.args.source.now c.args.list.now c.args.i c.index_of.result 1 c.in-None.ensures.value c.index_of.ensures.index c.requires.lists c.requires.inside }
