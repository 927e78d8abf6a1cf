-- What is found among places in order is the relocation there.
use Rattle.dw_view.proofs.KeptLaws.{listed-is, listed-there}
use Rattle.dw_view.proofs.kept.listed_at.Goals as goal

pub returns-clause-there : goal.returns-clause-there
returns-clause-there c = listed-there c.args.source.now c.args.places.now c.args.place c.index_at.result c.requires.lists c.index_at.ensures.index

pub returns-clause-is : goal.returns-clause-is
returns-clause-is c = listed-is c.args.source.now c.args.places.now c.args.place c.index_at.result c.requires.lists c.requires.rise c.index_at.ensures.index
