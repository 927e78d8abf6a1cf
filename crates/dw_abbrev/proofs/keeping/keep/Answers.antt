-- One more is put behind the others.
use Rattle.dw_abbrev.proofs.KeptLaws.{kept-pushed}
use Rattle.dw_abbrev.proofs.keeping.keep.Goals as goal

pub returns : goal.returns
returns c = record {
  kept = kept-pushed c.args.bytes.now c.args.kept.now.items c.push.new.self.items c.args.at c.args.table c.requires.kept c.requires.table c.in_ok-push.ensures.items;
}
