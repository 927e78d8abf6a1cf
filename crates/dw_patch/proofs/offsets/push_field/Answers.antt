-- One field more fits, where none begins at its place.
use Rattle.dw_patch.proofs.OffsetListLaws.{fit-more}
use Rattle.dw_patch.proofs.offsets.push_field.Goals as goal

pub returns-clause-fit : goal.returns-clause-fit
returns-clause-fit c =
    fit-more c.args.list.now.items c.push.new.self.items c.args.at c.args.size c.args.value c.requires.fit c.requires.size c.requires.other c.in_ok-push.ensures.items
