-- The code stands already, or it is one more.
use Rattle.dw_abbrev.proofs.CodedLaws.{added-false, coded_pushed}
use Rattle.dw_abbrev.proofs.Rows.{twice_here}
use Rattle.dw_abbrev.proofs.run.declare.Goals as goal

pub returns-then-not-added-clause-stopped : goal.returns-then-not-added-clause-stopped
returns-then-not-added-clause-stopped c =
    twice_here c.args.bytes.now c.args.codes.now.keys c.args.list.now.items c.args.at c.args.code c.args.size c.requires.code c.requires.declares c.requires.coded
    (added-false c.in_ok-added.added _ c.in_ok-added.ensures.added c.if-not-added.true)

pub returns-clause-coded : goal.returns-clause-coded
returns-clause-coded c =
    coded_pushed c.args.codes.now.keys c.insert_full.new.self.keys c.args.list.now.items c.push.new.self.items c.args.code c.in_ok-abbrev.abbrev c.in_ok-added.added
    c.requires.coded c.in_ok-added.ensures.added c.if-not-added.false c.in_ok-added.ensures.keys c.in_ok-push.ensures.items c.in_ok-abbrev.ensures.code
