-- Each is the view's.
use Rattle.dw_read.proofs.FoundUnitLaws.{tables-same}
use Rattle.dw_read.proofs.paths.text_tables.Goals as goal

pub returns : goal.returns
returns c =
    tables-same c.args.view.now c.new.result c.new-2.result c.located.result c.located-2.result c.new.ensures c.new-2.ensures c.located.ensures.section c.located-2.ensures.section
