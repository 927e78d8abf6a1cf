-- One section more.
use Rattle.std.proofs.Common.{arith}
use Rattle.dw_base.specs.FileViews.{sections_named}
use Rattle.dw_view.proofs.FoundLaws.{all-more}
use Rattle.dw_view.proofs.found.all_filled.Goals as goal

pub loop-index-preserved : goal.loop-index-preserved
loop-index-preserved c =
    let below = c.loop-index-test.true in
    let count = c.count-index-end.ensures.count in
    all-more c.args.sections.now c.args.name.now c.loop-index.numbers.items c.push_filled.new.numbers.items (sections_named c.args.sections.now c.args.name.now)
    c.loop-index.index c.loop-index.invariant (omega (arith, below, count)) c.in_ok-push_filled.ensures
