-- One path more, and all.
use Rattle.dw_lines.proofs.TableLaws.{paths-more, paths-over}
use Rattle.dw_lines.proofs.table.as_paths.Goals as goal

pub loop-place-preserved : goal.loop-place-preserved
loop-place-preserved c = paths-more c.args.paths.now c.loop-place.place-index _ c.loop-place.texts.items _ c.loop-place.invariant c.loop-place-test.true c.in_ok-push.ensures.items

pub returns : goal.returns
returns c = record { texts = paths-over c.args.paths.now c.loop-place.place-index c.loop-place.texts.items c.loop-place.invariant c.loop-place-test.false }
