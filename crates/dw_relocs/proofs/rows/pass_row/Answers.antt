-- The first offset, and one more.
use Rattle.dw_relocs.specs.FieldWalks.{ground_of}
use Rattle.dw_relocs.proofs.RowLaws.{row-more, row-starts}
use Rattle.dw_relocs.proofs.rows.pass_row.Goals as goal

pub loop-i-init : goal.loop-i-init
loop-i-init c = row-starts (ground_of c.args.view.now c.args.section) c.args.start c.args.width c.args.pass c.requires.stands

pub loop-i-preserved : goal.loop-i-preserved
loop-i-preserved c =
    row-more (ground_of c.args.view.now c.args.section) c.args.start c.loop-i.i c.offset_size-size.result c.place_in-place.result c.args.width c.args.pass c.loop-i.now
    c.pass_offset-now.result c.loop-i.invariant c.place_in-place.ensures.place c.offset_size-size.ensures.size c.pass_offset-now.ensures.goes
