-- The first that begins late enough, one that lies on the field, and one that doesn't.
use Rattle.std.proofs.Common.{◌+◌, ◌-◌, arith, refl}
use Rattle.dw_view.proofs.PartlyLaws.{none-first, none-more, partly-found}
use Rattle.dw_view.proofs.partly.partly_from.Goals as goal

pub loop-i-init : goal.loop-i-init
loop-i-init c =
    none-first c.args.source.now c.args.list.now c.args.place c.args.size c.args.first (c.args.place - 7) c.requires.lists c.requires.rise
    refl c.requires.before

pub returns-then-reaches_over : goal.returns-then-reaches_over
returns-then-reaches_over c = record {
  place = partly-found c.args.source.now c.args.list.now c.args.place c.args.size c.loop-i.i c.place_at-at.result (c.args.place + c.args.size) c.reaches_over.result
      c.requires.lists c.requires.rise (omega arith) c.place_at-at.ensures.place refl (omega arith) c.reaches_over.ensures.over c.if-reaches_over.true c.loop-i.invariant;
}

pub loop-i-preserved : goal.loop-i-preserved
loop-i-preserved c =
    none-more c.args.source.now c.args.list.now c.args.place c.args.size c.loop-i.i c.place_at-at.result (c.args.place + c.args.size) c.reaches_over.result
    c.requires.lists c.requires.rise (omega arith) c.place_at-at.ensures.place refl (omega arith) c.reaches_over.ensures.over c.if-reaches_over.false c.loop-i.invariant
