-- A field that is set was free, and the others stay so.
use Rattle.std.proofs.Common.{arith}
use Rattle.std.proofs.lemmas.List.{get_or_default}
use Rattle.dw_rewrite.proofs.FieldSetLaws.{pass-end, pass-free, pass-more}
use Rattle.dw_rewrite.specs.NewPlaces.{places_known}
use Rattle.dw_rewrite.proofs.change.set_fields.Goals as goal

pub set_known-requires-clause-free : goal.set_known-requires-clause-free
set_known-requires-clause-free c =
    pass-free c.args.source.now (places_known c.args.new_places.now c.args.into) c.args.fields.now c.args.patches.now c.loop-at.patches
    c.loop-at.at-index _ c.loop-at.invariant (omega arith) (get_or_default c.args.fields.now c.loop-at.at-index _ _ (omega arith))

pub loop-at-preserved : goal.loop-at-preserved
loop-at-preserved c =
    pass-more c.args.source.now (places_known c.args.new_places.now c.args.into) c.args.fields.now c.args.patches.now c.loop-at.patches
    c.set_known.new.patches c.loop-at.at-index _ c.place_for-new.result c.loop-at.invariant (omega arith)
    (get_or_default c.args.fields.now c.loop-at.at-index _ _ (omega arith)) c.place_for-new.ensures.place c.in_ok-set_known.ensures.set

pub returns-clause-set : goal.returns-clause-set
returns-clause-set c =
    pass-end c.args.source.now (places_known c.args.new_places.now c.args.into) c.args.fields.now c.args.patches.now c.loop-at.patches c.loop-at.at-index c.loop-at.invariant (omega arith)
