-- A field that is added was absent, and the others stay so.
use Rattle.std.proofs.Common.{arith}
use Rattle.std.proofs.lemmas.List.{get_or_default}
use Rattle.std.proofs.lemmas.Result.{err_from_is_err_and}
use Rattle.dw_rewrite.proofs.OffsetAddLaws.{pass-absent, pass-end, pass-fault, pass-made, pass-more}
use Rattle.dw_rewrite.specs.NewPlaces.{places_known}
use Rattle.dw_rewrite.proofs.records.add_fields.Goals as goal

pub add_known-requires-clause-absent : goal.add_known-requires-clause-absent
add_known-requires-clause-absent c =
    pass-absent c.args.source.now (places_known c.args.new_places.now c.args.into) c.args.fields.now c.args.offsets.now c.loop-at.offsets
    c.loop-at.at-index _ c.loop-at.invariant (omega arith) (get_or_default c.args.fields.now c.loop-at.at-index _ _ (omega arith))

pub loop-at-preserved : goal.loop-at-preserved
loop-at-preserved c =
    pass-more c.args.source.now (places_known c.args.new_places.now c.args.into) c.args.fields.now c.args.offsets.now c.loop-at.offsets
    c.add_known.new.offsets c.loop-at.at-index _ c.place_for-new.result c.loop-at.invariant (omega arith)
    (get_or_default c.args.fields.now c.loop-at.at-index _ _ (omega arith)) c.place_for-new.ensures.place
    c.in_ok-add_known.ensures.added c.in_ok-add_known.ensures.makes

pub returns-in_err-add_known-clause-refused : goal.returns-in_err-add_known-clause-refused
returns-in_err-add_known-clause-refused c =
    let p = err_from_is_err_and c.from_residual.result c.from_residual.ensures.1 in
    rw (p.1, p.2) (pass-fault c.args.source.now (places_known c.args.new_places.now c.args.into) c.args.section c.args.fields.now c.loop-at.at-index _ c.place_for-new.result c.in_err-add_known.field-0.0 (omega arith)
    (get_or_default c.args.fields.now c.loop-at.at-index _ _ (omega arith)) c.place_for-new.ensures.place c.in_err-add_known.ensures.refused)

pub returns-clause-added : goal.returns-clause-added
returns-clause-added c =
    pass-end c.args.source.now (places_known c.args.new_places.now c.args.into) c.args.fields.now c.args.offsets.now c.loop-at.offsets c.loop-at.at-index c.loop-at.invariant (omega arith)

pub returns-clause-makes : goal.returns-clause-makes
returns-clause-makes c =
    pass-made c.args.source.now (places_known c.args.new_places.now c.args.into) c.args.fields.now c.args.offsets.now c.loop-at.offsets c.loop-at.at-index c.loop-at.invariant (omega arith)
