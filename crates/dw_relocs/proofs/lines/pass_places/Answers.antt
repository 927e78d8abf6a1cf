-- The next offset, and the end.
use Rattle.std.proofs.Common.{arith, get_or}
use Rattle.std.proofs.lemmas.List.{get_or_default}
use Rattle.dw_relocs.specs.FieldWalks.{ground_of}
use Rattle.dw_relocs.proofs.LinePassLaws.{places-end, places-inside, places-more, places-stand, places-start}
use Rattle.dw_relocs.proofs.lines.pass_places.Goals as goal

pub loop-place-init : goal.loop-place-init
loop-place-init c =
    places-start (ground_of c.args.view.now c.args.section) c.args.start c.args.behind c.args.width c.args.places.now c.args.pass c.requires.rise c.requires.stands

pub pass_offset-now-requires-clause-stands : goal.pass_offset-now-requires-clause-stands
pass_offset-now-requires-clause-stands c =
    places-stand (ground_of c.args.view.now c.args.section) c.args.start c.args.behind c.loop-place.place-index _ c.args.width c.args.places.now c.args.pass c.loop-place.now
    (omega arith) (get_or_default c.args.places.now c.loop-place.place-index _ _ (omega arith)) c.loop-place.invariant

pub pass_offset-now-requires-clause-inside : goal.pass_offset-now-requires-clause-inside
pass_offset-now-requires-clause-inside c =
    let inside = places-inside (ground_of c.args.view.now c.args.section) c.args.start c.args.behind c.loop-place.place-index (get_or c.args.places.now c.loop-place.place-index 0) c.offset_size-size.result c.args.width c.args.places.now
    c.args.pass c.loop-place.now (omega arith) (get_or_default c.args.places.now c.loop-place.place-index 0 _ (omega arith)) c.offset_size-size.ensures.size
    c.loop-place.invariant in
    let within = c.requires.within in
    omega (arith, inside, within)

pub pass_offset-now-requires-clause-few : goal.pass_offset-now-requires-clause-few
pass_offset-now-requires-clause-few c =
    let inside = places-inside (ground_of c.args.view.now c.args.section) c.args.start c.args.behind c.loop-place.place-index (get_or c.args.places.now c.loop-place.place-index 0) c.offset_size-size.result c.args.width c.args.places.now
    c.args.pass c.loop-place.now (omega arith) (get_or_default c.args.places.now c.loop-place.place-index 0 _ (omega arith)) c.offset_size-size.ensures.size
    c.loop-place.invariant in
    let within = c.requires.within in
    let small = c.requires.small in
    omega (arith, inside, within, small)

pub loop-place-preserved : goal.loop-place-preserved
loop-place-preserved c =
    places-more (ground_of c.args.view.now c.args.section) c.args.start c.args.behind c.loop-place.place-index _ c.offset_size-size.result c.args.width c.args.places.now c.args.pass
    c.loop-place.now c.pass_offset-now.result (omega arith) (get_or_default c.args.places.now c.loop-place.place-index _ _ (omega arith)) c.offset_size-size.ensures.size
    c.loop-place.invariant c.pass_offset-now.ensures.goes

pub returns : goal.returns
returns c = record {
  goes = places-end (ground_of c.args.view.now c.args.section) c.args.start c.args.behind c.loop-place.place-index c.args.width c.args.places.now c.args.pass c.loop-place.now
      (omega arith) c.loop-place.invariant;
}
