-- The next place, and the end.
use Rattle.std.proofs.Common.{arith, get_or, sym, subst, ◌∙◌}
use Rattle.std.proofs.lemmas.List.{get_or_default}
use Rattle.dw_base.specs.FileViews.{view_cells}
use Rattle.dw_relocs.specs.HeaderChecks.{IsOther}
use Rattle.dw_relocs.proofs.HeaderCheckLaws.{own-last, own-more, own-other, own-room}
use Rattle.dw_relocs.proofs.lines.own.Goals as goal

pub overflow_add-from : goal.overflow_add-from
overflow_add-from c =
    let room = own-room (view_cells c.args.view.now c.args.section) c.args.start c.args.to c.args.places.now c.loop-place.place-index c.loop-place.from
    (get_or c.args.places.now c.loop-place.place-index 0) (omega arith) (get_or_default c.args.places.now c.loop-place.place-index 0 _ (omega arith)) c.loop-place.invariant in
    let small = c.requires.small in
    omega (arith, room, small)

pub returns-in-Some-clause-refused : goal.returns-in-Some-clause-refused
returns-in-Some-clause-refused c =
    subst (IsOther c.args.section (view_cells c.args.view.now c.args.section) c.args.start c.args.to c.args.places.now) (sym c.at.ensures)
    (own-other (view_cells c.args.view.now c.args.section) c.args.section c.args.start c.args.to c.args.places.now c.loop-place.place-index c.loop-place.from
    (get_or c.args.places.now c.loop-place.place-index 0) c.in-Some.p c.next_relocation.result (omega arith)
    (get_or_default c.args.places.now c.loop-place.place-index 0 _ (omega arith)) c.loop-place.invariant c.next_relocation.ensures.next
    (sym c.in-Some.is ∙ c.place_before.ensures))

pub loop-place-preserved : goal.loop-place-preserved
loop-place-preserved c =
    own-more (view_cells c.args.view.now c.args.section) c.args.start c.args.to c.args.places.now c.loop-place.place-index c.loop-place.from
    (get_or c.args.places.now c.loop-place.place-index 0) c.next_relocation.result (omega arith)
    (get_or_default c.args.places.now c.loop-place.place-index 0 _ (omega arith)) c.loop-place.invariant c.next_relocation.ensures.next
    (sym c.in_default.is ∙ c.place_before.ensures)

pub returns-in-Some-place_before-clause-refused : goal.returns-in-Some-place_before-clause-refused
returns-in-Some-place_before-clause-refused c =
    subst (IsOther c.args.section (view_cells c.args.view.now c.args.section) c.args.start c.args.to c.args.places.now) (sym c.at-in-Some-place_before.ensures)
    (own-last (view_cells c.args.view.now c.args.section) c.args.section c.args.start c.args.to c.args.places.now c.loop-place.place-index c.loop-place.from
    c.in-Some-place_before.p c.next_relocation-2.result (omega arith) c.loop-place.invariant c.next_relocation-2.ensures.next
    (sym c.in-Some-place_before.is ∙ c.place_before-2.ensures))
