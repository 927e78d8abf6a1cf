-- The pass from its start to its end.
use Rattle.std.proofs.Common.{◌∙◌, arith, refl}
use Rattle.dw_attrs.proofs.EntryListLaws.{gave-entry, gave-refusal}
use Rattle.dw_attrs.proofs.EntryPassLaws.{pass-fails}
use Rattle.dw_attrs.proofs.IndexEntryLaws.{kept-more, kept-over, kept-starts, entry-small}
use Rattle.dw_attrs.proofs.entry_index.entry_places.Goals as goal

pub unreachable-requires : goal.unreachable-requires
unreachable-requires c =
    pass-fails c.args.view.now c.args.unit.now c.args.table.now c.loop-entry.entry-iterator c.next.new.self c.loop-entry.invariant.number c.in-Err.field-0 c.loop-entry.invariant.pass
    (gave-refusal c.loop-entry.entry-iterator c.next.new.self c.in-Some.entry c.in-Err.field-0 c.in-Some.ensures.steps c.in-Err.is) c.requires.reads

pub overflow_cast-entry : goal.overflow_cast-entry
overflow_cast-entry c =
    let small = entry-small c.args.view.now c.args.unit.now c.args.table.now c.loop-entry.entry-iterator c.next.new.self c.loop-entry.places.items c.in-Ok.entry c.loop-entry.invariant
    (gave-entry c.loop-entry.entry-iterator c.next.new.self c.in-Some.entry c.in-Ok.entry c.in-Some.ensures.steps c.in-Ok.is) c.requires.reads in
    omega (arith, small)

pub loop-entry-init : goal.loop-entry-init
loop-entry-init c =
    kept-starts c.args.view.now c.args.unit.now c.args.table.now c.into_iter-entry-iterator.result c.new-places.result.items
    (c.into_iter-entry-iterator.ensures.into_iter_gives ∙ c.new-entry-items.ensures.start) c.new-places.ensures.items

pub loop-entry-preserved : goal.loop-entry-preserved
loop-entry-preserved c =
    kept-more c.args.view.now c.args.unit.now c.args.table.now c.loop-entry.entry-iterator c.next.new.self c.loop-entry.places.items _ c.in-Ok.entry _ c.loop-entry.invariant
    (gave-entry c.loop-entry.entry-iterator c.next.new.self c.in-Some.entry c.in-Ok.entry c.in-Some.ensures.steps c.in-Ok.is) refl c.in_ok-push-in-Ok.ensures.items

pub returns : goal.returns
returns c = record {
  places = kept-over c.args.view.now c.args.unit.now c.args.table.now c.loop-entry.entry-iterator c.next.new.self c.loop-entry.places.items c.loop-entry.invariant c.in-None.ensures.steps;
}
