-- The pass from its start to its end.
use Rattle.std.proofs.Common.{◌∙◌, arith}
use Rattle.dw_attrs.specs.UnitValues.{unit_bytes}
use Rattle.dw_attrs.proofs.EntryListLaws.{gave-entry, gave-refusal, pass-more, pass-starts}
use Rattle.dw_attrs.proofs.EntryPassLaws.{pass-fails}
use Rattle.dbg_exercise.proofs.CountLoopLaws.{pass-counted, pass-fits}
use Rattle.dbg_exercise.proofs.counting.unit_count.Goals as goal

pub unreachable-requires : goal.unreachable-requires
unreachable-requires c =
    pass-fails c.args.view.now c.args.unit.now c.args.table.now c.loop-entry.entry-iterator c.next.new.self c.loop-entry.count c.in-Err.field-0 c.loop-entry.invariant
    (gave-refusal c.loop-entry.entry-iterator c.next.new.self c.in-Some.entry c.in-Err.field-0 c.in-Some.ensures.steps c.in-Err.is) c.requires.reads

pub overflow_add-count : goal.overflow_add-count
overflow_add-count c =
    let fits = pass-fits c.args.view.now c.args.unit.now c.args.table.now c.loop-entry.entry-iterator c.next.new.self c.loop-entry.count c.in-Ok.field-0 c.loop-entry.invariant
    (gave-entry c.loop-entry.entry-iterator c.next.new.self c.in-Some.entry c.in-Ok.field-0 c.in-Some.ensures.steps c.in-Ok.is) in
    omega (arith, fits, c.requires.few)

pub loop-entry-init : goal.loop-entry-init
loop-entry-init c =
    pass-starts c.args.unit.now c.args.table.now (unit_bytes c.args.view.now c.args.unit.now) c.into_iter-entry-iterator.result
    (c.into_iter-entry-iterator.ensures.into_iter_gives ∙ c.new-entry-items.ensures.start)

pub loop-entry-preserved : goal.loop-entry-preserved
loop-entry-preserved c =
    pass-more c.args.unit.now c.args.table.now (unit_bytes c.args.view.now c.args.unit.now) c.loop-entry.entry-iterator c.next.new.self c.loop-entry.count c.in-Ok.field-0
    c.loop-entry.invariant (gave-entry c.loop-entry.entry-iterator c.next.new.self c.in-Some.entry c.in-Ok.field-0 c.in-Some.ensures.steps c.in-Ok.is)

pub returns : goal.returns
returns c = record {
  count = pass-counted c.args.view.now c.args.unit.now c.args.table.now c.loop-entry.entry-iterator c.next.new.self c.loop-entry.count c.loop-entry.invariant c.in-None.ensures.steps;
}
