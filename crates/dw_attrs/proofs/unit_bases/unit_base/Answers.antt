-- The first entry that the pass gives.
use Rattle.dw_attrs.proofs.BaseLaws.{first-there, first-none}
use Rattle.dw_attrs.proofs.EntryListLaws.{gave-entry, gave-refusal}
use Rattle.dw_attrs.proofs.EntryPassLaws.{pass-fails}
use Rattle.dw_attrs.proofs.unit_bases.unit_base.Goals as goal

pub returns-in-Ok : goal.returns-in-Ok
returns-in-Ok c = record {
  base = first-there c.args.view.now c.args.unit.now c.args.table.now c.loop-entry.entry-iterator c.next.new.self c.in-Ok.entry c.entry_base.result c.args.bytes.now c.loop-entry.invariant
      (gave-entry c.loop-entry.entry-iterator c.next.new.self c.in-Some.entry c.in-Ok.entry c.in-Some.ensures.steps c.in-Ok.is) c.requires.bytes c.entry_base.ensures.base;
}

pub unreachable-requires : goal.unreachable-requires
unreachable-requires c =
    pass-fails c.args.view.now c.args.unit.now c.args.table.now c.loop-entry.entry-iterator c.next.new.self 0 c.in-Err.field-0 c.loop-entry.invariant
    (gave-refusal c.loop-entry.entry-iterator c.next.new.self c.in-Some.entry c.in-Err.field-0 c.in-Some.ensures.steps c.in-Err.is) c.requires.reads

pub returns : goal.returns
returns c = record {
  base = first-none c.args.view.now c.args.unit.now c.args.table.now c.loop-entry.entry-iterator c.next.new.self c.args.bytes.now c.loop-entry.invariant c.in-None.ensures.steps c.requires.bytes;
}
