-- The entry that the scan gave.
use Rattle.std.proofs.Common.{arith}
use Rattle.dw_relocs.specs.FieldWalks.{ground_of}
use Rattle.dw_relocs.proofs.EntryPassLaws.{code-given, code-has, code-more, code-stands, gave-code, scan-ends, scan-few}
use Rattle.dw_relocs.proofs.entries.pass_entries.Goals as goal

pub pass_entry-now-requires-clause-stands : goal.pass_entry-now-requires-clause-stands
pass_entry-now-requires-clause-stands c =
    code-stands (ground_of c.args.view.now c.args.section) c.args.unit.now c.args.table.now c.args.bytes.now c.loop-entry.entry-iterator c.next.new.self c.loop-entry.number c.in-Ok.entry
    c.args.pass c.loop-entry.now c.loop-entry.invariant (gave-code c.loop-entry.entry-iterator c.next.new.self c.in-Some.entry c.in-Ok.entry c.in-Some.ensures.steps c.in-Ok.is)

pub pass_entry-now-requires-clause-given : goal.pass_entry-now-requires-clause-given
pass_entry-now-requires-clause-given c =
    code-given (ground_of c.args.view.now c.args.section) c.args.unit.now c.args.table.now c.args.bytes.now c.loop-entry.entry-iterator c.next.new.self c.loop-entry.number c.in-Ok.entry
    c.args.pass c.loop-entry.now c.loop-entry.invariant (gave-code c.loop-entry.entry-iterator c.next.new.self c.in-Some.entry c.in-Ok.entry c.in-Some.ensures.steps c.in-Ok.is)

pub pass_entry-now-requires-clause-code : goal.pass_entry-now-requires-clause-code
pass_entry-now-requires-clause-code c =
    code-has (ground_of c.args.view.now c.args.section) c.args.unit.now c.args.table.now c.args.bytes.now c.loop-entry.entry-iterator c.next.new.self c.loop-entry.number c.in-Ok.entry
    c.args.pass c.loop-entry.now c.loop-entry.invariant (gave-code c.loop-entry.entry-iterator c.next.new.self c.in-Some.entry c.in-Ok.entry c.in-Some.ensures.steps c.in-Ok.is)

pub loop-entry-preserved : goal.loop-entry-preserved
loop-entry-preserved c =
    code-more (ground_of c.args.view.now c.args.section) c.args.unit.now c.args.table.now c.args.bytes.now c.loop-entry.entry-iterator c.next.new.self c.loop-entry.number c.in-Ok.entry
    c.args.pass c.loop-entry.now c.pass_entry-now.result c.loop-entry.invariant
    (gave-code c.loop-entry.entry-iterator c.next.new.self c.in-Some.entry c.in-Ok.entry c.in-Some.ensures.steps c.in-Ok.is) c.pass_entry-now.ensures.goes

pub overflow_add-number : goal.overflow_add-number
overflow_add-number c =
    let few = scan-few (ground_of c.args.view.now c.args.section) c.args.unit.now c.args.table.now c.args.bytes.now c.loop-entry.entry-iterator c.loop-entry.number c.args.pass
    c.loop-entry.now c.loop-entry.invariant c.requires.first in
    let whole = c.requires.whole in
    let small = c.requires.small in
    omega (arith, few, whole, small)

pub returns-clause-passed : goal.returns-clause-passed
returns-clause-passed c =
    scan-ends (ground_of c.args.view.now c.args.section) c.args.unit.now c.args.table.now c.args.bytes.now c.loop-entry.entry-iterator c.next.new.self c.loop-entry.number c.args.pass
    c.loop-entry.now c.loop-entry.invariant c.in-None.ensures.steps
