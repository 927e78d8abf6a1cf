-- What the pass gives is taken from where it stands.
use Rattle.std.proofs.Common.{arith}
use Rattle.std.proofs.lemmas.Result.{err_from_is_err_and}
use Rattle.dw_unit_fields.proofs.ScanTextLaws.{pass-code, pass-one, pass-refused, pass-fails, pass-few, gave-code, gave-refusal}
use Rattle.dw_unit_fields.proofs.units.read_entries.Goals as goal

pub returns-in_err-entry-clause-refused : goal.returns-in_err-entry-clause-refused
returns-in_err-entry-clause-refused c =
    let p = err_from_is_err_and c.from_residual.result c.from_residual.ensures.1 in
    rw (p.1, p.2) (pass-fails c.args.texts.now c.args.unit.now c.args.table.now c.args.bytes.now c.args.found.now c.loop-entry.found c.loop-entry.entry-iterator c.next.new.self
    c.loop-entry.number c.in_err-entry.field-0.0 c.loop-entry.invariant
    (gave-refusal c.loop-entry.entry-iterator c.next.new.self c.in-Some.entry c.in_err-entry.field-0.0 c.in-Some.ensures.steps c.in_err-entry.was))

pub read_coded-requires-clause-given : goal.read_coded-requires-clause-given
read_coded-requires-clause-given c =
    pass-code c.args.texts.now c.args.unit.now c.args.table.now c.args.bytes.now c.args.found.now c.loop-entry.found c.loop-entry.entry-iterator c.next.new.self
    c.loop-entry.number c.in_ok-entry.entry c.loop-entry.invariant
    (gave-code c.loop-entry.entry-iterator c.next.new.self c.in-Some.entry c.in_ok-entry.entry c.in-Some.ensures.steps c.in_ok-entry.was)

pub returns-in_err-read_coded-clause-refused : goal.returns-in_err-read_coded-clause-refused
returns-in_err-read_coded-clause-refused c =
    let p = err_from_is_err_and c.from_residual-in_err-read_coded.result c.from_residual-in_err-read_coded.ensures.1 in
    rw (p.1, p.2) (pass-refused c.args.texts.now c.args.unit.now c.args.table.now c.args.bytes.now c.args.found.now c.loop-entry.found c.loop-entry.entry-iterator c.next.new.self
    c.loop-entry.number c.in_ok-entry.entry.entry c.in_err-read_coded.field-0.0 c.loop-entry.invariant
    (gave-code c.loop-entry.entry-iterator c.next.new.self c.in-Some.entry c.in_ok-entry.entry c.in-Some.ensures.steps c.in_ok-entry.was).gives c.in_err-read_coded.ensures.refused)

pub loop-entry-preserved : goal.loop-entry-preserved
loop-entry-preserved c =
    pass-one c.args.texts.now c.args.unit.now c.args.table.now c.args.bytes.now c.args.found.now c.loop-entry.found c.read_coded.new.found c.loop-entry.entry-iterator
    c.next.new.self c.loop-entry.number c.in_ok-entry.entry c.loop-entry.invariant
    (gave-code c.loop-entry.entry-iterator c.next.new.self c.in-Some.entry c.in_ok-entry.entry c.in-Some.ensures.steps c.in_ok-entry.was)
    c.in_ok-read_coded.ensures.found c.in_ok-read_coded.ensures.taken

pub overflow_add-number : goal.overflow_add-number
overflow_add-number c =
    let few = pass-few c.args.texts.now c.args.unit.now c.args.table.now c.args.bytes.now c.args.found.now c.loop-entry.found c.loop-entry.entry-iterator c.loop-entry.number
    c.loop-entry.invariant c.requires.inside in
    let small = c.requires.small in
    omega (arith, few, small)
