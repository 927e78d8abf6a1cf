-- Why an entry can't be read.
use Rattle.std.proofs.Common.{ap}
use Rattle.std.proofs.lemmas.Result.{err_from_is_err_and}
use Rattle.dw_base.specs.AbbreviationTables.{Abbreviation}
use Rattle.dw_entries.proofs.StepLaws.{no_code-stops, split-stops, values-stop}
use Rattle.dw_entries.proofs.step.entry_at.Goals as goal

pub returns-in_default-clause-refused : goal.returns-in_default-clause-refused
returns-in_default-clause-refused c =
    no_code-stops c.args.unit.now c.args.table.now c.args.bytes.now c.args.here.place c.args.here.depth c.args.here.number c.args.code c.args.size
    c.refused.result c.refused.ensures c.requires.code c.in_default.ensures.none

pub returns-then-is_split_root-clause-refused : goal.returns-then-is_split_root-clause-refused
returns-then-is_split_root-clause-refused c =
    split-stops c.args.unit.now c.args.table.now c.args.bytes.now c.args.here.place c.args.here.depth c.args.here.number c.args.code c.args.size
    c.in-Some.abbrev.now c.is_split_root.result c.refused-then-is_split_root.result c.refused-then-is_split_root.ensures c.requires.code
    c.in-Some.ensures.value c.is_split_root.ensures c.if-is_split_root.true

pub returns-in_err-after-clause-refused : goal.returns-in_err-after-clause-refused
returns-in_err-after-clause-refused c =
    let p = err_from_is_err_and c.from_residual.result c.from_residual.ensures.1 in
    rw (p.1, p.2) (values-stop c.args.unit.now c.args.table.now c.args.bytes.now c.args.here.place c.args.here.depth c.args.here.number c.args.code c.args.size
    c.in-Some.abbrev.now _ c.in_err-after.field-0.0 c.requires.code c.in-Some.ensures.value
    (ap (λ (a : Abbreviation). a.specs) c.abbrev.view_is) c.in_err-after.ensures.refused)
