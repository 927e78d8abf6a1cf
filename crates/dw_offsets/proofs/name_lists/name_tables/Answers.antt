-- What is read of the section is read of the view.
use Rattle.std.proofs.lemmas.Result.{err_from_is_err_and}
use Rattle.dw_base.specs.NameTables.{names_of}
use Rattle.dw_offsets.proofs.NameExcludeLaws.{tables-exclude-all}
use Rattle.dw_offsets.proofs.NameViewLaws.{none-offsets, some-offsets, some-refused}
use Rattle.dw_offsets.proofs.name_lists.name_tables.Goals as goal

pub returns-in_default-clause-none : goal.returns-in_default-clause-none
returns-in_default-clause-none c = λ r f.
    tables-exclude-all c.args.view.now (names_of c.args.view.now).number (names_of c.args.view.now).bytes c.new.result.items r
    (none-offsets c.args.view.now c.new.result.items c.in_default.ensures.section c.new.ensures.items) f

pub returns-in_err-list-clause-refused : goal.returns-in_err-list-clause-refused
returns-in_err-list-clause-refused c =
    let p = err_from_is_err_and c.from_residual.result c.from_residual.ensures.1 in
    rw (p.1, p.2) (some-refused c.args.view.now c.in-Some.section c.in_err-list.field-0.0 c.in-Some.ensures.section c.in_err-list.ensures.refused)

pub returns-clause-none : goal.returns-clause-none
returns-clause-none c = λ r f.
    tables-exclude-all c.args.view.now (names_of c.args.view.now).number (names_of c.args.view.now).bytes c.in_ok-list.list.items r
    (some-offsets c.args.view.now c.in-Some.section c.in_ok-list.list.items c.in-Some.ensures.section c.in_ok-list.ensures.read) f
