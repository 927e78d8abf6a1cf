-- Units that can't be taken.
use Rattle.std.proofs.lemmas.Result.{err_from_is_err_and}
use Rattle.dw_base.specs.ViewData.{debug_data}
use Rattle.dw_unit_fields.proofs.IndexedLaws.{whole-refused}
use Rattle.dw_unit_fields.proofs.all_sections.unit_fields.Goals as goal

pub returns-in_err-found-clause-refused : goal.returns-in_err-found-clause-refused
returns-in_err-found-clause-refused c =
    let p = err_from_is_err_and c.from_residual.result c.from_residual.ensures.1 in
    rw (p.1, p.2) (whole-refused (debug_data c.args.view.now) c.args.slots.now.list c.in_err-found.field-0.0 c.in_err-found.ensures.refused)
