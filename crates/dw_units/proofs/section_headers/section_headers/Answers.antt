-- Units that can't be read.
use Rattle.std.proofs.lemmas.Result.{err_from_is_err_and}
use Rattle.dw_units.proofs.HeaderListLaws.{section-row}
use Rattle.dw_units.proofs.section_headers.section_headers.Goals as goal

pub returns-in_err-headers-clause-refused : goal.returns-in_err-headers-clause-refused
returns-in_err-headers-clause-refused c =
    let p = err_from_is_err_and c.from_residual.result c.from_residual.ensures.1 in
    rw (p.1, p.2) (section-row c.args.view.now c.args.section c.in_err-headers.field-0.0 c.requires.there c.in_err-headers.ensures.refused)
