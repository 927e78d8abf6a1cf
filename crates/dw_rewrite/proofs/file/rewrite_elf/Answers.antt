-- A view that can't be made, relocations that can't be read, and sections that may not be loaded are rows.
use Rattle.std.proofs.lemmas.Result.{err_from_is_err_and}
use Rattle.dw_rewrite.proofs.ExitLaws.{refused_sources, refused_view}
use Rattle.dw_rewrite.proofs.file.rewrite_elf.Goals as goal

pub returns-in_err-view-clause-refused : goal.returns-in_err-view-clause-refused
returns-in_err-view-clause-refused c =
    let p = err_from_is_err_and c.from_residual.result c.from_residual.ensures.1 in
    rw (p.1, p.2) (refused_view c.args.maps.now c.args.elf.now.bytes.now c.in_err-view.field-0.0 c.requires.reads c.in_err-view.ensures.refused)

pub returns-in_err-sources-clause-refused : goal.returns-in_err-sources-clause-refused
returns-in_err-sources-clause-refused c =
    let p = err_from_is_err_and c.from_residual-in_err-sources.result c.from_residual-in_err-sources.ensures.1 in
    rw (p.1, p.2) (refused_sources c.args.maps.now c.args.elf.now.bytes.now c.in_err-sources.field-0.0 c.requires.reads c.in_err-sources.ensures.refused)
