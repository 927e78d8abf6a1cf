-- Each table with the new places of its texts; one that would be too long.
use Rattle.std.proofs.lemmas.Result.{err_from_is_err_and}
use Rattle.dw_base.specs.declared.texts.TextSection.TheVariants.{InStr, InLineStr}
use Rattle.dw_read.specs.AllFields.{all_of}
use Rattle.dw_rewrite.proofs.GrowthLaws.{known-made, tables-row}
use Rattle.dw_rewrite.proofs.tables.new_tables.Goals as goal

pub returns-in_err-pool-clause-refused : goal.returns-in_err-pool-clause-refused
returns-in_err-pool-clause-refused c =
    let p = err_from_is_err_and c.from_residual.result c.from_residual.ensures.1 in
    rw (p.1, p.2) (tables-row c.args.maps.now c.args.view.now InStr (all_of c.args.paths.now) c.in_err-pool.field-0.0 c.in_err-pool.ensures.refused)

pub returns-in_err-line_pool-clause-refused : goal.returns-in_err-line_pool-clause-refused
returns-in_err-line_pool-clause-refused c =
    let p = err_from_is_err_and c.from_residual-in_err-line_pool.result c.from_residual-in_err-line_pool.ensures.1 in
    rw (p.1, p.2) (tables-row c.args.maps.now c.args.view.now InLineStr (all_of c.args.paths.now) c.in_err-line_pool.field-0.0 c.in_err-line_pool.ensures.refused)

pub returns-clause-str : goal.returns-clause-str
returns-clause-str c = known-made c.new-texts.ensures.str c.in_ok-pool.ensures.made

pub returns-clause-line_str : goal.returns-clause-line_str
returns-clause-line_str c = known-made c.new-texts.ensures.line_str c.in_ok-line_pool.ensures.made
