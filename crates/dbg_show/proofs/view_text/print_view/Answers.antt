-- The tables and the macro units come behind the units.
use Rattle.std.proofs.lemmas.Result.{IfErr-weaker, err_from_is_err_and, on_ok_weaker}
use Rattle.std.specs.String.{string_bytes}
use Rattle.dbg_show.specs.ShownUnits.{all_shown}
use Rattle.dbg_show.proofs.PrintingLaws.{cut-more, cut-then, printed-then}
use Rattle.dbg_show.proofs.view_text.print_view.Goals as goal

pub returns-in_err-print_units-clause-cut : goal.returns-in_err-print_units-clause-cut
returns-in_err-print_units-clause-cut g c =
    let p = err_from_is_err_and c.from_residual.result c.from_residual.ensures.1 in
    rw (p.1, p.2) (cut-more (all_shown c.args.units.now 0 c.args.units.now.units) _ (string_bytes c.args.text.now) _ _ _ c.in_err-print_units.ensures.cut)

pub returns-clause-done : goal.returns-clause-done
returns-clause-done g c = on_ok_weaker c.print_rest.result (λ q. printed-then _ _ _ _ _ _ _ _ c.in_ok-print_units.ensures.done q) c.print_rest.ensures.done

pub returns-clause-cut : goal.returns-clause-cut
returns-clause-cut g c = IfErr-weaker c.print_rest.result _ _ (λ e q. cut-then _ _ _ _ _ _ _ e c.in_ok-print_units.ensures.done q) c.print_rest.ensures.cut
