-- The events come behind the first line.
use Rattle.std.proofs.Common.{ℕ, ◌++◌, Option, ap}
use Rattle.std.proofs.lemmas.Result.{IfErr-weaker, err_from_is_err_and, on_ok_weaker}
use Rattle.std.specs.String.{string_bytes}
use Rattle.dw_macros.specs.MacroEvents.{unit_events}
use Rattle.dbg_show.specs.MacroTexts.{macros_line}
use Rattle.dbg_show.specs.ShownMacros.{events_shown}
use Rattle.dbg_show.proofs.CallLaws.{cut-both, cut-front, printed-both}
use Rattle.dbg_show.proofs.macro_lines.print_unit.Goals as goal

pub returns-in_err-print_front-clause-cut : goal.returns-in_err-print_front-clause-cut
returns-in_err-print_front-clause-cut g c =
    let p = err_from_is_err_and c.from_residual.result c.from_residual.ensures.1 in
    rw (p.1, p.2) (cut-front (macros_line c.args.number c.args.unit.now.version c.line.result) (events_shown c.args.source.now (unit_events c.args.source.now.view c.args.unit.now))
    (string_bytes c.args.text.now) _ _ _ _
    (ap (λ (l : Option ℕ). macros_line c.args.number c.args.unit.now.version l ++ events_shown c.args.source.now (unit_events c.args.source.now.view c.args.unit.now)) c.line.ensures)
    c.in_err-print_front.ensures.cut)

pub returns-clause-done : goal.returns-clause-done
returns-clause-done g c =
    on_ok_weaker c.print_all.result
    (λ q. printed-both _ _ _ _ _ _ _ _ _
    (ap (λ (l : Option ℕ). macros_line c.args.number c.args.unit.now.version l ++ events_shown c.args.source.now (unit_events c.args.source.now.view c.args.unit.now)) c.line.ensures)
    c.in_ok-print_front.ensures.done q) c.print_all.ensures.done

pub returns-clause-cut : goal.returns-clause-cut
returns-clause-cut g c =
    IfErr-weaker c.print_all.result _ _
    (λ e q. cut-both _ _ _ _ _ _ _ _ e
    (ap (λ (l : Option ℕ). macros_line c.args.number c.args.unit.now.version l ++ events_shown c.args.source.now (unit_events c.args.source.now.view c.args.unit.now)) c.line.ensures)
    c.in_ok-print_front.ensures.done q) c.print_all.ensures.cut
