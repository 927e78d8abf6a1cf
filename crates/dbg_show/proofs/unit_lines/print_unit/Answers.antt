-- The unit stands in a section of the view, and its entries come behind its first line.
use Rattle.std.proofs.Common.{◌++◌, ap, sym, subst}
use Rattle.std.proofs.lemmas.Result.{IfErr-weaker, err_from_is_err_and, on_ok_weaker}
use Rattle.std.specs.String.{string_bytes}
use Rattle.dw_base.specs.FileViews.{View}
use Rattle.dw_entries.specs.ViewUnits.{IsUnitSection}
use Rattle.dw_base.specs.LineMeanings.{item_at}
use Rattle.dw_attrs.specs.UnitValues.{UnitSource}
use Rattle.dbg_show.specs.ShownUnits.{header_line, tabled_text}
use Rattle.dbg_show.proofs.CallLaws.{cut-both, cut-front, printed-both}
use Rattle.dw_attrs.proofs.SaidUnitLaws.{each-there}
use Rattle.dbg_show.proofs.unit_lines.print_unit.Goals as goal

pub print_head-requires : goal.print_head-requires
print_head-requires g c = record {
  there = subst (λ (v : View). IsUnitSection v c.args.unit.now.header.section) (sym (ap (λ (u : UnitSource). u.view) c.source.view_is))
      (each-there c.args.source.now.view c.args.source.now.tables c.args.unit.now c.requires.unit);
}

pub returns-in_err-print_head-clause-cut : goal.returns-in_err-print_head-clause-cut
returns-in_err-print_head-clause-cut g c =
    let p = err_from_is_err_and c.from_residual.result c.from_residual.ensures.1 in
    rw (p.1, p.2) (cut-front (header_line c.source.inside.view.now c.args.number c.args.unit.now.header)
    (tabled_text c.args.source.now c.args.number c.args.unit.now.header (item_at c.args.source.now.tables c.args.unit.now.table)) (string_bytes c.args.text.now) _ _ _ _
    (ap (λ (u : UnitSource). header_line u.view c.args.number c.args.unit.now.header
    ++ tabled_text c.args.source.now c.args.number c.args.unit.now.header (item_at c.args.source.now.tables c.args.unit.now.table)) c.source.view_is) c.in_err-print_head.ensures.cut)

pub returns-clause-done : goal.returns-clause-done
returns-clause-done g c =
    on_ok_weaker c.print_tabled.result
    (λ q. printed-both _ _ _ _ _ _ _ _ _
    (ap (λ (u : UnitSource). header_line u.view c.args.number c.args.unit.now.header
    ++ tabled_text c.args.source.now c.args.number c.args.unit.now.header (item_at c.args.source.now.tables c.args.unit.now.table)) c.source.view_is) c.in_ok-print_head.ensures.done q) c.print_tabled.ensures.done

pub returns-clause-cut : goal.returns-clause-cut
returns-clause-cut g c =
    IfErr-weaker c.print_tabled.result _ _
    (λ e q. cut-both _ _ _ _ _ _ _ _ e
    (ap (λ (u : UnitSource). header_line u.view c.args.number c.args.unit.now.header
    ++ tabled_text c.args.source.now c.args.number c.args.unit.now.header (item_at c.args.source.now.tables c.args.unit.now.table)) c.source.view_is) c.in_ok-print_head.ensures.done q) c.print_tabled.ensures.cut
