-- Printed whole, or cut at one.
use Rattle.std.proofs.Common.{arith, ap, ◌∙◌, get_or}
use Rattle.std.specs.String.{string_bytes}
use Rattle.std.specs.Prelude.{pos}
use Rattle.dw_base.specs.Values.{value_at}
use Rattle.dw_attrs.specs.UnitValues.{SaidUnit}
use Rattle.dbg_show.specs.ShownUnits.{values_shown}
use Rattle.dbg_show.proofs.ShownLaws.{values-over, values-none, values-cut}
use Rattle.dbg_show.proofs.unit_lines.print_values.Goals as goal

pub returns-in-Err-clause-cut : goal.returns-in-Err-clause-cut
returns-in-Err-clause-cut g c =
    values-cut c.args.unit.now c.args.specs.now c.loop-spec.spec-index c.loop-spec.place _ c.in-Some.value (values_shown c.args.unit.now c.args.specs.now c.args.from)
    (string_bytes c.args.text.now) (string_bytes c.loop-spec.text) (g.O.Sink.heard c.args.out.now) (g.O.Sink.heard c.loop-spec.out) (g.O.Sink.heard c.print_attribute.new.out) c.in-Err.e
    c.loop-spec.invariant.goes (omega arith) (c.in-Some.ensures.value ∙ ap (λ (w : SaidUnit). value_at w.header.params (get_or c.args.specs.now c.loop-spec.spec-index (record { name = 0; form = 0; implicit = pos 0 })) w.bytes c.loop-spec.place) c.unit.view_is) c.in-Err.ensures.cut

pub returns-in-None-clause-done : goal.returns-in-None-clause-done
returns-in-None-clause-done g c =
    values-none c.args.unit.now c.args.specs.now c.loop-spec.spec-index c.loop-spec.place _ (values_shown c.args.unit.now c.args.specs.now c.args.from)
    (string_bytes c.args.text.now) (string_bytes c.loop-spec.text) (g.O.Sink.heard c.args.out.now) (g.O.Sink.heard c.loop-spec.out)
    c.loop-spec.invariant.goes (omega arith) (c.in-None.ensures.value ∙ ap (λ (w : SaidUnit). value_at w.header.params (get_or c.args.specs.now c.loop-spec.spec-index (record { name = 0; form = 0; implicit = pos 0 })) w.bytes c.loop-spec.place) c.unit.view_is)

pub returns-clause-done : goal.returns-clause-done
returns-clause-done g c =
    values-over c.args.unit.now c.args.specs.now c.loop-spec.spec-index c.loop-spec.place (values_shown c.args.unit.now c.args.specs.now c.args.from)
    (string_bytes c.args.text.now) (string_bytes c.loop-spec.text) (g.O.Sink.heard c.args.out.now) (g.O.Sink.heard c.loop-spec.out)
    c.loop-spec.invariant.goes (omega arith)
