-- Printed whole, or cut at one.
use Rattle.std.proofs.Common.{List, ◌∙◌, ap, arith, refl, sym}
use Rattle.std.specs.String.{string_bytes}
use Rattle.dw_base.specs.LineMeanings.{item_at}
use Rattle.dbg_show.specs.ShownUnits.{all_shown}
use Rattle.dw_units.specs.declared.listed_unit.ListedUnit.{ListedUnit}
use Rattle.dbg_show.proofs.ShownLaws.{units-over, units-cut}
use Rattle.dw_units.proofs.UnitTableLaws.{unit-listed}
use Rattle.dw_attrs.proofs.SourceLaws.{each-reads}
use Rattle.dbg_show.proofs.unit_lines.print_all.Goals as goal

pub returns-in-Err-clause-cut : goal.returns-in-Err-clause-cut
returns-in-Err-clause-cut g c =
    units-cut c.args.source.now c.args.units.now c.loop-number.number _ _ (all_shown c.args.source.now 0 c.args.units.now) (string_bytes c.args.text.now)
    (string_bytes c.loop-number.text)
    (g.O.Sink.heard c.args.out.now) (g.O.Sink.heard c.loop-number.out) (g.O.Sink.heard c.print_unit.new.out) c.in-Err.e c.loop-number.invariant (omega arith) refl
    c.in-Err.ensures.cut

pub returns-clause-done : goal.returns-clause-done
returns-clause-done g c =
    units-over c.args.source.now c.args.units.now c.loop-number.number (all_shown c.args.source.now 0 c.args.units.now) (string_bytes c.args.text.now) (string_bytes c.loop-number.text)
    (g.O.Sink.heard c.args.out.now) (g.O.Sink.heard c.loop-number.out) c.loop-number.invariant (omega arith)

pub print_unit-requires-clause-unit : goal.print_unit-requires-clause-unit
print_unit-requires-clause-unit g c = each-reads c.args.source.now.view c.args.source.now.tables c.args.units.now c.loop-number.number _ c.requires.units (omega arith)

pub print_unit-requires-clause-there : goal.print_unit-requires-clause-there
print_unit-requires-clause-there g c =
    ap (λ (us : List ListedUnit). item_at us c.loop-number.number) (sym c.requires.all) ∙ unit-listed c.args.units.now c.loop-number.number _ (omega arith)
