-- Printed whole, or cut at one.
use Rattle.std.proofs.Common.{arith, refl}
use Rattle.std.specs.String.{string_bytes}
use Rattle.dw_starts.proofs.MacroLoopLaws.{unit-at}
use Rattle.dbg_show.proofs.MacroLoopLaws.{units-over, units-cut}
use Rattle.dbg_show.proofs.macro_lines.print_units.Goals as goal

pub returns-in-Err-clause-cut : goal.returns-in-Err-clause-cut
returns-in-Err-clause-cut g c =
    units-cut c.args.source.now c.args.units.now c.loop-number.number _ _ (string_bytes c.args.text.now) (string_bytes c.loop-number.text)
    (g.O.Sink.heard c.args.out.now) (g.O.Sink.heard c.loop-number.out) (g.O.Sink.heard c.print_unit.new.out) c.in-Err.e c.loop-number.invariant (omega arith) refl c.in-Err.ensures.cut

pub returns-clause-done : goal.returns-clause-done
returns-clause-done g c =
    units-over c.args.source.now c.args.units.now c.loop-number.number (string_bytes c.args.text.now) (string_bytes c.loop-number.text)
    (g.O.Sink.heard c.args.out.now) (g.O.Sink.heard c.loop-number.out) c.loop-number.invariant (omega arith)

pub print_unit-requires-clause-unit : goal.print_unit-requires-clause-unit
print_unit-requires-clause-unit g c = unit-at c.args.source.now.view c.args.units.now c.loop-number.number _ (omega arith) c.requires.units
