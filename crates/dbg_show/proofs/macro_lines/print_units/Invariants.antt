use Rattle.std.proofs.Common.{drop}
use Rattle.std.specs.String.{string_bytes}
use Rattle.dbg_show.specs.Printing.{Goes}
use Rattle.dbg_show.specs.ShownMacros.{units_shown}
use Rattle.dbg_show.proofs.macro_lines.print_units.Given as goal

-- the units from here on are left
abbrev pub invariant-loop-number : goal.invariant-loop-number
invariant-loop-number g l =
    Goes (units_shown l.source 0 l.units) (units_shown l.source l.number (drop l.number l.units))
    (string_bytes l.fn.text) (g.O.Sink.heard l.fn.out) (g.O.Sink.heard l.out) (string_bytes l.text)
