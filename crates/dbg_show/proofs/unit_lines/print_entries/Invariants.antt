use Rattle.std.specs.String.{string_bytes}
use Rattle.dw_attrs.specs.UnitValues.{unit_entries}
use Rattle.dbg_show.proofs.ArenaTextLaws.{WalkGoes}
use Rattle.dbg_show.proofs.unit_lines.print_entries.Given as goal

-- the entries so far were printed
abbrev pub invariant-loop-step : goal.invariant-loop-step
invariant-loop-step g l =
    WalkGoes l.unit l.arena (unit_entries l.unit.header l.unit.table l.unit.bytes) l.step-iterator (string_bytes l.fn.text) (g.O.Sink.heard l.fn.out) (g.O.Sink.heard l.out)
    (string_bytes l.text)
