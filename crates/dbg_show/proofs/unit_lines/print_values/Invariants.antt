use Rattle.std.proofs.Common.{◌≤◌, drop, length}
use Rattle.std.specs.String.{string_bytes}
use Rattle.dbg_show.specs.Printing.{Goes}
use Rattle.dbg_show.specs.ShownUnits.{values_shown}
use Rattle.dbg_show.proofs.unit_lines.print_values.Given as goal

-- the values from here on are left
abbrev pub invariant-loop-spec : goal.invariant-loop-spec
invariant-loop-spec g l = record {
  goes : Goes (values_shown l.unit l.specs l.from) (values_shown l.unit (drop l.spec-index l.specs) l.place)
      (string_bytes l.fn.text) (g.O.Sink.heard l.fn.out) (g.O.Sink.heard l.out) (string_bytes l.text);
  inside : l.place ≤ length l.unit.bytes;
}
