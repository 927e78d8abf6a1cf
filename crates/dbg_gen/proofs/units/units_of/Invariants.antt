-- The units so far, and their line tables.
use Rattle.std.proofs.Common.{◌≡◌}
use Rattle.dbg_gen.specs.GeneratedLines.{lines_of}
use Rattle.dbg_gen.specs.GeneratedUnits.{units_of}
use Rattle.dbg_gen.proofs.units.units_of.Given as goal

abbrev pub invariant-loop-unit : goal.invariant-loop-unit
invariant-loop-unit l = record {
  units : l.info.items ≡ units_of l.texts.texts l.counts l.unit;
  lines : l.lines.items ≡ lines_of l.counts l.unit;
}
