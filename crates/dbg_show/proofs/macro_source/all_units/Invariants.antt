use Rattle.std.proofs.Common.{◌≡◌, ◌++◌, drop}
use Rattle.dw_starts.specs.UnitPlaces.{all_units}
use Rattle.dbg_show.proofs.macro_source.all_units.Given as goal

-- the units of the sections from here on are left
abbrev pub invariant-loop-section : goal.invariant-loop-section
invariant-loop-section l = l.units.items ++ all_units (drop l.section-index l.macros) ≡ all_units l.macros
