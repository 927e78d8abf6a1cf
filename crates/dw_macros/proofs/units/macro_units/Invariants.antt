use Rattle.std.proofs.Common.{◌-◌, ◌≤◌, length}
use Rattle.dw_base.specs.FileViews.{section_bytes}
use Rattle.dw_base.specs.MacroOffsets.{UnitsReadUpTo}
use Rattle.dw_macros.proofs.units.macro_units.Given as goal

-- the units so far stand from the section's start up to this place
abbrev pub invariant-units : goal.invariant-units
invariant-units l = record {
  read : UnitsReadUpTo l.view l.section l.units.items l.start;
  within : l.start ≤ length (section_bytes l.view l.section);
}

abbrev pub decreases-units : goal.decreases-units
decreases-units l = length (section_bytes l.view l.section) - l.start
