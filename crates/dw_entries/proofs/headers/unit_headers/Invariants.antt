use Rattle.std.proofs.Common.{◌-◌, ◌≤◌, length}
use Rattle.dw_base.specs.FileViews.{section_bytes}
use Rattle.dw_entries.specs.HeaderRows.{ReadUpTo}
use Rattle.dw_entries.specs.ViewUnits.{unit_base, unit_section_at}
use Rattle.dw_entries.proofs.headers.unit_headers.Given as goal

-- the units so far stand from the section's start up to this place
abbrev pub invariant-units : goal.invariant-units
invariant-units l = record {
  units : ReadUpTo (unit_base l.view) (unit_section_at l.view l.section) l.list.items l.start;
  within : l.start ≤ length (section_bytes l.view l.section);
}

abbrev pub decreases-units : goal.decreases-units
decreases-units l = length (section_bytes l.view l.section) - l.start
