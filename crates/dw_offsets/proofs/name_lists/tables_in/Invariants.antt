use Rattle.std.proofs.Common.{◌-◌, ◌≤◌, length}
use Rattle.dw_base.specs.FileViews.{section_bytes}
use Rattle.dw_base.specs.NameOffsets.{ReadUpTo}
use Rattle.dw_offsets.specs.NameFields.{AllFit}
use Rattle.dw_offsets.proofs.name_lists.tables_in.Given as goal

-- the tables so far stand from the section's start up to this place
abbrev pub invariant-tables : goal.invariant-tables
invariant-tables l = record {
  read : ReadUpTo l.view l.section (section_bytes l.view l.section) l.list.items l.start;
  within : l.start ≤ length (section_bytes l.view l.section);
  fits : AllFit (length (section_bytes l.view l.section)) l.list.items;
}

abbrev pub decreases-tables : goal.decreases-tables
decreases-tables l = length (section_bytes l.view l.section) - l.start
