use Rattle.std.proofs.Common.{◌≡◌, take}
use Rattle.dw_units.specs.SectionHeaders.{AllHeaders, numbers_of}
use Rattle.dw_units.proofs.section_headers.all_headers.Given as goal

-- the sections so far have their headers
abbrev pub invariant-loop-section : goal.invariant-loop-section
invariant-loop-section l = record {
  numbers : numbers_of l.list.items ≡ take l.section-index l.sections;
  has : AllHeaders l.view l.list.items;
}
