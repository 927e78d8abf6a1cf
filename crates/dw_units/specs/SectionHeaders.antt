-- The headers of the units of sections, section by section (DWARF 5, 7.5.1).
use Rattle.std.specs.Prelude.{ℕ, ◌≤◌, ◌^◌, List, [], ◌∷◌, ⊤}
use Rattle.dw_base.specs.FileViews.{View}
use Rattle.dw_base.specs.RelocationRows.{HeaderOffsetsRead}
use Rattle.dw_base.specs.UnitHeaders.{AreUnits}
use Rattle.dw_base.specs.ViewData.{debug_data}
use Rattle.dw_base.specs.declared.units.UnitHeader.{UnitHeader}
use Rattle.dw_entries.specs.ViewUnits.{IsUnitSection, unit_section_at}
use Rattle.dw_units.specs.declared.section_headers.SectionHeaders.{SectionHeaders}

-- each unit ends within a section of a file
abbrev pub AllShort : List UnitHeader → Type 0
AllShort [] = ⊤
AllShort (h ∷ hs) = (h.end ≤ 2 ^ 31) × AllShort hs

-- these are the headers of a section of a view
pub record HasHeaders (v : View) (s : SectionHeaders) : Type 0 where
  pub there : IsUnitSection v s.section
  pub units : AreUnits (debug_data v).base (unit_section_at v s.section) s.headers
  pub offsets : HeaderOffsetsRead (debug_data v).base (unit_section_at v s.section)
  pub short : AllShort s.headers

-- those of sections
abbrev pub AllHeaders : View → List SectionHeaders → Type 0
AllHeaders v [] = ⊤
AllHeaders v (s ∷ ss) = HasHeaders v s × AllHeaders v ss

-- their numbers
abbrev pub numbers_of : List SectionHeaders → List ℕ
numbers_of [] = []
numbers_of (s ∷ ss) = s.section ∷ numbers_of ss
