-- The unit sections of a view by their numbers, and what their units are read by (DWARF 5, 7.5.1).
use Rattle.std.specs.Prelude.{◌≡◌, ℕ, ◌==◌, if◌then◌else◌, List, [], ◌∷◌, Option, Some, None}
use Rattle.dw_base.specs.FileViews.{View}
use Rattle.dw_base.specs.UnitHeaders.{UnitBase, UnitSection, SectionKind, in_info, in_types}
use Rattle.dw_base.specs.ViewData.{debug_data, unit_sections}
use Rattle.dw_entries.specs.declared.unit_kinds.UnitsOf.{UnitsOf}
use Rattle.dw_entries.specs.declared.unit_kinds.UnitsOf.TheVariants.{Info, Types}

-- what the units of a view are read by
abbrev pub unit_base : View → UnitBase
unit_base v = (debug_data v).base

-- the section of a number in a list of unit sections
abbrev pub numbered : List UnitSection → ℕ → Option UnitSection
numbered [] i = None
numbered (z ∷ zs) i = if z.number == i then Some z else numbered zs i

abbrev pub section_or_empty : ℕ → Option UnitSection → UnitSection
section_or_empty i None = record { number = i; kind = in_info; contents = [] }
section_or_empty i (Some z) = z

-- the unit section of a number of a view, which it has only where one has the number; else an empty one
unfoldable pub unit_section_at : View → ℕ → UnitSection
unit_section_at v i = section_or_empty i (numbered (unit_sections v) i)

-- the kind of a unit section as the code has it
abbrev pub as_kind : UnitsOf → SectionKind
as_kind Info = in_info
as_kind Types = in_types

-- the view has a unit section of the number
abbrev pub IsUnitSection : View → ℕ → Type 0
IsUnitSection v i = numbered (unit_sections v) i ≡ Some (unit_section_at v i)
