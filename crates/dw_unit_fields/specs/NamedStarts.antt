-- The values that say where line tables and macro units start (DWARF 5, 3.1.1 and 6.3.2), and that what they say starts there.
use Rattle.std.specs.Prelude.{Bool, ◌≡◌, ℕ, List, [], ◌∷◌, IsTrue, ⊤, None}
use Rattle.dw_base.specs.Cells.{Cell, Located, cells_at, field_of, located_cells, offset_of}
use Rattle.dw_base.specs.DebugData.{DebugData, start_number}
use Rattle.dw_base.specs.FileViews.{View, view_cells}
use Rattle.dw_base.specs.LineMeanings.{is_there}
use Rattle.dw_base.specs.UnitHeaders.{UnitSection}
use Rattle.dw_base.specs.ViewData.{located}
use Rattle.dw_base.specs.declared.debug_sections.DebugSection.TheVariants.{Line, Macro}
use Rattle.dw_base.specs.declared.shared.Order.{Order}
use Rattle.dw_offsets.specs.declared.fields.OffsetField.{OffsetField}
use Rattle.dw_starts.specs.UnitPlaces.{UnitPlaces, names_place}
use Rattle.dw_unit_fields.specs.SectionFields.{SectionFields, fields_into}

-- this says each of these fields of a section, by its cells
abbrev pub FieldsSay : (List Cell → Bool) → List Cell → List OffsetField → Type 0
FieldsSay says cells [] = ⊤
FieldsSay says cells (f ∷ fs) = IsTrue (says (cells_at cells f.at f.size)) × FieldsSay says cells fs

-- an offset into the line tables is one of these starts
abbrev pub says_start : Order → Located → List ℕ → List Cell → Bool
says_start order lines starts p = is_there (start_number 0 starts (offset_of order lines p))

-- a field names a macro unit that starts at one of these places
abbrev pub says_unit : Order → UnitPlaces → List Cell → Bool
says_unit order places p = names_place places (field_of order p)

-- each value of a section of a view that is to say where a line table starts says one of these starts, and so does one of a macro unit
pub record SectionStarts (v : View) (starts : List ℕ) (places : UnitPlaces) (u : SectionFields) : Type 0 where
  pub all_say : u.stray ≡ None
  pub there : FieldsSay (says_start v.order (located v Line) starts) (view_cells v u.number) (fields_into u Line)
  pub units : FieldsSay (says_unit v.order places) (view_cells v u.number) (fields_into u Macro)

-- the same of the cells of a section of debug data
abbrev pub StartsNamed : DebugData → List ℕ → List Cell → List OffsetField → Type 0
StartsNamed d starts cells fs = FieldsSay (says_start d.base.order (located_cells (d.found Line)) starts) cells fs

abbrev pub UnitsNamed : DebugData → UnitPlaces → List Cell → List OffsetField → Type 0
UnitsNamed d places cells fs = FieldsSay (says_unit d.base.order places) cells fs

pub record SectionNamed (d : DebugData) (starts : List ℕ) (places : UnitPlaces) (z : UnitSection) (u : SectionFields) : Type 0 where
  pub all_say : u.stray ≡ None
  pub named : StartsNamed d starts z.contents (fields_into u Line)
  pub units : UnitsNamed d places z.contents (fields_into u Macro)

-- in all sections
abbrev pub AllStarts : DebugData → List ℕ → UnitPlaces → List UnitSection → List SectionFields → Type 0
AllStarts d starts places [] us = ⊤
AllStarts d starts places (z ∷ zs) [] = ⊤
AllStarts d starts places (z ∷ zs) (u ∷ us) = SectionNamed d starts places z u × AllStarts d starts places zs us
