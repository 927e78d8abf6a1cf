-- Why a value that is to say where a line table or a macro unit starts says none (DWARF 5, 3.1.1).
use Rattle.std.specs.Prelude.{true, Bool, false, ◌≡◌, ℕ, ◌<◌, List, length, get_or, Some}
use Rattle.dw_base.specs.Cells.{Cell, cells_at, field_of, is_placed}
use Rattle.dw_base.specs.DebugData.{DebugData}
use Rattle.dw_base.specs.FileViews.{View, view_cells}
use Rattle.dw_base.specs.Refusals.{at}
use Rattle.dw_base.specs.RelocationRows.{OffsetFails, field_place, offset_field}
use Rattle.dw_base.specs.ViewData.{located}
use Rattle.dw_base.specs.declared.debug_sections.DebugSection.TheVariants.{Line, Macro}
use Rattle.dw_base.specs.declared.fault.Kind.TheVariants.{Stray}
use Rattle.dw_base.specs.declared.fault.Refusal.{Refusal}
use Rattle.dw_base.specs.declared.shared.Order.{Order}
use Rattle.dw_offsets.specs.declared.fields.OffsetField.{OffsetField}
use Rattle.dw_meaning.specs.DataFails.{StartsFail}
use Rattle.dw_meaning.specs.RelocationFails.{ValueRelocationFails}
use Rattle.dw_unit_fields.specs.NamedStarts.{says_start, says_unit}
use Rattle.dw_unit_fields.specs.SectionFields.{SectionFields, fields_into}
use Rattle.dw_starts.specs.UnitPlaces.{UnitPlaces}

-- a field of a section doesn't say this; or a relocation lies on it only in part, or gives it no place
pub data FieldStrays (order : Order) (section : ℕ) (cells : List Cell) (says : List Cell → Bool) (fields : List OffsetField) : Refusal → Type 0 where
  field : (k : ℕ) (f : OffsetField) → k < length fields → f ≡ get_or fields k f → is_placed (field_of order (cells_at cells f.at f.size)) ≡ true
      → says (cells_at cells f.at f.size) ≡ false
      → FieldStrays order section cells says fields (at Stray section f.at)
  no_offset : (k : ℕ) (f : OffsetField) {r : Refusal} → k < length fields → f ≡ get_or fields k f
      → OffsetFails order section cells (field_place f.at f.size offset_field) r → FieldStrays order section cells says fields r

-- so does a value of a section of a view that is to say where a line table or a macro unit starts, or its form can't
pub data SectionStrays (v : View) (starts : List ℕ) (places : UnitPlaces) (u : SectionFields) : Refusal → Type 0 where
  other_form : (place : ℕ) → u.stray ≡ Some place → SectionStrays v starts places u (at Stray u.number place)
  no_table : {r : Refusal} → FieldStrays v.order u.number (view_cells v u.number) (says_start v.order (located v Line) starts) (fields_into u Line) r
      → SectionStrays v starts places u r
  no_unit : {r : Refusal} → FieldStrays v.order u.number (view_cells v u.number) (says_unit v.order places) (fields_into u Macro) r → SectionStrays v starts places u r

-- why what the units of debug data are to say of starts can't be taken: one says none; or its offset can't be read
pub data StartsRefuse (d : DebugData) : Refusal → Type 0 where
  says_none : {r : Refusal} → StartsFail d r → StartsRefuse d r
  reads_none : {r : Refusal} → ValueRelocationFails d r → StartsRefuse d r
