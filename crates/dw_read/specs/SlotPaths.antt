-- What the section of string offsets says of texts: the fields of its slots (DWARF 5, 7.26).
use Rattle.std.specs.Prelude.{◌≡◌, ℕ, List, [], ◌∷◌, ◌++◌, length, Option, Some, None}
use Rattle.dw_base.specs.DebugData.{DebugData, DataReadings, around_of, path_slots}
use Rattle.dw_base.specs.DebugSections.{name_of}
use Rattle.dw_base.specs.FileViews.{View, section_named}
use Rattle.dw_base.specs.OffsetPieces.{OffsetState}
use Rattle.dw_base.specs.Pieces.{Piece}
use Rattle.dw_base.specs.SectionTexts.{slot_role}
use Rattle.dw_base.specs.ViewData.{debug_data}
use Rattle.dw_base.specs.declared.debug_sections.DebugSection.{DebugSection}
use Rattle.dw_base.specs.declared.debug_sections.DebugSection.TheVariants.{Str, StrOffsets}
use Rattle.dw_offsets.specs.PathSlots.{AreSlotFields, slots_in}
use Rattle.dw_offsets.specs.declared.fields.OffsetField.{OffsetField}
use Rattle.dw_base.specs.declared.texts.TextSection.{TextSection}
use Rattle.dw_base.specs.declared.texts.TextSection.TheVariants.{InStr}
use Rattle.dw_unit_fields.specs.SectionFields.{SectionFields, field_by, fields_into, lists_by}

-- the fields of offsets into a table of texts among pieces of string offsets, by which slots paths name
abbrev pub offset_fields : TextSection → List ℕ → List (Piece OffsetState) → List OffsetField
offset_fields table paths [] = []
offset_fields table paths (x ∷ xs) = field_by table (slot_role paths x.state) x.state.place (length x.cells) ++ offset_fields table paths xs

-- what a section of string offsets says of texts, by its number and these fields, which hold offsets into `.debug_str`
abbrev pub slots_into : List OffsetField → DebugSection → List OffsetField
slots_into fields Str = fields
slots_into fields s = []

abbrev pub slots_with : ℕ → List OffsetField → SectionFields
slots_with number fields = record { number = number; fields = lists_by (slots_into fields); inline = []; stray = None }

-- the same of the section of a view, where there is one
abbrev pub slots_by : Option ℕ → List OffsetField → List SectionFields
slots_by None fields = []
slots_by (Some number) fields = slots_with number fields ∷ []

abbrev pub slots_of_view : View → List OffsetField → List SectionFields
slots_of_view v fields = slots_by (section_named v (name_of StrOffsets)) fields

-- the fields of the slots, by what was read
abbrev pub read_fields : DebugData → DataReadings → List OffsetField
read_fields d r = offset_fields InStr (path_slots (around_of d r)) r.offsets

abbrev pub slots_read : View → DataReadings → List SectionFields
slots_read v r = slots_of_view v (read_fields (debug_data v) r)

-- the fields of texts of the first of these sections
abbrev pub first_fields : List SectionFields → List OffsetField
first_fields [] = []
first_fields (u ∷ us) = fields_into u Str

-- this was found of the section of string offsets: the fields of slots that can be taken, none where there is no such section
pub record AreSlots (v : View) (us : List SectionFields) : Type 0 where
  pub fields : AreSlotFields (slots_in v) (first_fields us)
  pub none : None ≡ section_named v (name_of StrOffsets) → us ≡ []
