-- Fields and rooms of paths in the sections of a view.
use Rattle.std.specs.Prelude.{ℕ, ◌<◌, List, [], ◌∷◌, ◌++◌, length, ⊤}
use Rattle.dw_base.specs.FileViews.{View, section_bytes, view_cells}
use Rattle.dw_base.specs.Paths.{PathMap}
use Rattle.dw_base.specs.ViewData.{debug_data}
use Rattle.dw_base.specs.declared.debug_sections.DebugSection.TheVariants.{Str as str_section, LineStr as line_str_section, Line, Macro}
use Rattle.dw_offsets.specs.declared.fields.OffsetField.{OffsetField}
use Rattle.dw_base.specs.declared.texts.TextSection.{TextSection}
use Rattle.dw_base.specs.declared.texts.TextSection.TheVariants.{InStr, InLineStr}
use Rattle.dw_unit_fields.specs.Fields.{AllApart, AreOffsetFields, AreStartFields}
use Rattle.dw_unit_fields.specs.InlineRooms.{AreRooms}
use Rattle.dw_unit_fields.specs.TextPlaces.{InlinesFit}
use Rattle.dw_unit_fields.specs.SectionFields.{SectionFields, fields_into}

-- the fields of offsets into a table of texts
abbrev pub fields_of : TextSection → SectionFields → List OffsetField
fields_of InStr u = fields_into u str_section
fields_of InLineStr u = fields_into u line_str_section

-- the bytes of a section that says this of paths
abbrev pub info_of : View → SectionFields → List ℕ
info_of v u = section_bytes v u.number

-- it is there, and each of its fields of texts holds an offset that names one, by the cells of the section
pub record HasOffsets (v : View) (u : SectionFields) : Type 0 where
  pub there : u.number < length v.sections
  pub str : AreOffsetFields v.order ((debug_data v).found str_section) (view_cells v u.number) (fields_into u str_section)
  pub line_str : AreOffsetFields v.order ((debug_data v).found line_str_section) (view_cells v u.number) (fields_into u line_str_section)

abbrev pub AllHaveOffsets : View → List SectionFields → Type 0
AllHaveOffsets v [] = ⊤
AllHaveOffsets v (u ∷ us) = HasOffsets v u × AllHaveOffsets v us

-- a section of a view: it is there, its fields of line tables and of macro units are fields, no two fields of texts and of line tables have
-- a byte in common, and its paths that stand in their values have rooms
pub record HasPlaces (v : View) (u : SectionFields) : Type 0 where
  pub there : u.number < length v.sections
  pub starts : AreStartFields (info_of v u) (fields_into u Line)
  pub macros : AreStartFields (info_of v u) (fields_into u Macro)
  pub apart : AllApart (fields_into u str_section ++ (fields_into u line_str_section ++ fields_into u Line))
  pub rooms : AreRooms (info_of v u) u.inline

abbrev pub AllHavePlaces : View → List SectionFields → Type 0
AllHavePlaces v [] = ⊤
AllHavePlaces v (u ∷ us) = HasPlaces v u × AllHavePlaces v us

-- each path that stands in its value fits its room when it is mapped
abbrev pub AllRoomsFit : PathMap → View → List SectionFields → Type 0
AllRoomsFit m v [] = ⊤
AllRoomsFit m v (u ∷ us) = InlinesFit m (info_of v u) u.inline × AllRoomsFit m v us
