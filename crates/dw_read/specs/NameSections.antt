-- What the section of name tables says of texts: the fields of its string offsets (DWARF 5, 6.1.1.4.6).
use Rattle.std.specs.Prelude.{List, [], ◌∷◌, ◌++◌, length}
use Rattle.dw_base.specs.DebugData.{DataReadings}
use Rattle.dw_base.specs.DebugSections.{name_of}
use Rattle.dw_base.specs.FileViews.{View, section_named}
use Rattle.dw_base.specs.NamePieces.{NameState}
use Rattle.dw_base.specs.Pieces.{Piece}
use Rattle.dw_base.specs.SectionTexts.{name_role}
use Rattle.dw_base.specs.declared.debug_sections.DebugSection.TheVariants.{Names}
use Rattle.dw_base.specs.declared.texts.TextSection.{TextSection}
use Rattle.dw_base.specs.declared.texts.TextSection.TheVariants.{InStr}
use Rattle.dw_offsets.specs.declared.fields.OffsetField.{OffsetField}
use Rattle.dw_unit_fields.specs.SectionFields.{SectionFields, field_by}
use Rattle.dw_read.specs.SlotPaths.{slots_by}

-- the fields of offsets into a table of texts among pieces of name tables
abbrev pub names_texts : TextSection → List (Piece NameState) → List OffsetField
names_texts table [] = []
names_texts table (x ∷ xs) = field_by table (name_role x.state) x.state.place (length x.cells) ++ names_texts table xs

-- what the section of a view says by its fields, where there is one: they hold offsets into `.debug_str`, as those of slots do
abbrev pub names_of_view : View → List OffsetField → List SectionFields
names_of_view v fields = slots_by (section_named v (name_of Names)) fields

abbrev pub names_read : View → DataReadings → List SectionFields
names_read v r = names_of_view v (names_texts InStr r.names)
