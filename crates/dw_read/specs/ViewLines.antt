-- The line tables of a view, as they were read: the fields of their texts by offset (DWARF 5, 6.2.4).
use Rattle.std.specs.Prelude.{Bool, ℕ, ◌==◌, ◌&&◌, not, if◌then◌else◌, List, [], ◌∷◌, ◌++◌, Option, Some, None}
use Rattle.dw_base.specs.DebugData.{line_source}
use Rattle.dw_base.specs.DebugSections.{name_of}
use Rattle.dw_base.specs.FileViews.{View, section_named}
use Rattle.dw_base.specs.Forms.{width_size}
use Rattle.dw_base.specs.LineSources.{LineSource}
use Rattle.dw_base.specs.LineTables.{LineTable}
use Rattle.dw_base.specs.ViewData.{debug_data}
use Rattle.dw_base.specs.declared.debug_sections.DebugSection.{DebugSection}
use Rattle.dw_base.specs.declared.debug_sections.DebugSection.TheVariants.{Str, LineStr, Line}
use Rattle.dw_base.specs.declared.line_tables.LineText.{LineText}
use Rattle.dw_base.specs.declared.line_tables.TextPlace.{TextPlace}
use Rattle.dw_base.specs.declared.shared.Width.{Width}
use Rattle.dw_offsets.specs.declared.fields.OffsetField.{OffsetField}
use Rattle.dw_base.specs.declared.texts.TextSection.{TextSection}
use Rattle.dw_base.specs.declared.texts.TextSection.TheVariants.{InStr, InLineStr}
use Rattle.dw_unit_fields.specs.SectionFields.{SectionFields, lists_by}

-- a text lies in a table of texts: not in its line table, whose section has a number, and not in the other; by the number of the
-- first table of texts
abbrev pub is_text_of : ℕ → ℕ → TextSection → TextPlace → Bool
is_text_of section str InStr x = not (x.section == section) && x.section == str
is_text_of section str InLineStr x = not (x.section == section) && not (x.section == str)

-- the field of its offset, where it lies there
abbrev pub text_field : ℕ → ℕ → TextSection → Width → LineText → List OffsetField
text_field section str table w x =
    if is_text_of section str table x.place then record { at = x.place.field; size = width_size w; path = x.path } ∷ [] else []

abbrev pub text_fields : ℕ → ℕ → TextSection → Width → List LineText → List OffsetField
text_fields section str table w [] = []
text_fields section str table w (x ∷ xs) = text_field section str table w x ++ text_fields section str table w xs

-- those of the texts of line tables
abbrev pub table_fields : ℕ → ℕ → TextSection → List LineTable → List OffsetField
table_fields section str table [] = []
table_fields section str table (t ∷ ts) = text_fields section str table t.width t.texts ++ table_fields section str table ts

-- those that hold offsets into a section of debug data, by the number of the first table of texts
abbrev pub tables_into : ℕ → ℕ → List LineTable → DebugSection → List OffsetField
tables_into section str ts Str = table_fields section str InStr ts
tables_into section str ts LineStr = table_fields section str InLineStr ts
tables_into section str ts s = []

-- what line tables say of texts
abbrev pub lines_with : LineSource → List LineTable → SectionFields
lines_with g ts = record {
  number = g.number;
  fields = lists_by (tables_into g.number g.str.number ts);
  inline = [];
  stray = None;
}

-- the same of those of a view, where it has any
abbrev pub lines_by : Option ℕ → LineSource → List LineTable → List SectionFields
lines_by None g ts = []
lines_by (Some i) g ts = lines_with g ts ∷ []

abbrev pub lines_of_view : View → List LineTable → List SectionFields
lines_of_view v ts = lines_by (section_named v (name_of Line)) (line_source (debug_data v)) ts
