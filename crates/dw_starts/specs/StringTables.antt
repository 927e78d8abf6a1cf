-- The tables of texts of a view, by which section they are (DWARF 5, 7.26).
use Rattle.std.specs.Prelude.{ℕ, List}
use Rattle.dw_base.specs.declared.shared.Order.{Order}
use Rattle.dw_base.specs.Cells.{Located}
use Rattle.dw_base.specs.DebugData.{DebugData}
use Rattle.dw_base.specs.FileViews.{View}
use Rattle.dw_base.specs.ViewData.{debug_data}
use Rattle.dw_base.specs.declared.debug_sections.DebugSection.{DebugSection}
use Rattle.dw_base.specs.declared.debug_sections.DebugSection.TheVariants.{Str as str_section, LineStr as line_str_section}
use Rattle.dw_base.specs.declared.texts.TextSection.{TextSection}
use Rattle.dw_base.specs.declared.texts.TextSection.TheVariants.{InStr, InLineStr}

-- a table of texts, and the byte order in which fields hold offsets into it
pub record OffsetTable : Type 0 where
  pub order : Order
  pub bytes : List ℕ

-- the section that it is
abbrev pub section_of : TextSection → DebugSection
section_of InStr = str_section
section_of InLineStr = line_str_section

-- the table of a section of texts, and the byte order of fields
abbrev pub offsets_of : DebugData → TextSection → OffsetTable
offsets_of d InStr = record { order = d.base.order; bytes = (d.found str_section).bytes }
offsets_of d InLineStr = record { order = d.base.order; bytes = (d.found line_str_section).bytes }

abbrev pub texts_in : DebugData → TextSection → Located
texts_in d InStr = d.found str_section
texts_in d InLineStr = d.found line_str_section

abbrev pub table_number : DebugData → TextSection → ℕ
table_number d InStr = (d.found str_section).number
table_number d InLineStr = (d.found line_str_section).number

abbrev pub offsets_in : View → TextSection → OffsetTable
offsets_in v table = offsets_of (debug_data v) table
