-- Debug data of a view that can be read, with their line tables and macro units; and why they can't be (DWARF 5, 3.1.1, 6.1.1, 6.2.4, 6.3,
-- 7.5 and 7.26).
use Rattle.std.specs.Prelude.{◌≡◌, List}
use Rattle.dw_base.specs.DebugData.{DataReadings, line_source}
use Rattle.dw_base.specs.FileViews.{View}
use Rattle.dw_base.specs.LineTables.{LineTable}
use Rattle.dw_base.specs.NameTableFails.{NameTablesFail}
use Rattle.dw_base.specs.RelocationRows.{moving_sections}
use Rattle.dw_base.specs.StringOffsetFails.{ContributionsFail}
use Rattle.dw_base.specs.StringOffsets.{AreContributions}
use Rattle.dw_base.specs.ViewData.{debug_data, string_offsets}
use Rattle.dw_base.specs.declared.fault.Refusal.{Refusal}
use Rattle.dw_lines.specs.ViewTables.{tables_read}
use Rattle.dw_meaning.specs.DataFails.{LinesFail, SlotTextFails, StartsFail}
use Rattle.dw_meaning.specs.DataOutput.{DataReads}
use Rattle.dw_meaning.specs.RelocationFails.{LeftRelocationsFail, RelocationsReadIn}
use Rattle.dw_base.specs.NameOffsets.{NamesRefuse}
use Rattle.dw_starts.specs.MacroSections.{SectionUnits, UnitsFailIn, UnitsFoundIn}
use Rattle.dw_unit_fields.specs.UnitTexts.{UnitsRefuse}
use Rattle.dw_starts.specs.LineStarts.{starts_of}
use Rattle.dw_read.specs.declared.reading.DebugData.{DebugData}

-- the debug data of a view can be read, their relocations are ones that may stand there, and these are the line tables and the macro units
pub record DataRead (v : View) (ts : List LineTable) (ss : List SectionUnits) : Type 0 where
  pub readings : DataReadings
  pub reads : DataReads (debug_data v) readings
  pub tables : ts ≡ tables_read (line_source (debug_data v)) readings.lines
  pub units : UnitsFoundIn v ss
  pub relocations : RelocationsReadIn (debug_data v) (moving_sections v)

-- this is what was read of them: these line tables and macro units, the contributions of string offsets, and where the line tables start
pub record IsDebugData (v : View) (d : DebugData) : Type 0 where
  pub read : DataRead v d.lines.items d.macros.items
  pub contributions : AreContributions v.order (string_offsets v) d.contributions
  pub starts : d.starts.items ≡ starts_of d.lines.items

-- why they can't be: a unit, an entry or an offset of a text in one can't be read; what is to say where a line table or a macro unit starts
-- names none; string offsets, slots, name tables, line tables or macro units can't be read
pub data DataRefuses (v : View) : Refusal → Type 0 where
  units : {r : Refusal} → UnitsRefuse (debug_data v) r → DataRefuses v r
  starts : {r : Refusal} → StartsFail (debug_data v) r → DataRefuses v r
  string_tables : {r : Refusal} → ContributionsFail v.order (string_offsets v) r → DataRefuses v r
  slots : {r : Refusal} → SlotTextFails (debug_data v) r → DataRefuses v r
  name_tables : {r : Refusal} → NameTablesFail v r → DataRefuses v r
  name_offsets : {r : Refusal} → NamesRefuse v r → DataRefuses v r
  relocations : {r : Refusal} → LeftRelocationsFail (debug_data v) (moving_sections v) r → DataRefuses v r
  lines : {r : Refusal} → LinesFail (debug_data v) r → DataRefuses v r
  macros : {r : Refusal} → UnitsFailIn v r → DataRefuses v r
