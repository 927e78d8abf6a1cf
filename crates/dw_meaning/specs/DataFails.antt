-- Why debug data can't be read, or not be mapped: what is wrong with a unit, its table of abbreviations or its entries; an
-- offset of a text, or an index of one, that names none; and a path that stands in its value and would grow.
use Rattle.std.specs.Prelude.{true, false, ◌≡◌, ◌<◌, ℕ, length, List, ◌∷◌, ◌++◌, Option, Some, None}
use Rattle.dw_base.specs.AbbreviationTables.{Abbreviation}
use Rattle.dw_base.specs.Cells.{Located, cells_at, field_of, is_placed, offset_of}
use Rattle.dw_base.specs.DebugData.{DebugData, DataReadings, ReadsAll, around_of, indexing_of, line_source}
use Rattle.dw_base.specs.EntryScans.{EntryFails}
use Rattle.dw_base.specs.EntryValues.{HasUnit, HasTable, HasValue, bytes_up_to}
use Rattle.dw_base.specs.IndexFails.{IndexFails, SlotFails}
use Rattle.dw_base.specs.InlinePaths.{inline_fits}
use Rattle.dw_base.specs.LineFails.{LineFails}
use Rattle.dw_base.specs.LineReadings.{LineReading, TablesTo, AreTables}
use Rattle.dw_base.specs.MacroReadings.{ReadsAllMacros}
use Rattle.dw_base.specs.OffsetPieces.{ReadsOffsets}
use Rattle.dw_base.specs.Paths.{PathMap}
use Rattle.dw_base.specs.Refusals.{at}
use Rattle.dw_base.specs.Roles.{is_path}
use Rattle.dw_base.specs.TableStarts.{StrayFails, MacroStrayFails}
use Rattle.dw_base.specs.Texts.{text_in, ends_in}
use Rattle.dw_base.specs.UnitFails.{UnitFails}
use Rattle.dw_base.specs.UnitHeaders.{UnitSection}
use Rattle.dw_base.specs.UnitTables.{UnitTableFails}
use Rattle.dw_base.specs.declared.debug_sections.DebugSection.TheVariants.{Info, Str, LineStr, StrOffsets, Macro}
use Rattle.dw_base.specs.declared.fault.Kind.TheVariants.{StringOffset, InlineGrows}
use Rattle.dw_base.specs.declared.fault.Refusal.{Refusal}
use Rattle.dw_base.specs.declared.units.UnitHeader.{UnitHeader}
use Rattle.dw_base.specs.declared.values.Spec.{Spec}
use Rattle.dw_base.specs.declared.values.Value.{Value}
use Rattle.dw_base.specs.declared.values.ValueClass.{ValueClass}
use Rattle.dw_base.specs.declared.values.ValueClass.TheVariants.{InlineText, StrOffset, LineStrOffset}

-- the table of texts that offsets of a class are of
abbrev pub text_table : DebugData → ValueClass → Option Located
text_table d StrOffset = Some (d.found Str)
text_table d LineStrOffset = Some (d.found LineStr)
text_table d class = None

-- the offset that a value's field holds into a table
abbrev pub value_offset : DebugData → UnitSection → Value → Located → ℕ
value_offset d z v table = offset_of d.base.order table (cells_at z.contents v.at v.len)

-- the rows of units, tables and entries
pub data DataFails (d : DebugData) : Refusal → Type 0 where
  unit : (z : UnitSection) (before behind : List UnitSection) {r : Refusal} → d.found Info ≡ before ++ z ∷ behind → UnitFails d.base z r
      → DataFails d r
  table : (z : UnitSection) (h : UnitHeader) {r : Refusal} → HasUnit d z h → UnitTableFails d.base h r → DataFails d r
  entries : (z : UnitSection) (h : UnitHeader) (list : List Abbreviation) {r : Refusal} → HasTable d z h list
      → EntryFails h list (bytes_up_to z h) r → DataFails d r

-- the row of texts, at the field of the offset; a symbol without a place is no offset
pub data TextFails (d : DebugData) : Refusal → Type 0 where
  no_text : (z : UnitSection) (h : UnitHeader) (list : List Abbreviation) (number : ℕ) (a : Abbreviation) (x : Spec) (place : ℕ)
      (v : Value) (table : Located) → HasTable d z h list → HasValue h list (bytes_up_to z h) number a x place v
      → text_table d v.class ≡ Some table → is_placed (field_of d.base.order (cells_at z.contents v.at v.len)) ≡ true
      → ends_in table.bytes (value_offset d z v table) ≡ false
      → TextFails d (at StringOffset z.number v.at)

-- the units and the string offsets can be read: they are these pieces
pub record IndexesRead (d : DebugData) (r : DataReadings) : Type 0 where
  pub units : ReadsAll d.base 0 (d.found Info) r.units
  pub offsets : ReadsOffsets d.base.order (d.found StrOffsets).contents r.offsets

-- the rows of values by index and of slots
pub data SlotTextFails (d : DebugData) : Refusal → Type 0 where
  index : (readings : DataReadings) {r : Refusal} → IndexesRead d readings → IndexFails (indexing_of d readings) r → SlotTextFails d r
  slot : (readings : DataReadings) {r : Refusal} → IndexesRead d readings → SlotFails (d.found StrOffsets).number (around_of d readings) readings.offsets r
      → SlotTextFails d r

-- the row of line tables: behind tables that can be read one starts that can't
pub data LinesFail (d : DebugData) : Refusal → Type 0 where
  line_table : (before : List LineReading) (start : ℕ) {r : Refusal} → TablesTo (line_source d) 0 before start → start < length (line_source d).bytes
      → LineFails (line_source d) start r → LinesFail d r

-- the units, the line tables and the macro units can be read: they are these
pub record StartsRead (d : DebugData) (r : DataReadings) : Type 0 where
  pub units : ReadsAll d.base 0 (d.found Info) r.units
  pub lines : AreTables (line_source d) r.lines
  pub macros : ReadsAllMacros d.base.order (d.found Macro) r.macros

-- the rows of what says where line tables and macro units start
pub data StartsFail (d : DebugData) : Refusal → Type 0 where
  stray : (readings : DataReadings) {r : Refusal} → StartsRead d readings → StrayFails (around_of d readings) readings.units r → StartsFail d r
  macro_stray : (readings : DataReadings) {r : Refusal} → StartsRead d readings → MacroStrayFails (around_of d readings) readings.macros r
      → StartsFail d r

-- the row of paths that stand in their values, at the text
pub data InlineFails (m : PathMap) (d : DebugData) : Refusal → Type 0 where
  grows : (z : UnitSection) (h : UnitHeader) (list : List Abbreviation) (number : ℕ) (a : Abbreviation) (x : Spec) (place : ℕ)
      (v : Value) → HasTable d z h list → HasValue h list (bytes_up_to z h) number a x place v
      → is_path number a.tag x.name ≡ true → v.class ≡ InlineText
      → inline_fits m (text_in (bytes_up_to z h) v.at) ≡ false → InlineFails m d (at InlineGrows z.number v.at)
