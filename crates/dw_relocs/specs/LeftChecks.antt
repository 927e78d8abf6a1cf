-- What holds of the relocations of a section, part by part: of slots, name tables, macro units, line tables and units.
use Rattle.std.specs.Prelude.{ℕ, List}
use Rattle.dw_base.specs.DebugData.{DebugData, line_source}
use Rattle.dw_base.specs.LineFields.{line_fields, table_fields}
use Rattle.dw_base.specs.LineReadings.{AreTables, LineReading, ReadsTable, TablesTo}
use Rattle.dw_base.specs.NamePieces.{NameState, ReadsNames}
use Rattle.dw_base.specs.OffsetPieces.{OffsetState, ReadsOffsets}
use Rattle.dw_base.specs.Pieces.{Piece}
use Rattle.dw_base.specs.RelocationRows.{FieldsRead, HeaderReads, name_fields, slot_fields, unit_fields}
use Rattle.dw_base.specs.UnitHeaders.{UnitSection}
use Rattle.dw_base.specs.UnitPieces.{ReadsUnits}
use Rattle.dw_base.specs.UnitStates.{UnitState}
use Rattle.dw_base.specs.declared.debug_sections.DebugSection.TheVariants.{StrOffsets, Line, Names}

-- of the slots of string offsets
pub record SlotsHold (d : DebugData) (moving : List ℕ) : Type 0 where
  pub slots : (xs : List (Piece OffsetState)) → ReadsOffsets d.base.order (d.found StrOffsets).contents xs
      → FieldsRead d.base.order (d.found StrOffsets).contents moving (slot_fields xs)

-- of the string offsets of name tables
pub record NamesHold (d : DebugData) (moving : List ℕ) : Type 0 where
  pub names : (xs : List (Piece NameState)) → ReadsNames d.base.order (d.found Names).contents xs
      → FieldsRead d.base.order (d.found Names).contents moving (name_fields xs)

-- of the units of a section
pub record UnitsHold (d : DebugData) (moving : List ℕ) (z : UnitSection) : Type 0 where
  pub units : (first : ℕ) (xs : List (Piece UnitState)) → ReadsUnits d.base z first xs
      → FieldsRead d.base.order z.contents moving (unit_fields d.base.order xs)

-- of line tables, and of their headers
pub record LinesHold (d : DebugData) (moving : List ℕ) : Type 0 where
  pub lines : (ts : List LineReading) → AreTables (line_source d) ts → FieldsRead d.base.order (d.found Line).contents moving (line_fields (line_source d) ts)
  pub headers : (before : List LineReading) (start : ℕ) (t : LineReading) → TablesTo (line_source d) 0 before start → ReadsTable (line_source d) start t
      → HeaderReads t.header.start t.behind (d.found Line).contents (table_fields (line_source d) t)
