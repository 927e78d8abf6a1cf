-- Why a line table can't be written with all its texts moved: as TooWide, at the field, where a new length or offset doesn't fit its field
-- (DWARF 5, 7.4); as DefinedPath, at the opcode, where its program defines a file whose path the map changes (DWARF 4, 6.2.5.3).
use Rattle.std.specs.Prelude.{◌≡◌, ◌≢◌, ℕ, ◌<◌, ◌≤◌, ◌^◌, List, length, take, Contains, Option, Some}
use Rattle.dw_base.specs.Forms.{width_size}
use Rattle.dw_base.specs.LineHeaders.{line_header}
use Rattle.dw_base.specs.LineSources.{LineSource}
use Rattle.dw_base.specs.LineTables.{LineTable, table_bytes}
use Rattle.dw_base.specs.LineWriteFails.{DefinedStay, ProgramFails, length_field, length_limit}
use Rattle.dw_base.specs.Paths.{PathMap}
use Rattle.dw_base.specs.Refusals.{at}
use Rattle.dw_base.specs.TextLineChanges.{header_by_texts, rest_by_texts}
use Rattle.dw_base.specs.WrittenLines.{header_length_place}
use Rattle.dw_base.specs.declared.fault.Kind.TheVariants.{TooWide}
use Rattle.dw_base.specs.declared.fault.Refusal.{Refusal}
use Rattle.dw_base.specs.declared.line_tables.LineHeader.{LineHeader}
use Rattle.dw_base.specs.declared.line_tables.LineText.{LineText}
use Rattle.dw_base.specs.declared.shared.Width.{Width}

-- the new offset of a text of a table in the section of a number doesn't fit its field
pub data WideText (section : ℕ) (width : Width) (places : LineText → Option ℕ) (xs : List LineText) : Refusal → Type 0 where
  wide_text : (x : LineText) (place : ℕ) → Contains xs x → x.place.section ≢ section → places x ≡ Some place → 256 ^ width_size width ≤ place
      → WideText section width places xs (at TooWide section x.place.field)

-- a table that was read can't be written so
pub data TextWriteFails (g : LineSource) (m : PathMap) (places : LineText → Option ℕ) (t : LineTable) : Refusal → Type 0 where
  text_table : length_limit t.width ≤ length (rest_by_texts g m places t) → TextWriteFails g m places t (at TooWide g.number (length_field t.start t.width))
  text_header : 256 ^ width_size t.width ≤ length (header_by_texts g m places t)
      → TextWriteFails g m places t (at TooWide g.number (header_length_place t.start t.width t.version))
  text_offset : {r : Refusal} → WideText g.number t.width places t.texts r → TextWriteFails g m places t r
  text_program : (h : LineHeader) {r : Refusal} → line_header g.order g.bytes t.start ≡ Some h
      → ProgramFails m g.number h (table_bytes g h) r → TextWriteFails g m places t r

-- what holds of a table where none of it does
pub record CanWriteTexts (g : LineSource) (m : PathMap) (places : LineText → Option ℕ) (t : LineTable) : Type 0 where
  pub table : length (rest_by_texts g m places t) < length_limit t.width
  pub header : length (header_by_texts g m places t) < 256 ^ width_size t.width
  pub offsets : (x : LineText) (place : ℕ) → Contains t.texts x → x.place.section ≢ g.number → places x ≡ Some place → place < 256 ^ width_size t.width
  pub defined : DefinedStay m (take t.end g.bytes) t.defined
