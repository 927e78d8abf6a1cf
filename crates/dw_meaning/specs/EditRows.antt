-- Why a file isn't edited with a prefix map, and the record of what holds where it is.
use Rattle.std.specs.Prelude.{◌≡◌, ◌<◌, ◌++◌, ◌∷◌, ℕ, List}
use Rattle.dw_meaning.specs.DataFails.{IndexesRead, InlineFails}
use Rattle.dw_meaning.specs.DataOutput.{DataFits, PathsFit, changes_of}
use Rattle.dw_base.specs.DebugData.{DataReadings, around_of, line_source}
use Rattle.dw_base.specs.IndexFails.{SharedFails}
use Rattle.dw_base.specs.Elf.{section_count}
use Rattle.dw_base.specs.ElfFails.{ElfReads}
use Rattle.dw_meaning.specs.FileFails.{ReadIsLoaded, FileFails}
use Rattle.dw_meaning.specs.FileMeanings.{file_data, file_body, FileReads}
use Rattle.dw_meaning.specs.NewAddends.{AddendsFail}
use Rattle.dw_meaning.specs.RelocationFails.{RelocationsAreLoaded}
use Rattle.dw_base.specs.LayoutFails.{LayoutFails, LayoutFits}
use Rattle.dw_base.specs.TextLineChanges.{text_place}
use Rattle.dw_base.specs.LineReadings.{LineReading, table_read}
use Rattle.dw_base.specs.TextWriteFails.{TextWriteFails}
use Rattle.dw_base.specs.Paths.{PathMap}
use Rattle.dw_base.specs.declared.debug_sections.DebugSection.TheVariants.{Str, LineStr, StrOffsets}
use Rattle.dw_base.specs.declared.fault.Refusal.{Refusal}

-- every row: those of the file; a path that stands in its value would grow; a slot is named by a path whose text changes and by a
-- value that isn't a path; a line table can't be written with its paths mapped; the addend of a relocation doesn't make a new offset; and the output can be too long, or a section lie
-- across the end of the part that stays, begin in the file header, or stay and have to change
pub data EditFails (m : PathMap) (b : List ℕ) : Refusal → Type 0 where
  file : {r : Refusal} → FileFails b r → EditFails m b r
  inline : {r : Refusal} → ElfReads b → InlineFails m (file_data b) r → EditFails m b r
  shared : (readings : DataReadings) {r : Refusal} → ElfReads b → IndexesRead (file_data b) readings
      → SharedFails m ((file_data b).found StrOffsets).number (around_of (file_data b) readings) readings.offsets r → EditFails m b r
  line_table : (readings : DataReadings) (before behind : List LineReading) (t : LineReading) {r : Refusal} → FileReads b readings → readings.lines ≡ before ++ t ∷ behind
      → TextWriteFails (line_source (file_data b)) m (text_place m ((changes_of m (around_of (file_data b) readings) readings).new Str)
      ((changes_of m (around_of (file_data b) readings) readings).new LineStr) (line_source (file_data b))) (table_read (line_source (file_data b)) t) r → EditFails m b r
  addends : (readings : DataReadings) {r : Refusal} → FileReads b readings → PathsFit m (file_data b) readings
      → AddendsFail (changes_of m (around_of (file_data b) readings) readings) (file_data b) (around_of (file_data b) readings) readings r → EditFails m b r
  output : (readings : DataReadings) {r : Refusal} → FileReads b readings → PathsFit m (file_data b) readings
      → LayoutFails b (file_body m b readings) r → EditFails m b r

-- the file is taken: it can be read, its paths fit the rooms in which they stand, its slots are fit to be mapped, its line tables can be written
-- and addends make the new offsets; no section that is read is loaded, nor one that holds relocations of such a section; and its output can be
-- written
pub record IsAccepted (m : PathMap) (b : List ℕ) : Type 0 where
  pub readings : DataReadings
  pub reads : FileReads b readings
  pub fits : DataFits m (file_data b) readings
  pub unloaded : (i : ℕ) → i < section_count b → ReadIsLoaded b i → ⊥
  pub relocations_unloaded : (i : ℕ) → i < section_count b → RelocationsAreLoaded b i → ⊥
  pub written : LayoutFits b (file_body m b readings)
