-- Why a file isn't edited where its paths that would grow become offsets (this project's profile), and the record of what holds where it is: it is lifted,
-- and the lifted file is edited.
use Rattle.std.specs.Prelude.{◌≡◌, ℕ, List, ◌∷◌, ◌++◌}
use Rattle.dw_base.specs.DebugData.{DataReadings, around_of, line_source}
use Rattle.dw_base.specs.IndexFails.{SharedFails}
use Rattle.dw_base.specs.LayoutFails.{LayoutFails}
use Rattle.dw_base.specs.LineReadings.{LineReading, table_read}
use Rattle.dw_base.specs.Paths.{PathMap}
use Rattle.dw_base.specs.TextLineChanges.{text_place}
use Rattle.dw_base.specs.TextWriteFails.{TextWriteFails}
use Rattle.dw_base.specs.declared.debug_sections.DebugSection.TheVariants.{Str, LineStr, StrOffsets}
use Rattle.dw_base.specs.declared.fault.Refusal.{Refusal}
use Rattle.dw_meaning.specs.DataOutput.{PathsFit, changes_of}
use Rattle.dw_meaning.specs.EditRows.{IsAccepted}
use Rattle.dw_meaning.specs.FileMeanings.{FileReads, file_body, file_data}
use Rattle.dw_meaning.specs.NewAddends.{AddendsFail}
use Rattle.inline_lift.specs.LiftFails.{LiftRows}
use Rattle.inline_lift.specs.LiftedFiles.{lifted_of}

-- the output of a file that is read can't be made: a line table can't be written with its paths mapped; the addend of a relocation doesn't make a new
-- offset; or the output is too long, or a section of it stays and has to change
pub data OutputFails (m : PathMap) (b : List ℕ) (readings : DataReadings) : Refusal → Type 0 where
  line_table : (before behind : List LineReading) (t : LineReading) {r : Refusal} → readings.lines ≡ before ++ t ∷ behind
      → TextWriteFails (line_source (file_data b)) m (text_place m ((changes_of m (around_of (file_data b) readings) readings).new Str)
      ((changes_of m (around_of (file_data b) readings) readings).new LineStr) (line_source (file_data b))) (table_read (line_source (file_data b)) t) r → OutputFails m b readings r
  addends : {r : Refusal} → PathsFit m (file_data b) readings
      → AddendsFail (changes_of m (around_of (file_data b) readings) readings) (file_data b) (around_of (file_data b) readings) readings r → OutputFails m b readings r
  output : {r : Refusal} → PathsFit m (file_data b) readings → LayoutFails b (file_body m b readings) r → OutputFails m b readings r

-- every row: those of the lift, among them the paths that would grow and can't be offsets; a slot that is named by a path whose text changes and by a value
-- that isn't a path; and the output of the lifted file
pub data GrownFails (m : PathMap) (b : List ℕ) : Refusal → Type 0 where
  lift : {r : Refusal} → LiftRows m b r → GrownFails m b r
  shared : (readings : DataReadings) {r : Refusal} → FileReads b readings
      → SharedFails m ((file_data b).found StrOffsets).number (around_of (file_data b) readings) readings.offsets r → GrownFails m b r
  written : (readings new : DataReadings) {r : Refusal} → FileReads b readings → FileReads (lifted_of m b readings) new
      → OutputFails m (lifted_of m b readings) new r → GrownFails m b r

-- the file is lifted, and the lifted file edited
pub record IsGrown (m : PathMap) (b : List ℕ) : Type 0 where
  pub readings : DataReadings
  pub reads : FileReads b readings
  pub lifts : (r : Refusal) → LiftRows m b r → ⊥
  pub accepted : IsAccepted m (lifted_of m b readings)
