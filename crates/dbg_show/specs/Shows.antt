-- What `show` writes of a view, and why it doesn't.
use Rattle.std.specs.Prelude.{◌≡◌, ◌≤◌, ℕ, List, ◌++◌}
use Rattle.dw_base.specs.DebugData.{DebugData, DataReadings, around_of, line_source}
use Rattle.dw_base.specs.FileViews.{View}
use Rattle.dw_base.specs.LineMeanings.{line_meanings}
use Rattle.dw_base.specs.MacroMeanings.{macro_meanings}
use Rattle.dw_base.specs.RelocationRows.{moving_sections}
use Rattle.dw_base.specs.UnitMeanings.{units_of}
use Rattle.dw_base.specs.ViewData.{debug_data}
use Rattle.dw_base.specs.declared.fault.Fault.TheVariants.{NoMemory, Refused}
use Rattle.dw_base.specs.declared.fault.Refusal.{Refusal}
use Rattle.dw_read.specs.ReadData.{DataRefuses}
use Rattle.dw_meaning.specs.DataOutput.{DataReads}
use Rattle.dw_meaning.specs.RelocationFails.{RelocationsReadIn}
use Rattle.file_tree.specs.Heard.{Heard, grown}
use Rattle.dbg_show.specs.LineTexts.{lines_text}
use Rattle.dbg_show.specs.MacroTexts.{macros_text}
use Rattle.dbg_show.specs.Printing.{Cut}
use Rattle.dbg_show.specs.UnitTexts.{units_text}
use Rattle.dbg_show.specs.declared.show_err.ShowErr.{ShowErr}
use Rattle.dbg_show.specs.declared.show_err.ShowErr.TheVariants as err
use Rattle.dw_base.specs.declared.debug_sections.DebugSection.TheVariants.{Info}

-- the debug data of a view can be shown: they can be read, and no relocation stands on them that isn't handled
pub record ShowReads (v : View) : Type 0 where
  pub readings : DataReadings
  pub reads : DataReads (debug_data v) readings
  pub relocations : RelocationsReadIn (debug_data v) (moving_sections v)

-- why they can't be shown: they can't be read
pub data ShowRefuses (v : View) (r : Refusal) : Type 0 where
  unreadable : DataRefuses v r → ShowRefuses v r

-- the text of debug data, for these readings: that of the units, that of the line tables, and that of the macro units
abbrev pub data_text : DebugData → DataReadings → List ℕ
data_text d readings =
    units_text (d.found Info) 0 (units_of d readings) ++ (lines_text (line_meanings (line_source d) readings.lines)
    ++ macros_text 0 (macro_meanings (around_of d readings) readings.macros))

-- the text of a view that can be shown
abbrev pub view_text : (v : View) → ShowReads v → List ℕ
view_text v reads = data_text (debug_data v) reads.readings

-- the view can be shown, and the sink heard its text
pub record IsShown (v : View) (old new : Heard) : Type 0 where
  pub reads : ShowReads v
  pub bytes : new.bytes ≡ grown old.bytes (view_text v reads)
  pub later : old.faults ≤ new.faults

-- how it ends else: the view can't be shown, and nothing was written; there was not enough memory to read it, and nothing was written; or a
-- first part of the text went out, where the sink failed or memory was wanting
pub data ShowEnds (v : View) (old new : Heard) : ShowErr → Type 0 where
  refused : (r : Refusal) → ShowRefuses v r → new ≡ old → ShowEnds v old new (err.Fault (Refused r))
  unread : new ≡ old → ShowEnds v old new (err.Fault NoMemory)
  cut : (reads : ShowReads v) {e : ShowErr} → Cut (view_text v reads) old new e → ShowEnds v old new e
