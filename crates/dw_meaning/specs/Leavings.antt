-- That nothing is left in the tables of texts of debug data which no field names (DWARF 5, 7.26): this project's profile. It speaks of the debug data
-- alone.
use Rattle.std.specs.Prelude.{◌≢◌}
use Rattle.dw_base.specs.DebugData.{DebugData, DataReadings, around_of, table_of}
use Rattle.dw_base.specs.SectionTexts.{file_mentions}
use Rattle.dw_base.specs.declared.texts.TextSection.{TextSection}
use Rattle.dw_meaning.specs.DataOutput.{DataReads}
use Rattle.dw_meaning.specs.RebuiltTables.{IsRebuilt}

-- however these debug data can be read, each table of texts that is there is, cut at its NULs, exactly the texts that fields name, each once, in order of
-- first mention
pub record NoLeavings (d : DebugData) : Type 0 where
  pub each : (r : DataReadings) (table : TextSection) → DataReads d r → (table_of (around_of d r) table).number ≢ 0
      → IsRebuilt (table_of (around_of d r) table).bytes (file_mentions table (around_of d r) r)
