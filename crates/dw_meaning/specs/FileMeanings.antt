-- What a file means, its output, and that an output means what the file meant, mapped.
use Rattle.std.specs.Prelude.{◌≡◌, ℕ, if◌then◌else◌, List}
use Rattle.dw_meaning.specs.DataOutput.{DataReads, DataFits, body_in, new_bodies}
use Rattle.dw_base.specs.DebugData.{DebugData, DataReadings, around_of}
use Rattle.dw_base.specs.DebugSectionFails.{DebugSectionsRead}
use Rattle.dw_base.specs.Elf.{contents_of}
use Rattle.dw_base.specs.ElfFails.{ElfReads}
use Rattle.dw_base.specs.FileViews.{View, view_of}
use Rattle.dw_base.specs.Layout.{with_bodies}
use Rattle.dw_base.specs.Paths.{PathMap}
use Rattle.dw_base.specs.RelocationSectionFails.{relocates_read}
use Rattle.dw_base.specs.ViewData.{debug_data, Meaning, meaning_of, mapped}
use Rattle.dw_meaning.specs.RelocatedBodies.{new_cells, relocated_body}
use Rattle.dw_meaning.specs.RelocationFails.{RelocationsRead}
use Rattle.dw_meaning.specs.SpelledUnits.{AllSpelled}

-- the debug data of a file
abbrev pub file_data : List ℕ → DebugData
file_data b = debug_data (view_of b)

-- a file can be read: its records, its type and the names of its sections, the relocations of those that are read, and its debug data, which
-- are these pieces
pub record FileReads (b : List ℕ) (r : DataReadings) : Type 0 where
  pub elf : ElfReads b
  pub names : DebugSectionsRead b
  pub relocations : RelocationsRead b
  pub data_reads : DataReads (file_data b) r

-- it can be read, and means this. The bytes of each unit are a header and marks that spell the forest of its entries (DWARF 5, 7.5.1 to 7.5.3).
pub record Means (b : List ℕ) (x : Meaning) : Type 0 where
  pub readings : DataReadings
  pub reads : FileReads b readings
  pub says : meaning_of (view_of b) readings ≡ x
  pub spells : AllSpelled (around_of (file_data b) readings) readings.units x.units

-- the debug data of a view, which may be that of a pair, can be read, and mean this; the bytes of each unit, whose section may be in either part,
-- spell its forest
pub record ViewMeans (v : View) (x : Meaning) : Type 0 where
  pub readings : DataReadings
  pub reads : DataReads (debug_data v) readings
  pub says : meaning_of v readings ≡ x
  pub spells : AllSpelled (around_of (debug_data v) readings) readings.units x.units

-- the body of the section of a number in the output, where it holds no relocations of one that is read
unfoldable pub new_body : PathMap → List ℕ → DataReadings → ℕ → List ℕ
new_body m b r i = body_in (new_bodies m (file_data b) r) (contents_of b) i

-- that of any section
unfoldable pub file_body : PathMap → List ℕ → DataReadings → ℕ → List ℕ
file_body m b r k = if relocates_read b k then relocated_body b (new_cells m (file_data b) r) k else new_body m b r k

-- the output file, for these readings
unfoldable pub output_of : PathMap → List ℕ → DataReadings → List ℕ
output_of m b r = with_bodies b (file_body m b r)

-- this is the output file: its paths fit the rooms in which they stand, its slots are fit to be mapped, its line tables can be written, and
-- addends make the new offsets
pub record IsOutput (m : PathMap) (b out : List ℕ) : Type 0 where
  pub readings : DataReadings
  pub reads : DataReads (file_data b) readings
  pub fits : DataFits m (file_data b) readings
  pub is : out ≡ output_of m b readings

-- what the file `out` means is what the file `b` means, with the map applied. Each of the two means one thing: whatever can
-- be read in it says the same.
pub record MeaningKept (m : PathMap) (b out : List ℕ) : Type 0 where
  pub meaning : Meaning
  pub old : Means b meaning
  pub new : Means out (mapped m meaning)
  pub old_one : (x : Meaning) → Means b x → x ≡ meaning
  pub new_one : (x : Meaning) → Means out x → x ≡ mapped m meaning
