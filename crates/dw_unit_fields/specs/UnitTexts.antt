-- What a pass over a unit section finds of texts and paths; and what it refuses.
use Rattle.std.specs.Prelude.{true, ◌≡◌, ℕ, ◌+◌, List, [], ◌∷◌, ◌++◌, ⊤, Option, Some, None}
use Rattle.dw_base.specs.AbbreviationTables.{Abbreviation, abbreviation_of}
use Rattle.dw_meaning.specs.DataFails.{DataFails, TextFails}
use Rattle.dw_meaning.specs.RelocationFails.{ValueRelocationFails}
use Rattle.dw_base.specs.DebugData.{DebugData}
use Rattle.dw_base.specs.EntryScans.{IsEntry, Scans, AreEntries, EntryFails}
use Rattle.dw_base.specs.EntryValues.{bytes_up_to}
use Rattle.dw_base.specs.Lebs.{uleb_at}
use Rattle.dw_base.specs.RelocationRows.{HeaderOffsetFails, HeaderOffsetsRead}
use Rattle.dw_base.specs.UnitHeaders.{UnitSection, AreUnits}
use Rattle.dw_base.specs.UnitTables.{IsUnitTable}
use Rattle.dw_base.specs.declared.debug_sections.DebugSection.TheVariants.{Info, Str, LineStr}
use Rattle.dw_base.specs.declared.fault.Refusal.{Refusal}
use Rattle.dw_base.specs.declared.shared.Params.{Params}
use Rattle.dw_base.specs.declared.units.Scanned.{Scanned}
use Rattle.dw_base.specs.declared.units.UnitHeader.{UnitHeader}
use Rattle.dw_unit_fields.specs.EntryTexts.{Tables, TextTables, AreTaken, FoundTexts, ValuesRefuse, with_places, none_found}
use Rattle.dw_unit_fields.specs.NamedSlots.{Slots, TakesIndexes, TakesUnits}
use Rattle.dw_unit_fields.specs.TextPlaces.{UnitSays, base_source, entries_places, number_said, said_placed, SectionSays}
use Rattle.dw_unit_fields.specs.SectionFields.{SectionFields}

-- the values of an entry, whose code stands at a place, can be taken
abbrev pub TakenOf : Tables → Params → List ℕ → ℕ → Option Abbreviation → Type 0
TakenOf t params bytes place None = ⊤
TakenOf t params bytes place (Some a) = AreTaken t params bytes a.specs place

abbrev pub TakenBy : Tables → Params → List Abbreviation → List ℕ → ℕ → Option (ℕ × ℕ) → Type 0
TakenBy t params table bytes place None = ⊤
TakenBy t params table bytes place (Some (code, size)) = TakenOf t params bytes (place + size) (abbreviation_of table code)

unfoldable pub EntryTaken : Tables → Params → List Abbreviation → List ℕ → Scanned → Type 0
EntryTaken t params table bytes e = TakenBy t params table bytes e.offset (uleb_at bytes e.offset)

-- so can those of entries
abbrev pub EntriesTaken : Tables → Params → List Abbreviation → List ℕ → List Scanned → Type 0
EntriesTaken t params table bytes [] = ⊤
EntriesTaken t params table bytes (e ∷ es) = EntryTaken t params table bytes e × EntriesTaken t params table bytes es

-- why those of an entry can't be
pub data EntryRefuses (t : Tables) (params : Params) (table : List Abbreviation) (bytes : List ℕ) (section : ℕ) (e : Scanned) : Refusal → Type 0 where
  values : (a : Abbreviation) (code size : ℕ) {r : Refusal} → uleb_at bytes e.offset ≡ Some (code, size) → abbreviation_of table code ≡ Some a
      → ValuesRefuse t params bytes section (e.offset + size) a.specs r → EntryRefuses t params table bytes section e r

-- the entries of a unit were read, and what they say of paths stands behind what was found; `bytes` are those of the section
-- up to the unit's end
pub record ScanTaken (t : Tables) (h : UnitHeader) (table : List Abbreviation) (bytes : List ℕ) (old new : FoundTexts) : Type 0 where
  pub items : List Scanned
  pub entries : AreEntries h table bytes items
  pub found : new ≡ with_places old (entries_places h.params table bytes 0 items)
  pub taken : EntriesTaken t h.params table bytes items

abbrev pub UnitTaken : Tables → UnitSection → UnitHeader → List Abbreviation → FoundTexts → FoundTexts → Type 0
UnitTaken t z h table old new = ScanTaken t h table (bytes_up_to z h) old new

-- the tables of texts of debug data, and a unit section with them
abbrev pub texts_of : DebugData → TextTables
texts_of d = record { str = d.found Str; line_str = d.found LineStr }

abbrev pub tables_of : DebugData → UnitSection → Tables
tables_of d z = record { order = d.base.order; number = z.number; cells = z.contents; str = d.found Str; line_str = d.found LineStr }

-- why the units of debug data can't be taken
pub data UnitsRefuse (d : DebugData) : Refusal → Type 0 where
  data_fails : {r : Refusal} → DataFails d r → UnitsRefuse d r
  text_fails : {r : Refusal} → TextFails d r → UnitsRefuse d r
  header_fails : (before behind : List UnitSection) (z : UnitSection) {r : Refusal} → d.found Info ≡ before ++ z ∷ behind → HeaderOffsetFails d.base z r → UnitsRefuse d r
  relocation_fails : {r : Refusal} → ValueRelocationFails d r → UnitsRefuse d r

-- why a unit can't be: its entries can't be read, or an entry's values not be taken, behind entries that were
pub data UnitRefuses (t : Tables) (h : UnitHeader) (table : List Abbreviation) (bytes : List ℕ) : Refusal → Type 0 where
  entries : {r : Refusal} → EntryFails h table bytes r → UnitRefuses t h table bytes r
  entry : (items : List Scanned) (e : Scanned) (depth : ℕ) (a : Abbreviation) {r : Refusal} → Scans h table bytes items e.offset depth
      → IsEntry h.params table bytes e.offset a e.after → EntryRefuses t h.params table bytes h.section e r
      → UnitRefuses t h table bytes r

-- a unit was taken, with its table of abbreviations: what it says by index went to the slots
pub record OneTaken (d : DebugData) (z : UnitSection) (h : UnitHeader) (old new : FoundTexts) (before now : Slots) : Type 0 where
  pub table : List Abbreviation
  pub declares : IsUnitTable d.base h table
  pub found : FoundTexts
  pub scan : ScanTaken (tables_of d z) h table (bytes_up_to z h) old found
  pub placed : said_placed (base_source d) z.contents found.base ≡ true
  pub slots : TakesIndexes h.section (number_said (base_source d) z.contents found.base) found.indexes before now
  pub ends : new ≡ none_found found.paths

-- a unit whose entries were taken, and units of a section
pub record IsUnitTaken (d : DebugData) (z : UnitSection) (h : UnitHeader) : Type 0 where
  pub table : List Abbreviation
  pub declares : IsUnitTable d.base h table
  pub items : List Scanned
  pub entries : AreEntries h table (bytes_up_to z h) items
  pub taken : EntriesTaken (tables_of d z) h.params table (bytes_up_to z h) items

abbrev pub UnitsTaken : DebugData → UnitSection → List UnitHeader → Type 0
UnitsTaken d z [] = ⊤
UnitsTaken d z (h ∷ hs) = IsUnitTaken d z h × UnitsTaken d z hs

-- what the units of a section say of paths, all of which were taken, with the offsets in their headers
pub record SectionTaken (d : DebugData) (z : UnitSection) (u : SectionFields) : Type 0 where
  pub headers : HeaderOffsetsRead d.base z
  pub says : SectionSays d z u
  pub list : List UnitHeader
  pub units : AreUnits d.base z list
  pub taken : UnitsTaken d z list

-- and what these units say by index went to the slots
pub record SectionIndexed (d : DebugData) (z : UnitSection) (u : SectionFields) (before now : Slots) : Type 0 where
  pub taken : SectionTaken d z u
  pub slots : TakesUnits (base_source d) taken.says.section.units before now

-- so do those of sections
abbrev pub AllTaken : DebugData → List UnitSection → List SectionFields → Type 0
AllTaken d [] [] = ⊤
AllTaken d [] (u ∷ us) = ⊥
AllTaken d (z ∷ zs) [] = ⊥
AllTaken d (z ∷ zs) (u ∷ us) = SectionTaken d z u × AllTaken d zs us

-- what the units of these sections say, one after another
abbrev pub units_taken : (d : DebugData) (zs : List UnitSection) (us : List SectionFields) → AllTaken d zs us → List UnitSays
units_taken d [] [] all = []
units_taken d [] (u ∷ us) all = []
units_taken d (z ∷ zs) [] all = []
units_taken d (z ∷ zs) (u ∷ us) all = all.0.says.section.units ++ units_taken d zs us all.1

-- all of it went to the slots
pub record AllIndexed (d : DebugData) (zs : List UnitSection) (us : List SectionFields) (before now : Slots) : Type 0 where
  pub taken : AllTaken d zs us
  pub slots : TakesUnits (base_source d) (units_taken d zs us taken) before now
