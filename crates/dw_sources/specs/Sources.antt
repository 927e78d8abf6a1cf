-- The sources of debug data: the names of the paths that all units name. This project's profile.
use Rattle.std.specs.Prelude.{◌≡◌, ℕ, ◌==◌, if◌then◌else◌, Option, Some, None, List, [], ◌∷◌, ◌++◌, ⊤}
use Rattle.dw_base.specs.AbbreviationBytes.{abbreviations_at}
use Rattle.dw_base.specs.Cells.{located_cells}
use Rattle.dw_base.specs.DebugData.{DebugData, DataReadings, line_source}
use Rattle.dw_base.specs.EntryValues.{HasUnit}
use Rattle.dw_base.specs.LineReadings.{LineReading, AreTables}
use Rattle.dw_base.specs.LineTables.{LineTable}
use Rattle.dw_base.specs.Paths.{PathMap}
use Rattle.dw_base.specs.RelocationRows.{HeaderOffsetFails, HeaderOffsetsRead}
use Rattle.dw_base.specs.StringOffsets.{AreContributions}
use Rattle.dw_base.specs.UnitFails.{UnitFails}
use Rattle.dw_base.specs.UnitHeaders.{UnitSection, AreUnits}
use Rattle.dw_base.specs.UnitTables.{IsUnitTable, UnitTableFails}
use Rattle.dw_base.specs.StringOffsetFails.{ContributionsFail}
use Rattle.dw_base.specs.declared.debug_sections.DebugSection.TheVariants.{Info, StrOffsets}
use Rattle.dw_base.specs.declared.fault.Refusal.{Refusal}
use Rattle.dw_base.specs.declared.string_offsets.Contribution.{Contribution}
use Rattle.dw_base.specs.declared.units.UnitHeader.{UnitHeader}
use Rattle.dw_base.specs.declared.fault.Fault.{Fault}
use Rattle.dw_base.specs.declared.fault.Fault.TheVariants.{NoMemory}
use Rattle.dw_meaning.specs.DataFails.{LinesFail}
use Rattle.dw_meaning.specs.DataOutput.{DataReads}
use Rattle.dw_sources.specs.KeptNames.{fronts_of, with_paths}
use Rattle.dw_sources.specs.UnitPaths.{started_table, unit_paths}

-- what is read of debug data for its sources: the headers of the units of each section, the contributions of string offsets, and the
-- line tables
pub record SourceReadings : Type 0 where
  pub headers : List (List UnitHeader)
  pub contributions : List Contribution
  pub lines : List LineReading

-- the table of abbreviations of a unit can be read
abbrev pub HasAbbreviations : DebugData → UnitHeader → Type 0
HasAbbreviations d h = IsUnitTable d.base h (abbreviations_at d.base.abbrevs.bytes h.abbrevs)

abbrev pub EachTable : DebugData → List UnitHeader → Type 0
EachTable d [] = ⊤
EachTable d (h ∷ hs) = HasAbbreviations d h × EachTable d hs

-- the units of a section, each with its table of abbreviations, the offset of which no relocation refuses
pub record HasUnits (d : DebugData) (z : UnitSection) (headers : List UnitHeader) : Type 0 where
  pub units : AreUnits d.base z headers
  pub offsets : HeaderOffsetsRead d.base z
  pub tables : EachTable d headers

-- those of each section
abbrev pub EachUnits : DebugData → List UnitSection → List (List UnitHeader) → Type 0
EachUnits d [] [] = ⊤
EachUnits d [] (hs ∷ hss) = ⊥
EachUnits d (z ∷ zs) [] = ⊥
EachUnits d (z ∷ zs) (hs ∷ hss) = HasUnits d z hs × EachUnits d zs hss

-- they can be read: they fill their sections, and each unit has its table of abbreviations
pub record SourcesRead (d : DebugData) (r : SourceReadings) : Type 0 where
  pub units : EachUnits d (d.found Info) r.headers
  pub offsets : AreContributions d.base.order (located_cells (d.found StrOffsets)) r.contributions
  pub lines : AreTables (line_source d) r.lines

-- the paths of units, in order
abbrev pub section_paths : DebugData → List Contribution → (ℕ → Option LineTable) → UnitSection → List UnitHeader → List (List ℕ)
section_paths d list tables z [] = []
section_paths d list tables z (h ∷ hs) = unit_paths d list tables z h ++ section_paths d list tables z hs

abbrev pub sections_paths : DebugData → List Contribution → (ℕ → Option LineTable) → List UnitSection → List (List UnitHeader) → List (List ℕ)
sections_paths d list tables [] hss = []
sections_paths d list tables (z ∷ zs) [] = []
sections_paths d list tables (z ∷ zs) (hs ∷ hss) = section_paths d list tables z hs ++ sections_paths d list tables zs hss

-- the sources below the bases of a prefix map
unfoldable pub sources_of : DebugData → SourceReadings → PathMap → List (List ℕ)
sources_of d r m =
    with_paths (fronts_of m) [] (sections_paths d r.contributions (started_table (line_source d) r.lines) (d.found Info) r.headers)

-- these are the sources of debug data below the bases of a prefix map
pub record AreSources (d : DebugData) (m : PathMap) (names : List (List ℕ)) : Type 0 where
  pub readings : SourceReadings
  pub reads : SourcesRead d readings
  pub is : names ≡ sources_of d readings m

-- why they can't be read: a unit, the offset of its abbreviations for a relocation, its table of abbreviations, a contribution of string offsets, or a
-- line table can't
pub data SourcesFail (d : DebugData) : Refusal → Type 0 where
  unit : (z : UnitSection) (before behind : List UnitSection) {r : Refusal} → d.found Info ≡ before ++ z ∷ behind → UnitFails d.base z r → SourcesFail d r
  relocation : (z : UnitSection) (before behind : List UnitSection) {r : Refusal} → d.found Info ≡ before ++ z ∷ behind → HeaderOffsetFails d.base z r
      → SourcesFail d r
  table : (z : UnitSection) (h : UnitHeader) {r : Refusal} → HasUnit d z h → UnitTableFails d.base h r → SourcesFail d r
  string_tables : {r : Refusal} → ContributionsFail d.base.order (located_cells (d.found StrOffsets)) r → SourcesFail d r
  lines : {r : Refusal} → LinesFail d r → SourcesFail d r

-- line tables that are kept by their starts are those of the debug data
pub record AreKept (d : DebugData) (tables : ℕ → Option LineTable) : Type 0 where
  pub readings : List LineReading
  pub reads : AreTables (line_source d) readings
  pub kept : (n : ℕ) → tables n ≡ started_table (line_source d) readings n

-- the paths of the units of a section, or of sections, are added to names
pub record AddsSection (d : DebugData) (list : List Contribution) (tables : ℕ → Option LineTable) (fronts : List (List ℕ)) (z : UnitSection) (old new : List (List ℕ)) : Type 0 where
  pub headers : List UnitHeader
  pub units : HasUnits d z headers
  pub added : new ≡ with_paths fronts old (section_paths d list tables z headers)

pub record AddsSections (d : DebugData) (list : List Contribution) (tables : ℕ → Option LineTable) (fronts : List (List ℕ)) (zs : List UnitSection) (old new : List (List ℕ)) : Type 0 where
  pub headers : List (List UnitHeader)
  pub units : EachUnits d zs headers
  pub added : new ≡ with_paths fronts old (sections_paths d list tables zs headers)

-- no relocation refuses the offset of a unit's abbreviations
abbrev pub HeadersRead : DebugData → Type 0
HeadersRead d = (before behind : List UnitSection) (z : UnitSection) (r : Refusal) → d.found Info ≡ before ++ z ∷ behind → HeaderOffsetFails d.base z r → ⊥

-- where all debug data can be read, want of memory alone keeps their sources from being read
pub record IsWant (d : DebugData) (f : Fault) : Type 0 where
  pub whole : (r : DataReadings) → DataReads d r → HeadersRead d → f ≡ NoMemory

-- a map of line tables has one more, at a place
pub record KeepsOne (old new : ℕ → Option LineTable) (at : ℕ) (t : LineTable) : Type 0 where
  pub more : (n : ℕ) → new n ≡ (if n == at then Some t else old n)

-- with these tables more, each where it starts
abbrev pub kept_with : (ℕ → Option LineTable) → List LineTable → ℕ → Option LineTable
kept_with old [] n = old n
kept_with old (t ∷ ts) n = kept_with (λ k. if k == t.start then Some t else old k) ts n

-- a map of tables, of which some are left, is with those that of all
pub record KeepsRest (ts : List LineTable) (now : ℕ → Option LineTable) (rest : List LineTable) : Type 0 where
  pub same : (n : ℕ) → kept_with now rest n ≡ kept_with (λ k. None) ts n
