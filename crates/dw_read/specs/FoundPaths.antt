-- What was found of texts in the debug data of a view, by its readings; and why a map can't be applied to the paths among them.
use Rattle.std.specs.Prelude.{◌≡◌, ℕ, List, [], ◌∷◌, ◌++◌}
use Rattle.dw_lines.specs.ViewTables.{tables_read}
use Rattle.dw_meaning.specs.DataFails.{IndexesRead, InlineFails}
use Rattle.dw_meaning.specs.DataOutput.{DataReads}
use Rattle.dw_meaning.specs.RelocationFails.{RelocationsReadIn}
use Rattle.dw_base.specs.DebugData.{DebugData, DataReadings, around_of, indexing_of, line_source}
use Rattle.dw_base.specs.FileViews.{View}
use Rattle.dw_base.specs.IndexFails.{SharedFails, SlotFits}
use Rattle.dw_base.specs.LineTables.{LineTable}
use Rattle.dw_base.specs.Paths.{PathMap}
use Rattle.dw_base.specs.Pieces.{EachPiece}
use Rattle.dw_base.specs.Readings.{EachReading}
use Rattle.dw_base.specs.RelocationRows.{moving_sections, HeaderOffsetsRead}
use Rattle.dw_base.specs.Slots.{slots_of}
use Rattle.dw_base.specs.TextChanges.{InlineFits}
use Rattle.dw_base.specs.ViewData.{debug_data}
use Rattle.dw_base.specs.declared.fault.Refusal.{Refusal}
use Rattle.dw_base.specs.declared.string_offsets.Contribution.{Contribution}
use Rattle.dw_offsets.specs.PathSlots.{SlotsTaken, slots_in}
use Rattle.dw_offsets.specs.SlotMarks.{AreMarks}
use Rattle.dw_unit_fields.specs.IndexedTexts.{TextsIndexed}
use Rattle.dw_starts.specs.UnitPlaces.{UnitsStart, UnitPlaces}
use Rattle.dw_unit_fields.specs.ViewFields.{AllHaveOffsets, AllHavePlaces, AllRoomsFit}
use Rattle.dw_read.specs.AllFields.{Fields, all_of, fields_read, standing}
use Rattle.dw_read.specs.SlotPaths.{slots_of_view}
use Rattle.dw_unit_fields.specs.TextPlaces.{AllPlaced}
use Rattle.dw_unit_fields.specs.NamedStarts.{AllStarts}
use Rattle.dw_unit_fields.specs.SectionFields.{SectionFields}
use Rattle.dw_starts.specs.MacroNames.{MacrosName}
use Rattle.dw_starts.specs.MacroSections.{SectionUnits}
use Rattle.dw_base.specs.UnitHeaders.{UnitSection}
use Rattle.dw_base.specs.declared.debug_sections.DebugSection.TheVariants.{Info, StrOffsets}
use Rattle.dw_offsets.specs.declared.fields.OffsetField.{OffsetField}

-- the offsets in the headers of all units can be read
pub record HeadersRead (d : DebugData) : Type 0 where
  pub all : (before behind : List UnitSection) (z : UnitSection) → d.found Info ≡ before ++ z ∷ behind → HeaderOffsetsRead d.base z

-- the unit sections of debug data can be read, with the offsets in the headers of units, and say this of paths, and each value that is to say
-- where a line table or a macro unit starts names one of these starts or places
pub record UnitsFound (d : DebugData) (starts : List ℕ) (places : UnitPlaces) (us : List SectionFields) : Type 0 where
  pub headers : HeadersRead d
  pub placed : AllPlaced d (d.found Info) us
  pub named : AllStarts d starts places (d.found Info) us

-- they were taken with the slots that their values name, and each value of a macro unit that is to say where a line table or a macro unit
-- starts names one too
pub record UnitsNamed (v : View) (list : List Contribution) (starts : List ℕ) (ss : List SectionUnits) (marks : List ℕ) (us : List SectionFields) : Type 0 where
  pub places : UnitPlaces
  pub start : UnitsStart (debug_data v) places
  pub found : UnitsFound (debug_data v) starts places us
  pub indexed : TextsIndexed (debug_data v) list marks
  pub named : MacrosName v starts places ss

-- what the slots say of texts was put behind what was found
pub record SlotsFound (v : View) (list : List Contribution) (marks : List ℕ) (old new : List SectionFields) : Type 0 where
  pub fields : List OffsetField
  pub taken : SlotsTaken (slots_in v) marks (slots_of list) [] fields
  pub is : new ≡ old ++ slots_of_view v fields

-- the debug data of a view can be read, its relocations are ones that may stand there, its line tables are these, and this is what they say of
-- texts, with the marks of the slots that values by index name. All of these are fields of the view, by the cells of its sections.
pub record FieldsFound (v : View) (fields : Fields) (marks : List ℕ) (ts : List LineTable) : Type 0 where
  pub readings : DataReadings
  pub reads : DataReads (debug_data v) readings
  pub marked : AreMarks marks (indexing_of (debug_data v) readings) (indexing_of (debug_data v) readings).uses
  pub placed : AllPlaced (debug_data v) ((debug_data v).found Info) fields.units
  pub offsets : AllHaveOffsets v (all_of fields)
  pub places : AllHavePlaces v (standing fields)
  pub is : fields ≡ fields_read v readings ts
  pub tables : ts ≡ tables_read (line_source (debug_data v)) readings.lines
  pub relocations : RelocationsReadIn (debug_data v) (moving_sections v)

-- and a map can be applied to the paths: they fit the rooms in which they stand, and no slot is shared by a path whose text changes
pub record PathsFound (m : PathMap) (v : View) (fields : Fields) (ts : List LineTable) : Type 0 where
  pub readings : DataReadings
  pub reads : DataReads (debug_data v) readings
  pub inline : EachReading (InlineFits m) readings.units
  pub slots : EachPiece (SlotFits m (around_of (debug_data v) readings)) readings.offsets
  pub offsets : AllHaveOffsets v (all_of fields)
  pub places : AllHavePlaces v (standing fields)
  pub rooms : AllRoomsFit m v (standing fields)
  pub is : fields ≡ fields_read v readings ts
  pub tables : ts ≡ tables_read (line_source (debug_data v)) readings.lines
  pub relocations : RelocationsReadIn (debug_data v) (moving_sections v)

-- why it can't be: a path that stands in its value would grow, or a slot is shared by a path whose text changes and another value
pub data MapRefuses (m : PathMap) (v : View) : Refusal → Type 0 where
  inline : {r : Refusal} → InlineFails m (debug_data v) r → MapRefuses m v r
  shared : (readings : DataReadings) {r : Refusal} → IndexesRead (debug_data v) readings
      → SharedFails m ((debug_data v).found StrOffsets).number (around_of (debug_data v) readings) readings.offsets r → MapRefuses m v r
