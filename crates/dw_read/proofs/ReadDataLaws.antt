-- Debug data that are read: what was read excludes what refuses.
use Rattle.std.proofs.Common.{◌≡◌, ℕ, List, ◌∷◌, ◌++◌, sym, ap, ◌∙◌, subst}
use Rattle.dw_base.specs.Cells.{CellSection, Located}
use Rattle.dw_base.specs.DebugData.{DataReadings}
use Rattle.dw_base.specs.FileViews.{View}
use Rattle.dw_base.specs.LineTables.{LineTable}
use Rattle.dw_base.specs.Refusals.{Blames}
use Rattle.dw_base.specs.RelocationRows.{moving_sections}
use Rattle.dw_base.specs.StringOffsetFails.{ContributionsFail}
use Rattle.dw_base.specs.StringOffsets.{AreContributions}
use Rattle.dw_base.specs.ViewData.{debug_data, string_offsets}
use Rattle.dw_base.specs.declared.fault.Fault.{Fault}
use Rattle.dw_base.specs.declared.fault.Fault.TheVariants.{NoMemory, Refused}
use Rattle.dw_base.specs.declared.fault.Refusal.{Refusal}
use Rattle.dw_base.proofs.ViewCellLaws.{offsets-located}
use Rattle.dw_lines.specs.ViewTables.{TablesFound}
use Rattle.dw_meaning.specs.DataFails.{LinesFail}
use Rattle.dw_meaning.specs.DataOutput.{DataReads}
use Rattle.dw_meaning.proofs.DataRowLaws.{data-excludes}
use Rattle.dw_meaning.proofs.LineRowLaws.{lines-exclude}
use Rattle.dw_meaning.proofs.MacroRowLaws.{macros-exclude}
use Rattle.dw_meaning.proofs.OffsetRowLaws.{offsets-exclude}
use Rattle.dw_meaning.proofs.RelocationLaws.{left_exclude, value-excludes}
use Rattle.dw_meaning.proofs.SlotRowLaws.{name_tables-exclude, slot_texts-exclude, string_tables-exclude}
use Rattle.dw_meaning.proofs.StartRowLaws.{starts-exclude}
use Rattle.dw_meaning.proofs.ValueRowLaws.{texts-exclude}
use Rattle.dw_base.specs.MacroOffsets.{UnitsRefuse, units as read_units, offsets as read_offsets}
use Rattle.dw_base.specs.NameOffsets.{NamesRefuse, tables as named_tables, offsets as named_offsets}
use Rattle.dw_read.specs.FoundPaths.{FieldsFound}
use Rattle.dw_starts.specs.MacroSections.{SectionUnits, UnitsFailIn, UnitsFoundIn, units as section_fails, offsets as section_offsets}
use Rattle.dw_read.specs.ReadData.{DataRead, DataRefuses, IsDebugData}
use Rattle.dw_read.specs.ReadData.DataRefuses.{units, starts, string_tables, slots, name_tables, name_offsets, relocations, lines, macros}
use Rattle.dw_read.specs.AllFields.{Fields}
use Rattle.dw_unit_fields.specs.UnitTexts.{data_fails, header_fails, relocation_fails, text_fails}
use Rattle.dw_starts.specs.LineStarts.{starts_of}
use Rattle.dw_read.specs.declared.reading.DebugData.{DebugData}
use Rattle.dw_unit_fields.proofs.UnitRowLaws.{list-refuses}
use Rattle.dw_units.specs.UnitLists.{UnitListFails}
use Rattle.dw_base.proofs.RelocationRowLaws.{header_offsets_exclude}
use Rattle.dw_base.specs.declared.debug_sections.DebugSection.TheVariants.{StrOffsets, Macro}
use Rattle.dw_meaning.specs.RelocationFails.{RelocationsReadIn}
use Rattle.dw_meaning.specs.RelocationFails.OffsetsFailIn.{names as offset_names, macros as offset_macros}

pub lines-fault : (v : View) (f : Fault) → Blames (LinesFail (debug_data v)) f → Blames (DataRefuses v) f
lines-fault v NoMemory h = tt
lines-fault v (Refused r) h = lines h

pub macros-fault : (v : View) (f : Fault) → Blames (UnitsFailIn v) f → Blames (DataRefuses v) f
macros-fault v NoMemory h = tt
macros-fault v (Refused r) h = macros h

-- so are units that can't be listed, and string offsets
pub list-fault : (v : View) (f : Fault) → Blames (UnitListFails (debug_data v)) f → Blames (DataRefuses v) f
list-fault v NoMemory h = tt
list-fault v (Refused r) h = units (list-refuses (debug_data v) r h)

pub contributions-fault : (v : View) (f : Fault) → Blames (ContributionsFail v.order (string_offsets v)) f → Blames (DataRefuses v) f
contributions-fault v NoMemory h = tt
contributions-fault v (Refused r) h = string_tables h

-- the tables and the units of a slice are those of the list
pub slice-tables : (v : View) (ts slice : List LineTable) → slice ≡ ts → TablesFound v ts → TablesFound v slice
slice-tables v ts slice same found = subst (TablesFound v) (sym same) found

pub slice-units : (v : View) (ss slice : List SectionUnits) → slice ≡ ss → UnitsFoundIn v ss → UnitsFoundIn v slice
slice-units v ss slice same found = subst (UnitsFoundIn v) (sym same) found

-- what was found by a slice of the line tables is what was found by them
pub slice-found : (v : View) (us : Fields) (marks : List ℕ) (ts slice : List LineTable) → slice ≡ ts → FieldsFound v us marks slice → FieldsFound v us marks ts
slice-found v us marks ts slice same found = subst (FieldsFound v us marks) same found

-- so is what is given of it
pub given-found : (v : View) (given us : Fields) (marks : List ℕ) (ts : List LineTable) → given ≡ us → FieldsFound v us marks ts → FieldsFound v given marks ts
given-found v given us marks ts same found = subst (λ (fields : Fields). FieldsFound v fields marks ts) (sym same) found

-- what was read of the debug data
data-read : (v : View) (us : Fields) (marks : List ℕ) (ts : List LineTable) (ss : List SectionUnits) → FieldsFound v us marks ts → UnitsFoundIn v ss → DataRead v ts ss
data-read v us marks ts ss f units_ = record { readings = f.readings; reads = f.reads; tables = f.tables; units = units_; relocations = f.relocations }

pub data-is : (v : View) (d : DebugData) (us : Fields) (marks : List ℕ) (slice : List LineTable) → slice ≡ d.lines.items → FieldsFound v us marks slice → UnitsFoundIn v d.macros.items
    → AreContributions v.order (string_offsets v) d.contributions → d.starts.items ≡ starts_of slice → IsDebugData v d
data-is v d us marks slice same f units_ are starts_are = record {
  read = data-read v us marks d.lines.items d.macros.items (slice-found v us marks d.lines.items slice same f) units_;
  contributions = are;
  starts = starts_are ∙ ap starts_of same;
}

-- its line tables are those of the view
pub data-tables : (v : View) (ts : List LineTable) (ss : List SectionUnits) → DataRead v ts ss → TablesFound v ts
data-tables v ts ss d = record { readings = d.readings.lines; reads = d.reads.lines; is = d.tables }

-- what was read excludes each row
strings-exclude : (v : View) (rs : DataReadings) (r : Refusal) → DataReads (debug_data v) rs → ContributionsFail v.order (string_offsets v) r → ⊥
unfolding debug_data
strings-exclude v rs r reads f =
    string_tables-exclude v.order ((debug_data v).found StrOffsets) rs.offsets r reads.offsets (subst (λ (z : Located). ContributionsFail v.order z r) (sym (offsets-located v)) f)

-- rows of offsets in name tables and macro units are rows of their own, which hold of none where relocations may stand where they do
names-row : (v : View) (rs : DataReadings) (r : Refusal) → DataReads (debug_data v) rs → RelocationsReadIn (debug_data v) (moving_sections v) → NamesRefuse v r → ⊥
names-row v rs r reads h (named_tables f) = name_tables-exclude v rs r reads f
names-row v rs r reads h (named_offsets list start t u lt is f) = offsets-exclude v rs (moving_sections v) r reads h.left (offset_names list start t u lt is f)

units-row : (v : View) (rs : DataReadings) (before behind : List CellSection) (z : CellSection) (r : Refusal) → DataReads (debug_data v) rs
    → RelocationsReadIn (debug_data v) (moving_sections v) → (debug_data v).found Macro ≡ before ++ z ∷ behind → UnitsRefuse v z.number r → ⊥
units-row v rs before behind z r reads h split (read_units f) = macros-exclude v rs before behind z r reads split f
units-row v rs before behind z r reads h split (read_offsets list start u lt f) =
    offsets-exclude v rs (moving_sections v) r reads h.left (offset_macros before behind z list start split u lt f)

pub data_read-excludes : (v : View) (rs : DataReadings) (r : Refusal) → DataReads (debug_data v) rs → RelocationsReadIn (debug_data v) (moving_sections v) → DataRefuses v r → ⊥
data_read-excludes v rs r reads h (units (data_fails f)) = data-excludes (debug_data v) rs r reads f
data_read-excludes v rs r reads h (units (text_fails f)) = texts-exclude (debug_data v) rs r reads f
data_read-excludes v rs r reads h (units (header_fails before behind z split f)) = header_offsets_exclude (debug_data v).base z r (h.headers before behind z split) f
data_read-excludes v rs r reads h (units (relocation_fails f)) = value-excludes (debug_data v) r h.values f
data_read-excludes v rs r reads h (starts f) = starts-exclude (debug_data v) rs r reads f
data_read-excludes v rs r reads h (string_tables f) = strings-exclude v rs r reads f
data_read-excludes v rs r reads h (name_offsets f) = names-row v rs r reads h f
data_read-excludes v rs r reads h (relocations f) = left_exclude (debug_data v) (moving_sections v) r h.left f
data_read-excludes v rs r reads h (slots f) = slot_texts-exclude (debug_data v) rs r reads f
data_read-excludes v rs r reads h (name_tables f) = name_tables-exclude v rs r reads f
data_read-excludes v rs r reads h (lines f) = lines-exclude (debug_data v) rs.lines r reads.lines f
data_read-excludes v rs r reads h (macros (section_fails z before behind split f)) = macros-exclude v rs before behind z r reads split f
data_read-excludes v rs r reads h (macros (section_offsets z before behind split f)) = units-row v rs before behind z r reads h split f

pub read-excludes : {v : View} {ts : List LineTable} {ss : List SectionUnits} (r : Refusal) → DataRead v ts ss → DataRefuses v r → ⊥
read-excludes {v} {ts} {ss} r d f = data_read-excludes v d.readings r d.reads d.relocations f

pub ruleset read_rules = (lines-fault, macros-fault, list-fault, contributions-fault, slice-tables, slice-units)
