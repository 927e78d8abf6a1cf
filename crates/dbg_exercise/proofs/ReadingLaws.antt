-- A file that can be read is read: none of the conditions holds that refuse it; and its counts are those of what it means.
use Rattle.std.proofs.Common.{◌≡◌, ℕ, ◌<◌, ◌^◌, List, length, sym, ap, ◌∙◌, subst, arith}
use Rattle.dw_base.specs.AbbreviationTables.{Abbreviation}
use Rattle.dw_base.specs.DebugData.{DataReadings, line_source}
use Rattle.dw_base.specs.ElfFails.{ElfFails, ElfReads}
use Rattle.dw_base.specs.FileViews.{View, view_of}
use Rattle.dw_base.specs.LineMeanings.{line_meanings}
use Rattle.dw_base.specs.LineTables.{LineTable}
use Rattle.dw_base.specs.Refusals.{Blames}
use Rattle.dw_base.specs.ViewData.{Meaning, debug_data, meaning_of}
use Rattle.dw_base.specs.ViewFails.{ViewFails, ViewReads}
use Rattle.dw_base.specs.declared.debug_sections.DebugSection.TheVariants.{Info}
use Rattle.dw_base.specs.declared.fault.Fault.{Fault}
use Rattle.dw_base.specs.declared.fault.Fault.TheVariants.{Refused}
use Rattle.dw_base.specs.declared.fault.Refusal.{Refusal}
use Rattle.dw_base.proofs.ElfLaws.{elf_excludes}
use Rattle.dw_base.proofs.ViewFailsLaws.{view_excludes}
use Rattle.dw_starts.specs.MacroSections.{SectionUnits}
use Rattle.dw_read.specs.ReadData.{DataRead, DataRefuses}
use Rattle.dw_read.proofs.ReadDataLaws.{data_read-excludes}
use Rattle.dw_meaning.specs.FileMeanings.{Means, ViewMeans}
use Rattle.dw_meaning.proofs.DataOneLaws.{data-one}
use Rattle.dw_units.specs.UnitLists.{ListsAll}
use Rattle.dw_units.specs.declared.listed_unit.ListedUnit.{ListedUnit}
use Rattle.dbg_show.specs.ReadTables.{AllIn}
use Rattle.dw_attrs.specs.UnitReads.{AllCanRead}
use Rattle.dbg_show.proofs.ReadLaws.{view-read}
use Rattle.dbg_show.proofs.SourceReadLaws.{units-read}
use Rattle.gen_laws.specs.Counts.{entries_counted, rows_counted, rows_in, units_counted}
use Rattle.dbg_exercise.specs.ViewCounts.{AreCounts, IsCountable, IsCountableFile, entries_listed, rows_listed}
use Rattle.dbg_exercise.specs.declared.counts.Counts.{Counts}
use Rattle.dbg_exercise.proofs.RowCountLaws.{rows-counted}
use Rattle.dbg_exercise.proofs.UnitCountLaws.{entries-counted, units-counted}

-- the debug data
pub data-taken : (v : View) (f : Fault) (r : Refusal) → Blames (DataRefuses v) f → f ≡ Refused r → IsCountable v → ⊥
data-taken v f r blamed is c =
    data_read-excludes v c.means.readings r c.means.reads c.relocations (subst (λ (x : Fault). Blames (DataRefuses v) x) is blamed)

-- the records and the sections of a file
pub records-taken : (b : List ℕ) (f : Fault) (r : Refusal) → Blames (ElfFails b) f → f ≡ Refused r → ElfReads b → ⊥
records-taken b f r blamed is reads = elf_excludes b r reads (subst (λ (x : Fault). Blames (ElfFails b) x) is blamed)

pub sections-taken : (b : List ℕ) (f : Fault) (r : Refusal) → Blames (ViewFails b) f → f ≡ Refused r → ViewReads b → ⊥
sections-taken b f r blamed is reads = view_excludes b r reads (subst (λ (x : Fault). Blames (ViewFails b) x) is blamed)

-- what a meaning says by its readings
lines-said : (v : View) (r : DataReadings) (x : Meaning) → meaning_of v r ≡ x → line_meanings (line_source (debug_data v)) r.lines ≡ x.lines
unfolding meaning_of
lines-said v r x says = ap (λ (y : Meaning). y.lines) says

-- what was read of a view has the counts of what it means
pub unit-count : (v : View) (tables : List (List Abbreviation)) (us : List ListedUnit) (x : Meaning) → ListsAll (debug_data v) tables ((debug_data v).found Info) us → ViewMeans v x
    → length us ≡ units_counted x
unit-count v tables us x listed m = units-counted v tables us m.readings x.units listed m.reads.units m.spells

pub entry-count : (v : View) (tables : List (List Abbreviation)) (us : List ListedUnit) (x : Meaning) → ListsAll (debug_data v) tables ((debug_data v).found Info) us → ViewMeans v x
    → entries_listed v tables us ≡ entries_counted x
entry-count v tables us x listed m = entries-counted v tables us m.readings x.units listed m.reads.units m.spells

pub row-count : (v : View) (ts : List LineTable) (ss : List SectionUnits) (x : Meaning) → DataRead v ts ss → ViewMeans v x → rows_listed v ts ≡ rows_counted x
row-count v ts ss x d m =
    let same : d.readings ≡ m.readings = data-one (debug_data v) d.readings m.readings d.reads m.reads in
    ap (rows_listed v) d.tables
    ∙ rows-counted v d.readings.lines d.reads.lines
    ∙ ap (λ (r : DataReadings). rows_in (line_meanings (line_source (debug_data v)) r.lines)) same
    ∙ ap rows_in (lines-said v m.readings x m.says)

-- and these are few
pub entries-small : (v : View) (tables : List (List Abbreviation)) (us list : List ListedUnit) → list ≡ us → ListsAll (debug_data v) tables ((debug_data v).found Info) us
    → IsCountable v → entries_listed v tables list < 2 ^ 64
entries-small v tables us list is listed c =
    let own = ap (entries_listed v tables) is in
    let same = entry-count v tables us c.meaning listed c.means in
    let small = c.few.entries in
    omega (arith, own, same, small)

pub rows-small : (v : View) (ts slice : List LineTable) (ss : List SectionUnits) → slice ≡ ts → DataRead v ts ss → IsCountable v → rows_listed v slice < 2 ^ 64
rows-small v ts slice ss is d c =
    let own = ap (rows_listed v) is in
    let same = row-count v ts ss c.meaning d c.means in
    let small = c.few.rows in
    omega (arith, own, same, small)

pub each-table : (v : View) (ts slice : List LineTable) (ss : List SectionUnits) → slice ≡ ts → DataRead v ts ss → AllIn v slice
each-table v ts slice ss is d = subst (AllIn v) (sym is) (view-read v ts ss d).each

pub each-unit : (v : View) (ts : List LineTable) (ss : List SectionUnits) (us list : List ListedUnit) (tables : List (List Abbreviation)) → list ≡ us → DataRead v ts ss
    → ListsAll (debug_data v) tables ((debug_data v).found Info) us → AllCanRead v tables list
each-unit v ts ss us list tables is d listed = subst (AllCanRead v tables) (sym is) (units-read v ts ss us tables d listed)

pub counts-are : (v : View) (ts slice : List LineTable) (ss : List SectionUnits) (us list all : List ListedUnit) (tables : List (List Abbreviation)) (units entries rows : ℕ) (x : Meaning)
    → DataRead v ts ss → ListsAll (debug_data v) tables ((debug_data v).found Info) us → list ≡ us → all ≡ us → slice ≡ ts → units ≡ length all → entries ≡ entries_listed v tables list
    → rows ≡ rows_listed v slice → ViewMeans v x → AreCounts x (record { units = units; entries = entries; rows = rows })
counts-are v ts slice ss us list all tables units entries rows x d listed list_is all_is slice_is units_are entries_are rows_are m = record {
  units = units_are ∙ ap (λ (ws : List ListedUnit). length ws) all_is ∙ unit-count v tables us x listed m;
  entries = entries_are ∙ ap (entries_listed v tables) list_is ∙ entry-count v tables us x listed m;
  rows = rows_are ∙ ap (rows_listed v) slice_is ∙ row-count v ts ss x d m;
}

-- a file
pub file-means : (b : List ℕ) (x : Meaning) → Means b x → ViewMeans (view_of b) x
file-means b x m = record { readings = m.readings; reads = m.reads.data_reads; says = m.says; spells = m.spells }

pub file-reads : (b : List ℕ) → IsCountableFile b → ElfReads b
file-reads b c = c.means.reads.elf

view-reads : (b : List ℕ) → IsCountableFile b → ViewReads b
view-reads b c = record { sections = c.means.reads.names; relocations = c.means.reads.relocations.sections }

pub elf-views : (b own : List ℕ) → own ≡ b → IsCountableFile b → ViewReads own
elf-views b own same c = subst ViewReads (sym same) (view-reads b c)

file-countable : (b : List ℕ) → IsCountableFile b → IsCountable (view_of b)
file-countable b c = record { meaning = c.meaning; means = file-means b c.meaning c.means; relocations = c.means.reads.relocations.on_data; few = c.few }

pub view-countable : (b own : List ℕ) (v : View) → own ≡ b → v ≡ view_of own → IsCountableFile b → IsCountable v
view-countable b own v same is c = subst IsCountable (sym (is ∙ ap view_of same)) (file-countable b c)

pub file-said : (b own : List ℕ) (v : View) (c : Counts) → own ≡ b → v ≡ view_of own → ((x : Meaning) → ViewMeans v x → AreCounts x c) → (x : Meaning) → Means b x
    → AreCounts x c
file-said b own v c same is each x m = each x (subst (λ (w : View). ViewMeans w x) (sym (is ∙ ap view_of same)) (file-means b x m))

pub ruleset data_laws = (data-taken)

pub ruleset file_laws = (records-taken, sections-taken, file-reads, elf-views, view-countable)
