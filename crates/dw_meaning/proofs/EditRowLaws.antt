-- A file that is taken isn't refused: each row of an edit excludes that the file is taken.
use Rattle.std.proofs.Common.{◌≡◌, ℕ, List, [], ◌∷◌, ◌++◌, length, sym, subst}
use Rattle.dw_base.specs.LineReadings.{LineReading, TablesTo, table_read}
use Rattle.dw_base.specs.TextChanges.{TableChanges}
use Rattle.dw_base.specs.TextLineChanges.{text_place}
use Rattle.dw_base.specs.TextWriteFails.{CanWriteTexts, TextWriteFails}
use Rattle.dw_base.specs.RelocationRows.{moving_sections}
use Rattle.dw_meaning.proofs.AddendRowLaws.{addends-exclude}
use Rattle.dw_meaning.proofs.StartRowLaws.{starts-exclude}
use Rattle.dw_meaning.proofs.MacroRowLaws.{macros-exclude}
use Rattle.dw_meaning.proofs.LineRowLaws.{TableAmong, lines-exclude, table-among, write-excludes}
use Rattle.dw_base.specs.Cells.{Located}
use Rattle.dw_base.specs.DebugData.{Around, DataReadings, around_of, line_source, source_around}
use Rattle.dw_base.specs.FileViews.{view_of}
use Rattle.dw_base.specs.OffsetPieces.{ReadsOffsets}
use Rattle.dw_base.specs.ViewData.{debug_data}
use Rattle.dw_meaning.specs.DataOutput.{DataReads, DataFits, EachWritable, changes_of}
use Rattle.dw_meaning.proofs.SlotRowLaws.{slot_texts-exclude, shared-row, string_tables-exclude, name_tables-exclude}
use Rattle.dw_meaning.specs.EditRows.{EditFails, file as file_row, inline as inline_row, shared as shared_row, line_table as line_table_row, addends as addends_row, output as output_row, IsAccepted}
use Rattle.dw_meaning.specs.FileFails.{FileFails, elf as elf_row, sections as sections_row, loaded as loaded_row, units as units_row, texts as texts_row, string_tables as string_tables_row, slots as slots_row, lines as lines_row, macros as macros_row, starts as starts_row, name_tables as name_tables_row, relocations as relocations_row, loaded_relocations as loaded_relocations_row}
use Rattle.dw_meaning.specs.NewAddends.{AddendsFail, places_by}
use Rattle.dw_meaning.specs.FileMeanings.{file_body, file_data}
use Rattle.dw_base.specs.LayoutFails.{LayoutFails}
use Rattle.dw_base.specs.Paths.{PathMap}
use Rattle.dw_base.specs.StringOffsetFails.{ContributionsFail}
use Rattle.dw_base.specs.declared.fault.Refusal.{Refusal}
use Rattle.dw_meaning.proofs.DataOneLaws.{data-one}
use Rattle.dw_meaning.proofs.DataRowLaws.{data-excludes}
use Rattle.dw_base.proofs.DebugSectionFailsLaws.{debug_sections_exclude}
use Rattle.dw_base.proofs.ViewCellLaws.{offsets-located}
use Rattle.dw_meaning.proofs.LayoutRowLaws.{layout_excludes}
use Rattle.dw_meaning.proofs.OffsetRowLaws.{offsets-exclude}
use Rattle.dw_meaning.proofs.RelocationLaws.{relocations_exclude}
use Rattle.dw_base.proofs.ElfLaws.{elf_excludes}
use Rattle.dw_base.specs.declared.debug_sections.DebugSection.TheVariants.{Str, LineStr, StrOffsets}
use Rattle.dw_meaning.proofs.ValueRowLaws.{texts-exclude, inline-excludes}

-- the order of a file's debug data is that of its view
file-offsets : (b : List ℕ) (q : DataReadings) → DataReads (file_data b) q → ReadsOffsets (view_of b).order ((file_data b).found StrOffsets).contents q.offsets
unfolding debug_data
file-offsets b q h = h.offsets

file-excludes : (m : PathMap) (b : List ℕ) (r : Refusal) → IsAccepted m b → FileFails b r → ⊥
file-excludes m b r a (elf_row f) = elf_excludes b r a.reads.elf f
file-excludes m b r a (sections_row e f) = debug_sections_exclude b r a.reads.names f
file-excludes m b r a (loaded_row i e lt l) = a.unloaded i lt l
file-excludes m b r a (units_row e f) = data-excludes (file_data b) a.readings r a.reads.data_reads f
file-excludes m b r a (texts_row e f) = texts-exclude (file_data b) a.readings r a.reads.data_reads f
file-excludes m b r a (string_tables_row e f) =
    string_tables-exclude (view_of b).order ((file_data b).found StrOffsets) a.readings.offsets r (file-offsets b a.readings a.reads.data_reads)
    (subst (λ (z : Located). ContributionsFail (view_of b).order z r) (sym (offsets-located (view_of b))) f)
file-excludes m b r a (slots_row e f) = slot_texts-exclude (file_data b) a.readings r a.reads.data_reads f
file-excludes m b r a (lines_row e f) = lines-exclude (file_data b) a.readings.lines r a.reads.data_reads.lines f
file-excludes m b r a (macros_row z before behind e split f) = macros-exclude (view_of b) a.readings before behind z r a.reads.data_reads split f
file-excludes m b r a (starts_row e f) = starts-exclude (file_data b) a.readings r a.reads.data_reads f
file-excludes m b r a (name_tables_row e f) = name_tables-exclude (view_of b) a.readings r a.reads.data_reads f
file-excludes m b r a (relocations_row e f) =
    relocations_exclude b r a.reads.relocations
    (λ f. offsets-exclude (view_of b) a.readings (moving_sections (view_of b)) r a.reads.data_reads a.reads.relocations.on_data.left f) f
file-excludes m b r a (loaded_relocations_row i e lt l) = a.relocations_unloaded i lt l

-- one of tables that can be written
writable-among : (m : PathMap) (c : TableChanges) (around : Around) (before behind : List LineReading) (t : LineReading) → EachWritable m c around (before ++ t ∷ behind)
    → CanWriteTexts (source_around around) m (text_place m (c.new Str) (c.new LineStr) (source_around around)) (table_read (source_around around) t)
writable-among m c around [] behind t h = h.0
writable-among m c around (x ∷ xs) behind t h = writable-among m c around xs behind t h.1

-- a file is taken or refused, and never both
pub edit-excludes : (m : PathMap) (b : List ℕ) (r : Refusal) → IsAccepted m b → EditFails m b r → ⊥
edit-excludes m b r a (file_row f) = file-excludes m b r a f
edit-excludes m b r a (inline_row e f) = inline-excludes m (file_data b) a.readings r a.reads.data_reads a.fits f
edit-excludes m b r a (shared_row readings e i f) = shared-row m (file_data b) a.readings readings r a.reads.data_reads a.fits i f
edit-excludes m b r a (line_table_row readings before behind t reads split f) =
    let same : readings ≡ a.readings = data-one (file_data b) readings a.readings reads.data_reads a.reads.data_reads in
    by_readings readings same reads.data_reads split f
  where
    by_readings : (rs : DataReadings) → rs ≡ a.readings → DataReads (file_data b) rs → rs.lines ≡ before ++ t ∷ behind
        → TextWriteFails (line_source (file_data b)) m (places_by (changes_of m (around_of (file_data b) rs) rs) (file_data b)) (table_read (line_source (file_data b)) t) r → ⊥
    by_readings rs same reads split f =
        let among : TableAmong (line_source (file_data b)) t =
        table-among (line_source (file_data b)) 0 (length (line_source (file_data b)).bytes) before behind t
        (subst (λ (ts : List LineReading). TablesTo (line_source (file_data b)) 0 ts (length (line_source (file_data b)).bytes)) split reads.lines) in
        let fits : DataFits m (file_data b) rs = subst (DataFits m (file_data b)) (sym same) a.fits in
        write-excludes (line_source (file_data b)) m (places_by (changes_of m (around_of (file_data b) rs) rs) (file_data b)) among.start t r among.reads
        (writable-among m (changes_of m (around_of (file_data b) rs) rs) (around_of (file_data b) rs) before behind t
        (subst (EachWritable m (changes_of m (around_of (file_data b) rs) rs) (around_of (file_data b) rs)) split fits.lines)) f
edit-excludes m b r a (addends_row readings reads fits f) =
    let same : readings ≡ a.readings = data-one (file_data b) readings a.readings reads.data_reads a.reads.data_reads in
    addends-exclude (changes_of m (around_of (file_data b) a.readings) a.readings) (file_data b) (around_of (file_data b) a.readings) a.readings r a.fits.addends
    (subst (λ (rs : DataReadings). AddendsFail (changes_of m (around_of (file_data b) rs) rs) (file_data b) (around_of (file_data b) rs) rs r) same f)
edit-excludes m b r a (output_row readings reads fits f) =
    let same : readings ≡ a.readings = data-one (file_data b) readings a.readings reads.data_reads a.reads.data_reads in
    layout_excludes b (file_body m b a.readings) r a.written (subst (λ (rs : DataReadings). LayoutFails b (file_body m b rs) r) same f)
