-- How the calls on a whole file end: what they refuse has a row, and what they give is the output of a file that is taken.
use Rattle.std.proofs.Common.{Bool, true, false, ◌≡◌, ◌≢◌, ℕ, ◌<◌, ◌≤◌, List, ◌∷◌, ◌++◌, length, if◌then◌else◌, Option, sym, ap, ◌∙◌, refl, subst, arith}
use Rattle.std.specs.Prelude.{slice_index}
use Rattle.std.proofs.lemmas.Bool.{true≢false}
use Rattle.dw_meaning.specs.DataOutput.{Body, DataReads, changes_of, new_bodies, new_lines}
use Rattle.dw_base.specs.DebugData.{Around, DataReadings, DebugData, around_of, line_source, table_of}
use Rattle.dw_base.specs.Cells.{CellSection}
use Rattle.dw_base.specs.MacroOffsets.{UnitsRefuse, units as units_are_wrong, offsets as offsets_refuse}
use Rattle.dw_base.specs.NameOffsets.{NamesRefuse, tables as tables_refuse, offsets as names_refuse}
use Rattle.dw_base.specs.ViewFails.{ViewFails}
use Rattle.dw_base.specs.ViewFails.ViewFails.{sections as names_fail_row, relocations as relocations_fail}
use Rattle.dw_base.specs.DebugSections.{name_of}
use Rattle.dw_meaning.specs.EditRows.{EditFails, IsAccepted}
use Rattle.dw_meaning.specs.EditRows.EditFails.{addends as addends_row, file, inline, line_table as line_table_row, output, shared}
use Rattle.dw_base.specs.Elf.{contents_of, is_empty_kind, nth_section, section_count, section_name}
use Rattle.dw_base.specs.ElfFails.{ElfFails, ElfReads}
use Rattle.dw_meaning.specs.FileFails.{FileFails}
use Rattle.dw_meaning.specs.FileFails.FileFails.{elf, lines as lines_row, macros as macros_row, starts as starts_row, sections, units as units_row, texts as texts_row, string_tables as string_tables_row, slots as slots_row, name_tables as name_tables_row, relocations as relocations_row}
use Rattle.dw_meaning.specs.RelocationFails.RelocationsFail.{headers, left, offsets as offset_rows, sections as section_relocations, values}
use Rattle.dw_meaning.specs.RelocationFails.OffsetsFailIn.{names as names_before, macros as macros_before}
use Rattle.dw_meaning.specs.FileMeanings.{FileReads, IsOutput, MeaningKept, file_body, file_data, new_body, output_of}
use Rattle.dw_meaning.specs.NewAddends.{AddendsFail, in_lines, in_macros, in_names, in_slots, in_unit}
use Rattle.dw_meaning.specs.RelocationFails.{RelocationsReadIn}
use Rattle.dw_base.specs.FileViews.{View, view_of}
use Rattle.dw_base.specs.Layout.{is_fixed, is_loaded_kind, output_limit, part_of, with_bodies}
use Rattle.dw_base.specs.LayoutFails.{LayoutFails, LayoutFits}
use Rattle.dw_base.specs.LayoutFails.LayoutFails.{section, large}
use Rattle.dw_base.specs.LayoutFails.SectionStays.{changed}
use Rattle.dw_base.specs.LayoutFails.TooLong.{long}
use Rattle.dw_base.specs.LayoutReads.{ReadsBack}
use Rattle.dw_meaning.specs.Leavings.{NoLeavings}
use Rattle.dw_meaning.specs.Loaded.{LoadedKept}
use Rattle.dw_base.specs.TextLineChanges.{text_place}
use Rattle.dw_base.specs.LineReadings.{all_lines, table_read}
use Rattle.dw_base.specs.LineSources.{LineSource}
use Rattle.dw_base.specs.LineTables.{LineTable}
use Rattle.dw_base.specs.LineWriteFails.{defined}
use Rattle.dw_base.specs.TextWriteFails.{TextWriteFails, text_header, text_offset, text_program, text_table, wide_text}
use Rattle.dw_base.specs.Paths.{IsPathMap, PathMap}
use Rattle.dw_base.specs.Refusals.{Blames, at}
use Rattle.dw_base.specs.RelocationRows.{moving_sections}
use Rattle.dw_base.specs.RelocationSectionFails.{RelocationSectionsFail, RelocationSectionsRead, is_read_section, relocates_read}
use Rattle.dw_base.specs.TextChanges.{TableChanges}
use Rattle.dw_base.specs.ViewData.{debug_data, located}
use Rattle.dw_base.specs.declared.debug_sections.DebugSection.TheVariants.{Str, LineStr, Line, Macro}
use Rattle.dw_base.specs.declared.fault.Fault.{Fault}
use Rattle.dw_base.specs.declared.fault.Fault.TheVariants.{NoMemory, Refused}
use Rattle.dw_base.specs.declared.fault.Kind.TheVariants.{Fixed, TooLarge}
use Rattle.dw_base.specs.declared.fault.Refusal.{Refusal}
use Rattle.dw_base.specs.declared.line_tables.LineText.{LineText}
use Rattle.dw_meaning.proofs.DataOneLaws.{data-one}
use Rattle.dw_meaning.proofs.EditRowLaws.{edit-excludes}
use Rattle.dw_meaning.proofs.FileBackLaws.{build_id-back, is_read_name}
use Rattle.dw_meaning.proofs.FileKeptLaws.{CanMap, body-line, body-lines, body-str, file-back, line-place, lines-number, plain-body, read-section, tables-apart, tables-place}
use Rattle.dw_meaning.proofs.FileMeaningLaws.{file-meaning}
use Rattle.dw_meaning.proofs.LeftNoneLaws.{no-leavings}
use Rattle.dw_base.proofs.LayoutLaws.{fixed_end-within}
use Rattle.dw_base.proofs.ReadsBackLaws.{reads_back-same, with_bodies-same}
use Rattle.dw_base.proofs.SectionLaws.{length-contents}
use Rattle.dw_meaning.proofs.TableKeptLaws.{TablePlace, nowhere, lies_at}
use Rattle.dw_rewrite.specs.Bodies.{BodiesRefuse, FileBodiesMade, long_table, held_bodies, moved_numbers}
use Rattle.dw_read.specs.AllFields.{Fields}
use Rattle.dw_read.specs.FoundPaths.{FieldsFound, MapRefuses, PathsFound}
use Rattle.dw_rewrite.specs.Bodies.BodiesRefuse.{addend_of, line_table_of, long_lines_of, long_table_of}
use Rattle.dw_read.specs.FoundPaths.MapRefuses.{inline as map_inline, shared as map_shared}
use Rattle.dw_read.specs.ReadData.{DataRefuses}
use Rattle.dw_read.specs.ReadData.DataRefuses.{units as data_units, starts as data_starts, string_tables as data_string_tables, name_tables as data_name_tables, name_offsets as data_name_offsets, relocations as data_relocations, slots as data_slots, lines as data_lines, macros as data_macros}
use Rattle.dw_rewrite.specs.CheckedFiles.{IsChecked}
use Rattle.dw_rewrite.specs.Rewritten.{AllStand, IsInFile, body_with, long_fault, long_or, long_refusal, told_refusal}
use Rattle.dw_starts.specs.MacroSections.{UnitsFailIn}
use Rattle.dw_starts.specs.MacroSections.UnitsFailIn.{units as units_fail, offsets as offsets_fail}
use Rattle.dw_starts.specs.LineStarts.{starts_of}
use Rattle.dw_unit_fields.specs.UnitTexts.UnitsRefuse.{data_fails, header_fails, relocation_fails, text_fails}
use Rattle.dw_rewrite.proofs.FileBodyLaws.{alloc-stays, bodies-same}
use Rattle.dw_rewrite.proofs.MovedNumberLaws.{are-moved}
use Rattle.dw_meaning.specs.RelocatedBodies.{new_cells}
use Rattle.dw_base.specs.Notes.{build_id_of}
use Rattle.dw_base.specs.declared.texts.TextSection.{TextSection}
use Rattle.dw_base.specs.declared.texts.TextSection.TheVariants.{InStr, InLineStr}
use Rattle.dw_rewrite.proofs.BodyLaws.{bodies-read, bodies-stand}
use Rattle.dw_rewrite.proofs.HeldBodyLaws.{unread-holder, held-stand, stand-append}
use Rattle.dw_rewrite.proofs.LoadedSectionLaws.{checked_all, relocations-unloaded, unloaded}
use Rattle.dw_meaning.proofs.LoadedLaws.{loaded-kept, relocatable-kept}
use Rattle.dw_rewrite.proofs.WrittenLaws.{fits_same, layout_same, length-moved}

-- A file that can't be read as ELF is refused,
pub refused_elf : (m : PathMap) (b : List ℕ) (f : Fault) → Blames (ElfFails b) f → Blames (EditFails m b) f
refused_elf m b NoMemory h = tt
refused_elf m b (Refused r) h = file (elf h)

-- its bytes are those that were given
pub bytes_small : (given read : List ℕ) → ((k : ℕ) → slice_index given k < 256) → read ≡ given → (k : ℕ) → slice_index read k < 256
bytes_small given read small same k = subst (λ (x : List ℕ). slice_index x k < 256) (sym same) (small k)

pub ruleset rewrite_rules = (refused_elf, bytes_small, edit-excludes)

-- one whose sections aren't handled,
view_row : (b : List ℕ) (r : Refusal) → ElfReads b → ViewFails b r → FileFails b r
view_row b r reads (names_fail_row f) = sections reads f
view_row b r reads (relocations_fail f) = relocations_row reads (section_relocations f)

pub refused_view : (m : PathMap) (b : List ℕ) (f : Fault) → ElfReads b → Blames (ViewFails b) f → Blames (EditFails m b) f
refused_view m b NoMemory reads h = tt
refused_view m b (Refused r) reads h = file (view_row b r reads h)

-- by their relocations too,
pub refused_sources : (m : PathMap) (b : List ℕ) (f : Fault) → ElfReads b → Blames (RelocationSectionsFail (contents_of b) b) f → Blames (EditFails m b) f
refused_sources m b NoMemory reads h = tt
refused_sources m b (Refused r) reads h = file (relocations_row reads (section_relocations h))

-- and one whose sections may not stand where they do.
pub refused_file : (m : PathMap) (b : List ℕ) (r : Refusal) (f : Fault) → FileFails b r → f ≡ Refused r → Blames (EditFails m b) f
refused_file m b r f h is = subst (λ (x : Fault). Blames (EditFails m b) x) (sym is) (file h)

pub ruleset elf_rules = (refused_view, refused_sources, refused_file, checked_all)

-- What can't be read of debug data, for a relocation or not, paths that would grow, and slots that are shared are rows.
names_fail : (b : List ℕ) (r : Refusal) → ElfReads b → NamesRefuse (view_of b) r → FileFails b r
names_fail b r reads (tables_refuse h) = name_tables_row reads h
names_fail b r reads (names_refuse list start t up some is h) = relocations_row reads (offset_rows (names_before list start t up some is h))

units_refuse : (b : List ℕ) (z : CellSection) (before behind : List CellSection) (r : Refusal) → ElfReads b → (file_data b).found Macro ≡ before ++ z ∷ behind
    → UnitsRefuse (view_of b) z.number r → FileFails b r
units_refuse b z before behind r reads split (units_are_wrong h) = macros_row z before behind reads split h
units_refuse b z before behind r reads split (offsets_refuse list start up some h) = relocations_row reads (offset_rows (macros_before before behind z list start split up some h))

macro_fail : (m : PathMap) (b : List ℕ) (r : Refusal) → ElfReads b → UnitsFailIn (view_of b) r → EditFails m b r
macro_fail m b r reads (units_fail z before behind split h) = file (macros_row z before behind reads split h)
macro_fail m b r reads (offsets_fail z before behind split h) = file (units_refuse b z before behind r reads split h)

data_fail : (m : PathMap) (b : List ℕ) (r : Refusal) → ElfReads b → DataRefuses (view_of b) r → EditFails m b r
data_fail m b r reads (data_units (data_fails h)) = file (units_row reads h)
data_fail m b r reads (data_units (text_fails h)) = file (texts_row reads h)
data_fail m b r reads (data_units (header_fails before behind z split h)) = file (relocations_row reads (headers before behind z split h))
data_fail m b r reads (data_units (relocation_fails h)) = file (relocations_row reads (values h))
data_fail m b r reads (data_starts h) = file (starts_row reads h)
data_fail m b r reads (data_string_tables h) = file (string_tables_row reads h)
data_fail m b r reads (data_name_tables h) = file (name_tables_row reads h)
data_fail m b r reads (data_name_offsets h) = file (names_fail b r reads h)
data_fail m b r reads (data_relocations h) = file (relocations_row reads (left h))
data_fail m b r reads (data_slots h) = file (slots_row reads h)
data_fail m b r reads (data_lines h) = file (lines_row reads h)
data_fail m b r reads (data_macros h) = macro_fail m b r reads h

pub refused_data : (m : PathMap) (b : List ℕ) (v : View) (f : Fault) → IsChecked b → v ≡ view_of b → Blames (DataRefuses v) f → Blames (EditFails m b) f
refused_data m b v NoMemory j is h = tt
refused_data m b v (Refused r) j is h = data_fail m b r j.elf (subst (λ (w : View). DataRefuses w r) is h)

map_fail : (m : PathMap) (b : List ℕ) (r : Refusal) → ElfReads b → MapRefuses m (view_of b) r → EditFails m b r
map_fail m b r reads (map_inline h) = inline reads h
map_fail m b r reads (map_shared readings i h) = shared readings reads i h

pub refused_map : (m : PathMap) (b : List ℕ) (v : View) (f : Fault) → IsChecked b → v ≡ view_of b → Blames (MapRefuses m v) f → Blames (EditFails m b) f
refused_map m b v NoMemory j is h = tt
refused_map m b v (Refused r) j is h = map_fail m b r j.elf (subst (λ (w : View). MapRefuses m w r) is h)

-- what was found by a slice of the line tables is what was found by them
pub found_paths : (m : PathMap) (b : List ℕ) (v : View) (us : Fields) (ts slice : List LineTable) → v ≡ view_of b → slice ≡ ts → PathsFound m v us slice
    → PathsFound m (view_of b) us ts
found_paths m b v us ts slice is same h = subst (λ (w : View). PathsFound m w us ts) is (subst (PathsFound m v us) same h)

pub slice_fields : (v : View) (us : Fields) (marks : List ℕ) (ts slice : List LineTable) → slice ≡ ts → FieldsFound v us marks ts → FieldsFound v us marks slice
slice_fields v us marks ts slice same h = subst (FieldsFound v us marks) (sym same) h

pub slice_paths : (m : PathMap) (b : List ℕ) (us : Fields) (ts slice : List LineTable) → slice ≡ ts → PathsFound m (view_of b) us ts → PathsFound m (view_of b) us slice
slice_paths m b us ts slice same h = subst (PathsFound m (view_of b) us) (sym same) h

pub slice_starts : (starts own : List ℕ) (ts slice : List LineTable) → own ≡ starts → slice ≡ ts → starts ≡ starts_of ts → own ≡ starts_of slice
slice_starts starts own ts slice is same are = is ∙ are ∙ ap starts_of (sym same)

pub ruleset found_rules = (refused_data, refused_map, found_paths, slice_fields)

-- A file whose debug data can be read, with their relocations, reads as a whole.
reads_checked : (b : List ℕ) (r : DataReadings) → IsChecked b → RelocationsReadIn (file_data b) (moving_sections (view_of b)) → DataReads (file_data b) r → FileReads b r
reads_checked b r j on_data reads = record {
  elf = j.elf;
  names = j.names;
  relocations = record { sections = j.relocations; on_data = on_data };
  data_reads = reads;
}

pub seen_paths : (m : PathMap) (b : List ℕ) (v : View) (us : Fields) (ts : List LineTable) → v ≡ view_of b → PathsFound m (view_of b) us ts → PathsFound m v us ts
seen_paths m b v us ts is h = subst (λ (w : View). PathsFound m w us ts) (sym is) h

pub seen_view : (b s : List ℕ) (v : View) → v ≡ view_of b → s ≡ b → v ≡ view_of s
seen_view b s v is same = is ∙ ap view_of (sym same)

pub seen_relocations : (b s : List ℕ) → IsChecked b → s ≡ b → RelocationSectionsRead (contents_of s) s
seen_relocations b s j same = subst (λ (x : List ℕ). RelocationSectionsRead (contents_of x) x) (sym same) j.relocations

pub seen_bytes : (b s : List ℕ) → IsChecked b → s ≡ b → (k : ℕ) → slice_index s k < 256
seen_bytes b s j same k = subst (λ (x : List ℕ). slice_index x k < 256) (sym same) (j.bytes k)

pub made_bodies : (m : PathMap) (b s : List ℕ) (bodies : List Body) → s ≡ b → FileBodiesMade m s bodies → FileBodiesMade m b bodies
made_bodies m b s bodies same h = subst (λ (x : List ℕ). FileBodiesMade m x bodies) same h

-- A table of texts that is too long may not change where it stays, and makes the file too long where it moves.
-- a section that is read has no relocations of another
read_body : (m : PathMap) (b : List ℕ) (r : DataReadings) (i : ℕ) → IsChecked b → i < section_count b → is_read_name (section_name b i) ≡ true
    → file_body m b r i ≡ new_body m b r i
read_body m b r i j lt read = by_holder (relocates_read b i) refl
  where
    by_holder : (t : Bool) → relocates_read b i ≡ t → file_body m b r i ≡ new_body m b r i
    by_holder true e =
        let unread : is_read_section b i ≡ false = unread-holder b i j.relocations lt e in
        absurd (true≢false (sym (read-section b i lt read) ∙ unread))
    by_holder false e = plain-body m b r i e

-- these are the new bytes of a section that has bytes
record IsNewBody (m : PathMap) (b : List ℕ) (r : DataReadings) (bytes : List ℕ) (i : ℕ) : Type 0 where
  within : i < section_count b
  full : is_empty_kind (nth_section b i) ≡ false
  body : file_body m b r i ≡ bytes

table_body : (m : PathMap) (b : List ℕ) (r : DataReadings) (table : TextSection) → IsChecked b → DataReads (file_data b) r
    → (table_of (around_of (file_data b) r) table).number ≢ 0
    → IsNewBody m b r (long_table m (file_data b) r table) (table_of (around_of (file_data b) r) table).number
unfolding new_bodies
table_body m b r InStr j reads some =
    let stand = (bodies-read m b r reads).0 in
    record {
      within = stand.within some;
      full = stand.full some;
      body = read_body m b r ((file_data b).found Str).number j (stand.within some) (stand.read some) ∙ body-str m b r;
    }
table_body m b r InLineStr j reads some =
    let stand = (bodies-read m b r reads).1.0 in
    record {
      within = stand.within some;
      full = stand.full some;
      body = read_body m b r ((file_data b).found LineStr).number j (stand.within some) (stand.read some) ∙ body-line m b r (apart (line-place b));
    }
  where
    apart : TablePlace b (name_of LineStr) ((file_data b).found LineStr) → ((file_data b).found LineStr).number ≢ ((file_data b).found Str).number
    apart (nowhere zero none) = absurd (some zero)
    apart (lies_at there within named bytes) = tables-apart b there named

lines_body : (m : PathMap) (b : List ℕ) (r : DataReadings) → IsChecked b → DataReads (file_data b) r → ((file_data b).found Line).number ≢ 0
    → IsNewBody m b r (all_lines (new_lines m (around_of (file_data b) r) r)) ((file_data b).found Line).number
unfolding new_bodies
lines_body m b r j reads some =
    let stand = (bodies-read m b r reads).1.1.1.0 in
    record {
      within = stand.within some;
      full = stand.full some;
      body = read_body m b r ((file_data b).found Line).number j (stand.within some) (stand.read some) ∙ by_place (tables-place b);
    }
  where
    same : (located (view_of b) Line).number ≡ ((file_data b).found Line).number
    same = sym (lines-number b)

    by_place : TablePlace b (name_of Line) (located (view_of b) Line) → new_body m b r ((file_data b).found Line).number ≡ all_lines (new_lines m (around_of (file_data b) r) r)
    by_place (nowhere zero none) = absurd (some (sym same ∙ zero))
    by_place (lies_at there within named bytes) = ap (new_body m b r) (sym same) ∙ body-lines m b r there named

long_at : (m : PathMap) (b : List ℕ) (r : DataReadings) (bytes : List ℕ) (i : ℕ) → length b ≤ output_limit → IsChecked b → IsNewBody m b r bytes i
    → output_limit < length bytes → (fixed : Bool) → is_fixed b (nth_section b i) ≡ fixed
    → LayoutFails b (file_body m b r) (if fixed then at Fixed i 0 else at TooLarge 0 0)
unfolding part_of
long_at m b r bytes i small j t over true fixed =
    section i t.within (changed (record {
      stays = fixed;
      body = λ e. (let size : length bytes ≡ length (contents_of b i) = ap (λ (x : List ℕ). length x) (sym t.body ∙ e) in
          absurd (omega (arith, over, size, length-contents b i, small)));
    }))
long_at m b r bytes i small j t over false moves =
    let there : (part_of b (file_body m b r) i).moves ≡ true = rw (t.full, moves) refl in
    let longer : length (file_body m b r i) ≤ length (with_bodies b (file_body m b r)) =
    length-moved b (file_body m b r) i t.within (fixed_end-within b j.elf.debug j.elf.segments) there in
    let size : length (file_body m b r i) ≡ length bytes = ap (λ (x : List ℕ). length x) t.body in
    large (long (omega (arith, over, longer, size)))

-- a line table, and an addend, is refused by another kind
data IsOther : Refusal → Type 0 where
  another : {r : Refusal} → ((long : Refusal) → long_or r.kind long r ≡ r) → (r.kind ≡ TooLarge → ⊥) → IsOther r

write_other : (g : LineSource) (m : PathMap) (p : LineText → Option ℕ) (t : LineTable) (r : Refusal) → TextWriteFails g m p t r → IsOther r
write_other g m p t r (text_table far) = another (λ long. refl) (λ e. absurd cc)
write_other g m p t r (text_header far) = another (λ long. refl) (λ e. absurd cc)
write_other g m p t r (text_offset (wide_text x place here apart is far)) = another (λ long. refl) (λ e. absurd cc)
write_other g m p t r (text_program h e (defined files place o walks lt at_ changes)) = another (λ long. refl) (λ e. absurd cc)

addend_other : (c : TableChanges) (d : DebugData) (a : Around) (q : DataReadings) (r : Refusal) → AddendsFail c d a q r → IsOther r
addend_other c d a q r (in_unit before behind z x split misses) = another (λ long. refl) (λ e. absurd cc)
addend_other c d a q r (in_slots x misses) = another (λ long. refl) (λ e. absurd cc)
addend_other c d a q r (in_macros before behind z x split misses) = another (λ long. refl) (λ e. absurd cc)
addend_other c d a q r (in_names x misses) = another (λ long. refl) (λ e. absurd cc)
addend_other c d a q r (in_lines before behind t x split misses) = another (λ long. refl) (λ e. absurd cc)

other_told : (b : List ℕ) (r : Refusal) → IsOther r → told_refusal b r ≡ r
other_told b r (another same apart) = same (long_refusal b r.section)

other_in : (b : List ℕ) (r : Refusal) → IsOther r → IsInFile b r
other_in b r (another same apart) = record { within = λ e. absurd (apart e) }

long_fails : (m : PathMap) (b : List ℕ) (f : Fault) → length b ≤ output_limit → IsChecked b → RelocationsReadIn (file_data b) (moving_sections (view_of b))
    → Blames (BodiesRefuse m (file_data b)) f → Blames (EditFails m b) (long_fault b f)
long_fails m b NoMemory small j on h = tt
long_fails m b (Refused _) small j on (long_table_of table r reads fits some over) =
    let t = table_body m b r table j reads some in
    output r (reads_checked b r j on reads) fits (long_at m b r (long_table m (file_data b) r table) _ small j t over (is_fixed b (nth_section b _)) refl)
long_fails m b (Refused _) small j on (long_lines_of r reads fits some over) =
    let t = lines_body m b r j reads some in
    output r (reads_checked b r j on reads) fits (long_at m b r (all_lines (new_lines m (around_of (file_data b) r) r)) _ small j t over (is_fixed b (nth_section b _)) refl)
long_fails m b (Refused x) small j on (line_table_of r before behind t reads split fails) =
    let other : IsOther x = write_other (line_source (file_data b)) m
    (text_place m ((changes_of m (around_of (file_data b) r) r).new Str) ((changes_of m (around_of (file_data b) r) r).new LineStr) (line_source (file_data b)))
    (table_read (line_source (file_data b)) t) x fails in
    subst (EditFails m b) (sym (other_told b x other)) (line_table_row r before behind t (reads_checked b r j on reads) split fails)
long_fails m b (Refused x) small j on (addend_of r reads fits fails) =
    let other : IsOther x = addend_other (changes_of m (around_of (file_data b) r) r) (file_data b) (around_of (file_data b) r) r x fails in
    subst (EditFails m b) (sym (other_told b x other)) (addends_row r (reads_checked b r j on reads) fits fails)

pub refused_bodies : (m : PathMap) (b : List ℕ) (v : View) (us : Fields) (ts : List LineTable) (f told : Fault) → length b ≤ output_limit → IsChecked b
    → PathsFound m (view_of b) us ts → v ≡ view_of b → Blames (BodiesRefuse m (debug_data v)) f → told ≡ long_fault b f → Blames (EditFails m b) told
refused_bodies m b v us ts f told small j found same h is =
    subst (λ (x : Fault). Blames (EditFails m b) x) (sym is)
    (long_fails m b f small j found.relocations (subst (λ (w : View). Blames (BodiesRefuse m (debug_data w)) f) same h))

in_file : (m : PathMap) (b : List ℕ) (f : Fault) → IsChecked b → Blames (BodiesRefuse m (file_data b)) f → Blames (IsInFile b) f
in_file m b NoMemory j h = tt
in_file m b (Refused _) j (long_table_of table r reads fits some over) = record { within = λ kind. (table_body m b r table j reads some).within }
in_file m b (Refused _) j (long_lines_of r reads fits some over) = record { within = λ kind. (lines_body m b r j reads some).within }
in_file m b (Refused x) j (line_table_of r before behind t reads split fails) =
    other_in b x (write_other (line_source (file_data b)) m
    (text_place m ((changes_of m (around_of (file_data b) r) r).new Str) ((changes_of m (around_of (file_data b) r) r).new LineStr) (line_source (file_data b)))
    (table_read (line_source (file_data b)) t) x fails)
in_file m b (Refused x) j (addend_of r reads fits fails) =
    other_in b x (addend_other (changes_of m (around_of (file_data b) r) r) (file_data b) (around_of (file_data b) r) r x fails)

pub told_in_file : (m : PathMap) (b : List ℕ) (v : View) (f : Fault) → IsChecked b → v ≡ view_of b → Blames (BodiesRefuse m (debug_data v)) f → Blames (IsInFile b) f
told_in_file m b v f j same h = in_file m b f j (subst (λ (w : View). Blames (BodiesRefuse m (debug_data w)) f) same h)

pub ruleset bodies_rules = (seen_paths, seen_view, seen_relocations, seen_bytes, made_bodies, told_in_file)

-- What was written is the output of a file that is taken.
can_map : (m : PathMap) (b : List ℕ) (bodies : List Body) → IsPathMap m → IsChecked b → (d : FileBodiesMade m b bodies) → CanMap m b d.readings
can_map m b bodies map j d = record { map = map; bytes = j.bytes; reads = reads_checked b d.readings j d.relocations.on_data d.reads; fits = d.fits }

made_same : (m : PathMap) (b : List ℕ) (bodies : List Body) → IsPathMap m → IsChecked b → (d : FileBodiesMade m b bodies) → (i : ℕ) → i < section_count b
    → body_with b bodies i ≡ file_body m b d.readings i
made_same m b bodies map j d i lt =
    let w : CanMap m b d.readings = can_map m b bodies map j d in
    bodies-same m b d.readings (moved_numbers (view_of b) d.readings) bodies w (are-moved m b d.readings w) d.is i lt

pub made_accepted : (m : PathMap) (b : List ℕ) (bodies : List Body) → IsPathMap m → IsChecked b → FileBodiesMade m b bodies
    → LayoutFits b (body_with b bodies) → IsAccepted m b
made_accepted m b bodies map j d fits = record {
  readings = d.readings;
  reads = reads_checked b d.readings j d.relocations.on_data d.reads;
  fits = d.fits;
  unloaded = unloaded b j;
  relocations_unloaded = relocations-unloaded b j;
  written = fits_same b (body_with b bodies) (file_body m b d.readings) (made_same m b bodies map j d) fits;
}

pub made_output : (m : PathMap) (b : List ℕ) (bodies : List Body) (out : List ℕ) → IsPathMap m → IsChecked b → FileBodiesMade m b bodies
    → out ≡ with_bodies b (body_with b bodies) → IsOutput m b out
unfolding output_of
made_output m b bodies out map j d made = record {
  readings = d.readings;
  reads = d.reads;
  fits = d.fits;
  is = made ∙ with_bodies-same b (body_with b bodies) (file_body m b d.readings) (made_same m b bodies map j d);
}

-- of which there is one at most
pub one_output : (m : PathMap) (b out : List ℕ) → IsOutput m b out → (o : List ℕ) → IsOutput m b o → o ≡ out
one_output m b out is o other =
    other.is ∙ ap (output_of m b) (data-one (file_data b) other.readings is.readings other.reads is.reads) ∙ sym is.is

-- it reads back with the bodies of the output
back_made : (m : PathMap) (b : List ℕ) (bodies : List Body) (out : List ℕ) → IsPathMap m → IsChecked b → (d : FileBodiesMade m b bodies)
    → ReadsBack b (body_with b bodies) out → ReadsBack b (file_body m b d.readings) out
back_made m b bodies out map j d back =
    reads_back-same b out (body_with b bodies) (file_body m b d.readings) (made_same m b bodies map j d) j.elf.debug.index.there back

small_out : (b : List ℕ) (bodies : ℕ → List ℕ) (out : List ℕ) → LayoutFits b bodies → out ≡ with_bodies b bodies → length out ≤ output_limit
small_out b bodies out fits made = subst (λ (x : List ℕ). length x ≤ output_limit) (sym made) fits.small

-- so its meaning is kept, and what is loaded of it
pub made_meaning : (m : PathMap) (b : List ℕ) (bodies : List Body) (out : List ℕ) → IsPathMap m → IsChecked b → FileBodiesMade m b bodies
    → LayoutFits b (body_with b bodies) → out ≡ with_bodies b (body_with b bodies) → ReadsBack b (body_with b bodies) out → MeaningKept m b out
made_meaning m b bodies out map j d fits made back =
    file-meaning m b d.readings out (can_map m b bodies map j d) (back_made m b bodies out map j d back) (small_out b (body_with b bodies) out fits made)

-- nothing is left in its tables of texts
pub made_leavings : (m : PathMap) (b : List ℕ) (bodies : List Body) (out : List ℕ) → IsPathMap m → IsChecked b → FileBodiesMade m b bodies
    → LayoutFits b (body_with b bodies) → out ≡ with_bodies b (body_with b bodies) → ReadsBack b (body_with b bodies) out → NoLeavings (file_data out)
made_leavings m b bodies out map j d fits made back =
    no-leavings m b d.readings out (can_map m b bodies map j d) (back_made m b bodies out map j d back) (small_out b (body_with b bodies) out fits made)

pub made_loaded : (m : PathMap) (b : List ℕ) (bodies : List Body) (out : List ℕ) → IsPathMap m → IsChecked b → FileBodiesMade m b bodies
    → LayoutFits b (body_with b bodies) → ReadsBack b (body_with b bodies) out → LoadedKept b out
made_loaded m b bodies out map j d fits back = by_kind (is_loaded_kind b) refl
  where
    w : CanMap m b d.readings
    w = can_map m b bodies map j d

    new : ReadsBack b (file_body m b d.readings) out
    new = back_made m b bodies out map j d back

    same : build_id_of out ≡ build_id_of b
    same = build_id-back b (file_body m b d.readings) out (file-back m b d.readings out w new)

    by_kind : (t : Bool) → is_loaded_kind b ≡ t → LoadedKept b out
    by_kind true kind = loaded-kept b out (file_body m b d.readings) j.elf kind fits.across new same
    by_kind false kind =
        relocatable-kept b out (file_body m b d.readings) kind new same
        (λ i lt alloc.
        alloc-stays m b d.readings (moved_numbers (view_of b) d.readings) i w (are-moved m b d.readings w) (unloaded b j i lt) (relocations-unloaded b j i lt) lt alloc)

-- and a layout that is refused has a row
pub refused_written : (m : PathMap) (b : List ℕ) (bodies : List Body) (f : Fault) → IsPathMap m → IsChecked b → FileBodiesMade m b bodies
    → Blames (LayoutFails b (body_with b bodies)) f → Blames (EditFails m b) f
refused_written m b bodies NoMemory map j d h = tt
refused_written m b bodies (Refused r) map j d h =
    output d.readings (reads_checked b d.readings j d.relocations.on_data d.reads) (record { inline = d.fits.inline; slots = d.fits.slots })
    (layout_same b (body_with b bodies) (file_body m b d.readings) r (made_same m b bodies map j d) h)

pub made_stand : (m : PathMap) (b : List ℕ) (bodies : List Body) → FileBodiesMade m b bodies → AllStand b bodies
made_stand m b bodies d =
    subst (AllStand b) (sym d.is)
    (stand-append b (new_bodies m (file_data b) d.readings) (held_bodies b (new_cells m (file_data b) d.readings) (moved_numbers (view_of b) d.readings))
    (bodies-stand m b d.readings d.reads) (held-stand b (new_cells m (file_data b) d.readings) (moved_numbers (view_of b) d.readings)))
