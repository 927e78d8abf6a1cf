-- The output of a file means what the file means, with each source path mapped: from what reads back of it.
use Rattle.std.proofs.Common.{◌≡◌, ℕ, ◌^◌, ◌<◌, ◌≤◌, List, length, sym, ap, ◌∙◌, refl, subst, arith}
use Rattle.dw_base.specs.Cells.{Located, CellSection}
use Rattle.dw_meaning.specs.DataOutput.{DataReads}
use Rattle.dw_base.specs.DebugData.{DebugData, DataReadings, around_of, line_source}
use Rattle.dw_base.specs.MacroMeanings.{MacroMeaning, macro_meanings}
use Rattle.dw_base.specs.LineMeanings.{LineMeaning, line_meanings, mapped_lines}
use Rattle.dw_base.specs.Readings.{Readings}
use Rattle.dw_base.specs.SlotTexts.{slot_texts, NamePart, name_parts}
use Rattle.dw_base.specs.MappedSlots.{unit_slots, mapped_slots}
use Rattle.dw_base.specs.DebugSections.{debug_section, name_of}
use Rattle.dw_base.specs.Elf.{section_count, section_name, contents_of}
use Rattle.dw_meaning.specs.RelocationFails.{LeftRelocationsRead, RelocationsRead, RelocationsReadIn}
use Rattle.dw_meaning.specs.FileMeanings.{file_body, file_data, FileReads, Means, MeaningKept, new_body}
use Rattle.dw_base.specs.FileViews.{view_of}
use Rattle.dw_base.specs.Layout.{output_limit}
use Rattle.dw_base.specs.LayoutReads.{ReadsBack}
use Rattle.dw_base.specs.MappedUnits.{mapped_units}
use Rattle.dw_base.specs.Paths.{PathMap}
use Rattle.dw_base.specs.RelocationRows.{moving_sections}
use Rattle.dw_base.specs.UnitHeaders.{UnitSection}
use Rattle.dw_base.specs.UnitMeanings.{UnitMeaning, units_of}
use Rattle.dw_base.specs.ViewData.{is_read, located, debug_data, NamedBytes, other_sections, bytes_named, without_id, Meaning, meaning_of, mapped}
use Rattle.dw_base.specs.declared.debug_sections.DebugSection.{DebugSection}
use Rattle.dw_base.specs.declared.debug_sections.DebugSection.TheVariants.{Info, Abbrev, Str, LineStr, StrOffsets, Line, Macro, Names}
use Rattle.dw_base.specs.declared.shared.Order.{Order}
use Rattle.dw_meaning.proofs.DataKeptLaws.{DataMoves, edited_data, new_line_cells, edited_readings, after_reads, lines-data, edited_sections, data-reads, data-mapped, slots-data, macros-data, names-data}
use Rattle.dw_meaning.proofs.DataOneLaws.{means-one}
use Rattle.dw_base.proofs.DebugSectionLaws.{debug_section-name}
use Rattle.dw_meaning.proofs.CellBackLaws.{macros-back, names-section, offsets-back, tables-back, units-back}
use Rattle.dw_meaning.proofs.FileBackLaws.{elf-back, moving-back, names-back, others-back}
use Rattle.dw_meaning.proofs.LeftKeptLaws.{left-after}
use Rattle.dw_meaning.proofs.LeftRowLaws.{headers-left, values-left}
use Rattle.dw_meaning.proofs.MacroEditLaws.{edited_macro_sections}
use Rattle.dw_meaning.proofs.FileKeptLaws.{CanMap, around_file, changes_file, new_str, new_line_str, new_line_tables, tables-none, tables-place, lines-apart, texts-apart, body-lines, file-back, str-back, line-back, abbrev-back, new_macros, new_offsets, new_names, body-str, body-line, tables-apart, str-place, line-place, str-none, line-none, all-read, read-body}
use Rattle.dw_base.proofs.FileViewLaws.{order-view_of}
use Rattle.dw_meaning.proofs.LineShiftLaws.{left-clear}
use Rattle.dw_base.proofs.SectionLaws.{length-contents}
use Rattle.dw_meaning.proofs.SectionsBackLaws.{sections-back}
use Rattle.dw_meaning.proofs.TableKeptLaws.{TablePlace, nowhere, lies_at}
use Rattle.dw_meaning.proofs.DataParts.{found_with}
use Rattle.dw_meaning.proofs.MeansLaws.{means-made}

-- the units of the output
abbrev pub new_units : PathMap → List ℕ → DataReadings → Readings
new_units m b r = edited_readings (changes_file m b r) (around_file b r) r.units

-- so its debug data are the file's, edited
order-back : (m : PathMap) (b : List ℕ) (r : DataReadings) (out : List ℕ) → ReadsBack b (file_body m b r) out → (view_of out).order ≡ (view_of b).order
order-back m b r out back = order-view_of out ∙ back.order ∙ sym (order-view_of b)

-- debug data by their parts
abbrev data_with : Order → Located → List UnitSection → Located → Located → CellSection → CellSection → List CellSection → CellSection → DebugData
data_with order abbrevs units str line offsets lines macros names =
    record { base = record { order = order; abbrevs = abbrevs }; found = found_with units str line offsets lines macros names }

data-parts : (b : List ℕ) → file_data b ≡ data_with (view_of b).order (located (view_of b) Abbrev) ((file_data b).found Info) ((file_data b).found Str) ((file_data b).found LineStr)
    ((file_data b).found StrOffsets) ((file_data b).found Line) ((file_data b).found Macro) ((file_data b).found Names)
unfolding debug_data
data-parts b = refl

same-parts : (o p : Order) (a c : Located) (us vs : List UnitSection) (s t l k : Located) (x y i j : CellSection) (ms ks : List CellSection) (n q : CellSection) → o ≡ p → a ≡ c → us ≡ vs → s ≡ t → l ≡ k → x ≡ y → i ≡ j → ms ≡ ks → n ≡ q
    → data_with o a us s l x i ms n ≡ data_with p c vs t k y j ks q
same-parts o p a c us vs s t l k x y i j ms ks n q e1 e2 e3 e4 e5 e6 e7 e8 e9 =
    ap (λ (z : Order). data_with z a us s l x i ms n) e1 ∙ ap (λ (z : Located). data_with p z us s l x i ms n) e2 ∙ ap (λ (z : List UnitSection). data_with p c z s l x i ms n) e3
    ∙ ap (λ (z : Located). data_with p c vs z l x i ms n) e4 ∙ ap (λ (z : Located). data_with p c vs t z x i ms n) e5 ∙ ap (λ (z : CellSection). data_with p c vs t k z i ms n) e6
    ∙ ap (λ (z : CellSection). data_with p c vs t k y z ms n) e7 ∙ ap (λ (z : List CellSection). data_with p c vs t k y j z n) e8 ∙ ap (data_with p c vs t k y j ks) e9

edited-parts : (m : PathMap) (b : List ℕ) (r : DataReadings) → data_with (view_of b).order (located (view_of b) Abbrev)
    (edited_sections ((file_data b).found Info) (new_units m b r)) (record { number = ((file_data b).found Str).number; bytes = new_str m b r })
    (record { number = ((file_data b).found LineStr).number; bytes = new_line_str m b r }) (record { number = ((file_data b).found StrOffsets).number; contents = new_offsets m b r })
    (record { number = ((file_data b).found Line).number; contents = new_line_cells (changes_file m b r) (file_data b) r }) (edited_macro_sections ((file_data b).found Macro) (new_macros m b r))
    (record { number = ((file_data b).found Names).number; contents = new_names m b r }) ≡ edited_data (changes_file m b r) (file_data b) r
unfolding debug_data
edited-parts m b r = refl

-- the body of a section of a name that is read is its new one
table-body : (m : PathMap) (b : List ℕ) (r : DataReadings) (s : DebugSection) (i : ℕ) → CanMap m b r → i < section_count b → section_name b i ≡ name_of s
    → file_body m b r i ≡ new_body m b r i
table-body m b r s i w lt named =
    read-body m b r i w lt (ap (λ (n : List ℕ). is_read (debug_section n)) named ∙ ap is_read (debug_section-name s) ∙ all-read s)

-- the tables stay small where the output does
str-small : (m : PathMap) (b : List ℕ) (r : DataReadings) (out : List ℕ) → CanMap m b r → ReadsBack b (file_body m b r) out → length out ≤ output_limit → length (new_str m b r) ≤ 2 ^ 32
str-small m b r out w back small = by_place (str-place b)
  where
    by_place : TablePlace b (name_of Str) ((file_data b).found Str) → length (new_str m b r) ≤ 2 ^ 32
    by_place (nowhere zero none) =
        let size : length (new_str m b r) ≡ 0 = ap length (str-none m b r w none) in
        omega (arith, size)
    by_place (lies_at there within named bytes) =
        let here : contents_of out ((file_data b).found Str).number ≡ new_str m b r = back.contents ((file_data b).found Str).number within ∙ table-body m b r Str ((file_data b).found Str).number w within named ∙ body-str m b r in
        let size : length (contents_of out ((file_data b).found Str).number) ≡ length (new_str m b r) = ap length here in
        omega (arith, size, length-contents out ((file_data b).found Str).number, small)

line-small : (m : PathMap) (b : List ℕ) (r : DataReadings) (out : List ℕ) → CanMap m b r → ReadsBack b (file_body m b r) out → length out ≤ output_limit → length (new_line_str m b r) ≤ 2 ^ 32
line-small m b r out w back small = by_place (line-place b)
  where
    by_place : TablePlace b (name_of LineStr) ((file_data b).found LineStr) → length (new_line_str m b r) ≤ 2 ^ 32
    by_place (nowhere zero none) =
        let size : length (new_line_str m b r) ≡ 0 = ap length (line-none m b r w none) in
        omega (arith, size)
    by_place (lies_at there within named bytes) =
        let here : contents_of out ((file_data b).found LineStr).number ≡ new_line_str m b r =
        back.contents ((file_data b).found LineStr).number within ∙ table-body m b r LineStr ((file_data b).found LineStr).number w within named ∙ body-line m b r (tables-apart b there named) in
        let size : length (contents_of out ((file_data b).found LineStr).number) ≡ length (new_line_str m b r) = ap length here in
        omega (arith, size, length-contents out ((file_data b).found LineStr).number, small)

lines-small : (m : PathMap) (b : List ℕ) (r : DataReadings) (out : List ℕ) → CanMap m b r → ReadsBack b (file_body m b r) out → length out ≤ output_limit
    → length (new_line_tables m b r) ≤ 2 ^ 32
unfolding debug_data
lines-small m b r out w back small = by_place (tables-place b)
  where
    by_place : TablePlace b (name_of Line) (located (view_of b) Line) → length (new_line_tables m b r) ≤ 2 ^ 32
    by_place (nowhere zero none) =
        let size : length (new_line_tables m b r) ≡ 0 = ap length (tables-none m b r w none) in
        omega (arith, size)
    by_place (lies_at there within named bytes) =
        let own : ℕ = (located (view_of b) Line).number in
        let here : contents_of out (located (view_of b) Line).number ≡ new_line_tables m b r =
        back.contents (located (view_of b) Line).number within ∙ table-body m b r Line (located (view_of b) Line).number w within named ∙ body-lines m b r there named in
        let size : length (contents_of out (located (view_of b) Line).number) ≡ length (new_line_tables m b r) = ap length here in
        omega (arith, size, length-contents out (located (view_of b) Line).number, small)

pub data-back : (m : PathMap) (b : List ℕ) (r : DataReadings) (out : List ℕ) → CanMap m b r → ReadsBack b (file_body m b r) out → length out ≤ output_limit
    → file_data out ≡ edited_data (changes_file m b r) (file_data b) r
data-back m b r out w back small =
    let lines : length (new_line_tables m b r) ≤ 2 ^ 32 = lines-small m b r out w back small in
    data-parts out
    ∙ same-parts (view_of out).order (view_of b).order (located (view_of out) Abbrev) (located (view_of b) Abbrev) ((file_data out).found Info)
    (edited_sections ((file_data b).found Info) (new_units m b r)) ((file_data out).found Str) (record { number = ((file_data b).found Str).number; bytes = new_str m b r })
    ((file_data out).found LineStr) (record { number = ((file_data b).found LineStr).number; bytes = new_line_str m b r })
    ((file_data out).found StrOffsets) (record { number = ((file_data b).found StrOffsets).number; contents = new_offsets m b r })
    ((file_data out).found Line) (record { number = ((file_data b).found Line).number; contents = new_line_cells (changes_file m b r) (file_data b) r })
    ((file_data out).found Macro) (edited_macro_sections ((file_data b).found Macro) (new_macros m b r))
    ((file_data out).found Names) (record { number = ((file_data b).found Names).number; contents = new_names m b r })
    (order-back m b r out back) (abbrev-back m b r out w back) (units-back m b r out w back lines) (str-back m b r out w back) (line-back m b r out w back)
    (offsets-back m b r out w back lines) (tables-back m b r out w back lines) (macros-back m b r out w back lines) (names-section m b r out w back lines)
    ∙ edited-parts m b r

-- what the data law asks for
pub data-moves : (m : PathMap) (b : List ℕ) (r : DataReadings) (out : List ℕ) → CanMap m b r → ReadsBack b (file_body m b r) out → length out ≤ output_limit
    → DataMoves m (file_data b) r
data-moves m b r out w back small = record {
  map = w.map;
  reads = w.reads.data_reads;
  fits = w.fits;
  str = str-small m b r out w back small;
  line_str = line-small m b r out w back small;
  lines = lines-small m b r out w back small;
  lines_clear = left-clear (file_data b) (moving_sections (view_of b)) r.lines w.reads.relocations.on_data.left w.reads.data_reads.lines;
  apart = lines-apart m b r w;
  tables = texts-apart b;
}

-- the readings of the output
abbrev file_moves : (m : PathMap) (b : List ℕ) (r : DataReadings) (out : List ℕ) → CanMap m b r → ReadsBack b (file_body m b r) out → length out ≤ output_limit → DataReadings
file_moves m b r out w back small = after_reads m (file_data b) r (data-moves m b r out w back small)

-- its relocations are handled
relocations-back : (m : PathMap) (b : List ℕ) (r : DataReadings) (out : List ℕ) → CanMap m b r → ReadsBack b (file_body m b r) out → length out ≤ output_limit → RelocationsRead out
relocations-back m b r out w back small =
    let moves : DataMoves m (file_data b) r = data-moves m b r out w back small in
    let moving : List ℕ = moving_sections (view_of b) in
    let now : DebugData = edited_data (changes_file m b r) (file_data b) r in
    let reads : DataReads (edited_data (changes_file m b r) (file_data b) r) (after_reads m (file_data b) r moves) = data-reads m (file_data b) r moves in
    let left : LeftRelocationsRead (edited_data (changes_file m b r) (file_data b) r) (moving_sections (view_of b)) =
    left-after m (file_data b) r moves (moving_sections (view_of b)) w.reads.relocations.on_data.left in
    let on_now : RelocationsReadIn (edited_data (changes_file m b r) (file_data b) r) (moving_sections (view_of b)) = record {
      headers = headers-left (edited_data (changes_file m b r) (file_data b) r) (after_reads m (file_data b) r moves) (moving_sections (view_of b)) reads left;
      values = values-left (edited_data (changes_file m b r) (file_data b) r) (after_reads m (file_data b) r moves) (moving_sections (view_of b)) reads left;
      left = left;
    } in
    record {
      sections = sections-back m b r out w back (lines-small m b r out w back small);
      on_data = subst (λ (d : DebugData). RelocationsReadIn d (moving_sections (view_of out))) (sym (data-back m b r out w back small))
          (subst (RelocationsReadIn (edited_data (changes_file m b r) (file_data b) r)) (sym (moving-back b (file_body m b r) out (file-back m b r out w back))) on_now);
    }

-- the output can be read
reads-back : (m : PathMap) (b : List ℕ) (r : DataReadings) (out : List ℕ) (w : CanMap m b r) (back : ReadsBack b (file_body m b r) out) (small : length out ≤ output_limit)
    → FileReads out (file_moves m b r out w back small)
reads-back m b r out w back small =
    let f = file-back m b r out w back in
    record {
      elf = elf-back b (file_body m b r) out f;
      names = names-back b (file_body m b r) out f;
      relocations = relocations-back m b r out w back small;
      data_reads = subst (λ (d : DebugData). DataReads d (file_moves m b r out w back small)) (sym (data-back m b r out w back small)) (data-reads m (file_data b) r (data-moves m b r out w back small));
    }

-- and means the mapped meaning
abbrev pub means_with : List UnitMeaning → List (List ℕ) → List LineMeaning → List MacroMeaning → List NamePart → List NamedBytes → Meaning
means_with units slots lines macros names others =
    record { units = units; slots = slots; lines = lines; macros = macros; names = names; others = bytes_named others }

same-meaning : (us vs : List UnitMeaning) (ss ts : List (List ℕ)) (ls ks : List LineMeaning) (as_ bs : List MacroMeaning) (ns ps : List NamePart) (os qs : List NamedBytes) → us ≡ vs → ss ≡ ts → ls ≡ ks → as_ ≡ bs → ns ≡ ps → os ≡ qs
    → means_with us ss ls as_ ns os ≡ means_with vs ts ks bs ps qs
same-meaning us vs ss ts ls ks as_ bs ns ps os qs e f l a g h =
    ap (λ (z : List UnitMeaning). means_with z ss ls as_ ns os) e ∙ ap (λ (z : List (List ℕ)). means_with vs z ls as_ ns os) f
    ∙ ap (λ (z : List LineMeaning). means_with vs ts z as_ ns os) l ∙ ap (λ (z : List MacroMeaning). means_with vs ts ks z ns os) a
    ∙ ap (λ (z : List NamePart). means_with vs ts ks bs z os) g ∙ ap (λ (z : List NamedBytes). means_with vs ts ks bs ps z) h

meaning-back : (m : PathMap) (b : List ℕ) (r : DataReadings) (out : List ℕ) (w : CanMap m b r) (back : ReadsBack b (file_body m b r) out) (small : length out ≤ output_limit)
    → meaning_of (view_of out) (file_moves m b r out w back small) ≡ mapped m (meaning_of (view_of b) r)
unfolding meaning_of debug_data
meaning-back m b r out w back small =
    let moves : DataMoves m (file_data b) r = data-moves m b r out w back small in
    same-meaning (units_of (file_data out) (file_moves m b r out w back small)) (mapped_units m (units_of (file_data b) r))
    (slot_texts (view_of out).order (located (view_of out) Str) (file_moves m b r out w back small).offsets)
    (mapped_slots m (unit_slots (units_of (file_data b) r)) 0 (slot_texts (view_of b).order (located (view_of b) Str) r.offsets))
    (line_meanings (line_source (file_data out)) (file_moves m b r out w back small).lines) (mapped_lines m (line_meanings (line_source (file_data b)) r.lines))
    (macro_meanings (around_of (file_data out) (file_moves m b r out w back small)) (file_moves m b r out w back small).macros) (macro_meanings (around_of (file_data b) r) r.macros)
    (name_parts (view_of out).order (located (view_of out) Str) (file_moves m b r out w back small).names) (name_parts (view_of b).order (located (view_of b) Str) r.names)
    (other_sections (without_id (view_of out).id (view_of out).sections)) (other_sections (without_id (view_of b).id (view_of b).sections))
    (ap (λ (d : DebugData). units_of d (file_moves m b r out w back small)) (data-back m b r out w back small) ∙ data-mapped m (file_data b) r moves)
    (ap (λ (o : Order). slot_texts o (located (view_of out) Str) (file_moves m b r out w back small).offsets) (order-back m b r out back)
    ∙ ap (λ (z : Located). slot_texts (view_of b).order z (file_moves m b r out w back small).offsets) (str-back m b r out w back) ∙ slots-data m (file_data b) r moves)
    (ap (λ (d : DebugData). line_meanings (line_source d) (file_moves m b r out w back small).lines) (data-back m b r out w back small) ∙ (lines-data m (file_data b) r moves).says)
    (ap (λ (d : DebugData). macro_meanings (around_of d (file_moves m b r out w back small)) (file_moves m b r out w back small).macros) (data-back m b r out w back small) ∙ macros-data m (file_data b) r moves)
    (ap (λ (o : Order). name_parts o (located (view_of out) Str) (file_moves m b r out w back small).names) (order-back m b r out back)
    ∙ ap (λ (z : Located). name_parts (view_of b).order z (file_moves m b r out w back small).names) (str-back m b r out w back) ∙ names-data m (file_data b) r moves)
    (others-back b (file_body m b r) out (file-back m b r out w back))

-- the file law
pub file-meaning : (m : PathMap) (b : List ℕ) (r : DataReadings) (out : List ℕ) → CanMap m b r → ReadsBack b (file_body m b r) out → length out ≤ output_limit
    → MeaningKept m b out
file-meaning m b r out w back small =
    let old : Means b (meaning_of (view_of b) r) = means-made b r (meaning_of (view_of b) r) w.reads refl in
    let new : Means out (mapped m (meaning_of (view_of b) r)) =
    means-made out (file_moves m b r out w back small) (mapped m (meaning_of (view_of b) r)) (reads-back m b r out w back small) (meaning-back m b r out w back small) in
    record {
      meaning = meaning_of (view_of b) r;
      old = old;
      new = new;
      old_one = λ x is. means-one b x _ is old;
      new_one = λ x is. means-one out x _ is new;
    }
