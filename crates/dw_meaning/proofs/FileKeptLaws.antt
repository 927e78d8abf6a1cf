-- The file law: the output of a file means what the file means, with each source path mapped.
use Rattle.std.specs.Prelude.{is_some}
use Rattle.std.proofs.Common.{◌==◌, ◌||◌, slice_index, true, false, ◌≡◌, ◌≢◌, ◌⊎◌, inl, inr, ℕ, ◌<◌, List, [], drop, Option, Some, None, Bool, ◌∷◌, ◌++◌, length, true≢false, sym, ap, ◌∙◌, refl, subst, arith, if◌then◌else◌, take}
use Rattle.std.proofs.lemmas.Bool.{ne_eqb, eq-eqb, eqb-true, cases_eq, lt-ltb}
use Rattle.dw_base.specs.Cells.{Cell, Located, bytes_of}
use Rattle.dw_meaning.specs.DataOutput.{DataFits, table_change, new_lines, changes_of, offsets_after, macros_after, names_after, Body, unit_bodies, macro_bodies, body_in, new_bodies}
use Rattle.dw_base.specs.DebugData.{Around, DataReadings, around_of, line_source, path_slots}
use Rattle.dw_base.specs.TextLineChanges.{all_texts_mentions, tables_by_texts}
use Rattle.dw_base.specs.LineReadings.{LineReading, TablesTo, all_lines}
use Rattle.dw_base.specs.MacroReadings.{MacroReading}
use Rattle.dw_base.specs.Texts.{ends_in, laid_texts}
use Rattle.dw_base.specs.DebugSections.{debug_section, name_of}
use Rattle.dw_base.specs.Elf.{e_shoff, e_type, nth_section, section_count, section_name, contents_of, contents_at, is_empty_kind}
use Rattle.dw_meaning.specs.FileMeanings.{file_data, file_body, FileReads, new_body}
use Rattle.dw_meaning.specs.RelocatedBodies.{new_cells, relocated_body}
use Rattle.dw_base.specs.FileViews.{view_of, section_named, section_after}
use Rattle.dw_base.specs.LayoutReads.{ReadsBack}
use Rattle.dw_base.specs.Paths.{PathMap, IsPathMap}
use Rattle.dw_base.specs.TextChanges.{TableChanges, edited_by}
use Rattle.dw_base.specs.Pieces.{Piece, joined}
use Rattle.dw_base.specs.Roles.{Role}
use Rattle.dw_base.specs.SectionTexts.{slot_role, name_role, edited_with}
use Rattle.dw_base.specs.ViewData.{unit_kind, unit_sections, is_macro, macro_sections, located, located_at, debug_data, is_read}
use Rattle.dw_base.specs.RelocationSectionFails.{is_own_kind, is_read_section, relocates_read}
use Rattle.dw_base.specs.SectionRelocations.{is_relocation_kind}
use Rattle.dw_base.specs.declared.elf_numbers.TheConstants.{ET_REL, SHT_SYMTAB, SHT_SYMTAB_SHNDX}
use Rattle.dw_base.specs.declared.debug_sections.DebugSection.{DebugSection}
use Rattle.dw_base.specs.declared.debug_sections.DebugSection.TheVariants.{Info, Types, Abbrev, Str, LineStr, StrOffsets, Line, Macro, Names}
use Rattle.dw_base.proofs.DebugSectionLaws.{debug_section-name}
use Rattle.dw_meaning.proofs.FileBackLaws.{Back, SectionBack, is_read_name, other-holder, plain-holder, sections-back}
use Rattle.dw_base.proofs.FileViewLaws.{section_bytes-view_of}
use Rattle.dw_meaning.proofs.MacroKeptLaws.{macros-skip}
use Rattle.dw_meaning.proofs.SectionKeptLaws.{edited-size, units-skip}
use Rattle.dw_base.proofs.TextLaws.{ends_in-inside}
use Rattle.dw_base.proofs.ViewCellLaws.{bytes-cells, number-cells}
use Rattle.dw_base.proofs.UnitEditLaws.{length-bytes_of}
use Rattle.dw_base.specs.declared.texts.TextSection.{TextSection}
use Rattle.dw_base.specs.declared.texts.TextSection.TheVariants.{InStr, InLineStr}
use Rattle.dw_meaning.proofs.LineColumnLaws.{texts_in}
use Rattle.dw_meaning.proofs.TextNoneLaws.{all_texts-none}
use Rattle.dw_meaning.proofs.LineSectionLaws.{TablesApart, no-tables}
use Rattle.std.proofs.lemmas.List.{length-append}
use Rattle.dw_meaning.proofs.TableKeptLaws.{FoundAt, found-named, TablePlace, nowhere, lies_at, table-place, table-none, drop-at, found-back, sections-self}

-- a file, a list of bytes, that can be read and mapped
pub record CanMap (m : PathMap) (b : List ℕ) (r : DataReadings) : Type 0 where
  pub map : IsPathMap m
  pub bytes : (n : ℕ) → slice_index b n < 256
  pub reads : FileReads b r
  pub fits : DataFits m (file_data b) r

abbrev pub around_file : List ℕ → DataReadings → Around
around_file b r = around_of (file_data b) r

abbrev pub changes_file : PathMap → List ℕ → DataReadings → TableChanges
changes_file m b r = changes_of m (around_of (file_data b) r) r

-- the new bytes of the two tables
abbrev pub new_str : PathMap → List ℕ → DataReadings → List ℕ
new_str m b r = laid_texts (table_change m InStr (around_of (file_data b) r) r)

abbrev pub new_line_str : PathMap → List ℕ → DataReadings → List ℕ
new_line_str m b r = laid_texts (table_change m InLineStr (around_of (file_data b) r) r)

-- the new cells of string offsets and of name tables
abbrev pub new_offsets : PathMap → List ℕ → DataReadings → List Cell
new_offsets m b r = joined (offsets_after (changes_file m b r) (around_file b r) r)

abbrev pub new_names : PathMap → List ℕ → DataReadings → List Cell
new_names m b r = joined (names_after (changes_file m b r) (around_file b r) r)

-- the new line tables
abbrev pub new_line_tables : PathMap → List ℕ → DataReadings → List ℕ
new_line_tables m b r = all_lines (new_lines m (around_file b r) r)

-- the five sections with new bytes that hold no units
abbrev pub str_new : PathMap → List ℕ → DataReadings → Body
str_new m b r = record { number = ((file_data b).found Str).number; bytes = new_str m b r }

abbrev pub line_new : PathMap → List ℕ → DataReadings → Body
line_new m b r = record { number = ((file_data b).found LineStr).number; bytes = new_line_str m b r }

abbrev pub offsets_new : PathMap → List ℕ → DataReadings → Body
offsets_new m b r = record { number = ((file_data b).found StrOffsets).number; bytes = bytes_of (new_offsets m b r) }

abbrev pub tables_new : PathMap → List ℕ → DataReadings → Body
tables_new m b r = record { number = ((file_data b).found Line).number; bytes = new_line_tables m b r }

abbrev pub names_new : PathMap → List ℕ → DataReadings → Body
names_new m b r = record { number = ((file_data b).found Names).number; bytes = bytes_of (new_names m b r) }

-- macro units with moved fields, and their sections
abbrev pub new_macros : PathMap → List ℕ → DataReadings → List MacroReading
new_macros m b r = macros_after (changes_file m b r) (around_file b r) r

abbrev pub macros_new : PathMap → List ℕ → DataReadings → List Body
macros_new m b r = macro_bodies (new_macros m b r)

abbrev pub units_new : PathMap → List ℕ → DataReadings → List Body
units_new m b r = unit_bodies (changes_file m b r) (around_file b r) r.units

-- what stands behind each in the list of new bodies
abbrev behind_names : PathMap → List ℕ → DataReadings → List Body
behind_names m b r = macros_new m b r ++ units_new m b r

abbrev behind_lines : PathMap → List ℕ → DataReadings → List Body
behind_lines m b r = names_new m b r ∷ behind_names m b r

abbrev behind_offsets : PathMap → List ℕ → DataReadings → List Body
behind_offsets m b r = tables_new m b r ∷ behind_lines m b r

abbrev behind_line : PathMap → List ℕ → DataReadings → List Body
behind_line m b r = offsets_new m b r ∷ behind_offsets m b r

abbrev behind_str : PathMap → List ℕ → DataReadings → List Body
behind_str m b r = line_new m b r ∷ behind_line m b r

-- the body of a section of a number
body-open : (m : PathMap) (b : List ℕ) (r : DataReadings) (i : ℕ)
    → new_body m b r i ≡ body_in (str_new m b r ∷ line_new m b r ∷ offsets_new m b r ∷ tables_new m b r ∷ names_new m b r ∷ behind_names m b r) (contents_of b) i
unfolding new_body new_bodies
body-open m b r i = refl

-- where the sections lie
pub str-place : (b : List ℕ) → TablePlace b (name_of Str) ((file_data b).found Str)
unfolding debug_data
str-place b = table-place b Str

pub line-place : (b : List ℕ) → TablePlace b (name_of LineStr) ((file_data b).found LineStr)
unfolding debug_data
line-place b = table-place b LineStr

pub offsets-place : (b : List ℕ) → TablePlace b (name_of StrOffsets) (located (view_of b) StrOffsets)
offsets-place b = table-place b StrOffsets

pub tables-place : (b : List ℕ) → TablePlace b (name_of Line) (located (view_of b) Line)
tables-place b = table-place b Line

pub names-place : (b : List ℕ) → TablePlace b (name_of Names) (located (view_of b) Names)
names-place b = table-place b Names

-- the numbers of those that are read as pieces
pub offsets-number : (b : List ℕ) → ((file_data b).found StrOffsets).number ≡ (located (view_of b) StrOffsets).number
unfolding debug_data located
offsets-number b = number-cells (view_of b) (section_named (view_of b) (name_of StrOffsets))

pub lines-number : (b : List ℕ) → ((file_data b).found Line).number ≡ (located (view_of b) Line).number
unfolding debug_data located
lines-number b = number-cells (view_of b) (section_named (view_of b) (name_of Line))

pub names-number : (b : List ℕ) → ((file_data b).found Names).number ≡ (located (view_of b) Names).number
unfolding debug_data located
names-number b = number-cells (view_of b) (section_named (view_of b) (name_of Names))

-- the section of a table's number isn't one of another name
pub name-apart : (b name : List ℕ) (z : Located) (i : ℕ) → TablePlace b name z → 0 < i → section_name b i ≢ name → i ≢ z.number
name-apart b name z i (nowhere zero none) some other same = omega (arith, same, zero, some)
name-apart b name z i (lies_at there within named bytes) some other same = other (ap (section_name b) same ∙ named)

pub tables-apart : (b : List ℕ) → 0 < ((file_data b).found LineStr).number → section_name b ((file_data b).found LineStr).number ≡ name_of LineStr
    → ((file_data b).found LineStr).number ≢ ((file_data b).found Str).number
tables-apart b there named =
    name-apart b (name_of Str) ((file_data b).found Str) ((file_data b).found LineStr).number (str-place b) there (λ (e : section_name b ((file_data b).found LineStr).number ≡ name_of Str). differ (sym named ∙ e))
  where
    differ : name_of LineStr ≡ name_of Str → ⊥
    differ e = cc

-- and that of the second is another than the first, where a text is in it
pub texts-apart : (b : List ℕ) (at : ℕ) → ends_in ((file_data b).found LineStr).bytes at ≡ true → ((file_data b).found LineStr).number ≢ ((file_data b).found Str).number
texts-apart b at ends = by_place (line-place b)
  where
    by_place : TablePlace b (name_of LineStr) ((file_data b).found LineStr) → ((file_data b).found LineStr).number ≢ ((file_data b).found Str).number
    by_place (nowhere zero none) =
        let inside : ends_in [] at ≡ true = ap (λ (t : List ℕ). ends_in t at) (sym none) ∙ ends in
        absurd (omega (arith, ends_in-inside [] at inside))
    by_place (lies_at there within named bytes) = tables-apart b there named

-- the mentions of line tables, where a table of texts isn't there
lines_no : (m : PathMap) (table : TextSection) (b : List ℕ) (r : DataReadings) → CanMap m b r → (texts_in (line_source (file_data b)) table).bytes ≡ []
    → all_texts_mentions (line_source (file_data b)) table r.lines ≡ []
lines_no m table b r w none =
    all_texts-none (line_source (file_data b)) table 0 (length (line_source (file_data b)).bytes) r.lines (texts-apart b) none w.reads.data_reads.lines

-- a table that isn't there has no new bytes
pub str-none : (m : PathMap) (b : List ℕ) (r : DataReadings) → CanMap m b r → ((file_data b).found Str).bytes ≡ [] → new_str m b r ≡ []
str-none m b r w none = table-none m InStr (around_of (file_data b) r) r none w.reads.data_reads.texts w.reads.data_reads.slot_texts w.reads.data_reads.name_texts
    w.reads.data_reads.macro_texts
    (lines_no m InStr b r w none)

pub line-none : (m : PathMap) (b : List ℕ) (r : DataReadings) → CanMap m b r → ((file_data b).found LineStr).bytes ≡ [] → new_line_str m b r ≡ []
line-none m b r w none = table-none m InLineStr (around_of (file_data b) r) r none w.reads.data_reads.texts w.reads.data_reads.slot_texts w.reads.data_reads.name_texts
    w.reads.data_reads.macro_texts
    (lines_no m InLineStr b r w none)

-- nor have string offsets and name tables: their pieces are as long as they were
length-none : (p : List Cell) → length p ≡ 0 → p ≡ []
length-none [] e = refl
length-none (c ∷ cs) e = absurd (omega (arith, e))

edited-length : {S : Type 0} (role : S → Role) (c : TableChanges) (around : Around) (xs : List (Piece S)) → length (joined (edited_with role c around xs)) ≡ length (joined xs)
edited-length role c around [] = refl
edited-length role c around (x ∷ xs) =
    let here : length (edited_by (role x.state) c around x.cells) ≡ length x.cells = edited-size (role x.state) c around x.cells in
    let rest : length (joined (edited_with role c around xs)) ≡ length (joined xs) = edited-length role c around xs in
    omega (arith, length-append x.cells (joined xs), length-append (edited_by (role x.state) c around x.cells) (joined (edited_with role c around xs)), here, rest)

pub edited-none : {S : Type 0} (role : S → Role) (c : TableChanges) (around : Around) (xs : List (Piece S)) (cells : List Cell) (bs : List ℕ) → joined xs ≡ cells → bytes_of cells ≡ bs → bs ≡ []
    → joined (edited_with role c around xs) ≡ []
edited-none role c around xs cells bs own bytes none =
    let size : length cells ≡ 0 = sym (length-bytes_of cells) ∙ ap length (bytes ∙ none) in
    length-none (joined (edited_with role c around xs)) (edited-length role c around xs ∙ ap length own ∙ size)

offsets-bytes : (b : List ℕ) → bytes_of ((file_data b).found StrOffsets).contents ≡ (located (view_of b) StrOffsets).bytes
unfolding debug_data located
offsets-bytes b = bytes-cells (view_of b) (section_named (view_of b) (name_of StrOffsets))

names-bytes : (b : List ℕ) → bytes_of ((file_data b).found Names).contents ≡ (located (view_of b) Names).bytes
unfolding debug_data located
names-bytes b = bytes-cells (view_of b) (section_named (view_of b) (name_of Names))

pub offsets-none : (m : PathMap) (b : List ℕ) (r : DataReadings) → CanMap m b r → (located (view_of b) StrOffsets).bytes ≡ [] → new_offsets m b r ≡ []
offsets-none m b r w none =
    edited-none (slot_role (path_slots (around_file b r))) (changes_file m b r) (around_file b r) r.offsets ((file_data b).found StrOffsets).contents (located (view_of b) StrOffsets).bytes
    w.reads.data_reads.offsets.cells (offsets-bytes b) none

pub names-none : (m : PathMap) (b : List ℕ) (r : DataReadings) → CanMap m b r → (located (view_of b) Names).bytes ≡ [] → new_names m b r ≡ []
names-none m b r w none =
    edited-none name_role (changes_file m b r) (around_file b r) r.names ((file_data b).found Names).contents (located (view_of b) Names).bytes
    w.reads.data_reads.names.cells (names-bytes b) none

-- nor line tables
pub line-bytes : (b : List ℕ) → (line_source (file_data b)).bytes ≡ (located (view_of b) Line).bytes
unfolding debug_data located
line-bytes b = bytes-cells (view_of b) (section_named (view_of b) (name_of Line))

pub tables-none : (m : PathMap) (b : List ℕ) (r : DataReadings) → CanMap m b r → (located (view_of b) Line).bytes ≡ [] → new_line_tables m b r ≡ []
tables-none m b r w none =
    ap (λ (rs : List LineReading). all_lines (tables_by_texts m (table_change m InStr (around_file b r) r) (table_change m InLineStr (around_file b r) r) (line_source (file_data b)) rs))
    (no-tables (line_source (file_data b)) r.lines (line-bytes b ∙ none) w.reads.data_reads.lines)

-- section 0 has no bytes
pub section_0 : (m : PathMap) (b : List ℕ) (r : DataReadings) → CanMap m b r → 0 < section_count b → contents_of b 0 ≡ []
unfolding contents_of contents_at section_count
section_0 m b r w some = by_table (cases_eq (e_shoff b) 0)
  where
    by_table : (e_shoff b ≡ 0) ⊎ (e_shoff b ≡ 0 → ⊥) → (if is_empty_kind (nth_section b 0) then [] else take (nth_section b 0).size (drop (nth_section b 0).offset b)) ≡ []
    by_table (inl none) =
        let zero : section_count b ≡ 0 = rw none refl in
        absurd (omega (arith, zero, some))
    by_table (inr there) = rw (w.reads.elf.debug.index.null there) refl

-- the first body of a list, and the others
pub here-body : (x : Body) (xs : List Body) (old : ℕ → List ℕ) (i : ℕ) → i ≡ x.number → body_in (x ∷ xs) old i ≡ x.bytes
here-body x xs old i same = rw (eq-eqb i x.number same) refl

pub next-body : (x : Body) (xs : List Body) (old : ℕ → List ℕ) (i : ℕ) → i ≢ x.number → body_in (x ∷ xs) old i ≡ body_in xs old i
next-body x xs old i other = rw (ne_eqb i x.number other) refl

-- the new body of the first table
pub body-str : (m : PathMap) (b : List ℕ) (r : DataReadings) → new_body m b r ((file_data b).found Str).number ≡ new_str m b r
body-str m b r = body-open m b r ((file_data b).found Str).number ∙ here-body (str_new m b r) (behind_str m b r) (contents_of b) ((file_data b).found Str).number refl

-- of the second, where it is there
pub body-line : (m : PathMap) (b : List ℕ) (r : DataReadings) → ((file_data b).found LineStr).number ≢ ((file_data b).found Str).number
    → new_body m b r ((file_data b).found LineStr).number ≡ new_line_str m b r
body-line m b r other =
    body-open m b r ((file_data b).found LineStr).number ∙ next-body (str_new m b r) (behind_str m b r) (contents_of b) ((file_data b).found LineStr).number other
    ∙ here-body (line_new m b r) (behind_line m b r) (contents_of b) ((file_data b).found LineStr).number refl

-- of string offsets, and of name tables
pub body-offsets : (m : PathMap) (b : List ℕ) (r : DataReadings) (i : ℕ) → i ≡ ((file_data b).found StrOffsets).number → i ≢ ((file_data b).found Str).number → i ≢ ((file_data b).found LineStr).number
    → new_body m b r i ≡ bytes_of (new_offsets m b r)
body-offsets m b r i same str line =
    body-open m b r i ∙ next-body (str_new m b r) (behind_str m b r) (contents_of b) i str ∙ next-body (line_new m b r) (behind_line m b r) (contents_of b) i line
    ∙ here-body (offsets_new m b r) (behind_offsets m b r) (contents_of b) i same

pub body-tables : (m : PathMap) (b : List ℕ) (r : DataReadings) (i : ℕ) → i ≡ ((file_data b).found Line).number → i ≢ ((file_data b).found Str).number → i ≢ ((file_data b).found LineStr).number
    → i ≢ ((file_data b).found StrOffsets).number → new_body m b r i ≡ new_line_tables m b r
body-tables m b r i same str line offsets =
    body-open m b r i ∙ next-body (str_new m b r) (behind_str m b r) (contents_of b) i str ∙ next-body (line_new m b r) (behind_line m b r) (contents_of b) i line
    ∙ next-body (offsets_new m b r) (behind_offsets m b r) (contents_of b) i offsets ∙ here-body (tables_new m b r) (behind_lines m b r) (contents_of b) i same

pub body-names : (m : PathMap) (b : List ℕ) (r : DataReadings) (i : ℕ) → i ≡ ((file_data b).found Names).number → i ≢ ((file_data b).found Str).number → i ≢ ((file_data b).found LineStr).number
    → i ≢ ((file_data b).found StrOffsets).number → i ≢ ((file_data b).found Line).number → new_body m b r i ≡ bytes_of (new_names m b r)
body-names m b r i same str line offsets tables =
    body-open m b r i ∙ next-body (str_new m b r) (behind_str m b r) (contents_of b) i str ∙ next-body (line_new m b r) (behind_line m b r) (contents_of b) i line
    ∙ next-body (offsets_new m b r) (behind_offsets m b r) (contents_of b) i offsets ∙ next-body (tables_new m b r) (behind_lines m b r) (contents_of b) i tables
    ∙ here-body (names_new m b r) (behind_names m b r) (contents_of b) i same

-- of a section that is none of the tables of texts
pub body-pieces : (m : PathMap) (b : List ℕ) (r : DataReadings) (i : ℕ) → i ≢ ((file_data b).found Str).number → i ≢ ((file_data b).found LineStr).number
    → new_body m b r i ≡ body_in (offsets_new m b r ∷ tables_new m b r ∷ names_new m b r ∷ (macros_new m b r ++ units_new m b r)) (contents_of b) i
body-pieces m b r i str line =
    body-open m b r i ∙ next-body (str_new m b r) (behind_str m b r) (contents_of b) i str ∙ next-body (line_new m b r) (behind_line m b r) (contents_of b) i line

-- the number is that of none of them
pub record IsApart (b : List ℕ) (i : ℕ) : Type 0 where
  pub str : i ≢ ((file_data b).found Str).number
  pub line : i ≢ ((file_data b).found LineStr).number
  pub offsets : i ≢ ((file_data b).found StrOffsets).number
  pub lines : i ≢ ((file_data b).found Line).number
  pub names : i ≢ ((file_data b).found Names).number

-- the new body of every other section
pub body-other : (m : PathMap) (b : List ℕ) (r : DataReadings) (i : ℕ) → IsApart b i → new_body m b r i ≡ body_in (behind_names m b r) (contents_of b) i
body-other m b r i a =
    body-open m b r i ∙ next-body (str_new m b r) (behind_str m b r) (contents_of b) i a.str ∙ next-body (line_new m b r) (behind_line m b r) (contents_of b) i a.line
    ∙ next-body (offsets_new m b r) (behind_offsets m b r) (contents_of b) i a.offsets ∙ next-body (tables_new m b r) (behind_lines m b r) (contents_of b) i a.lines
    ∙ next-body (names_new m b r) (behind_names m b r) (contents_of b) i a.names

-- a section that has none of the five names is none of them
pub named-apart : (b : List ℕ) (i : ℕ) → 0 < i → section_name b i ≢ name_of Str → section_name b i ≢ name_of LineStr → section_name b i ≢ name_of StrOffsets
    → section_name b i ≢ name_of Line → section_name b i ≢ name_of Names → IsApart b i
named-apart b i some str line offsets tables names = record {
  str = name-apart b (name_of Str) ((file_data b).found Str) i (str-place b) some str;
  line = name-apart b (name_of LineStr) ((file_data b).found LineStr) i (line-place b) some line;
  offsets = subst (λ (n : ℕ). i ≢ n) (sym (offsets-number b)) (name-apart b (name_of StrOffsets) (located (view_of b) StrOffsets) i (offsets-place b) some offsets);
  lines = subst (λ (n : ℕ). i ≢ n) (sym (lines-number b)) (name-apart b (name_of Line) (located (view_of b) Line) i (tables-place b) some tables);
  names = subst (λ (n : ℕ). i ≢ n) (sym (names-number b)) (name-apart b (name_of Names) (located (view_of b) Names) i (names-place b) some names);
}

-- that of one that holds no macro units stands behind those
pub macros-none : (m : PathMap) (b : List ℕ) (r : DataReadings) (i : ℕ) → CanMap m b r → is_macro (debug_section (section_name b i)) ≡ false
    → body_in (behind_names m b r) (contents_of b) i ≡ body_in (units_new m b r) (contents_of b) i
unfolding debug_data macro_sections
macros-none m b r i w none =
    macros-skip b (contents_of b) (file_data b).base.order (changes_file m b r) (around_file b r) (units_new m b r) i none 1 (drop 1 (view_of b).sections) (drop 1 (view_of b).sections) r.macros
    (drop-at (SectionBack b (contents_of b)) (view_of b).sections (view_of b).sections (sections-self b)) w.reads.data_reads.macros

pub body-units : (m : PathMap) (b : List ℕ) (r : DataReadings) (i : ℕ) → CanMap m b r → IsApart b i → is_macro (debug_section (section_name b i)) ≡ false
    → new_body m b r i ≡ body_in (units_new m b r) (contents_of b) i
body-units m b r i w a none = body-other m b r i a ∙ macros-none m b r i w none

-- a section that holds no units and has neither name keeps its bytes
units-none : (m : PathMap) (b : List ℕ) (r : DataReadings) (i : ℕ) → CanMap m b r → unit_kind (debug_section (section_name b i)) ≡ None
    → body_in (units_new m b r) (contents_of b) i ≡ contents_of b i
unfolding debug_data unit_sections
units-none m b r i w none =
    units-skip b (contents_of b) (file_data b).base (changes_file m b r) (around_file b r) i none 0 1 (drop 1 (view_of b).sections) (drop 1 (view_of b).sections) r.units
    (drop-at (SectionBack b (contents_of b)) (view_of b).sections (view_of b).sections (sections-self b)) w.reads.data_reads.units

-- a name that isn't read isn't that of a section of units
unread-units : (o : Option DebugSection) → is_read o ≡ false → unit_kind o ≡ None
unread-units None e = refl
unread-units (Some Info) e = absurd cc
unread-units (Some Types) e = absurd cc
unread-units (Some Abbrev) e = absurd cc
unread-units (Some Str) e = absurd cc
unread-units (Some LineStr) e = absurd cc
unread-units (Some StrOffsets) e = absurd cc
unread-units (Some Line) e = absurd cc
unread-units (Some Macro) e = absurd cc
unread-units (Some Names) e = absurd cc

-- nor of macro units
unread-macros : (o : Option DebugSection) → is_read o ≡ false → is_macro o ≡ false
unread-macros None e = refl
unread-macros (Some Info) e = refl
unread-macros (Some Types) e = refl
unread-macros (Some Abbrev) e = refl
unread-macros (Some Str) e = refl
unread-macros (Some LineStr) e = refl
unread-macros (Some StrOffsets) e = refl
unread-macros (Some Line) e = refl
unread-macros (Some Macro) e = absurd cc
unread-macros (Some Names) e = refl

-- nor that of a table
unread-other : (b : List ℕ) (i : ℕ) (s : DebugSection) → is_read (Some s) ≡ true → is_read_name (section_name b i) ≡ false → section_name b i ≢ name_of s
unread-other b i s read unread same =
    let is : is_read_name (section_name b i) ≡ true = ap (λ (n : List ℕ). is_read (debug_section n)) same ∙ ap is_read (debug_section-name s) ∙ read in
    cc

-- a section that isn't read keeps its bytes: it is none of those with new bytes, or section 0, and these have none
keep-body : (x : Body) (xs : List Body) (old : ℕ → List ℕ) (i : ℕ) → (i ≡ x.number → x.bytes ≡ old i) → body_in xs old i ≡ old i → body_in (x ∷ xs) old i ≡ old i
keep-body x xs old i here rest = by_number (cases_eq i x.number)
  where
    by_number : (i ≡ x.number) ⊎ (i ≡ x.number → ⊥) → body_in (x ∷ xs) old i ≡ old i
    by_number (inl same) = here-body x xs old i same ∙ here same
    by_number (inr other) = next-body x xs old i other ∙ rest

unread-same : (m : PathMap) (b : List ℕ) (r : DataReadings) (i : ℕ) (s : DebugSection) (z : Located) (bytes : List ℕ) → CanMap m b r → i < section_count b
    → is_read (Some s) ≡ true → is_read_name (section_name b i) ≡ false → (z.bytes ≡ [] → bytes ≡ []) → TablePlace b (name_of s) z → i ≡ z.number → bytes ≡ contents_of b i
unread-same m b r i s z bytes w lt read unread none (nowhere zero empty) same =
    let first : i ≡ 0 = same ∙ zero in
    none empty ∙ sym (ap (contents_of b) first ∙ section_0 m b r w (subst (λ (n : ℕ). n < section_count b) first lt))
unread-same m b r i s z bytes w lt read unread none (lies_at there within named own) same =
    absurd (unread-other b i s read unread (ap (section_name b) same ∙ named))

new-kept : (m : PathMap) (b : List ℕ) (r : DataReadings) (i : ℕ) → CanMap m b r → i < section_count b → is_read_name (section_name b i) ≡ false
    → new_body m b r i ≡ contents_of b i
new-kept m b r i w lt unread =
    body-open m b r i
    ∙ keep-body (str_new m b r) (behind_str m b r) (contents_of b) i
    (unread-same m b r i Str ((file_data b).found Str) (new_str m b r) w lt refl unread (str-none m b r w) (str-place b))
    (keep-body (line_new m b r) (behind_line m b r) (contents_of b) i
    (unread-same m b r i LineStr ((file_data b).found LineStr) (new_line_str m b r) w lt refl unread (line-none m b r w) (line-place b))
    (keep-body (offsets_new m b r) (behind_offsets m b r) (contents_of b) i
    (λ same. unread-same m b r i StrOffsets (located (view_of b) StrOffsets) (bytes_of (new_offsets m b r)) w lt refl unread
    (λ none. ap bytes_of (offsets-none m b r w none)) (offsets-place b) (same ∙ offsets-number b))
    (keep-body (tables_new m b r) (behind_lines m b r) (contents_of b) i
    (λ same. unread-same m b r i Line (located (view_of b) Line) (new_line_tables m b r) w lt refl unread
    (tables-none m b r w) (tables-place b) (same ∙ lines-number b))
    (keep-body (names_new m b r) (behind_names m b r) (contents_of b) i
    (λ same. unread-same m b r i Names (located (view_of b) Names) (bytes_of (new_names m b r)) w lt refl unread
    (λ none. ap bytes_of (names-none m b r w none)) (names-place b) (same ∙ names-number b))
    (macros-none m b r i w (unread-macros (debug_section (section_name b i)) unread)
    ∙ units-none m b r i w (unread-units (debug_section (section_name b i)) unread))))))

-- the body of a section that holds no relocations of one that is read, and of one that does
pub plain-body : (m : PathMap) (b : List ℕ) (r : DataReadings) (i : ℕ) → relocates_read b i ≡ false → file_body m b r i ≡ new_body m b r i
unfolding file_body
plain-body m b r i none = ap (λ (t : Bool). if t then relocated_body b (new_cells m (file_data b) r) i else new_body m b r i) none

pub holder-body : (m : PathMap) (b : List ℕ) (r : DataReadings) (i : ℕ) → relocates_read b i ≡ true → file_body m b r i ≡ relocated_body b (new_cells m (file_data b) r) i
unfolding file_body
holder-body m b r i some = ap (λ (t : Bool). if t then relocated_body b (new_cells m (file_data b) r) i else new_body m b r i) some

pub unread-kept : (m : PathMap) (b : List ℕ) (r : DataReadings) (i : ℕ) → CanMap m b r → i < section_count b → is_read_name (section_name b i) ≡ false
    → relocates_read b i ≡ false → file_body m b r i ≡ contents_of b i
unread-kept m b r i w lt unread none = plain-body m b r i none ∙ new-kept m b r i w lt unread

-- a section that is read holds no relocations
pub read-some : (o : Option DebugSection) → is_read o ≡ is_some o
read-some None = refl
read-some (Some Info) = refl
read-some (Some Types) = refl
read-some (Some Abbrev) = refl
read-some (Some Str) = refl
read-some (Some LineStr) = refl
read-some (Some StrOffsets) = refl
read-some (Some Line) = refl
read-some (Some Macro) = refl
read-some (Some Names) = refl

pub read-section : (b : List ℕ) (i : ℕ) → i < section_count b → is_read_name (section_name b i) ≡ true → is_read_section b i ≡ true
read-section b i lt read =
    rw (lt-ltb i (section_count b) lt) (sym (read-some (debug_section (section_name b i))) ∙ read)

pub read-plain : (m : PathMap) (b : List ℕ) (r : DataReadings) (i : ℕ) → CanMap m b r → i < section_count b → is_read_name (section_name b i) ≡ true
    → relocates_read b i ≡ false
read-plain m b r i w lt read = by_type (e_type b == ET_REL) refl
  where
    own : e_type b ≡ ET_REL → is_own_kind (nth_section b i) ≡ false
    own rel = (w.reads.relocations.sections.all i (read-section b i lt read)).plain_kind rel

    or_left : (p q t : Bool) → (p || q || t) ≡ false → p ≡ false
    or_left true true t e = e
    or_left true false t e = e
    or_left false q t e = refl

    by_type : (t : Bool) → (e_type b == ET_REL) ≡ t → relocates_read b i ≡ false
    by_type true e =
        plain-holder b i (or_left (is_relocation_kind (nth_section b i)) ((nth_section b i).kind == SHT_SYMTAB) ((nth_section b i).kind == SHT_SYMTAB_SHNDX)
        (own (eqb-true (e_type b) ET_REL e)))
    by_type false e = other-holder b i e

-- so its body is the new one
pub read-body : (m : PathMap) (b : List ℕ) (r : DataReadings) (i : ℕ) → CanMap m b r → i < section_count b → is_read_name (section_name b i) ≡ true
    → file_body m b r i ≡ new_body m b r i
read-body m b r i w lt read = plain-body m b r i (read-plain m b r i w lt read)

-- so the output is a file that was written with new bodies for what is read
pub file-back : (m : PathMap) (b : List ℕ) (r : DataReadings) (out : List ℕ) → CanMap m b r → ReadsBack b (file_body m b r) out → Back b (file_body m b r) out
file-back m b r out w back = record {
  elf = w.reads.elf;
  names = w.reads.names;
  back = back;
  unread = λ i lt unread none. unread-kept m b r i w lt unread none;
}

-- a table in the output: it is nowhere in both files, or in the section of the same number, with its new body
data LocatedBack (m : PathMap) (b : List ℕ) (r : DataReadings) (name : List ℕ) (z y : Located) : Type 0 where
  gone : z.number ≡ 0 → z.bytes ≡ [] → y ≡ record { number = 0; bytes = [] } → LocatedBack m b r name z y
  stands : 0 < z.number → z.number < section_count b → section_name b z.number ≡ name → z.bytes ≡ contents_of b z.number
      → y ≡ record { number = z.number; bytes = new_body m b r z.number } → LocatedBack m b r name z y

pub all-read : (s : DebugSection) → is_read (Some s) ≡ true
all-read Info = refl
all-read Types = refl
all-read Abbrev = refl
all-read Str = refl
all-read LineStr = refl
all-read StrOffsets = refl
all-read Line = refl
all-read Macro = refl
all-read Names = refl

located-back : (m : PathMap) (b : List ℕ) (r : DataReadings) (out : List ℕ) (s : DebugSection) → CanMap m b r → ReadsBack b (file_body m b r) out
    → LocatedBack m b r (name_of s) (located (view_of b) s) (located (view_of out) s)
unfolding located section_named section_after
located-back m b r out s w back =
    let all = drop-at (SectionBack b (file_body m b r)) (view_of b).sections (view_of out).sections (sections-back b (file_body m b r) out (file-back m b r out w back)) in
    by_found (section_named (view_of b) (name_of s)) refl (section_named (view_of out) (name_of s))
    (found-back b (file_body m b r) (name_of s) 1 (drop 1 (view_of b).sections) (drop 1 (view_of out).sections) all)
  where
    found_at : (i : ℕ) → section_named (view_of b) (name_of s) ≡ Some i → FoundAt b (name_of s) 1 i
    found_at i e =
        found-named b (contents_of b) (name_of s) 1 i (drop 1 (view_of b).sections) (drop 1 (view_of b).sections)
        (drop-at (SectionBack b (contents_of b)) (view_of b).sections (view_of b).sections (sections-self b)) e

    by_found : (o : Option ℕ) → section_named (view_of b) (name_of s) ≡ o → (q : Option ℕ) → q ≡ o
        → LocatedBack m b r (name_of s) (located_at (view_of b) o) (located_at (view_of out) q)
    by_found None e q same = gone refl refl (ap (located_at (view_of out)) same)
    by_found (Some i) e q same =
        let f : FoundAt b (name_of s) 1 i = found_at i e in
        let from = f.from in
        let lt : i < section_count out = rw back.count f.within in
        stands (omega arith) f.within f.named (section_bytes-view_of b i f.within)
        (ap (located_at (view_of out)) same
        ∙ ap (λ (bs : List ℕ). record { number = i; bytes = bs }) (section_bytes-view_of out i lt ∙ back.contents i f.within
        ∙ read-body m b r i w f.within (ap (λ (n : List ℕ). is_read (debug_section n)) f.named ∙ ap is_read (debug_section-name s) ∙ all-read s)))

-- the two tables have their new bytes
pub str-back : (m : PathMap) (b : List ℕ) (r : DataReadings) (out : List ℕ) → CanMap m b r → ReadsBack b (file_body m b r) out
    → (file_data out).found Str ≡ record { number = ((file_data b).found Str).number; bytes = new_str m b r }
unfolding debug_data
str-back m b r out w back = by_place (located-back m b r out Str w back)
  where
    by_place : LocatedBack m b r (name_of Str) (located (view_of b) Str) (located (view_of out) Str)
        → located (view_of out) Str ≡ record { number = (located (view_of b) Str).number; bytes = new_str m b r }
    by_place (gone zero none is) =
        is ∙ ap (λ (n : ℕ). record { number = n; bytes = [] }) (sym zero)
        ∙ ap (λ (bs : List ℕ). record { number = (located (view_of b) Str).number; bytes = bs }) (sym (str-none m b r w none))
    by_place (stands there within named bytes is) =
        is ∙ ap (λ (bs : List ℕ). record { number = (located (view_of b) Str).number; bytes = bs }) (body-str m b r)

-- no two tables of texts are in one section
pub line-back : (m : PathMap) (b : List ℕ) (r : DataReadings) (out : List ℕ) → CanMap m b r → ReadsBack b (file_body m b r) out
    → (file_data out).found LineStr ≡ record { number = ((file_data b).found LineStr).number; bytes = new_line_str m b r }
unfolding debug_data
line-back m b r out w back = by_place (located-back m b r out LineStr w back)
  where
    by_place : LocatedBack m b r (name_of LineStr) (located (view_of b) LineStr) (located (view_of out) LineStr)
        → located (view_of out) LineStr ≡ record { number = (located (view_of b) LineStr).number; bytes = new_line_str m b r }
    by_place (gone zero none is) =
        is ∙ ap (λ (n : ℕ). record { number = n; bytes = [] }) (sym zero)
        ∙ ap (λ (bs : List ℕ). record { number = (located (view_of b) LineStr).number; bytes = bs }) (sym (line-none m b r w none))
    by_place (stands there within named bytes is) =
        is ∙ ap (λ (bs : List ℕ). record { number = (located (view_of b) LineStr).number; bytes = bs }) (body-line m b r (tables-apart b there named))

-- a section of a name of its own, not of the five, has the bytes that it had
pub abbrev-back : (m : PathMap) (b : List ℕ) (r : DataReadings) (out : List ℕ) → CanMap m b r → ReadsBack b (file_body m b r) out
    → located (view_of out) Abbrev ≡ located (view_of b) Abbrev
abbrev-back m b r out w back = by_place (located-back m b r out Abbrev w back)
  where
    by_place : LocatedBack m b r (name_of Abbrev) (located (view_of b) Abbrev) (located (view_of out) Abbrev)
        → located (view_of out) Abbrev ≡ located (view_of b) Abbrev
    by_place (gone zero none is) =
        is ∙ ap (λ (n : ℕ). record { number = n; bytes = [] }) (sym zero)
        ∙ ap (λ (bs : List ℕ). record { number = (located (view_of b) Abbrev).number; bytes = bs }) (sym none)
    by_place (stands there within named bytes is) =
        let apart : IsApart b (located (view_of b) Abbrev).number =
        named-apart b (located (view_of b) Abbrev).number there (λ e. other Str refl (sym named ∙ e)) (λ e. other LineStr refl (sym named ∙ e))
        (λ e. other StrOffsets refl (sym named ∙ e)) (λ e. other Line refl (sym named ∙ e)) (λ e. other Names refl (sym named ∙ e)) in
        let none : unit_kind (debug_section (section_name b (located (view_of b) Abbrev).number)) ≡ None =
        ap (λ (n : List ℕ). unit_kind (debug_section n)) named ∙ ap unit_kind (debug_section-name Abbrev) in
        let no_macro : is_macro (debug_section (section_name b (located (view_of b) Abbrev).number)) ≡ false =
        ap (λ (n : List ℕ). is_macro (debug_section n)) named ∙ ap is_macro (debug_section-name Abbrev) in
        is ∙ ap (λ (bs : List ℕ). record { number = (located (view_of b) Abbrev).number; bytes = bs })
        (body-units m b r (located (view_of b) Abbrev).number w apart no_macro ∙ units-none m b r (located (view_of b) Abbrev).number w none ∙ sym bytes)
      where
        is_abbrev : Option DebugSection → Bool
        is_abbrev (Some Abbrev) = true
        is_abbrev s = false

        other : (s : DebugSection) → is_abbrev (Some s) ≡ false → name_of Abbrev ≡ name_of s → ⊥
        other s none e =
            let same : is_abbrev (debug_section (name_of Abbrev)) ≡ is_abbrev (debug_section (name_of s)) = ap (λ (n : List ℕ). is_abbrev (debug_section n)) e in
            let yes : is_abbrev (debug_section (name_of Abbrev)) ≡ true = ap is_abbrev (debug_section-name Abbrev) in
            let lacks : is_abbrev (debug_section (name_of s)) ≡ false = ap is_abbrev (debug_section-name s) ∙ none in
            true≢false (sym yes ∙ same ∙ lacks)

-- names of sections of debug data are different
pub differ : (s t : DebugSection) → name_of s ≡ name_of t → Some s ≡ Some t
differ s t e = sym (debug_section-name s) ∙ ap debug_section e ∙ debug_section-name t

pub body-lines : (m : PathMap) (b : List ℕ) (r : DataReadings) → 0 < (located (view_of b) Line).number → section_name b (located (view_of b) Line).number ≡ name_of Line
    → new_body m b r (located (view_of b) Line).number ≡ new_line_tables m b r
body-lines m b r there named =
    body-tables m b r (located (view_of b) Line).number (sym (lines-number b))
    (name-apart b (name_of Str) ((file_data b).found Str) (located (view_of b) Line).number (str-place b) there (λ e. str_no (differ Line Str (sym named ∙ e))))
    (name-apart b (name_of LineStr) ((file_data b).found LineStr) (located (view_of b) Line).number (line-place b) there (λ e. line_no (differ Line LineStr (sym named ∙ e))))
    (subst (λ (n : ℕ). (located (view_of b) Line).number ≢ n) (sym (offsets-number b))
    (name-apart b (name_of StrOffsets) (located (view_of b) StrOffsets) (located (view_of b) Line).number (offsets-place b) there (λ e. offsets_no (differ Line StrOffsets (sym named ∙ e)))))
  where
    str_no : Some Line ≡ Some Str → ⊥
    str_no e = cc

    line_no : Some Line ≡ Some LineStr → ⊥
    line_no e = cc

    offsets_no : Some Line ≡ Some StrOffsets → ⊥
    offsets_no e = cc

-- where there are line tables, their section is none of those of texts
pub lines-apart : (m : PathMap) (b : List ℕ) (r : DataReadings) → CanMap m b r → TablesApart (line_source (file_data b)) r.lines
lines-apart m b r w = by_lines r.lines w.reads.data_reads.lines
  where
    str_no : Some Line ≡ Some Str → ⊥
    str_no e = cc

    line_no : Some Line ≡ Some LineStr → ⊥
    line_no e = cc

    by_place : TablePlace b (name_of Line) (located (view_of b) Line) → (x : LineReading) (xs : List LineReading)
        → TablesTo (line_source (file_data b)) 0 (x ∷ xs) (length (line_source (file_data b)).bytes)
        → ((located (view_of b) Line).number ≢ ((file_data b).found Str).number) × ((located (view_of b) Line).number ≢ ((file_data b).found LineStr).number)
    by_place (nowhere zero none) x xs reads = absurd (some_none (no-tables (line_source (file_data b)) (x ∷ xs) (line-bytes b ∙ none) reads))
      where
        some_none : ◌≡◌ {A = List LineReading} (x ∷ xs) [] → ⊥
        some_none e = cc
    by_place (lies_at there within named bytes) x xs reads = (
      name-apart b (name_of Str) ((file_data b).found Str) (located (view_of b) Line).number (str-place b) there (λ e. str_no (differ Line Str (sym named ∙ e))),
      name-apart b (name_of LineStr) ((file_data b).found LineStr) (located (view_of b) Line).number (line-place b) there (λ e. line_no (differ Line LineStr (sym named ∙ e))),
    )

    by_lines : (xs : List LineReading) → TablesTo (line_source (file_data b)) 0 xs (length (line_source (file_data b)).bytes) → TablesApart (line_source (file_data b)) xs
    by_lines [] reads = tt
    by_lines (x ∷ xs) reads =
        subst (λ (n : ℕ). (n ≢ ((file_data b).found Str).number) × (n ≢ ((file_data b).found LineStr).number)) (sym (lines-number b)) (by_place (tables-place b) x xs reads)

-- a section of macro units has no other name
pub macro-apart : (b : List ℕ) (i : ℕ) (s : DebugSection) → is_macro (Some s) ≡ false → is_macro (debug_section (section_name b i)) ≡ true → section_name b i ≢ name_of s
macro-apart b i s none some same =
    let other : is_macro (debug_section (section_name b i)) ≡ false =
    ap (λ (n : List ℕ). is_macro (debug_section n)) same ∙ ap is_macro (debug_section-name s) ∙ none in
    true≢false (sym some ∙ other)
