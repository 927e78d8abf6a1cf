-- The contents of the sections of an output, relocations and all, are those of the file, edited: what was written of relocations is read back. So its
-- debug data are the file's, edited.
use Rattle.std.proofs.Common.{Bool, true, false, ◌≡◌, ◌≢◌, ◌⊎◌, inl, inr, ℕ, ◌<◌, ◌≤◌, ◌^◌, ◌==◌, ◌&&◌, ◌||◌, List, [], ◌∷◌, drop, length, slice_index, Option, None, Some, sym, ap, ◌∙◌, refl, subst, arith}
use Rattle.std.proofs.lemmas.Bool.{and_parts, cases_eq, cases_lt, eqb-true}
use Rattle.dw_base.specs.Cells.{Cell, Located, bytes_of}
use Rattle.dw_base.specs.DebugData.{line_source}
use Rattle.dw_base.specs.DebugData.{Around, DataReadings, path_slots}
use Rattle.dw_base.specs.DebugSections.{debug_section, name_of}
use Rattle.dw_base.specs.Elf.{contents_of, e_type, nth_section, section_count, section_name}
use Rattle.dw_base.specs.FileViews.{section_after, section_named, view_of, view_section}
use Rattle.dw_base.specs.LayoutReads.{ReadsBack}
use Rattle.dw_base.specs.TextLineChanges.{text_place}
use Rattle.dw_base.specs.LineReadings.{LineReading}
use Rattle.dw_base.specs.Lists.{tabulate}
use Rattle.dw_base.specs.Paths.{PathMap}
use Rattle.dw_base.specs.Pieces.{Piece, joined}
use Rattle.dw_base.specs.RelocationRows.{moving_sections}
use Rattle.dw_base.specs.RelocationSectionFails.{TableReads, is_own_kind, relocates_read}
use Rattle.dw_base.specs.SectionRelocations.{cells_from, is_relocation_kind, relocates, relocation_section, relocation_source, relocations_by, relocations_of, section_cells}
use Rattle.dw_base.specs.Roles.{Role}
use Rattle.dw_base.specs.SectionTexts.{edited_with, macro_role, name_role, slot_role}
use Rattle.dw_base.specs.TextChanges.{TableChanges, edited_all}
use Rattle.dw_base.specs.UnitStates.{UnitState}
use Rattle.dw_base.specs.UnitHeaders.{SectionKind}
use Rattle.dw_base.specs.ViewData.{cells_located, debug_data, is_macro, is_read, located, located_at, macro_sections, unit_kind, unit_sections}
use Rattle.dw_base.specs.declared.debug_sections.DebugSection.{DebugSection}
use Rattle.dw_base.specs.declared.debug_sections.DebugSection.TheVariants.{Info, Types, Abbrev, Str, LineStr, StrOffsets, Line, Macro, Names}
use Rattle.dw_base.specs.declared.elf_numbers.TheConstants.{ET_REL, SHT_REL, SHT_RELA, SHT_SYMTAB, SHT_SYMTAB_SHNDX}
use Rattle.dw_base.proofs.DebugSectionLaws.{debug_section-name}
use Rattle.dw_base.proofs.PlainCellLaws.{IsPlain, plain_cells-plain}
use Rattle.dw_base.proofs.RelocationBodyLaws.{CanMove}
use Rattle.dw_base.proofs.SectionRelocationLaws.{cells_from-none}
use Rattle.dw_base.proofs.ViewCellLaws.{view_cells-view_of}
use Rattle.dw_meaning.specs.FileMeanings.{file_body, file_data, new_body}
use Rattle.dw_meaning.specs.TextLineCells.{all_cells_by_texts}
use Rattle.dw_meaning.specs.RelocatedBodies.{cells_by, cells_of_number, unit_cells, new_cells, new_contents, old_contents}
use Rattle.dw_meaning.proofs.AlikeCellLaws.{alike-length, roles-alike, units-alike}
use Rattle.dw_meaning.proofs.BuildIdLaws.{first_below-found}
use Rattle.dw_meaning.proofs.CellKeptLaws.{SectionCells, cells-behind, cells-lines, cells-names, cells-offsets, located-cells, macros-cells, macros-pass, new_tables, units-cells}
use Rattle.dw_meaning.proofs.DataKeptLaws.{edited_readings, edited_sections}
use Rattle.dw_meaning.proofs.EditStayLaws.{AllFit, AllStay}
use Rattle.dw_meaning.proofs.FileBackLaws.{AllAt, Back, SectionBack, is_read_name, section_name-back, plain-holder, sections-back, tabulate-at}
use Rattle.dw_meaning.proofs.FileKeptLaws.{CanMap, IsApart, all-read, around_file, body-pieces, changes_file, differ, file-back, holder-body, line-bytes, line-place, lines-apart, lines-number, macro-apart, name-apart, named-apart, names-none, names-number, names-place, new_line_tables, new_macros, new_names, new_offsets, offsets-none, offsets-number, offsets-place, read-body, read-section, section_0, str-place, tables-place, unread-kept}
use Rattle.dw_meaning.proofs.TextCellLaws.{text_tables-bytes}
use Rattle.dw_meaning.proofs.LineRecordLaws.{lines-can}
use Rattle.dw_meaning.proofs.LineSectionLaws.{no-tables}
use Rattle.dw_meaning.proofs.MacroEditLaws.{edited_macro_sections}
use Rattle.dw_meaning.proofs.NewCellLaws.{FileOwns, contents-pick, contents-plain, contents-small, contents-stay, macros-own, old-bytes, pieces-bytes, units-own}
use Rattle.dw_meaning.proofs.OutputCellLaws.{HoldsOf, WrittenWith, holds-of, output-cells, output-plain}
use Rattle.dw_meaning.proofs.TableKeptLaws.{FoundAt, TablePlace, drop-at, found-named, lies_at, nowhere, sections-self}
use Rattle.dw_meaning.proofs.TableMoveLaws.{cells-fit, reads-move, section-source}

-- a section that holds texts
abbrev is_texts : Option DebugSection → Bool
is_texts (Some Str) = true
is_texts (Some LineStr) = true
is_texts s = false

-- the new contents of the section of a number
abbrev pub now_in : PathMap → List ℕ → DataReadings → ℕ → List Cell
now_in m b r i = cells_of_number (cells_by (changes_file m b r) (file_data b) (around_file b r) r) (old_contents b i) i

pub new-open : (m : PathMap) (b : List ℕ) (r : DataReadings) (i : ℕ) → new_contents b (new_cells m (file_data b) r) i ≡ now_in m b r i
unfolding new_cells
new-open m b r i = refl

-- its new body is their bytes
pub now-bytes : (m : PathMap) (b : List ℕ) (r : DataReadings) (i : ℕ) → i ≢ ((file_data b).found Str).number → i ≢ ((file_data b).found LineStr).number
    → new_body m b r i ≡ bytes_of (now_in m b r i)
now-bytes m b r i str line =
    body-pieces m b r i str line
    ∙ pieces-bytes ((file_data b).found StrOffsets).number ((file_data b).found Line).number ((file_data b).found Names).number (new_offsets m b r)
    (new_tables (changes_file m b r) (file_data b) (around_file b r) r) (new_names m b r) (new_line_tables m b r) (new_macros m b r) (changes_file m b r) (around_file b r) r.units
    (contents_of b) (old_contents b i) i (old-bytes b i) (sym (text_tables-bytes (changes_file m b r) (line_source (file_data b)) r.lines refl))

-- the sections of a file with their contents
cells-self : (b : List ℕ) (i : ℕ) → i < section_count b → SectionCells b (old_contents b) i (view_section b i) (view_section b i)
unfolding view_section section_cells
cells-self b i lt = record { within = lt; named = refl; name = refl; has_bytes = refl; new = refl }

pub all-self : (b : List ℕ) → AllAt (SectionCells b (old_contents b)) 0 (view_of b).sections (view_of b).sections
unfolding view_of
all-self b = tabulate-at (SectionCells b (old_contents b)) (view_section b) (view_section b) (section_count b) (λ i lt. cells-self b i lt)

behind-self : (b : List ℕ) → AllAt (SectionCells b (old_contents b)) 1 (drop 1 (view_of b).sections) (drop 1 (view_of b).sections)
behind-self b = drop-at (SectionCells b (old_contents b)) (view_of b).sections (view_of b).sections (all-self b)

-- what was read of each is what the file has there
found-there : (b : List ℕ) (s : DebugSection) (i : ℕ) → section_named (view_of b) (name_of s) ≡ Some i → FoundAt b (name_of s) 1 i
unfolding section_named section_after
found-there b s i e =
    found-named b (contents_of b) (name_of s) 1 i (drop 1 (view_of b).sections) (drop 1 (view_of b).sections)
    (drop-at (SectionBack b (contents_of b)) (view_of b).sections (view_of b).sections (sections-self b)) e

-- section 0 has no contents
pub zero-old : (m : PathMap) (b : List ℕ) (r : DataReadings) → CanMap m b r → 0 < section_count b → old_contents b 0 ≡ []
unfolding section_cells
zero-old m b r w some = ap (cells_from (relocations_of (contents_of b) b 0) 0) (section_0 m b r w some)

named-own : (m : PathMap) (b : List ℕ) (r : DataReadings) (s : DebugSection) (i : ℕ) → CanMap m b r → i < section_count b → (cells_located (view_of b) (section_named (view_of b) (name_of s))).number ≡ i
    → (cells_located (view_of b) (section_named (view_of b) (name_of s))).contents ≡ old_contents b i
named-own m b r s i w lt same = by_found (section_named (view_of b) (name_of s)) refl same
  where
    by_found : (o : Option ℕ) → section_named (view_of b) (name_of s) ≡ o → (cells_located (view_of b) o).number ≡ i
        → (cells_located (view_of b) o).contents ≡ old_contents b i
    by_found None e same = sym (zero-old m b r w (omega (arith, same, lt))) ∙ ap (old_contents b) same
    by_found (Some j) e same = view_cells-view_of b j (found-there b s j e).within ∙ ap (old_contents b) same

pub file-owns : (m : PathMap) (b : List ℕ) (r : DataReadings) (i : ℕ) → CanMap m b r → i < section_count b → FileOwns b (file_data b) r i
unfolding debug_data unit_sections macro_sections
file-owns m b r i w lt = record {
  offsets = λ e. w.reads.data_reads.offsets.cells ∙ named-own m b r StrOffsets i w lt e;
  lines = λ e. named-own m b r Line i w lt e;
  names = λ e. w.reads.data_reads.names.cells ∙ named-own m b r Names i w lt e;
  macros = macros-own b (file_data b).base.order 1 (drop 1 (view_of b).sections) r.macros (behind-self b) w.reads.data_reads.macros;
  units = units-own b (file_data b).base 0 1 (drop 1 (view_of b).sections) r.units (behind-self b) w.reads.data_reads.units;
}

-- A section that is read, but for a table of texts: where no relocation begins in it, none does in its new contents,
pub record IsCells (b : List ℕ) (i : ℕ) : Type 0 where
  pub some : 0 < i
  pub within : i < section_count b
  pub read : is_read_name (section_name b i) ≡ true
  pub str : i ≢ ((file_data b).found Str).number
  pub line : i ≢ ((file_data b).found LineStr).number

pub record IsReadAt (b : List ℕ) (i : ℕ) : Type 0 where
  pub within : i < section_count b
  pub read : is_read_name (section_name b i) ≡ true

none-plain : (b : List ℕ) (i : ℕ) → relocation_section b i ≡ None → IsPlain (old_contents b i)
unfolding section_cells relocations_of
none-plain b i none =
    subst IsPlain (sym (ap (λ (o : Option ℕ). cells_from (relocations_by (contents_of b) b o) 0 (contents_of b i)) none ∙ cells_from-none 0 (contents_of b i)))
    (plain_cells-plain (contents_of b i))

-- and what relocates it holds relocations of one that is read
pub holder-is : (b : List ℕ) (i k : ℕ) → i < section_count b → is_read_name (section_name b i) ≡ true → relocation_section b i ≡ Some k → relocates_read b k ≡ true
unfolding relocates_read relocation_section
holder-is b i k lt read is =
    let found = first_below-found (relocates b i) (section_count b) k is in
    let h : HoldsOf b i k = holds-of b i k is in
    rw h.info (rw (found.1, read-section b i lt read) refl)

pub relocatable : (b : List ℕ) (i k : ℕ) → relocation_section b i ≡ Some k → e_type b ≡ ET_REL
unfolding relocation_section relocates
relocatable b i k is =
    let found = first_below-found (relocates b i) (section_count b) k is in
    let first = and_parts (e_type b == ET_REL && is_relocation_kind (nth_section b k)) ((nth_section b k).info == i) found.1 in
    eqb-true (e_type b) ET_REL (and_parts (e_type b == ET_REL) (is_relocation_kind (nth_section b k)) first.0).0

-- symbols keep their bytes
pub written-with : (m : PathMap) (b : List ℕ) (r : DataReadings) (out : List ℕ) → CanMap m b r → ReadsBack b (file_body m b r) out → e_type b ≡ ET_REL
    → WrittenWith b (file_body m b r) out
written-with m b r out w back rel = record {
  back = back;
  symbols = λ j lt kind. kept j lt (ap (λ (k : ℕ). (k == SHT_REL || k == SHT_RELA) || k == SHT_SYMTAB || k == SHT_SYMTAB_SHNDX) kind)
      (ap (λ (k : ℕ). k == SHT_REL || k == SHT_RELA) kind);
  extended = λ j lt kind. kept j lt (ap (λ (k : ℕ). (k == SHT_REL || k == SHT_RELA) || k == SHT_SYMTAB || k == SHT_SYMTAB_SHNDX) kind)
      (ap (λ (k : ℕ). k == SHT_REL || k == SHT_RELA) kind);
}
  where
    kept : (j : ℕ) → j < section_count b → is_own_kind (nth_section b j) ≡ true → is_relocation_kind (nth_section b j) ≡ false → file_body m b r j ≡ contents_of b j
    kept j lt own none = by_read (is_read_name (section_name b j)) refl
      where
        by_read : (t : Bool) → is_read_name (section_name b j) ≡ t → file_body m b r j ≡ contents_of b j
        by_read true read =
            let no : true ≡ false = sym own ∙ (w.reads.relocations.sections.all j (read-section b j lt read)).plain_kind rel in
            absurd cc
        by_read false unread = unread-kept m b r j w lt unread (plain-holder b j none)

-- the records of its relocations can be written
tables-of : (m : PathMap) (b : List ℕ) (r : DataReadings) (i k : ℕ) → CanMap m b r → IsReadAt b i → relocation_section b i ≡ Some k → TableReads (contents_of b) b i k
tables-of m b r i k w h is = (w.reads.relocations.sections.all i (read-section b i h.within h.read)).tables k is

table-small : (b : List ℕ) (k : ℕ) → ((n : ℕ) → slice_index b n < 256) → (n : ℕ) → slice_index (relocation_source (contents_of b) b k).table n < 256
unfolding relocation_source
table-small b k small n = contents-small b k small n

old-fits : (m : PathMap) (b : List ℕ) (r : DataReadings) (i k : ℕ) → CanMap m b r → relocation_section b i ≡ Some k → AllFit (relocation_source (contents_of b) b k) (old_contents b i)
old-fits m b r i k w is =
    subst (AllFit (relocation_source (contents_of b) b k)) (sym (section-source (contents_of b) b i k is))
    (cells-fit (relocation_source (contents_of b) b k) 0 (contents_of b i) (table-small b k w.bytes))

lines-named : (b : List ℕ) (i : ℕ) → 0 < i → i ≡ ((file_data b).found Line).number → section_name b i ≡ name_of Line
lines-named b i some same = by_place (tables-place b) (same ∙ lines-number b)
  where
    by_place : TablePlace b (name_of Line) (located (view_of b) Line) → i ≡ (located (view_of b) Line).number → section_name b i ≡ name_of Line
    by_place (nowhere zero none) same = absurd (omega (arith, zero, same, some))
    by_place (lies_at there within named bytes) same = ap (section_name b) same ∙ named

lines-offsets : (b : List ℕ) (i : ℕ) → 0 < i → i ≡ ((file_data b).found Line).number → i ≢ ((file_data b).found StrOffsets).number
lines-offsets b i some same other =
    name-apart b (name_of StrOffsets) (located (view_of b) StrOffsets) i (offsets-place b) some (λ e. clash (differ Line StrOffsets (sym (lines-named b i some same) ∙ e)))
    (other ∙ offsets-number b)
  where
    clash : Some Line ≡ Some StrOffsets → ⊥
    clash e = cc

-- nothing is in section 0, before and after
empty : (p : List Cell) → length p ≡ 0 → p ≡ []
empty [] e = refl
empty (c ∷ cs) e = absurd (omega (arith, e))

roles-none : {S : Type 0} (role : S → Role) (c : TableChanges) (around : Around) (xs : List (Piece S)) → joined xs ≡ [] → joined (edited_with role c around xs) ≡ []
roles-none role c around xs none =
    empty (joined (edited_with role c around xs)) (alike-length (joined xs) (joined (edited_with role c around xs)) (roles-alike role c around xs) ∙ ap length none)

units-none : (c : TableChanges) (around : Around) (xs : List (Piece UnitState)) → joined xs ≡ [] → joined (edited_all c around xs) ≡ []
units-none c around xs none = empty (joined (edited_all c around xs)) (alike-length (joined xs) (joined (edited_all c around xs)) (units-alike c around xs) ∙ ap length none)

pub zero-now : (m : PathMap) (b : List ℕ) (r : DataReadings) → CanMap m b r → 0 < section_count b → now_in m b r 0 ≡ []
zero-now m b r w lt =
    let none : old_contents b 0 ≡ [] = zero-old m b r w lt in
    contents-pick (λ (p : List Cell). p ≡ []) b (changes_file m b r) (file_data b) (around_file b r) r 0 (file-owns m b r 0 w lt)
    (λ own. roles-none (slot_role (path_slots (around_file b r))) (changes_file m b r) (around_file b r) r.offsets (own ∙ none))
    (λ number own. lines-none (own ∙ none))
    (λ own. roles-none name_role (changes_file m b r) (around_file b r) r.names (own ∙ none))
    (λ xs own. roles-none macro_role (changes_file m b r) (around_file b r) xs (own ∙ none))
    (λ xs own. units-none (changes_file m b r) (around_file b r) xs (own ∙ none)) none
  where
    lines-none : ((file_data b).found Line).contents ≡ [] → new_tables (changes_file m b r) (file_data b) (around_file b r) r ≡ []
    lines-none none =
        ap (λ (rs : List LineReading). all_cells_by_texts (line_source (file_data b)) m (text_place m ((changes_file m b r).new Str) ((changes_file m b r).new LineStr) (line_source (file_data b))) rs)
        (no-tables (line_source (file_data b)) r.lines (ap bytes_of none) w.reads.data_reads.lines)

zero-can : (m : PathMap) (b : List ℕ) (r : DataReadings) (k : ℕ) → CanMap m b r → IsReadAt b 0 → relocation_section b 0 ≡ Some k
    → CanMove (relocation_source (contents_of b) b k) (old_contents b 0) (now_in m b r 0)
zero-can m b r k w h is =
    reads-move (contents_of b) b 0 k (now_in m b r 0) (tables-of m b r 0 k w h is) is (table-small b k w.bytes)
    (subst (λ (p : List Cell). AllStay (relocation_source (contents_of b) b k) p (now_in m b r 0)) (sym (zero-old m b r w h.within))
    (subst (λ (p : List Cell). AllStay (relocation_source (contents_of b) b k) [] p) (sym (zero-now m b r w h.within)) tt))

pub now-can : (m : PathMap) (b : List ℕ) (r : DataReadings) (i k : ℕ) → CanMap m b r → IsReadAt b i → length (new_line_tables m b r) ≤ 2 ^ 32 → relocation_section b i ≡ Some k
    → CanMove (relocation_source (contents_of b) b k) (old_contents b i) (now_in m b r i)
now-can m b r i k w h small is = elim (cases_lt 0 i) [
  | inl some ↦ by_lines some (cases_eq i ((file_data b).found Line).number)
  | inr none ↦ at_zero i k (omega (arith, none)) h is
]
  where
    at_zero : (i k : ℕ) → i ≡ 0 → IsReadAt b i → relocation_section b i ≡ Some k → CanMove (relocation_source (contents_of b) b k) (old_contents b i) (now_in m b r i)
    at_zero i k zero h is =
        subst (λ (n : ℕ). CanMove (relocation_source (contents_of b) b k) (old_contents b n) (now_in m b r n)) (sym zero)
        (zero-can m b r k w (subst (IsReadAt b) zero h) (ap (relocation_section b) (sym zero) ∙ is))

    by_lines : 0 < i → (i ≡ ((file_data b).found Line).number) ⊎ (i ≡ ((file_data b).found Line).number → ⊥)
        → CanMove (relocation_source (contents_of b) b k) (old_contents b i) (now_in m b r i)
    by_lines some (inl same) =
        subst (CanMove (relocation_source (contents_of b) b k) (old_contents b i))
        (sym (cells-lines (changes_file m b r) (file_data b) (around_file b r) r (old_contents b i) i (sym same) (lines-offsets b i some same)))
        (lines-can (contents_of b) b i k (changes_file m b r) (file_data b) (moving_sections (view_of b)) r.lines
        (record {
          reads = tables-of m b r i k w h is;
          section = is;
          bytes = table-small b k w.bytes;
          cells = sym ((file-owns m b r i w h.within).lines (sym same));
          left = w.reads.relocations.on_data.left;
          apart = lines-apart m b r w;
          tables = w.reads.data_reads.lines;
          small = small;
        }))
    by_lines some (inr other) =
        reads-move (contents_of b) b i k (now_in m b r i) (tables-of m b r i k w h is) is (table-small b k w.bytes)
        (contents-stay (relocation_source (contents_of b) b k) b (changes_file m b r) (file_data b) (around_file b r) r i (file-owns m b r i w h.within)
        (old-fits m b r i k w is) other)

-- so what is in the section of the output are the new contents
pub read-cells : (m : PathMap) (b : List ℕ) (r : DataReadings) (out : List ℕ) (i : ℕ) → CanMap m b r → ReadsBack b (file_body m b r) out → length (new_line_tables m b r) ≤ 2 ^ 32
    → IsCells b i → section_cells (contents_of out) out i ≡ now_in m b r i
read-cells m b r out i w back small h = by_holder (relocation_section b i) refl
  where
    bytes : file_body m b r i ≡ bytes_of (new_contents b (new_cells m (file_data b) r) i)
    bytes = read-body m b r i w h.within h.read ∙ now-bytes m b r i h.str h.line ∙ ap bytes_of (sym (new-open m b r i))

    by_holder : (o : Option ℕ) → relocation_section b i ≡ o → section_cells (contents_of out) out i ≡ now_in m b r i
    by_holder None e =
        output-plain b (file_body m b r) out (new_cells m (file_data b) r) i back h.within e bytes
        (subst IsPlain (sym (new-open m b r i))
        (contents-plain b (changes_file m b r) (file_data b) (around_file b r) r i (file-owns m b r i w h.within) (none-plain b i e)))
        ∙ new-open m b r i
    by_holder (Some k) e =
        output-cells b (file_body m b r) out (new_cells m (file_data b) r) i k (written-with m b r out w back (relocatable b i k e)) h.within e
        (holder-body m b r k (holder-is b i k h.within h.read e)) bytes
        (subst (CanMove (relocation_source (contents_of b) b k) (old_contents b i)) (sym (new-open m b r i)) (now-can m b r i k w (record { within = h.within; read = h.read }) small e))
        ∙ new-open m b r i

-- The sections of the output as they are found.
section-cells : (b : List ℕ) (bodies : ℕ → List ℕ) (out : List ℕ) (i : ℕ) → Back b bodies out → i < section_count b
    → SectionCells b (section_cells (contents_of out) out) i (view_section b i) (view_section out i)
unfolding view_section section_cells
section-cells b bodies out i w lt = record {
  within = lt;
  named = refl;
  name = section_name-back b bodies out i w lt;
  has_bytes = rw (w.back.heads i lt).kind refl;
  new = refl;
}

cells-back : (b : List ℕ) (bodies : ℕ → List ℕ) (out : List ℕ) → Back b bodies out
    → AllAt (SectionCells b (section_cells (contents_of out) out)) 0 (view_of b).sections (view_of out).sections
unfolding view_of
cells-back b bodies out w =
    subst (λ (n : ℕ). AllAt (SectionCells b (section_cells (contents_of out) out)) 0 (tabulate (view_section b) (section_count b)) (tabulate (view_section out) n))
    (sym w.back.count)
    (tabulate-at (SectionCells b (section_cells (contents_of out) out)) (view_section b) (view_section out) (section_count b) (λ i lt. section-cells b bodies out i w lt))

behind-cells : (b : List ℕ) (bodies : ℕ → List ℕ) (out : List ℕ) → Back b bodies out
    → AllAt (SectionCells b (section_cells (contents_of out) out)) 1 (drop 1 (view_of b).sections) (drop 1 (view_of out).sections)
behind-cells b bodies out w =
    drop-at (SectionCells b (section_cells (contents_of out) out)) (view_of b).sections (view_of out).sections (cells-back b bodies out w)

-- a section of a name that is read, but for the tables of texts
str-no : (s : DebugSection) → is_texts (Some s) ≡ false → Some s ≡ Some Str → ⊥
str-no s none e = let no : is_texts (Some s) ≡ is_texts (Some Str) = ap is_texts e in cc

line-no : (s : DebugSection) → is_texts (Some s) ≡ false → Some s ≡ Some LineStr → ⊥
line-no s none e = let no : is_texts (Some s) ≡ is_texts (Some LineStr) = ap is_texts e in cc

is-cells : (b : List ℕ) (i : ℕ) (s : DebugSection) → 0 < i → i < section_count b → debug_section (section_name b i) ≡ Some s → is_texts (Some s) ≡ false → IsCells b i
is-cells b i s some lt is none = record {
  some = some;
  within = lt;
  read = ap is_read is ∙ all-read s;
  str = name-apart b (name_of Str) ((file_data b).found Str) i (str-place b) some
      (λ e. str-no s none (sym is ∙ ap debug_section e ∙ debug_section-name Str));
  line = name-apart b (name_of LineStr) ((file_data b).found LineStr) i (line-place b) some
      (λ e. line-no s none (sym is ∙ ap debug_section e ∙ debug_section-name LineStr));
}

-- units
units-section : (o : Option DebugSection) (kind : SectionKind) → unit_kind o ≡ Some kind → record { section : DebugSection; is : o ≡ Some section; none : is_texts (Some section) ≡ false }
units-section None kind e = absurd cc
units-section (Some Info) kind e = record { section = Info; is = refl; none = refl }
units-section (Some Types) kind e = record { section = Types; is = refl; none = refl }
units-section (Some Abbrev) kind e = absurd cc
units-section (Some Str) kind e = absurd cc
units-section (Some LineStr) kind e = absurd cc
units-section (Some StrOffsets) kind e = absurd cc
units-section (Some Line) kind e = absurd cc
units-section (Some Macro) kind e = absurd cc
units-section (Some Names) kind e = absurd cc

macros-section : (o : Option DebugSection) → is_macro o ≡ true → o ≡ Some Macro
macros-section None e = absurd cc
macros-section (Some Info) e = absurd cc
macros-section (Some Types) e = absurd cc
macros-section (Some Abbrev) e = absurd cc
macros-section (Some Str) e = absurd cc
macros-section (Some LineStr) e = absurd cc
macros-section (Some StrOffsets) e = absurd cc
macros-section (Some Line) e = absurd cc
macros-section (Some Macro) e = refl
macros-section (Some Names) e = absurd cc

-- a section of units isn't one of a table
units-apart : (b : List ℕ) (i : ℕ) (kind : SectionKind) (s : DebugSection) → unit_kind (Some s) ≡ None → unit_kind (debug_section (section_name b i)) ≡ Some kind
    → section_name b i ≢ name_of s
units-apart b i kind s none some same =
    let other : unit_kind (debug_section (section_name b i)) ≡ None =
    ap (λ (n : List ℕ). unit_kind (debug_section n)) same ∙ ap unit_kind (debug_section-name s) ∙ none in
    clash (sym some ∙ other)
  where
    clash : Some kind ≡ None → ⊥
    clash e = cc

-- nor one of macro units
units-no-macros : (b : List ℕ) (i : ℕ) (kind : SectionKind) → unit_kind (debug_section (section_name b i)) ≡ Some kind → is_macro (debug_section (section_name b i)) ≡ false
units-no-macros b i kind some = by_section (debug_section (section_name b i)) some
  where
    by_section : (o : Option DebugSection) → unit_kind o ≡ Some kind → is_macro o ≡ false
    by_section None e = absurd cc
    by_section (Some Info) e = refl
    by_section (Some Types) e = refl
    by_section (Some Abbrev) e = refl
    by_section (Some Str) e = refl
    by_section (Some LineStr) e = refl
    by_section (Some StrOffsets) e = refl
    by_section (Some Line) e = refl
    by_section (Some Macro) e = absurd cc
    by_section (Some Names) e = refl

-- its unit sections are those of the file, edited
apart-units : (b : List ℕ) (i : ℕ) (kind : SectionKind) → 0 < i → unit_kind (debug_section (section_name b i)) ≡ Some kind → IsApart b i
apart-units b i kind some is =
    named-apart b i some (units-apart b i kind Str refl is) (units-apart b i kind LineStr refl is) (units-apart b i kind StrOffsets refl is) (units-apart b i kind Line refl is)
    (units-apart b i kind Names refl is)

now-units : (m : PathMap) (b : List ℕ) (r : DataReadings) (i : ℕ) (kind : SectionKind) → CanMap m b r → 0 < i → unit_kind (debug_section (section_name b i)) ≡ Some kind
    → now_in m b r i ≡ cells_of_number (unit_cells (changes_file m b r) (around_file b r) r.units) (old_contents b i) i
unfolding debug_data macro_sections
now-units m b r i kind w some is =
    let apart = apart-units b i kind some is in
    cells-behind (changes_file m b r) (file_data b) (around_file b r) r (old_contents b i) i apart.offsets apart.lines apart.names
    ∙ macros-pass b (old_contents b) (file_data b).base.order (changes_file m b r) (around_file b r) (unit_cells (changes_file m b r) (around_file b r) r.units) (old_contents b i) i
    (units-no-macros b i kind is) 1 (drop 1 (view_of b).sections) (drop 1 (view_of b).sections) r.macros (behind-self b) w.reads.data_reads.macros

pub units-back : (m : PathMap) (b : List ℕ) (r : DataReadings) (out : List ℕ) → CanMap m b r → ReadsBack b (file_body m b r) out → length (new_line_tables m b r) ≤ 2 ^ 32
    → (file_data out).found Info ≡ edited_sections ((file_data b).found Info) (edited_readings (changes_file m b r) (around_file b r) r.units)
unfolding debug_data unit_sections
units-back m b r out w back small =
    units-cells b (section_cells (contents_of out) out) (old_contents b) (file_data b).base (changes_file m b r) (around_file b r) 0 1 (drop 1 (view_of b).sections)
    (drop 1 (view_of out).sections) r.units (behind-cells b (file_body m b r) out (file-back m b r out w back)) w.reads.data_reads.units
    (λ i kind le lt is.
    let u = units-section (debug_section (section_name b i)) kind is in
    read-cells m b r out i w back small (is-cells b i u.section (omega (arith, le)) lt u.is u.none) ∙ now-units m b r i kind w (omega (arith, le)) is)

-- so are those of macro units
pub macros-back : (m : PathMap) (b : List ℕ) (r : DataReadings) (out : List ℕ) → CanMap m b r → ReadsBack b (file_body m b r) out → length (new_line_tables m b r) ≤ 2 ^ 32
    → (file_data out).found Macro ≡ edited_macro_sections ((file_data b).found Macro) (new_macros m b r)
unfolding debug_data macro_sections
macros-back m b r out w back small =
    macros-cells b (section_cells (contents_of out) out) (old_contents b) (file_data b).base.order (changes_file m b r) (around_file b r)
    (unit_cells (changes_file m b r) (around_file b r) r.units) 1 (drop 1 (view_of b).sections) (drop 1 (view_of out).sections) r.macros
    (behind-cells b (file_body m b r) out (file-back m b r out w back)) w.reads.data_reads.macros
    (λ i le lt is.
    let apart = named-apart b i (omega (arith, le)) (macro-apart b i Str refl is) (macro-apart b i LineStr refl is) (macro-apart b i StrOffsets refl is)
    (macro-apart b i Line refl is) (macro-apart b i Names refl is) in
    read-cells m b r out i w back small (is-cells b i Macro (omega (arith, le)) lt (macros-section (debug_section (section_name b i)) is) refl)
    ∙ cells-behind (changes_file m b r) (file_data b) (around_file b r) r (old_contents b i) i apart.offsets apart.lines apart.names)

-- and each section that is found by its name
named-back : (m : PathMap) (b : List ℕ) (r : DataReadings) (out : List ℕ) (s : DebugSection) (new : List Cell) → CanMap m b r → ReadsBack b (file_body m b r) out
    → length (new_line_tables m b r) ≤ 2 ^ 32 → is_texts (Some s) ≡ false
    → ((i : ℕ) → 0 < i → (cells_located (view_of b) (section_named (view_of b) (name_of s))).number ≡ i → now_in m b r i ≡ new) → ((located (view_of b) s).bytes ≡ [] → new ≡ [])
    → cells_located (view_of out) (section_named (view_of out) (name_of s))
    ≡ record { number = (cells_located (view_of b) (section_named (view_of b) (name_of s))).number; contents = new }
unfolding located
named-back m b r out s new w back small texts there gone =
    located-cells b (file_body m b r) out (name_of s) new (sections-back b (file_body m b r) out (file-back m b r out w back))
    (λ i e.
    let f : FoundAt b (name_of s) 1 i = found-there b s i e in
    let from = f.from in
    let within = f.within in
    let count = back.count in
    view_cells-view_of out i (omega (arith, within, count))
    ∙ read-cells m b r out i w back small (is-cells b i s (omega (arith, from)) f.within (ap debug_section f.named ∙ debug_section-name s) texts)
    ∙ there i (omega (arith, from)) (ap (λ (o : Option ℕ). (cells_located (view_of b) o).number) e))
    (λ e. gone (ap (λ (o : Option ℕ). (located_at (view_of b) o).bytes) e))

pub offsets-back : (m : PathMap) (b : List ℕ) (r : DataReadings) (out : List ℕ) → CanMap m b r → ReadsBack b (file_body m b r) out → length (new_line_tables m b r) ≤ 2 ^ 32
    → (file_data out).found StrOffsets ≡ record { number = ((file_data b).found StrOffsets).number; contents = new_offsets m b r }
unfolding debug_data
offsets-back m b r out w back small =
    named-back m b r out StrOffsets (new_offsets m b r) w back small refl
    (λ i some same. cells-offsets (changes_file m b r) (file_data b) (around_file b r) r (old_contents b i) i same) (offsets-none m b r w)

pub tables-back : (m : PathMap) (b : List ℕ) (r : DataReadings) (out : List ℕ) → CanMap m b r → ReadsBack b (file_body m b r) out → length (new_line_tables m b r) ≤ 2 ^ 32
    → (file_data out).found Line ≡ record { number = ((file_data b).found Line).number; contents = new_tables (changes_file m b r) (file_data b) (around_file b r) r }
unfolding debug_data
tables-back m b r out w back small =
    named-back m b r out Line (new_tables (changes_file m b r) (file_data b) (around_file b r) r) w back small refl
    (λ i some same.
    cells-lines (changes_file m b r) (file_data b) (around_file b r) r (old_contents b i) i same (lines-offsets b i some (sym same)))
    (λ none.
    ap (λ (rs : List LineReading). all_cells_by_texts (line_source (file_data b)) m (text_place m ((changes_file m b r).new Str) ((changes_file m b r).new LineStr) (line_source (file_data b))) rs)
    (no-tables (line_source (file_data b)) r.lines (line-bytes b ∙ none) w.reads.data_reads.lines))

names-named : (b : List ℕ) (i : ℕ) → 0 < i → i ≡ ((file_data b).found Names).number → section_name b i ≡ name_of Names
names-named b i some same = by_place (names-place b) (same ∙ names-number b)
  where
    by_place : TablePlace b (name_of Names) (located (view_of b) Names) → i ≡ (located (view_of b) Names).number → section_name b i ≡ name_of Names
    by_place (nowhere zero none) same = absurd (omega (arith, zero, same, some))
    by_place (lies_at there within named bytes) same = ap (section_name b) same ∙ named

names-others : (b : List ℕ) (i : ℕ) (s : DebugSection) (z : Located) (n : ℕ) → 0 < i → i ≡ ((file_data b).found Names).number → (Some Names ≡ Some s → ⊥) → TablePlace b (name_of s) z
    → n ≡ z.number → i ≢ n
names-others b i s z n some same clash place number other =
    name-apart b (name_of s) z i place some (λ e. clash (differ Names s (sym (names-named b i some same) ∙ e))) (other ∙ number)

pub names-section : (m : PathMap) (b : List ℕ) (r : DataReadings) (out : List ℕ) → CanMap m b r → ReadsBack b (file_body m b r) out → length (new_line_tables m b r) ≤ 2 ^ 32
    → (file_data out).found Names ≡ record { number = ((file_data b).found Names).number; contents = new_names m b r }
unfolding debug_data
names-section m b r out w back small =
    named-back m b r out Names (new_names m b r) w back small refl
    (λ i some same.
    cells-names (changes_file m b r) (file_data b) (around_file b r) r (old_contents b i) i same
    (names-others b i StrOffsets (located (view_of b) StrOffsets) ((file_data b).found StrOffsets).number some (sym same) offsets-no (offsets-place b) (offsets-number b))
    (names-others b i Line (located (view_of b) Line) ((file_data b).found Line).number some (sym same) lines-no (tables-place b) (lines-number b)))
    (names-none m b r w)
  where
    offsets-no : Some Names ≡ Some StrOffsets → ⊥
    offsets-no e = cc

    lines-no : Some Names ≡ Some Line → ⊥
    lines-no e = cc
