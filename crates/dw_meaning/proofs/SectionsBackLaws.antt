-- The relocations of the sections of an output that are read are ones that are handled.
use Rattle.std.proofs.Common.{inl, inr, Bool, true, false, ◌≡◌, ℕ, ◌^◌, ◌<◌, ◌≤◌, ◌==◌, ◌||◌, ◌&&◌, nat_lt, List, length, IsTrue, Option, None, Some, refl, sym, ap, ◌∙◌, subst, arith}
use Rattle.std.specs.Prelude.{is_some}
use Rattle.std.proofs.lemmas.Bool.{and_parts, cases_lt, ltb-true}
use Rattle.dw_base.specs.DebugData.{DataReadings}
use Rattle.dw_base.specs.DebugSections.{debug_section, name_of}
use Rattle.dw_base.specs.Elf.{contents_of, nth_section, section_count, section_name}
use Rattle.dw_base.specs.LayoutReads.{ReadsBack}
use Rattle.dw_base.specs.Paths.{PathMap}
use Rattle.dw_base.specs.RelocationBodies.{relocation_body}
use Rattle.dw_base.specs.RelocationSectionFails.{RelocationSectionsRead, SectionReads, TableReads, holds_texts, is_read_section, lies_in_moving, moves}
use Rattle.dw_base.specs.SectionRelocations.{PlacedRelocation, RelocationSource, is_symbol_table, relocation_section, relocation_source}
use Rattle.dw_base.specs.declared.debug_sections.DebugSection.{DebugSection}
use Rattle.dw_base.specs.declared.debug_sections.DebugSection.TheVariants.{Info, Types, Abbrev, Str, LineStr, StrOffsets, Line, Macro, Names}
use Rattle.dw_base.specs.declared.elf_numbers.TheConstants.{SHT_REL, SHT_RELA, SHT_SYMTAB, SHT_SYMTAB_SHNDX}
use Rattle.dw_base.proofs.DebugSectionLaws.{debug_section-name}
use Rattle.dw_base.proofs.RelocationTieLaws.{with_table}
use Rattle.dw_base.proofs.UnitEditLaws.{length-bytes_of}
use Rattle.dw_meaning.specs.FileMeanings.{file_body, file_data}
use Rattle.dw_meaning.specs.RelocatedBodies.{new_cells, new_contents, old_contents, relocated_body}
use Rattle.dw_meaning.proofs.CellBackLaws.{IsReadAt, holder-is, new-open, now-bytes, now-can, now_in, relocatable, written-with, zero-now}
use Rattle.dw_meaning.proofs.FileBackLaws.{Back, relocates-back, section_name-back}
use Rattle.dw_meaning.proofs.FileKeptLaws.{CanMap, file-back, holder-body, line-place, name-apart, new_line_tables, read-body, read-section, read-some, str-place}
use Rattle.dw_meaning.proofs.OutputCellLaws.{HoldsOf, holds-of, relocation_section-back, source-back, symbol_table-back}
use Rattle.dw_meaning.proofs.RecordBackLaws.{NewTable, new-table}

-- symbols lie where they did
lies-back : (b : List ℕ) (bodies : ℕ → List ℕ) (out : List ℕ) (t : Option (ℕ × ℕ)) → Back b bodies out → lies_in_moving out t ≡ lies_in_moving b t
lies-back b bodies out None w = refl
lies-back b bodies out (Some t) w =
    ap (λ (n : ℕ). nat_lt t.0 n && moves (debug_section (section_name out t.0))) w.back.count ∙ by_test (nat_lt t.0 (section_count b)) refl
  where
    by_test : (x : Bool) → nat_lt t.0 (section_count b) ≡ x → (x && moves (debug_section (section_name out t.0))) ≡ (x && moves (debug_section (section_name b t.0)))
    by_test false e = refl
    by_test true e = ap (λ (n : List ℕ). moves (debug_section n)) (section_name-back b bodies out t.0 w (ltb-true t.0 (section_count b) e))

abbrev is_abbrevs : Option DebugSection → Bool
is_abbrevs (Some Abbrev) = true
is_abbrevs s = false

abbrevs-is : (o : Option DebugSection) → is_abbrevs o ≡ true → o ≡ Some Abbrev
abbrevs-is None e = absurd cc
abbrevs-is (Some Info) e = absurd cc
abbrevs-is (Some Types) e = absurd cc
abbrevs-is (Some Abbrev) e = refl
abbrevs-is (Some Str) e = absurd cc
abbrevs-is (Some LineStr) e = absurd cc
abbrevs-is (Some StrOffsets) e = absurd cc
abbrevs-is (Some Line) e = absurd cc
abbrevs-is (Some Macro) e = absurd cc
abbrevs-is (Some Names) e = absurd cc

-- what the relocations of a section of the output are read from
source-now : (m : PathMap) (b : List ℕ) (r : DataReadings) (out : List ℕ) (i k : ℕ) → CanMap m b r → ReadsBack b (file_body m b r) out → IsReadAt b i → relocation_section b i ≡ Some k
    → relocation_source (contents_of out) out k
    ≡ with_table (relocation_source (contents_of b) b k) (relocation_body (relocation_source (contents_of b) b k) (old_contents b i) (now_in m b r i))
unfolding relocated_body
source-now m b r out i k w back h is =
    let held : HoldsOf b i k = holds-of b i k is in
    source-back b (file_body m b r) out k (written-with m b r out w back (relocatable b i k is)) held.there
    ∙ ap (with_table (relocation_source (contents_of b) b k))
    (back.contents k held.there ∙ holder-body m b r k (holder-is b i k h.within h.read is)
    ∙ ap (λ (j : ℕ). relocation_body (relocation_source (contents_of b) b k) (old_contents b j) (new_contents b (new_cells m (file_data b) r) j)) held.info
    ∙ ap (relocation_body (relocation_source (contents_of b) b k) (old_contents b i)) (new-open m b r i))

-- the contents of one that holds no texts are as long as its new ones
texts-str : (o : Option DebugSection) → holds_texts o ≡ false → o ≡ Some Str → ⊥
texts-str o none e = let no : holds_texts (Some Str) ≡ false = ap holds_texts (sym e) ∙ none in absurd cc

texts-line : (o : Option DebugSection) → holds_texts o ≡ false → o ≡ Some LineStr → ⊥
texts-line o none e = let no : holds_texts (Some LineStr) ≡ false = ap holds_texts (sym e) ∙ none in absurd cc

now-length : (m : PathMap) (b : List ℕ) (r : DataReadings) (out : List ℕ) (i : ℕ) → CanMap m b r → ReadsBack b (file_body m b r) out → IsReadAt b i → 0 < i
    → holds_texts (debug_section (section_name b i)) ≡ false → length (contents_of out i) ≡ length (now_in m b r i)
now-length m b r out i w back h some none =
    ap length
    (back.contents i h.within ∙ read-body m b r i w h.within h.read
    ∙ now-bytes m b r i
    (name-apart b (name_of Str) ((file_data b).found Str) i (str-place b) some
    (λ e. texts-str (debug_section (section_name b i)) none (ap debug_section e ∙ debug_section-name Str)))
    (name-apart b (name_of LineStr) ((file_data b).found LineStr) i (line-place b) some
    (λ e. texts-line (debug_section (section_name b i)) none (ap debug_section e ∙ debug_section-name LineStr))))
    ∙ length-bytes_of (now_in m b r i)

-- the table of one
table-back : (m : PathMap) (b : List ℕ) (r : DataReadings) (out : List ℕ) (i k : ℕ) → CanMap m b r → ReadsBack b (file_body m b r) out → length (new_line_tables m b r) ≤ 2 ^ 32
    → IsReadAt b i → relocation_section b i ≡ Some k → TableReads (contents_of out) out i k
table-back m b r out i k w back small h is =
    let f : Back b (file_body m b r) out = file-back m b r out w back in
    let held : HoldsOf b i k = holds-of b i k is in
    let old : TableReads (contents_of b) b i k = (w.reads.relocations.sections.all i (read-section b i h.within h.read)).tables k is in
    let name : section_name out i ≡ section_name b i = section_name-back b (file_body m b r) out i f h.within in
    let new : NewTable (holds_texts (debug_section (section_name b i))) (is_abbrevs (debug_section (section_name b i))) (lies_in_moving b)
    (with_table (relocation_source (contents_of b) b k) (relocation_body (relocation_source (contents_of b) b k) (old_contents b i) (now_in m b r i))) (length (now_in m b r i)) =
    new-table (holds_texts (debug_section (section_name b i))) (is_abbrevs (debug_section (section_name b i))) (lies_in_moving b) (relocation_source (contents_of b) b k)
    (old_contents b i) (now_in m b r i) (now-can m b r i k w h small is) old.no_texts (λ x among e. old.abbrevs x among (abbrevs-is (debug_section (section_name b i)) e)) in
    by_source (relocation_source (contents_of out) out k) (source-now m b r out i k w back h is) refl f held old name new
  where
    by_source : (g : RelocationSource)
        → g ≡ with_table (relocation_source (contents_of b) b k) (relocation_body (relocation_source (contents_of b) b k) (old_contents b i) (now_in m b r i))
        → relocation_source (contents_of out) out k ≡ g → Back b (file_body m b r) out → HoldsOf b i k → TableReads (contents_of b) b i k → section_name out i ≡ section_name b i
        → NewTable (holds_texts (debug_section (section_name b i))) (is_abbrevs (debug_section (section_name b i))) (lies_in_moving b)
        (with_table (relocation_source (contents_of b) b k) (relocation_body (relocation_source (contents_of b) b k) (old_contents b i) (now_in m b r i))) (length (now_in m b r i))
        → TableReads (contents_of out) out i k
    by_source g same own f held old name new =
        let t : NewTable (holds_texts (debug_section (section_name b i))) (is_abbrevs (debug_section (section_name b i))) (lies_in_moving b) (relocation_source (contents_of out) out k)
        (length (now_in m b r i)) =
        subst (λ (x : RelocationSource). NewTable (holds_texts (debug_section (section_name b i))) (is_abbrevs (debug_section (section_name b i))) (lies_in_moving b) x (length (now_in m b r i)))
        (sym (own ∙ same)) new in
        record {
          symbols = ap (is_symbol_table out) (f.back.heads k held.there).link ∙ symbol_table-back b (file_body m b r) out (nth_section b k).link (written-with m b r out w back (relocatable b i k is))
              ∙ old.symbols;
          within = λ x among. by_texts x (holds_texts (debug_section (section_name b i))) refl (t.no_texts x among) (t.within x among);
          apart = t.apart;
          no_texts = λ x among. ap (λ (n : List ℕ). holds_texts (debug_section n)) name ∙ t.no_texts x among;
          abbrevs = λ x among e.
              lies-back b (file_body m b r) out x.relocation.target f
              ∙ t.abbrevs x among (ap is_abbrevs (ap debug_section (sym name) ∙ e));
        }
      where
        by_texts : (x : PlacedRelocation) (texts : Bool) → holds_texts (debug_section (section_name b i)) ≡ texts → holds_texts (debug_section (section_name b i)) ≡ false
            → x.place < length (now_in m b r i) → x.place < length (contents_of out i)
        by_texts x texts e none below = elim (cases_lt 0 i) [
          | inl some ↦ let size = now-length m b r out i w back h some none in omega (arith, size, below)
          | inr zero ↦
              let first : i ≡ 0 = omega (arith, zero) in
              let within = h.within in
              let empty : length (now_in m b r i) ≡ 0 = ap (λ (n : ℕ). length (now_in m b r n)) first ∙ ap length (zero-now m b r w (omega (arith, first, within))) in
              absurd (omega (arith, empty, below))
        ]

-- and all of them
pub sections-back : (m : PathMap) (b : List ℕ) (r : DataReadings) (out : List ℕ) → CanMap m b r → ReadsBack b (file_body m b r) out → length (new_line_tables m b r) ≤ 2 ^ 32
    → RelocationSectionsRead (contents_of out) out
sections-back m b r out w back small = record { all = λ i read. one i read }
  where
    f : Back b (file_body m b r) out
    f = file-back m b r out w back

    one : (i : ℕ) → IsTrue (is_read_section out i) → SectionReads (contents_of out) out i
    one i read =
        let parts = and_parts (nat_lt i (section_count out)) (is_some (debug_section (section_name out i))) read in
        let below : i < section_count out = ltb-true i (section_count out) parts.0 in
        let count = back.count in
        let lt : i < section_count b = omega (arith, below, count) in
        let name : section_name out i ≡ section_name b i = section_name-back b (file_body m b r) out i f lt in
        let h : IsReadAt b i = record {
          within = lt;
          read = read-some (debug_section (section_name b i)) ∙ ap (λ (n : List ℕ). is_some (debug_section n)) (sym name) ∙ parts.1;
        } in
        let old : SectionReads (contents_of b) b i = w.reads.relocations.sections.all i (read-section b i lt h.read) in
        record {
          plain_kind = λ rel.
              ap (λ (k : ℕ). (k == SHT_REL || k == SHT_RELA) || k == SHT_SYMTAB || k == SHT_SYMTAB_SHNDX) (back.heads i lt).kind ∙ old.plain_kind (sym back.kind ∙ rel);
          single = λ j k below_k lt_k first second.
              let k_lt : k < section_count b = omega (arith, lt_k, count) in
              let j_lt : j < section_count b = omega (arith, below_k, k_lt) in
              old.single j k below_k k_lt (sym (relocates-back b (file_body m b r) out i j f j_lt) ∙ first) (sym (relocates-back b (file_body m b r) out i k f k_lt) ∙ second);
          tables = λ k is. table-back m b r out i k w back small h (sym (relocation_section-back b (file_body m b r) out i back) ∙ is);
        }
