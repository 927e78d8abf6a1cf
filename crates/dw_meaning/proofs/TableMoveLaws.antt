-- Where the relocations of a section are ones that are handled, their records can be written for what an edit makes of its contents.
use Rattle.std.proofs.Common.{Bool, true, false, ◌≡◌, ℕ, suc, ◌*◌, ◌^◌, ◌<◌, ◌≤◌, if◌then◌else◌, List, [], ◌∷◌, length, get_or, slice_index, Option, None, Some, inl, inr, refl, sym, ap, ◌∙◌, subst, arith}
use Rattle.std.specs.Prelude.{IfSome}
use Rattle.std.specs.Int.RustNames.{FitsSigned}
use Rattle.std.proofs.lemmas.Bool.{cases_lt}
use Rattle.dw_base.specs.Cells.{Cell, Relocation}
use Rattle.dw_base.specs.Elf.{word_size}
use Rattle.dw_base.specs.Numbers.{spelled}
use Rattle.dw_base.specs.RelocChanges.{written}
use Rattle.dw_base.specs.RelocationSectionFails.{TableReads}
use Rattle.dw_base.specs.Relocs.{addend_place, r_addend, reloc_size, word_width}
use Rattle.dw_base.specs.SectionRelocations.{RelocationSource, cells_from, is_none_type, records_in, relocation_in, relocation_of, relocation_section, relocation_source, relocations_among, relocations_by, relocations_in, relocations_of, section_cells}
use Rattle.dw_base.specs.declared.relocations.Reloc.{Reloc}
use Rattle.dw_base.proofs.NumberLaws.{spelled-lt}
use Rattle.dw_base.proofs.RelocationBodyLaws.{CanMove, Counts, nth_record}
use Rattle.dw_base.proofs.RelocationTieLaws.{first-among, get_or-records}
use Rattle.dw_meaning.proofs.EditStayLaws.{AllFit, AllStay, FitsWord, stay-at, stay-length, word-fits}
use Rattle.dw_meaning.proofs.RecordMoveLaws.{RecordsApart, RelocationsStay, stay-move}
use Rattle.dw_meaning.proofs.RecordShiftLaws.{MovesTo, shift-move}
use Rattle.dw_base.proofs.SectionRelocationLaws.{length-cells_from}
use Rattle.dw_base.proofs.TableRelocationLaws.{among-record, together-records}

-- the addend of a record fits its word, where a table is bytes
record-fits : (g : RelocationSource) (k : ℕ) → ((n : ℕ) → slice_index g.table n < 256) → FitsWord g (Some (relocation_of g (nth_record g k)))
unfolding relocation_of
record-fits g k small = (refl, by_rela g.rela)
  where
    by_rela : (rela : Bool)
        → IfSome (written rela (if rela then Some (r_addend g.class g.order g.table (k * reloc_size g.class g.rela)) else None)) (FitsSigned (word_width g.class))
    by_rela false = tt
    by_rela true =
        word-fits g.class (spelled g.order g.table (addend_place g.class (k * reloc_size g.class g.rela)) (word_size g.class))
        (spelled-lt g.order g.table (addend_place g.class (k * reloc_size g.class g.rela)) (word_size g.class) small)

place-fits : (g : RelocationSource) (place : ℕ) → ((n : ℕ) → slice_index g.table n < 256) → FitsWord g (relocation_in (relocations_in g) place)
unfolding relocations_in
place-fits g place small = by_found (relocation_in (relocations_among g (records_in g)) place) refl
  where
    by_found : (o : Option Relocation) → relocation_in (relocations_among g (records_in g)) place ≡ o → FitsWord g o
    by_found None e = tt
    by_found (Some r) e =
        let f = first-among g (records_in g) place r e in
        let own = get_or-records g f.number (nth_record g 0) f.inside in
        subst (λ (q : Relocation). FitsWord g (Some q)) (sym (f.is (nth_record g 0) ∙ ap (relocation_of g) own)) (record-fits g f.number small)

pub cells-fit : (g : RelocationSource) (place : ℕ) (bytes : List ℕ) → ((n : ℕ) → slice_index g.table n < 256) → AllFit g (cells_from (relocations_in g) place bytes)
cells-fit g place [] small = tt
cells-fit g place (b ∷ bs) small = (place-fits g place small, cells-fit g (suc place) bs small)

-- the contents of a section whose relocations a table holds
pub section-source : (contents : ℕ → List ℕ) (b : List ℕ) (i k : ℕ) → relocation_section b i ≡ Some k
    → section_cells contents b i ≡ cells_from (relocations_in (relocation_source contents b k)) 0 (contents i)
unfolding section_cells relocations_of
section-source contents b i k is = ap (λ (o : Option ℕ). cells_from (relocations_by contents b o) 0 (contents i)) is

-- where they are handled, their records lie in the section, each at a place of its own
pub reads-apart : (contents : ℕ → List ℕ) (b : List ℕ) (i k : ℕ) → TableReads contents b i k → RecordsApart (relocation_source contents b k) (contents i)
unfolding relocations_in
reads-apart contents b i k h = record {
  within = λ n lt counts.
      let own = get_or-records (relocation_source contents b k) n (nth_record (relocation_source contents b k) 0) lt in
      let among = among-record (relocation_source contents b k) (records_in (relocation_source contents b k)) n (nth_record (relocation_source contents b k) 0) lt (was n lt counts) in
      let inside = h.within _ among in
      subst (λ (q : Reloc). q.offset < length (contents i)) own inside;
  apart = λ m n ltm ltn cm cn same. elim (cases_lt m n) [
    | inl below ↦ absurd (never m n below ltm ltn cm cn same)
    | inr above ↦ elim (cases_lt n m) [
      | inl below ↦ absurd (never n m below ltn ltm cn cm (sym same))
      | inr other ↦ omega (arith, above, other)
    ]
  ];
}
  where
    was : (n : ℕ) → n < length (records_in (relocation_source contents b k)) → Counts (relocation_source contents b k) n
        → is_none_type (relocation_source contents b k).machine (get_or (records_in (relocation_source contents b k)) n (nth_record (relocation_source contents b k) 0)).kind ≡ false
    was n lt counts =
        ap (λ (q : Reloc). is_none_type (relocation_source contents b k).machine q.kind)
        (get_or-records (relocation_source contents b k) n (nth_record (relocation_source contents b k) 0) lt)
        ∙ counts

    never : (m n : ℕ) → m < n → m < length (records_in (relocation_source contents b k)) → n < length (records_in (relocation_source contents b k))
        → Counts (relocation_source contents b k) m → Counts (relocation_source contents b k) n
        → (nth_record (relocation_source contents b k) m).offset ≡ (nth_record (relocation_source contents b k) n).offset → ⊥
    never m n below ltm ltn cm cn same =
        let first = get_or-records (relocation_source contents b k) m (nth_record (relocation_source contents b k) 0) ltm in
        let second = get_or-records (relocation_source contents b k) n (nth_record (relocation_source contents b k) 0) ltn in
        h.apart _ _ (together-records (relocation_source contents b k) (records_in (relocation_source contents b k)) m n (nth_record (relocation_source contents b k) 0) below ltn
        (was m ltm cm) (was n ltn cn) (ap (λ (q : Reloc). q.offset) first ∙ same ∙ ap (λ (q : Reloc). q.offset) (sym second)))

-- and they stay at their bytes in contents that an edit makes
pub reads-stay : (contents : ℕ → List ℕ) (b : List ℕ) (i k : ℕ) (new : List Cell) → TableReads contents b i k
    → ((n : ℕ) → slice_index (relocation_source contents b k).table n < 256)
    → AllStay (relocation_source contents b k) (cells_from (relocations_in (relocation_source contents b k)) 0 (contents i)) new
    → RelocationsStay (relocation_source contents b k) (contents i) new
reads-stay contents b i k new h small stay =
    let apart = reads-apart contents b i k h in
    record {
      within = apart.within;
      words = λ n lt counts. spelled-lt (relocation_source contents b k).order (relocation_source contents b k).table _ _ small;
      apart = apart.apart;
      size = stay-length (relocation_source contents b k) (cells_from (relocations_in (relocation_source contents b k)) 0 (contents i)) new stay
          ∙ length-cells_from (relocations_in (relocation_source contents b k)) 0 (contents i);
      each = λ p. stay-at (relocation_source contents b k) (cells_from (relocations_in (relocation_source contents b k)) 0 (contents i)) new p stay;
    }

-- so their records can be written
pub reads-move : (contents : ℕ → List ℕ) (b : List ℕ) (i k : ℕ) (new : List Cell) → TableReads contents b i k → relocation_section b i ≡ Some k
    → ((n : ℕ) → slice_index (relocation_source contents b k).table n < 256)
    → AllStay (relocation_source contents b k) (section_cells contents b i) new
    → CanMove (relocation_source contents b k) (section_cells contents b i) new
reads-move contents b i k new h is small stay =
    let cells = section-source contents b i k is in
    subst (λ (old : List Cell). CanMove (relocation_source contents b k) old new) (sym cells)
    (stay-move (relocation_source contents b k) (contents i) new
    (reads-stay contents b i k new h small (subst (λ (old : List Cell). AllStay (relocation_source contents b k) old new) cells stay)))

-- and so they can where bytes come and go between them
pub reads-shift : (contents : ℕ → List ℕ) (b : List ℕ) (i k : ℕ) (new : List Cell) → TableReads contents b i k → relocation_section b i ≡ Some k
    → MovesTo (relocation_source contents b k) (section_cells contents b i) new → length new ≤ 256 ^ word_size (relocation_source contents b k).class
    → CanMove (relocation_source contents b k) (section_cells contents b i) new
reads-shift contents b i k new h is moves small =
    let cells = section-source contents b i k is in
    subst (λ (old : List Cell). CanMove (relocation_source contents b k) old new) (sym cells)
    (shift-move (relocation_source contents b k) (contents i) new (reads-apart contents b i k h)
    (subst (λ (old : List Cell). MovesTo (relocation_source contents b k) old new) cells moves) small)
