-- The two files of a split match.
use Rattle.std.proofs.Common.{◌≡◌, ℕ, suc, ◌-◌, ◌<◌, ◌≤◌, Bool, true, false, List, length, get_or, if◌then◌else◌, refl, sym, ap, ◌∙◌, arith, inl, inr, subst}
use Rattle.std.specs.Prelude.{slice_index}
use Rattle.std.proofs.lemmas.Bool.{cases_Bool, cases_lt}
use Rattle.dw_base.specs.Elf.{class_of, ehdr_size, is_empty_kind, name_index, nth_section, section_count, section_name}
use Rattle.dw_base.specs.Layout.{fixed_end, is_fixed}
use Rattle.dw_base.specs.declared.elf_numbers.TheConstants.{SHT_NULL, SHT_NOBITS}
use Rattle.dw_base.specs.declared.records.Section.{Section}
use Rattle.dw_base.proofs.ElfLaws.{e_shoff-some}
use Rattle.dw_base.proofs.LayoutLaws.{fixed_end-header}
use Rattle.dbg_split.specs.DebugFile.{becomes_nobits, debug_head}
use Rattle.dbg_split.specs.SplitFails.SectionBars.{in_header}
use Rattle.dbg_split.specs.StrippedFile.{kept_before}
use Rattle.dbg_split.specs.StrippedReads.{IsKept}
use Rattle.dbg_split.proofs.JoinLaws.{IsPair}
use Rattle.dbg_split.proofs.StrippedFitLaws.{IsSplit, first-kept, names-there}
use Rattle.dbg_unstrip.specs.Matching.{Differ, DontMatch, HidesHeader, InHeader, OtherKind, SectionsDiffer, is_kept, kept_sections, numbers_below, partner_sections}
use Rattle.dbg_unstrip.specs.Matching.Differ.{no_partner, no_kept, other}
use Rattle.dbg_unstrip.specs.Matching.HidesHeader.{one}
use Rattle.dbg_unstrip.specs.Matching.OtherKind.{class, order, type, machine}
use Rattle.dbg_unstrip.specs.Matching.SectionsDiffer.{name, flags, addr, size}
use Rattle.dbg_unstrip.proofs.KeptAgainLaws.{kept-back, link-number, partners, place-is}
use Rattle.dbg_unstrip.proofs.MatchLaws.{partner_is}
use Rattle.dbg_unstrip.proofs.MatchRows.{all-same, files-same}
use Rattle.dbg_unstrip.proofs.NumberLaws.{StandsAt, number-there}
use Rattle.dbg_unstrip.proofs.SplitPairLaws.{IsSplitPair, kept-size, length-full, link-head}

-- the header of a section in the debug file, but for its type
pub record DebugFields (s t : Section) : Type 0 where
  pub name : t.name ≡ s.name
  pub flags : t.flags ≡ s.flags
  pub addr : t.addr ≡ s.addr
  pub offset : t.offset ≡ s.offset
  pub size : t.size ≡ s.size
  pub link : t.link ≡ s.link
  pub info : t.info ≡ s.info
  pub align : t.align ≡ s.align
  pub entry_size : t.entry_size ≡ s.entry_size

pub debug-fields : (b : List ℕ) (i : ℕ) → DebugFields (nth_section b i) (debug_head b i)
unfolding debug_head
debug-fields b i = by_test (becomes_nobits b i)
  where
    by_test : (t : Bool) → DebugFields (nth_section b i) (if t then record (nth_section b i) { kind = SHT_NOBITS } else nth_section b i)
    by_test true = record { name = refl; flags = refl; addr = refl; offset = refl; size = refl; link = refl; info = refl; align = refl; entry_size = refl }
    by_test false = record { name = refl; flags = refl; addr = refl; offset = refl; size = refl; link = refl; info = refl; align = refl; entry_size = refl }

pub debug-kind : (b : List ℕ) (i : ℕ) → (debug_head b i).kind ≡ (if becomes_nobits b i then SHT_NOBITS else (nth_section b i).kind)
unfolding debug_head
debug-kind b i = by_test (becomes_nobits b i)
  where
    by_test : (t : Bool) → (if t then record (nth_section b i) { kind = SHT_NOBITS } else nth_section b i).kind ≡ (if t then SHT_NOBITS else (nth_section b i).kind)
    by_test true = refl
    by_test false = refl

pub empty-same : (x y : Section) → x.kind ≡ y.kind → is_empty_kind x ≡ is_empty_kind y
empty-same x y e = rw e refl

nobits-empty : (s : Section) → s.kind ≡ SHT_NOBITS → is_empty_kind s ≡ true
nobits-empty s is = rw is refl

-- a section with bytes in the debug file has its own
pub full-plain : (b : List ℕ) (i : ℕ) → is_empty_kind (debug_head b i) ≡ false → becomes_nobits b i ≡ false
full-plain b i full = elim (cases_Bool (becomes_nobits b i)) [
  | inl nobits ↦
      let kind : (debug_head b i).kind ≡ SHT_NOBITS = debug-kind b i ∙ ap (λ (t : Bool). if t then SHT_NOBITS else (nth_section b i).kind) nobits in
      let no : true ≡ false = sym (nobits-empty (debug_head b i) kind) ∙ full in
      cc
  | inr plain ↦ plain
]

pub plain-kind : (b : List ℕ) (i : ℕ) → becomes_nobits b i ≡ false → (debug_head b i).kind ≡ (nth_section b i).kind
plain-kind b i plain = debug-kind b i ∙ ap (λ (t : Bool). if t then SHT_NOBITS else (nth_section b i).kind) plain

-- each section of the debug file has the size that it had
pub debug-size : (b called d s : List ℕ) (i : ℕ) → IsPair b called d s → i < section_count b → (nth_section d i).size ≡ (nth_section b i).size
debug-size b called d s i p lt = elim (cases_Bool (is_empty_kind (debug_head b i))) [
  | inl empty ↦ ap (λ (h : Section). h.size) (p.debug.stays i lt empty) ∙ (debug-fields b i).size
  | inr full ↦
      let plain = full-plain b i full in
      let here : is_empty_kind (nth_section d i) ≡ false = empty-same (nth_section d i) (debug_head b i) (p.debug.heads i lt).kind ∙ full in
      let was : is_empty_kind (nth_section b i) ≡ false = empty-same (nth_section b i) (debug_head b i) (sym (plain-kind b i plain)) ∙ full in
      sym (length-full d i p.debug.reads (omega (arith, p.debug.count, lt)) here)
      ∙ ap (λ (xs : List ℕ). length xs) (p.debug.contents i lt plain)
      ∙ length-full b i p.split.reads.debug lt was
]

-- the two are of one kind
kinds-agree : (b called d s : List ℕ) → IsSplitPair b called d s → OtherKind s d → ⊥
kinds-agree b called d s p (class differ) = differ (p.pair.stripped.class_is ∙ sym p.pair.debug.class_is)
kinds-agree b called d s p (order differ) = differ (p.pair.stripped.order_is ∙ sym p.pair.debug.order_is)
kinds-agree b called d s p (type differ) = differ (p.stripped_type ∙ sym p.pair.debug_type)
kinds-agree b called d s p (machine differ) = differ (p.stripped_machine ∙ sym p.debug_machine)

-- what stands with a kept section
pub record IsOld (b : List ℕ) (j i : ℕ) : Type 0 where
  pub some : 0 < i
  pub kept : IsKept b i
  pub is : kept_before b i ≡ j

kept-count : (b called d s : List ℕ) → IsPair b called d s → suc (length (kept_sections d)) ≡ kept_before b (section_count b)
unfolding kept_sections
kept-count b called d s p =
    let there = names-there b p.split in
    ap (λ (n : ℕ). suc (length (numbers_below (is_kept d) n))) p.debug.count
    ∙ place-is b called d s (section_count b) p (omega arith) (omega arith)

old-at : (b called d s : List ℕ) (k : ℕ) → IsPair b called d s → k < length (kept_sections d) → IsOld b (suc k) (slice_index (kept_sections d) k)
unfolding kept_sections
old-at b called d s k p lt =
    let at : StandsAt (is_kept d) (section_count d) k (get_or (numbers_below (is_kept d) (section_count d)) k 0) = number-there (is_kept d) (section_count d) k 0 lt in
    by_place (get_or (numbers_below (is_kept d) (section_count d)) k 0) at
  where
    by_place : (i : ℕ) → StandsAt (is_kept d) (section_count d) k i → IsOld b (suc k) i
    by_place i at =
        let below : i < section_count b = omega (arith, at.below, p.debug.count) in
        let back = kept-back b called d s i p below at.passes in
        record { some = back.0; kept = back.1; is = sym (place-is b called d s i p back.0 (omega arith)) ∙ ap suc at.place }

-- no section of the stripped file begins in its header
pub null-of : (b : List ℕ) → IsSplit b → is_empty_kind (nth_section b 0) ≡ true
null-of b w = nulls (nth_section b 0) (w.reads.debug.index.null (e_shoff-some b (name_index b) (names-there b w)))
  where
    nulls : (x : Section) → x.kind ≡ SHT_NULL → is_empty_kind x ≡ true
    nulls x is = rw is refl

pub kept-free : (b called d s : List ℕ) (i : ℕ) → IsSplitPair b called d s → IsKept b i → InHeader s (nth_section s (kept_before b i)) → ⊥
kept-free b called d s i p is here =
    let w = p.pair.split in
    let head = p.pair.stripped.heads i is in
    let header : ehdr_size (class_of s) ≤ fixed_end b = rw p.pair.stripped.class_is (fixed_end-header b) in
    let full : is_empty_kind (nth_section b i) ≡ false = empty-same (nth_section b i) (nth_section s (kept_before b i)) (sym head.kind) ∙ here.bytes in
    elim (cases_lt 0 i) [
      | inr first ↦
          let e : 0 ≡ i = omega arith in
          let no : true ≡ false = sym (null-of b w) ∙ ap (λ (n : ℕ). is_empty_kind (nth_section b n)) e ∙ full in
          cc
      | inl some ↦
          elim (cases_Bool (is_fixed b (nth_section b i))) [
            | inl fixed ↦
                w.free i _ is.there
                (in_header (record {
                  loaded = w.loaded;
                  bytes = full;
                  some = λ none. here.some (head.size some fixed ∙ none);
                  begins = omega (arith, here.begins, head.offset fixed, ap ehdr_size p.pair.stripped.class_is);
                }))
            | inr free ↦ omega (arith, head.behind free full, header, here.begins)
          ]
    ]

none-hidden : (b called d s : List ℕ) → IsSplitPair b called d s → HidesHeader s → ⊥
none-hidden b called d s p (one j lt here) =
    let w = p.pair.split in
    let last = kept_before b (section_count b) in
    let count = p.pair.stripped.count in
    let size = kept-count b called d s p.pair in
    elim (cases_lt j last) [
      | inl below ↦
          elim (cases_lt 0 j) [
            | inl some ↦
                let old = old-at b called d s (j - 1) p.pair (omega arith) in
                let e : kept_before b (slice_index (kept_sections d) (j - 1)) ≡ j = old.is ∙ omega arith in
                kept-free b called d s (slice_index (kept_sections d) (j - 1)) p old.kept (subst (λ (n : ℕ). InHeader s (nth_section s n)) (sym e) here)
            | inr first ↦
                let e : j ≡ 0 = omega arith in
                kept-free b called d s 0 p (first-kept b w) (subst (λ (n : ℕ). InHeader s (nth_section s n)) e here)
          ]
      | inr past ↦
          let e : j ≡ last = omega arith in
          let link = link-head b called d s p in
          let header : ehdr_size (class_of s) ≤ fixed_end b = rw p.pair.stripped.class_is (fixed_end-header b) in
          omega (arith, (subst (λ (n : ℕ). InHeader s (nth_section s n)) e here).begins, link.behind, header)
    ]

-- nor do the two lists differ anywhere
sections-agree : (b called d s : List ℕ) (j i : ℕ) → IsSplitPair b called d s → IsOld b j i → SectionsDiffer s d j i → ⊥
sections-agree b called d s j i p old (name differ) =
    differ (ap (section_name s) (sym old.is) ∙ p.pair.stripped.names i old.kept ∙ sym (p.pair.debug.names i old.kept.there))
sections-agree b called d s j i p old (flags differ) =
    differ
    (ap (λ (n : ℕ). (nth_section s n).flags) (sym old.is) ∙ (p.pair.stripped.heads i old.kept).flags
    ∙ sym ((p.pair.debug.heads i old.kept.there).flags ∙ (debug-fields b i).flags))
sections-agree b called d s j i p old (addr differ) =
    differ
    (ap (λ (n : ℕ). (nth_section s n).addr) (sym old.is) ∙ (p.pair.stripped.heads i old.kept).addr
    ∙ sym ((p.pair.debug.heads i old.kept.there).addr ∙ (debug-fields b i).addr))
sections-agree b called d s j i p old (size elsewhere differ) =
    differ
    (ap (λ (n : ℕ). (nth_section s n).size) (sym old.is)
    ∙ kept-size b called d s i p old.kept old.some (λ e. elsewhere (e ∙ sym p.pair.debug.named))
    ∙ sym (debug-size b called d s i p.pair old.kept.there))

pub no-differ : (b called d s : List ℕ) (k : ℕ) → IsSplitPair b called d s → Differ s d k → ⊥
no-differ b called d s k p (no_partner inside ended) = omega (arith, inside, ended, kept-count b called d s p.pair, partners b called s p.pair.stripped)
no-differ b called d s k p (no_kept inside ended) = omega (arith, inside, ended, kept-count b called d s p.pair, partners b called s p.pair.stripped)
no-differ b called d s k p (other inside there differ) =
    let j_is : slice_index (partner_sections s) k ≡ suc k = partner_is s k there ∙ omega arith in
    sections-agree b called d s (suc k) (slice_index (kept_sections d) k) p (old-at b called d s k p.pair inside)
    (subst (λ (n : ℕ). SectionsDiffer s d n (slice_index (kept_sections d) k)) j_is differ)

pub all-match : (b called d s : List ℕ) (place : ℕ) → IsSplitPair b called d s → DontMatch s d place → ⊥
all-match b called d s place p =
    let there = names-there b p.pair.split in
    all-same s d place
    (files-same s d (section_count d) (kinds-agree b called d s p) refl (λ none. omega (arith, p.pair.debug.count, there, none))
    (ap (section_name s) (link-number b called s p.pair.stripped) ∙ p.pair.stripped.link_name) (none-hidden b called d s p))
    (λ n. no-differ b called d s n p)
