-- What stays of the stripped file of a split ends where it ended in the file, and the same sections stay.
use Rattle.std.proofs.Common.{◌≡◌, ℕ, zero, suc, ◌+◌, ◌*◌, ◌<◌, ◌≤◌, ◌==◌, ◌&&◌, ◌||◌, not, nat_le, Bool, true, false, cond, List, [], ◌∷◌, ◌++◌, length, map, filter, if◌then◌else◌, refl, sym, ap, ◌∙◌, arith, inl, inr}
use Rattle.std.proofs.lemmas.Bool.{cases_Bool, cases_lt}
use Rattle.std.proofs.lemmas.List.{append-nil}
use Rattle.dw_base.specs.Elf.{class_of, ehdr_size, e_phnum, e_phoff, is_empty_kind, nth_section, phdr_size, section_count, sections_of, segments_of}
use Rattle.dw_base.specs.Layout.{alloc_ends, fixed_end, greatest, is_alloc, is_fixed, is_loaded_kind, segment_ends, segment_table_end}
use Rattle.dw_base.specs.Lists.{tabulate}
use Rattle.dw_base.specs.declared.records.Section.{Section}
use Rattle.dw_base.specs.declared.records.Segment.{Segment}
use Rattle.dw_base.specs.declared.shared.Class.{Class}
use Rattle.dw_meaning.specs.Loaded.{Loaded, loaded_bytes}
use Rattle.elf_file.proofs.ElfFileLaws.{length-segments_of}
use Rattle.dbg_split.specs.Droppable.{is_droppable}
use Rattle.dbg_split.specs.StrippedFile.{kept_before}
use Rattle.dbg_split.specs.StrippedReads.{IsKept}
use Rattle.dbg_split.proofs.SplitLoadedLaws.{kind-same, next-number, same-number}
use Rattle.dbg_unstrip.proofs.KeptAgainLaws.{dropped-plain}
use Rattle.dbg_unstrip.proofs.MatchAgainLaws.{empty-same, null-of}
use Rattle.dbg_unstrip.proofs.SplitPairLaws.{IsSplitPair, link-head}

-- the segments are the file's
loaded-segments : (f : List ℕ) → is_loaded_kind f ≡ true → (loaded_bytes f).segments ≡ segments_of f
unfolding loaded_bytes
loaded-segments f loaded = rw loaded refl

pub stripped-loaded : (b name d s : List ℕ) → IsSplitPair b name d s → is_loaded_kind s ≡ true
stripped-loaded b name d s p = kind-same s b p.stripped_type ∙ p.pair.split.loaded

pub segments-same : (b name d s : List ℕ) → IsSplitPair b name d s → segments_of s ≡ segments_of b
segments-same b name d s p =
    sym (loaded-segments s (stripped-loaded b name d s p)) ∙ ap (λ (l : Loaded). l.segments) p.loaded.same ∙ loaded-segments b p.pair.split.loaded

pub phnum-same : (b name d s : List ℕ) → IsSplitPair b name d s → e_phnum s ≡ e_phnum b
phnum-same b name d s p = sym (length-segments_of s) ∙ ap (λ (ss : List Segment). length ss) (segments-same b name d s p) ∙ length-segments_of b

table-end : (x b : List ℕ) → e_phnum x ≡ e_phnum b → e_phoff x ≡ e_phoff b → class_of x ≡ class_of b → segment_table_end x ≡ segment_table_end b
table-end x b phnum phoff class =
    ap (λ (n : ℕ). if n == 0 then 0 else e_phoff x + n * phdr_size (class_of x)) phnum
    ∙ ap (λ (at : ℕ). if e_phnum b == 0 then 0 else at + e_phnum b * phdr_size (class_of x)) phoff
    ∙ ap (λ (c : Class). if e_phnum b == 0 then 0 else e_phoff b + e_phnum b * phdr_size c) class

-- the end of one section, where it counts
abbrev one_end : Bool → Bool → ℕ → ℕ → List ℕ
one_end a e at n = if (a && not e) && not (n == 0) then (at + n) ∷ [] else []

ends-one : (s : Section) → alloc_ends (s ∷ []) ≡ one_end (is_alloc s) (is_empty_kind s) s.offset s.size
ends-one s = by_test ((is_alloc s && not (is_empty_kind s)) && not (s.size == 0))
  where
    by_test : (t : Bool) → map (λ (x : Section). x.offset + x.size) (cond t (s ∷ []) []) ≡ (if t then (s.offset + s.size) ∷ [] else [])
    by_test true = refl
    by_test false = refl

ends-push : (ss : List Section) (s : Section) → alloc_ends (ss ++ s ∷ []) ≡ alloc_ends ss ++ alloc_ends (s ∷ [])
ends-push [] s = refl
ends-push (x ∷ ss) s = by_test ((is_alloc x && not (is_empty_kind x)) && not (x.size == 0)) (ends-push ss s)
  where
    by_test : (t : Bool) → alloc_ends (ss ++ s ∷ []) ≡ alloc_ends ss ++ alloc_ends (s ∷ [])
        → map (λ (y : Section). y.offset + y.size) (cond t (x ∷ filter (λ (y : Section). is_alloc y && not (is_empty_kind y) && not (y.size == 0)) (ss ++ s ∷ []))
        (filter (λ (y : Section). is_alloc y && not (is_empty_kind y) && not (y.size == 0)) (ss ++ s ∷ [])))
        ≡ map (λ (y : Section). y.offset + y.size) (cond t (x ∷ filter (λ (y : Section). is_alloc y && not (is_empty_kind y) && not (y.size == 0)) ss)
        (filter (λ (y : Section). is_alloc y && not (is_empty_kind y) && not (y.size == 0)) ss)) ++ alloc_ends (s ∷ [])
    by_test true rest = ap (λ (ns : List ℕ). (x.offset + x.size) ∷ ns) rest
    by_test false rest = rest

end-plain : (a e : Bool) (at n : ℕ) → a ≡ false → one_end a e at n ≡ []
end-plain true e at n h = let no : true ≡ false = h in cc
end-plain false e at n h = refl

end-empty : (a e : Bool) (at n : ℕ) → e ≡ true → one_end a e at n ≡ []
end-empty true true at n h = refl
end-empty false true at n h = refl
end-empty a false at n h = let no : false ≡ true = h in cc

pub ends-plain : (s : Section) → is_alloc s ≡ false → alloc_ends (s ∷ []) ≡ []
ends-plain s plain = ends-one s ∙ end-plain (is_alloc s) (is_empty_kind s) s.offset s.size plain

ends-empty : (s : Section) → is_empty_kind s ≡ true → alloc_ends (s ∷ []) ≡ []
ends-empty s empty = ends-one s ∙ end-empty (is_alloc s) (is_empty_kind s) s.offset s.size empty

ends-full : (s t : Section) → is_alloc s ≡ is_alloc t → is_empty_kind s ≡ is_empty_kind t → s.offset ≡ t.offset → s.size ≡ t.size → alloc_ends (s ∷ []) ≡ alloc_ends (t ∷ [])
ends-full s t alloc empty offset size =
    ends-one s
    ∙ ap (λ (x : Bool). one_end x (is_empty_kind s) s.offset s.size) alloc
    ∙ ap (λ (x : Bool). one_end (is_alloc t) x s.offset s.size) empty
    ∙ ap (λ (x : ℕ). one_end (is_alloc t) (is_empty_kind t) x s.size) offset
    ∙ ap (λ (x : ℕ). one_end (is_alloc t) (is_empty_kind t) t.offset x) size
    ∙ sym (ends-one t)

alloc-same : (s t : Section) → s.flags ≡ t.flags → is_alloc s ≡ is_alloc t
alloc-same s t e = rw e refl

-- what is loaded stays
pub alloc-stays : (b : List ℕ) (s : Section) → is_loaded_kind b ≡ true → is_alloc s ≡ true → is_fixed b s ≡ true
unfolding is_fixed
alloc-stays b s loaded alloc =
    ap (λ (t : Bool). is_loaded_kind b && (t || nat_le (s.offset + s.size) (fixed_end b))) alloc ∙ ap (λ (t : Bool). t && true) loaded

ends-kept : (b name d s : List ℕ) (i : ℕ) → IsSplitPair b name d s → IsKept b i → alloc_ends (nth_section s (kept_before b i) ∷ []) ≡ alloc_ends (nth_section b i ∷ [])
ends-kept b name d s i p is =
    let new = nth_section s (kept_before b i) in
    let old = nth_section b i in
    let head = p.pair.stripped.heads i is in
    let alloc : is_alloc new ≡ is_alloc old = alloc-same new old head.flags in
    let empty : is_empty_kind new ≡ is_empty_kind old = empty-same new old head.kind in
    elim (cases_Bool (is_alloc old)) [
      | inr plain ↦ ends-plain new (alloc ∙ plain) ∙ sym (ends-plain old plain)
      | inl loaded ↦
          elim (cases_lt 0 i) [
            | inl some ↦
                let fixed = alloc-stays b old p.pair.split.loaded loaded in
                ends-full new old alloc empty (head.offset fixed) (head.size some fixed)
            | inr first ↦
                let e : 0 ≡ i = omega arith in
                let null : is_empty_kind old ≡ true = ap (λ (n : ℕ). is_empty_kind (nth_section b n)) (sym e) ∙ null-of b p.pair.split in
                ends-empty new (empty ∙ null) ∙ sym (ends-empty old null)
          ]
    ]

ends-below : (b name d s : List ℕ) (m : ℕ) → IsSplitPair b name d s → m ≤ section_count b
    → alloc_ends (tabulate (nth_section s) (kept_before b m)) ≡ alloc_ends (tabulate (nth_section b) m)
ends-below b name d s zero p le = refl
ends-below b name d s (suc m) p le =
    let before = ends-below b name d s m p (omega arith) in
    elim (cases_Bool (is_droppable b m)) [
      | inl dropped ↦
          ap (λ (n : ℕ). alloc_ends (tabulate (nth_section s) n)) (same-number b m dropped)
          ∙ before
          ∙ sym (append-nil (alloc_ends (tabulate (nth_section b) m)))
          ∙ ap (λ (ns : List ℕ). alloc_ends (tabulate (nth_section b) m) ++ ns) (sym (ends-plain (nth_section b m) (dropped-plain b m dropped).0))
          ∙ sym (ends-push (tabulate (nth_section b) m) (nth_section b m))
      | inr kept ↦
          ap (λ (n : ℕ). alloc_ends (tabulate (nth_section s) n)) (next-number b m kept)
          ∙ ends-push (tabulate (nth_section s) (kept_before b m)) (nth_section s (kept_before b m))
          ∙ ap (λ (ns : List ℕ). ns ++ alloc_ends (nth_section s (kept_before b m) ∷ [])) before
          ∙ ap (λ (ns : List ℕ). alloc_ends (tabulate (nth_section b) m) ++ ns) (ends-kept b name d s m p (record { there = omega arith; kept = kept }))
          ∙ sym (ends-push (tabulate (nth_section b) m) (nth_section b m))
    ]

ends-same : (b name d s : List ℕ) → IsSplitPair b name d s → alloc_ends (sections_of s) ≡ alloc_ends (sections_of b)
unfolding sections_of
ends-same b name d s p =
    let last = kept_before b (section_count b) in
    let count : section_count s ≡ suc last = p.pair.stripped.count ∙ omega arith in
    ap (λ (n : ℕ). alloc_ends (tabulate (nth_section s) n)) count
    ∙ ends-push (tabulate (nth_section s) last) (nth_section s last)
    ∙ ap (λ (ns : List ℕ). alloc_ends (tabulate (nth_section s) last) ++ ns) (ends-plain (nth_section s last) (link-head b name d s p).plain)
    ∙ append-nil (alloc_ends (tabulate (nth_section s) last))
    ∙ ends-below b name d s (section_count b) p (omega arith)

fixed_end-loaded : (b : List ℕ) → is_loaded_kind b ≡ true
    → fixed_end b ≡ greatest (ehdr_size (class_of b)) (segment_table_end b ∷ segment_ends (segments_of b) ++ alloc_ends (sections_of b))
unfolding fixed_end
fixed_end-loaded b loaded = rw loaded refl

pub fixed_end-same : (b name d s : List ℕ) → IsSplitPair b name d s → fixed_end s ≡ fixed_end b
fixed_end-same b name d s p =
    let class : class_of s ≡ class_of b = p.pair.stripped.class_is in
    fixed_end-loaded s (stripped-loaded b name d s p)
    ∙ ap (λ (c : Class). greatest (ehdr_size c) (segment_table_end s ∷ segment_ends (segments_of s) ++ alloc_ends (sections_of s))) class
    ∙ ap (λ (n : ℕ). greatest (ehdr_size (class_of b)) (n ∷ segment_ends (segments_of s) ++ alloc_ends (sections_of s)))
    (table-end s b (phnum-same b name d s p) p.stripped_phoff class)
    ∙ ap (λ (ss : List Segment). greatest (ehdr_size (class_of b)) (segment_table_end b ∷ segment_ends ss ++ alloc_ends (sections_of s))) (segments-same b name d s p)
    ∙ ap (λ (ns : List ℕ). greatest (ehdr_size (class_of b)) (segment_table_end b ∷ segment_ends (segments_of b) ++ ns)) (ends-same b name d s p)
    ∙ sym (fixed_end-loaded b p.pair.split.loaded)

-- a section that stays in the file stays in the stripped file
fixed-at : (b s : List ℕ) (x y : Section) → is_loaded_kind s ≡ is_loaded_kind b → fixed_end s ≡ fixed_end b → is_alloc x ≡ is_alloc y → x.offset ≡ y.offset → x.size ≡ y.size
    → is_fixed s x ≡ is_fixed b y
unfolding is_fixed
fixed-at b s x y kind end alloc offset size =
    ap (λ (t : Bool). t && (is_alloc x || nat_le (x.offset + x.size) (fixed_end s))) kind
    ∙ ap (λ (t : Bool). is_loaded_kind b && (t || nat_le (x.offset + x.size) (fixed_end s))) alloc
    ∙ ap (λ (n : ℕ). is_loaded_kind b && (is_alloc y || nat_le (n + x.size) (fixed_end s))) offset
    ∙ ap (λ (n : ℕ). is_loaded_kind b && (is_alloc y || nat_le (y.offset + n) (fixed_end s))) size
    ∙ ap (λ (n : ℕ). is_loaded_kind b && (is_alloc y || nat_le (y.offset + y.size) n)) end

pub fixed-kept : (b name d s : List ℕ) (i : ℕ) → IsSplitPair b name d s → 0 < i → IsKept b i → is_fixed b (nth_section b i) ≡ true
    → is_fixed s (nth_section s (kept_before b i)) ≡ true
fixed-kept b name d s i p some is fixed =
    let head = p.pair.stripped.heads i is in
    fixed-at b s (nth_section s (kept_before b i)) (nth_section b i) (kind-same s b p.stripped_type) (fixed_end-same b name d s p)
    (alloc-same (nth_section s (kept_before b i)) (nth_section b i) head.flags) (head.offset fixed) (head.size some fixed)
    ∙ fixed
