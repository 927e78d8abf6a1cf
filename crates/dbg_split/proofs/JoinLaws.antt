-- A pair has the sections of the file that was split.
use Rattle.std.proofs.Common.{◌≡◌, ◌≢◌, ℕ, suc, ◌<◌, ◌==◌, ◌&&◌, ◌||◌, not, Bool, true, false, List, [], if◌then◌else◌, refl, sym, ap, ◌∙◌, arith, inl, inr, subst}
use Rattle.std.proofs.lemmas.Bool.{cases_lt, cases_eq, cases_Bool}
use Rattle.std.proofs.lemmas.Bool.Decides.{nat_tests}
use Rattle.std.specs.Prelude.{Option, Some, None}
use Rattle.dw_base.specs.Elf.{e_type, is_empty_kind, nth_section, section_count, section_name, name_index, contents_of}
use Rattle.dw_base.specs.FileViews.{ViewSection, is_name_section, plain_contents, view_section}
use Rattle.dw_base.specs.Layout.{is_alloc, is_loaded_kind}
use Rattle.dw_base.specs.Notes.{or_this}
use Rattle.dw_base.specs.SectionNames.{debug_link, is_debug_only_name}
use Rattle.dw_base.specs.Texts.{same_text}
use Rattle.dw_base.specs.declared.elf_numbers.TheConstants.{ET_DYN, ET_EXEC, SHT_NULL, SHT_NOBITS, SHT_NOTE}
use Rattle.dw_base.specs.declared.records.Section.{Section}
use Rattle.dw_base.proofs.ElfLaws.{e_shoff-some}
use Rattle.dw_base.proofs.RelocationSectionLaws.{relocates_read-loaded}
use Rattle.dw_base.proofs.SectionRelocationLaws.{relocations_of-loaded}
use Rattle.dw_base.proofs.TextLaws.{same_text-from, same_text-true}
use Rattle.dw_base.proofs.WrittenContents.{contents-empty}
use Rattle.dbg_split.specs.DebugFile.{becomes_nobits, debug_head}
use Rattle.dbg_split.specs.DebugFileReads.{ReadsDebug}
use Rattle.dbg_split.specs.Droppable.{drops_along, drops_itself, is_droppable, may_drop}
use Rattle.dw_view.specs.PairViews.{count_below, found_bytes, found_contents, is_counted, is_counted_named, is_elsewhere, is_elsewhere_named, joined_section, nth_below, pair_section, stands_for}
use Rattle.dbg_split.specs.PairViews.{JoinsTo, SameSection}
use Rattle.dbg_split.specs.StrippedFile.{kept_before}
use Rattle.dbg_split.specs.StrippedReads.{IsKept, ReadsStripped}
use Rattle.dw_view.proofs.CountLaws.{nth-is, nth-none}
use Rattle.dbg_split.proofs.CountLaws.{Agree, nths-agree}
use Rattle.dbg_split.proofs.DebugReadLaws.{nobits-names}
use Rattle.dbg_split.proofs.KeptPartLaws.{before-less}
use Rattle.dbg_split.proofs.SplitLoadedLaws.{or-none, renumbered}
use Rattle.dbg_split.proofs.StrippedFitLaws.{IsSplit, names-kept, names-there, number-some}

-- what is known of both files
pub record IsPair (b name d s : List ℕ) : Type 0 where
  pub split : IsSplit b
  pub debug : ReadsDebug b d
  pub debug_type : e_type d ≡ e_type b
  pub stripped : ReadsStripped b name s

-- the debug file is no more relocatable than the file is
pub debug-loaded : (b name d s : List ℕ) → IsPair b name d s → is_loaded_kind d ≡ true
debug-loaded b name d s p = ap (λ (n : ℕ). n == ET_EXEC || n == ET_DYN) p.debug_type ∙ p.split.loaded

-- Booleans
pub and-true : (x y : Bool) → (x && y) ≡ true → (x ≡ true) × (y ≡ true)
and-true true true h = (refl, refl)
and-true true false h = let no : false ≡ true = h in cc
and-true false y h = let no : false ≡ true = h in cc

not-true : (x : Bool) → not x ≡ true → x ≡ false
not-true false h = refl
not-true true h = let no : false ≡ true = h in cc

pub never : (x : Bool) → (x ≡ true → ⊥) → x ≡ false
never true h = absurd (h refl)
never false h = refl

pub eq-is : (m n : ℕ) → (m == n) ≡ true → m ≡ n
eq-is m n h = grind (arith, nat_tests)

pub eq-true : (m n : ℕ) → m ≡ n → (m == n) ≡ true
eq-true m n h = grind (arith, nat_tests)

pub eq-false : (m n : ℕ) → m ≢ n → (m == n) ≡ false
eq-false m n h = grind arith

eq-agree : (m n p q : ℕ) → (m ≡ n → p ≡ q) → (p ≡ q → m ≡ n) → (m == n) ≡ (p == q)
eq-agree m n p q to from = elim (cases_eq m n) [
  | inl same ↦ eq-true m n same ∙ sym (eq-true p q (to same))
  | inr other ↦ eq-false m n other ∙ sym (eq-false p q (λ e. other (from e)))
]

-- kept sections have numbers of their own
pub kept-apart : (b : List ℕ) (i j : ℕ) → IsKept b i → IsKept b j → kept_before b i ≡ kept_before b j → i ≡ j
kept-apart b i j one two same = elim (cases_lt i j) [
  | inl below ↦ absurd (omega (arith, same, before-less b i j below one.kept))
  | inr past ↦
      elim (cases_lt j i) [
        | inl above ↦ absurd (omega (arith, same, before-less b j i above two.kept))
        | inr equal ↦ omega arith
      ]
]

-- the section name table is the same one
pub name_section-debug : (b name d s : List ℕ) (i : ℕ) → IsPair b name d s → is_name_section d i ≡ is_name_section b i
name_section-debug b name d s i p = ap (λ (n : ℕ). not (n == 0) && i == n) p.debug.named

pub name_section-some : (b : List ℕ) (i : ℕ) → name_index b ≢ 0 → is_name_section b i ≡ (i == name_index b)
name_section-some b i some = ap (λ (t : Bool). not t && i == name_index b) (eq-false (name_index b) 0 some)

name_section-new : (s : List ℕ) (j n : ℕ) → name_index s ≡ n → n ≢ 0 → is_name_section s j ≡ (j == n)
name_section-new s j n is some = ap (λ (m : ℕ). not (m == 0) && j == m) is ∙ ap (λ (t : Bool). not t && j == n) (eq-false n 0 some)

name_section-kept : (b name d s : List ℕ) (i : ℕ) → IsPair b name d s → IsKept b i → is_name_section s (kept_before b i) ≡ is_name_section b i
name_section-kept b name d s i p is =
    let n = name_index b in
    name_section-new s (kept_before b i) (kept_before b n) p.stripped.named (number-some b p.split)
    ∙ eq-agree (kept_before b i) (kept_before b n) i n (kept-apart b i n is (names-kept b p.split)) (ap (kept_before b))
    ∙ sym (name_section-some b i p.split.named)

-- ALLOC is what it was
pub head-flags : (b : List ℕ) (i : ℕ) → (debug_head b i).flags ≡ (nth_section b i).flags
unfolding debug_head
head-flags b i = by_test (becomes_nobits b i)
  where
    by_test : (t : Bool) → (if t then record (nth_section b i) { kind = SHT_NOBITS } else nth_section b i).flags ≡ (nth_section b i).flags
    by_test true = refl
    by_test false = refl

head-kind : (b : List ℕ) (i : ℕ) → (debug_head b i).kind ≡ (if becomes_nobits b i then SHT_NOBITS else (nth_section b i).kind)
unfolding debug_head
head-kind b i = by_test (becomes_nobits b i)
  where
    by_test : (t : Bool) → (if t then record (nth_section b i) { kind = SHT_NOBITS } else nth_section b i).kind ≡ (if t then SHT_NOBITS else (nth_section b i).kind)
    by_test true = refl
    by_test false = refl

alloc-by : (s t : Section) → s.flags ≡ t.flags → is_alloc s ≡ is_alloc t
alloc-by s t same = rw same refl

pub alloc-debug : (b name d s : List ℕ) (i : ℕ) → IsPair b name d s → i < section_count b → is_alloc (nth_section d i) ≡ is_alloc (nth_section b i)
alloc-debug b name d s i p lt = alloc-by (nth_section d i) (nth_section b i) ((p.debug.heads i lt).flags ∙ head-flags b i)

alloc-kept : (b name d s : List ℕ) (i : ℕ) → IsPair b name d s → IsKept b i → is_alloc (nth_section s (kept_before b i)) ≡ is_alloc (nth_section b i)
alloc-kept b name d s i p is = alloc-by (nth_section s (kept_before b i)) (nth_section b i) (p.stripped.heads i is).flags

pub kind-debug : (b name d s : List ℕ) (i : ℕ) → IsPair b name d s → i < section_count b
    → (nth_section d i).kind ≡ (if becomes_nobits b i then SHT_NOBITS else (nth_section b i).kind)
kind-debug b name d s i p lt = (p.debug.heads i lt).kind ∙ head-kind b i

-- which sections have no bytes in the debug file
and-last : (n m x : Bool) → x ≡ false → (((true && not n) && not m) && not x) ≡ (not n && not m)
and-last true m x e = refl
and-last false true x e = refl
and-last false false x e = rw e refl

pub nobits-kept : (b : List ℕ) (i : ℕ) → IsKept b i → is_alloc (nth_section b i) ≡ false
    → becomes_nobits b i ≡ (not ((nth_section b i).kind == SHT_NULL) && not (i == name_index b))
unfolding becomes_nobits
nobits-kept b i is plain =
    let no_note : (is_alloc (nth_section b i) && (nth_section b i).kind == SHT_NOTE) ≡ false =
    ap (λ (t : Bool). t && (nth_section b i).kind == SHT_NOTE) plain in
    ap (λ (t : Bool). ((not t && not ((nth_section b i).kind == SHT_NULL)) && not (i == name_index b)) && not (is_alloc (nth_section b i) && (nth_section b i).kind == SHT_NOTE))
    is.kept
    ∙ and-last ((nth_section b i).kind == SHT_NULL) (i == name_index b) (is_alloc (nth_section b i) && (nth_section b i).kind == SHT_NOTE) no_note

nobits-dropped : (b : List ℕ) (i : ℕ) → is_droppable b i ≡ true → becomes_nobits b i ≡ false
unfolding becomes_nobits
nobits-dropped b i dropped = rw dropped refl

null-bits : (n : ℕ) → (n == SHT_NULL) ≡ true → (n == SHT_NOBITS) ≡ false
null-bits n h = eq-false n SHT_NOBITS (λ e. let is = eq-is n SHT_NULL h in omega (arith, e, is))

-- a kept section stands for one where one may stand for it
kinds-agree : (t : Bool) (k : ℕ) (m : Bool) → t ≡ (not (k == SHT_NULL) && not m) → (((if t then SHT_NOBITS else k) == SHT_NOBITS) && not m) ≡ (not (k == SHT_NULL) && not m)
kinds-agree t k true is = and-never ((if t then SHT_NOBITS else k) == SHT_NOBITS) ∙ sym (and-never (not (k == SHT_NULL)))
  where
    and-never : (x : Bool) → (x && false) ≡ false
    and-never true = refl
    and-never false = refl
kinds-agree t k false is = by_null (k == SHT_NULL) refl
  where
    by_null : (u : Bool) → (k == SHT_NULL) ≡ u → (((if t then SHT_NOBITS else k) == SHT_NOBITS) && true) ≡ (not u && true)
    by_null true e =
        let out : t ≡ false = is ∙ ap (λ (x : Bool). not x && true) e in
        ap (λ (x : Bool). ((if x then SHT_NOBITS else k) == SHT_NOBITS) && true) out ∙ ap (λ (x : Bool). x && true) (null-bits k e)
    by_null false e =
        let in_it : t ≡ true = is ∙ ap (λ (x : Bool). not x && true) e in
        ap (λ (x : Bool). ((if x then SHT_NOBITS else k) == SHT_NOBITS) && true) in_it

tests-by : (a : Bool) (t : Bool) (k : ℕ) (m : Bool) → (a ≡ false → t ≡ (not (k == SHT_NULL) && not m))
    → ((((if t then SHT_NOBITS else k) == SHT_NOBITS) && not a) && not m) ≡ ((not a && not (k == SHT_NULL)) && not m)
tests-by true t k m is = and-middle ((if t then SHT_NOBITS else k) == SHT_NOBITS) m
  where
    and-middle : (x m : Bool) → ((x && false) && not m) ≡ false
    and-middle true m = refl
    and-middle false m = refl
tests-by false t k m is =
    ap (λ (x : Bool). x && not m) (and-yes ((if t then SHT_NOBITS else k) == SHT_NOBITS)) ∙ kinds-agree t k m (is refl)
  where
    and-yes : (x : Bool) → (x && true) ≡ x
    and-yes true = refl
    and-yes false = refl

kept-tests : (b name d s : List ℕ) (i : ℕ) → IsPair b name d s → IsKept b i → is_elsewhere d i ≡ is_counted s (kept_before b i)
kept-tests b name d s i p is =
    let own = nth_section b i in
    let t = becomes_nobits b i in
    let m = is_name_section b i in
    let table : is_name_section b i ≡ (i == name_index b) = name_section-some b i p.split.named in
    ap (λ (k : ℕ). (k == SHT_NOBITS && not (is_alloc (nth_section d i))) && not (is_name_section d i)) (kind-debug b name d s i p is.there)
    ∙ ap (λ (a : Bool). ((if t then SHT_NOBITS else own.kind) == SHT_NOBITS && not a) && not (is_name_section d i)) (alloc-debug b name d s i p is.there)
    ∙ ap (λ (x : Bool). ((if t then SHT_NOBITS else own.kind) == SHT_NOBITS && not (is_alloc own)) && not x) (name_section-debug b name d s i p)
    ∙ tests-by (is_alloc own) t own.kind m (λ plain. nobits-kept b i is plain ∙ ap (λ (x : Bool). not (own.kind == SHT_NULL) && not x) (sym table))
    ∙ sym (ap (λ (a : Bool). (not a && not ((nth_section s (kept_before b i)).kind == SHT_NULL)) && not (is_name_section s (kept_before b i))) (alloc-kept b name d s i p is)
    ∙ ap (λ (k : ℕ). (not (is_alloc own) && not (k == SHT_NULL)) && not (is_name_section s (kept_before b i))) (p.stripped.heads i is).kind
    ∙ ap (λ (x : Bool). (not (is_alloc own) && not (own.kind == SHT_NULL)) && not x) (name_section-kept b name d s i p is))

named-tests : (b name d s called : List ℕ) (i : ℕ) → IsPair b name d s → IsKept b i
    → is_counted_named s called (kept_before b i) ≡ is_elsewhere_named d called i
unfolding is_counted_named is_elsewhere_named
named-tests b name d s called i p is =
    ap (λ (t : Bool). t && same_text (section_name s (kept_before b i)) called) (sym (kept-tests b name d s i p is))
    ∙ ap (λ (x : List ℕ). is_elsewhere d i && same_text x called) (p.stripped.names i is ∙ sym (p.debug.names i is.there))

-- a droppable section without bytes has a name of debug data
named-only : (l m x : Bool) → (l && ((m && ((x || false) || false)) || (m && false))) ≡ true → x ≡ true
named-only true true true h = refl
named-only true true false h = let no : false ≡ true = h in cc
named-only true false x h = let no : false ≡ true = h in cc
named-only false m x h = let no : false ≡ true = h in cc

dropped-named : (b : List ℕ) (i : ℕ) → is_droppable b i ≡ true → (nth_section b i).kind ≡ SHT_NOBITS → is_debug_only_name (section_name b i) ≡ true
unfolding is_droppable drops_itself drops_along
dropped-named b i dropped kind =
    named-only (is_loaded_kind b) (may_drop b i) (is_debug_only_name (section_name b i)) (rw kind at dropped)

-- and each section of such a name that may be dropped is
named-drops : (b : List ℕ) (i : ℕ) → is_loaded_kind b ≡ true → may_drop b i ≡ true → is_debug_only_name (section_name b i) ≡ true → is_droppable b i ≡ true
unfolding is_droppable drops_itself
named-drops b i loaded may name = rw (loaded, may, name) refl

may-by : (b : List ℕ) (i : ℕ) → i ≢ 0 → is_alloc (nth_section b i) ≡ false → i ≢ name_index b → may_drop b i ≡ true
may-by b i some plain other = rw (eq-false i 0 some, plain, eq-false i (name_index b) other) refl

-- what is known of a kept section for which one may stand
pub record IsOwn (b : List ℕ) (i : ℕ) : Type 0 where
  pub plain : is_alloc (nth_section b i) ≡ false
  pub full : (nth_section b i).kind ≢ SHT_NULL
  pub other : i ≢ name_index b

own-unnamed : (b : List ℕ) (i : ℕ) → IsSplit b → IsKept b i → IsOwn b i → is_debug_only_name (section_name b i) ≡ false
own-unnamed b i w is own =
    never (is_debug_only_name (section_name b i))
    (λ name.
    let null : (nth_section b 0).kind ≡ SHT_NULL = w.reads.debug.index.null (e_shoff-some b (name_index b) (names-there b w)) in
    let some : i ≢ 0 = λ e. own.full (ap (λ (n : ℕ). (nth_section b n).kind) e ∙ null) in
    let dropped = named-drops b i w.loaded (may-by b i some own.plain own.other) name in
    let no : true ≡ false = sym dropped ∙ is.kept in
    cc)

-- the section of a test
pub record IsElsewhere (d : List ℕ) (i : ℕ) : Type 0 where
  pub kind : (nth_section d i).kind ≡ SHT_NOBITS
  pub plain : is_alloc (nth_section d i) ≡ false
  pub other : is_name_section d i ≡ false

pub elsewhere-is : (d : List ℕ) (i : ℕ) → is_elsewhere d i ≡ true → IsElsewhere d i
elsewhere-is d i h =
    let two = and-true ((nth_section d i).kind == SHT_NOBITS && not (is_alloc (nth_section d i))) (not (is_name_section d i)) h in
    let one = and-true ((nth_section d i).kind == SHT_NOBITS) (not (is_alloc (nth_section d i))) two.0 in
    record {
      kind = eq-is (nth_section d i).kind SHT_NOBITS one.0;
      plain = not-true (is_alloc (nth_section d i)) one.1;
      other = not-true (is_name_section d i) two.1;
    }

dropped-kind : (b name d s : List ℕ) (i : ℕ) → IsPair b name d s → i < section_count b → is_droppable b i ≡ true
    → (nth_section d i).kind ≡ (nth_section b i).kind
dropped-kind b name d s i p lt dropped =
    kind-debug b name d s i p lt ∙ ap (λ (t : Bool). if t then SHT_NOBITS else (nth_section b i).kind) (nobits-dropped b i dropped)

-- no dropped section without bytes has a name that isn't one of debug data
dropped-test : (b name d s called : List ℕ) (i : ℕ) → IsPair b name d s → i < section_count b → is_droppable b i ≡ true → is_debug_only_name called ≡ false
    → is_elsewhere_named d called i ≡ false
unfolding is_elsewhere_named
dropped-test b name d s called i p lt dropped unnamed =
    never (is_elsewhere d i && same_text (section_name d i) called)
    (λ h.
    let both = and-true (is_elsewhere d i) (same_text (section_name d i) called) h in
    let kind = sym (dropped-kind b name d s i p lt dropped) ∙ (elsewhere-is d i both.0).kind in
    let same : section_name b i ≡ called = sym (p.debug.names i lt) ∙ same_text-true (section_name d i) called both.1 in
    let named : is_debug_only_name called ≡ true = ap (λ (n : List ℕ). is_debug_only_name n) (sym same) ∙ dropped-named b i dropped kind in
    let no : true ≡ false = sym named ∙ unnamed in
    cc)

tests-agree : (b name d s called : List ℕ) → IsPair b name d s → is_debug_only_name called ≡ false
    → Agree b (is_elsewhere_named d called) (is_counted_named s called) (section_count b)
tests-agree b name d s called p unnamed = record {
  dropped = λ i lt dropped. dropped-test b name d s called i p lt dropped unnamed;
  kept = λ i lt kept. named-tests b name d s called i p (record { there = lt; kept = kept });
}

-- so a kept section stands for itself
own-name : (d : List ℕ) (i : ℕ) → is_elsewhere d i ≡ true → is_elsewhere_named d (section_name d i) i ≡ true
unfolding is_elsewhere_named
own-name d i elsewhere = rw (elsewhere, same_text-from (section_name d i) (section_name d i) refl) refl

pub kept-found : (b name d s : List ℕ) (i : ℕ) → IsPair b name d s → IsKept b i → IsOwn b i → is_elsewhere d i ≡ true → stands_for d s i ≡ Some (kept_before b i)
unfolding stands_for
kept-found b name d s i p is own elsewhere =
    let called = section_name d i in
    let old = is_elsewhere_named d called in
    let new = is_counted_named s called in
    let k = count_below old i in
    let last = kept_before b (section_count b) in
    let unnamed : is_debug_only_name called ≡ false = ap (λ (n : List ℕ). is_debug_only_name n) (p.debug.names i is.there) ∙ own-unnamed b i p.split is own in
    let agree = tests-agree b name d s called p unnamed in
    let count : section_count s ≡ suc last = p.stripped.count ∙ omega arith in
    ap (λ (n : ℕ). nth_below new k n) count
    ∙ ap (λ (o : Option ℕ). or_this o last (new last && count_below new last == k))
    (nths-agree b old new k (section_count b) (section_count b) agree (omega arith)
    ∙ ap (renumbered b) (nth-is old i (section_count b) is.there (own-name d i elsewhere)))

-- a dropped section without bytes stands for none: no other section of its name is counted
counted-own : (b name d s : List ℕ) (i : ℕ) → IsPair b name d s → IsKept b i → is_counted s (kept_before b i) ≡ true → IsOwn b i
counted-own b name d s i p is h =
    let j = kept_before b i in
    let two = and-true (not (is_alloc (nth_section s j)) && not ((nth_section s j).kind == SHT_NULL)) (not (is_name_section s j)) h in
    let one = and-true (not (is_alloc (nth_section s j))) (not ((nth_section s j).kind == SHT_NULL)) two.0 in
    let table : (i == name_index b) ≡ false =
    sym (name_section-some b i p.split.named) ∙ sym (name_section-kept b name d s i p is) ∙ not-true (is_name_section s j) two.1 in
    let null : ((nth_section b i).kind == SHT_NULL) ≡ false =
    ap (λ (k : ℕ). k == SHT_NULL) (sym (p.stripped.heads i is).kind) ∙ not-true ((nth_section s j).kind == SHT_NULL) one.1 in
    record {
      plain = sym (alloc-kept b name d s i p is) ∙ not-true (is_alloc (nth_section s j)) one.0;
      full = λ e. (let no : true ≡ false = sym (eq-true (nth_section b i).kind SHT_NULL e) ∙ null in cc);
      other = λ e. (let no : true ≡ false = sym (eq-true i (name_index b) e) ∙ table in cc);
    }

kept-uncounted : (b name d s called : List ℕ) (i : ℕ) → IsPair b name d s → IsKept b i → is_debug_only_name called ≡ true
    → is_counted_named s called (kept_before b i) ≡ false
unfolding is_counted_named
kept-uncounted b name d s called i p is named =
    never (is_counted s (kept_before b i) && same_text (section_name s (kept_before b i)) called)
    (λ h.
    let both = and-true (is_counted s (kept_before b i)) (same_text (section_name s (kept_before b i)) called) h in
    let own = counted-own b name d s i p is both.0 in
    let same : section_name b i ≡ called = sym (p.stripped.names i is) ∙ same_text-true (section_name s (kept_before b i)) called both.1 in
    let unnamed : is_debug_only_name called ≡ false = ap (λ (n : List ℕ). is_debug_only_name n) (sym same) ∙ own-unnamed b i p.split is own in
    let no : true ≡ false = sym named ∙ unnamed in
    cc)

link-unnamed : is_debug_only_name debug_link ≡ false
link-unnamed = refl

link-uncounted : (b name d s called : List ℕ) → IsPair b name d s → is_debug_only_name called ≡ true
    → is_counted_named s called (kept_before b (section_count b)) ≡ false
unfolding is_counted_named
link-uncounted b name d s called p named =
    let last = kept_before b (section_count b) in
    never (is_counted s last && same_text (section_name s last) called)
    (λ h.
    let both = and-true (is_counted s last) (same_text (section_name s last) called) h in
    let same : debug_link ≡ called = sym p.stripped.link_name ∙ same_text-true (section_name s last) called both.1 in
    let unnamed : is_debug_only_name called ≡ false = ap (λ (n : List ℕ). is_debug_only_name n) (sym same) ∙ link-unnamed in
    let no : true ≡ false = sym named ∙ unnamed in
    cc)

none-agree : (b name d s called : List ℕ) → IsPair b name d s → is_debug_only_name called ≡ true
    → Agree b (λ i. false) (is_counted_named s called) (section_count b)
none-agree b name d s called p named = record {
  dropped = λ i lt dropped. refl;
  kept = λ i lt kept. kept-uncounted b name d s called i p (record { there = lt; kept = kept }) named;
}

pub dropped-found : (b name d s : List ℕ) (i : ℕ) → IsPair b name d s → i < section_count b → is_droppable b i ≡ true → (nth_section b i).kind ≡ SHT_NOBITS
    → stands_for d s i ≡ None
unfolding stands_for
dropped-found b name d s i p lt dropped kind =
    let called = section_name d i in
    let new = is_counted_named s called in
    let k = count_below (is_elsewhere_named d called) i in
    let last = kept_before b (section_count b) in
    let named : is_debug_only_name called ≡ true = ap (λ (n : List ℕ). is_debug_only_name n) (p.debug.names i lt) ∙ dropped-named b i dropped kind in
    let count : section_count s ≡ suc last = p.stripped.count ∙ omega arith in
    ap (λ (n : ℕ). nth_below new k n) count
    ∙ ap (λ (t : Bool). or_this (nth_below new k last) last (t && count_below new last == k)) (link-uncounted b name d s called p named)
    ∙ or-none (nth_below new k last) last
    ∙ nths-agree b (λ j. false) new k (section_count b) (section_count b) (none-agree b name d s called p named) (omega arith)
    ∙ ap (renumbered b) (nth-none k (section_count b))

-- the sections of the pair
-- as a file has them in which nothing is relocated
abbrev pub whole : List ℕ → Bool → Bool → Bool → List ℕ → ViewSection
whole n a t h c = record {
  name = n;
  alloc = a;
  is_name_table = t;
  has_bytes = h;
  contents = plain_contents c;
  relocations = [];
  relocates_read = false;
}

wholes-same : (n m : List ℕ) (a e t u h g : Bool) (c f : List ℕ) → n ≡ m → a ≡ e → t ≡ u → h ≡ g → c ≡ f → whole n a t h c ≡ whole m e u g f
wholes-same n m a e t u h g c f one two three four five =
    ap (λ (x : List ℕ). whole x a t h c) one
    ∙ ap (λ (x : Bool). whole m x t h c) two
    ∙ ap (λ (x : Bool). whole m e x h c) three
    ∙ ap (λ (x : Bool). whole m e u x c) four
    ∙ ap (λ (x : List ℕ). whole m e u g x) five

view-whole : (b : List ℕ) (i : ℕ) → is_loaded_kind b ≡ true
    → view_section b i ≡ whole (section_name b i) (is_alloc (nth_section b i)) (is_name_section b i) (not (is_empty_kind (nth_section b i))) (contents_of b i)
unfolding view_section
view-whole b i loaded = rw (relocations_of-loaded (contents_of b) b i loaded, relocates_read-loaded b i loaded) refl

joined-whole : (d s : List ℕ) (i : ℕ) (o : Option ℕ) → is_loaded_kind d ≡ true → stands_for d s i ≡ o
    → joined_section d s i ≡ whole (section_name d i) (is_alloc (nth_section d i)) (is_name_section d i) (found_bytes s o) (found_contents s o)
joined-whole d s i o loaded is = rw (relocations_of-loaded (contents_of d) d i loaded, relocates_read-loaded d i loaded, is) refl

pair-joined : (d s : List ℕ) (i : ℕ) → is_elsewhere d i ≡ true → pair_section d s i ≡ joined_section d s i
unfolding pair_section
pair-joined d s i elsewhere = rw elsewhere refl

pair-own : (d s : List ℕ) (i : ℕ) → is_elsewhere d i ≡ false → pair_section d s i ≡ view_section d i
unfolding pair_section
pair-own d s i here = rw here refl

empty-by : (s t : Section) → s.kind ≡ t.kind → is_empty_kind s ≡ is_empty_kind t
empty-by s t same = rw same refl

nobits-empty : (b : List ℕ) (i : ℕ) → (nth_section b i).kind ≡ SHT_NOBITS → contents_of b i ≡ []
unfolding contents_of
nobits-empty b i is = contents-empty b (nth_section b i) (rw is refl)

nobits-none : (s : Section) → s.kind ≡ SHT_NOBITS → not (is_empty_kind s) ≡ false
nobits-none s is = rw is refl

-- a kept section, by the one for which it stands
kept-joins : (b name d s : List ℕ) (i : ℕ) → IsPair b name d s → IsKept b i → IsOwn b i → is_elsewhere d i ≡ true → pair_section d s i ≡ view_section b i
kept-joins b name d s i p is own elsewhere =
    let j = kept_before b i in
    pair-joined d s i elsewhere
    ∙ joined-whole d s i (Some j) (debug-loaded b name d s p) (kept-found b name d s i p is own elsewhere)
    ∙ wholes-same (section_name d i) (section_name b i) (is_alloc (nth_section d i)) (is_alloc (nth_section b i)) (is_name_section d i) (is_name_section b i)
    (not (is_empty_kind (nth_section s j))) (not (is_empty_kind (nth_section b i))) (contents_of s j) (contents_of b i)
    (p.debug.names i is.there) (alloc-debug b name d s i p is.there) (name_section-debug b name d s i p)
    (ap not (empty-by (nth_section s j) (nth_section b i) (p.stripped.heads i is).kind)) (p.stripped.contents i is own.other)
    ∙ sym (view-whole b i p.split.loaded)

-- one without bytes in either file
dropped-joins : (b name d s : List ℕ) (i : ℕ) → IsPair b name d s → i < section_count b → is_droppable b i ≡ true → (nth_section b i).kind ≡ SHT_NOBITS
    → is_elsewhere d i ≡ true → pair_section d s i ≡ view_section b i
dropped-joins b name d s i p lt dropped kind elsewhere =
    pair-joined d s i elsewhere
    ∙ joined-whole d s i None (debug-loaded b name d s p) (dropped-found b name d s i p lt dropped kind)
    ∙ wholes-same (section_name d i) (section_name b i) (is_alloc (nth_section d i)) (is_alloc (nth_section b i)) (is_name_section d i) (is_name_section b i)
    false (not (is_empty_kind (nth_section b i))) [] (contents_of b i)
    (p.debug.names i lt) (alloc-debug b name d s i p lt) (name_section-debug b name d s i p)
    (sym (nobits-none (nth_section b i) kind)) (sym (nobits-empty b i kind))
    ∙ sym (view-whole b i p.split.loaded)

-- one that counts from the debug file
own-joins : (b name d s : List ℕ) (i : ℕ) → IsPair b name d s → i < section_count b → becomes_nobits b i ≡ false → is_elsewhere d i ≡ false
    → pair_section d s i ≡ view_section b i
own-joins b name d s i p lt plain here =
    let kind : (nth_section d i).kind ≡ (nth_section b i).kind =
    kind-debug b name d s i p lt ∙ ap (λ (t : Bool). if t then SHT_NOBITS else (nth_section b i).kind) plain in
    pair-own d s i here
    ∙ view-whole d i (debug-loaded b name d s p)
    ∙ wholes-same (section_name d i) (section_name b i) (is_alloc (nth_section d i)) (is_alloc (nth_section b i)) (is_name_section d i) (is_name_section b i)
    (not (is_empty_kind (nth_section d i))) (not (is_empty_kind (nth_section b i))) (contents_of d i) (contents_of b i)
    (p.debug.names i lt) (alloc-debug b name d s i p lt) (name_section-debug b name d s i p)
    (ap not (empty-by (nth_section d i) (nth_section b i) kind)) (p.debug.contents i lt plain)
    ∙ sym (view-whole b i p.split.loaded)

pub other-name : (b : List ℕ) (i : ℕ) → name_index b ≢ 0 → is_name_section b i ≡ false → i ≢ name_index b
other-name b i some none e =
    let no : true ≡ false = sym (eq-true i (name_index b) e) ∙ sym (name_section-some b i some) ∙ none in
    cc

-- a section that becomes one without bytes is kept
pub nobits-own : (b : List ℕ) (i : ℕ) → becomes_nobits b i ≡ true → i < section_count b → IsKept b i
nobits-own b i nobits lt = record {
  there = lt;
  kept = never (is_droppable b i) (λ dropped. (let no : true ≡ false = sym nobits ∙ nobits-dropped b i dropped in cc));
}

pub nobits-full : (b : List ℕ) (i : ℕ) → becomes_nobits b i ≡ true → (nth_section b i).kind ≢ SHT_NULL
unfolding becomes_nobits
nobits-full b i nobits null =
    let first = and-true ((not (is_droppable b i) && not ((nth_section b i).kind == SHT_NULL)) && not (i == name_index b))
    (not (is_alloc (nth_section b i) && (nth_section b i).kind == SHT_NOTE)) nobits in
    let second = and-true (not (is_droppable b i) && not ((nth_section b i).kind == SHT_NULL)) (not (i == name_index b)) first.0 in
    let third = and-true (not (is_droppable b i)) (not ((nth_section b i).kind == SHT_NULL)) second.0 in
    let no : true ≡ false = sym (eq-true (nth_section b i).kind SHT_NULL null) ∙ not-true ((nth_section b i).kind == SHT_NULL) third.1 in
    cc

all-yes : (x y z : Bool) → x ≡ true → y ≡ false → z ≡ false → ((x && not y) && not z) ≡ true
all-yes x y z one two three = rw (one, two, three) refl

pub kind-nobits : (b name d s : List ℕ) (i : ℕ) → IsPair b name d s → i < section_count b → becomes_nobits b i ≡ true → (nth_section d i).kind ≡ SHT_NOBITS
kind-nobits b name d s i p lt nobits = kind-debug b name d s i p lt ∙ ap (λ (t : Bool). if t then SHT_NOBITS else (nth_section b i).kind) nobits

pub elsewhere-nobits : (b name d s : List ℕ) (i : ℕ) → IsPair b name d s → i < section_count b → (nth_section d i).kind ≡ SHT_NOBITS → is_alloc (nth_section b i) ≡ false
    → is_name_section b i ≡ false → is_elsewhere d i ≡ true
elsewhere-nobits b name d s i p lt kind plain other =
    all-yes ((nth_section d i).kind == SHT_NOBITS) (is_alloc (nth_section d i)) (is_name_section d i) (eq-true (nth_section d i).kind SHT_NOBITS kind)
    (alloc-debug b name d s i p lt ∙ plain) (name_section-debug b name d s i p ∙ other)

-- a section that doesn't, and has no bytes, is dropped
pub plain-dropped : (b : List ℕ) (i : ℕ) → becomes_nobits b i ≡ false → (nth_section b i).kind ≡ SHT_NOBITS → is_alloc (nth_section b i) ≡ false → i ≢ name_index b
    → i < section_count b → is_droppable b i ≡ true
plain-dropped b i plain kind unloaded other lt =
    elim (cases_Bool (is_droppable b i)) [
      | inl dropped ↦ dropped
      | inr kept ↦
          let is : IsKept b i = record { there = lt; kept = kept } in
          let full : ((nth_section b i).kind == SHT_NULL) ≡ false = eq-false (nth_section b i).kind SHT_NULL (λ e. (let no : SHT_NOBITS ≡ SHT_NULL = sym kind ∙ e in omega arith)) in
          let yes : becomes_nobits b i ≡ true = nobits-kept b i is unloaded ∙ both-not ((nth_section b i).kind == SHT_NULL) (i == name_index b) full (eq-false i (name_index b) other) in
          let no : true ≡ false = sym yes ∙ plain in
          cc
    ]
  where
    both-not : (x y : Bool) → x ≡ false → y ≡ false → (not x && not y) ≡ true
    both-not x y one two = rw (one, two) refl

section-joins : (b name d s : List ℕ) (i : ℕ) → IsPair b name d s → i < section_count b → is_alloc (nth_section b i) ≡ false → is_name_section b i ≡ false
    → pair_section d s i ≡ view_section b i
section-joins b name d s i p lt plain table =
    let other = other-name b i p.split.named table in
    elim (cases_Bool (becomes_nobits b i)) [
      | inl nobits ↦
          kept-joins b name d s i p (nobits-own b i nobits lt) (record { plain = plain; full = nobits-full b i nobits; other = other })
          (elsewhere-nobits b name d s i p lt (kind-nobits b name d s i p lt nobits) plain table)
      | inr stays ↦
          let kind : (nth_section d i).kind ≡ (nth_section b i).kind =
          kind-debug b name d s i p lt ∙ ap (λ (t : Bool). if t then SHT_NOBITS else (nth_section b i).kind) stays in
          elim (cases_eq (nth_section b i).kind SHT_NOBITS) [
            | inl empty ↦
                dropped-joins b name d s i p lt (plain-dropped b i stays empty plain other lt) empty
                (elsewhere-nobits b name d s i p lt (kind ∙ empty) plain table)
            | inr full ↦
                own-joins b name d s i p lt stays
                (never (is_elsewhere d i) (λ h. full (sym kind ∙ (elsewhere-is d i h).kind)))
          ]
    ]

-- the section name table counts from the debug file
table-joins : (b name d s : List ℕ) (i : ℕ) → IsPair b name d s → i < section_count b → is_name_section b i ≡ true → pair_section d s i ≡ view_section b i
table-joins b name d s i p lt table =
    let own : i ≡ name_index b = eq-is i (name_index b) (sym (name_section-some b i p.split.named) ∙ table) in
    own-joins b name d s i p lt (ap (becomes_nobits b) own ∙ nobits-names b)
    (never (is_elsewhere d i)
    (λ h. (let no : true ≡ false = sym (name_section-debug b name d s i p ∙ table) ∙ (elsewhere-is d i h).other in cc)))

plain-joins : (b name d s : List ℕ) (i : ℕ) → IsPair b name d s → i < section_count b → is_alloc (nth_section b i) ≡ false → pair_section d s i ≡ view_section b i
plain-joins b name d s i p lt plain =
    elim (cases_Bool (is_name_section b i)) [
      | inl table ↦ table-joins b name d s i p lt table
      | inr other ↦ section-joins b name d s i p lt plain other
    ]

-- a loaded section without bytes has none in the debug file
empty-if : (t : Bool) (s d : Section) → d.kind ≡ (if t then SHT_NOBITS else s.kind) → is_empty_kind s ≡ true → is_empty_kind d ≡ true
empty-if true s d kind empty = rw kind refl
empty-if false s d kind empty = empty-by d s kind ∙ empty

no-contents : (b : List ℕ) (i : ℕ) → is_empty_kind (nth_section b i) ≡ true → contents_of b i ≡ []
unfolding contents_of
no-contents b i empty = contents-empty b (nth_section b i) empty

here-loaded : (b name d s : List ℕ) (i : ℕ) → IsPair b name d s → i < section_count b → is_alloc (nth_section b i) ≡ true → is_elsewhere d i ≡ false
here-loaded b name d s i p lt alloc =
    never (is_elsewhere d i)
    (λ h. (let no : true ≡ false = sym (alloc-debug b name d s i p lt ∙ alloc) ∙ (elsewhere-is d i h).plain in cc))

loaded-joins : (b name d s : List ℕ) (i : ℕ) → IsPair b name d s → i < section_count b → is_alloc (nth_section b i) ≡ true → is_empty_kind (nth_section b i) ≡ true
    → pair_section d s i ≡ view_section b i
loaded-joins b name d s i p lt alloc empty =
    let none = empty-if (becomes_nobits b i) (nth_section b i) (nth_section d i) (kind-debug b name d s i p lt) empty in
    pair-own d s i (here-loaded b name d s i p lt alloc)
    ∙ view-whole d i (debug-loaded b name d s p)
    ∙ wholes-same (section_name d i) (section_name b i) (is_alloc (nth_section d i)) (is_alloc (nth_section b i)) (is_name_section d i) (is_name_section b i)
    (not (is_empty_kind (nth_section d i))) (not (is_empty_kind (nth_section b i))) (contents_of d i) (contents_of b i)
    (p.debug.names i lt) (alloc-debug b name d s i p lt) (name_section-debug b name d s i p)
    (ap not (none ∙ sym empty)) (no-contents d i none ∙ sym (no-contents b i empty))
    ∙ sym (view-whole b i p.split.loaded)

empty-joins : (b name d s : List ℕ) (i : ℕ) → IsPair b name d s → i < section_count b → is_empty_kind (nth_section b i) ≡ true → pair_section d s i ≡ view_section b i
empty-joins b name d s i p lt empty =
    elim (cases_Bool (is_alloc (nth_section b i))) [
      | inl alloc ↦ loaded-joins b name d s i p lt alloc empty
      | inr plain ↦ plain-joins b name d s i p lt plain
    ]

-- names stay
same-names : (b name d s : List ℕ) (i : ℕ) (h : Bool) (c : List ℕ) → IsPair b name d s → i < section_count b
    → SameSection (whole (section_name d i) (is_alloc (nth_section d i)) (is_name_section d i) h c) (view_section b i)
unfolding view_section
same-names b name d s i h c p lt = record {
  name = p.debug.names i lt;
  alloc = alloc-debug b name d s i p lt;
  is_name_table = name_section-debug b name d s i p;
  relocates_read = sym (relocates_read-loaded b i p.split.loaded);
}

names-join : (b name d s : List ℕ) (i : ℕ) → IsPair b name d s → i < section_count b → SameSection (pair_section d s i) (view_section b i)
names-join b name d s i p lt =
    elim (cases_Bool (is_elsewhere d i)) [
      | inl elsewhere ↦
          subst (λ (x : ViewSection). SameSection x (view_section b i)) (sym (pair-joined d s i elsewhere ∙ joined-whole d s i (stands_for d s i) (debug-loaded b name d s p) refl))
          (same-names b name d s i (found_bytes s (stands_for d s i)) (found_contents s (stands_for d s i)) p lt)
      | inr here ↦
          subst (λ (x : ViewSection). SameSection x (view_section b i)) (sym (pair-own d s i here ∙ view-whole d i (debug-loaded b name d s p)))
          (same-names b name d s i (not (is_empty_kind (nth_section d i))) (contents_of d i) p lt)
    ]

pub pair-joins : (b name d s : List ℕ) → IsPair b name d s → JoinsTo b d s
pair-joins b name d s p = record {
  order_is = p.debug.order_is;
  count = p.debug.count;
  named = λ i lt. names-join b name d s i p lt;
  sections = λ i lt plain. plain-joins b name d s i p lt plain;
  empty = λ i lt empty. empty-joins b name d s i p lt empty;
}
