-- The kept sections of the debug file of a split are those that the stripped file has, and stand with them.
use Rattle.std.proofs.Common.{◌≡◌, ℕ, zero, suc, ◌-◌, ◌<◌, ◌≤◌, ◌==◌, ◌&&◌, ◌||◌, not, Bool, true, false, List, length, if◌then◌else◌, refl, sym, ap, ◌∙◌, arith, inl, inr}
use Rattle.std.proofs.lemmas.Bool.{cases_Bool, cases_lt, or_cases}
use Rattle.dw_base.specs.Elf.{is_empty_kind, name_index, nth_section, section_count, section_name}
use Rattle.dw_base.specs.Layout.{is_alloc, is_loaded_kind}
use Rattle.dw_base.specs.declared.elf_numbers.TheConstants.{SHT_NULL, SHT_NOBITS}
use Rattle.dw_base.specs.declared.records.Section.{Section}
use Rattle.dbg_split.specs.DebugFile.{becomes_nobits}
use Rattle.dbg_split.specs.Droppable.{drops_along, drops_itself, is_droppable, is_symbol_strings, may_drop, names_dropped, names_symbols, speaks_of_dropped}
use Rattle.dbg_split.specs.StrippedFile.{kept_before}
use Rattle.dbg_split.specs.StrippedReads.{IsKept, ReadsStripped}
use Rattle.dbg_split.proofs.JoinLaws.{IsPair, alloc-debug, eq-false, eq-is, kind-debug, never, nobits-kept}
use Rattle.dbg_split.proofs.KeptPartLaws.{before-less}
use Rattle.dbg_split.proofs.SplitLoadedLaws.{next-number, same-number}
use Rattle.dbg_split.proofs.StrippedLaws.{zero-kept}
use Rattle.dbg_unstrip.specs.Joined.{kept_place, partner_number}
use Rattle.dbg_unstrip.specs.Matching.{is_kept, link_number, partner_sections}
use Rattle.dbg_unstrip.proofs.MatchLaws.{first-own, partner_count, partner_is}
use Rattle.dbg_unstrip.proofs.NumberLaws.{length-with, length-without}
use Rattle.dw_base.specs.SectionNames.{is_debug_only_name}

-- what is said of a droppable section, by Booleans
may-of : (l m x y : Bool) → (l && ((m && x) || (m && y))) ≡ true → m ≡ true
may-of true true x y h = refl
may-of true false x y h = let no : false ≡ true = h in cc
may-of false m x y h = let no : false ≡ true = h in cc

may-parts : (z a n : Bool) → ((not z && not a) && not n) ≡ true → (a ≡ false) × (n ≡ false)
may-parts true a n h = let no : false ≡ true = h in cc
may-parts false true n h = let no : false ≡ true = h in cc
may-parts false false true h = let no : false ≡ true = h in cc
may-parts false false false h = (refl, refl)

dropped-may : (b : List ℕ) (i : ℕ) → is_droppable b i ≡ true → may_drop b i ≡ true
unfolding is_droppable drops_itself drops_along
dropped-may b i dropped =
    may-of (is_loaded_kind b) (may_drop b i)
    (is_debug_only_name (section_name b i) || (nth_section b i).kind == 2 || is_symbol_strings b i)
    (speaks_of_dropped b (nth_section b i)) dropped

pub dropped-plain : (b : List ℕ) (i : ℕ) → is_droppable b i ≡ true → (is_alloc (nth_section b i) ≡ false) × ((i == name_index b) ≡ false)
dropped-plain b i dropped = may-parts (i == 0) (is_alloc (nth_section b i)) (i == name_index b) (dropped-may b i dropped)

-- one without room is dropped for its name
named-only : (l m n q x y : Bool) → (l && ((m && ((n || false) || (false && q))) || (m && (((false || false) && x) || (false && y))))) ≡ true → n ≡ true
named-only true true true q x y h = refl
named-only true true false q x y h = let no : false ≡ true = h in cc
named-only true false n q x y h = let no : false ≡ true = h in cc
named-only false m n q x y h = let no : false ≡ true = h in cc

null-name : (b : List ℕ) (i : ℕ) → is_droppable b i ≡ true → (nth_section b i).kind ≡ SHT_NULL → is_debug_only_name (section_name b i) ≡ true
unfolding is_droppable drops_itself drops_along
null-name b i dropped kind =
    named-only (is_loaded_kind b) (may_drop b i) (is_debug_only_name (section_name b i)) (names_symbols b i)
    (names_dropped b (nth_section b i).link) (names_dropped b (nth_section b i).info) (rw kind at dropped)

nobits-name : (b : List ℕ) (i : ℕ) → is_droppable b i ≡ true → (nth_section b i).kind ≡ SHT_NOBITS → is_debug_only_name (section_name b i) ≡ true
unfolding is_droppable drops_itself drops_along
nobits-name b i dropped kind =
    named-only (is_loaded_kind b) (may_drop b i) (is_debug_only_name (section_name b i)) (names_symbols b i)
    (names_dropped b (nth_section b i).link) (names_dropped b (nth_section b i).info) (rw kind at dropped)

dropped-name : (b : List ℕ) (i : ℕ) → is_droppable b i ≡ true → is_empty_kind (nth_section b i) ≡ true → is_debug_only_name (section_name b i) ≡ true
dropped-name b i dropped empty =
    elim (or_cases ((nth_section b i).kind == SHT_NULL) ((nth_section b i).kind == SHT_NOBITS) empty) [
      | inl null ↦ null-name b i dropped (eq-is (nth_section b i).kind SHT_NULL null)
      | inr nobits ↦ nobits-name b i dropped (eq-is (nth_section b i).kind SHT_NOBITS nobits)
    ]

-- one that isn't droppable has no such name, or may not be dropped
no-name : (l m n x y w : Bool) → l ≡ true → m ≡ true → (l && ((m && ((n || x) || y)) || w)) ≡ false → n ≡ false
no-name true true true x y w e f h = let no : true ≡ false = h in cc
no-name true true false x y w e f h = refl
no-name true false n x y w e f h = let no : false ≡ true = f in cc
no-name false m n x y w e f h = let no : false ≡ true = e in cc

kept-name : (b : List ℕ) (i : ℕ) → is_loaded_kind b ≡ true → is_droppable b i ≡ false → may_drop b i ≡ true → is_debug_only_name (section_name b i) ≡ false
unfolding is_droppable drops_itself
kept-name b i loaded kept may =
    no-name (is_loaded_kind b) (may_drop b i) (is_debug_only_name (section_name b i)) ((nth_section b i).kind == 2) (is_symbol_strings b i) (drops_along b i) loaded may kept

may-be : (z a n : Bool) → z ≡ false → a ≡ false → n ≡ false → ((not z && not a) && not n) ≡ true
may-be z a n z_is a_is n_is = rw (z_is, a_is, n_is) refl

-- a kept section, by Booleans
kept-true : (z a n e m : Bool) → z ≡ false → (a ≡ false → n ≡ false → (e ≡ true) × (m ≡ false)) → (not z && ((a || n) || (e && not m))) ≡ true
kept-true true a n e m z_is h = let no : true ≡ false = z_is in cc
kept-true false true n e m z_is h = refl
kept-true false false true e m z_is h = refl
kept-true false false false e m z_is h = let both = h refl refl in rw (both.0, both.1) refl

kept-false : (z a n e m : Bool) → a ≡ false → n ≡ false → (e ≡ true → m ≡ true) → (not z && ((a || n) || (e && not m))) ≡ false
kept-false true a n e m a_is n_is h = refl
kept-false false true n e m a_is n_is h = let no : true ≡ false = a_is in cc
kept-false false false true e m a_is n_is h = let no : true ≡ false = n_is in cc
kept-false false false false true m a_is n_is h = rw (h refl) refl
kept-false false false false false m a_is n_is h = refl

pub nobits-dropped : (b : List ℕ) (i : ℕ) → is_droppable b i ≡ true → becomes_nobits b i ≡ false
unfolding becomes_nobits
nobits-dropped b i dropped = rw dropped refl

empty-by : (s : Section) (k : ℕ) → s.kind ≡ k → is_empty_kind s ≡ (k == SHT_NULL || k == SHT_NOBITS)
empty-by s k is = rw is refl

-- a kept one that isn't loaded and isn't the section name table takes no room in the debug file
empty-debug : (b name d s : List ℕ) (i : ℕ) → IsPair b name d s → IsKept b i → is_alloc (nth_section b i) ≡ false → (i == name_index b) ≡ false
    → is_empty_kind (nth_section d i) ≡ true
empty-debug b name d s i p is plain other =
    let nobits = nobits-kept b i is plain ∙ ap (λ (t : Bool). not ((nth_section b i).kind == SHT_NULL) && not t) other in
    empty-by (nth_section d i) _ (kind-debug b name d s i p is.there ∙ ap (λ (t : Bool). if t then SHT_NOBITS else (nth_section b i).kind) nobits)
    ∙ by_null ((nth_section b i).kind == SHT_NULL) refl
  where
    by_null : (t : Bool) → ((nth_section b i).kind == SHT_NULL) ≡ t
        → ((if not t && true then SHT_NOBITS else (nth_section b i).kind) == SHT_NULL || (if not t && true then SHT_NOBITS else (nth_section b i).kind) == SHT_NOBITS) ≡ true
    by_null true null = rw (eq-is (nth_section b i).kind SHT_NULL null) refl
    by_null false full = refl

pub kept-same : (b name d s : List ℕ) (i : ℕ) → IsPair b name d s → 0 < i → i < section_count b → is_kept d i ≡ not (is_droppable b i)
unfolding is_kept
kept-same b name d s i p some lt =
    let zero_is : (i == 0) ≡ false = eq-false i 0 (λ e. omega arith) in
    let alloc = alloc-debug b name d s i p lt in
    let names : (i == name_index d) ≡ (i == name_index b) = ap (λ (n : ℕ). i == n) p.debug.named in
    let called : section_name d i ≡ section_name b i = p.debug.names i lt in
    elim (cases_Bool (is_droppable b i)) [
      | inl dropped ↦
          let parts = dropped-plain b i dropped in
          let kind : (nth_section d i).kind ≡ (nth_section b i).kind =
          kind-debug b name d s i p lt ∙ ap (λ (t : Bool). if t then SHT_NOBITS else (nth_section b i).kind) (nobits-dropped b i dropped) in
          kept-false (i == 0) (is_alloc (nth_section d i)) (i == name_index d) (is_empty_kind (nth_section d i)) (is_debug_only_name (section_name d i))
          (alloc ∙ parts.0) (names ∙ parts.1)
          (λ empty.
          ap (λ (x : List ℕ). is_debug_only_name x) called
          ∙ dropped-name b i dropped (sym (empty-by (nth_section d i) (nth_section b i).kind kind) ∙ empty))
          ∙ ap not (sym dropped)
      | inr kept ↦
          let is : IsKept b i = record { there = lt; kept = kept } in
          kept-true (i == 0) (is_alloc (nth_section d i)) (i == name_index d) (is_empty_kind (nth_section d i)) (is_debug_only_name (section_name d i)) zero_is
          (λ plain other.
          let old_plain : is_alloc (nth_section b i) ≡ false = sym alloc ∙ plain in
          let old_other : (i == name_index b) ≡ false = sym names ∙ other in (
            empty-debug b name d s i p is old_plain old_other,
            ap (λ (x : List ℕ). is_debug_only_name x) called
                ∙ kept-name b i p.split.loaded kept (may-be (i == 0) (is_alloc (nth_section b i)) (i == name_index b) zero_is old_plain old_other),
          ))
          ∙ ap not (sym kept)
    ]

pub is-kept : (b name d s : List ℕ) (i : ℕ) → IsPair b name d s → 0 < i → IsKept b i → is_kept d i ≡ true
is-kept b name d s i p some is = kept-same b name d s i p some is.there ∙ ap not is.kept

pub is-dropped : (b name d s : List ℕ) (i : ℕ) → IsPair b name d s → i < section_count b → is_droppable b i ≡ true → is_kept d i ≡ false
is-dropped b name d s i p lt dropped =
    let some : 0 < i =
    elim (cases_lt 0 i) [
      | inl later ↦ later
      | inr first ↦
          let e : i ≡ 0 = omega arith in
          let no : true ≡ false = sym dropped ∙ ap (is_droppable b) e ∙ zero-kept b in
          absurd cc
    ] in
    kept-same b name d s i p some lt ∙ ap not dropped

pub kept-back : (b name d s : List ℕ) (i : ℕ) → IsPair b name d s → i < section_count b → is_kept d i ≡ true → (0 < i) × IsKept b i
kept-back b name d s i p lt kept =
    let some : 0 < i =
    elim (cases_lt 0 i) [
      | inl later ↦ later
      | inr first ↦
          let e : i ≡ 0 = omega arith in
          let no : true ≡ false = sym kept ∙ ap (is_kept d) e ∙ first-own d in
          absurd cc
    ] in (
      some,
      record {
        there = lt;
        kept = never (is_droppable b i) (λ dropped. (let no : true ≡ false = sym kept ∙ is-dropped b name d s i p lt dropped in cc));
      },
    )

-- so many are kept before each
pub place-before : (b name d s : List ℕ) (i : ℕ) → IsPair b name d s → i < section_count b → suc (kept_place d (suc i)) ≡ kept_before b (suc i)
place-before b name d s zero p lt = omega (arith, length-without (is_kept d) 0 (first-own d), next-number b 0 (zero-kept b))
place-before b name d s (suc n) p lt =
    let before = place-before b name d s n p (omega arith) in
    elim (cases_Bool (is_droppable b (suc n))) [
      | inl dropped ↦
          omega (arith, before, length-without (is_kept d) (suc n) (is-dropped b name d s (suc n) p lt dropped), same-number b (suc n) dropped)
      | inr kept ↦
          omega (arith, before, length-with (is_kept d) (suc n) (is-kept b name d s (suc n) p (omega arith) (record { there = lt; kept = kept })), next-number b (suc n) kept)
    ]

pub place-is : (b name d s : List ℕ) (i : ℕ) → IsPair b name d s → 0 < i → i ≤ section_count b → suc (kept_place d i) ≡ kept_before b i
place-is b name d s zero p some le = absurd (omega arith)
place-is b name d s (suc n) p some le = place-before b name d s n p (omega arith)

pub link-number : (b name s : List ℕ) → ReadsStripped b name s → link_number s ≡ kept_before b (section_count b)
unfolding link_number
link-number b name s r = omega (arith, r.count)

pub partners : (b name s : List ℕ) → ReadsStripped b name s → length (partner_sections s) ≡ kept_before b (section_count b) - 1
partners b name s r = partner_count s ∙ ap (λ (n : ℕ). n - 1) (link-number b name s r)

-- the one that stands with a kept section is it
pub partner-kept : (b name d s : List ℕ) (i : ℕ) → IsPair b name d s → 0 < i → IsKept b i → partner_number s d i ≡ kept_before b i
unfolding partner_number
partner-kept b name d s i p some is =
    let place = place-is b name d s i p some (omega (arith, is.there)) in
    let there : kept_place d i < length (partner_sections s) = omega (arith, place, partners b name s p.stripped, before-less b i (section_count b) is.there is.kept) in
    partner_is s (kept_place d i) there ∙ omega (arith, place)
