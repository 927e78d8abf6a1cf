-- Where the build-id of a pair is.
use Rattle.std.proofs.Common.{◌≡◌, ◌≢◌, ℕ, zero, suc, ◌<◌, ◌==◌, ◌&&◌, not, Bool, true, false, List, if◌then◌else◌, refl, sym, ap, ◌∙◌, arith, inl, inr}
use Rattle.std.proofs.lemmas.Bool.{cases_Bool, cases_lt}
use Rattle.std.specs.Prelude.{Option, Some, None}
use Rattle.dw_base.specs.Elf.{contents_of, name_index, nth_section, order_of, section_count}
use Rattle.dw_base.specs.FileViews.{is_name_section}
use Rattle.dw_base.specs.Layout.{is_alloc}
use Rattle.dw_base.specs.Notes.{BuildId, Descriptor, build_id_at, build_id_in, build_id_of, first_below, id_in, is_id_section, or_this}
use Rattle.dw_base.specs.declared.elf_numbers.TheConstants.{SHT_NOBITS, SHT_NOTE, SHT_NULL}
use Rattle.dbg_split.specs.DebugFile.{becomes_nobits}
use Rattle.dw_view.specs.PairViews.{id_at, is_elsewhere, is_number, is_stand_in, moved_id, pair_view, stand_in, stands_for}
use Rattle.dbg_split.specs.StrippedFile.{kept_before}
use Rattle.dbg_split.specs.StrippedReads.{IsKept}
use Rattle.dbg_split.proofs.JoinLaws.{IsOwn, IsPair, alloc-debug, and-true, dropped-found, elsewhere-is, elsewhere-nobits, eq-false, eq-is, eq-true, kept-apart, kept-found, kind-debug, kind-nobits, name_section-debug, name_section-some, never, nobits-full, nobits-kept, nobits-own, other-name, plain-dropped}
use Rattle.dbg_split.proofs.SplitLoadedLaws.{all-same, build_id-is, id-contents, id-found, renumbered, strings-differ}

-- the first number that passes, where only one does or none
first-none : (f : ℕ → Bool) (n : ℕ) → ((i : ℕ) → i < n → f i ≡ false) → first_below f n ≡ None
first-none f zero none = refl
first-none f (suc n) none =
    ap (λ (o : Option ℕ). or_this o n (f n)) (first-none f n (λ i lt. none i (omega arith)))
    ∙ ap (λ (t : Bool). or_this None n t) (none n (omega arith))

first-only : (f : ℕ → Bool) (n i : ℕ) → i < n → f i ≡ true → ((j : ℕ) → j < n → f j ≡ true → j ≡ i) → first_below f n ≡ Some i
first-only f zero i lt passes only = absurd (omega arith)
first-only f (suc n) i lt passes only =
    elim (cases_lt i n) [
      | inl below ↦ ap (λ (o : Option ℕ). or_this o n (f n)) (first-only f n i below passes (λ j less. only j (omega arith)))
      | inr past ↦
          let e : n ≡ i = omega arith in
          ap (λ (o : Option ℕ). or_this o n (f n))
          (first-none f n (λ j less. never (f j) (λ h. (let no : j ≡ i = only j (omega arith) h in omega arith))))
          ∙ ap (λ (t : Bool). or_this None n t) (ap f e ∙ passes)
          ∙ ap (λ (k : ℕ). Some k) e
    ]

-- a section of the debug file that stands for one of the stripped file is a kept one, or stands for none
record StandsIn (b : List ℕ) (i : ℕ) : Type 0 where
  pub kept : IsKept b i
  pub own : IsOwn b i

stands-in : (b name d s : List ℕ) (j i : ℕ) → IsPair b name d s → j < section_count b → is_elsewhere d j ≡ true → is_number (stands_for d s j) i ≡ true → StandsIn b j
stands-in b name d s j i p lt elsewhere stands =
    let there = elsewhere-is d j elsewhere in
    let plain : is_alloc (nth_section b j) ≡ false = sym (alloc-debug b name d s j p lt) ∙ there.plain in
    let table : is_name_section b j ≡ false = sym (name_section-debug b name d s j p) ∙ there.other in
    let other = other-name b j p.split.named table in
    elim (cases_Bool (becomes_nobits b j)) [
      | inl nobits ↦ record {
        kept = nobits-own b j nobits lt;
        own = record { plain = plain; full = nobits-full b j nobits; other = other };
      }
      | inr stays ↦
          let kind : (nth_section b j).kind ≡ SHT_NOBITS =
          sym (kind-debug b name d s j p lt ∙ ap (λ (t : Bool). if t then SHT_NOBITS else (nth_section b j).kind) stays) ∙ there.kind in
          let none = dropped-found b name d s j p lt (plain-dropped b j stays kind plain other lt) kind in
          let no : true ≡ false = sym stands ∙ ap (λ (o : Option ℕ). is_number o i) none in
          absurd cc
    ]

-- so it is the section itself that stands for a kept one, where that isn't loaded
stand-in-parts : (d s : List ℕ) (i j : ℕ) → is_stand_in d s i j ≡ true → (is_elsewhere d j ≡ true) × (is_number (stands_for d s j) i ≡ true)
unfolding is_stand_in
stand-in-parts d s i j h = and-true (is_elsewhere d j) (is_number (stands_for d s j) i) h

record OnlyIts (b : List ℕ) (i j : ℕ) : Type 0 where
  pub same : j ≡ i
  pub plain : is_alloc (nth_section b i) ≡ false

only-its : (b name d s : List ℕ) (i j : ℕ) → IsPair b name d s → IsKept b i → j < section_count b → is_stand_in d s (kept_before b i) j ≡ true → OnlyIts b i j
only-its b name d s i j p is lt h =
    let parts = stand-in-parts d s (kept_before b i) j h in
    let its = stands-in b name d s j (kept_before b i) p lt parts.0 parts.1 in
    let found = kept-found b name d s j p its.kept its.own parts.0 in
    let numbers : kept_before b j ≡ kept_before b i =
    eq-is (kept_before b j) (kept_before b i) (sym (ap (λ (o : Option ℕ). is_number o (kept_before b i)) found) ∙ parts.1) in
    let same = kept-apart b j i its.kept is numbers in
    record { same = same; plain = ap (λ (n : ℕ). is_alloc (nth_section b n)) (sym same) ∙ its.own.plain }

note-full : (n : ℕ) → n ≡ SHT_NOTE → n ≢ SHT_NULL
note-full n is null = let no : SHT_NOTE ≡ SHT_NULL = sym is ∙ null in omega arith

both-not : (x y : Bool) → x ≡ false → y ≡ false → (not x && not y) ≡ true
both-not x y one two = rw (one, two) refl

note-other : (b name d s : List ℕ) (i : ℕ) → IsPair b name d s → (nth_section b i).kind ≡ SHT_NOTE → i ≢ name_index b
note-other b name d s i p kind e =
    strings-differ (nth_section b (name_index b)) (p.split.reads.debug.index.strings p.split.named) (ap (λ (n : ℕ). (nth_section b n).kind) (sym e) ∙ kind)

both-true : (x y : Bool) → x ≡ true → y ≡ true → (x && y) ≡ true
both-true x y one two = rw (one, two) refl

stand-in-by : (d s : List ℕ) (i j : ℕ) → is_elsewhere d j ≡ true → is_number (stands_for d s j) i ≡ true → is_stand_in d s i j ≡ true
unfolding is_stand_in
stand-in-by d s i j one two = both-true (is_elsewhere d j) (is_number (stands_for d s j) i) one two

stands-itself : (b name d s : List ℕ) (i : ℕ) → IsPair b name d s → IsKept b i → (nth_section b i).kind ≡ SHT_NOTE → is_alloc (nth_section b i) ≡ false
    → is_stand_in d s (kept_before b i) i ≡ true
stands-itself b name d s i p is kind plain =
    let full = note-full (nth_section b i).kind kind in
    let other = note-other b name d s i p kind in
    let nobits : becomes_nobits b i ≡ true =
    nobits-kept b i is plain
    ∙ both-not ((nth_section b i).kind == SHT_NULL) (i == name_index b) (eq-false (nth_section b i).kind SHT_NULL full) (eq-false i (name_index b) other) in
    let table : is_name_section b i ≡ false = name_section-some b i p.split.named ∙ eq-false i (name_index b) other in
    let elsewhere = elsewhere-nobits b name d s i p is.there (kind-nobits b name d s i p is.there nobits) plain table in
    let found = kept-found b name d s i p is (record { plain = plain; full = full; other = other }) elsewhere in
    stand-in-by d s (kept_before b i) i elsewhere
    (ap (λ (o : Option ℕ). is_number o (kept_before b i)) found ∙ eq-true (kept_before b i) (kept_before b i) refl)

stand_in-is : (d s : List ℕ) (j : ℕ) → stand_in d s j ≡ first_below (is_stand_in d s j) (section_count d)
unfolding stand_in
stand_in-is d s j = refl

stand_in-own : (b name d s : List ℕ) (i : ℕ) → IsPair b name d s → IsKept b i → (nth_section b i).kind ≡ SHT_NOTE → is_alloc (nth_section b i) ≡ false
    → stand_in d s (kept_before b i) ≡ Some i
stand_in-own b name d s i p is kind plain =
    let j = kept_before b i in
    stand_in-is d s j
    ∙ ap (λ (n : ℕ). first_below (is_stand_in d s j) n) p.debug.count
    ∙ first-only (is_stand_in d s j) (section_count b) i is.there (stands-itself b name d s i p is kind plain)
    (λ k lt h. (only-its b name d s i k p is lt h).same)

stand_in-none : (b name d s : List ℕ) (i : ℕ) → IsPair b name d s → IsKept b i → is_alloc (nth_section b i) ≡ true → stand_in d s (kept_before b i) ≡ None
stand_in-none b name d s i p is alloc =
    let j = kept_before b i in
    stand_in-is d s j
    ∙ ap (λ (n : ℕ). first_below (is_stand_in d s j) n) p.debug.count
    ∙ first-none (is_stand_in d s j) (section_count b)
    (λ k lt. never (is_stand_in d s j k)
    (λ h. (let no : true ≡ false = sym alloc ∙ (only-its b name d s i k p is lt h).plain in cc)))

-- the build-id is where it was in the file, or in no section of the pair, where its own is loaded
pub data IdMoves (b d s : List ℕ) : Type 0 where
  same_id : (pair_view d s).id ≡ build_id_of b → IdMoves b d s
  unloaded_id : (id : BuildId) → build_id_of b ≡ Some id → (pair_view d s).id ≡ None → id.section < section_count b
      → is_alloc (nth_section b id.section) ≡ true → IdMoves b d s

pair-id : (d s : List ℕ) → (pair_view d s).id ≡ moved_id d s (build_id_of s)
unfolding pair_view
pair-id d s = refl

by-descriptor : (b name d s : List ℕ) (i : ℕ) (o : Option Descriptor) → IsPair b name d s → IsKept b i → (nth_section b i).kind ≡ SHT_NOTE
    → build_id_of s ≡ build_id_at (kept_before b i) o → build_id_of b ≡ build_id_at i o → IdMoves b d s
by-descriptor b name d s i None p is kind new old = same_id (pair-id d s ∙ ap (λ (x : Option BuildId). moved_id d s x) new ∙ sym old)
by-descriptor b name d s i (Some own) p is kind new old =
    let moved : (pair_view d s).id ≡ id_at (record { section = kept_before b i; descriptor = own }) (stand_in d s (kept_before b i)) =
    pair-id d s ∙ ap (λ (x : Option BuildId). moved_id d s x) new in
    elim (cases_Bool (is_alloc (nth_section b i))) [
      | inl alloc ↦
          unloaded_id (record { section = i; descriptor = own }) old
          (moved ∙ ap (λ (x : Option ℕ). id_at (record { section = kept_before b i; descriptor = own }) x) (stand_in-none b name d s i p is alloc))
          is.there alloc
      | inr plain ↦
          same_id
          (moved
          ∙ ap (λ (x : Option ℕ). id_at (record { section = kept_before b i; descriptor = own }) x) (stand_in-own b name d s i p is kind plain)
          ∙ sym old)
    ]

by-number : (b name d s : List ℕ) (o : Option ℕ) → IsPair b name d s → first_below (is_id_section b) (section_count b) ≡ o → build_id_of s ≡ build_id_in s (renumbered b o)
    → build_id_of b ≡ build_id_in b o → IdMoves b d s
by-number b name d s None p found new old = same_id (pair-id d s ∙ ap (λ (x : Option BuildId). moved_id d s x) new ∙ sym old)
by-number b name d s (Some i) p found new old =
    let is = id-found b i found in
    by-descriptor b name d s i (id_in (order_of b) (contents_of b i)) p is.0 is.1
    (new ∙ ap (λ (x : Option Descriptor). build_id_at (kept_before b i) x) (id-contents b name s i p.split p.stripped is.0 is.1)) old

pub id-moves : (b name d s : List ℕ) → IsPair b name d s → IdMoves b d s
id-moves b name d s p =
    let o = first_below (is_id_section b) (section_count b) in
    by-number b name d s o p refl (build_id-is s ∙ ap (λ (x : Option ℕ). build_id_in s x) (all-same b name s p.stripped)) (build_id-is b)
