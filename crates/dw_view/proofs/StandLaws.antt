-- The sections of a stripped file for which those of its debug file stand, found by the numbers of their names.
use Rattle.std.proofs.Common.{◌≡◌, ◌≢◌, ℕ, zero, suc, ◌+◌, ◌<◌, ◌≤◌, ◌==◌, ◌&&◌, Bool, true, false, List, [], ◌∷◌, ◌++◌, length, get_or, replicate, if◌then◌else◌, nat_eq, refl, sym, ap, ◌∙◌, arith, inl, inr, subst}
use Rattle.std.proofs.lemmas.Bool.{cases_eq, cases_Bool, eq-eqb, eqb-true}
use Rattle.std.proofs.Math.ListN.{set}
use Rattle.std.proofs.lemmas.List.{get_or-set_same, get_or-set_other, length-replicate, length-set}
use Rattle.std.specs.Prelude.{Option, Some, None}
use Rattle.std.specs.HashMap.{HashMap, get}
use Rattle.dw_base.specs.Elf.{section_count, section_name}
use Rattle.dw_base.specs.Lists.{tabulate}
use Rattle.dw_view.specs.PairViews.{count_below, is_counted, is_counted_named, is_elsewhere, is_elsewhere_named, stands_for}
use Rattle.dw_view.specs.SectionParts.{stand_of, stands_of}
use Rattle.dw_view.specs.Standing.{AreLeft, AreTaken, HeadSet, NextAre, PlaceSet, counted_before, flat, heads_of, is_counted_numbered, is_elsewhere_numbered, nth_numbered, stand_by, stands_by}
use Rattle.dw_view.specs.TextNumbers.{AreNamesNumbered}
use Rattle.dw_view.proofs.CountLaws.{Passes, count-alike, count-next, count-same, nth-alike, nth-found, nth-is, nth-over, nth-past}

-- tests by the number of a name
and-both : (x y : Bool) → x ≡ true → y ≡ true → (x && y) ≡ true
and-both x y one two = rw (one, two) refl

and-left : (x y : Bool) → (x && y) ≡ true → x ≡ true
and-left true y h = refl
and-left false y h = let no : false ≡ true = h in cc

and-right : (x y : Bool) → (x && y) ≡ true → y ≡ true
and-right true y h = h
and-right false y h = let no : false ≡ true = h in cc

and-fails : (x y : Bool) → (x ≡ true → y ≡ true → ⊥) → (x && y) ≡ false
and-fails true true h = absurd (h refl refl)
and-fails true false h = refl
and-fails false y h = refl

counted-own : (s ns : List ℕ) (j : ℕ) → is_counted s j ≡ true → is_counted_numbered s ns (get_or ns j 0) j ≡ true
unfolding is_counted_numbered
counted-own s ns j counted = and-both (is_counted s j) (get_or ns j 0 == get_or ns j 0) counted (eq-eqb (get_or ns j 0) (get_or ns j 0) refl)

counted-other : (s ns : List ℕ) (name j : ℕ) → get_or ns j 0 ≢ name → is_counted_numbered s ns name j ≡ false
unfolding is_counted_numbered
counted-other s ns name j other = and-fails (is_counted s j) (get_or ns j 0 == name) (λ counted same. other (eqb-true (get_or ns j 0) name same))

uncounted-named : (s ns : List ℕ) (name j : ℕ) → is_counted s j ≡ false → is_counted_numbered s ns name j ≡ false
unfolding is_counted_numbered
uncounted-named s ns name j none = and-fails (is_counted s j) (get_or ns j 0 == name) (λ counted same. (let no : true ≡ false = sym counted ∙ none in cc))

counted-parts : (s ns : List ℕ) (name j : ℕ) → is_counted_numbered s ns name j ≡ true → (is_counted s j ≡ true) × (get_or ns j 0 ≡ name)
unfolding is_counted_numbered
counted-parts s ns name j h =
    (and-left (is_counted s j) (get_or ns j 0 == name) h, eqb-true (get_or ns j 0) name (and-right (is_counted s j) (get_or ns j 0 == name) h))

elsewhere-own : (d os : List ℕ) (i : ℕ) → is_elsewhere d i ≡ true → is_elsewhere_numbered d os (get_or os i 0) i ≡ true
unfolding is_elsewhere_numbered
elsewhere-own d os i elsewhere = and-both (is_elsewhere d i) (get_or os i 0 == get_or os i 0) elsewhere (eq-eqb (get_or os i 0) (get_or os i 0) refl)

elsewhere-other : (d os : List ℕ) (name i : ℕ) → get_or os i 0 ≢ name → is_elsewhere_numbered d os name i ≡ false
unfolding is_elsewhere_numbered
elsewhere-other d os name i other = and-fails (is_elsewhere d i) (get_or os i 0 == name) (λ here same. other (eqb-true (get_or os i 0) name same))

here-named : (d os : List ℕ) (name i : ℕ) → is_elsewhere d i ≡ false → is_elsewhere_numbered d os name i ≡ false
unfolding is_elsewhere_numbered
here-named d os name i none = and-fails (is_elsewhere d i) (get_or os i 0 == name) (λ here same. (let no : true ≡ false = sym here ∙ none in cc))

differs : (x y : ℕ) → (x == y) ≡ false → x ≢ y
differs x y apart same =
    let no : true ≡ false = sym (eq-eqb x y same) ∙ apart in
    cc

-- one number further
count-other : (test : ℕ → Bool) (j : ℕ) → test j ≡ false → count_below test (j + 1) ≡ count_below test j
count-other test j fails =
    let next : j + 1 ≡ suc j = omega arith in
    ap (count_below test) next ∙ count-same test j fails

count-further : (test : ℕ → Bool) (j : ℕ) → test j ≡ true → count_below test (j + 1) ≡ count_below test j + 1
count-further test j passes =
    let next : j + 1 ≡ suc j = omega arith in
    ap (count_below test) next ∙ count-next test j passes

-- no section is left behind the last
pub left-none : (s ns : List ℕ) (heads : ℕ → Option ℕ) (next : List (Option ℕ)) (count n : ℕ) → ((name : ℕ) → heads name ≡ None) → count ≡ section_count s
    → next ≡ replicate count None → n ≡ count → AreLeft s ns n heads next
left-none s ns heads next count n none count_is next_is n_is = record {
  heads_are = λ name. none name
      ∙ sym (nth-past (is_counted_numbered s ns name) (counted_before s ns name n) (section_count s)
      (subst (λ (k : ℕ). counted_before s ns name (section_count s) ≤ counted_before s ns name k) (sym (n_is ∙ count_is)) (omega arith)));
  size = ap (λ (xs : List (Option ℕ)). length xs) next_is ∙ length-replicate count None ∙ count_is;
  next_are = λ i le lt counted. absurd (omega (arith, n_is, count_is));
}

-- a section for which none may stand is passed
pub left-passed : (s ns : List ℕ) (j : ℕ) (counted : Bool) (heads : ℕ → Option ℕ) (next : List (Option ℕ)) → counted ≡ is_counted s j → counted ≡ false
    → AreLeft s ns (j + 1) heads next → AreLeft s ns j heads next
left-passed s ns j counted heads next is none left = record {
  heads_are = λ name. left.heads_are name
      ∙ ap (λ (k : ℕ). nth_numbered s ns name k) (count-other (is_counted_numbered s ns name) j (uncounted-named s ns name j (sym is ∙ none)));
  size = left.size;
  next_are = λ i le lt here.
      left.next_are i
      (elim (cases_eq i j) [
        | inl same ↦ (let no : true ≡ false = sym here ∙ ap (λ (k : ℕ). is_counted s k) same ∙ sym is ∙ none in absurd cc)
        | inr other ↦ omega arith
      ]) lt here;
}

-- another is the first of its name, and those that were the first are the next
pub left-noted : (s ns : List ℕ) (name j : ℕ) (head : Option ℕ) (old new : ℕ → Option ℕ) (before next : List (Option ℕ)) → j < section_count s → is_counted s j ≡ true
    → name ≡ get_or ns j 0 → head ≡ old name → PlaceSet before next j head → HeadSet old new name (Some j) → AreLeft s ns (j + 1) old before → AreLeft s ns j new next
left-noted s ns name j head old new before next lt counted name_is head_is put set left = record {
  heads_are = λ other.
      elim (cases_Bool (name == other)) [
        | inl same ↦
            let own : get_or ns j 0 ≡ other = sym name_is ∙ eqb-true name other same in
            let passes : is_counted_numbered s ns other j ≡ true = ap (λ (n : ℕ). is_counted_numbered s ns n j) (sym own) ∙ counted-own s ns j counted in
            set.is other
            ∙ ap (λ (t : Bool). if t then Some j else old other) same
            ∙ sym (nth-is (is_counted_numbered s ns other) j (section_count s) lt passes)
        | inr differ ↦
            let fails = counted-other s ns other j (λ e. differs name other differ (name_is ∙ e)) in
            set.is other
            ∙ ap (λ (t : Bool). if t then Some j else old other) differ
            ∙ left.heads_are other
            ∙ ap (λ (k : ℕ). nth_numbered s ns other k) (count-other (is_counted_numbered s ns other) j fails)
      ];
  size = put.size ∙ left.size;
  next_are = λ i le below counts.
      elim (cases_eq i j) [
        | inl same ↦
            subst (λ (k : ℕ). get_or next k None ≡ nth_numbered s ns (get_or ns k 0) (counted_before s ns (get_or ns k 0) k + 1)) (sym same)
            (put.here
            ∙ head_is
            ∙ ap old name_is
            ∙ left.heads_are (get_or ns j 0)
            ∙ ap (λ (k : ℕ). nth_numbered s ns (get_or ns j 0) k) (count-further (is_counted_numbered s ns (get_or ns j 0)) j (counted-own s ns j counted)))
        | inr other ↦ put.others i other ∙ left.next_are i (omega arith) below counts
      ];
}

-- all are left where none is taken
pub taken-none : (d s ns os : List ℕ) (heads : ℕ → Option ℕ) (next : List (Option ℕ)) → AreLeft s ns 0 heads next → AreTaken d s ns os 0 heads
taken-none d s ns os heads next left = record { heads_are = left.heads_are }

pub next-all : (s ns : List ℕ) (heads : ℕ → Option ℕ) (next : List (Option ℕ)) → AreLeft s ns 0 heads next → NextAre s ns next
next-all s ns heads next left = record { size = left.size; next_are = λ i lt counted. left.next_are i (omega arith) lt counted }

-- a section that stands for none takes none
pub taken-passed : (d s ns os : List ℕ) (i : ℕ) (elsewhere : Bool) (heads : ℕ → Option ℕ) → elsewhere ≡ is_elsewhere d i → elsewhere ≡ false
    → AreTaken d s ns os i heads → AreTaken d s ns os (i + 1) heads
taken-passed d s ns os i elsewhere heads is none taken = record {
  heads_are = λ name. taken.heads_are name
      ∙ ap (λ (k : ℕ). nth_numbered s ns name k) (sym (count-other (is_elsewhere_numbered d os name) i (here-named d os name i (sym is ∙ none))));
}

pub stand-none : (d s ns os : List ℕ) (i : ℕ) (elsewhere : Bool) → elsewhere ≡ is_elsewhere d i → elsewhere ≡ false → None ≡ stand_by d s ns os i
unfolding stand_by
stand-none d s ns os i elsewhere is none = ap (λ (t : Bool). if t then stands_by d s ns os i else None) (sym none ∙ is)

-- another takes the first of its name that is left
pub stand-head : (d s ns os : List ℕ) (name i : ℕ) (elsewhere : Bool) (head : Option ℕ) (heads : ℕ → Option ℕ) → elsewhere ≡ is_elsewhere d i → elsewhere ≡ true
    → name ≡ get_or os i 0 → head ≡ heads name → AreTaken d s ns os i heads → head ≡ stand_by d s ns os i
unfolding stand_by
stand-head d s ns os name i elsewhere head heads is here name_is head_is taken =
    head_is
    ∙ ap heads name_is
    ∙ taken.heads_are (get_or os i 0)
    ∙ ap (λ (t : Bool). if t then nth_numbered s ns (get_or os i 0) (count_below (is_elsewhere_numbered d os (get_or os i 0)) i) else None) (sym here ∙ is)

pub head-within : (d s ns os : List ℕ) (name i h : ℕ) (heads : ℕ → Option ℕ) (next : List (Option ℕ)) (head : Option ℕ) → NextAre s ns next → AreTaken d s ns os i heads
    → head ≡ heads name → head ≡ Some h → h < length next
head-within d s ns os name i h heads next head next_is taken head_is some =
    let found = nth-found (is_counted_numbered s ns name) (count_below (is_elsewhere_numbered d os name) i) (section_count s) h (sym (taken.heads_are name) ∙ sym head_is ∙ some) in
    let below = found.below in
    let size = next_is.size in
    omega arith

-- and leaves the next
same-read : (xs : List (Option ℕ)) (i : ℕ) (x y : Option ℕ) → i < length xs → get_or xs i x ≡ get_or xs i y
same-read [] i x y lt = absurd (omega arith)
same-read (o ∷ os) zero x y lt = refl
same-read (o ∷ os) (suc i) x y lt = same-read os i x y (omega arith)

pub taken-set : (d s ns os : List ℕ) (name i h : ℕ) (x head after : Option ℕ) (old new : ℕ → Option ℕ) (next : List (Option ℕ)) → NextAre s ns next
    → is_elsewhere d i ≡ true → name ≡ get_or os i 0 → head ≡ old name → head ≡ Some h → after ≡ get_or next h x → h < length next
    → HeadSet old new name after → AreTaken d s ns os i old → AreTaken d s ns os (i + 1) new
taken-set d s ns os name i h x head after old new next next_is here name_is head_is some after_is within set taken = record {
  heads_are = λ other.
      elim (cases_Bool (name == other)) [
        | inl same ↦
            let called : name ≡ other = eqb-true name other same in
            let own : get_or os i 0 ≡ other = sym name_is ∙ called in
            let k = count_below (is_elsewhere_numbered d os other) i in
            let first : nth_numbered s ns other k ≡ Some h = sym (taken.heads_are other) ∙ ap old (sym called) ∙ sym head_is ∙ some in
            let found : Passes (is_counted_numbered s ns other) k (section_count s) h = nth-found (is_counted_numbered s ns other) k (section_count s) h first in
            let parts = counted-parts s ns other h found.passes in
            let passes : is_elsewhere_numbered d os other i ≡ true = ap (λ (n : ℕ). is_elsewhere_numbered d os n i) (sym own) ∙ elsewhere-own d os i here in
            set.is other
            ∙ ap (λ (t : Bool). if t then after else old other) same
            ∙ after_is
            ∙ same-read next h x None within
            ∙ next_is.next_are h found.below parts.0
            ∙ ap (λ (n : ℕ). nth_numbered s ns n (counted_before s ns n h + 1)) parts.1
            ∙ ap (λ (m : ℕ). nth_numbered s ns other (m + 1)) found.before
            ∙ ap (λ (m : ℕ). nth_numbered s ns other m) (sym (count-further (is_elsewhere_numbered d os other) i passes))
        | inr differ ↦
            let fails = elsewhere-other d os other i (λ e. differs name other differ (name_is ∙ e)) in
            set.is other
            ∙ ap (λ (t : Bool). if t then after else old other) differ
            ∙ taken.heads_are other
            ∙ ap (λ (m : ℕ). nth_numbered s ns other m) (sym (count-other (is_elsewhere_numbered d os other) i fails))
      ];
}

-- where none is left, none is
pub taken-over : (d s ns os : List ℕ) (name i : ℕ) (head : Option ℕ) (heads : ℕ → Option ℕ) → is_elsewhere d i ≡ true
    → name ≡ get_or os i 0 → head ≡ heads name → head ≡ None → AreTaken d s ns os i heads → AreTaken d s ns os (i + 1) heads
taken-over d s ns os name i head heads here name_is head_is none taken = record {
  heads_are = λ other.
      elim (cases_Bool (name == other)) [
        | inl same ↦
            let called : name ≡ other = eqb-true name other same in
            let own : get_or os i 0 ≡ other = sym name_is ∙ called in
            let k = count_below (is_elsewhere_numbered d os other) i in
            let gone : heads other ≡ None = ap heads (sym called) ∙ sym head_is ∙ none in
            let few : counted_before s ns other (section_count s) ≤ k = nth-over (is_counted_numbered s ns other) k (section_count s) (sym (taken.heads_are other) ∙ gone) in
            let passes : is_elsewhere_numbered d os other i ≡ true = ap (λ (n : ℕ). is_elsewhere_numbered d os n i) (sym own) ∙ elsewhere-own d os i here in
            gone
            ∙ sym (nth-past (is_counted_numbered s ns other) (k + 1) (section_count s) (omega (arith, few)))
            ∙ ap (λ (m : ℕ). nth_numbered s ns other m) (sym (count-further (is_elsewhere_numbered d os other) i passes))
        | inr differ ↦
            let fails = elsewhere-other d os other i (λ e. differs name other differ (name_is ∙ e)) in
            taken.heads_are other
            ∙ ap (λ (m : ℕ). nth_numbered s ns other m) (sym (count-other (is_elsewhere_numbered d os other) i fails))
      ];
}

-- what the code does
flat-if : (t : Bool) (head : Option ℕ) (old : Option (Option ℕ)) → flat (if t then Some head else old) ≡ (if t then head else flat old)
flat-if true head old = refl
flat-if false head old = refl

pub head-set : {S : Type 0} (old new : HashMap ℕ (Option ℕ) S) (name : ℕ) (head : Option ℕ)
    → ((o : ℕ) → get nat_eq new o ≡ (if name == o then Some head else get nat_eq old o)) → HeadSet (heads_of old) (heads_of new) name head
unfolding heads_of
head-set old new name head more = record { is = λ other. ap flat (more other) ∙ flat-if (name == other) head (get nat_eq old other) }

pub place-put : (old : List (Option ℕ)) (at : ℕ) (x : Option ℕ) → at < length old → PlaceSet old (set old at x) at x
place-put old at x lt = record {
  size = length-set old at x;
  here = get_or-set_same old at x None lt;
  others = λ i other. get_or-set_other old at i x None other;
}

pub stand-some : (d s ns os : List ℕ) (name i h : ℕ) (head : Option ℕ) (heads : ℕ → Option ℕ) → is_elsewhere d i ≡ true → name ≡ get_or os i 0 → head ≡ heads name
    → head ≡ Some h → AreTaken d s ns os i heads → Some h ≡ stand_by d s ns os i
stand-some d s ns os name i h head heads here name_is head_is some taken =
    sym some ∙ stand-head d s ns os name i true head heads (sym here) refl name_is head_is taken

pub stand-over : (d s ns os : List ℕ) (name i : ℕ) (head : Option ℕ) (heads : ℕ → Option ℕ) → is_elsewhere d i ≡ true → name ≡ get_or os i 0 → head ≡ heads name
    → head ≡ None → AreTaken d s ns os i heads → None ≡ stand_by d s ns os i
stand-over d s ns os name i head heads here name_is head_is none taken =
    sym none ∙ stand-head d s ns os name i true head heads (sym here) refl name_is head_is taken

pub stands-more : (d s ns os : List ℕ) (i : ℕ) (stands more : List (Option ℕ)) (o : Option ℕ) → stands ≡ tabulate (stand_by d s ns os) i → o ≡ stand_by d s ns os i
    → more ≡ stands ++ o ∷ [] → more ≡ tabulate (stand_by d s ns os) (i + 1)
stands-more d s ns os i stands more o is here m =
    let next : i + 1 ≡ suc i = omega arith in
    m ∙ ap (λ (l : List (Option ℕ)). l ++ o ∷ []) is ∙ ap (λ (x : Option ℕ). tabulate (stand_by d s ns os) i ++ x ∷ []) here
    ∙ sym (ap (tabulate (stand_by d s ns os)) next)

pub left-size : (s ns : List ℕ) (j : ℕ) (heads : ℕ → Option ℕ) (next : List (Option ℕ)) → AreLeft s ns (j + 1) heads next → j < section_count s → j < length next
left-size s ns j heads next left lt = let size = left.size in omega arith

-- which is by their names
stands-same : (d s ns os : List ℕ) (i : ℕ) → AreNamesNumbered s d ns os → i < section_count d → stands_by d s ns os i ≡ stands_for d s i
unfolding stands_for is_counted_numbered is_counted_named is_elsewhere_numbered is_elsewhere_named
stands-same d s ns os i are lt =
    ap (λ (k : ℕ). nth_numbered s ns (get_or os i 0) k)
    (count-alike (is_elsewhere_numbered d os (get_or os i 0)) (is_elsewhere_named d (section_name d i)) i
    (λ (k : ℕ) below. ap (λ (b : Bool). is_elsewhere d k && b) (are.own.tell k i (omega (arith, below, lt)) lt)))
    ∙ nth-alike (is_counted_numbered s ns (get_or os i 0)) (is_counted_named s (section_name d i)) (count_below (is_elsewhere_named d (section_name d i)) i) (section_count s)
    (λ (j : ℕ) below. ap (λ (b : Bool). is_counted s j && b) (are.between.tell j i below lt))

stand-same : (d s ns os : List ℕ) (i : ℕ) → AreNamesNumbered s d ns os → i < section_count d → stand_by d s ns os i ≡ stand_of d s i
unfolding stand_by stand_of
stand-same d s ns os i are lt = ap (λ (o : Option ℕ). if is_elsewhere d i then o else None) (stands-same d s ns os i are lt)

tabulate-alike : (f g : ℕ → Option ℕ) (n : ℕ) → ((i : ℕ) → i < n → f i ≡ g i) → tabulate f n ≡ tabulate g n
tabulate-alike f g zero same = refl
tabulate-alike f g (suc n) same =
    ap (λ (l : List (Option ℕ)). l ++ f n ∷ []) (tabulate-alike f g n (λ i lt. same i (omega (arith, lt))))
    ∙ ap (λ (o : Option ℕ). tabulate g n ++ o ∷ []) (same n (omega arith))

pub stands-over : (d s ns os : List ℕ) (stands : List (Option ℕ)) (count : ℕ) → AreNamesNumbered s d ns os → count ≡ section_count d → stands ≡ tabulate (stand_by d s ns os) count
    → stands ≡ stands_of d s
stands-over d s ns os stands count are count_is is =
    is ∙ ap (tabulate (stand_by d s ns os)) count_is ∙ tabulate-alike (stand_by d s ns os) (stand_of d s) (section_count d) (λ i lt. stand-same d s ns os i are lt)

pub ruleset set_rules = (head-set)

pub ruleset over_rules = (stands-over)

pub ruleset put_rules = (place-put)

pub ruleset counted_rules = (left-noted, left-size)

pub ruleset note_rules = (left-passed)

pub ruleset head_rules = (head-within, stand-some, stand-over, taken-set, taken-over)

pub ruleset take_rules = (taken-passed, stand-none)
