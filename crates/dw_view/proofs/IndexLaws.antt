-- Laws of the index of places.
use Rattle.std.proofs.Common.{◌≡◌, ℕ, ◌+◌, ◌*◌, ◌/◌, ◌<◌, ◌≤◌, List, [], ◌∷◌, ◌++◌, length, get_or, refl, sym, ◌∙◌, arith, subst, inl, inr}
use Rattle.std.proofs.lemmas.Bool.{cases_lt}
use Rattle.std.proofs.lemmas.List.{get_or_append_left, get_or_push, length-append}
use Rattle.dw_view.specs.Places.{BeginBefore, BeginFrom, HasPlace, IndexedUpTo, IsIndexed, IsPlaceGap, PlacesRise, place_at}
use Rattle.dw_view.specs.declared.places.PlacedRecord.{PlacedRecord}

-- before a greater place
before-more : (list : List PlacedRecord) (place more i : ℕ) → place ≤ more → BeginBefore list place i → BeginBefore list more i
before-more list place more i le h = record { inside = h.inside; before = λ k lt. let under = h.before k lt in omega (arith, under, le) }

-- none has a number yet
pub indexed-none : (list : List PlacedRecord) → IndexedUpTo list 0 []
indexed-none list = record { each = λ b lt. absurd (omega (arith, lt)); covers = λ i lt. absurd (omega (arith, lt)) }

-- the stretches so far, of the first n relocations
pub indexed-push : (list : List PlacedRecord) (n : ℕ) (firsts now : List ℕ) → n < length list → now ≡ firsts ++ n ∷ [] → IndexedUpTo list n firsts → IndexedUpTo list n now
indexed-push list n firsts now inside is h = subst (IndexedUpTo list n) (sym is) (record {
  each = λ b lt. elim (cases_lt b (length firsts)) [
    | inl under ↦ subst (BeginBefore list (b * 64)) (sym (get_or_append_left firsts (n ∷ []) 0 b under)) (h.each b under)
    | inr over ↦
        let size : length (firsts ++ n ∷ []) ≡ length firsts + 1 = length-append firsts (n ∷ []) in
        let same : b ≡ length firsts = omega (arith, lt, over, size) in
        subst (λ (m : ℕ). BeginBefore list (m * 64) (get_or (firsts ++ n ∷ []) m 0)) (sym same)
        (subst (BeginBefore list (length firsts * 64)) (sym own) (record { inside = omega (arith, inside); before = h.covers }))
  ];
  covers = λ i lt.
      let size : length (firsts ++ n ∷ []) ≡ length firsts + 1 = length-append firsts (n ∷ []) in
      let under = h.covers i lt in omega (arith, under, size);
})
  where
    own : get_or (firsts ++ n ∷ []) (length firsts) 0 ≡ n
    own = get_or_push firsts n 0 (length firsts) refl

pub indexed-more : (list : List PlacedRecord) (n place stretch count : ℕ) (firsts : List ℕ) → place ≡ place_at list n → stretch ≡ place / 64 → count ≡ length firsts
    → stretch < count → IndexedUpTo list n firsts → IndexedUpTo list (n + 1) firsts
indexed-more list n place stretch count firsts here is count_is lt h = record {
  each = h.each;
  covers = λ i below. elim (cases_lt i n) [
    | inl under ↦ h.covers i under
    | inr over ↦
        let same : i ≡ n = omega (arith, below, over) in
        subst (λ (k : ℕ). place_at list k < length firsts * 64) (sym same) (subst (λ (p : ℕ). p < length firsts * 64) here (omega (arith, is, count_is, lt)))
  ];
}

pub ruleset push_rules = (indexed-push, indexed-more)

pub indexed-all : (list : List PlacedRecord) (n : ℕ) (firsts : List ℕ) → n ≡ length list → PlacesRise list → IndexedUpTo list n firsts → IsIndexed list firsts
indexed-all list n firsts is rise h = record { rise = rise; indexed = subst (λ (m : ℕ). IndexedUpTo list m firsts) is h }

pub ruleset first_rules = (indexed-none, indexed-all)

-- the index of none
pub none-indexed : (list : List PlacedRecord) (firsts : List ℕ) → list ≡ [] → firsts ≡ [] → IsIndexed list firsts
none-indexed list firsts none none_too = subst (λ (xs : List PlacedRecord). IsIndexed xs firsts) (sym none) (subst (IsIndexed []) (sym none_too) (record {
  rise = record { rise = λ i j lt below. absurd (omega (arith, below)) };
  indexed = indexed-none [];
}))

pub ruleset none_rules = (none-indexed)

-- one near a place
pub near-behind : (list : List PlacedRecord) (firsts : List ℕ) (place stretch n : ℕ) → stretch ≡ place / 64 → length firsts ≤ stretch → n ≡ length list → IsIndexed list firsts
    → BeginBefore list place n
near-behind list firsts place stretch n is le n_is h = record {
  inside = omega (arith, n_is);
  before = λ k lt. let under = h.indexed.covers k (omega (arith, lt, n_is)) in omega (arith, under, le, is);
}

pub near-inside : (list : List PlacedRecord) (firsts : List ℕ) (place stretch n : ℕ) → stretch ≡ place / 64 → stretch < length firsts → n ≡ get_or firsts stretch 0 → IsIndexed list firsts
    → BeginBefore list place n
near-inside list firsts place stretch n is lt n_is h =
    subst (BeginBefore list place) (sym n_is) (before-more list (stretch * 64) place (get_or firsts stretch 0) (omega (arith, is)) (h.indexed.each stretch lt))

pub ruleset near_rules = (near-behind, near-inside)

-- the first at a place or behind it
pub before-next : (list : List PlacedRecord) (place at i : ℕ) → at ≡ place_at list i → at < place → i < length list → BeginBefore list place i → BeginBefore list place (i + 1)
before-next list place at i is lt inside h = record {
  inside = omega (arith, inside);
  before = λ k below. elim (cases_lt k i) [
    | inl under ↦ h.before k under
    | inr over ↦ let same : i ≡ k = omega (arith, below, over) in subst (λ (m : ℕ). place_at list m < place) same (subst (λ (p : ℕ). p < place) is lt)
  ];
}

pub behind-here : (list : List PlacedRecord) (place at i : ℕ) → at ≡ place_at list i → place ≤ at → PlacesRise list → BeginFrom list place i
behind-here list place at i is le rising = record {
  behind = λ k from lt. elim (cases_lt i k) [
    | inl under ↦ let rise = rising.rise i k under lt in omega (arith, rise, is, le)
    | inr over ↦ let same : i ≡ k = omega (arith, from, over) in subst (λ (m : ℕ). place ≤ place_at list m) same (subst (λ (p : ℕ). place ≤ p) is le)
  ];
}

pub behind-end : (list : List PlacedRecord) (place n : ℕ) → n ≡ length list → BeginFrom list place n
behind-end list place n is = record { behind = λ k from lt. absurd (omega (arith, from, lt, is)) }

pub before-end : (list : List PlacedRecord) (place n i : ℕ) → n ≡ length list → n ≤ i → BeginBefore list place i → BeginBefore list place n
before-end list place n i is le h = let inside = h.inside in record { inside = omega (arith, is); before = λ k lt. h.before k (omega (arith, lt, le)) }

pub ruleset from_rules = (before-next, behind-here, behind-end, before-end)

-- whether it begins there
pub with-found : (list : List PlacedRecord) (place at i : ℕ) → i < length list → at ≡ place_at list i → at ≡ place → HasPlace list place i
with-found list place at i inside is here = record { inside = inside; is = sym is ∙ here }

pub with-gap : (list : List PlacedRecord) (place i : ℕ) → ((i < length list) → place_at list i ≡ place → ⊥) → PlacesRise list → BeginBefore list place i → BeginFrom list place i
    → IsPlaceGap list place i
with-gap list place i other rising before behind = record {
  inside = before.inside;
  before = before.before;
  behind = λ k le lt. elim (cases_lt i k) [
    | inl under ↦ let rise = rising.rise i k under lt in let from = behind.behind i (omega arith) (omega (arith, under, lt)) in omega (arith, rise, from)
    | inr over ↦
        let same : i ≡ k = omega (arith, le, over) in
        subst (λ (m : ℕ). place < place_at list m) same (by_case (omega (arith, same, lt)))
  ];
}
  where
    by_case : i < length list → place < place_at list i
    by_case inside = elim (cases_lt place (place_at list i)) [
      | inl less ↦ less
      | inr more ↦ let from = behind.behind i (omega arith) inside in absurd (other inside (omega (arith, from, more)))
    ]

pub ruleset with_rules = (with-found, with-gap)
