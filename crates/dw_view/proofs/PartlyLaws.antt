-- Laws of the search for a relocation that lies on a field only in part.
use Rattle.std.proofs.Common.{◌≡◌, ◌≢◌, ℕ, zero, suc, ◌+◌, ◌-◌, ◌<◌, ◌≤◌, Bool, true, false, if◌then◌else◌, ◌==◌, ◌&&◌, not, nat_lt, List, length, get_or, Option, Some, None, refl, sym, ap, ◌∙◌, arith, subst, inl, inr}
use Rattle.std.specs.Prelude.{Contains, slice_index_or, unwrap_or}
use Rattle.std.proofs.lemmas.Bool.{cases_lt, eq-eqb, lt-ltb, le-ltb, ne_eqb}
use Rattle.std.proofs.lemmas.List.{get_or_default}
use Rattle.std.proofs.lemmas.List.Elements.{Contains-get_or}
use Rattle.dw_base.specs.AbsoluteTypes.{absolute_size, absolute_types, eight_by, size_in}
use Rattle.dw_base.specs.Cells.{Relocation}
use Rattle.dw_base.specs.Notes.{first_below, or_this}
use Rattle.dw_base.specs.RelocationFields.{meets_partly, reach_of}
use Rattle.dw_base.specs.Relocs.{reloc_at}
use Rattle.dw_base.specs.SectionRelocations.{RelocationSource, is_none_type, records_in, relocation_in, relocation_of, relocations_in}
use Rattle.dw_base.specs.declared.relocations.AbsoluteTypes.{AbsoluteTypes}
use Rattle.dw_base.specs.declared.relocations.Reloc.{Reloc}
use Rattle.dw_base.proofs.RelocationTieLaws.{first-among, get_or-records, record-there}
use Rattle.dw_base.proofs.SectionRelocationLaws.{first_below-none}
use Rattle.dw_view.specs.Places.{BeginBefore, Lists, NoneMet, PlacesRise, index_of, partly_among, place_at, placed_record, reaches_over, record_of, relocation_at_number}
use Rattle.dw_view.specs.declared.places.PlacedRecord.{PlacedRecord}
use Rattle.dw_view.proofs.PlaceLaws.{number-of, place-found, record-is}

abbrev no_item : PlacedRecord
no_item = record { place = 0; index = 0 }

-- the first number that passes
pub first_below-first : (f : ℕ → Bool) (n i : ℕ) → i < n → f i ≡ true → ((k : ℕ) → k < i → f k ≡ false) → first_below f n ≡ Some i
first_below-first f zero i lt passes other = absurd (omega (arith, lt))
first_below-first f (suc n) i lt passes other = elim (cases_lt i n) [
  | inl below ↦ ap (λ (o : Option ℕ). or_this o n (f n)) (first_below-first f n i below passes other)
  | inr above ↦
      let same : i ≡ n = omega (arith, lt, above) in
      ap (λ (o : Option ℕ). or_this o n (f n)) (first_below-none f n (λ k k_lt. other k (omega (arith, k_lt, same))))
      ∙ ap (or_this None n) (ap f (sym same) ∙ passes) ∙ ap Some (sym same)
]

-- the item of a number
pub item-is : (list : List PlacedRecord) (i : ℕ) → i < length list → Contains list (record { place = place_at list i; index = index_of list i })
item-is list i lt = Contains-get_or list i no_item lt

pub index-is : (list : List PlacedRecord) (i : ℕ) (d : PlacedRecord) → i < length list → (slice_index_or list i d).index ≡ index_of list i
index-is list i d lt = ap (λ (e : PlacedRecord). e.index) (get_or_default list i d no_item lt)

pub ruleset index_rules = (index-is)

-- the record of an item is there
pub item-there : (g : RelocationSource) (list : List PlacedRecord) (i : ℕ) → Lists g list → i < length list → index_of list i < length (records_in g)
item-there g list i h lt = (h.sound (record { place = place_at list i; index = index_of list i }) (item-is list i lt)).there

pub reach-some : (g : RelocationSource) (list : List PlacedRecord) (i index n : ℕ) (r : Reloc) → Some r ≡ reloc_at g.class g.order g.rela g.table index → index ≡ index_of list i
    → Lists g list → i < length list → n ≡ unwrap_or (absolute_size g.machine r.kind) 1 → n ≡ reach_of (relocation_at_number g list i)
unfolding relocation_of
reach-some g list i index n r e index_is h lt is =
    let there : index < length (records_in g) = subst (λ (k : ℕ). k < length (records_in g)) (sym index_is) (item-there g list i h lt) in
    is ∙ ap (λ (q : Reloc). unwrap_or (absolute_size g.machine q.kind) 1) (sym (record-is g index r (sym e) there))
    ∙ ap (λ (k : ℕ). unwrap_or (absolute_size g.machine (record_of g k).kind) 1) index_is

pub reach-none : (g : RelocationSource) (list : List PlacedRecord) (i index n : ℕ) → None ≡ reloc_at g.class g.order g.rela g.table index → index ≡ index_of list i
    → Lists g list → i < length list → n ≡ reach_of (relocation_at_number g list i)
reach-none g list i index n e index_is h lt =
    let there : index < length (records_in g) = subst (λ (k : ℕ). k < length (records_in g)) (sym index_is) (item-there g list i h lt) in
    let some = record-there g index (record { offset = 0; symbol = 0; kind = 0; addend = None }) there in absurd cc

pub ruleset reach_rules = (reach-some, reach-none)

-- at most 8 bytes
eight-small : (o : Option ℕ) (kind : ℕ) → unwrap_or (eight_by o kind) 1 ≤ 8
eight-small None kind = omega arith
eight-small (Some n) kind = by_test (kind == n)
  where
    by_test : (t : Bool) → unwrap_or (if t then Some 8 else None) 1 ≤ 8
    by_test true = omega arith
    by_test false = omega arith

size-small : (o : Option AbsoluteTypes) (kind : ℕ) → unwrap_or (size_in o kind) 1 ≤ 8
size-small None kind = omega arith
size-small (Some types) kind = by_test (kind == types.four)
  where
    by_test : (t : Bool) → unwrap_or (if t then Some 4 else eight_by types.eight kind) 1 ≤ 8
    by_test true = omega arith
    by_test false = eight-small types.eight kind

pub reach-small : (g : RelocationSource) (r : Reloc) → reach_of (relocation_of g r) ≤ 8
unfolding relocation_of absolute_size
reach-small g r = size-small (absolute_types g.machine) r.kind

-- which relocation an item is
pub item-relocation : (g : RelocationSource) (list : List PlacedRecord) (i : ℕ) → Lists g list → PlacesRise list → i < length list
    → relocation_in (relocations_in g) (place_at list i) ≡ Some (relocation_at_number g list i)
item-relocation g list i h rising lt = place-found g list (place_at list i) (index_of list i) h rising (item-is list i lt)

-- an item that begins before a place by more than 7 bytes doesn't reach it
meets-far : (place n p : ℕ) (r : Relocation) → p + reach_of r ≤ place → meets_partly place n p (Some r) ≡ false
meets-far place n p r far = by_first (nat_lt p (place + n))
  where
    by_first : (t : Bool) → (t && nat_lt place (p + reach_of r) && not (p == place)) ≡ false
    by_first true = ap (λ (b : Bool). b && not (p == place)) (le-ltb place (p + reach_of r) far)
    by_first false = refl

pub none-first : (g : RelocationSource) (list : List PlacedRecord) (place n i low : ℕ) → Lists g list → PlacesRise list → low ≡ place - 7 → BeginBefore list low i
    → NoneMet g list place n i
none-first g list place n i low h rising low_is before = record {
  inside = before.inside;
  none = λ k lt.
      let inside = before.inside in
      let k_in : k < length list = omega (arith, lt, inside) in
      let under : place_at list k < low = before.before k lt in
      let small : reach_of (relocation_at_number g list k) ≤ 8 = reach-small g (record_of g (index_of list k)) in
      ap (meets_partly place n (place_at list k)) (item-relocation g list k h rising k_in)
      ∙ meets-far place n (place_at list k) (relocation_at_number g list k) (omega (arith, under, small, low_is));
}

-- the test of an item that begins before the field's end
meets-own : (place n p : ℕ) (r : Relocation) → p < place + n → meets_partly place n p (Some r) ≡ (nat_lt place (p + reach_of r) && not (p == place))
meets-own place n p r lt = ap (λ (b : Bool). b && nat_lt place (p + reach_of r) && not (p == place)) (lt-ltb p (place + n) lt)

pub none-more : (g : RelocationSource) (list : List PlacedRecord) (place n i at end : ℕ) (t : Bool) → Lists g list → PlacesRise list → i < length list → at ≡ place_at list i
    → end ≡ place + n → at < end → t ≡ reaches_over g list i place → t ≡ false → NoneMet g list place n i → NoneMet g list place n (i + 1)
none-more g list place n i at end t h rising lt at_is end_is below t_is fails met = record {
  inside = omega (arith, lt);
  none = λ k k_lt. elim (cases_lt k i) [
    | inl under ↦ met.none k under
    | inr over ↦
        let same : k ≡ i = omega (arith, k_lt, over) in
        subst (λ (j : ℕ). meets_partly place n (place_at list j) (relocation_in (relocations_in g) (place_at list j)) ≡ false) (sym same)
        (ap (meets_partly place n (place_at list i)) (item-relocation g list i h rising lt)
        ∙ meets-own place n (place_at list i) (relocation_at_number g list i) (omega (arith, below, at_is, end_is)) ∙ sym t_is ∙ fails)
  ];
}

-- a relocation that is found is an item
pub some-number : (g : RelocationSource) (list : List PlacedRecord) (p : ℕ) (r : Relocation) → Lists g list → relocation_in (relocations_in g) p ≡ Some r
    → (k : ℕ) × ((k < length list) × (place_at list k ≡ p))
unfolding relocations_in
some-number g list p r h e =
    let d : Reloc = record { offset = 0; symbol = 0; kind = 0; addend = None } in
    let first = first-among g (records_in g) p r e in
    let own : get_or (records_in g) first.number (record { offset = 0; symbol = 0; kind = 0; addend = None }) ≡ record_of g first.number =
    get_or-records g first.number (record { offset = 0; symbol = 0; kind = 0; addend = None }) first.inside in
    let counts : is_none_type g.machine (record_of g first.number).kind ≡ false =
    ap (λ (q : Reloc). is_none_type g.machine q.kind) (sym own) ∙ first.counts (record { offset = 0; symbol = 0; kind = 0; addend = None }) in
    let here : (record_of g first.number).offset ≡ p = ap (λ (q : Reloc). q.offset) (sym own) ∙ first.place_is (record { offset = 0; symbol = 0; kind = 0; addend = None }) in
    let found = number-of list (placed_record g first.number) (h.complete first.number first.inside counts) in
    (found.0, (found.1.0, found.1.1 ∙ here))

-- where items from a number on begin behind a place, no relocation before it meets
unmet : (g : RelocationSource) (list : List PlacedRecord) (place n i p : ℕ) → Lists g list → NoneMet g list place n i
    → ((k : ℕ) → i ≤ k → k < length list → p < place_at list k) → meets_partly place n p (relocation_in (relocations_in g) p) ≡ false
unmet g list place n i p h met behind = by_found (relocation_in (relocations_in g) p) refl
  where
    by_found : (o : Option Relocation) → relocation_in (relocations_in g) p ≡ o → meets_partly place n p o ≡ false
    by_found None e = refl
    by_found (Some r) e =
        let found = some-number g list p r h e in
        elim (cases_lt found.0 i) [
          | inl under ↦
              sym (ap (meets_partly place n p) e)
              ∙ subst (λ (q : ℕ). meets_partly place n q (relocation_in (relocations_in g) q) ≡ false) found.1.1 (met.none found.0 under)
          | inr over ↦ let far = behind found.0 over found.1.0 in absurd (omega (arith, far, found.1.1))
        ]

pub partly-past : (g : RelocationSource) (list : List PlacedRecord) (place n i at end : ℕ) → Lists g list → PlacesRise list → i < length list → at ≡ place_at list i
    → end ≡ place + n → end ≤ at → NoneMet g list place n i → None ≡ partly_among (relocations_in g) place n
unfolding partly_among
partly-past g list place n i at end h rising lt at_is end_is past met =
    sym (first_below-none (λ p. meets_partly place n p (relocation_in (relocations_in g) p)) (place + n) (λ p p_lt. unmet g list place n i p h met (λ k le k_lt.
    let order : place_at list i ≤ place_at list k = ordered k le k_lt in omega (arith, order, p_lt, past, at_is, end_is))))
  where
    ordered : (k : ℕ) → i ≤ k → k < length list → place_at list i ≤ place_at list k
    ordered k le k_lt = elim (cases_lt i k) [
      | inl under ↦ let rise = rising.rise i k under k_lt in omega (arith, rise)
      | inr over ↦ let same : i ≡ k = omega (arith, le, over) in subst (λ (j : ℕ). place_at list i ≤ place_at list j) same (omega arith)
    ]

pub partly-done : (g : RelocationSource) (list : List PlacedRecord) (place n i : ℕ) → Lists g list → i ≡ length list → NoneMet g list place n i
    → None ≡ partly_among (relocations_in g) place n
unfolding partly_among
partly-done g list place n i h e met =
    sym (first_below-none (λ p. meets_partly place n p (relocation_in (relocations_in g) p)) (place + n) (λ p p_lt. unmet g list place n i p h met (λ k le k_lt. absurd (omega (arith, le, k_lt, e)))))

pub partly-found : (g : RelocationSource) (list : List PlacedRecord) (place n i at end : ℕ) (t : Bool) → Lists g list → PlacesRise list → i < length list
    → at ≡ place_at list i → end ≡ place + n → at < end → t ≡ reaches_over g list i place → t ≡ true → NoneMet g list place n i
    → Some at ≡ partly_among (relocations_in g) place n
unfolding partly_among
partly-found g list place n i at end t h rising lt at_is end_is below t_is yes_is met =
    let under : place_at list i < place + n = omega (arith, below, at_is, end_is) in
    let passes : meets_partly place n (place_at list i) (relocation_in (relocations_in g) (place_at list i)) ≡ true =
    ap (meets_partly place n (place_at list i)) (item-relocation g list i h rising lt)
    ∙ meets-own place n (place_at list i) (relocation_at_number g list i) under ∙ sym t_is ∙ yes_is in
    ap Some at_is
    ∙ sym (first_below-first (λ p. meets_partly place n p (relocation_in (relocations_in g) p)) (place + n) (place_at list i) under passes
    (λ p p_lt. unmet g list place n i p h met (λ k le k_lt. further p p_lt k le k_lt)))
  where
    further : (p : ℕ) → p < place_at list i → (k : ℕ) → i ≤ k → k < length list → p < place_at list k
    further p p_lt k le k_lt = elim (cases_lt i k) [
      | inl under ↦ let rise = rising.rise i k under k_lt in omega (arith, rise, p_lt)
      | inr over ↦ let same : i ≡ k = omega (arith, le, over) in subst (λ (j : ℕ). p < place_at list j) same p_lt
    ]

pub ruleset partly_rules = (none-first, none-more, partly-past, partly-done, partly-found)

pub over-own : (g : RelocationSource) (list : List PlacedRecord) (i place at : ℕ) → at ≡ place_at list i → at ≡ place → false ≡ reaches_over g list i place
over-own g list i place at a same = by_first (nat_lt place (place_at list i + reach_of (relocation_at_number g list i)))
  where
    by_first : (t : Bool) → false ≡ (t && not (place_at list i == place))
    by_first true = sym (ap not (eq-eqb (place_at list i) place (sym a ∙ same)))
    by_first false = refl

pub over-other : (g : RelocationSource) (list : List PlacedRecord) (i place at reach : ℕ) → at ≡ place_at list i → at ≢ place
    → reach ≡ reach_of (relocation_at_number g list i) → nat_lt place (at + reach) ≡ reaches_over g list i place
over-other g list i place at reach a other r =
    ap (λ (k : ℕ). nat_lt place (k + reach)) a ∙ ap (λ (k : ℕ). nat_lt place (place_at list i + k)) r
    ∙ by_first (nat_lt place (place_at list i + reach_of (relocation_at_number g list i)))
  where
    by_first : (t : Bool) → t ≡ (t && not (place_at list i == place))
    by_first true = sym (ap not (ne_eqb (place_at list i) place (λ (e : place_at list i ≡ place). other (a ∙ e))))
    by_first false = refl

pub over-small : (g : RelocationSource) (list : List PlacedRecord) (i reach : ℕ) → reach ≡ reach_of (relocation_at_number g list i) → reach ≤ 8
over-small g list i reach r = let small = reach-small g (record_of g (index_of list i)) in omega (arith, small, r)

pub ruleset over_rules = (over-own, over-other, over-small)
