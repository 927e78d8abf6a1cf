-- Laws of lists of places.
use Rattle.std.proofs.Common.{◌≡◌, ◌≢◌, ℕ, ◌+◌, ◌-◌, ◌<◌, ◌≤◌, Bool, true, false, if◌then◌else◌, ◌==◌, List, [], ◌∷◌, ◌++◌, drop, length, get_or, Option, Some, None, refl, sym, ap, ◌∙◌, arith, subst, inl, inr}
use Rattle.std.specs.Prelude.{Contains, slice_index_or, sum_by}
use Rattle.std.specs.List.Sorted.{IsNonDecreasingBy, IsPermutation}
use Rattle.std.proofs.lemmas.Bool.{cases_lt, ne_eqb, eq-eqb}
use Rattle.std.proofs.lemmas.List.Sorted.{IsNonDecreasingBy-from_default, Contains-permutation, IsPermutation-refl, IsPermutation-sym, sum_by-IsPermutation}
use Rattle.std.proofs.lemmas.List.Sums.{get_or-le-sum_by, sum_by-drop_more, sum_by-take-drop, sum_by_push}
use Rattle.std.proofs.lemmas.List.{get_or-drop, get_or_default, length-drop}
use Rattle.std.proofs.lemmas.List.Elements.{Contains-append_left, Contains-get_or, Contains-push, Contains-push_cases, at_from_Contains}
use Rattle.dw_base.specs.Cells.{Relocation}
use Rattle.dw_base.specs.Refusals.{at}
use Rattle.dw_base.specs.Relocs.{reloc_at}
use Rattle.dw_base.specs.SectionRelocations.{RelocationSource, is_none_type, records_in, relocation_in, relocation_of, relocations_among, relocations_in}
use Rattle.dw_base.specs.declared.fault.Kind.TheVariants.{Relocation as RelocationKind}
use Rattle.dw_base.specs.declared.fault.Refusal.{Refusal}
use Rattle.dw_base.specs.declared.relocations.Reloc.{Reloc}
use Rattle.dw_base.proofs.RelocationTieLaws.{first-among, get_or-records, none-among, record-some, record-there}
use Rattle.dw_view.specs.Places.{GoodUpTo, HasPlace, IsPlaced, IsPlaceGap, Lists, ListsUpTo, PlacesFail, PlacesRise, PlacesWithin, IsSecondAt, RiseUpTo, place_at, placed_record, record_of, times_of}
use Rattle.dw_view.specs.Places.PlacesFail.{past, together}
use Rattle.dw_view.specs.declared.places.PlacedRecord.{PlacedRecord}

-- the default item, of which no law speaks
abbrev no_item : PlacedRecord
no_item = record { place = 0; index = 0 }

-- a list in another order has the same relocations
pub lists-sorted : (g : RelocationSource) (n : ℕ) (old new : List PlacedRecord) → IsPermutation old new → ListsUpTo g n old → ListsUpTo g n new
lists-sorted g n old new moved h = record {
  sound = λ e is_in. h.sound e (Contains-permutation new old e (IsPermutation-sym old new moved) is_in);
  complete = λ i lt counts. Contains-permutation old new (placed_record g i) moved (h.complete i lt counts);
  single = λ k. let few = h.single k in let same = sum_by-IsPermutation (times_of k) old new moved in omega (arith, few, same);
  later = λ k le. sum_by-IsPermutation (times_of k) old new moved ∙ h.later k le;
}

pub ruleset list_rules = (lists-sorted)

-- a list that rises stays as it is
pub stays : (xs : List PlacedRecord) → IsPermutation xs xs
stays xs = IsPermutation-refl xs

pub ruleset order_rules = (stays)

-- and it rises where no item begins before the one before it
pub rise-first : (n : ℕ) (list : List PlacedRecord) → n ≡ 1 → RiseUpTo n list
rise-first n list one = record {
  rise = λ i j le lt. let same : i ≡ j = omega (arith, le, lt, one) in subst (λ (k : ℕ). place_at list i ≤ place_at list k) same (omega arith);
}

pub rise-more : (n x y : ℕ) (list : List PlacedRecord) → 1 ≤ n → x ≡ place_at list (n - 1) → y ≡ place_at list n → x ≤ y → RiseUpTo n list → RiseUpTo (n + 1) list
rise-more n x y list some x_is y_is up h = record {
  rise = λ i j le lt. elim (cases_lt j n) [
    | inl under ↦ h.rise i j le under
    | inr over ↦
        let same : j ≡ n = omega (arith, lt, over) in
        subst (λ (k : ℕ). place_at list i ≤ place_at list k) (sym same) (last i (omega (arith, le, same)))
  ];
}
  where
    last : (i : ℕ) → i ≤ n → place_at list i ≤ place_at list n
    last i le = elim (cases_lt i n) [
      | inl under ↦ let before = h.rise i (n - 1) (omega (arith, under)) (omega (arith, some)) in omega (arith, before, x_is, y_is, up)
      | inr over ↦ let same : i ≡ n = omega (arith, le, over) in subst (λ (k : ℕ). place_at list i ≤ place_at list k) same (omega arith)
    ]

pub rise-all : (n : ℕ) (list : List PlacedRecord) → length list ≤ n → RiseUpTo n list → IsNonDecreasingBy (λ (e : PlacedRecord). e.place) list
rise-all n list all h = IsNonDecreasingBy-from_default (λ e. e.place) list no_item (λ i j le lt. h.rise i j le (omega (arith, all, lt)))

pub ruleset rise_rules = (rise-first, rise-more, rise-all)

-- the first is none so far, and then one more at a time
pub lists-none : (g : RelocationSource) → ListsUpTo g 0 []
lists-none g = record {
  sound = λ e is_in. let lt = is_in.1 in absurd (omega (arith, lt));
  complete = λ i lt counts. absurd (omega (arith, lt));
  single = λ k. omega arith;
  later = λ k le. refl;
}

pub all-done : (g : RelocationSource) (count n : ℕ) (list : List PlacedRecord) → count ≡ length (records_in g) → n ≡ count → ListsUpTo g n list → Lists g list
all-done g count n list e f h = subst (λ (k : ℕ). ListsUpTo g k list) (f ∙ e) h

pub ruleset all_rules = (lists-none, all-done)

-- the record of a number is the one that was read
pub record-is : (g : RelocationSource) (i : ℕ) (r : Reloc) → reloc_at g.class g.order g.rela g.table i ≡ Some r → i < length (records_in g) → record_of g i ≡ r
record-is g i r e lt =
    let found = record-some g i r r e in
    sym (get_or-records g i r lt) ∙ found.1

pub add-absent : (g : RelocationSource) (i : ℕ) (list : List PlacedRecord) → None ≡ reloc_at g.class g.order g.rela g.table i → i < length (records_in g)
    → ListsUpTo g (i + 1) list
add-absent g i list e lt =
    let there = record-there g i (record { offset = 0; symbol = 0; kind = 0; addend = None }) lt in absurd cc

pub add-none : (g : RelocationSource) (i : ℕ) (r : Reloc) (list : List PlacedRecord) → Some r ≡ reloc_at g.class g.order g.rela g.table i → i < length (records_in g)
    → true ≡ is_none_type g.machine r.kind → ListsUpTo g i list → ListsUpTo g (i + 1) list
add-none g i r list e lt none h = record {
  sound = h.sound;
  complete = λ k below counts. elim (cases_lt k i) [
    | inl under ↦ h.complete k under counts
    | inr over ↦
        let same : k ≡ i = omega (arith, below, over) in
        let kind : is_none_type g.machine (record_of g k).kind ≡ is_none_type g.machine r.kind =
        ap (λ (j : ℕ). is_none_type g.machine (record_of g j).kind) same ∙ ap (λ (q : Reloc). is_none_type g.machine q.kind) (record-is g i r (sym e) lt) in
        absurd cc
  ];
  single = h.single;
  later = λ k le. h.later k (omega (arith, le));
}

-- an item more has its record's number
times-more : (k i place : ℕ) (list now : List PlacedRecord) → now ≡ list ++ record { place = place; index = i } ∷ []
    → sum_by (times_of k) now ≡ sum_by (times_of k) list + (if i == k then 1 else 0)
times-more k i place list now is = ap (sum_by (times_of k)) is ∙ sum_by_push (times_of k) list (record { place = place; index = i })

-- 1 or 0
abbrev times_by : Bool → ℕ
times_by t = if t then 1 else 0

times-other : (k i : ℕ) → i ≢ k → ◌≡◌ {A = ℕ} (if i == k then 1 else 0) 0
times-other k i other = ap (λ (b : Bool). times_by b) (ne_eqb i k other)

times-most : (t : Bool) → (if t then 1 else 0) ≤ 1
times-most true = omega arith
times-most false = omega arith

single-more : (k i place : ℕ) (list now : List PlacedRecord) → now ≡ list ++ record { place = place; index = i } ∷ [] → sum_by (times_of k) list ≤ 1
    → (i ≡ k → sum_by (times_of k) list ≡ 0) → sum_by (times_of k) now ≤ 1
single-more k i place list now is few none =
    let size = times-more k i place list now is in
    elim (cases_lt i k) [
      | inl lt ↦ let zeros = times-other k i (λ e. omega (arith, e, lt)) in omega (arith, few, size, zeros)
      | inr le ↦ elim (cases_lt k i) [
        | inl lt ↦ let zeros = times-other k i (λ e. omega (arith, e, lt)) in omega (arith, few, size, zeros)
        | inr ge ↦ let zeros = none (omega (arith, le, ge)) in let most = times-most (i == k) in omega (arith, size, zeros, most)
      ]
    ]

pub add-one : (g : RelocationSource) (i : ℕ) (r : Reloc) (list now : List PlacedRecord) → Some r ≡ reloc_at g.class g.order g.rela g.table i
    → i < length (records_in g) → false ≡ is_none_type g.machine r.kind → ListsUpTo g i list → now ≡ list ++ record { place = r.offset; index = i } ∷ []
    → ListsUpTo g (i + 1) now
add-one g i r list now e lt counts h is =
    let here : record_of g i ≡ r = record-is g i r (sym e) lt in
    let item : placed_record g i ≡ record { place = r.offset; index = i } = ap (λ (q : Reloc). record { place = q.offset; index = i }) here in
    record {
      sound = λ x is_in. elim (Contains-push_cases list (record { place = r.offset; index = i }) x (subst (λ (l : List PlacedRecord). Contains l x) is is_in)) [
        | inl old ↦ h.sound x old
        | inr new ↦ subst (IsPlaced g) new (record {
          there = lt;
          place = ap (λ (q : Reloc). q.offset) here;
          counts = ap (λ (q : Reloc). is_none_type g.machine q.kind) here ∙ sym counts;
        })
      ];
      complete = λ k below k_counts. subst (λ (l : List PlacedRecord). Contains l (placed_record g k)) (sym is) (elim (cases_lt k i) [
        | inl under ↦ Contains-append_left list (record { place = r.offset; index = i } ∷ []) (placed_record g k) (h.complete k under k_counts)
        | inr over ↦
            let same : k ≡ i = omega (arith, below, over) in
            subst (λ (j : ℕ). Contains (list ++ record { place = r.offset; index = i } ∷ []) (placed_record g j)) (sym same)
            (subst (λ (x : PlacedRecord). Contains (list ++ record { place = r.offset; index = i } ∷ []) x) (sym item)
            (Contains-push list (record { place = r.offset; index = i })))
      ]);
      single = λ k. single-more k i r.offset list now is (h.single k) (λ e. h.later k (omega (arith, e)));
      later = λ k le.
          let size = times-more k i r.offset list now is in
          let zeros = times-other k i (λ e. omega (arith, e, le)) in
          let none = h.later k (omega (arith, le)) in
          omega (arith, size, zeros, none);
    }

pub ruleset add_rules = (add-absent, add-none, add-one)

-- an item, whatever stands for one that isn't there
pub place-is : (list : List PlacedRecord) (i : ℕ) (d : PlacedRecord) → i < length list → (slice_index_or list i d).place ≡ place_at list i
place-is list i d lt = ap (λ (e : PlacedRecord). e.place) (get_or_default list i d no_item lt)

pub ruleset place_rules = (place-is)

-- the places so far rise, and lie in the section
pub good-none : (size : ℕ) (list : List PlacedRecord) → GoodUpTo size 0 list
good-none size list = record { rise = λ i j lt below. absurd (omega (arith, below)); below = λ i lt. absurd (omega (arith, lt)) }

pub good-more : (size place i : ℕ) (list : List PlacedRecord) → IsNonDecreasingBy (λ (e : PlacedRecord). e.place) list → place ≡ place_at list i → place < size
    → (IsSecondAt list place i → ⊥) → i < length list → GoodUpTo size i list → GoodUpTo size (i + 1) list
good-more size place i list sorted here small first inside h = record {
  rise = λ j k lt below. elim (cases_lt k i) [
    | inl under ↦ h.rise j k lt under
    | inr over ↦
        let same : k ≡ i = omega (arith, below, over) in
        subst (λ (m : ℕ). place_at list j < place_at list m) (sym same) (last j (omega (arith, lt, same)))
  ];
  below = λ j lt. elim (cases_lt j i) [
    | inl under ↦ h.below j under
    | inr over ↦ let same : j ≡ i = omega (arith, lt, over) in subst (λ (m : ℕ). place_at list m < size) (sym same) (subst (λ (p : ℕ). p < size) here small)
  ];
}
  where
    last : (j : ℕ) → j < i → place_at list j < place_at list i
    last j lt =
        let rises : place_at list (i - 1) ≤ place_at list i = sorted (i - 1) i no_item (omega (arith, lt)) inside in
        let up : place_at list j ≤ place_at list (i - 1) = sorted j (i - 1) no_item (omega (arith, lt)) (omega (arith, inside)) in
        let other : place_at list (i - 1) ≡ place → ⊥ = λ e. first (record { some = omega (arith, lt); is = e }) in
        elim (cases_lt (place_at list (i - 1)) (place_at list i)) [
          | inl less ↦ omega (arith, up, less)
          | inr more ↦ let same : place_at list (i - 1) ≡ place_at list i = omega (arith, rises, more) in absurd (other (same ∙ sym here))
        ]

pub good-rise : (size n : ℕ) (list : List PlacedRecord) → n ≡ length list → GoodUpTo size n list → PlacesRise list
good-rise size n list e h = record { rise = λ i j lt below. h.rise i j lt (omega (arith, e, below)) }

pub good-within : (size n : ℕ) (list : List PlacedRecord) → n ≡ length list → GoodUpTo size n list → PlacesWithin size list
good-within size n list e h = record { below = λ i lt. h.below i (omega (arith, e, lt)) }

pub fails-past : (section size place i : ℕ) (list : List PlacedRecord) (r : Refusal) → place ≡ place_at list i → i < length list → size ≤ place
    → r ≡ at RelocationKind section place → PlacesFail section size list r
fails-past section size place i list r here inside le is =
    subst (PlacesFail section size list) (ap (at RelocationKind section) (sym here) ∙ sym is) (past i inside (subst (λ (p : ℕ). size ≤ p) here le))

pub fails-together : (section size place i : ℕ) (list : List PlacedRecord) (r : Refusal) → place ≡ place_at list i → i < length list → IsSecondAt list place i
    → r ≡ at RelocationKind section place → PlacesFail section size list r
fails-together section size place i list r here inside second is =
    let some = second.some in
    subst (PlacesFail section size list) (ap (at RelocationKind section) (sym here) ∙ sym is)
    (together (i - 1) i (omega (arith, some)) inside (second.is ∙ here))

-- the item that was found, or none
item-in : (list : List PlacedRecord) (place i : ℕ) (d : PlacedRecord) → HasPlace list place i
    → Contains list (record { place = place; index = (slice_index_or list i d).index })
item-in list place i d h =
    let same : slice_index_or list i d ≡ slice_index_or list i no_item = get_or_default list i d no_item h.inside in
    let item : slice_index_or list i d ≡ record { place = place; index = (slice_index_or list i d).index } =
    ap (λ (p : ℕ). record { place = p; index = (slice_index_or list i d).index }) (ap (λ (e : PlacedRecord). e.place) same ∙ h.is) in
    subst (Contains list) item (Contains-get_or list i d h.inside)

pub found-in : (list : List PlacedRecord) (place i index : ℕ) (d : PlacedRecord) → HasPlace list place i → index ≡ (slice_index_or list i d).index
    → Contains list (record { place = place; index = index })
found-in list place i index d h is = subst (λ (k : ℕ). Contains list (record { place = place; index = k })) (sym is) (item-in list place i d h)

-- the number of an item
pub number-of : (list : List PlacedRecord) (e : PlacedRecord) → Contains list e → (k : ℕ) × ((k < length list) × (place_at list k ≡ e.place) × ((slice_index_or list k no_item).index ≡ e.index))
number-of list e is_in =
    let found = at_from_Contains list e is_in in
    let is : slice_index_or list found.0 no_item ≡ e = found.2 no_item in
    (found.0, (found.1, ap (λ (x : PlacedRecord). x.place) is, ap (λ (x : PlacedRecord). x.index) is))

pub gap-none : (list : List PlacedRecord) (place i : ℕ) → IsPlaceGap list place i → (e : PlacedRecord) → Contains list e → e.place ≢ place
gap-none list place i gap e is_in same =
    let found = number-of list e is_in in
    elim (cases_lt found.0 i) [
      | inl below ↦ let less = gap.before found.0 below in absurd (omega (arith, less, found.1.1, same))
      | inr above ↦ let more = gap.behind found.0 above found.1.0 in absurd (omega (arith, more, found.1.1, same))
    ]

pub ruleset index_rules = (found-in, gap-none)

-- Two items of one list have two records.
two-times : (k i j : ℕ) (list : List PlacedRecord) → i < j → j < length list → (slice_index_or list i no_item).index ≡ k
    → (slice_index_or list j no_item).index ≡ k → 2 ≤ sum_by (times_of k) list
two-times k i j list lt inside i_is j_is =
    let whole = sum_by-take-drop (times_of k) list i in
    let first = sum_by-drop_more (times_of k) list i no_item (omega (arith, lt, inside)) in
    let size = length-drop (i + 1) list in
    let rest = get_or-le-sum_by (times_of k) (drop (i + 1) list) (j - (i + 1)) no_item (omega (arith, lt, inside, size)) in
    let there : get_or (drop (i + 1) list) (j - (i + 1)) no_item ≡ get_or list j no_item =
    get_or-drop (i + 1) list (j - (i + 1)) no_item ∙ ap (λ (n : ℕ). get_or list n no_item) (omega (arith, lt)) in
    let one = own (get_or list i no_item) i_is in
    let two : times_of k (get_or (drop (i + 1) list) (j - (i + 1)) no_item) ≡ 1 = ap (times_of k) there ∙ own (get_or list j no_item) j_is in
    omega (arith, whole, first, rest, one, two)
  where
    own : (e : PlacedRecord) → e.index ≡ k → times_of k e ≡ 1
    own e is = ap (λ (b : Bool). if b then 1 else 0) (eq-eqb e.index k is)

pub other-records : (g : RelocationSource) (n i j : ℕ) (list : List PlacedRecord) → ListsUpTo g n list → i < j → j < length list
    → (slice_index_or list i no_item).index ≢ (slice_index_or list j no_item).index
other-records g n i j list h lt inside same =
    let few = h.single (slice_index_or list j no_item).index in
    let two = two-times (slice_index_or list j no_item).index i j list lt inside same refl in
    omega (arith, few, two)

-- Of one list, two items at one place are one.
pub one-item : (list : List PlacedRecord) (x y : PlacedRecord) → PlacesRise list → Contains list x → Contains list y → x.place ≡ y.place → x.index ≡ y.index
one-item list x y rising in_x in_y same =
    let i = number-of list x in_x in
    let j = number-of list y in_y in
    let equal : i.0 ≡ j.0 = by_order i.0 j.0 (i.1.1 ∙ same ∙ sym j.1.1) i.1.0 j.1.0 in
    sym i.1.2 ∙ ap (λ (k : ℕ). (slice_index_or list k no_item).index) equal ∙ j.1.2
  where
    by_order : (a b : ℕ) → place_at list a ≡ place_at list b → a < length list → b < length list → a ≡ b
    by_order a b e in_a in_b = elim (cases_lt a b) [
      | inl lt ↦ let less = rising.rise a b lt in_b in absurd (omega (arith, less, e))
      | inr le ↦ elim (cases_lt b a) [
        | inl lt ↦ let less = rising.rise b a lt in_a in absurd (omega (arith, less, e))
        | inr ge ↦ omega (arith, le, ge)
      ]
    ]

-- The relocation at a place is that of the record that the list has there,
pub place-found : (g : RelocationSource) (list : List PlacedRecord) (place index : ℕ) → Lists g list → PlacesRise list
    → Contains list (record { place = place; index = index }) → relocation_in (relocations_in g) place ≡ Some (relocation_of g (record_of g index))
unfolding relocations_in
place-found g list place index h rising is_in = by_found (relocation_in (relocations_among g (records_in g)) place) refl
  where
    item : PlacedRecord
    item = record { place = place; index = index }

    by_found : (o : Option Relocation) → relocation_in (relocations_among g (records_in g)) place ≡ o → o ≡ Some (relocation_of g (record_of g index))
    by_found (Some r) e =
        let d : Reloc = record { offset = 0; symbol = 0; kind = 0; addend = None } in
        let first = first-among g (records_in g) place r e in
        let at_first : get_or (records_in g) first.number (record { offset = 0; symbol = 0; kind = 0; addend = None }) ≡ record_of g first.number =
        get_or-records g first.number (record { offset = 0; symbol = 0; kind = 0; addend = None }) first.inside in
        let counts : is_none_type g.machine (record_of g first.number).kind ≡ false =
        ap (λ (q : Reloc). is_none_type g.machine q.kind) (sym at_first) ∙ first.counts (record { offset = 0; symbol = 0; kind = 0; addend = None }) in
        let place_is : (record_of g first.number).offset ≡ place = ap (λ (q : Reloc). q.offset) (sym at_first) ∙ first.place_is (record { offset = 0; symbol = 0; kind = 0; addend = None }) in
        let same : first.number ≡ index =
        one-item list (placed_record g first.number) (record { place = place; index = index }) rising (h.complete first.number first.inside counts) is_in place_is in
        ap Some (first.is (record { offset = 0; symbol = 0; kind = 0; addend = None })
        ∙ ap (relocation_of g) (at_first ∙ ap (record_of g) same))
    by_found None e =
        let here = h.sound (record { place = place; index = index }) is_in in
        let own : get_or (records_in g) index (record { offset = 0; symbol = 0; kind = 0; addend = None }) ≡ record_of g index =
        get_or-records g index (record { offset = 0; symbol = 0; kind = 0; addend = None }) here.there in
        absurd (none-among g (records_in g) place index (record { offset = 0; symbol = 0; kind = 0; addend = None }) e here.there
        (ap (λ (q : Reloc). is_none_type g.machine q.kind) own ∙ here.counts) (ap (λ (q : Reloc). q.offset) own ∙ here.place))

-- and where the list has none there is none
pub place-absent : (g : RelocationSource) (list : List PlacedRecord) (place : ℕ) → Lists g list
    → ((e : PlacedRecord) → Contains list e → e.place ≢ place) → relocation_in (relocations_in g) place ≡ None
unfolding relocations_in
place-absent g list place h none = by_found (relocation_in (relocations_among g (records_in g)) place) refl
  where
    by_found : (o : Option Relocation) → relocation_in (relocations_among g (records_in g)) place ≡ o → o ≡ None
    by_found None e = refl
    by_found (Some r) e =
        let first = first-among g (records_in g) place r e in
        let at_first : get_or (records_in g) first.number (record { offset = 0; symbol = 0; kind = 0; addend = None }) ≡ record_of g first.number =
        get_or-records g first.number (record { offset = 0; symbol = 0; kind = 0; addend = None }) first.inside in
        let counts : is_none_type g.machine (record_of g first.number).kind ≡ false =
        ap (λ (q : Reloc). is_none_type g.machine q.kind) (sym at_first) ∙ first.counts (record { offset = 0; symbol = 0; kind = 0; addend = None }) in
        let place_is : (record_of g first.number).offset ≡ place = ap (λ (q : Reloc). q.offset) (sym at_first) ∙ first.place_is (record { offset = 0; symbol = 0; kind = 0; addend = None }) in
        absurd (none (placed_record g first.number) (h.complete first.number first.inside counts) place_is)
