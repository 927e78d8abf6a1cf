-- Laws of slots: which contribution has a base, and which slots it has.
use Rattle.std.proofs.Common.{true, false, ◌≡◌, ◌≢◌, ℕ, zero, suc, ◌+◌, ◌-◌, ◌*◌, ◌/◌, ◌<◌, ◌≤◌, nat_le, nat_lt, List, [], ◌∷◌, length, get_or, Some, None, Result, Ok, Err, IfOk, IfErr, refl, sym, ap, ◌∙◌, arith}
use Rattle.std.specs.List.Sorted.{IsSearchInRange, IsBinarySearchResult, IsNonDecreasingBy}
use Rattle.std.specs.Ordering.{nat_cmp, ordering_index}
use Rattle.std.proofs.lemmas.Bool.{eq-eqb, ne_eqb}
use Rattle.std.proofs.lemmas.Bool.Decides.{nat_tests}
use Rattle.std.proofs.lemmas.Cmp.{ranked}
use Rattle.std.proofs.lemmas.List.Sorted.{IsNonDecreasingBy-from_default}
use Rattle.dw_base.specs.Forms.{width_size}
use Rattle.dw_base.specs.declared.shared.Width.{Width}
use Rattle.dw_base.specs.declared.shared.Width.TheVariants.{W32, W64}
use Rattle.dw_base.specs.StringOffsets.{slot_in, slot_place}
use Rattle.dw_offsets.specs.SlotSearch.{base_at, BasesRise, HasBase, IsBaseGap, IsSlotCount}
use Rattle.dw_base.specs.declared.string_offsets.Contribution.{Contribution}

-- as many offsets as there are whole ones
narrow-fit : (size i : ℕ) → nat_le ((i + 1) * 4) size ≡ nat_lt i (size / 4)
narrow-fit size i = grind (arith, nat_tests)

wide-fit : (size i : ℕ) → nat_le ((i + 1) * 8) size ≡ nat_lt i (size / 8)
wide-fit size i = grind (arith, nat_tests)

pub count-narrow : (width : Width) (size count : ℕ) → width ≡ W32 → count ≡ size / 4 → IsSlotCount width size count
count-narrow width size count w c =
    record { fit = λ i. rw (w, c) (narrow-fit size i) }

pub count-wide : (width : Width) (size count : ℕ) → width ≡ W64 → count ≡ size / 8 → IsSlotCount width size count
count-wide width size count w c =
    record { fit = λ i. rw (w, c) (wide-fit size i) }

pub ruleset count_laws = (count-narrow, count-wide)

-- the default contribution, of which no law speaks
abbrev none_there : Contribution
none_there = record { start = 0; base = 0; end = 0; width = W32 }

-- comparisons with a base rise along the list, as a search asks
comparisons-rise : (list : List Contribution) (base : ℕ) → BasesRise list → IsNonDecreasingBy (λ c. ordering_index (nat_cmp c.base base)) list
comparisons-rise list base rising = IsNonDecreasingBy-from_default (λ c. ordering_index (nat_cmp c.base base)) list none_there (λ i j le inside.
    let rise : base_at list i ≤ base_at list j = grind (arith, rising.rise i j, λ (same : i ≡ j). ap (base_at list) same) in
    grind (arith, nat_tests))

-- a search ends at the base, or at the gap for it
pub searched : (list : List Contribution) (base : ℕ) (r : Result ℕ ℕ) → BasesRise list → IsSearchInRange r (length list)
    → IsBinarySearchResult (λ c. nat_cmp c.base base) list r → record { found : IfOk r (HasBase list base); absent : IfErr r (IsBaseGap list base) }
searched list base (Ok at) rising inside equal =
    record { found = record { inside = inside; base_is = ranked _ base _ (sym (equal none_there)) }; absent = tt }
searched list base (Err at) rising inside parted = record {
  found = tt;
  absent = record {
    inside = inside;
    before = λ k lt. ranked _ base _ (sym ((parted (comparisons-rise list base rising)).0 k none_there (omega arith) lt));
    behind = λ k le lt. ranked _ base _ (sym ((parted (comparisons-rise list base rising)).1 k none_there le lt));
  };
}

-- where no contribution has the base there is no slot
absent-place : (list : List Contribution) (base index : ℕ) → ((k : ℕ) → k < length list → base_at list k ≢ base) → slot_place list base index ≡ None
absent-place [] base index none = refl
absent-place (c ∷ cs) base index none =
    rw (ne_eqb c.base base (none 0 (omega arith))) (absent-place cs base index (λ k lt. none (suc k) (omega arith)))

-- the first that has it gives the slot
found-place : (list : List Contribution) (base index i : ℕ) (d : Contribution) → i < length list → base_at list i ≡ base
    → ((k : ℕ) → k < i → base_at list k ≢ base) → slot_place list base index ≡ slot_in (get_or list i d) index
found-place [] base index i d lt is none = absurd (omega (arith, lt))
found-place (c ∷ cs) base index zero d lt is none = rw (eq-eqb c.base base is) refl
found-place (c ∷ cs) base index (suc i) d lt is none =
    rw (ne_eqb c.base base (none 0 (omega arith))) (found-place cs base index i d (omega (arith, lt)) is (λ k below. none (suc k) (omega arith)))

pub place-found : (list : List Contribution) (base index i : ℕ) (d : Contribution) → BasesRise list → HasBase list base i
    → slot_in (get_or list i d) index ≡ slot_place list base index
place-found list base index i d rising has =
    sym (found-place list base index i d has.inside has.base_is (λ k lt same. omega (arith, rising.rise k i lt has.inside, has.base_is, same)))

other-base : (list : List Contribution) (base i k : ℕ) → IsBaseGap list base i → k < length list → base_at list k ≢ base
other-base list base i k gap lt same = grind (arith, gap.before k, gap.behind k)

pub place-absent : (list : List Contribution) (base index i : ℕ) → IsBaseGap list base i → None ≡ slot_place list base index
place-absent list base index i gap = sym (absent-place list base index (λ k lt. other-base list base i k gap lt))

pub ruleset place_laws = (place-found, place-absent)

-- a slot of a contribution
nat_le-parts : (a b c : ℕ) → a ≤ c → nat_le (a + b) c ≡ nat_le b (c - a)
nat_le-parts a b c le = grind (arith, nat_tests)

nat_le-past : (a b c : ℕ) → c < a → nat_le (a + b) c ≡ false
nat_le-past a b c lt = grind (arith, nat_tests)

below : (m n : ℕ) → m < n → nat_lt m n ≡ true
below m n lt = grind (arith, nat_tests)

not_below : (m n : ℕ) → n ≤ m → nat_lt m n ≡ false
not_below m n le = grind (arith, nat_tests)

pub slot-short : (c : Contribution) (index : ℕ) → c.end < c.base → None ≡ slot_in c index
unfolding slot_in
slot-short c index lt = rw (nat_le-past c.base ((index + 1) * width_size c.width) c.end lt) refl

has-slot : (c : Contribution) (index count : ℕ) → c.base ≤ c.end → IsSlotCount c.width (c.end - c.base) count
    → nat_le (c.base + (index + 1) * width_size c.width) c.end ≡ nat_lt index count
has-slot c index count le is = nat_le-parts c.base ((index + 1) * width_size c.width) c.end le ∙ is.fit index

pub slot-none : (c : Contribution) (index count : ℕ) → c.base ≤ c.end → IsSlotCount c.width (c.end - c.base) count → count ≤ index → None ≡ slot_in c index
unfolding slot_in
slot-none c index count le is far = rw (has-slot c index count le is, not_below index count far) refl

pub slot-some : (c : Contribution) (index count size : ℕ) → c.base ≤ c.end → IsSlotCount c.width (c.end - c.base) count → index < count → size ≡ width_size c.width
    → Some (c.base + index * size) ≡ slot_in c index
unfolding slot_in
slot-some c index count size le is lt same = rw (has-slot c index count le is, below index count lt, same) refl

-- it lies in the contribution, so its place is a number of the code
le-from : (m n : ℕ) → nat_le m n ≡ true → m ≤ n
le-from m n e = grind (arith, nat_tests)

pub slot-inside : (width : Width) (index count room size : ℕ) → IsSlotCount width room count → index < count → size ≡ width_size width → index * size ≤ room
slot-inside width index count room size is lt same =
    let fits : (index + 1) * width_size width ≤ room = le-from ((index + 1) * width_size width) room (is.fit index ∙ below index count lt) in
    let product : (index + 1) * width_size width ≡ index * width_size width + width_size width = omega arith in
    rw same (omega (arith, fits, product))

pub ruleset slot_laws = (slot-short, slot-none, slot-some, slot-inside)
