-- The slot of a number stands where the place of its index is, and an index without a number has no place.
use Rattle.std.proofs.Common.{Bool, true, false, ◌≡◌, ℕ, ◌+◌, ◌-◌, ◌*◌, ◌/◌, ◌<◌, ◌≤◌, ◌==◌, if◌then◌else◌, List, [], ◌∷◌, ◌++◌, length, get_or, Option, Some, None, refl, sym, ap, ◌∙◌, arith}
use Rattle.std.proofs.lemmas.Bool.{leb-true}
use Rattle.std.proofs.lemmas.List.{length-append, get_or_append_left, get_or-append_right}
use Rattle.dw_base.specs.Forms.{width_size}
use Rattle.dw_base.specs.Lists.{tabulate}
use Rattle.dw_base.specs.declared.shared.Width.{Width}
use Rattle.dw_base.specs.declared.shared.Width.TheVariants.{W32, W64}
use Rattle.dw_base.proofs.ListLaws.{length-tabulate, get_or-tabulate}
use Rattle.dw_base.specs.Slots.{Slot, slot_at, slot_total, slots_of, slot_number}
use Rattle.dw_base.specs.StringOffsets.{has_slot, slot_in, slot_place}
use Rattle.dw_base.specs.declared.string_offsets.Contribution.{Contribution}

-- a slot that lies in a contribution is one of those that it has
below-total : (w : Width) (base end index : ℕ) → base + (index + 1) * width_size w ≤ end → index < (end - base) / width_size w
below-total W32 base end index h = omega (arith, h)
below-total W64 base end index h = omega (arith, h)

there : (c : Contribution) (index : ℕ) → has_slot c index ≡ true → slot_in c index ≡ Some (slot_at c index).place
unfolding slot_in
there c index e = rw e refl

not_there : (c : Contribution) (index : ℕ) → has_slot c index ≡ false → slot_in c index ≡ None
unfolding slot_in
not_there c index e = rw e refl

-- the slot of a number of a list whose first has another
abbrev pub nth_slot : List Slot → ℕ → ℕ → Slot
nth_slot slots first n = get_or slots (n - first) (record { place = 0; size = 0 })

-- a place is that of the slot of a number
pub record StandsAt (o : Option ℕ) (slots : List Slot) (first n : ℕ) : Type 0 where
  pub above : first ≤ n
  pub below : n < first + length slots
  pub place : o ≡ Some (nth_slot slots first n).place

number_is : (m n : ℕ) → Some m ≡ Some n → m ≡ n
number_is m n e = cc

here-stands : (c : Contribution) (rest : List Slot) (first index n : ℕ) → has_slot c index ≡ true → first + index ≡ n
    → StandsAt (slot_in c index) (tabulate (slot_at c) (slot_total c) ++ rest) first n
here-stands c rest first index n has e =
    let lt : index < slot_total c = below-total c.width c.base c.end index (leb-true _ _ has) in
    let size : length (tabulate (slot_at c) (slot_total c)) ≡ slot_total c = length-tabulate (slot_at c) (slot_total c) in
    let number : n - first ≡ index = omega (arith, e) in
    let slot : nth_slot (tabulate (slot_at c) (slot_total c) ++ rest) first n ≡ slot_at c index =
    ap (λ (i : ℕ). get_or (tabulate (slot_at c) (slot_total c) ++ rest) i (record { place = 0; size = 0 })) number
    ∙ get_or_append_left (tabulate (slot_at c) (slot_total c)) rest (record { place = 0; size = 0 }) index (omega (arith, lt, size))
    ∙ get_or-tabulate (slot_at c) (slot_total c) index (record { place = 0; size = 0 }) lt in
    record {
      above = omega (arith, e);
      below = omega (arith, e, lt, size, length-append (tabulate (slot_at c) (slot_total c)) rest);
      place = there c index has ∙ ap (λ (s : Slot). Some s.place) (sym slot);
    }

later-stands : (o : Option ℕ) (c : Contribution) (rest : List Slot) (first n : ℕ) → StandsAt o rest (first + slot_total c) n
    → StandsAt o (tabulate (slot_at c) (slot_total c) ++ rest) first n
later-stands o c rest first n h =
    let size : length (tabulate (slot_at c) (slot_total c)) ≡ slot_total c = length-tabulate (slot_at c) (slot_total c) in
    let far : slot_total c ≤ n - first = omega (arith, h.above) in
    let number : n - first - slot_total c ≡ n - (first + slot_total c) = omega arith in
    let slot : nth_slot (tabulate (slot_at c) (slot_total c) ++ rest) first n ≡ nth_slot rest (first + slot_total c) n =
    get_or-append_right (tabulate (slot_at c) (slot_total c)) rest (slot_total c) (n - first) (record { place = 0; size = 0 }) size far
    ∙ ap (λ (i : ℕ). get_or rest i (record { place = 0; size = 0 })) number in
    record {
      above = omega (arith, h.above);
      below = omega (arith, h.below, size, length-append (tabulate (slot_at c) (slot_total c)) rest);
      place = h.place ∙ ap (λ (s : Slot). Some s.place) (sym slot);
    }

-- the slot of a number stands at the place of its index
pub slot-stands : (list : List Contribution) (first base index n : ℕ) → slot_number first list base index ≡ Some n → StandsAt (slot_place list base index) (slots_of list) first n
slot-stands [] first base index n e = absurd cc
slot-stands (c ∷ cs) first base index n e = by_base (c.base == base) (λ f. slot-stands cs (first + slot_total c) base index n f) e
  where
    by_slot : (b : Bool) → has_slot c index ≡ b → (if b then Some (first + index) else None) ≡ Some n
        → StandsAt (slot_in c index) (tabulate (slot_at c) (slot_total c) ++ slots_of cs) first n
    by_slot true has e = here-stands c (slots_of cs) first index n has (number_is (first + index) n e)
    by_slot false has e = absurd cc

    by_base : (b : Bool) → (slot_number (first + slot_total c) cs base index ≡ Some n → StandsAt (slot_place cs base index) (slots_of cs) (first + slot_total c) n)
        → (if b then (if has_slot c index then Some (first + index) else None) else slot_number (first + slot_total c) cs base index) ≡ Some n
        → StandsAt (if b then slot_in c index else slot_place cs base index) (tabulate (slot_at c) (slot_total c) ++ slots_of cs) first n
    by_base true rest e = by_slot (has_slot c index) refl e
    by_base false rest e = later-stands (slot_place cs base index) c (slots_of cs) first n (rest e)

-- and an index without a number has no place
pub slot-absent : (list : List Contribution) (first base index : ℕ) → slot_number first list base index ≡ None → slot_place list base index ≡ None
slot-absent [] first base index e = refl
slot-absent (c ∷ cs) first base index e = by_base (c.base == base) (λ f. slot-absent cs (first + slot_total c) base index f) e
  where
    by_slot : (b : Bool) → has_slot c index ≡ b → (if b then Some (first + index) else None) ≡ None → slot_in c index ≡ None
    by_slot true has e = absurd cc
    by_slot false has e = not_there c index has

    by_base : (b : Bool) → (slot_number (first + slot_total c) cs base index ≡ None → slot_place cs base index ≡ None)
        → (if b then (if has_slot c index then Some (first + index) else None) else slot_number (first + slot_total c) cs base index) ≡ None
        → (if b then slot_in c index else slot_place cs base index) ≡ None
    by_base true rest e = by_slot (has_slot c index) refl e
    by_base false rest e = rest e
