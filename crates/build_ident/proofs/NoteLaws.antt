-- Laws of the walk over notes: enough fuel is enough, and each step leads to the next note.
use Rattle.std.proofs.Common.{◌≡◌, ℕ, zero, suc, ◌+◌, ◌<◌, ◌≤◌, Bool, true, false, if◌then◌else◌, nat_le, List, length, Option, None, refl, sym, ap, ◌∙◌, arith}
use Rattle.std.proofs.lemmas.Bool.{le-leb}
use Rattle.std.proofs.lemmas.List.{take_min}
use Rattle.dw_base.specs.declared.shared.Order.{Order}
use Rattle.dw_base.specs.Notes.{Descriptor, aligned, is_id_note, descriptor_at, next_note, if_id, id_among}

-- the next note begins behind the three numbers of a note
next-behind : (order : Order) (bytes : List ℕ) (at : ℕ) → at + 12 ≤ next_note (descriptor_at order bytes at)
unfolding descriptor_at
next-behind order bytes at = omega arith

among-cases : (fits note : Bool) (x y z : Option Descriptor) → (fits ≡ true → y ≡ z)
    → (if fits then (if note then x else y) else None) ≡ (if fits then (if note then x else z) else None)
among-cases true true x y z e = refl
among-cases true false x y z e = e refl
among-cases false note x y z e = refl

not-le : (m n : ℕ) → n < m → nat_le m n ≡ false
not-le m n h = grind arith

-- a walk that may take as many steps as bytes are left takes all steps there are
among-enough : (m n : ℕ) (order : Order) (bytes : List ℕ) (at : ℕ) → length bytes ≤ at + m → length bytes ≤ at + n
    → id_among m order bytes at ≡ id_among n order bytes at
among-enough zero zero order bytes at p q = refl
among-enough zero (suc n) order bytes at p q = sym (rw (not-le (at + 12) (length bytes) (omega (arith, p))) refl)
among-enough (suc m) zero order bytes at p q = rw (not-le (at + 12) (length bytes) (omega (arith, q))) refl
among-enough (suc m) (suc n) order bytes at p q =
    let next : ℕ = next_note (descriptor_at order bytes at) in
    let behind : at + 12 ≤ next = next-behind order bytes at in
    among-cases (nat_le (at + 12) (length bytes)) (is_id_note order bytes at) (if_id bytes (descriptor_at order bytes at))
    (id_among m order bytes next) (id_among n order bytes next)
    (λ fits. among-enough m n order bytes next (omega (arith, p, behind)) (omega (arith, q, behind)))

-- one step of the walk
among-step : (n : ℕ) (order : Order) (bytes : List ℕ) (at : ℕ) → length bytes ≡ n → at + 12 ≤ n
    → id_among n order bytes at
    ≡ (if is_id_note order bytes at then if_id bytes (descriptor_at order bytes at) else id_among n order bytes (next_note (descriptor_at order bytes at)))
among-step zero order bytes at size fits = absurd (omega (arith, fits))
among-step (suc n) order bytes at size fits =
    let next : ℕ = next_note (descriptor_at order bytes at) in
    let behind : at + 12 ≤ next = next-behind order bytes at in
    let test : nat_le (at + 12) (length bytes) ≡ true = le-leb (at + 12) (length bytes) (omega (arith, size, fits)) in
    let same : id_among n order bytes next ≡ id_among (suc n) order bytes next =
    among-enough n (suc n) order bytes next (omega (arith, size, behind)) (omega (arith, size, behind)) in
    rw test (ap (λ (o : Option Descriptor). if is_id_note order bytes at then if_id bytes (descriptor_at order bytes at) else o) same)

pub walk-next : (order : Order) (bytes : List ℕ) (at place size next : ℕ) → at + 12 ≤ length bytes → is_id_note order bytes at ≡ false
    → place ≡ (descriptor_at order bytes at).place → size ≡ (descriptor_at order bytes at).size → next ≡ place + aligned size
    → id_among (length bytes) order bytes next ≡ id_among (length bytes) order bytes at
walk-next order bytes at place size next fits other place_is size_is next_is =
    sym (among-step (length bytes) order bytes at refl fits ∙ rw other (ap (id_among (length bytes) order bytes) (sym (rw (next_is, place_is, size_is) refl))))

pub walk-found : (order : Order) (bytes : List ℕ) (at place size : ℕ) → at + 12 ≤ length bytes → is_id_note order bytes at ≡ true
    → place ≡ (descriptor_at order bytes at).place → size ≡ (descriptor_at order bytes at).size
    → id_among (length bytes) order bytes at ≡ if_id bytes (record { place = place; size = size })
walk-found order bytes at place size fits note place_is size_is =
    among-step (length bytes) order bytes at refl fits ∙ rw note (sym (rw (place_is, size_is) refl))

pub walk-end : (n : ℕ) (order : Order) (bytes : List ℕ) (at : ℕ) → length bytes < at + 12 → id_among n order bytes at ≡ None
walk-end zero order bytes at past = refl
walk-end (suc n) order bytes at past = rw (not-le (at + 12) (length bytes) past) refl

pub ruleset walk_rules = (walk-next, walk-found, walk-end)

pub ruleset name_rules = (take_min)
