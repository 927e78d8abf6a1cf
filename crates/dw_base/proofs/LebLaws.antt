-- Laws of LEB128 numbers: they are read from the last byte back to the first.
use Rattle.std.proofs.Common.{◌≡◌, ℕ, zero, suc, ◌+◌, ◌-◌, ◌*◌, ◌^◌, ◌<◌, ◌≤◌, ◌⊎◌, ◌%◌, ℤ, pos, negsuc, ◌+ℤ◌, ◌*ℤ◌, ◌<ℤ◌, ◌≤ℤ◌, true, false, nat_lt, List, length, drop, slice_index, Option, Some, None, IfSome, refl, sym, arith, inl, inr, subst, add-one, Bool, ◌∷◌, [], if◌then◌else◌, ◌++◌}
use Rattle.std.proofs.lemmas.List.{drop_more, drop_all, drop-append-le, drop-drop, length-drop}
use Rattle.std.proofs.lemmas.Int.{ints}
use Rattle.std.proofs.Math.Nat.{mod-lt}
use Rattle.dw_base.specs.Lebs.{uleb, uleb_more, uleb_within, sleb, sleb_more, sleb_last, sleb_within, fits_i64, IsLast, HasNoLast, IsSized, uleb_at, sleb_at}

not_below : (m n : ℕ) → n ≤ m → nat_lt m n ≡ false
not_below m n h = grind arith

below : (m n : ℕ) → m < n → nat_lt m n ≡ true
below m n h = grind arith

-- a byte of 128 or more is followed by others
pub uleb-more : (xs : List ℕ) (i : ℕ) → i < length xs → 128 ≤ slice_index xs i → uleb (drop i xs) ≡ uleb_more (slice_index xs i) (uleb (drop (i + 1) xs))
uleb-more xs i lt high = rw (drop_more xs i 0 lt, not_below (slice_index xs i) 128 high) refl

-- a byte below 128 is the last
pub uleb-last : (xs : List ℕ) (i : ℕ) → i < length xs → slice_index xs i < 128 → uleb (drop i xs) ≡ Some (slice_index xs i, 1)
uleb-last xs i lt low = rw (drop_more xs i 0 lt, below (slice_index xs i) 128 low) refl

-- where the bytes end there is no number; one byte below 128 is one
pub uleb-past : (xs : List ℕ) (i : ℕ) → length xs ≤ i → None ≡ uleb_within (uleb (drop i xs))
uleb-past xs i le = rw (drop_all i xs le) refl

pub uleb-byte : (xs : List ℕ) (i : ℕ) → i < length xs → slice_index xs i < 128 → Some (slice_index xs i, 1) ≡ uleb_within (uleb (drop i xs))
uleb-byte xs i lt low = rw (uleb-last xs i lt low, below (slice_index xs i) (2 ^ 64) (omega (arith, low))) refl

pub ruleset byte_rules = (uleb-past, uleb-byte)

-- a value that is too large
uleb_within-none : (v n : ℕ) → uleb_within (Some (v, n)) ≡ None → 2 ^ 64 ≤ v
uleb_within-none v n e = grind arith

uleb_within-large : (v n : ℕ) → 2 ^ 64 ≤ v → uleb_within (Some (v, n)) ≡ None
uleb_within-large v n h = rw (not_below v (2 ^ 64) h) refl

-- what has no value within 64 bits has none with more bytes in front
uleb_within-more : (b : ℕ) (o : Option (ℕ × ℕ)) → uleb_within o ≡ None → uleb_within (uleb_more b o) ≡ None
uleb_within-more b None e = refl
uleb_within-more b (Some p) e = let large = uleb_within-none p.0 p.1 e in uleb_within-large _ _ (omega arith)

-- so the number has no value within 64 bits, where none stands behind bytes that aren't the last
pub uleb-front : (xs : List ℕ) (i : ℕ) → i ≤ length xs → ((k : ℕ) → k < i → 128 ≤ slice_index xs k) → uleb_within (uleb (drop i xs)) ≡ None → uleb_within (uleb xs) ≡ None
uleb-front xs zero le high e = e
uleb-front xs (suc i) le high e =
    let last : drop (suc i) xs ≡ drop (i + 1) xs = rw add-one refl in
    let next : uleb_within (uleb (drop (i + 1) xs)) ≡ None = subst (λ (ys : List ℕ). uleb_within (uleb ys) ≡ None) last e in
    uleb-front xs i (omega arith) (λ k lt. high k (omega arith))
    (rw (uleb-more xs i (omega arith) (high i (omega arith))) (uleb_within-more (slice_index xs i) (uleb (drop (i + 1) xs)) next))

-- no last byte, no number
pub uleb-none : (xs : List ℕ) → HasNoLast xs → uleb_within (uleb xs) ≡ None
uleb-none xs none = uleb-front xs (length xs) (omega arith) none.all (rw (drop_all (length xs) xs (omega arith)) refl)

pub uleb-absent : (xs : List ℕ) → HasNoLast xs → None ≡ uleb_within (uleb xs)
uleb-absent xs none = sym (uleb-none xs none)

-- a value of 57 bits or more has no room for seven bits more
pub uleb-over : (xs : List ℕ) (i last v n : ℕ) → IsLast xs last → 0 < i → i ≤ last → uleb (drop i xs) ≡ Some (v, n) → 2 ^ 57 ≤ v → None ≡ uleb_within (uleb xs)
uleb-over xs zero last v n found some le e large = absurd (omega arith)
uleb-over xs (suc j) last v n found some le e large =
    let inside = found.inside in
    let same : drop (suc j) xs ≡ drop (j + 1) xs = rw add-one refl in
    let next : uleb (drop (j + 1) xs) ≡ Some (v, n) = subst (λ (ys : List ℕ). uleb ys ≡ Some (v, n)) same e in
    sym (uleb-front xs j (omega arith) (λ k lt. found.others k (omega arith))
    (rw (uleb-more xs j (omega arith) (found.others j (omega arith)), next)
    (uleb_within-large (slice_index xs j % 128 + 128 * v) (n + 1) (omega arith))))

-- the same for signed numbers
pub sleb-more : (xs : List ℕ) (i : ℕ) → i < length xs → 128 ≤ slice_index xs i → sleb (drop i xs) ≡ sleb_more (slice_index xs i) (sleb (drop (i + 1) xs))
sleb-more xs i lt high = rw (drop_more xs i 0 lt, not_below (slice_index xs i) 128 high) refl

pub sleb-last : (xs : List ℕ) (i : ℕ) → i < length xs → slice_index xs i < 128 → sleb (drop i xs) ≡ Some (sleb_last (slice_index xs i), 1)
sleb-last xs i lt low = rw (drop_more xs i 0 lt, below (slice_index xs i) 128 low) refl

-- what 64 bits hold, signed
fits_i64-high : (z : ℤ) → pos (2 ^ 63) ≤ℤ z → fits_i64 z ≡ false
fits_i64-high (pos n) h = not_below n (2 ^ 63) (omega (arith, ints))
fits_i64-high (negsuc n) h = absurd (omega (arith, ints))

fits_i64-low : (z : ℤ) → z <ℤ negsuc (2 ^ 63 - 1) → fits_i64 z ≡ false
fits_i64-low (pos n) h = absurd (omega (arith, ints))
fits_i64-low (negsuc n) h = not_below n (2 ^ 63) (omega (arith, ints))

pub fits_i64-true : (z : ℤ) → z <ℤ pos (2 ^ 63) → negsuc (2 ^ 63 - 1) ≤ℤ z → fits_i64 z ≡ true
fits_i64-true (pos n) high low = below n (2 ^ 63) (omega (arith, ints))
fits_i64-true (negsuc n) high low = below n (2 ^ 63) (omega (arith, ints))

above_or_below : (n : ℕ) → nat_lt n (2 ^ 63) ≡ false → 2 ^ 63 ≤ n
above_or_below n e = grind arith

fits_i64-false : (z : ℤ) → fits_i64 z ≡ false → (pos (2 ^ 63) ≤ℤ z) ⊎ (z <ℤ negsuc (2 ^ 63 - 1))
fits_i64-false (pos n) e = let large = above_or_below n e in inl (omega (arith, ints))
fits_i64-false (negsuc n) e = let large = above_or_below n e in inr (omega (arith, ints))

sleb_within-none : (v : ℤ) (n : ℕ) → sleb_within (Some (v, n)) ≡ None → fits_i64 v ≡ false
sleb_within-none v n e = grind arith

sleb_within-out : (v : ℤ) (n : ℕ) → fits_i64 v ≡ false → sleb_within (Some (v, n)) ≡ None
sleb_within-out v n h = rw h refl

-- seven bits more don't bring back what doesn't fit
fits_i64-more : (low : ℕ) (v : ℤ) → low < 128 → fits_i64 v ≡ false → fits_i64 (pos low +ℤ pos 128 *ℤ v) ≡ false
fits_i64-more low v small e =
    elim (fits_i64-false v e) [
      | inl high ↦ fits_i64-high (pos low +ℤ pos 128 *ℤ v) (omega (arith, ints))
      | inr deep ↦ fits_i64-low (pos low +ℤ pos 128 *ℤ v) (omega (arith, ints))
    ]

sleb_within-more : (b : ℕ) (o : Option (ℤ × ℕ)) → sleb_within o ≡ None → sleb_within (sleb_more b o) ≡ None
sleb_within-more b None e = refl
sleb_within-more b (Some p) e =
    sleb_within-out (pos (b % 128) +ℤ pos 128 *ℤ p.0) (p.1 + 1) (fits_i64-more (b % 128) p.0 (mod-lt b (omega arith)) (sleb_within-none p.0 p.1 e))

pub sleb-front : (xs : List ℕ) (i : ℕ) → i ≤ length xs → ((k : ℕ) → k < i → 128 ≤ slice_index xs k) → sleb_within (sleb (drop i xs)) ≡ None → sleb_within (sleb xs) ≡ None
sleb-front xs zero le high e = e
sleb-front xs (suc i) le high e =
    let last : drop (suc i) xs ≡ drop (i + 1) xs = rw add-one refl in
    let next : sleb_within (sleb (drop (i + 1) xs)) ≡ None = subst (λ (ys : List ℕ). sleb_within (sleb ys) ≡ None) last e in
    sleb-front xs i (omega arith) (λ k lt. high k (omega arith))
    (rw (sleb-more xs i (omega arith) (high i (omega arith))) (sleb_within-more (slice_index xs i) (sleb (drop (i + 1) xs)) next))

pub sleb-none : (xs : List ℕ) → HasNoLast xs → sleb_within (sleb xs) ≡ None
sleb-none xs none = sleb-front xs (length xs) (omega arith) none.all (rw (drop_all (length xs) xs (omega arith)) refl)

pub sleb-absent : (xs : List ℕ) → HasNoLast xs → None ≡ sleb_within (sleb xs)
sleb-absent xs none = sym (sleb-none xs none)

-- a value that no longer fits with the byte in front
pub sleb-over : (xs : List ℕ) (i j last : ℕ) (v : ℤ) (n : ℕ) → IsLast xs last → i ≡ j + 1 → i ≤ last → sleb (drop i xs) ≡ Some (v, n)
    → fits_i64 (pos (slice_index xs j % 128) +ℤ pos 128 *ℤ v) ≡ false → None ≡ sleb_within (sleb xs)
sleb-over xs i j last v n found step le e out =
    let inside = found.inside in
    let next : sleb (drop (j + 1) xs) ≡ Some (v, n) = subst (λ (k : ℕ). sleb (drop k xs) ≡ Some (v, n)) step e in
    sym (sleb-front xs j (omega arith) (λ k lt. found.others k (omega arith))
    (rw (sleb-more xs j (omega arith) (found.others j (omega arith)), next)
    (sleb_within-out (pos (slice_index xs j % 128) +ℤ pos 128 *ℤ v) (n + 1) out)))

-- a value that fits is the answer
pub sleb_within-fits : (v : ℤ) (n : ℕ) → fits_i64 v ≡ true → sleb_within (Some (v, n)) ≡ Some (v, n)
sleb_within-fits v n fits = rw fits refl

-- a number that is read has a byte at least, and no more bytes than there are
uleb_more-size : (b m : ℕ) (o : Option (ℕ × ℕ)) → IfSome o (IsSized m) → IfSome (uleb_more b o) (IsSized (suc m))
uleb_more-size b m None sized = tt
uleb_more-size b m (Some p) sized = record { some = omega (arith, sized.some); within = omega (arith, sized.within) }

uleb-size_cases : (b m : ℕ) (o : Option (ℕ × ℕ)) (low : Bool) → IfSome o (IsSized m) → IfSome (if low then Some (b, 1) else uleb_more b o) (IsSized (suc m))
uleb-size_cases b m o true sized = record { some = omega arith; within = omega arith }
uleb-size_cases b m o false sized = uleb_more-size b m o sized

uleb-size : (xs : List ℕ) → IfSome (uleb xs) (IsSized (length xs))
uleb-size [] = tt
uleb-size (b ∷ bs) = uleb-size_cases b (length bs) (uleb bs) (nat_lt b 128) (uleb-size bs)

uleb_within-size_cases : (v n m : ℕ) (fits : Bool) → IsSized {V = ℕ} m (v, n) → IfSome (if fits then Some (v, n) else None) (IsSized m)
uleb_within-size_cases v n m true sized = sized
uleb_within-size_cases v n m false sized = tt

uleb_within-size : (m : ℕ) (o : Option (ℕ × ℕ)) → IfSome o (IsSized m) → IfSome (uleb_within o) (IsSized m)
uleb_within-size m None sized = tt
uleb_within-size m (Some p) sized = uleb_within-size_cases p.0 p.1 m (nat_lt p.0 (2 ^ 64)) sized

pub uleb_at-size : (xs : List ℕ) → IfSome (uleb_within (uleb xs)) (IsSized (length xs))
uleb_at-size xs = uleb_within-size (length xs) (uleb xs) (uleb-size xs)

-- a number that was read has some bytes, and lies within these
pub uleb-some : (bytes : List ℕ) (place v n : ℕ) → uleb_at bytes place ≡ Some (v, n) → 0 < n
unfolding uleb_at
uleb-some bytes place v n e = (subst (λ (o : Option (ℕ × ℕ)). IfSome o (IsSized (length (drop place bytes)))) e (uleb_at-size (drop place bytes))).some

pub uleb-inside : (bytes : List ℕ) (place v n : ℕ) → uleb_at bytes place ≡ Some (v, n) → place + n ≤ length bytes
unfolding uleb_at
uleb-inside bytes place v n e =
    let s : IsSized (length (drop place bytes)) (v, n) = subst (λ (o : Option (ℕ × ℕ)). IfSome o (IsSized (length (drop place bytes)))) e (uleb_at-size (drop place bytes)) in
    let some = s.some in
    let within = s.within in
    omega (arith, some, within, length-drop place bytes)

-- the same for signed numbers
sleb_more-size : (b m : ℕ) (o : Option (ℤ × ℕ)) → IfSome o (IsSized m) → IfSome (sleb_more b o) (IsSized (suc m))
sleb_more-size b m None sized = tt
sleb_more-size b m (Some p) sized = record { some = omega (arith, sized.some); within = omega (arith, sized.within) }

sleb-size_cases : (b m : ℕ) (o : Option (ℤ × ℕ)) (low : Bool) → IfSome o (IsSized m) → IfSome (if low then Some (sleb_last b, 1) else sleb_more b o) (IsSized (suc m))
sleb-size_cases b m o true sized = record { some = omega arith; within = omega arith }
sleb-size_cases b m o false sized = sleb_more-size b m o sized

sleb-size : (xs : List ℕ) → IfSome (sleb xs) (IsSized (length xs))
sleb-size [] = tt
sleb-size (b ∷ bs) = sleb-size_cases b (length bs) (sleb bs) (nat_lt b 128) (sleb-size bs)

sleb_within-size_cases : (v : ℤ) (n m : ℕ) (fits : Bool) → IsSized {V = ℤ} m (v, n) → IfSome (if fits then Some (v, n) else None) (IsSized m)
sleb_within-size_cases v n m true sized = sized
sleb_within-size_cases v n m false sized = tt

sleb_within-size : (m : ℕ) (o : Option (ℤ × ℕ)) → IfSome o (IsSized m) → IfSome (sleb_within o) (IsSized m)
sleb_within-size m None sized = tt
sleb_within-size m (Some p) sized = sleb_within-size_cases p.0 p.1 m (fits_i64 p.0) sized

pub sleb_at-size : (xs : List ℕ) → IfSome (sleb_within (sleb xs)) (IsSized (length xs))
sleb_at-size xs = sleb_within-size (length xs) (sleb xs) (sleb-size xs)

uleb_more-kept : (b : ℕ) (o more : Option (ℕ × ℕ)) (p : ℕ × ℕ) → ((q : ℕ × ℕ) → o ≡ Some q → more ≡ Some q) → uleb_more b o ≡ Some p → uleb_more b more ≡ Some p
uleb_more-kept b None more p kept e = cc
uleb_more-kept b (Some q) more p kept e = rw (kept q refl) e

uleb-append_cases : (b : ℕ) (low : Bool) (o more : Option (ℕ × ℕ)) (p : ℕ × ℕ) → ((q : ℕ × ℕ) → o ≡ Some q → more ≡ Some q)
    → (if low then Some (b, 1) else uleb_more b o) ≡ Some p → (if low then Some (b, 1) else uleb_more b more) ≡ Some p
uleb-append_cases b true o more p kept e = e
uleb-append_cases b false o more p kept e = uleb_more-kept b o more p kept e

-- a number depends on its own bytes alone
pub uleb-append : (xs ys : List ℕ) (p : ℕ × ℕ) → uleb xs ≡ Some p → uleb (xs ++ ys) ≡ Some p
uleb-append [] ys p e = cc
uleb-append (b ∷ bs) ys p e = uleb-append_cases b (nat_lt b 128) (uleb bs) (uleb (bs ++ ys)) p (λ q. uleb-append bs ys q) e

uleb_within-kept : (o more : Option (ℕ × ℕ)) (p : ℕ × ℕ) → ((q : ℕ × ℕ) → o ≡ Some q → more ≡ Some q) → uleb_within o ≡ Some p → uleb_within more ≡ Some p
uleb_within-kept None more p kept e = cc
uleb_within-kept (Some q) more p kept e = rw (kept q refl) e

-- more bytes behind it change nothing
pub uleb_at-append : (xs ys : List ℕ) (at : ℕ) (p : ℕ × ℕ) → at ≤ length xs → uleb_at xs at ≡ Some p → uleb_at (xs ++ ys) at ≡ Some p
unfolding uleb_at
uleb_at-append xs ys at p inside e =
    rw (drop-append-le at xs ys inside) (uleb_within-kept (uleb (drop at xs)) (uleb (drop at xs ++ ys)) p (λ q. uleb-append (drop at xs) ys q) e)

-- a cut in front moves the place back
pub uleb_at-drop : (xs : List ℕ) (m at : ℕ) → uleb_at (drop m xs) at ≡ uleb_at xs (m + at)
unfolding uleb_at
uleb_at-drop xs m at = rw (drop-drop at m xs) refl

sleb_more-kept : (b : ℕ) (o more : Option (ℤ × ℕ)) (p : ℤ × ℕ) → ((q : ℤ × ℕ) → o ≡ Some q → more ≡ Some q) → sleb_more b o ≡ Some p → sleb_more b more ≡ Some p
sleb_more-kept b None more p kept e = cc
sleb_more-kept b (Some q) more p kept e = rw (kept q refl) e

sleb-append_cases : (b : ℕ) (low : Bool) (o more : Option (ℤ × ℕ)) (p : ℤ × ℕ) → ((q : ℤ × ℕ) → o ≡ Some q → more ≡ Some q)
    → (if low then Some (sleb_last b, 1) else sleb_more b o) ≡ Some p → (if low then Some (sleb_last b, 1) else sleb_more b more) ≡ Some p
sleb-append_cases b true o more p kept e = e
sleb-append_cases b false o more p kept e = sleb_more-kept b o more p kept e

-- a number depends on its own bytes alone
pub sleb-append : (xs ys : List ℕ) (p : ℤ × ℕ) → sleb xs ≡ Some p → sleb (xs ++ ys) ≡ Some p
sleb-append [] ys p e = cc
sleb-append (b ∷ bs) ys p e = sleb-append_cases b (nat_lt b 128) (sleb bs) (sleb (bs ++ ys)) p (λ q. sleb-append bs ys q) e

sleb_within-kept : (o more : Option (ℤ × ℕ)) (p : ℤ × ℕ) → ((q : ℤ × ℕ) → o ≡ Some q → more ≡ Some q) → sleb_within o ≡ Some p → sleb_within more ≡ Some p
sleb_within-kept None more p kept e = cc
sleb_within-kept (Some q) more p kept e = rw (kept q refl) e

-- more bytes behind it change nothing
pub sleb_at-append : (xs ys : List ℕ) (at : ℕ) (p : ℤ × ℕ) → at ≤ length xs → sleb_at xs at ≡ Some p → sleb_at (xs ++ ys) at ≡ Some p
unfolding sleb_at
sleb_at-append xs ys at p inside e =
    rw (drop-append-le at xs ys inside) (sleb_within-kept (sleb (drop at xs)) (sleb (drop at xs ++ ys)) p (λ q. sleb-append (drop at xs) ys q) e)

-- a cut in front moves the place back
pub sleb_at-drop : (xs : List ℕ) (m at : ℕ) → sleb_at (drop m xs) at ≡ sleb_at xs (m + at)
unfolding sleb_at
sleb_at-drop xs m at = rw (drop-drop at m xs) refl

-- where no number ends in the bytes
pub ruleset leb_rules = (uleb-absent, sleb-absent)
