-- Laws of where the first and the last NUL of a string table stand.
use Rattle.std.proofs.Common.{◌≡◌, ◌≢◌, ℕ, zero, suc, ◌+◌, ◌-◌, ◌<◌, ◌≤◌, ◌==◌, Bool, true, false, nat_lt, List, [], ◌∷◌, Option, None, Some, length, drop, slice_index, refl, sym, ap, ◌∙◌, arith, inl, inr}
use Rattle.std.specs.List.{position, position_or_len}
use Rattle.std.proofs.lemmas.List.Sums.{position_or_len_is}
use Rattle.std.proofs.lemmas.List.{drop_more, drop-drop, get_or-drop, length-drop}
use Rattle.std.proofs.lemmas.List.Folds.{list_any_at}
use Rattle.std.proofs.lemmas.Bool.{cases_lt}
use Rattle.dw_base.specs.Texts.{has_nul, ends_in, IsNulEnd}
use Rattle.memchr.specs.Find.{IsFirstByte, is_byte}

not_below : (m n : ℕ) → n ≤ m → nat_lt m n ≡ false
not_below m n h = grind arith

below : (m n : ℕ) → m < n → nat_lt m n ≡ true
below m n h = grind arith

-- no NUL, and none behind the first bytes
has_nul-drop : (k : ℕ) (xs : List ℕ) → has_nul xs ≡ false → has_nul (drop k xs) ≡ false
has_nul-drop zero xs none = none
has_nul-drop (suc k) [] none = none
has_nul-drop (suc k) (x ∷ xs) none = has_nul-drop k xs (grind arith)

-- a NUL stands in what begins before it
has_nul-found : (xs : List ℕ) (i place : ℕ) → place ≤ i → i < length xs → slice_index xs i ≡ 0 → has_nul (drop place xs) ≡ true
has_nul-found xs i place le lt nul =
    let whole : place + (i - place) ≡ i = omega arith in
    list_any_at (λ (b : ℕ). b == 0) (drop place xs) (i - place) 0 (omega (arith, length-drop place xs))
    (rw (get_or-drop place xs (i - place) 0, whole, nul) refl)

-- a byte that is no NUL
not_zero : (x : ℕ) → x ≢ 0 → (x == 0) ≡ false
not_zero x other = grind arith

has_nul-other : (x : ℕ) (xs : List ℕ) → x ≢ 0 → has_nul xs ≡ false → has_nul (x ∷ xs) ≡ false
has_nul-other x xs other none = rw (not_zero x other) none

-- the byte before is no NUL, so none stands from there on
pub has_nul-before : (xs : List ℕ) (end : ℕ) → 0 < end → end ≤ length xs → has_nul (drop end xs) ≡ false → slice_index xs (end - 1) ≢ 0
    → has_nul (drop (end - 1) xs) ≡ false
has_nul-before xs end some le none other =
    let next : end - 1 + 1 ≡ end = omega arith in
    rw (drop_more xs (end - 1) 0 (omega arith), next) (has_nul-other (slice_index xs (end - 1)) (drop end xs) other none)

ends_in-before : (xs : List ℕ) (i place : ℕ) → place ≤ i → i < length xs → slice_index xs i ≡ 0 → ends_in xs place ≡ true
unfolding ends_in
ends_in-before xs i place le lt nul = has_nul-found xs i place le lt nul

ends_in-behind : (xs : List ℕ) (end place : ℕ) → end ≤ place → has_nul (drop end xs) ≡ false → ends_in xs place ≡ false
unfolding ends_in
ends_in-behind xs end place le none =
    let whole : end + (place - end) ≡ place = omega arith in
    let same : drop (place - end) (drop end xs) ≡ drop place xs = drop-drop (place - end) end xs ∙ ap (λ (k : ℕ). drop k xs) whole in
    ap has_nul (sym same) ∙ has_nul-drop (place - end) (drop end xs) none

-- the last NUL was found
pub nul_end-found : (xs : List ℕ) (end : ℕ) → 0 < end → end ≤ length xs → has_nul (drop end xs) ≡ false → slice_index xs (end - 1) ≡ 0
    → IsNulEnd xs end
nul_end-found xs end some le none nul = record {
  ends = λ place. elim (cases_lt place end) [
    | inl lt ↦ ends_in-before xs (end - 1) place (omega arith) (omega arith) nul ∙ sym (below place end lt)
    | inr ge ↦ ends_in-behind xs end place ge none ∙ sym (not_below place end ge)
  ];
}

-- there is no NUL
pub nul_end-none : (xs : List ℕ) → has_nul (drop 0 xs) ≡ false → IsNulEnd xs 0
nul_end-none xs none = record { ends = λ place. ends_in-behind xs 0 place (omega arith) none ∙ sym (not_below place 0 (omega arith)) }

pub ruleset nul_laws = (has_nul-before, nul_end-found, nul_end-none)

-- a name that begins before the last NUL ends
pub name-ends : (table : List ℕ) (end place : ℕ) → IsNulEnd table end → place < end → ends_in table place ≡ true
name-ends table end place is lt = is.ends place ∙ below place end lt

-- one that doesn't begin before it has no end
pub name-unended : (table : List ℕ) (end place : ℕ) → IsNulEnd table end → end ≤ place → ends_in table place ≡ false
name-unended table end place is le = is.ends place ∙ not_below place end le

-- ### The first NUL

not_true : (b : Bool) → (b ≡ true → ⊥) → b ≡ false
not_true false none = refl
not_true true none = absurd (none refl)

first-none : (xs : List ℕ) → position_or_len (λ b. b == 0) xs ≡ length xs → position (λ b. b == 0) xs ≡ None
first-none xs is = rw (is, not_below (length xs) (length xs) (omega arith)) refl

first-some : (xs : List ℕ) (k : ℕ) → k < length xs → position_or_len (λ b. b == 0) xs ≡ k → position (λ b. b == 0) xs ≡ Some k
first-some xs k lt is = rw (is, below k (length xs) lt) refl

-- what a search for a NUL found is where the first stands
pub first-nul : (xs : List ℕ) (found : Option ℕ) → IsFirstByte (is_byte 0) xs found → found ≡ position (λ b. b == 0) xs
first-nul xs None none =
    sym (first-none xs (position_or_len_is (λ b. b == 0) xs (length xs) 0 (omega arith) (λ k lt. not_true (slice_index xs k == 0) (none k (omega arith) lt)) (λ lt. absurd (omega (arith, lt)))))
first-nul xs (Some k) first =
    sym (first-some xs k first.0.high (position_or_len_is (λ b. b == 0) xs k 0 (omega (arith, first.0.high)) (λ j lt. not_true (slice_index xs j == 0) (first.0.before j (omega arith) lt)) (λ lt. first.1)))
