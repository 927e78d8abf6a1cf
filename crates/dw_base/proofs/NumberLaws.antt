-- Laws of numbers at places: a number depends only on its own bytes, and what is put there reads back.
use Rattle.std.proofs.Common.{◌≡◌, ℕ, zero, suc, ◌+◌, ◌-◌, ◌*◌, ◌^◌, ◌<◌, ◌≤◌, ◌⊎◌, ◌/◌, ◌%◌, List, [], ◌++◌, length, take, drop, get_or, slice_index, refl, sym, ap, ◌∙◌, arith, inl, inr, subst, Fits, w8}
use Rattle.std.proofs.lemmas.List.{get_or-take, get_or-drop, get_or_append_left, get_or-append-add, length-append, length-take-le, length-drop, drop_at, drop-drop, take-append-le, take_rest, take-take, same_lists, get_or_default, append-nil, append_assoc}
use Rattle.std.proofs.lemmas.Nat.{mod-mul-add, div-mul-add}
use Rattle.std.proofs.lemmas.Bool.{cases_lt}
use Rattle.std.proofs.Math.Nat.{mod-lt}
use Rattle.std.specs.Int.{byte_at, bytes_high_first, bytes_low_first}
use Rattle.byteorder.specs.Endian.{big_from, little_from, big_number, little_number}
use Rattle.byteorder.specs.Numbers.{big_from-lt, little_from-lt, big_number-reads_back, little_number-reads_back, length-bytes_high_first, length-bytes_low_first}
use Rattle.dw_base.specs.declared.shared.Order.{Order}
use Rattle.dw_base.specs.declared.shared.Order.TheVariants.{Little, Big}
use Rattle.dw_base.specs.Numbers.{number_of, number_bytes, spelled, with_number}

-- a number depends on its own bytes alone, the highest first
big_from-ext : (i n : ℕ) (xs ys : List ℕ) → ((k : ℕ) → i ≤ k → k < i + n → slice_index xs k ≡ slice_index ys k) → big_from i n xs ≡ big_from i n ys
big_from-ext i zero xs ys same = refl
big_from-ext i (suc n) xs ys same =
    let byte = same i (omega arith) (omega arith) in
    let rest = big_from-ext (suc i) n xs ys (λ k lo hi. same k (omega arith) (omega arith)) in
    rw (byte, rest) refl

-- a number depends on its own bytes alone, the lowest first
little_from-ext : (i n : ℕ) (xs ys : List ℕ) → ((k : ℕ) → i ≤ k → k < i + n → slice_index xs k ≡ slice_index ys k) → little_from i n xs ≡ little_from i n ys
little_from-ext i zero xs ys same = refl
little_from-ext i (suc n) xs ys same =
    let byte = same i (omega arith) (omega arith) in
    let rest = little_from-ext (suc i) n xs ys (λ k lo hi. same k (omega arith) (omega arith)) in
    rw (byte, rest) refl

-- a number of the first n bytes depends on these alone
pub number_of-ext : (o : Order) (n : ℕ) (xs ys : List ℕ) → ((k : ℕ) → k < n → slice_index xs k ≡ slice_index ys k) → number_of o n xs ≡ number_of o n ys
number_of-ext Little n xs ys same = little_from-ext 0 n xs ys (λ k lo hi. same k (omega arith))
number_of-ext Big n xs ys same = big_from-ext 0 n xs ys (λ k lo hi. same k (omega arith))

-- equal bytes at two places spell one number
pub spelled-ext : (o : Order) (xs ys : List ℕ) (at place n : ℕ) → ((k : ℕ) → k < n → slice_index xs (at + k) ≡ slice_index ys (place + k)) → spelled o xs at n ≡ spelled o ys place n
unfolding spelled
spelled-ext o xs ys at place n same =
    number_of-ext o n (drop at xs) (drop place ys) (λ k lt. get_or-drop at xs k 0 ∙ same k lt ∙ sym (get_or-drop place ys k 0))

-- more bytes behind it change nothing
pub spelled-append : (o : Order) (xs ys : List ℕ) (at n : ℕ) → at + n ≤ length xs → spelled o (xs ++ ys) at n ≡ spelled o xs at n
spelled-append o xs ys at n inside =
    spelled-ext o (xs ++ ys) xs at at n (λ k lt. get_or_append_left xs ys 0 (at + k) (omega arith))

-- bytes in front move the place on
pub spelled-append_right : (o : Order) (xs ys : List ℕ) (at n : ℕ) → spelled o (xs ++ ys) (length xs + at) n ≡ spelled o ys at n
spelled-append_right o xs ys at n =
    spelled-ext o (xs ++ ys) ys (length xs + at) at n
    (λ k lt. let e : length xs + at + k ≡ length xs + (at + k) = omega arith in rw e (get_or-append-add xs ys (at + k) 0))

-- the same at a length that is known by an equation
pub spelled-append_at : (o : Order) (xs ys : List ℕ) (at place n : ℕ) → place ≡ length xs + at → spelled o (xs ++ ys) place n ≡ spelled o ys at n
spelled-append_at o xs ys at place n e = rw e (spelled-append_right o xs ys at n)

-- a cut behind it changes nothing
pub spelled-take : (o : Order) (xs : List ℕ) (m at n : ℕ) → at + n ≤ m → spelled o (take m xs) at n ≡ spelled o xs at n
spelled-take o xs m at n inside =
    spelled-ext o (take m xs) xs at at n (λ k lt. get_or-take m xs (at + k) 0 (omega arith))

-- a cut in front moves the place back
pub spelled-drop : (o : Order) (xs : List ℕ) (m at n : ℕ) → spelled o (drop m xs) at n ≡ spelled o xs (m + at) n
spelled-drop o xs m at n =
    spelled-ext o (drop m xs) xs at (m + at) n
    (λ k lt. let e : m + at + k ≡ m + (at + k) = omega arith in rw e (get_or-drop m xs (at + k) 0))

-- a number of n bytes is below 256 to the power of n
pub number_of-lt : (o : Order) (n : ℕ) (xs : List ℕ) → ((k : ℕ) → slice_index xs k < 256) → number_of o n xs < 256 ^ n
number_of-lt Little n xs small = little_from-lt 0 n xs small
number_of-lt Big n xs small = big_from-lt 0 n xs small

-- the same at a place
pub front-lt : (o : Order) (xs : List ℕ) (at n : ℕ) → ((k : ℕ) → slice_index xs k < 256) → number_of o n (drop at xs) < 256 ^ n
front-lt o xs at n small = number_of-lt o n (drop at xs) (λ k. rw (get_or-drop at xs k 0) (small (at + k)))

pub spelled-lt : (o : Order) (xs : List ℕ) (at n : ℕ) → ((k : ℕ) → slice_index xs k < 256) → spelled o xs at n < 256 ^ n
unfolding spelled
spelled-lt o xs at n small = front-lt o xs at n small

pub length-number_bytes : (o : Order) (n x : ℕ) → length (number_bytes o n x) ≡ n
length-number_bytes Little n x = length-bytes_low_first 0 n x
length-number_bytes Big n x = length-bytes_high_first n x

number_of-number_bytes : (o : Order) (n x : ℕ) (rest : List ℕ) → x < 256 ^ n → number_of o n (number_bytes o n x ++ rest) ≡ x
number_of-number_bytes Little n x rest fits = little_number-reads_back n x rest fits
number_of-number_bytes Big n x rest fits = big_number-reads_back n x rest fits

-- the bytes of a number read back
pub spelled-number_bytes : (o : Order) (n x : ℕ) (rest : List ℕ) → x < 256 ^ n → spelled o (number_bytes o n x ++ rest) 0 n ≡ x
unfolding spelled
spelled-number_bytes o n x rest fits = number_of-number_bytes o n x rest fits

byte_at-lt : (i x : ℕ) → byte_at i x < 256
byte_at-lt zero x = mod-lt x (omega arith)
byte_at-lt (suc i) x = mod-lt _ (omega arith)

bytes_high_first-lt : (n x k : ℕ) → slice_index (bytes_high_first n x) k < 256
bytes_high_first-lt zero x k = omega arith
bytes_high_first-lt (suc n) x zero = byte_at-lt n x
bytes_high_first-lt (suc n) x (suc k) = bytes_high_first-lt n x k

bytes_low_first-lt : (i n x k : ℕ) → slice_index (bytes_low_first i n x) k < 256
bytes_low_first-lt i zero x k = omega arith
bytes_low_first-lt i (suc n) x zero = byte_at-lt i x
bytes_low_first-lt i (suc n) x (suc k) = bytes_low_first-lt (suc i) n x k

-- the bytes of a number are bytes
pub number_bytes-lt : (o : Order) (n x k : ℕ) → slice_index (number_bytes o n x) k < 256
number_bytes-lt Little n x k = bytes_low_first-lt 0 n x k
number_bytes-lt Big n x k = bytes_high_first-lt n x k

-- two numbers of two digits each are equal only where both digits are
digits_same : (a b r s w : ℕ) → r < w → s < w → a * w + r ≡ b * w + s → (a ≡ b) × (r ≡ s)
digits_same a b r s w hr hs e = (
  sym (div-mul-add a w r hr) ∙ ap (λ (x : ℕ). x / w) e ∙ div-mul-add b w s hs,
  sym (mod-mul-add a w r hr) ∙ ap (λ (x : ℕ). x % w) e ∙ mod-mul-add b w s hs,
)

-- bytes that spell one number, the highest first, are the same bytes
big_from-same : (i n : ℕ) (xs ys : List ℕ) → ((k : ℕ) → slice_index xs k < 256) → ((k : ℕ) → slice_index ys k < 256)
    → big_from i n xs ≡ big_from i n ys → (k : ℕ) → i ≤ k → k < i + n → slice_index xs k ≡ slice_index ys k
big_from-same i zero xs ys small_x small_y e k lo hi = absurd (omega arith)
big_from-same i (suc n) xs ys small_x small_y e k lo hi =
    let both = digits_same (slice_index xs i) (slice_index ys i) (big_from (suc i) n xs) (big_from (suc i) n ys) (256 ^ n)
    (big_from-lt (suc i) n xs small_x) (big_from-lt (suc i) n ys small_y) e in
    elim (cases_lt i k) [
      | inl above ↦ big_from-same (suc i) n xs ys small_x small_y both.1 k (omega arith) (omega arith)
      | inr here ↦ let same : i ≡ k = omega arith in subst (λ (j : ℕ). slice_index xs j ≡ slice_index ys j) same both.0
    ]

-- the same, the lowest first
little_from-same : (i n : ℕ) (xs ys : List ℕ) → ((k : ℕ) → slice_index xs k < 256) → ((k : ℕ) → slice_index ys k < 256)
    → little_from i n xs ≡ little_from i n ys → (k : ℕ) → i ≤ k → k < i + n → slice_index xs k ≡ slice_index ys k
little_from-same i zero xs ys small_x small_y e k lo hi = absurd (omega arith)
little_from-same i (suc n) xs ys small_x small_y e k lo hi =
    let first_x = small_x i in
    let first_y = small_y i in
    let first : slice_index xs i ≡ slice_index ys i = omega arith in
    let others : little_from (suc i) n xs ≡ little_from (suc i) n ys = omega arith in
    elim (cases_lt i k) [
      | inl above ↦ little_from-same (suc i) n xs ys small_x small_y others k (omega arith) (omega arith)
      | inr here ↦ let same : i ≡ k = omega arith in subst (λ (j : ℕ). slice_index xs j ≡ slice_index ys j) same first
    ]

-- bytes that spell one number are the same bytes
pub number_of-same : (o : Order) (n : ℕ) (xs ys : List ℕ) → ((k : ℕ) → slice_index xs k < 256) → ((k : ℕ) → slice_index ys k < 256)
    → number_of o n xs ≡ number_of o n ys → (k : ℕ) → k < n → slice_index xs k ≡ slice_index ys k
number_of-same Little n xs ys small_x small_y e k lt = little_from-same 0 n xs ys small_x small_y e k (omega arith) (omega arith)
number_of-same Big n xs ys small_x small_y e k lt = big_from-same 0 n xs ys small_x small_y e k (omega arith) (omega arith)

-- printing the number that was read gives the bytes that were read
pub number_bytes-spelled : (o : Order) (xs : List ℕ) (at n : ℕ) → ((k : ℕ) → slice_index xs k < 256) → at + n ≤ length xs
    → number_bytes o n (spelled o xs at n) ≡ take n (drop at xs)
unfolding spelled
number_bytes-spelled o xs at n small inside =
    let x : ℕ = number_of o n (drop at xs) in
    let front : List ℕ = drop at xs in
    let small_front : (k : ℕ) → slice_index front k < 256 = λ k. rw (get_or-drop at xs k 0) (small (at + k)) in
    let long : length (take n front) ≡ n = length-take-le n front (rw (length-drop at xs) (omega arith)) in
    let read : number_of o n (number_bytes o n x ++ []) ≡ x = number_of-number_bytes o n x [] (number_of-lt o n front small_front) in
    let bare : number_of o n (number_bytes o n x) ≡ x = ap (number_of o n) (sym (append-nil (number_bytes o n x))) ∙ read in
    same_lists (number_bytes o n x) (take n front) (length-number_bytes o n x ∙ sym long)
    (λ k d lt.
    let below : k < n = omega (arith, length-number_bytes o n x) in
    get_or_default (number_bytes o n x) k d 0 lt
    ∙ number_of-same o n (number_bytes o n x) front (number_bytes-lt o n x) small_front bare k below
    ∙ sym (get_or-take n front k 0 below)
    ∙ sym (get_or_default (take n front) k d 0 (omega arith)))

-- the bytes keep their number
pub length-with_number : (o : Order) (bytes : List ℕ) (at n x : ℕ) → at + n ≤ length bytes → length (with_number o bytes at n x) ≡ length bytes
unfolding with_number
length-with_number o bytes at n x inside =
    omega (
      arith,
      length-append (take at bytes ++ number_bytes o n x) (drop (at + n) bytes),
      length-append (take at bytes) (number_bytes o n x),
      length-number_bytes o n x,
      length-take-le at bytes (omega arith),
      length-drop (at + n) bytes,
    )

-- what was put at a place stands there
pub spelled-with_number : (o : Order) (bytes : List ℕ) (at n x : ℕ) → at + n ≤ length bytes → x < 256 ^ n → spelled o (with_number o bytes at n x) at n ≡ x
unfolding with_number
spelled-with_number o bytes at n x inside fits =
    let front = length-take-le at bytes (omega arith) in
    rw append_assoc
    (spelled-append_at o (take at bytes) (number_bytes o n x ++ drop (at + n) bytes) 0 at n (omega arith)
    ∙ spelled-number_bytes o n x (drop (at + n) bytes) fits)

-- a number elsewhere stays
pub spelled-other : (o : Order) (bytes : List ℕ) (at n x k m : ℕ) → at + n ≤ length bytes → (k + m ≤ at) ⊎ (at + n ≤ k)
    → spelled o (with_number o bytes at n x) k m ≡ spelled o bytes k m
unfolding with_number
spelled-other o bytes at n x k m inside (inl before) =
    let front = length-take-le at bytes (omega arith) in
    rw append_assoc
    (spelled-append o (take at bytes) (number_bytes o n x ++ drop (at + n) bytes) k m (omega arith) ∙ spelled-take o bytes at k m before)
spelled-other o bytes at n x k m inside (inr behind) =
    let front = length-take-le at bytes (omega arith) in
    let size : length (take at bytes ++ number_bytes o n x) ≡ at + n = omega (arith, length-append (take at bytes) (number_bytes o n x), length-number_bytes o n x) in
    let split : at + n + (k - (at + n)) ≡ k = omega arith in
    spelled-append_at o (take at bytes ++ number_bytes o n x) (drop (at + n) bytes) (k - (at + n)) k m (omega arith)
    ∙ spelled-drop o bytes (at + n) (k - (at + n)) m
    ∙ ap (λ (j : ℕ). spelled o bytes j m) split

-- the bytes in front of what was put stay, those behind it too, and between them stands what was put
pub take-with_number : (o : Order) (bytes : List ℕ) (at n x k : ℕ) → at + n ≤ length bytes → k ≤ at → take k (with_number o bytes at n x) ≡ take k bytes
unfolding with_number
take-with_number o bytes at n x k inside before =
    let front = length-take-le at bytes (omega arith) in
    rw append_assoc (take-append-le k (take at bytes) (number_bytes o n x ++ drop (at + n) bytes) (omega arith) ∙ take-take k at bytes before)

pub drop-with_number : (o : Order) (bytes : List ℕ) (at n x k : ℕ) → at + n ≤ length bytes → at + n ≤ k → drop k (with_number o bytes at n x) ≡ drop k bytes
unfolding with_number
drop-with_number o bytes at n x k inside behind =
    let front = length-take-le at bytes (omega arith) in
    let size : length (take at bytes ++ number_bytes o n x) ≡ at + n = omega (arith, length-append (take at bytes) (number_bytes o n x), length-number_bytes o n x) in
    let split : at + n + (k - (at + n)) ≡ k = omega arith in
    let whole : List ℕ = take at bytes ++ number_bytes o n x ++ drop (at + n) bytes in
    ap (λ (j : ℕ). drop j whole) (sym split)
    ∙ sym (drop-drop (k - (at + n)) (at + n) whole)
    ∙ ap (drop (k - (at + n))) (drop_at (take at bytes ++ number_bytes o n x) (drop (at + n) bytes) (at + n) size)
    ∙ drop-drop (k - (at + n)) (at + n) bytes
    ∙ ap (λ (j : ℕ). drop j bytes) split

-- a number that was read from the front of a slice of bytes is below 256 to the power of its size
pub little_read-lt : (x n at : ℕ) (xs : List ℕ) → x ≡ little_number n (take (length xs - at) (drop at xs)) → ((k : ℕ) → Fits w8 (get_or xs k 0)) → x < 256 ^ n
little_read-lt x n at xs e small = rw (e, take_rest) (front-lt Little xs at n (λ k. (small k).fits))

pub big_read-lt : (x n at : ℕ) (xs : List ℕ) → x ≡ big_number n (take (length xs - at) (drop at xs)) → ((k : ℕ) → Fits w8 (get_or xs k 0)) → x < 256 ^ n
big_read-lt x n at xs e small = rw (e, take_rest) (front-lt Big xs at n (λ k. (small k).fits))

pub ruleset number_rules = (little_read-lt, big_read-lt)
