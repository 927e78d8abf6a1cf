-- Laws of new numbers in fields that were put in order: the bytes are the same, and no field begins before the one before it ends.
use Rattle.std.proofs.Common.{inl, inr, ◌≡◌, ◌≢◌, ℕ, suc, ◌+◌, ◌-◌, ◌<◌, ◌≤◌, ◌==◌, ◌&&◌, nat_le, nat_lt, Bool, true, false, if◌then◌else◌, List, [], ◌∷◌, ◌++◌, length, drop, take, slice_index, refl, sym, ap, ◌∙◌, subst, arith}
use Rattle.std.specs.Prelude.{sum_by, ⊤}
use Rattle.std.specs.List.Sorted.{IsNonDecreasingBy, IsPermutation}
use Rattle.std.proofs.lemmas.Bool.{cases_lt, eq-eqb, ne_eqb}
use Rattle.std.proofs.lemmas.Bool.Decides.{nat_tests}
use Rattle.std.proofs.lemmas.List.{append_assoc, drop_at, get_or-take, get_or-drop, get_or_default, length-take-le, same_lists, take_at}
use Rattle.std.proofs.lemmas.List.Elements.{Contains-get_or, at_from_Contains}
use Rattle.std.proofs.lemmas.List.Sums.{sum_by-cons}
use Rattle.std.proofs.lemmas.List.Sorted.{Contains-permutation, IsPermutation-sym, sum_by-IsPermutation}
use Rattle.dw_base.specs.Numbers.{number_bytes, with_number}
use Rattle.dw_base.specs.declared.shared.Order.{Order}
use Rattle.dw_base.proofs.NumberLaws.{length-number_bytes, length-with_number}
use Rattle.elf_layout.specs.Patched.{AreInOrder, IsApart, PatchFits, PatchesFit, field_start, patch_at, with_patches}
use Rattle.elf_layout.specs.declared.patch.Patch.{Patch}
use Rattle.elf_layout.proofs.PatchLaws.{byte-kept}

-- ### Which fields have a byte

abbrev is_in : ℕ → Patch → Bool
is_in k p = nat_le p.at k && nat_lt k (p.at + p.size)

-- how many of them
abbrev count_in : List Patch → ℕ → ℕ
count_in [] k = 0
count_in (p ∷ ps) k = (if is_in k p then 1 else 0) + count_in ps k

-- and what they put there
abbrev put_in : Order → ℕ → Patch → ℕ
put_in o k p = slice_index (number_bytes o p.size p.value) (k - p.at)

abbrev byte_in : Order → List Patch → ℕ → ℕ
byte_in o [] k = 0
byte_in o (p ∷ ps) k = (if is_in k p then put_in o k p else 0) + byte_in o ps k

-- a number, where there are none
abbrev if_none : ℕ → ℕ → ℕ
if_none c x = if c == 0 then x else 0

none-is : (c x : ℕ) → c ≡ 0 → if_none c x ≡ x
none-is c x none = ap (λ (b : Bool). if b then x else 0) (eq-eqb c 0 none)

some-is : (c x : ℕ) → c ≢ 0 → if_none c x ≡ 0
some-is c x some = ap (λ (b : Bool). if b then x else 0) (ne_eqb c 0 some)

and-left : (p q : Bool) → (p && q) ≡ true → p ≡ true
and-left true q h = refl
and-left false q h = cc

and-right : (p q : Bool) → (p && q) ≡ true → q ≡ true
and-right true q h = h
and-right false q h = cc

both : (p q : Bool) → p ≡ true → q ≡ true → (p && q) ≡ true
both p q e f = rw (e, f) refl

le-is : (m n : ℕ) → nat_le m n ≡ true → m ≤ n
le-is m n h = grind (arith, nat_tests)

lt-is : (m n : ℕ) → nat_lt m n ≡ true → m < n
lt-is m n h = grind (arith, nat_tests)

is-le : (m n : ℕ) → m ≤ n → nat_le m n ≡ true
is-le m n le = grind (arith, nat_tests)

is-lt : (m n : ℕ) → m < n → nat_lt m n ≡ true
is-lt m n lt = grind (arith, nat_tests)

in-is : (k : ℕ) (p : Patch) → is_in k p ≡ true → (p.at ≤ k) × (k < p.at + p.size)
in-is k p h = (
  le-is p.at k (and-left (nat_le p.at k) (nat_lt k (p.at + p.size)) h),
  lt-is k (p.at + p.size) (and-right (nat_le p.at k) (nat_lt k (p.at + p.size)) h),
)

is-in : (k : ℕ) (p : Patch) → p.at ≤ k → k < p.at + p.size → is_in k p ≡ true
is-in k p above below = both (nat_le p.at k) (nat_lt k (p.at + p.size)) (is-le p.at k above) (is-lt k (p.at + p.size) below)

-- a byte of none of them is apart
apart-is : (k : ℕ) (p : Patch) → is_in k p ≡ false → IsApart p k 1
apart-is k p h = elim (cases_lt k p.at) [
  | inl before ↦ inl (omega (arith, before))
  | inr above ↦ elim (cases_lt k (p.at + p.size)) [
    | inl below ↦ absurd (clash h (is-in k p above below))
    | inr behind ↦ inr behind
  ]
]
  where
    clash : {x : Bool} → x ≡ false → x ≡ true → ⊥
    clash a b = absurd cc

-- ### What they put

abbrev AllFit : ℕ → List Patch → Type 0
AllFit n [] = ⊤
AllFit n (p ∷ ps) = PatchFits n p × AllFit n ps

all-fit : (n : ℕ) (list : List Patch) → ((i : ℕ) → i < length list → PatchFits n (patch_at list i)) → AllFit n list
all-fit n [] each = tt
all-fit n (p ∷ ps) each = (each 0 (omega arith), all-fit n ps (λ i lt. each (suc i) (omega (arith, lt))))

between-with_number : (o : Order) (bytes : List ℕ) (at n x : ℕ) → at + n ≤ length bytes → take n (drop at (with_number o bytes at n x)) ≡ number_bytes o n x
unfolding with_number
between-with_number o bytes at n x inside =
    rw (append_assoc, drop_at (take at bytes) (number_bytes o n x ++ drop (at + n) bytes) at (length-take-le at bytes (omega arith)))
    (take_at (number_bytes o n x) (drop (at + n) bytes) n (length-number_bytes o n x))

number-byte : (o : Order) (bytes : List ℕ) (p : Patch) (k : ℕ) → p.at + p.size ≤ length bytes → p.at ≤ k → k < p.at + p.size
    → slice_index (with_number o bytes p.at p.size p.value) k ≡ put_in o k p
number-byte o bytes p k inside above below =
    let split : p.at + (k - p.at) ≡ k = omega (arith, above) in
    ap (λ (j : ℕ). slice_index (with_number o bytes p.at p.size p.value) j) (sym split)
    ∙ sym (get_or-drop p.at (with_number o bytes p.at p.size p.value) (k - p.at) 0)
    ∙ sym (get_or-take p.size (drop p.at (with_number o bytes p.at p.size p.value)) (k - p.at) 0 (omega (arith, above, below)))
    ∙ ap (λ (bs : List ℕ). slice_index bs (k - p.at)) (between-with_number o bytes p.at p.size p.value inside)

none-put : (o : Order) (ps : List Patch) (k : ℕ) → count_in ps k ≡ 0 → byte_in o ps k ≡ 0
none-put o [] k none = refl
none-put o (p ∷ ps) k none = by_in (is_in k p) none (none-put o ps k)
  where
    by_in : (t : Bool) → (if t then 1 else 0) + count_in ps k ≡ 0 → (count_in ps k ≡ 0 → byte_in o ps k ≡ 0) → (if t then put_in o k p else 0) + byte_in o ps k ≡ 0
    by_in true e rest = absurd (omega (arith, e))
    by_in false e rest = let here : count_in ps k ≡ 0 = omega (arith, e) in omega (arith, rest here)

-- a byte is what the one field puts that has it, or as it was
put-byte : (o : Order) (list : List Patch) (old : List ℕ) (k : ℕ) → AllFit (length old) list → count_in list k ≤ 1
    → slice_index (with_patches o old list) k ≡ byte_in o list k + if_none (count_in list k) (slice_index old k)
put-byte o [] old k fits once = let e : 0 + slice_index old k ≡ slice_index old k = omega arith in sym e
put-byte o (p ∷ ps) old k fits once =
    let inside : p.at + p.size ≤ length old = fits.0.inside in
    let long : length (with_number o old p.at p.size p.value) ≡ length old = length-with_number o old p.at p.size p.value inside in
    by_in (is_in k p) refl once
    (put-byte o ps (with_number o old p.at p.size p.value) k (subst (λ (n : ℕ). AllFit n ps) (sym long) fits.1))
  where
    by_in : (t : Bool) → is_in k p ≡ t → (if t then 1 else 0) + count_in ps k ≤ 1
        → (count_in ps k ≤ 1 → slice_index (with_patches o (with_number o old p.at p.size p.value) ps) k
        ≡ byte_in o ps k + if_none (count_in ps k) (slice_index (with_number o old p.at p.size p.value) k))
        → slice_index (with_patches o (with_number o old p.at p.size p.value) ps) k
        ≡ (if t then put_in o k p else 0) + byte_in o ps k + if_none ((if t then 1 else 0) + count_in ps k) (slice_index old k)
    by_in true is few rest =
        let none : count_in ps k ≡ 0 = omega (arith, few) in
        let there = in-is k p is in
        let byte : slice_index (with_number o old p.at p.size p.value) k ≡ put_in o k p = number-byte o old p k fits.0.inside there.0 there.1 in
        let here = rest (omega (arith, none)) in
        let kept : if_none (count_in ps k) (slice_index (with_number o old p.at p.size p.value) k) ≡ slice_index (with_number o old p.at p.size p.value) k =
        none-is (count_in ps k) (slice_index (with_number o old p.at p.size p.value) k) none in
        let gone : if_none (1 + count_in ps k) (slice_index old k) ≡ 0 = some-is (1 + count_in ps k) (slice_index old k) (λ e. omega (arith, e)) in
        omega (arith, here, kept, gone, byte, none-put o ps k none)
    by_in false is few rest =
        let byte : slice_index (with_number o old p.at p.size p.value) k ≡ slice_index old k = byte-kept o old p k fits.0.inside (apart-is k p is) in
        let here = rest (omega (arith, few)) in
        let kept : if_none (count_in ps k) (slice_index (with_number o old p.at p.size p.value) k) ≡ if_none (count_in ps k) (slice_index old k) =
        ap (if_none (count_in ps k)) byte in
        let same : if_none (0 + count_in ps k) (slice_index old k) ≡ if_none (count_in ps k) (slice_index old k) =
        let e : 0 + count_in ps k ≡ count_in ps k = omega arith in ap (λ (c : ℕ). if_none c (slice_index old k)) e in
        omega (arith, here, kept, same)

-- ### Of fields that are apart one at most has a byte

count-none : (p : Patch) (ps : List Patch) (k : ℕ) → is_in k p ≡ true → ((j : ℕ) → j < length ps → IsApart p (patch_at ps j).at (patch_at ps j).size) → count_in ps k ≡ 0
count-none p [] k is apart = refl
count-none p (q ∷ qs) k is apart =
    by_in (is_in k q) refl (apart 0 (omega arith)) (count-none p qs k is (λ j lt. apart (suc j) (omega (arith, lt))))
  where
    by_in : (t : Bool) → is_in k q ≡ t → IsApart p q.at q.size → count_in qs k ≡ 0 → (if t then 1 else 0) + count_in qs k ≡ 0
    by_in true there (inl before) rest = let a = in-is k p is in let b = in-is k q there in absurd (omega (arith, a.0, b.1, before))
    by_in true there (inr behind) rest = let a = in-is k p is in let b = in-is k q there in absurd (omega (arith, a.1, b.0, behind))
    by_in false other clear rest = omega (arith, rest)

count-once : (list : List Patch) (k : ℕ) → ((i j : ℕ) → i < j → j < length list → IsApart (patch_at list i) (patch_at list j).at (patch_at list j).size) → count_in list k ≤ 1
count-once [] k apart = omega arith
count-once (p ∷ ps) k apart =
    by_in (is_in k p) refl (count-once ps k (λ i j below lt. apart (suc i) (suc j) (omega (arith, below)) (omega (arith, lt))))
  where
    by_in : (t : Bool) → is_in k p ≡ t → count_in ps k ≤ 1 → (if t then 1 else 0) + count_in ps k ≤ 1
    by_in true is rest = let none = count-none p ps k is (λ j lt. apart 0 (suc j) (omega arith) (omega (arith, lt))) in omega (arith, none)
    by_in false other rest = omega (arith, rest)

-- ### The order doesn't count

abbrev one_of : Bool → ℕ
one_of b = if b then 1 else 0

abbrev one_in : ℕ → Patch → ℕ
one_in k p = one_of (is_in k p)

abbrev byte_of : Order → ℕ → Patch → ℕ
byte_of o k p = if is_in k p then put_in o k p else 0

count-sum : (list : List Patch) (k : ℕ) → count_in list k ≡ sum_by (one_in k) list
count-sum [] k = refl
count-sum (p ∷ ps) k = ap (λ (n : ℕ). one_in k p + n) (count-sum ps k) ∙ sym (sum_by-cons (one_in k) p ps)

byte-sum : (o : Order) (list : List Patch) (k : ℕ) → byte_in o list k ≡ sum_by (byte_of o k) list
byte-sum o [] k = refl
byte-sum o (p ∷ ps) k = ap (λ (n : ℕ). byte_of o k p + n) (byte-sum o ps k) ∙ sym (sum_by-cons (byte_of o k) p ps)

count-moved : (xs ys : List Patch) (k : ℕ) → IsPermutation xs ys → count_in ys k ≡ count_in xs k
count-moved xs ys k moved = count-sum ys k ∙ sum_by-IsPermutation (one_in k) xs ys moved ∙ sym (count-sum xs k)

byte-moved : (o : Order) (xs ys : List Patch) (k : ℕ) → IsPermutation xs ys → byte_in o ys k ≡ byte_in o xs k
byte-moved o xs ys k moved = byte-sum o ys k ∙ sum_by-IsPermutation (byte_of o k) xs ys moved ∙ sym (byte-sum o xs k)

fit-moved : (n : ℕ) (xs ys : List Patch) → IsPermutation xs ys → ((i : ℕ) → i < length xs → PatchFits n (patch_at xs i)) → AllFit n ys
fit-moved n xs ys moved each = all-fit n ys (λ j lt.
    let found = at_from_Contains xs (patch_at ys j)
    (Contains-permutation ys xs (patch_at ys j) (IsPermutation-sym xs ys moved) (Contains-get_or ys j (record { at = 0; size = 0; value = 0 }) lt)) in
    subst (PatchFits n) (found.2 (record { at = 0; size = 0; value = 0 })) (each found.0 found.1))

put-long : (o : Order) (n : ℕ) (bytes : List ℕ) (list : List Patch) → length bytes ≡ n → AllFit n list → length (with_patches o bytes list) ≡ n
put-long o n bytes [] long fits = long
put-long o n bytes (p ∷ ps) long fits =
    let inside : p.at + p.size ≤ length bytes = omega (arith, fits.0.inside, long) in
    put-long o n (with_number o bytes p.at p.size p.value) ps (length-with_number o bytes p.at p.size p.value inside ∙ long) fits.1

pub put-moved : (o : Order) (old : List ℕ) (xs ys : List Patch) → IsPermutation xs ys → PatchesFit (length old) xs → with_patches o old ys ≡ with_patches o old xs
put-moved o old xs ys moved fit =
    let first : AllFit (length old) xs = all-fit (length old) xs fit.each in
    let second : AllFit (length old) ys = fit-moved (length old) xs ys moved fit.each in
    let long_x = put-long o (length old) old xs refl first in
    let long_y = put-long o (length old) old ys refl second in
    same_lists (with_patches o old ys) (with_patches o old xs) (long_y ∙ sym long_x)
    (λ k d lt.
    let once : count_in xs k ≤ 1 = count-once xs k fit.apart in
    let same : count_in ys k ≡ count_in xs k = count-moved xs ys k moved in
    get_or_default (with_patches o old ys) k d 0 lt
    ∙ put-byte o ys old k second (omega (arith, same, once))
    ∙ ap (λ (n : ℕ). n + if_none (count_in ys k) (slice_index old k)) (byte-moved o xs ys k moved)
    ∙ ap (λ (c : ℕ). byte_in o xs k + if_none c (slice_index old k)) same
    ∙ sym (put-byte o xs old k first once)
    ∙ sym (get_or_default (with_patches o old xs) k d 0 (omega (arith, lt, long_x, long_y))))

-- ### In order

abbrev BeginsBehind : ℕ → List Patch → Type 0
BeginsBehind place [] = ⊤
BeginsBehind place (p ∷ ps) = place ≤ p.at

next-behind : (n : ℕ) (p : Patch) (ps : List Patch) → AllFit n ps → IsNonDecreasingBy field_start (p ∷ ps) → ((k : ℕ) → count_in (p ∷ ps) k ≤ 1)
    → BeginsBehind (p.at + p.size) ps
next-behind n p [] fits sorted once = tt
next-behind n p (q ∷ qs) fits sorted once =
    let up : p.at ≤ q.at = sorted 0 1 p (omega arith) (omega arith) in
    let some : 0 < q.size = fits.0.some in
    elim (cases_lt q.at (p.at + p.size)) [
      | inl below ↦
          let one : one_in q.at p ≡ 1 = ap one_of (is-in q.at p up below) in
          let two : one_in q.at q ≡ 1 = ap one_of (is-in q.at q (omega arith) (omega (arith, some))) in
          absurd (omega (arith, once q.at, one, two))
      | inr behind ↦ behind
    ]

in-order : (n place : ℕ) (list : List Patch) → AllFit n list → IsNonDecreasingBy field_start list → ((k : ℕ) → count_in list k ≤ 1) → BeginsBehind place list
    → AreInOrder n place list
in-order n place [] fits sorted once behind = tt
in-order n place (p ∷ ps) fits sorted once behind = (
  fits.0,
  behind,
  in-order n (p.at + p.size) ps fits.1 (λ i j d le lt. sorted (suc i) (suc j) d (omega (arith, le)) (omega (arith, lt)))
      (λ k. let all = once k in omega (arith, all)) (next-behind n p ps fits.1 sorted once),
)

first-behind : (list : List Patch) → BeginsBehind 0 list
first-behind [] = tt
first-behind (p ∷ ps) = omega arith

pub moved-order : (n : ℕ) (xs ys : List Patch) → IsPermutation xs ys → PatchesFit n xs → IsNonDecreasingBy field_start ys → AreInOrder n 0 ys
moved-order n xs ys moved fit sorted =
    in-order n 0 ys (fit-moved n xs ys moved fit.each) sorted
    (λ k. let once = count-once xs k fit.apart in let same = count-moved xs ys k moved in omega (arith, once, same)) (first-behind ys)
