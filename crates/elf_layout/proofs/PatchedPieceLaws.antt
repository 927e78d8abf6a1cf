-- Laws of old bytes with new numbers, as pieces.
use Rattle.std.proofs.Common.{◌≡◌, ℕ, zero, suc, ◌+◌, ◌-◌, ◌<◌, ◌≤◌, List, [], ◌∷◌, ◌++◌, length, replicate, take, drop, get_or, refl, sym, ap, ◌∙◌, subst, arith}
use Rattle.std.specs.List.Sorted.{IsNonDecreasingBy, IsPermutation}
use Rattle.std.proofs.lemmas.List.{append_assoc, append-nil, drop_all, drop_at, drop-drop, drop_more, length-append, length-drop, length-replicate, length-take-le, take_at, take_rest}
use Rattle.dw_base.specs.Numbers.{number_bytes, with_number}
use Rattle.dw_base.specs.declared.shared.Order.{Order}
use Rattle.dw_base.proofs.NumberLaws.{length-number_bytes}
use Rattle.elf_layout.specs.Patched.{AreInOrder, PatchFits, PatchesFit, field_start, patched_from, with_patches}
use Rattle.elf_layout.specs.declared.patch.Patch.{Patch}
use Rattle.elf_layout.proofs.PatchOrderLaws.{moved-order, put-moved}

-- ### A number behind others

pub number-last : (o : Order) (bytes new : List ℕ) (place size value : ℕ) → place ≡ length bytes - size → size ≤ length bytes
    → new ≡ with_number o bytes place size value → new ≡ take (length bytes - size) bytes ++ number_bytes o size value
unfolding with_number
number-last o bytes new place size value place_is there is =
    let end : drop (place + size) bytes ≡ [] = drop_all (place + size) bytes (omega (arith, place_is, there)) in
    is ∙ ap (λ (xs : List ℕ). take place bytes ++ number_bytes o size value ++ xs) end ∙ append-nil (take place bytes ++ number_bytes o size value)
    ∙ ap (λ (k : ℕ). take k bytes ++ number_bytes o size value) place_is

pub ruleset last_rules = (number-last)

number-behind : (made zeros lent new number : List ℕ) (size : ℕ) → zeros ≡ made ++ replicate size 0 → lent ≡ zeros
    → new ≡ take (length lent - size) lent ++ number → new ≡ made ++ number
number-behind made zeros lent new number size zeros_is lent_is is =
    let whole : lent ≡ made ++ replicate size 0 = lent_is ∙ zeros_is in
    let long : length lent - size ≡ length made =
    omega (arith, ap length whole, length-append made (replicate size 0), length-replicate {A = ℕ} size 0) in
    is ∙ ap (λ (k : ℕ). take k lent ++ number) long ∙ ap (λ (xs : List ℕ). take (length made) xs ++ number) whole
    ∙ ap (λ (xs : List ℕ). xs ++ number) (take_at made (replicate size 0) (length made) refl)

-- as it comes back from the slice
pub number-back : (made zeros lent new number : List ℕ) (n size : ℕ) → zeros ≡ made ++ replicate size 0 → lent ≡ zeros
    → new ≡ take (length lent - size) lent ++ number → length new ≡ length lent → n ≡ length zeros → take n (new ++ drop (length new) zeros) ≡ made ++ number
number-back made zeros lent new number n size zeros_is lent_is is long n_is =
    let same : length new ≡ n = long ∙ ap length lent_is ∙ sym n_is in
    take_at new (drop (length new) zeros) n same ∙ number-behind made zeros lent new number size zeros_is lent_is is

pub ruleset number_rules = (number-back)

-- ### What lies between two fields

pub far-gap : (out made gap now : List ℕ) → now ≡ out ++ (made ++ gap) → now ++ [] ≡ out ++ (made ++ gap)
far-gap out made gap now is = append-nil now ∙ is

pub gap-long : (out made gap now : List ℕ) → now ≡ out ++ (made ++ gap) → length now ≡ length out + length made + length gap
gap-long out made gap now is = omega (arith, ap length is, length-append out (made ++ gap), length-append made gap)

pub ruleset gap_rules = (far-gap, gap-long)

-- ### A field

pub gap-size : (old : List ℕ) (done place : ℕ) → done ≤ place → place ≤ length old → length (take (place - done) (drop done old)) ≡ place - done
gap-size old done place le inside = length-take-le (place - done) (drop done old) (omega (arith, length-drop done old, le, inside))

pub field-pushed : (out made now m more gap number : List ℕ) → now ++ m ≡ out ++ (made ++ gap) → more ≡ m ++ number → now ++ more ≡ (out ++ made) ++ (gap ++ number)
field-pushed out made now m more gap number one two =
    ap (λ (xs : List ℕ). now ++ xs) two ∙ sym (append_assoc now m number) ∙ ap (λ (xs : List ℕ). xs ++ number) one ∙ regroup out made gap number
  where
    regroup : (a b c d : List ℕ) → (a ++ (b ++ c)) ++ d ≡ (a ++ b) ++ (c ++ d)
    regroup a b c d = simp (append_assoc) refl

pub ruleset field_rules = (gap-size, field-pushed)

-- ### All fields in order

take-past : (xs ys : List ℕ) (n : ℕ) → length xs ≤ n → take n (xs ++ ys) ≡ xs ++ take (n - length xs) ys
take-past [] ys n le = let e : n ≡ n - 0 = omega arith in ap (λ (k : ℕ). take k ys) e
take-past (x ∷ xs) ys zero le = absurd (omega (arith, le))
take-past (x ∷ xs) ys (suc n) le =
    let rest : take n (xs ++ ys) ≡ xs ++ take (n - length xs) ys = take-past xs ys n (omega (arith, le)) in
    let e : n - length xs ≡ suc n - length (x ∷ xs) = omega arith in
    ap (λ (zs : List ℕ). x ∷ zs) rest ∙ ap (λ (k : ℕ). x ∷ (xs ++ take k ys)) e

drop-past : (xs old : List ℕ) (k n : ℕ) → length xs ≡ k → k ≤ n → drop n (xs ++ drop k old) ≡ drop n old
drop-past xs old k n long le =
    let split : k + (n - k) ≡ n = omega (arith, le) in
    ap (λ (j : ℕ). drop j (xs ++ drop k old)) (sym split) ∙ sym (drop-drop (n - k) k (xs ++ drop k old))
    ∙ ap (λ (zs : List ℕ). drop (n - k) zs) (drop_at xs (drop k old) k long) ∙ drop-drop (n - k) k old ∙ ap (λ (j : ℕ). drop j old) split

number-put : (o : Order) (old front : List ℕ) (place : ℕ) (p : Patch) → length front ≡ place → place ≤ p.at
    → with_number o (front ++ drop place old) p.at p.size p.value
    ≡ (front ++ (take (p.at - place) (drop place old) ++ number_bytes o p.size p.value)) ++ drop (p.at + p.size) old
unfolding with_number
number-put o old front place p long behind =
    let number : List ℕ = number_bytes o p.size p.value in
    let gone : p.at - length front ≡ p.at - place = ap (λ (k : ℕ). p.at - k) long in
    let first : take p.at (front ++ drop place old) ≡ front ++ take (p.at - place) (drop place old) =
    take-past front (drop place old) p.at (omega (arith, long, behind)) ∙ ap (λ (k : ℕ). front ++ take k (drop place old)) gone in
    let last : drop (p.at + p.size) (front ++ drop place old) ≡ drop (p.at + p.size) old = drop-past front old place (p.at + p.size) long (omega (arith, behind)) in
    ap (λ (xs : List ℕ). xs ++ number_bytes o p.size p.value ++ drop (p.at + p.size) (front ++ drop place old)) first
    ∙ ap (λ (xs : List ℕ). (front ++ take (p.at - place) (drop place old)) ++ number_bytes o p.size p.value ++ xs) last
    ∙ regroup front (take (p.at - place) (drop place old)) (number_bytes o p.size p.value) (drop (p.at + p.size) old)
  where
    regroup : (a b c d : List ℕ) → (a ++ b) ++ c ++ d ≡ (a ++ (b ++ c)) ++ d
    regroup a b c d = simp (append_assoc) refl

put-size : (o : Order) (old front : List ℕ) (place : ℕ) (p : Patch) → length front ≡ place → place ≤ p.at → p.at + p.size ≤ length old
    → length (front ++ (take (p.at - place) (drop place old) ++ number_bytes o p.size p.value)) ≡ p.at + p.size
put-size o old front place p long behind inside =
    omega (
      arith,
      length-append front (take (p.at - place) (drop place old) ++ number_bytes o p.size p.value),
      length-append (take (p.at - place) (drop place old)) (number_bytes o p.size p.value),
      gap-size old place p.at behind (omega (arith, inside)),
      length-number_bytes o p.size p.value,
      long,
      behind,
    )

-- old bytes with new numbers, from the front on
patched-is : (o : Order) (old front : List ℕ) (place : ℕ) (ps : List Patch) → length front ≡ place → AreInOrder (length old) place ps
    → with_patches o (front ++ drop place old) ps ≡ front ++ patched_from o old place ps
patched-is o old front place [] long order = refl
patched-is o old front place (p ∷ ps) long order =
    let behind : place ≤ p.at = order.1 in
    let inside : p.at + p.size ≤ length old = order.0.inside in
    ap (λ (bs : List ℕ). with_patches o bs ps) (number-put o old front place p long behind)
    ∙ patched-is o old (front ++ (take (p.at - place) (drop place old) ++ number_bytes o p.size p.value)) (p.at + p.size) ps
    (put-size o old front place p long behind inside) order.2
    ∙ append_assoc front (take (p.at - place) (drop place old) ++ number_bytes o p.size p.value) (patched_from o old (p.at + p.size) ps)

pub patched-all : (o : Order) (old : List ℕ) (ps : List Patch) → AreInOrder (length old) 0 ps → with_patches o old ps ≡ patched_from o old 0 ps
patched-all o old ps order = patched-is o old [] 0 ps refl order

-- fields that were put in order
pub sorted-order : (old : List ℕ) (xs ys now : List Patch) → IsPermutation xs ys → PatchesFit (length old) xs → IsNonDecreasingBy field_start ys → now ≡ ys
    → AreInOrder (length old) 0 now
sorted-order old xs ys now moved fit sorted is = subst (AreInOrder (length old) 0) (sym is) (moved-order (length old) xs ys moved fit sorted)

pub sorted-pushed : (o : Order) (old : List ℕ) (xs ys now : List Patch) (out made new : List ℕ) → IsPermutation xs ys → PatchesFit (length old) xs
    → IsNonDecreasingBy field_start ys → now ≡ ys → new ≡ out ++ (made ++ patched_from o old 0 now) → new ≡ out ++ (made ++ with_patches o old xs)
sorted-pushed o old xs ys now out made new moved fit sorted now_is is =
    let order : AreInOrder (length old) 0 ys = moved-order (length old) xs ys moved fit sorted in
    is ∙ ap (λ (ps : List Patch). out ++ (made ++ patched_from o old 0 ps)) now_is
    ∙ ap (λ (bs : List ℕ). out ++ (made ++ bs)) (sym (patched-all o old ys order) ∙ put-moved o old xs ys moved fit)

-- ### One after another

-- the field of a number, and those behind it
cut-at : (list : List Patch) (i : ℕ) (p d : Patch) → i < length list → p ≡ get_or list i d → drop i list ≡ p ∷ drop (i + 1) list
cut-at list i p d lt is = drop_more list i d lt ∙ ap (λ (q : Patch). q ∷ drop (i + 1) list) (sym is)

first-of : (n place : ℕ) (list : List Patch) (i : ℕ) (p d : Patch) → i < length list → p ≡ get_or list i d → AreInOrder n place (drop i list)
    → AreInOrder n place (p ∷ drop (i + 1) list)
first-of n place list i p d lt is order = subst (AreInOrder n place) (cut-at list i p d lt is) order

pub order-fits : (n place : ℕ) (list : List Patch) (i : ℕ) (p d : Patch) → i < length list → p ≡ get_or list i d → AreInOrder n place (drop i list) → PatchFits n p
order-fits n place list i p d lt is order = (first-of n place list i p d lt is order).0

pub order-behind : (n place : ℕ) (list : List Patch) (i : ℕ) (p d : Patch) → i < length list → p ≡ get_or list i d → AreInOrder n place (drop i list) → place ≤ p.at
order-behind n place list i p d lt is order = (first-of n place list i p d lt is order).1

pub order-next : (n place : ℕ) (list : List Patch) (i : ℕ) (p d : Patch) → i < length list → p ≡ get_or list i d → AreInOrder n place (drop i list)
    → AreInOrder n (p.at + p.size) (drop (i + 1) list)
order-next n place list i p d lt is order = (first-of n place list i p d lt is order).2

pub sorted-next : (o : Order) (old : List ℕ) (list : List Patch) (i done : ℕ) (p d : Patch) (so_far now whole : List ℕ) → i < length list → p ≡ get_or list i d
    → now ≡ so_far ++ (take (p.at - done) (drop done old) ++ number_bytes o p.size p.value) → so_far ++ patched_from o old done (drop i list) ≡ whole
    → now ++ patched_from o old (p.at + p.size) (drop (i + 1) list) ≡ whole
sorted-next o old list i done p d so_far now whole lt is more same =
    let piece : List ℕ = take (p.at - done) (drop done old) ++ number_bytes o p.size p.value in
    ap (λ (xs : List ℕ). xs ++ patched_from o old (p.at + p.size) (drop (i + 1) list)) more
    ∙ append_assoc so_far (take (p.at - done) (drop done old) ++ number_bytes o p.size p.value) (patched_from o old (p.at + p.size) (drop (i + 1) list))
    ∙ ap (λ (ps : List Patch). so_far ++ patched_from o old done ps) (sym (cut-at list i p d lt is)) ∙ same

-- what is left behind all fields
pub sorted-end : (o : Order) (old : List ℕ) (list : List Patch) (i done : ℕ) (out made rest new first start : List ℕ) → length list ≤ i
    → (out ++ made) ++ patched_from o old done (drop i list) ≡ (first ++ start) ++ patched_from o old 0 list → rest ≡ take (length old - done) (drop done old)
    → new ≡ out ++ (made ++ rest) → new ≡ first ++ (start ++ patched_from o old 0 list)
sorted-end o old list i done out made rest new first start end same rest_is is =
    is ∙ ap (λ (xs : List ℕ). out ++ (made ++ xs)) (rest_is ∙ take_rest old done) ∙ sym (append_assoc out made (drop done old))
    ∙ ap (λ (ps : List Patch). (out ++ made) ++ patched_from o old done ps) (sym (drop_all i list end)) ∙ same
    ∙ append_assoc first start (patched_from o old 0 list)

pub ruleset sorted_rules = (order-fits, order-behind, order-next, sorted-next, sorted-end)
