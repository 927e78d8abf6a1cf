-- Texts compared part by part.
use Rattle.std.proofs.Common.{Bool, true, false, ◌≡◌, ◌==◌, inl, inr, if◌then◌else◌, ℕ, zero, suc, ◌+◌, ◌<◌, ◌≤◌, ◌&&◌, List, [], ◌∷◌, ◌++◌, length, take, drop, length-append, length-take-le, refl, ap, sym, subst, ◌∙◌, arith}
use Rattle.std.proofs.lemmas.Bool.{cases_Bool, eqb-true}
use Rattle.std.proofs.lemmas.List.{length-replicate}
use Rattle.dw_base.proofs.TextLaws.{same_text-from, same_text-true}
use Rattle.dw_base.specs.InlinePaths.{slashes}
use Rattle.dw_base.specs.Paths.{slash}
use Rattle.dw_base.specs.Texts.{same_text}
use Rattle.dbg_check.specs.Slashes.{only_slashes}

-- two truths that follow from one another are one
same-truth : (a b : Bool) → (a ≡ true → b ≡ true) → (b ≡ true → a ≡ true) → a ≡ b
same-truth true true to from = refl
same-truth false false to from = refl
same-truth true false to from = sym (to refl)
same-truth false true to from = from refl

not-true : (b : Bool) → (b ≡ true → ⊥) → b ≡ false
not-true true none = absurd (none refl)
not-true false none = refl

both-true : (a b : Bool) → (a && b) ≡ true → (a ≡ true) × (b ≡ true)
both-true true b e = (refl, e)
both-true false b e = let no : false ≡ true = e in cc

true-both : (a b : Bool) → a ≡ true → b ≡ true → (a && b) ≡ true
true-both a b one other = ap (λ (x : Bool). x && b) one ∙ other

-- two texts are told either way round
same-turned : (xs ys : List ℕ) → same_text xs ys ≡ same_text ys xs
same-turned xs ys = same-truth (same_text xs ys) (same_text ys xs)
    (λ (e : same_text xs ys ≡ true). same_text-from ys xs (sym (same_text-true xs ys e)))
    (λ (e : same_text ys xs ≡ true). same_text-from xs ys (sym (same_text-true ys xs e)))

-- the front and the rest of two lists one behind the other
take-front : (xs ys : List ℕ) → take (length xs) (xs ++ ys) ≡ xs
take-front [] ys = refl
take-front (x ∷ xs) ys = ap (λ (zs : List ℕ). x ∷ zs) (take-front xs ys)

drop-front : (xs ys : List ℕ) → drop (length xs) (xs ++ ys) ≡ ys
drop-front [] ys = refl
drop-front (x ∷ xs) ys = drop-front xs ys

split-front : (n : ℕ) (zs : List ℕ) → take n zs ++ drop n zs ≡ zs
split-front zero zs = refl
split-front (suc n) [] = refl
split-front (suc n) (z ∷ zs) = ap (λ (ys : List ℕ). z ∷ ys) (split-front n zs)

-- a text that is too short isn't it
pub joined-short : (xs ys text : List ℕ) → length text < length xs → false ≡ same_text (xs ++ ys) text
joined-short xs ys text short = sym (not-true (same_text (xs ++ ys) text) (λ (e : same_text (xs ++ ys) text ≡ true).
    let same : length xs + length ys ≡ length text = sym (length-append xs ys) ∙ ap length (same_text-true (xs ++ ys) text e) in
    omega (arith, short, same)))

-- any other is told by its front, as long as the first, and its rest
pub joined-parts : (xs ys text : List ℕ) → (same_text (take (length xs) text) xs && same_text (drop (length xs) text) ys) ≡ same_text (xs ++ ys) text
joined-parts xs ys text = same-truth (same_text (take (length xs) text) xs && same_text (drop (length xs) text) ys) (same_text (xs ++ ys) text) to from
  where
    to : (same_text (take (length xs) text) xs && same_text (drop (length xs) text) ys) ≡ true → same_text (xs ++ ys) text ≡ true
    to e =
        let parts = both-true (same_text (take (length xs) text) xs) (same_text (drop (length xs) text) ys) e in
        let front : take (length xs) text ≡ xs = same_text-true (take (length xs) text) xs parts.0 in
        let rest : drop (length xs) text ≡ ys = same_text-true (drop (length xs) text) ys parts.1 in
        same_text-from (xs ++ ys) text (sym (λ i. front i ++ rest i) ∙ split-front (length xs) text)

    from : same_text (xs ++ ys) text ≡ true → (same_text (take (length xs) text) xs && same_text (drop (length xs) text) ys) ≡ true
    from e =
        let same : xs ++ ys ≡ text = same_text-true (xs ++ ys) text e in
        true-both (same_text (take (length xs) text) xs) (same_text (drop (length xs) text) ys)
        (same_text-from (take (length xs) text) xs (ap (take (length xs)) (sym same) ∙ take-front xs ys))
        (same_text-from (drop (length xs) text) ys (ap (drop (length xs)) (sym same) ∙ drop-front xs ys))

-- bytes are slashes where they are as many of these
only_slashes-same : (bs : List ℕ) → only_slashes bs ≡ true → bs ≡ slashes (length bs)
only_slashes-same [] e = refl
only_slashes-same (b ∷ bs) e = elim (cases_Bool (b == slash)) [
  | inl is ↦
      let rest : only_slashes bs ≡ true = ap (λ (x : Bool). if x then only_slashes bs else false) (sym is) ∙ e in
      let same : b ≡ slash = eqb-true b slash is in
      λ i. same i ∷ only_slashes-same bs rest i
  | inr not_ ↦
      let no : false ≡ true = ap (λ (x : Bool). if x then only_slashes bs else false) (sym not_) ∙ e in
      cc
]

only_slashes-made : (n : ℕ) → only_slashes (slashes n) ≡ true
only_slashes-made zero = refl
only_slashes-made (suc n) = only_slashes-made n

pub filled-short : (room : ℕ) (ys text : List ℕ) → length text < room → false ≡ same_text (slashes room ++ ys) text
filled-short room ys text short = let size = length-replicate room slash in joined-short (slashes room) ys text (omega (arith, short, size))

-- so many slashes, and a rest
pub filled-parts : (room : ℕ) (ys text : List ℕ) → room ≤ length text → (only_slashes (take room text) && same_text (drop room text) ys) ≡ same_text (slashes room ++ ys) text
filled-parts room ys text within =
    ap (λ (x : Bool). x && same_text (drop room text) ys) front ∙ subst (λ (n : ℕ). (same_text (take n text) (slashes room) && same_text (drop n text) ys) ≡ same_text (slashes room ++ ys) text) (length-replicate room slash) (joined-parts (slashes room) ys text)
  where
    size : length (take room text) ≡ room
    size = length-take-le room text within

    to : only_slashes (take room text) ≡ true → same_text (take room text) (slashes room) ≡ true
    to e = same_text-from (take room text) (slashes room) (only_slashes-same (take room text) e ∙ ap slashes size)

    from : same_text (take room text) (slashes room) ≡ true → only_slashes (take room text) ≡ true
    from e = ap only_slashes (same_text-true (take room text) (slashes room) e) ∙ only_slashes-made room

    front : only_slashes (take room text) ≡ same_text (take room text) (slashes room)
    front = same-truth (only_slashes (take room text)) (same_text (take room text) (slashes room)) to from

-- a text by its parts, as the code has them
pub joined-by : (xs ys text front rest : List ℕ) (b : Bool) → front ≡ take (length xs) text → rest ≡ drop (length xs) text → b ≡ (same_text front xs && same_text rest ys)
    → b ≡ same_text (xs ++ ys) text
joined-by xs ys text front rest b front_is rest_is is =
    is ∙ (λ i. same_text (front_is i) xs && same_text (rest_is i) ys) ∙ joined-parts xs ys text

pub spread-by : (xs ys text front rest : List ℕ) (b : Bool) → front ≡ take (length xs) text → rest ≡ drop (length xs) text → b ≡ (same_text front xs && same_text ys rest)
    → b ≡ same_text (xs ++ ys) text
spread-by xs ys text front rest b front_is rest_is is =
    joined-by xs ys text front rest b front_is rest_is (is ∙ ap (λ (x : Bool). same_text front xs && x) (same-turned ys rest))

pub filled-by : (room : ℕ) (ys text front rest : List ℕ) (b : Bool) → room ≤ length text → front ≡ take room text → rest ≡ drop room text
    → b ≡ (only_slashes front && same_text rest ys) → b ≡ same_text (slashes room ++ ys) text
filled-by room ys text front rest b within front_is rest_is is =
    is ∙ (λ i. only_slashes (front_is i) && same_text (rest_is i) ys) ∙ filled-parts room ys text within

pub ruleset joined_laws = (joined-short, joined-by)

pub ruleset spread_laws = (joined-short, spread-by)

pub ruleset filled_laws = (filled-short, filled-by)

pub ruleset room_laws = (joined-short)
