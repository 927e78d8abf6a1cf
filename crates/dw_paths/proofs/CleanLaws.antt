-- Laws of cleaned paths: what the lists of the code are in the definition's words.
use Rattle.std.proofs.Common.{◌≡◌, ℕ, zero, suc, ◌+◌, ◌-◌, ◌<◌, ◌≤◌, ◌&&◌, ◌==◌, Bool, true, false, not, List, [], ◌∷◌, ◌++◌, length, take, drop, get_or, refl, sym, ap, ◌∙◌, Bor, Option, Some, None, arith, map, reverse}
use Rattle.std.specs.List.{join_with_byte, slice_get}
use Rattle.std.proofs.lemmas.List.{append-nil, append_assoc, map-append, reverse-append, reverse-reverse, take_more, take_rest}
use Rattle.dw_base.specs.Paths.{slash}
use Rattle.dw_paths.specs.Components.{components, is_idle, is_parent}
use Rattle.dw_paths.specs.CleanPaths.{is_rooted, ends_in_name, left_with, left_of, slashed, root, cleaned_path}

-- what is left of components that stand in their order, behind what is left before them
abbrev pub left_behind : Bool → List (List ℕ) → List (List ℕ) → List (List ℕ)
left_behind rooted left [] = left
left_behind rooted left (part ∷ parts) = left_behind rooted (left_with rooted left part) parts

-- it is what is left of all of them, read from the last
left_behind-left_of : (rooted : Bool) (front parts : List (List ℕ)) → left_behind rooted (left_of rooted front) parts ≡ left_of rooted (reverse parts ++ front)
left_behind-left_of rooted front [] = refl
left_behind-left_of rooted front (p ∷ ps) =
    let again : left_behind rooted (left_of rooted (p ∷ front)) ps ≡ left_of rooted (reverse ps ++ p ∷ front) = left_behind-left_of rooted (p ∷ front) ps in
    let order : reverse ps ++ (p ∷ front) ≡ reverse (p ∷ ps) ++ front =
    sym (append_assoc (reverse ps) (p ∷ []) front) ∙ ap (λ (r : List (List ℕ)). r ++ front) (sym (reverse-append (p ∷ []) ps)) in
    again ∙ ap (left_of rooted) order

pub left_behind-all : (rooted : Bool) (parts : List (List ℕ)) → left_behind rooted [] parts ≡ left_of rooted (reverse parts)
left_behind-all rooted parts = left_behind-left_of rooted [] parts ∙ ap (left_of rooted) (append-nil (reverse parts))

pub ruleset left_rules = (left_behind-all)

-- the slices of a list, last first
abbrev pub last_first : List (Bor (List ℕ)) → List (List ℕ)
last_first xs = reverse (map (λ p. p.now) xs)

last_first-push : (xs : List (Bor (List ℕ))) (x : Bor (List ℕ)) → last_first (xs ++ x ∷ []) ≡ x.now ∷ last_first xs
last_first-push xs x =
    ap reverse (map-append (λ p. p.now) xs (x ∷ [])) ∙ reverse-append (map (λ p. p.now) xs) (x.now ∷ [])

-- a list that isn't empty, and its last slice
last_first-last : (xs : List (Bor (List ℕ))) (d : Bor (List ℕ)) → 0 < length xs → last_first xs ≡ (get_or xs (length xs - 1) d).now ∷ last_first (take (length xs - 1) xs)
last_first-last xs d some =
    let n : ℕ = length xs - 1 in
    let whole : take (n + 1) xs ≡ xs = ap (λ (k : ℕ). take k xs) (omega arith) ∙ take_whole xs in
    ap last_first (sym whole ∙ take_more xs n d (omega arith)) ∙ last_first-push (take n xs) (get_or xs n d)
  where
    take_whole : (ys : List (Bor (List ℕ))) → take (length ys) ys ≡ ys
    take_whole [] = refl
    take_whole (y ∷ ys) = ap (λ (r : List (Bor (List ℕ))). y ∷ r) (take_whole ys)

-- a slice more or less at the end is one more or less at the front
pub left-pushed : (rooted : Bool) (xs ys : List (Bor (List ℕ))) (x : Bor (List ℕ)) → ys ≡ xs ++ x ∷ []
    → is_idle x.now ≡ false → (is_parent x.now && ends_in_name (last_first xs)) ≡ false → (is_parent x.now && rooted) ≡ false
    → last_first ys ≡ left_with rooted (last_first xs) x.now
left-pushed rooted xs ys x e idle up over = ap last_first e ∙ last_first-push xs x ∙ rw (idle, up, over) refl

last_first-pop : (xs : List (Bor (List ℕ))) → last_first (take (length xs - 1) xs) ≡ drop 1 (last_first xs)
last_first-pop [] = refl
last_first-pop (x ∷ xs) = sym (ap (drop 1) (last_first-last (x ∷ xs) x (omega arith)))

pub left-popped : (rooted : Bool) (xs ys : List (Bor (List ℕ))) (n : ℕ) (part : List ℕ) → n ≡ length xs → ys ≡ take (n - 1) xs
    → is_idle part ≡ false → (is_parent part && ends_in_name (last_first xs)) ≡ true
    → last_first ys ≡ left_with rooted (last_first xs) part
left-popped rooted xs ys n part len e idle up = ap last_first (e ∙ ap (λ (k : ℕ). take (k - 1) xs) len) ∙ last_first-pop xs ∙ rw (idle, up) refl

pub left-same : (rooted : Bool) (xs ys : List (Bor (List ℕ))) (part : List ℕ) → ys ≡ xs → is_idle part ≡ true → last_first ys ≡ left_with rooted (last_first xs) part
left-same rooted xs ys part e idle = ap last_first e ∙ rw idle refl

pub left-over : (rooted : Bool) (xs ys : List (Bor (List ℕ))) (part : List ℕ) → ys ≡ xs → is_idle part ≡ false → (is_parent part && ends_in_name (last_first xs)) ≡ false
    → (is_parent part && rooted) ≡ true → last_first ys ≡ left_with rooted (last_first xs) part
left-over rooted xs ys part e idle up over = ap last_first e ∙ rw (idle, up, over) refl

pub ruleset part_rules = (left-pushed, left-popped, left-same, left-over)

-- the last slice that is left
slice_get-some : (xs : List (Bor (List ℕ))) (i : ℕ) (x d : Bor (List ℕ)) → slice_get xs i ≡ Some x → (i < length xs) × (get_or xs i d ≡ x)
slice_get-some [] i x d e = cc
slice_get-some (y ∷ ys) zero x d e = (omega arith, cc)
slice_get-some (y ∷ ys) (suc i) x d e = let h = slice_get-some ys i x d e in (omega (arith, h.0), h.1)

slice_get-none : (xs : List (Bor (List ℕ))) (i : ℕ) → slice_get xs i ≡ None → length xs ≤ i
slice_get-none [] i e = omega arith
slice_get-none (y ∷ ys) zero e = cc
slice_get-none (y ∷ ys) (suc i) e = omega (arith, slice_get-none ys i e)

pub last-name : (xs : List (Bor (List ℕ))) (x : Bor (List ℕ)) → slice_get xs (length xs - 1) ≡ Some x → ends_in_name (last_first xs) ≡ not (is_parent x.now)
last-name xs x e =
    let h = slice_get-some xs (length xs - 1) x x e in
    ap ends_in_name (last_first-last xs x (omega (arith, h.0))) ∙ ap (λ (p : Bor (List ℕ)). not (is_parent p.now)) h.1

pub last-none : (xs : List (Bor (List ℕ))) → slice_get xs (length xs - 1) ≡ None → ends_in_name (last_first xs) ≡ false
last-none [] e = refl
last-none (x ∷ xs) e = absurd (omega (arith, slice_get-none (x ∷ xs) (length (x ∷ xs) - 1) e))

pub ruleset last_rules = (last-name, last-none)

-- components behind slashes
pub slashed-step : (path part : List ℕ) (parts : List (List ℕ)) → path ++ slashed (part ∷ parts) ≡ path ++ slash ∷ [] ++ part ++ slashed parts
slashed-step path part parts = rw (append_assoc, append_assoc) refl

pub ruleset slashed_rules = (slashed-step, append-nil)

-- the first component, and the others behind slashes
pub join-slashed : (part : List ℕ) (parts : List (List ℕ)) → join_with_byte slash (part ∷ parts) ≡ part ++ slashed parts
join-slashed part [] = sym (append-nil part)
join-slashed part (q ∷ parts) = ap (λ (r : List ℕ). part ++ slash ∷ r) (join-slashed q parts)

-- the first component behind what is written, and the others behind slashes
pub joined-first : (path more whole : List ℕ) (parts : List (Bor (List ℕ))) (d : Bor (List ℕ)) → (length parts == 0) ≡ false
    → more ≡ path ++ (get_or parts 0 d).now → whole ≡ more ++ slashed (map (λ p. p.now) (take (length parts - 1) (drop 1 parts)))
    → whole ≡ path ++ join_with_byte slash (map (λ p. p.now) parts)
joined-first path more whole [] d some more_is whole_is = cc
joined-first path more whole (x ∷ xs) d some more_is whole_is =
    let rest_whole : take (length (x ∷ xs) - 1) (drop 1 (x ∷ xs)) ≡ xs = take_rest (x ∷ xs) 1 in
    let last : slashed (map (λ p. p.now) (take (length (x ∷ xs) - 1) (drop 1 (x ∷ xs)))) ≡ slashed (map (λ p. p.now) xs) =
    ap (λ (r : List (Bor (List ℕ))). slashed (map (λ p. p.now) r)) rest_whole in
    let joined : x.now ++ slashed (map (λ p. p.now) xs) ≡ join_with_byte slash (x.now ∷ map (λ p. p.now) xs) = sym (join-slashed x.now (map (λ p. p.now) xs)) in
    whole_is ∙ rw (more_is, last) (append_assoc path x.now (slashed (map (λ p. p.now) xs)) ∙ ap (λ (r : List ℕ). path ++ r) joined)

pub ruleset joined_rules = (append-nil)

-- the cleaned path of the lists that were made
left-back : (rooted : Bool) (parts left : List (List ℕ)) → reverse left ≡ left_of rooted (reverse parts) → left ≡ reverse (left_of rooted (reverse parts))
left-back rooted parts left e = sym (reverse-reverse left) ∙ ap reverse e

pub cleaned-made : (path cleaned : List ℕ) (parts left : List (List ℕ)) (rooted : Bool) → rooted ≡ is_rooted path → parts ≡ components path
    → reverse left ≡ left_of rooted (reverse parts) → cleaned ≡ root rooted ++ join_with_byte slash left → cleaned ≡ cleaned_path path
unfolding cleaned_path
cleaned-made path cleaned parts left rooted root_is part_of left_is e = rw (e, left-back rooted parts left left_is, root_is, part_of) refl

pub ruleset clean_rules = (cleaned-made)
