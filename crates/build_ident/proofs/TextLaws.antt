-- Laws of a text that is looked for at a place of a table: it begins what stands there, and a NUL or the end follows.
use Rattle.std.specs.List.{starts_with}
use Rattle.std.proofs.Common.{◌≡◌, ◌≢◌, ℕ, ◌+◌, ◌<◌, ◌≤◌, ◌==◌, ◌||◌, Bool, true, false, nat_eq, List, [], ◌∷◌, ◌++◌, length, take, drop, slice_index, refl, sym, ap, ◌∙◌, arith}
use Rattle.std.proofs.lemmas.List.{append-nil, drop_all, drop_more, length-append, take-append-drop, take_all}
use Rattle.dw_base.specs.Texts.{text, has_nul, text_in, same_text}
use Rattle.dw_base.proofs.TextLaws.{same_text-true, same_text-from, take-text, text-whole}

or-parts : (a b : Bool) → (a || b) ≡ false → (a ≡ false) × (b ≡ false)
or-parts false b e = (refl, e)
or-parts true b e = cc

-- a text without a NUL in front of more
text-front : (ts rest : List ℕ) → has_nul ts ≡ false → text (ts ++ rest) ≡ ts ++ text rest
text-front [] rest bare = refl
text-front (t ∷ ts) rest bare =
    let parts = or-parts (t == 0) (has_nul ts) bare in
    rw parts.0 (ap (λ (r : List ℕ). t ∷ r) (text-front ts rest parts.1))

-- the text begins what stands there
text-take : (xs : List ℕ) → take (length (text xs)) xs ≡ text xs
text-take xs = by_nul (has_nul xs) refl
  where
    by_nul : (b : Bool) → has_nul xs ≡ b → take (length (text xs)) xs ≡ text xs
    by_nul true e = take-text xs e
    by_nul false e =
        let whole : text xs ≡ xs = text-whole xs e in
        ap (λ (t : List ℕ). take (length t) xs) whole ∙ take_all (length xs) xs (omega arith) ∙ sym whole

not-same : (t u : List ℕ) → (t ≡ u → ⊥) → same_text t u ≡ false
not-same t u other = by_test (same_text t u) refl
  where
    by_test : (b : Bool) → same_text t u ≡ b → b ≡ false
    by_test true e = absurd (other (same_text-true t u e))
    by_test false e = refl

begins : (xs ts : List ℕ) → starts_with nat_eq xs ts ≡ true → xs ≡ ts ++ drop (length ts) xs
begins xs ts e =
    let front : ts ≡ take (length ts) xs = same_text-true ts (take (length ts) xs) e in
    sym (take-append-drop (length ts) xs) ∙ ap (λ (t : List ℕ). t ++ drop (length ts) xs) (sym front)

pub named-other : (xs ts : List ℕ) → starts_with nat_eq xs ts ≡ false → same_text (text xs) ts ≡ false
named-other xs ts e = not-same (text xs) ts (λ same. no (begins_so same))
  where
    begins_so : text xs ≡ ts → starts_with nat_eq xs ts ≡ true
    begins_so same = same_text-from ts (take (length ts) xs) (sym same ∙ sym (text-take xs) ∙ ap (λ (t : List ℕ). take (length t) xs) same)

    no : starts_with nat_eq xs ts ≡ true → ⊥
    no passes = cc

pub named-whole : (xs ts : List ℕ) → has_nul ts ≡ false → starts_with nat_eq xs ts ≡ true → length xs ≡ length ts → same_text (text xs) ts ≡ true
named-whole xs ts bare e size =
    let none : drop (length ts) xs ≡ [] = drop_all (length ts) xs (omega (arith, size)) in
    let whole : xs ≡ ts = begins xs ts e ∙ ap (λ (r : List ℕ). ts ++ r) none ∙ append-nil ts in
    same_text-from (text xs) ts (ap text whole ∙ text-whole ts bare)

-- behind the text stands a NUL, or another byte
last-cases : (r : ℕ) (rest ts : List ℕ) (test : Bool) → (r == 0) ≡ test → same_text (ts ++ text (r ∷ rest)) ts ≡ test
last-cases r rest ts true e = rw e (same_text-from (ts ++ []) ts (append-nil ts))
last-cases r rest ts false e =
    rw e (not-same (ts ++ (r ∷ text rest)) ts (λ same. longer (ap length same)))
  where
    longer : length (ts ++ (r ∷ text rest)) ≡ length ts → ⊥
    longer same = omega (arith, same, length-append ts (r ∷ text rest))

pub named-end : (xs ts : List ℕ) (b : ℕ) → has_nul ts ≡ false → starts_with nat_eq xs ts ≡ true → length xs ≢ length ts → length ts ≤ length xs
    → b ≡ slice_index xs (length ts) → (b == 0) ≡ same_text (text xs) ts
named-end xs ts b bare e other fits b_is =
    let rest : drop (length ts) xs ≡ slice_index xs (length ts) ∷ drop (length ts + 1) xs = drop_more xs (length ts) 0 (omega (arith, other, fits)) in
    let read : text xs ≡ ts ++ text (b ∷ drop (length ts + 1) xs) =
    ap text (begins xs ts e ∙ ap (λ (r : List ℕ). ts ++ r) (rest ∙ ap (λ (x : ℕ). x ∷ drop (length ts + 1) xs) (sym b_is))) ∙ text-front ts _ bare in
    sym (ap (λ (t : List ℕ). same_text t ts) read ∙ last-cases b (drop (length ts + 1) xs) ts (b == 0) refl)

-- nothing stands past the end
pub named-past : (table ts : List ℕ) (place : ℕ) → length table ≤ place → 0 < length ts → same_text (text_in table place) ts ≡ false
unfolding text_in
named-past table ts place past some =
    ap (λ (r : List ℕ). same_text (text r) ts) (drop_all place table past) ∙ not-same [] ts (λ same. none (ap length same))
  where
    none : 0 ≡ length ts → ⊥
    none same = omega (arith, same, some)

pub ruleset front_rules = (named-other, named-whole, named-end)

pub ruleset past_rules = (named-past)
