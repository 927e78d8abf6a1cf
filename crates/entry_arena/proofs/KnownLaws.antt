-- What comes next in each depth, kept in a vector.
use Rattle.std.proofs.Common.{◌≡◌, ℕ, zero, suc, ◌≤◌, List, [], ◌∷◌, ◌++◌, length, take, Option, Some, None, refl, sym, ap, ◌∙◌, subst, arith}
use Rattle.entry_arena.specs.NextNodes.{with_next}

-- a list of a depth's length, filled up with none
abbrev filled : ℕ → List (Option ℕ) → List (Option ℕ)
filled zero next = []
filled (suc d) [] = None ∷ filled d []
filled (suc d) (n ∷ ns) = n ∷ filled d ns

filled-next : (k d : ℕ) (next : List (Option ℕ)) → filled d next ++ Some k ∷ [] ≡ with_next k d next
filled-next k zero next = refl
filled-next k (suc d) [] = ap (λ (xs : List (Option ℕ)). None ∷ xs) (filled-next k d [])
filled-next k (suc d) (n ∷ ns) = ap (λ (xs : List (Option ℕ)). n ∷ xs) (filled-next k d ns)

filled-cut : (d : ℕ) (next : List (Option ℕ)) → filled d (take d next) ≡ filled d next
filled-cut zero next = refl
filled-cut (suc d) [] = refl
filled-cut (suc d) (n ∷ ns) = ap (λ (xs : List (Option ℕ)). n ∷ xs) (filled-cut d ns)

filled-more : (d : ℕ) (next : List (Option ℕ)) → filled d (next ++ None ∷ []) ≡ filled d next
filled-more zero next = refl
filled-more (suc d) [] = refl
filled-more (suc d) (n ∷ ns) = ap (λ (xs : List (Option ℕ)). n ∷ xs) (filled-more d ns)

filled-all : (d : ℕ) (next : List (Option ℕ)) → length next ≡ d → filled d next ≡ next
filled-all zero [] e = refl
filled-all zero (n ∷ ns) e = absurd (omega (arith, e))
filled-all (suc d) [] e = absurd (omega (arith, e))
filled-all (suc d) (n ∷ ns) e = ap (λ (xs : List (Option ℕ)). n ∷ xs) (filled-all d ns (omega (arith, e)))

-- while it is filled up
pub record Filling (d : ℕ) (old now : List (Option ℕ)) : Type 0 where
  pub same : filled d now ≡ filled d old
  pub short : length now ≤ d

pub filling-starts : (d : ℕ) (old now : List (Option ℕ)) → now ≡ take d old → Filling d old now
filling-starts d old now is = record {
  same = ap (filled d) is ∙ filled-cut d old;
  short = subst (λ (xs : List (Option ℕ)). length xs ≤ d) (sym is) (short-cut d old);
}
  where
    short-cut : (d : ℕ) (xs : List (Option ℕ)) → length (take d xs) ≤ d
    short-cut zero [] = omega arith
    short-cut zero (x ∷ xs) = omega arith
    short-cut (suc d) [] = omega arith
    short-cut (suc d) (x ∷ xs) =
        let rest = short-cut d xs in
        omega (arith, rest)

pub filling-more : (d : ℕ) (old now new : List (Option ℕ)) → Filling d old now → suc (length now) ≤ d → new ≡ now ++ None ∷ [] → Filling d old new
filling-more d old now new f lt is = record {
  same = ap (filled d) is ∙ filled-more d now ∙ f.same;
  short = (let count = ap (λ (xs : List (Option ℕ)). length xs) is in let one = counted now in omega (arith, count, one, lt));
}
  where
    counted : (xs : List (Option ℕ)) → length (xs ++ None ∷ []) ≡ suc (length xs)
    counted [] = refl
    counted (x ∷ xs) = ap suc (counted xs)

pub filling-ends : (d k n : ℕ) (old now new : List (Option ℕ)) → Filling d old now → n ≡ length now → d ≤ n → new ≡ now ++ Some k ∷ [] → new ≡ with_next k d old
filling-ends d k n old now new f count le is =
    let short = f.short in
    let all : filled d now ≡ now = filled-all d now (omega (arith, short, count, le)) in
    is ∙ ap (λ (xs : List (Option ℕ)). xs ++ Some k ∷ []) (sym all ∙ f.same) ∙ filled-next k d old

pub ruleset known_laws = (filling-starts, filling-more, filling-ends)
