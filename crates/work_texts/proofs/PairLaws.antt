-- Two lists of pairs of a map, pair by pair.
use Rattle.std.proofs.Common.{◌≡◌, ◌≢◌, ℕ, ◌+◌, ◌<◌, ◌≤◌, List, [], ◌∷◌, ◌++◌, length, take, get_or, sym, ap, ◌∙◌, arith}
use Rattle.std.proofs.lemmas.List.{get_or_default, take_all, take_more}
use Rattle.dw_base.specs.Paths.{MapPair}
use Rattle.dw_base.proofs.PathLaws.{same-pair}

-- two pairs
pub not-one : (p q : MapPair) → (p.base ≡ q.base → ⊥) → p ≡ q → ⊥
not-one p q other e = other (ap (λ (x : MapPair). x.base) e)

pub dest-one : (p q : MapPair) → p ≡ q → p.dest ≡ q.dest
dest-one p q e = ap (λ (x : MapPair). x.dest) e

pub ruleset one_rules = (same-pair, not-one, dest-one)

-- one pair more
pub same-next : (a b : List MapPair) (i : ℕ) (x y : MapPair) → x ≡ get_or a i x → y ≡ get_or b i y → x ≡ y → i < length a → length a ≡ length b → take i a ≡ take i b
    → take (i + 1) a ≡ take (i + 1) b
same-next a b i x y first second is lt long same =
    take_more a i x lt ∙ ap (λ (ps : List MapPair). ps ++ get_or a i x ∷ []) same ∙ ap (λ (p : MapPair). take i b ++ p ∷ []) (sym first ∙ is ∙ second)
    ∙ sym (take_more b i y (omega (arith, lt, long)))

-- one that differs
pub not-next : (a b : List MapPair) (i : ℕ) (x y : MapPair) → x ≡ get_or a i x → y ≡ get_or b i y → (x ≡ y → ⊥) → i < length a → length a ≡ length b → a ≡ b → ⊥
not-next a b i x y first second other lt long e =
    other (first ∙ ap (λ (ps : List MapPair). get_or ps i x) e ∙ get_or_default b i x y (omega (arith, lt, long)) ∙ sym second)

pub not-long : (a b : List MapPair) → length a ≢ length b → a ≡ b → ⊥
not-long a b other e = other (ap length e)

-- all
pub same-all : (a b : List MapPair) (i : ℕ) → length a ≤ i → length a ≡ length b → take i a ≡ take i b → a ≡ b
same-all a b i end long same = sym (take_all i a end) ∙ same ∙ take_all i b (omega (arith, end, long))

pub ruleset pair_rules = (same-next, not-next, not-long, same-all)
