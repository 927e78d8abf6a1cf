-- Behind any pairs of a map there is a further base: one that differs from the base of the n-th pair in a byte of its own.
use Rattle.std.proofs.Common.{◌≡◌, ℕ, suc, ◌+◌, ◌≤◌, Bool, true, false, ◌==◌, ◌||◌, if◌then◌else◌, List, [], ◌∷◌, ◌++◌, length, get_or, refl, sym, ap, ◌∙◌, append_assoc, arith}
use Rattle.std.specs.Prelude.{codes}
use Rattle.std.proofs.lemmas.Bool.{eqb-true, eqb-false}
use Rattle.std.proofs.lemmas.List.{length-append}
use Rattle.dw_base.specs.Paths.{slash, MapPair, has_base, kept_front, without_end_slashes}
use Rattle.dw_base.specs.Texts.{has_nul, same_text}
use Rattle.dw_base.proofs.PathLaws.{is_prefix-from}
use Rattle.work_texts.proofs.SlashRules.{differ-cases}
use Rattle.work_texts.proofs.Words.{IsSide}

-- another byte: `b` for `a`, and else `a`
abbrev other : ℕ → ℕ
other b = if b == 97 then 98 else 97

-- for each pair, another byte than its base has at the place, which rises from pair to pair
abbrev others : ℕ → List MapPair → List ℕ
others i [] = []
others i (p ∷ ps) = other (get_or p.base i 0) ∷ others (suc i) ps

abbrev pub fresh : List MapPair → List ℕ
fresh ps = codes "/a" ++ others 2 ps

-- ---- it is none of the bases

other-cases : (b : ℕ) (test : Bool) → (b == 97) ≡ test → b ≡ (if test then 98 else 97) → ⊥
other-cases b true h e = let is : b ≡ 97 = eqb-true b 97 h in omega arith
other-cases b false h e = eqb-false b 97 h e

get-behind : (front : List ℕ) (x : ℕ) (more : List ℕ) → get_or (front ++ x ∷ more) (length front) 0 ≡ x
get-behind [] x more = refl
get-behind (f ∷ front) x more = get-behind front x more

pub or-both : (a b : Bool) → a ≡ false → b ≡ false → (a || b) ≡ false
or-both a b e f = rw (e, f) refl

apart-from : (front : List ℕ) (ps : List MapPair) → has_base ps (front ++ others (length front) ps) ≡ false
apart-from front [] = refl
apart-from front (p ∷ ps) =
    let x : ℕ = other (get_or p.base (length front) 0) in
    let whole : List ℕ = front ++ x ∷ others (suc (length front)) ps in
    let differ : same_text p.base whole ≡ false =
    differ-cases p.base whole (same_text p.base whole) refl
    (λ e. other-cases (get_or p.base (length front) 0) (get_or p.base (length front) 0 == 97) refl
    (ap (λ (t : List ℕ). get_or t (length front) 0) e ∙ get-behind front x (others (suc (length front)) ps))) in
    let long : length (front ++ x ∷ []) ≡ suc (length front) = omega (arith, length-append front (x ∷ [])) in
    let same : (front ++ x ∷ []) ++ others (length (front ++ x ∷ [])) ps ≡ whole =
    ap (λ (n : ℕ). (front ++ x ∷ []) ++ others n ps) long ∙ append_assoc front (x ∷ []) (others (suc (length front)) ps) in
    let rest : has_base ps whole ≡ false = ap (has_base ps) (sym same) ∙ apart-from (front ++ x ∷ []) ps in
    or-both (same_text p.base whole) (has_base ps whole) differ rest

pub fresh-apart : (ps : List MapPair) → has_base ps (fresh ps) ≡ false
fresh-apart ps = apart-from (codes "/a") ps

-- ---- it is a base

others-long : (i : ℕ) (ps : List MapPair) → length (others i ps) ≡ length ps
others-long i [] = refl
others-long i (p ∷ ps) = ap suc (others-long (suc i) ps)

bare-cases : (test : Bool) → ((if test then 98 else 97) == 0) ≡ false
bare-cases true = refl
bare-cases false = refl

others-bare : (i : ℕ) (ps : List MapPair) → has_nul (others i ps) ≡ false
others-bare i [] = refl
others-bare i (p ∷ ps) = or-both (other (get_or p.base i 0) == 0) (has_nul (others (suc i) ps)) (bare-cases (get_or p.base i 0 == 97)) (others-bare (suc i) ps)

one-kept : (test : Bool) → kept_front (if test then 98 else 97) [] ≡ (if test then 98 else 97) ∷ []
one-kept true = refl
one-kept false = refl

kept-others : (b : ℕ) (i : ℕ) (ps : List MapPair) → kept_front b [] ≡ b ∷ [] → kept_front b (others i ps) ≡ b ∷ others i ps
kept-others b i [] e = e
kept-others b i (p ∷ ps) e = refl

others-cut : (i : ℕ) (ps : List MapPair) → without_end_slashes (others i ps) ≡ others i ps
others-cut i [] = refl
others-cut i (p ∷ ps) =
    let b : ℕ = other (get_or p.base i 0) in
    ap (kept_front b) (others-cut (suc i) ps) ∙ kept-others b (suc i) ps (one-kept (get_or p.base i 0 == 97))

fresh-cut : (ps : List MapPair) → without_end_slashes (fresh ps) ≡ fresh ps
fresh-cut ps =
    let a : kept_front 97 (without_end_slashes (others 2 ps)) ≡ 97 ∷ others 2 ps = ap (kept_front 97) (others-cut 2 ps) ∙ kept-others 97 2 ps refl in
    ap (kept_front slash) a

pub fresh-side : (ps : List MapPair) → length ps ≤ 64 → IsSide (fresh ps)
fresh-side ps few =
    let cut = fresh-cut ps in
    let size : suc (suc (length (others 2 ps))) ≡ length ps + 2 = omega (arith, others-long 2 ps) in
    let long : length (without_end_slashes (fresh ps)) ≡ length ps + 2 = ap length cut ∙ size in
    record {
      is = is_prefix-from (fresh ps) (record {
        begins = refl;
        no_nul = others-bare 2 ps;
        some = omega (arith, long);
        within = omega (arith, long, few);
      });
      cut = cut;
    }
