-- A slash at the end is what a map cuts off.
use Rattle.std.proofs.Common.{◌≡◌, ℕ, suc, ◌+◌, ◌-◌, ◌<◌, ◌≤◌, Bool, true, false, ◌==◌, not, if◌then◌else◌, List, [], ◌∷◌, ◌++◌, length, take, get_or, refl, sym, ap, ◌∙◌, arith}
use Rattle.std.proofs.lemmas.List.{take_more, take_all, length-append}
use Rattle.std.proofs.lemmas.Bool.{eqb-true}
use Rattle.dw_base.specs.Paths.{slash, without_end_slashes, kept_front}
use Rattle.dw_base.specs.Texts.{same_text}
use Rattle.dw_base.proofs.PathLaws.{without_end_slashes-slash, without_end_slashes-other}
use Rattle.dw_base.proofs.TextLaws.{same_text-true, same_text-from}

kept_length-cases : (b : ℕ) (test : Bool) → length (if test then [] else b ∷ []) ≤ 1
kept_length-cases b true = omega arith
kept_length-cases b false = omega arith

kept_length : (b : ℕ) (bs : List ℕ) → length (kept_front b bs) ≤ suc (length bs)
kept_length b [] = kept_length-cases b (b == slash)
kept_length b (c ∷ cs) = omega arith

-- what is left isn't longer
cut_length : (xs : List ℕ) → length (without_end_slashes xs) ≤ length xs
cut_length [] = omega arith
cut_length (b ∷ bs) =
    let one = kept_length b (without_end_slashes bs) in
    let more = cut_length bs in
    omega arith

-- texts that aren't the same are told apart
pub differ-cases : (t u : List ℕ) (test : Bool) → same_text t u ≡ test → (t ≡ u → ⊥) → test ≡ false
differ-cases t u true e h = absurd (h (same_text-true t u e))
differ-cases t u false e h = refl

last-cases : (ys : List ℕ) (b : ℕ) (test : Bool) → (b == slash) ≡ test → not (same_text (without_end_slashes (ys ++ b ∷ [])) (ys ++ b ∷ [])) ≡ test
last-cases ys b true e =
    let is : b ≡ slash = eqb-true b slash e in
    let cut : without_end_slashes (ys ++ b ∷ []) ≡ without_end_slashes ys = ap (λ (c : ℕ). without_end_slashes (ys ++ c ∷ [])) is ∙ without_end_slashes-slash ys in
    let short = cut_length ys in
    let other : same_text (without_end_slashes (ys ++ b ∷ [])) (ys ++ b ∷ []) ≡ false =
    differ-cases (without_end_slashes (ys ++ b ∷ [])) (ys ++ b ∷ []) (same_text (without_end_slashes (ys ++ b ∷ [])) (ys ++ b ∷ [])) refl
    (λ same.
    let long : length (without_end_slashes ys) ≡ length (ys ++ b ∷ []) = ap length (sym cut ∙ same) in
    omega (arith, length-append ys (b ∷ []))) in
    ap not other
last-cases ys b false e =
    ap not (same_text-from (without_end_slashes (ys ++ b ∷ [])) (ys ++ b ∷ []) (without_end_slashes-other ys b e))

pub slash-none : (xs : List ℕ) → length xs ≡ 0 → not (same_text (without_end_slashes xs) xs) ≡ false
slash-none [] e = refl
slash-none (x ∷ xs) e = absurd (omega arith)

pub slash-last : (xs : List ℕ) → (length xs ≡ 0 → ⊥) → not (same_text (without_end_slashes xs) xs) ≡ (get_or xs (length xs - 1) 0 == 47)
slash-last xs some =
    let n : ℕ = length xs in
    let above : 0 < n = omega arith in
    let b : ℕ = get_or xs (n - 1) 0 in
    let whole : n ≡ n - 1 + 1 = omega arith in
    let parts : xs ≡ take (n - 1) xs ++ b ∷ [] = sym (take_all n xs (omega arith)) ∙ ap (λ (k : ℕ). take k xs) whole ∙ take_more xs (n - 1) 0 (omega arith) in
    ap (λ (ys : List ℕ). not (same_text (without_end_slashes ys) ys)) parts ∙ last-cases (take (n - 1) xs) b (b == slash) refl

-- where no slash stands at the end nothing is cut off
pub slash-whole : (xs : List ℕ) → same_text (without_end_slashes xs) xs ≡ true → without_end_slashes xs ≡ xs
slash-whole xs e = same_text-true (without_end_slashes xs) xs e

pub ruleset slash_rules = (slash-none, slash-last)

pub ruleset side_rules = (slash-whole)
