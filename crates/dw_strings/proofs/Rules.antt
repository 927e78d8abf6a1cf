-- The laws that the proofs of this crate name.
use Rattle.std.proofs.Common.{◌≡◌, ℕ, ◌<◌, ◌==◌, Bool, true, false, Some, None, if◌then◌else◌, List, length, take, refl, sym, ap, ◌∙◌, arith}
use Rattle.std.specs.List.{position}
use Rattle.dw_base.specs.Texts.{has_nul, text}
use Rattle.dw_base.proofs.TextLaws.{position-text, take-text, length-text}

position_none-cases : (test : Bool) (n : ℕ) → (if test then Some n else None) ≡ None → test ≡ false
position_none-cases true n e = cc
position_none-cases false n e = refl

position_some-cases : (test : Bool) (n m : ℕ) → (if test then Some n else None) ≡ Some m → (test ≡ true) × (n ≡ m)
position_some-cases true n m e = (refl, cc)
position_some-cases false n m e = cc

-- no NUL is found where there is none
pub has_nul-absent : (xs : List ℕ) → None ≡ position (λ b. b == 0) xs → has_nul xs ≡ false
has_nul-absent xs e = position_none-cases (has_nul xs) (length (text xs)) (sym (position-text xs) ∙ sym e)

-- the bytes before the first NUL are the text
pub has_nul-found : (xs : List ℕ) (n : ℕ) → Some n ≡ position (λ b. b == 0) xs → has_nul xs ≡ true
has_nul-found xs n e = (position_some-cases (has_nul xs) (length (text xs)) n (sym (position-text xs) ∙ sym e)).0

pub take-found : (xs : List ℕ) (n : ℕ) → Some n ≡ position (λ b. b == 0) xs → take n xs ≡ text xs
take-found xs n e =
    let parts = position_some-cases (has_nul xs) (length (text xs)) n (sym (position-text xs) ∙ sym e) in
    ap (λ (k : ℕ). take k xs) (sym parts.1) ∙ take-text xs parts.0

pub length-found : (xs : List ℕ) (n : ℕ) → Some n ≡ position (λ b. b == 0) xs → n < length xs
length-found xs n e =
    let parts = position_some-cases (has_nul xs) (length (text xs)) n (sym (position-text xs) ∙ sym e) in
    let longer = length-text xs parts.0 in
    omega arith

pub ruleset text_rules = (has_nul-absent, has_nul-found, take-found, length-found)
