-- What the first NUL says of the first field.
use Rattle.std.proofs.Common.{◌≡◌, ℕ, ◌+◌, ◌-◌, ◌<◌, ◌==◌, Bool, true, false, if◌then◌else◌, List, length, take, drop, Some, None, Ok, Err, refl, sym, ap, ◌∙◌, arith}
use Rattle.std.specs.List.{position}
use Rattle.std.proofs.lemmas.List.{take_rest}
use Rattle.dw_base.specs.Texts.{has_nul, text}
use Rattle.dw_base.proofs.TextLaws.{position-text, take-text, length-text}
use Rattle.work_texts.specs.Reading.{field_at}

none-cases : (test : Bool) (n : ℕ) → (if test then Some n else None) ≡ None → test ≡ false
none-cases true n e = cc
none-cases false n e = refl

some-cases : (test : Bool) (n m : ℕ) → (if test then Some n else None) ≡ Some m → (test ≡ true) × (n ≡ m)
some-cases true n m e = (refl, cc)
some-cases false n m e = cc

-- no NUL, no field
pub field-absent : (xs : List ℕ) → None ≡ position (λ b. b == 0) xs → field_at xs ≡ Err (length xs)
unfolding field_at
field-absent xs e =
    let none = none-cases (has_nul xs) (length (text xs)) (sym (position-text xs) ∙ sym e) in
    rw none refl

pub length-found : (xs : List ℕ) (n : ℕ) → Some n ≡ position (λ b. b == 0) xs → n < length xs
length-found xs n e =
    let parts = some-cases (has_nul xs) (length (text xs)) n (sym (position-text xs) ∙ sym e) in
    let longer = length-text xs parts.0 in
    omega arith

-- the bytes before the first NUL are the field
pub field-found : (xs : List ℕ) (n : ℕ) → Some n ≡ position (λ b. b == 0) xs → field_at xs ≡ Ok (take n xs, take (length xs - (n + 1)) (drop (n + 1) xs))
unfolding field_at
field-found xs n e =
    let parts = some-cases (has_nul xs) (length (text xs)) n (sym (position-text xs) ∙ sym e) in
    let t : take n xs ≡ text xs = ap (λ (k : ℕ). take k xs) (sym parts.1) ∙ take-text xs parts.0 in
    let r : take (length xs - (n + 1)) (drop (n + 1) xs) ≡ drop (n + 1) xs = take_rest xs (n + 1) in
    rw (parts.0, parts.1, t, r) refl

pub ruleset field_rules = (field-absent, length-found, field-found)
