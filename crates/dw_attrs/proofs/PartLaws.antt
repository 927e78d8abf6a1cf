-- A part of bytes, as far as it is there.
use Rattle.std.proofs.Common.{◌≡◌, ℕ, zero, suc, ◌-◌, min, List, [], ◌∷◌, length, take, drop, refl, ap, ◌∙◌, arith}
use Rattle.std.proofs.lemmas.List.{take_min}

abbrev no_bytes : List ℕ
no_bytes = []

drop-none : (n : ℕ) → drop n no_bytes ≡ no_bytes
drop-none zero = refl
drop-none (suc n) = refl

dropped : (at : ℕ) (bytes : List ℕ) → drop (min at (length bytes)) bytes ≡ drop at bytes
dropped zero bytes =
    let none : min 0 (length bytes) ≡ 0 = omega arith in
    ap (λ (n : ℕ). drop n bytes) none
dropped (suc at) [] = drop-none (min (suc at) 0)
dropped (suc at) (b ∷ bytes) =
    let one : min (suc at) (suc (length bytes)) ≡ suc (min at (length bytes)) = omega arith in
    ap (λ (n : ℕ). drop n (b ∷ bytes)) one ∙ dropped at bytes

-- a part of bytes, as far as it is there
pub part-is : (bytes rest : List ℕ) (at len from to : ℕ) → from ≡ min at (length bytes) → rest ≡ drop from bytes → to ≡ min len (length rest) → take to rest ≡ take len (drop at bytes)
part-is bytes rest at len from to f r t =
    ap (λ (n : ℕ). take n rest) t ∙ take_min len rest ∙ ap (take len) (r ∙ ap (λ (n : ℕ). drop n bytes) f ∙ dropped at bytes)

pub ruleset part_laws = (part-is)
