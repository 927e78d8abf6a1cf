-- How the digits of bytes are appended.
use Rattle.std.proofs.Common.{◌≡◌, ℕ, ◌+◌, ◌<◌, List, [], ◌∷◌, ◌++◌, take, length, get_or, refl, sym, ap, ◌∙◌, arith, append_assoc, append-nil}
use Rattle.std.proofs.lemmas.List.{take_more, take_all}
use Rattle.dbg_show.specs.UnitTexts.{byte_digits, bytes_digits}

bytes_digits-append : (a b : List ℕ) → bytes_digits (a ++ b) ≡ bytes_digits a ++ bytes_digits b
bytes_digits-append [] b = refl
bytes_digits-append (x ∷ a) b = ap (λ (t : List ℕ). byte_digits x ++ t) (bytes_digits-append a b) ∙ sym (append_assoc (byte_digits x) (bytes_digits a) (bytes_digits b))

pub digits-start : (old bytes : List ℕ) → old ≡ old ++ bytes_digits (take 0 bytes)
digits-start old bytes = sym (append-nil old)

pub digits-more : (old now new bytes : List ℕ) (i : ℕ) → i < length bytes → now ≡ old ++ bytes_digits (take i bytes) → new ≡ now ++ byte_digits (get_or bytes i 0)
    → new ≡ old ++ bytes_digits (take (i + 1) bytes)
digits-more old now new bytes i lt n e =
    e ∙ ap (λ (t : List ℕ). t ++ byte_digits (get_or bytes i 0)) n ∙ append_assoc old (bytes_digits (take i bytes)) (byte_digits (get_or bytes i 0))
    ∙ ap (λ (t : List ℕ). old ++ (bytes_digits (take i bytes) ++ t)) (sym (append-nil (byte_digits (get_or bytes i 0))))
    ∙ ap (λ (t : List ℕ). old ++ t) (sym (ap bytes_digits (take_more bytes i 0 lt) ∙ bytes_digits-append (take i bytes) (get_or bytes i 0 ∷ [])))

pub digits-over : (old now bytes : List ℕ) → now ≡ old ++ bytes_digits (take (length bytes) bytes) → now ≡ old ++ bytes_digits bytes
digits-over old now bytes n = n ∙ ap (λ (t : List ℕ). old ++ bytes_digits t) (take_all (length bytes) bytes (omega arith))

pub ruleset digits_laws = (digits-start, digits-more, digits-over)
