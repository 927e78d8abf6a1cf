-- How bytes are appended as they are printed.
use Rattle.std.proofs.Common.{◌≡◌, ℕ, ◌+◌, ◌<◌, List, [], ◌∷◌, ◌++◌, take, length, get_or, true, false, refl, sym, ap, ◌∙◌, arith, append_assoc, append-nil}
use Rattle.std.proofs.lemmas.List.{take_more, take_all}
use Rattle.dbg_show.specs.Quoting.{byte_text, bytes_text, escaped, is_plain}
use Rattle.dbg_show.proofs.AppendLaws.{three}

pub plain-byte : (b : ℕ) → is_plain b ≡ true → byte_text b ≡ b ∷ []
unfolding byte_text
plain-byte b e = rw e refl

pub other-byte : (b : ℕ) → is_plain b ≡ false → byte_text b ≡ escaped b
unfolding byte_text
other-byte b e = rw e refl

-- a byte that was appended
pub push-plain : (old new : List ℕ) (b : ℕ) → is_plain b ≡ true → new ≡ old ++ b ∷ [] → new ≡ old ++ byte_text b
push-plain old new b e n = n ∙ ap (λ (x : List ℕ). old ++ x) (sym (plain-byte b e))

pub push-other : (old new : List ℕ) (b : ℕ) → is_plain b ≡ false → new ≡ old ++ escaped b → new ≡ old ++ byte_text b
push-other old new b e n = n ∙ ap (λ (x : List ℕ). old ++ x) (sym (other-byte b e))

pub ruleset byte_laws = (push-plain, push-other)

-- bytes, one after another
bytes_text-append : (a b : List ℕ) → bytes_text (a ++ b) ≡ bytes_text a ++ bytes_text b
bytes_text-append [] b = refl
bytes_text-append (x ∷ a) b = ap (λ (t : List ℕ). byte_text x ++ t) (bytes_text-append a b) ∙ sym (append_assoc (byte_text x) (bytes_text a) (bytes_text b))

pub bytes-start : (old bytes : List ℕ) → old ≡ old ++ bytes_text (take 0 bytes)
bytes-start old bytes = sym (append-nil old)

pub bytes-more : (old now new bytes : List ℕ) (i : ℕ) → i < length bytes → now ≡ old ++ bytes_text (take i bytes) → new ≡ now ++ byte_text (get_or bytes i 0)
    → new ≡ old ++ bytes_text (take (i + 1) bytes)
bytes-more old now new bytes i lt n e =
    e ∙ ap (λ (t : List ℕ). t ++ byte_text (get_or bytes i 0)) n ∙ append_assoc old (bytes_text (take i bytes)) (byte_text (get_or bytes i 0))
    ∙ ap (λ (t : List ℕ). old ++ (bytes_text (take i bytes) ++ t)) (sym (append-nil (byte_text (get_or bytes i 0))))
    ∙ ap (λ (t : List ℕ). old ++ t) (sym (ap bytes_text (take_more bytes i 0 lt) ∙ bytes_text-append (take i bytes) (get_or bytes i 0 ∷ [])))

pub bytes-over : (old now bytes : List ℕ) → now ≡ old ++ bytes_text (take (length bytes) bytes) → now ≡ old ++ bytes_text bytes
bytes-over old now bytes n = n ∙ ap (λ (t : List ℕ). old ++ bytes_text t) (take_all (length bytes) bytes (omega arith))

pub ruleset bytes_laws = (bytes-start, bytes-more, bytes-over)

pub ruleset quoted_laws = (three)
