-- Digests and ids as fields: lower-case hexadecimal digits are what is written of their bytes.
use Rattle.std.proofs.Common.{◌≡◌, ℕ, zero, suc, ◌*◌, ◌/◌, ◌%◌, ◌<◌, Bool, true, false, ◌&&◌, ◌==◌, List, [], ◌∷◌, length, Option, Some, None, Result, Ok, Err, refl, sym, ap, subst, ◌∙◌, arith, slice_index}
use Rattle.std.specs.Prelude.{IsTrue, nat_le}
use Rattle.std.proofs.lemmas.Bool.{ne_eqb, lt-leb}
use Rattle.hex.specs.declared.error.FromHexError.{FromHexError}
use Rattle.hex.specs.Hex.{IsBytes, encode_lower, encode_with, lower_digits, decode_of, decode_sized, hex_digit_value}
use Rattle.hex.proofs.HexLemmas.{IsDigits-lower_digits, decode_of-ok, decode_of-encode_lower, decode_sized-encode_lower, decode_sized-ok, decode_sized-twice}
use Rattle.dw_base.specs.Texts.{has_nul, same_text}
use Rattle.dw_base.proofs.TextLaws.{same_text-true, same_text-refl}
use Rattle.work_texts.specs.Fields.{Field}
use Rattle.work_texts.specs.Rules.{may_have_id}
use Rattle.work_texts.specs.Reading.{when, lower_hex, digest_in, id_of, id_in}
use Rattle.work_texts.proofs.OneField.{IsSpelling}
use Rattle.work_texts.proofs.Words.{when_ok, when_true}

-- a digit is no NUL
digit_bare : (d : ℕ) → d < 16 → (slice_index lower_digits d == 0) ≡ false
digit_bare d small = ne_eqb (slice_index lower_digits d) 0 (λ z.
    let never : Some d ≡ None = sym (IsDigits-lower_digits d small) ∙ ap hex_digit_value z in
    absurd (cc never))

IsBytes-rest : (b : ℕ) (rest : List ℕ) → IsBytes (b ∷ rest) → IsBytes rest
IsBytes-rest b rest h i = h (suc i)

encoded_bare : (bytes : List ℕ) → IsBytes bytes → has_nul (encode_with lower_digits bytes) ≡ false
unfolding encode_with
encoded_bare [] h = refl
encoded_bare (b ∷ rest) h =
    let first : b < 256 = h 0 in
    let high = digit_bare (b / 16) (omega arith) in
    let low = digit_bare (b % 16) (omega arith) in
    rw (high, low, encoded_bare rest (IsBytes-rest b rest h)) refl

lower_takes : (f : Field) (r : Result (List ℕ) FromHexError) (bytes : List ℕ) → lower_hex f r ≡ Some bytes → (r ≡ Ok bytes) × (f ≡ encode_lower bytes)
lower_takes f (Ok xs) bytes e =
    let w = when_ok (same_text (encode_lower xs) f) xs bytes e in
    (ap Ok w.1, sym (same_text-true (encode_lower xs) f w.0) ∙ ap encode_lower w.1)
lower_takes f (Err x) bytes e = absurd cc

lower_again : (bytes : List ℕ) (r : Result (List ℕ) FromHexError) → r ≡ Ok bytes → lower_hex (encode_lower bytes) r ≡ Some bytes
lower_again bytes r e = rw (e, same_text-refl (encode_lower bytes)) refl

-- ---- a digest

pub record IsDigest (digest : List ℕ) : Type 0 where
  pub len : length digest ≡ 20
  pub bytes : IsBytes digest

digest_takes : (f : Field) (digest : List ℕ) → digest_in f ≡ Some digest → (f ≡ encode_lower digest) × IsDigest digest
unfolding digest_in
digest_takes f digest e =
    let l = lower_takes f (decode_sized f 20) digest e in
    let long : length f ≡ 2 * 20 = decode_sized-ok f 20 digest l.0 in
    let decoded : decode_of f ≡ Ok digest = sym (decode_sized-twice f 20 long) ∙ l.0 in
    let d = decode_of-ok f digest decoded in
    let twice : length f ≡ 2 * length digest = d.2 in
    (l.1, record { len = omega arith; bytes = d.3 })

digest_again : (digest : List ℕ) → IsDigest digest → digest_in (encode_lower digest) ≡ Some digest
unfolding digest_in
digest_again digest fit = lower_again digest (decode_sized (encode_lower digest) 20) (decode_sized-encode_lower digest 20 fit.len fit.bytes)

abbrev zeros : ℕ → List ℕ
zeros zero = []
zeros (suc n) = 0 ∷ zeros n

zeros_bytes : (n : ℕ) → IsBytes (zeros n)
zeros_bytes zero i = omega arith
zeros_bytes (suc n) zero = omega arith
zeros_bytes (suc n) (suc i) = zeros_bytes n i

pub digest_spelling : IsSpelling digest_in encode_lower IsDigest
digest_spelling = record {
  takes = λ f x h e. digest_takes f x e;
  again = λ x fit. digest_again x fit;
  bare = λ x fit. encoded_bare x fit.bytes;
  sample = zeros 20;
  fits = record { len = refl; bytes = zeros_bytes 20 };
}

-- ---- an id

pub record IsId (split : Bool) (id : List ℕ) : Type 0 where
  pub may : IsTrue (may_have_id split id)
  pub bytes : IsBytes id

id_ok : (split : Bool) (o : Option (List ℕ)) (id : List ℕ) → id_of split o ≡ Some id → (o ≡ Some id) × IsTrue (may_have_id split id)
id_ok split None id e = absurd cc
id_ok split (Some x) id e =
    let w = when_ok (may_have_id split x) x id e in
    (ap Some w.1, subst (λ (y : List ℕ). IsTrue (may_have_id split y)) w.1 w.0)

id_takes : (split : Bool) (f : Field) (id : List ℕ) → id_in split f ≡ Some id → (f ≡ encode_lower id) × IsId split id
unfolding id_in
id_takes split f id e =
    let o = id_ok split (lower_hex f (decode_of f)) id e in
    let l = lower_takes f (decode_of f) id o.0 in
    (l.1, record { may = o.1; bytes = (decode_of-ok f id l.0).3 })

id_again : (split : Bool) (id : List ℕ) → IsId split id → id_in split (encode_lower id) ≡ Some id
unfolding id_in
id_again split id fit =
    let one = lower_again id (decode_of (encode_lower id)) (decode_of-encode_lower id fit.bytes) in
    ap (id_of split) one ∙ when_true (may_have_id split id) id fit.may

nothing_bytes : IsBytes []
nothing_bytes i = omega arith

pub id_spelling : (split : Bool) → IsSpelling (id_in split) encode_lower (IsId split)
id_spelling split = record {
  takes = λ f x h e. id_takes split f x e;
  again = λ x fit. id_again split x fit;
  bare = λ x fit. encoded_bare x fit.bytes;
  sample = [];
  fits = record { may = refl; bytes = nothing_bytes };
}

-- digits of more than twenty bytes are no id
may-long : (split : Bool) (id : List ℕ) → 20 < length id → may_have_id split id ≡ false
may-long split id long =
    let some : (length id == 0) ≡ false = ne_eqb (length id) 0 (λ e. omega arith) in
    let over : nat_le (length id) 20 ≡ false = lt-leb (length id) 20 long in
    rw (some, over) (and_false (split && nat_le 2 (length id)))
  where
    and_false : (a : Bool) → (a && false) ≡ false
    and_false true = refl
    and_false false = refl

long-cases : (split : Bool) (f : Field) (r : Result (List ℕ) FromHexError) → decode_of f ≡ r → 40 < length f → id_of split (lower_hex f r) ≡ None
long-cases split f (Err e) h long = refl
long-cases split f (Ok bytes) h long =
    let twice : length f ≡ 2 * length bytes = (decode_of-ok f bytes h).2 in
    long_id split f bytes (same_text (encode_lower bytes) f) (may-long split bytes (omega arith))
  where
    long_id : (split : Bool) (f bytes : List ℕ) (test : Bool) → may_have_id split bytes ≡ false → id_of split (when test bytes) ≡ None
    long_id split f bytes true e = rw e refl
    long_id split f bytes false e = refl

pub id-long : (split : Bool) (f : Field) → 40 < length f → id_in split f ≡ None
unfolding id_in
id-long split f long = long-cases split f (decode_of f) refl long

pub ruleset id_rules = (id-long)
