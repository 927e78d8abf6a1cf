-- Numbers as fields: decimal digits with no leading zero are what is written of their value.
use Rattle.std.proofs.Common.{◌≡◌, ℕ, ◌^◌, ◌<◌, ◌≤◌, Bool, true, false, ◌&&◌, ◌||◌, not, ◌==◌, List, [], ◌∷◌, length, get_or, Option, Some, None, refl, sym, ap, subst, ◌∙◌, arith, nat_le, inl, inr, Result, Ok, Err}
use Rattle.std.specs.Prelude.{codes, nat_eq, nat_lt, ◌≢◌}
use Rattle.std.specs.Result.{result_ok}
use Rattle.std.specs.Str.{IsUtf8}
use Rattle.std.specs.Str.Parse.{ParsesUnsigned}
use Rattle.std.proofs.lemmas.Str.{IsUtf8-from_ascii}
use Rattle.std.specs.Char.{is_ascii_digit}
use Rattle.std.specs.Fmt.{decimal}
use Rattle.std.specs.List.{starts_with, list_all}
use Rattle.std.specs.Str.{all_ascii_digits}
use Rattle.std.specs.Str.Parse.{digits_value}
use Rattle.std.proofs.lemmas.Bool.{and_parts, eqb-true, eq-eqb, le-leb, leb-true, cases_lt, ne_eqb, le-ltb, lt-ltb, ltb-false, lt-leb}
use Rattle.std.proofs.lemmas.Fmt.{decimal-digits_value, digits_decimal, digits_value-decimal, decimal_nonempty, first_decimal, decimal_digit, IsAscii-from_digits}
use Rattle.std.proofs.lemmas.Str.Parse.{IsNumeralModel, numerals_by_value, parse_plain, not_in_digits, IsDigitsTest, tells_all_ascii_digits}
use Rattle.dw_base.specs.Texts.{has_nul}
use Rattle.work_texts.specs.Fields.{Field}
use Rattle.work_texts.specs.Reading.{when, is_numeral, number_in}
use Rattle.work_texts.proofs.OneField.{IsSpelling}
use Rattle.work_texts.proofs.Words.{when_ok, and_true}

same_digits : (ds : List ℕ) → list_all is_ascii_digit ds ≡ all_ascii_digits ds
same_digits [] = refl
same_digits (c ∷ cs) = ap (λ (b : Bool). is_ascii_digit c && b) (same_digits cs)

tells_digit_list : IsDigitsTest (λ ds. list_all is_ascii_digit ds ≡ true)
tells_digit_list = record {
  empty = refl;
  parts = λ c cs h. let p = tells_all_ascii_digits.parts c cs (sym (same_digits (c ∷ cs)) ∙ h) in (p.0, same_digits cs ∙ p.1);
  more = λ c cs i h. same_digits (c ∷ cs) ∙ tells_all_ascii_digits.more c cs i (sym (same_digits cs) ∙ h);
}

pub own : IsNumeralModel (λ ds. list_all is_ascii_digit ds ≡ true) (digits_value 10)
own = numerals_by_value (λ ds. list_all is_ascii_digit ds ≡ true) tells_digit_list

-- the three parts of the test
pub record IsNumeral (f : Field) : Type 0 where
  pub digits : list_all is_ascii_digit f ≡ true
  pub some : 0 < length f
  pub one : get_or f 0 0 ≡ 48 → length f ≡ 1

lone : (f : Field) (test : Bool) → (length f == 1) ≡ test → (test || not (starts_with nat_eq f (codes "0"))) ≡ true → 0 < length f → get_or f 0 0 ≡ 48 → length f ≡ 1
lone f true h e some z = eqb-true (length f) 1 h
lone [] false h e some z = absurd (omega arith)
lone (x ∷ xs) false h e some z =
    let same : nat_eq 48 x ≡ true = eq-eqb 48 x (sym z) in
    let starts : starts_with nat_eq (x ∷ xs) (codes "0") ≡ true = rw same refl in
    let never : not true ≡ true = ap not (sym starts) ∙ e in
    absurd (cc never)

some_from : (f : Field) → not (length f == 0) ≡ true → 0 < length f
some_from [] e = absurd cc
some_from (x ∷ xs) e = omega arith

pub numeral_parts : (f : Field) → is_numeral f ≡ true → IsNumeral f
numeral_parts f e =
    let outer = and_parts (list_all is_ascii_digit f && not (length f == 0)) (length f == 1 || not (starts_with nat_eq f (codes "0"))) e in
    let inner = and_parts (list_all is_ascii_digit f) (not (length f == 0)) outer.0 in
    let some = some_from f inner.1 in
    record { digits = inner.0; some = some; one = lone f (length f == 1) refl outer.1 some }

or_right : (a b : Bool) → b ≡ true → (a || b) ≡ true
or_right true b e = refl
or_right false b e = e

or_left : (a b : Bool) → a ≡ true → (a || b) ≡ true
or_left a b e = rw e refl

lone_from : (f : Field) → 0 < length f → ((get_or f 0 0 ≡ 48 → ⊥)) → (length f == 1 || not (starts_with nat_eq f (codes "0"))) ≡ true
lone_from [] some other = absurd (omega arith)
lone_from (x ∷ xs) some other =
    let test : nat_eq 48 x ≡ false = ne_eqb 48 x (λ e. other (sym e)) in
    let starts : starts_with nat_eq (x ∷ xs) (codes "0") ≡ false = rw test refl in
    or_right (length (x ∷ xs) == 1) (not (starts_with nat_eq (x ∷ xs) (codes "0"))) (ap not starts)

not_empty : (f : Field) → 0 < length f → not (length f == 0) ≡ true
not_empty [] some = absurd (omega arith)
not_empty (x ∷ xs) some = ap not (ne_eqb (length (x ∷ xs)) 0 (λ e. omega arith))

decimal_lone : (n : ℕ) → n < 2 ^ 64 → (length (decimal n) == 1 || not (starts_with nat_eq (decimal n) (codes "0"))) ≡ true
decimal_lone n small =
    elim (cases_lt 0 n) [
      | inl above ↦
          let first = first_decimal n above small in
          lone_from (decimal n) (decimal_nonempty n small) (λ e. omega arith)
      | inr none ↦
          let zero_is : n ≡ 0 = omega arith in
          let d : decimal n ≡ 48 ∷ [] = ap decimal zero_is ∙ decimal_digit 0 (omega arith) in
          or_left (length (decimal n) == 1) (not (starts_with nat_eq (decimal n) (codes "0"))) (rw d refl)
    ]

pub numeral-decimal : (n : ℕ) → n < 2 ^ 64 → is_numeral (decimal n) ≡ true
numeral-decimal n small =
    and_true (list_all is_ascii_digit (decimal n) && not (length (decimal n) == 0)) (length (decimal n) == 1 || not (starts_with nat_eq (decimal n) (codes "0")))
    (and_true (list_all is_ascii_digit (decimal n)) (not (length (decimal n) == 0)) (digits_decimal own n small) (not_empty (decimal n) (decimal_nonempty n small)))
    (decimal_lone n small)

-- digits are no NULs
digit_bare : (x : ℕ) → is_ascii_digit x ≡ true → (x == 0) ≡ false
digit_bare x e = ne_eqb x 0 (λ z.
    let never : false ≡ true = subst (λ (d : ℕ). is_ascii_digit d ≡ true) z e in
    absurd (cc never))

digits_bare : (f : Field) → list_all is_ascii_digit f ≡ true → has_nul f ≡ false
digits_bare [] e = refl
digits_bare (x ∷ xs) e =
    let p = and_parts (is_ascii_digit x) (list_all is_ascii_digit xs) e in
    rw (digit_bare x p.0, digits_bare xs p.1) refl

pub decimal_bare : (n : ℕ) → n < 2 ^ 64 → has_nul (decimal n) ≡ false
decimal_bare n small = digits_bare (decimal n) (digits_decimal own n small)

-- ---- a number within limits

pub record IsWithin (low high n : ℕ) : Type 0 where
  pub above : low ≤ n
  pub below : n ≤ high

number_takes : (low high : ℕ) → high < 2 ^ 64 → (f : Field) (n : ℕ) → number_in low high f ≡ Some n → (f ≡ decimal n) × IsWithin low high n
unfolding number_in
number_takes low high wide f n e =
    let v : ℕ = digits_value 10 f in
    let w = when_ok (is_numeral f && nat_le low v && nat_le v high) v n e in
    let outer = and_parts (is_numeral f && nat_le low v) (nat_le v high) w.0 in
    let inner = and_parts (is_numeral f) (nat_le low v) outer.0 in
    let above : low ≤ v = leb-true low v inner.1 in
    let below : v ≤ high = leb-true v high outer.1 in
    let p = numeral_parts f inner.0 in
    let small : v < 2 ^ 64 = omega arith in
    let spelled : decimal v ≡ f = decimal-digits_value own f p.digits p.some p.one small in
    let within : IsWithin low high v = record { above = above; below = below } in
    (sym spelled ∙ ap decimal w.1, subst (IsWithin low high) w.1 within)

number_again : (low high : ℕ) → high < 2 ^ 64 → (n : ℕ) → IsWithin low high n → number_in low high (decimal n) ≡ Some n
unfolding number_in
number_again low high wide n fit =
    let above : low ≤ n = fit.above in
    let below : n ≤ high = fit.below in
    let small : n < 2 ^ 64 = omega arith in
    let value : digits_value 10 (decimal n) ≡ n = digits_value-decimal own n small in
    rw (value, numeral-decimal n small, le-leb low n above, le-leb n high below) refl

pub number_spelling : (low high : ℕ) → low ≤ high → high < 2 ^ 64 → IsSpelling (number_in low high) decimal (IsWithin low high)
number_spelling low high some wide = record {
  takes = λ f n h e. number_takes low high wide f n e;
  again = λ n fit. number_again low high wide n fit;
  bare = λ n fit. let below : n ≤ high = fit.below in decimal_bare n (omega arith);
  sample = low;
  fits = record { above = omega arith; below = some };
}

-- ---- what a number's text reads as

-- the value of a numeral, where it fits 64 bits
abbrev pub small_value : Field → Option ℕ
small_value f = when (nat_lt (digits_value 10 f) (2 ^ 64)) (digits_value 10 f)

pub digits_utf8 : (f : Field) → is_numeral f ≡ true → IsUtf8 f
digits_utf8 f e = IsUtf8-from_ascii f (IsAscii-from_digits f (own.to f (numeral_parts f e).digits))

no_plus : (f : Field) → is_numeral f ≡ true → get_or f 0 0 ≢ 43
no_plus f e = let p = numeral_parts f e in not_in_digits own f 43 p.digits (λ r. omega arith) 0 p.some

-- what parsing gives is the value, where it fits
pub value_is : (f : Field) → is_numeral f ≡ true → {E : Type 0} → (r : Result ℕ E) → ParsesUnsigned 64 10 f r → result_ok r ≡ small_value f
value_is f e {E} (Err x) h =
    let p = numeral_parts f e in
    let not_small : ¬ ((list_all is_ascii_digit f ≡ true) × (0 < length f) × (digits_value 10 f < 2 ^ 64)) = (let r : Result ℕ E = Err x in parse_plain own 64 f r h (no_plus f e)) in
    let large : nat_lt (digits_value 10 f) (2 ^ 64) ≡ false = le-ltb (digits_value 10 f) (2 ^ 64) (elim (cases_lt (digits_value 10 f) (2 ^ 64)) [ inl lt ↦ absurd (not_small (p.digits, p.some, lt)) | inr le ↦ le ]) in
    rw large refl
value_is f e {E} (Ok m) h =
    let r : Result ℕ E = Ok m in
    let one = parse_plain own 64 f r h (no_plus f e) in
    rw (lt-ltb (digits_value 10 f) (2 ^ 64) one.0.2, one.1) refl

-- bytes that aren't UTF-8 are no numeral
pub never_utf8 : (f : Field) → is_numeral f ≡ true → ¬ (IsUtf8 f) → small_value f ≡ None
never_utf8 f e h = absurd (h (digits_utf8 f e))

pub ruleset parse_rules = (never_utf8)

-- ---- a number within limits, by its value

and_false : (a : Bool) → (a && false) ≡ false
and_false true = refl
and_false false = refl

number-cases : (low high : ℕ) (f : Field) (n : ℕ) (above below : Bool) → is_numeral f ≡ true → Some n ≡ small_value f → nat_le low n ≡ above → nat_le n high ≡ below → number_in low high f ≡ when (above && below) n
unfolding number_in
number-cases low high f n above below e v a b =
    let w = when_ok (nat_lt (digits_value 10 f) (2 ^ 64)) (digits_value 10 f) n (sym v) in
    rw (e, w.1, a, b) refl

pub number-within : (low high : ℕ) (f : Field) (n : ℕ) → is_numeral f ≡ true → Some n ≡ small_value f → low ≤ n → n ≤ high → number_in low high f ≡ Some n
number-within low high f n e v a b = number-cases low high f n true true e v (le-leb low n a) (le-leb n high b)

pub number-low : (low high : ℕ) (f : Field) (n : ℕ) → is_numeral f ≡ true → Some n ≡ small_value f → n < low → number_in low high f ≡ None
number-low low high f n e v a = number-cases low high f n false (nat_le n high) e v (lt-leb low n a) refl

pub number-high : (low high : ℕ) (f : Field) (n : ℕ) → is_numeral f ≡ true → Some n ≡ small_value f → low ≤ n → high < n → number_in low high f ≡ None
number-high low high f n e v a b = number-cases low high f n true false e v (le-leb low n a) (lt-leb n high b)

absent-cases : (low high : ℕ) (f : Field) (small : Bool) → nat_lt (digits_value 10 f) (2 ^ 64) ≡ small → high < 2 ^ 64 → None ≡ when small (digits_value 10 f) → number_in low high f ≡ None
unfolding number_in
absent-cases low high f true e wide h = absurd cc
absent-cases low high f false e wide h =
    let large : 2 ^ 64 ≤ digits_value 10 f = ltb-false (digits_value 10 f) (2 ^ 64) e in
    let over : nat_le (digits_value 10 f) high ≡ false = lt-leb (digits_value 10 f) high (omega arith) in
    rw (over, and_false (is_numeral f && nat_le low (digits_value 10 f))) refl

pub number-absent : (low high : ℕ) (f : Field) → high < 2 ^ 64 → None ≡ small_value f → number_in low high f ≡ None
number-absent low high f wide h = absent-cases low high f (nat_lt (digits_value 10 f) (2 ^ 64)) refl wide h

pub number-none : (low high : ℕ) (f : Field) → is_numeral f ≡ false → number_in low high f ≡ None
unfolding number_in
number-none low high f e = rw e refl

pub ruleset numeral_rules = (number-within, number-low, number-high, number-absent, number-none)
