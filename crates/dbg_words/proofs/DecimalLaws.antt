-- What the parse of a decimal number gives.
use Rattle.std.proofs.Common.{◌≡◌, ℕ, ◌<◌, ◌≤◌, ◌^◌, true, false, ◌&&◌, List, length, nat_lt, nat_le, Result, Err, Some, None, refl, sym, ap, subst, ◌∙◌, arith, rules, ltb-true}
use Rattle.std.proofs.lemmas.Bool.{leb-true}
use Rattle.std.specs.Char.{is_ascii_digit}
use Rattle.std.specs.List.{list_all}
use Rattle.std.specs.Prelude.{if◌then◌else◌}
use Rattle.std.specs.Result.{OkIff}
use Rattle.std.specs.Str.Parse.{ParsesUnsigned, digits_value}
use Rattle.std.proofs.lemmas.Str.Parse.{IsNumeralModel, numerals_by_value, parse_digits}
use Rattle.dbg_words.specs.Decimals.{is_decimal, number_within}
use Rattle.dbg_words.proofs.BoolLaws.{and_left, and_right, and_false}

abbrev Digits : List ℕ → Type 0
Digits ds = list_all is_ascii_digit ds ≡ true

own : IsNumeralModel Digits (digits_value 10)
own = numerals_by_value Digits (search rules)

digits_of : (word : List ℕ) → is_decimal word ≡ true → Digits word
digits_of word e = and_right (nat_lt 0 (length word)) _ (and_left _ _ e)

-- a number that doesn't fit 64 bits is over each limit that does
pub number_over : {E : Type 0} (least most : ℕ) (word : List ℕ) (r : Result ℕ E) (err : E) → is_decimal word ≡ true → ParsesUnsigned 64 10 word r → r ≡ Err err
    → most < 2 ^ 64 → None ≡ number_within least most word
unfolding number_within
number_over {E} least most word r err e h is small =
    let v : ℕ = digits_value 10 word in
    let fits : Type 0 = (0 < length word) × (v < 2 ^ 64) in
    let some : 0 < length word = ltb-true _ _ (and_left (nat_lt 0 (length word)) _ (and_left _ _ e)) in
    let over : fits → ⊥ = subst (λ (x : Result ℕ E). OkIff x fits v) is (parse_digits own 64 word r h (digits_of word e)) in
    let out : nat_le v most ≡ false =
    elim (nat_le v most) as (λ t. nat_le v most ≡ t → t ≡ false) [
      | true ↦ λ f. let low : v ≤ most = leb-true _ _ f in absurd (over (some, omega arith))
      | false ↦ λ f. refl
    ] refl in
    sym (
    ap (λ t. if t then Some v else None) (ap (λ t. is_decimal word && t) (ap (λ t. nat_le least v && t) out ∙ and_false _) ∙ and_false _)
    )
