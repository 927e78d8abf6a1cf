-- Numbers in words: decimal digits without a leading zero. This project's profile.
use Rattle.std.specs.Prelude.{Bool, ℕ, ◌==◌, ◌&&◌, not, nat_le, nat_lt, if◌then◌else◌, List, length, slice_index, Option, Some, None}
use Rattle.std.specs.Char.{is_ascii_digit}
use Rattle.std.specs.List.{list_all}
use Rattle.std.specs.Str.Parse.{digits_value}

-- the byte of `0`
abbrev pub zero_digit : ℕ
zero_digit = 48

-- the word is a number: one digit or more, and no zero with something behind it
abbrev pub is_decimal : List ℕ → Bool
is_decimal word =
    (nat_lt 0 (length word) && list_all is_ascii_digit word) && not (nat_lt 1 (length word) && slice_index word 0 == zero_digit)

-- the number that a word writes, where it writes one from `least` to `most`
unfoldable pub number_within : ℕ → ℕ → List ℕ → Option ℕ
number_within least most word =
    if is_decimal word && (nat_le least (digits_value 10 word) && nat_le (digits_value 10 word) most)
    then Some (digits_value 10 word)
    else None
