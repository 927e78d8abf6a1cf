-- Laws of values at a place: their sizes, and that they lie within the bytes.
use Rattle.std.proofs.Common.{◌≡◌, ℕ, ℤ, ◌+◌, ◌≤◌, Bool, true, false, if◌then◌else◌, nat_le, List, length, drop, Option, Some, None, refl, ap, ◌∙◌, arith}
use Rattle.std.proofs.lemmas.List.{length-drop}
use Rattle.dw_base.specs.Lebs.{uleb_at, sleb_at}
use Rattle.dw_base.specs.Numbers.{number_at, spelled}
use Rattle.dw_base.specs.Texts.{text_in, ends_in}
use Rattle.dw_base.specs.Values.{bare_value, leb_value_at, number_value, signed_value_at, value_size}
use Rattle.dw_base.proofs.TextLaws.{length-text}
use Rattle.dw_base.specs.declared.shared.Order.{Order}
use Rattle.dw_base.specs.declared.values.ValueClass.{ValueClass}
use Rattle.dw_forms.specs.Reads.{read_length, room_size}

-- a text ends within the bytes
pub text-within : (bytes : List ℕ) (at : ℕ) → ends_in bytes at ≡ true → at + (length (text_in bytes at) + 1) ≤ length bytes
unfolding ends_in text_in
text-within bytes at e = let shorter = length-text (drop at bytes) e in omega (arith, length-drop at bytes)

-- the size of a number
number-cases : (class : ValueClass) (at n x : ℕ) (test : Bool) → value_size (number_value class at n (if test then Some x else None)) ≡ (if test then Some n else None)
number-cases class at n x true = refl
number-cases class at n x false = refl

pub number-size : (class : ValueClass) (order : Order) (bytes : List ℕ) (at n : ℕ) → value_size (number_value class at n (number_at order bytes at n)) ≡ room_size bytes at n
unfolding number_at
number-size class order bytes at n = number-cases class at n (spelled order bytes at n) (nat_le (at + n) (length bytes))

leb-cases : (class : ValueClass) (at : ℕ) (read : Option (ℕ × ℕ)) → value_size (leb_value_at class at read) ≡ read_length read
leb-cases class at None = refl
leb-cases class at (Some n) = refl

pub leb-size : (class : ValueClass) (bytes : List ℕ) (at : ℕ) → value_size (leb_value_at class at (uleb_at bytes at)) ≡ read_length (uleb_at bytes at)
leb-size class bytes at = leb-cases class at (uleb_at bytes at)

signed-cases : (at : ℕ) (read : Option (ℤ × ℕ)) → value_size (signed_value_at at read) ≡ read_length read
signed-cases at None = refl
signed-cases at (Some n) = refl

pub signed-size : (bytes : List ℕ) (at : ℕ) → value_size (signed_value_at at (sleb_at bytes at)) ≡ read_length (sleb_at bytes at)
signed-size bytes at = signed-cases at (sleb_at bytes at)

bare-cases : (bytes : List ℕ) (at : ℕ) (class : ValueClass) (n : ℕ) → value_size (bare_value bytes at class n) ≡ (if nat_le at (length bytes) then Some 0 else None)
bare-cases bytes at class n = by_test (nat_le at (length bytes))
  where
    by_test : (test : Bool) → value_size (if test then Some (record { class = class; number = n; at = at; len = 0; size = 0 }) else None) ≡ (if test then Some 0 else None)
    by_test true = refl
    by_test false = refl

pub bare-size : (bytes : List ℕ) (at : ℕ) (class : ValueClass) (n : ℕ) → value_size (bare_value bytes at class n) ≡ room_size bytes at 0
bare-size bytes at class n = bare-cases bytes at class n ∙ ap (λ (k : ℕ). if nat_le k (length bytes) then Some 0 else None) (omega arith)

pub ruleset size_laws = (number-size, leb-size, signed-size, bare-size)

pub ruleset text_laws = (text-within)
