-- LEB128 numbers (DWARF 5, 7.6) and initial lengths (DWARF 5, 7.4).
use Rattle.std.specs.Prelude.{Bool, ℕ, ℤ, pos, negsuc, ◌+◌, ◌*◌, ◌%◌, ◌^◌, ◌<◌, ◌≤◌, ◌+ℤ◌, ◌-ℤ◌, ◌*ℤ◌, ◌==◌, nat_lt, if◌then◌else◌, List, [], ◌∷◌, length, drop, slice_index, Option, Some, None}
use Rattle.dw_base.specs.Numbers.{number_at}
use Rattle.dw_base.specs.declared.shared.Order.{Order}
use Rattle.dw_base.specs.declared.shared.Width.{Width}
use Rattle.dw_base.specs.declared.shared.Width.TheVariants.{W32, W64}

-- one more byte in front of an unsigned number: its low seven bits are the lowest of the value
abbrev pub uleb_more : ℕ → Option (ℕ × ℕ) → Option (ℕ × ℕ)
uleb_more b None = None
uleb_more b (Some (value, size)) = Some (b % 128 + 128 * value, size + 1)

-- the unsigned number at the front: value and length, up to the first byte below 128
abbrev pub uleb : List ℕ → Option (ℕ × ℕ)
uleb [] = None
uleb (b ∷ bs) = if nat_lt b 128 then Some (b, 1) else uleb_more b (uleb bs)

-- the same where the value fits 64 bits
abbrev pub uleb_within : Option (ℕ × ℕ) → Option (ℕ × ℕ)
uleb_within None = None
uleb_within (Some (value, size)) = if nat_lt value (2 ^ 64) then Some (value, size) else None

-- the unsigned number at a place: value and length, where the value fits 64 bits
unfoldable pub uleb_at : List ℕ → ℕ → Option (ℕ × ℕ)
uleb_at bytes at = uleb_within (uleb (drop at bytes))

-- the value of the last byte of a signed number: bit 6 is the sign
abbrev pub sleb_last : ℕ → ℤ
sleb_last b = if nat_lt b 64 then pos b else pos b -ℤ pos 128

-- one more byte in front of a signed number: its low seven bits are the lowest of the value
abbrev pub sleb_more : ℕ → Option (ℤ × ℕ) → Option (ℤ × ℕ)
sleb_more b None = None
sleb_more b (Some (value, size)) = Some (pos (b % 128) +ℤ pos 128 *ℤ value, size + 1)

-- the signed number at the front: value and length, up to the first byte below 128
abbrev pub sleb : List ℕ → Option (ℤ × ℕ)
sleb [] = None
sleb (b ∷ bs) = if nat_lt b 128 then Some (sleb_last b, 1) else sleb_more b (sleb bs)

-- a signed value fits 64 bits
abbrev pub fits_i64 : ℤ → Bool
fits_i64 (pos n) = nat_lt n (2 ^ 63)
fits_i64 (negsuc n) = nat_lt n (2 ^ 63)

-- the same where the value fits 64 bits
abbrev pub sleb_within : Option (ℤ × ℕ) → Option (ℤ × ℕ)
sleb_within None = None
sleb_within (Some (value, size)) = if fits_i64 value then Some (value, size) else None

-- the signed number at a place: value and length, where the value fits 64 bits
unfoldable pub sleb_at : List ℕ → ℕ → Option (ℤ × ℕ)
sleb_at bytes at = sleb_within (sleb (drop at bytes))

-- byte n is the last of the number at the front: the first below 128
pub record IsLast (bytes : List ℕ) (n : ℕ) : Type 0 where
  pub inside : n < length bytes
  pub low : slice_index bytes n < 128
  pub others : (k : ℕ) → k < n → 128 ≤ slice_index bytes k

-- no number ends in the bytes: none is below 128
pub record HasNoLast (bytes : List ℕ) : Type 0 where
  pub all : (k : ℕ) → k < length bytes → 128 ≤ slice_index bytes k

-- a value that was read, with its length: it has a byte at least, and lies within so many bytes
pub record IsSized {V : Type 0} (len : ℕ) (read : V × ℕ) : Type 0 where
  pub some : 0 < read.1
  pub within : read.1 ≤ len

-- the first word of 4 bytes that is no length (DWARF 5, 7.4)
abbrev pub first_reserved : ℕ
first_reserved = 0xffff_fff0

-- the length and its width, of the first word of 4 bytes and of the 8 bytes behind it: a word from
-- 0xfffffff0 to 0xfffffffe is reserved, and 0xffffffff says that the length has 8 bytes
abbrev pub long_length : Option ℕ → Option (Width × ℕ × ℕ)
long_length None = None
long_length (Some n) = Some (W64, n, 12)

abbrev pub initial_length : Option ℕ → Option ℕ → Option (Width × ℕ × ℕ)
initial_length None behind = None
initial_length (Some word) behind =
    if nat_lt word first_reserved then Some (W32, word, 4)
    else (if word == 0xffff_ffff then long_length behind else None)

-- the initial length at a place: width, length, and the size of the field
unfoldable pub initial_length_at : Order → List ℕ → ℕ → Option (Width × ℕ × ℕ)
initial_length_at order bytes at = initial_length (number_at order bytes at 4) (number_at order bytes (at + 4) 8)
