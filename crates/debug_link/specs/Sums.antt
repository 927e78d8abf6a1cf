-- CRC-32 (ISO 3309 and ITU-T V.42, 8.1.1.6.2): the bits of some bytes, each byte's lowest first, as a polynomial over the field of
-- two elements, divided by a fixed one. A remainder has 32 terms; that of x ^ 31 stands in the lowest bit.
use Rattle.std.specs.Prelude.{ℕ, zero, suc, ◌-◌, ◌/◌, ◌%◌, ◌^◌, ◌==◌, if◌then◌else◌, List, [], ◌∷◌, bit_xor}
use Rattle.std.specs.Int.{w32, bit_not}

-- the divisor without its term x ^ 32: x ^ 26 + x ^ 23 + x ^ 22 + x ^ 16 + x ^ 12 + x ^ 11 + x ^ 10 + x ^ 8 + x ^ 7 + x ^ 5 + x ^ 4 +
-- x ^ 2 + x + 1
abbrev pub divisor : ℕ
divisor = 0xEDB88320

-- a remainder times x, less the divisor where that has the term x ^ 32
abbrev pub times_x : ℕ → ℕ
times_x r = if r % 2 == 1 then bit_xor (r / 2) divisor else r / 2

-- the remainder with so many bits of a byte more, the lowest first
abbrev pub with_bits : ℕ → ℕ → ℕ → ℕ
with_bits zero byte r = r
with_bits (suc n) byte r = with_bits n (byte / 2) (times_x (bit_xor r (byte % 2)))

-- the remainder with the bytes more
abbrev pub with_bytes : List ℕ → ℕ → ℕ
with_bytes [] r = r
with_bytes (byte ∷ bytes) r = with_bytes bytes (with_bits 8 byte r)

-- the sum of some bytes: the division begins with a remainder of ones, and the remainder's complement is the sum
unfoldable pub crc32 : List ℕ → ℕ
crc32 bytes = bit_not w32 (with_bytes bytes (2 ^ 32 - 1))
