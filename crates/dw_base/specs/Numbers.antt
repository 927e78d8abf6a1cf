-- Numbers in a file, in its byte order (gABI ch. 4 "Data Representation"). A list of bytes is a list of numbers below 256.
use Rattle.std.specs.Prelude.{ℕ, ◌+◌, ◌<◌, ◌≤◌, ◌^◌, List, ◌++◌, length, take, drop, nat_le, if◌then◌else◌, Option, Some, None}
use Rattle.byteorder.specs.Endian.{little_number, big_number, little_bytes, big_bytes}
use Rattle.dw_base.specs.declared.shared.Order.{Order}
use Rattle.dw_base.specs.declared.shared.Order.TheVariants.{Little, Big}

-- the number that the first n bytes spell
abbrev pub number_of : Order → ℕ → List ℕ → ℕ
number_of Little n bytes = little_number n bytes
number_of Big n bytes = big_number n bytes

-- the n bytes that spell a number
abbrev pub number_bytes : Order → ℕ → ℕ → List ℕ
number_bytes Little n x = little_bytes n x
number_bytes Big n x = big_bytes n x

-- the number that the n bytes from `at` spell; bytes past the end count as zeros, so each use says that they are there
unfoldable pub spelled : Order → List ℕ → ℕ → ℕ → ℕ
spelled order bytes at n = number_of order n (drop at bytes)

-- the number at a place: none where the n bytes from there pass the end
unfoldable pub number_at : Order → List ℕ → ℕ → ℕ → Option ℕ
number_at order bytes at n = if nat_le (at + n) (length bytes) then Some (spelled order bytes at n) else None

-- the bytes with the n from `at` replaced by those that spell x
unfoldable pub with_number : Order → List ℕ → ℕ → ℕ → ℕ → List ℕ
with_number order bytes at n x = take at bytes ++ number_bytes order n x ++ drop (at + n) bytes

-- a number of n bytes can be put at the place: the bytes are there, and the number fits
pub record NumberFits (bytes : List ℕ) (at n x : ℕ) : Type 0 where
  pub inside : at + n ≤ length bytes
  pub fits : x < 256 ^ n
