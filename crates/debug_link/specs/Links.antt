-- The debug link, the contents of `.gnu_debuglink` (GNU debugging information in separate files): the name of the debug file, a NUL,
-- zeros up to a multiple of 4, and the CRC-32 of the debug file in 4 bytes, in the byte order of the file.
use Rattle.std.specs.Prelude.{Bool, true, ◌≡◌, ℕ, ◌+◌, ◌&&◌, nat_le, List, [], ◌∷◌, ◌++◌, length, replicate}
use Rattle.dw_base.specs.Layout.{padding}
use Rattle.dw_base.specs.Numbers.{number_bytes, spelled}
use Rattle.dw_base.specs.Texts.{text, has_nul}
use Rattle.dw_base.specs.declared.shared.Order.{Order}

-- the bytes up to a multiple of 4, by zeros
abbrev pub padded : List ℕ → List ℕ
padded bytes = bytes ++ replicate (padding (length bytes) 4) 0

-- the link to a file of that name and sum
unfoldable pub link_of : Order → List ℕ → ℕ → List ℕ
link_of order name sum = padded (name ++ 0 ∷ []) ++ number_bytes order 4 sum

-- where the sum stands: at the first multiple of 4 behind the name and its NUL
abbrev pub sum_place : List ℕ → ℕ
sum_place bytes = length (text bytes) + 1 + padding (length (text bytes) + 1) 4

-- the bytes hold a link: a NUL ends a name, and the sum fits behind it
unfoldable pub holds_link : List ℕ → Bool
holds_link bytes = has_nul bytes && nat_le (sum_place bytes + 4) (length bytes)

-- the bytes hold a link to a file of this name and this sum
pub record IsLink (order : Order) (bytes name : List ℕ) (sum : ℕ) : Type 0 where
  pub holds : holds_link bytes ≡ true
  pub name_is : name ≡ text bytes
  pub sum_is : sum ≡ spelled order bytes (sum_place bytes) 4
