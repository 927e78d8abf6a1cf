-- The table by which sixteen bytes are divided at once: a remainder is the sum of those of its bytes.
use Rattle.std.specs.Prelude.{◌≡◌, ℕ, zero, suc, ◌+◌, ◌*◌, ◌/◌, ◌%◌, ◌<◌, List, [], ◌∷◌, slice_index}
use Rattle.debug_link.specs.Sums.{times_x}

-- a remainder times x, so many times
abbrev pub times : ℕ → ℕ → ℕ
times zero r = r
times (suc n) r = times n (times_x r)

-- the entry of a byte and a number of bytes behind it: 256 entries for no byte behind it, then 256 for one, and so on
abbrev pub entry : ℕ → ℕ
entry i = times (8 * (i / 256 + 1)) (i % 256)

-- the number that some bytes spell, the lowest first
abbrev pub little : List ℕ → ℕ
little [] = 0
little (b ∷ bs) = little bs * 256 + b

-- a table whose first n entries stand
pub record IsTable (n : ℕ) (table : List ℕ) : Type 0 where
  pub entries : (i : ℕ) → i < n → slice_index table i ≡ entry i
