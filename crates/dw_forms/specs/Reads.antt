-- The sizes of values by themselves, over the bytes up to the end of their unit.
use Rattle.std.specs.Prelude.{ℕ, ◌+◌, if◌then◌else◌, List, length, Option, Some, None, nat_le}

-- so many bytes at a place; none where they pass the end
abbrev pub room_size : List ℕ → ℕ → ℕ → Option ℕ
room_size bytes at n = if nat_le (at + n) (length bytes) then Some n else None

-- the length of a number that was read
abbrev pub read_length : {N : Type 0} → Option (N × ℕ) → Option ℕ
read_length None = None
read_length (Some n) = Some n.1
