-- Tables of records of one size (gABI ch. 4 "Symbol Table", "Relocation"): record k stands behind the k in front of it.
use Rattle.std.specs.Prelude.{Bool, ℕ, ◌+◌, ◌*◌, nat_le, List, length}

-- the whole record of this number stands in the table
abbrev pub has_record : List ℕ → ℕ → ℕ → Bool
has_record table index size = nat_le (index * size + size) (length table)
