-- Vectors of bytes as lists.
use Rattle.std.specs.Prelude.{ℕ, List}
use Rattle.std.specs.Global.{Vec}

-- the bytes of a vector
abbrev pub bytes_of : Vec ℕ → List ℕ
bytes_of v = v.items
