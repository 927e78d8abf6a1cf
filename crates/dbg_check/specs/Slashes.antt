-- The room of a path that stands in its value and is shorter when it is mapped: slashes (this project's profile).
use Rattle.std.specs.Prelude.{Bool, true, false, ℕ, ◌==◌, if◌then◌else◌, List, [], ◌∷◌}
use Rattle.dw_base.specs.Paths.{slash}

-- bytes are slashes
abbrev pub only_slashes : List ℕ → Bool
only_slashes [] = true
only_slashes (b ∷ bs) = if b == slash then only_slashes bs else false
