-- The longest front that a path begins with, found front by front. This project's profile.
use Rattle.std.specs.Prelude.{ℕ, nat_eq, if◌then◌else◌, List, length, Option, Some, None}
use Rattle.std.specs.List.{starts_with}
use Rattle.dw_sources.specs.KeptNames.{greater}

-- of two numbers that may be there the greater
abbrev pub greatest : Option ℕ → Option ℕ → Option ℕ
greatest None o = o
greatest (Some n) o = greater n o

-- how long the longest front is, with one front more behind those that were looked at
abbrev pub length_with : Option ℕ → List ℕ → List ℕ → Option ℕ
length_with found front path = if starts_with nat_eq path front then greatest found (Some (length front)) else found
