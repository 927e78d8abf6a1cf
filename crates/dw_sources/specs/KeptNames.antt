-- The names of sources: of cleaned paths those below a base of a prefix map, with the longest such base cut off, in byte order and each
-- once. This project's profile.
use Rattle.std.specs.Prelude.{◌≡◌, Bool, false, ℕ, nat_eq, nat_lt, if◌then◌else◌, List, [], ◌∷◌, ◌++◌, length, drop, map, Option, Some, None}
use Rattle.std.specs.Cmp.Lexicographic.{slice_cmp}
use Rattle.std.specs.Global.{Vec}
use Rattle.std.specs.List.{AllByRecursion, starts_with}
use Rattle.std.specs.Ordering.{nat_cmp}
use Rattle.std.specs.Str.{bytes_eq}
use Rattle.std.specs.declared.cmp.Ordering.{Ordering}
use Rattle.std.specs.declared.cmp.Ordering.TheVariants.{Less, Equal, Greater}
use Rattle.dw_base.specs.Paths.{PathMap, slash}
use Rattle.dw_base.specs.Texts.{has_nul}
use Rattle.dw_paths.specs.CleanPaths.{cleaned_path}

-- the bytes of a vector
abbrev pub bytes_of : Vec ℕ → List ℕ
bytes_of v = v.items

-- what the paths below a base begin with: the cleaned base and a slash
abbrev pub front_of : List ℕ → List ℕ
front_of base = cleaned_path base ++ slash ∷ []

-- the same of each pair of a prefix map
abbrev pub fronts_of : PathMap → List (List ℕ)
fronts_of m = map (λ p. front_of p.base) m.pairs

-- the greater of a number and another that may be there
abbrev pub greater : ℕ → Option ℕ → Option ℕ
greater n None = Some n
greater n (Some k) = if nat_lt n k then Some k else Some n

-- how long the longest front is that a path begins with; none where it begins with none
abbrev pub front_len : List (List ℕ) → List ℕ → Option ℕ
front_len [] path = None
front_len (front ∷ fronts) path = if starts_with nat_eq path front then greater (length front) (front_len fronts path) else front_len fronts path

-- a path without so many bytes
abbrev pub behind_front : List ℕ → Option ℕ → Option (List ℕ)
behind_front path None = None
behind_front path (Some n) = Some (drop n path)

-- the name that is kept of a path: the cleaned path without the longest front that it begins with
unfoldable pub kept_name : List (List ℕ) → List ℕ → Option (List ℕ)
kept_name fronts path = behind_front (cleaned_path path) (front_len fronts (cleaned_path path))

-- a name at its place among names in byte order, where it doesn't stand yet
abbrev pub placed_by : Ordering → List ℕ → List ℕ → List (List ℕ) → List (List ℕ) → List (List ℕ)
placed_by Less name first others rest = name ∷ first ∷ others
placed_by Equal name first others rest = first ∷ others
placed_by Greater name first others rest = first ∷ rest

abbrev pub with_name : List (List ℕ) → List ℕ → List (List ℕ)
with_name [] name = name ∷ []
with_name (x ∷ xs) name = placed_by (slice_cmp nat_cmp name x) name x xs (with_name xs name)

-- with names, one after another
abbrev pub with_names : List (List ℕ) → List (List ℕ) → List (List ℕ)
with_names names [] = names
with_names names (x ∷ xs) = with_names (with_name names x) xs

-- two vectors have the same bytes
abbrev pub same_bytes : Vec ℕ → Vec ℕ → Bool
same_bytes x y = bytes_eq x.items y.items

-- the names of vectors, in byte order and each once
abbrev pub names_of : List (Vec ℕ) → List (List ℕ)
names_of keys = with_names [] (map bytes_of keys)

-- with the name that is kept of a path, where one is
abbrev pub with_kept : List (List ℕ) → Option (List ℕ) → List (List ℕ)
with_kept names None = names
with_kept names (Some name) = with_name names name

-- with the names that are kept of paths
abbrev pub with_paths : List (List ℕ) → List (List ℕ) → List (List ℕ) → List (List ℕ)
with_paths fronts names [] = names
with_paths fronts names (p ∷ ps) = with_paths fronts (with_kept names (kept_name fronts p)) ps

-- no name has a NUL
abbrev pub HaveNoNul : List (List ℕ) → Type 0
HaveNoNul names = AllByRecursion (λ name. has_nul name ≡ false) names
