-- Joined and cleaned paths: a name in a directory, and a path without the components that lead nowhere
-- (DWARF 5, 3.1.1 and 6.2.4: a relative name is taken from its directory). This project's profile: paths are
-- cleaned by their words alone, without a look at links.
use Rattle.std.specs.Prelude.{Bool, false, ℕ, ◌||◌, ◌&&◌, not, nat_eq, if◌then◌else◌, List, [], ◌∷◌, ◌++◌, length, drop, reverse}
use Rattle.std.specs.List.{starts_with, join_with_byte}
use Rattle.dw_base.specs.Paths.{slash}
use Rattle.dw_paths.specs.Components.{components, is_idle, is_parent}

-- the path begins with a slash
abbrev pub is_rooted : List ℕ → Bool
is_rooted path = starts_with nat_eq path (slash ∷ [])

-- the join of a directory and a name: the name where it begins with a slash or the directory is empty,
-- else both with a slash between them
unfoldable pub joined_path : List ℕ → List ℕ → List ℕ
joined_path dir name = if is_rooted name || nat_eq (length dir) 0 then name else dir ++ slash ∷ name

-- the component before the next one, of those that are left, is there and isn't a `..` that stayed; they
-- stand last first
abbrev pub ends_in_name : List (List ℕ) → Bool
ends_in_name [] = false
ends_in_name (part ∷ before) = not (is_parent part)

-- what is left with one component more: an empty one and `.` go; `..` takes away the component before it;
-- where there is none, or only a `..` that stayed, it goes in a path that begins with a slash, and stays in
-- any other
abbrev pub left_with : Bool → List (List ℕ) → List ℕ → List (List ℕ)
left_with rooted left part =
    if is_idle part then left
    else if is_parent part && ends_in_name left then drop 1 left
    else if is_parent part && rooted then left
    else part ∷ left

-- what is left of components that stand last first, last first
abbrev pub left_of : Bool → List (List ℕ) → List (List ℕ)
left_of rooted [] = []
left_of rooted (part ∷ before) = left_with rooted (left_of rooted before) part

-- the components that are left of a path, in their order
abbrev pub left_components : List ℕ → List (List ℕ)
left_components path = reverse (left_of (is_rooted path) (reverse (components path)))

-- each component behind a slash
abbrev pub slashed : List (List ℕ) → List ℕ
slashed [] = []
slashed (part ∷ parts) = slash ∷ part ++ slashed parts

-- the slash that a path begins with
abbrev pub root : Bool → List ℕ
root rooted = if rooted then slash ∷ [] else []

-- the cleaned path: a slash where the path begins with one, and then the components that are left, with
-- slashes between them
unfoldable pub cleaned_path : List ℕ → List ℕ
cleaned_path path = root (is_rooted path) ++ join_with_byte slash (left_components path)
