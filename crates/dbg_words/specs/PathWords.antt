-- Words that name paths: their components and their cleaned forms. This project's profile.
use Rattle.std.specs.Prelude.{Bool, ℕ, ◌==◌, ◌&&◌, ◌||◌, not, nat_le, nat_eq, if◌then◌else◌, List, [], ◌∷◌, length, filter, codes, Option, Some, None}
use Rattle.std.specs.List.{starts_with, list_any, slice_split, join_with_byte}
use Rattle.dw_base.specs.Paths.{slash}
use Rattle.dw_base.specs.Texts.{same_text}

-- the longest cleaned path, in bytes
abbrev pub path_word_limit : ℕ
path_word_limit = 4000

-- the components of a word: what stands between its slashes
abbrev pub components : List ℕ → List (List ℕ)
components word = slice_split (λ b. b == slash) word

-- a component that cleaning keeps: it isn't empty, and isn't `.`
abbrev pub is_kept : List ℕ → Bool
is_kept part = not (same_text part [] || same_text part (codes "."))

-- the components that cleaning keeps
abbrev pub kept_components : List ℕ → List (List ℕ)
kept_components word = filter is_kept (components word)

-- the word begins with a slash
abbrev pub is_rooted : List ℕ → Bool
is_rooted word = starts_with nat_eq word (slash ∷ [])

-- the cleaned form: repeated slashes, `.` components and a slash at the end go
unfoldable pub cleaned : List ℕ → List ℕ
cleaned word =
    if is_rooted word
    then slash ∷ join_with_byte slash (kept_components word)
    else join_with_byte slash (kept_components word)

-- the component that leads to the folder above
abbrev pub is_parent : List ℕ → Bool
is_parent part = same_text part (codes "..")

-- a word that names a path: something is left of it, no component of it is `..`, and its cleaned form is within the limit
unfoldable pub is_path_word : List ℕ → Bool
is_path_word word =
    not (list_any is_parent (components word))
    && not (nat_eq (length (kept_components word)) 0)
    && nat_le (length (cleaned word)) path_word_limit

-- the path that a word names, if it names one
abbrev pub path_named : List ℕ → Option (List ℕ)
path_named word = if is_path_word word then Some (cleaned word) else None
