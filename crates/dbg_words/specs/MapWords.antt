-- The value of `--more-maps`: pairs of a base and a destination, and the map that they make with the pair of `--base-dir` and
-- `--dest-dir`. This project's profile.
use Rattle.std.specs.Prelude.{◌==◌, if◌then◌else◌, ℕ, List, [], ◌∷◌, Option, Some, None, option_and_then}
use Rattle.std.specs.List.{slice_split}
use Rattle.dw_base.specs.Paths.{PathMap, may_add, with_pair}
use Rattle.dbg_words.specs.CommandLines.{equals_sign}

-- the byte of `:`
abbrev pub colon : ℕ
colon = 58

-- the items of a value, with a colon between each two
abbrev pub items_of : List ℕ → List (List ℕ)
items_of word = slice_split (λ b. b == colon) word

-- what stands between the equals signs of an item
abbrev pub sides_of : List ℕ → List (List ℕ)
sides_of item = slice_split (λ b. b == equals_sign) item

-- a map with the pair of two sides, where there are just two, and their pair may be added
abbrev pub with_sides : PathMap → List (List ℕ) → Option PathMap
with_sides m (base ∷ dest ∷ []) = if may_add m base dest then Some (with_pair m base dest) else None
with_sides m sides = None

-- with the pair of an item
abbrev pub with_item : List ℕ → PathMap → Option PathMap
with_item item m = with_sides m (sides_of item)

-- with the pair of each item
abbrev pub with_items : List (List ℕ) → PathMap → Option PathMap
with_items [] m = Some m
with_items (item ∷ items) m = option_and_then (with_items items) (with_item item m)

-- with those of a value, where it is given
abbrev pub with_more : Option (List ℕ) → PathMap → Option PathMap
with_more None m = Some m
with_more (Some word) m = with_items (items_of word) m
