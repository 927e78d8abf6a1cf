-- The prefix map: pairs of a base and a destination, which of them counts for a path, and what becomes of the
-- path. This project's profile: a path lies under a base where it is the base, or where a slash follows the base in it; of the
-- pairs under whose base it lies the one with the longest base counts.
use Rattle.std.specs.Prelude.{Bool, ◌≡◌, ℕ, ◌==◌, ◌&&◌, ◌||◌, not, nat_le, nat_lt, nat_eq, if◌then◌else◌, List, [], ◌∷◌, ◌++◌, length, drop, slice_index, IsTrue, Option, Some, None, false, ◌<◌, ◌≤◌}
use Rattle.std.specs.List.{starts_with}
use Rattle.dw_base.specs.Texts.{has_nul, same_text}

-- the byte of `/`
abbrev pub slash : ℕ
slash = 47

-- the longest base or destination, in bytes
abbrev pub prefix_limit : ℕ
prefix_limit = 4096

-- a base that is looked for, and the destination that takes its place
pub record MapPair : Type 0 where
  pub base : List ℕ
  pub dest : List ℕ

-- a prefix map: its pairs, in the order in which they were added
pub record PathMap : Type 0 where
  pub pairs : List MapPair

-- the most pairs of a map
abbrev pub most_pairs : ℕ
most_pairs = 64

-- a byte in front of what is left after a cut: a slash goes where nothing is left behind it
abbrev pub kept_front : ℕ → List ℕ → List ℕ
kept_front b [] = if b == slash then [] else b ∷ []
kept_front b (c ∷ cs) = b ∷ c ∷ cs

-- the bytes without the slashes at their end
abbrev pub without_end_slashes : List ℕ → List ℕ
without_end_slashes [] = []
without_end_slashes (b ∷ bs) = kept_front b (without_end_slashes bs)

-- a word that may be a base or a destination: it begins with a slash, it has no NUL, and without the
-- slashes at its end it isn't empty and within the limit
unfoldable pub is_prefix : List ℕ → Bool
is_prefix word =
    starts_with nat_eq word (slash ∷ []) && not (has_nul word)
    && nat_lt 0 (length (without_end_slashes word)) && nat_le (length (without_end_slashes word)) prefix_limit

-- the pair of two words: slashes at their ends are cut off
abbrev pub pair_of : List ℕ → List ℕ → MapPair
pair_of base dest = record { base = without_end_slashes base; dest = without_end_slashes dest }

-- the map of two words, and a map with the pair of two words more
unfoldable pub path_map : List ℕ → List ℕ → PathMap
path_map base dest = record { pairs = pair_of base dest ∷ [] }

unfoldable pub with_pair : PathMap → List ℕ → List ℕ → PathMap
with_pair m base dest = record { pairs = m.pairs ++ pair_of base dest ∷ [] }

-- a pair has the base
abbrev pub has_base : List MapPair → List ℕ → Bool
has_base [] base = false
has_base (p ∷ ps) base = same_text p.base base || has_base ps base

-- the pair of two words may be added: both words may be base and destination, the base isn't there yet, and there is room
unfoldable pub may_add : PathMap → List ℕ → List ℕ → Bool
may_add m base dest =
    is_prefix base && is_prefix dest && not (has_base m.pairs (without_end_slashes base)) && nat_lt (length m.pairs) most_pairs

-- base and destination are as two words leave them
pub record IsMapPair (p : MapPair) : Type 0 where
  pub base : IsTrue (is_prefix p.base)
  pub dest : IsTrue (is_prefix p.dest)
  pub base_cut : without_end_slashes p.base ≡ p.base
  pub dest_cut : without_end_slashes p.dest ≡ p.dest

-- each pair of a list is so
abbrev pub EachPair : (MapPair → Type 0) → List MapPair → Type 0
EachPair P [] = Unit {0}
EachPair P (p ∷ ps) = P p × EachPair P ps

-- no base stands twice
abbrev pub AreApart : List MapPair → Type 0
AreApart [] = Unit {0}
AreApart (p ∷ ps) = (has_base ps p.base ≡ false) × AreApart ps

-- 1 to 64 pairs of which no two have one base
pub record IsPathMap (m : PathMap) : Type 0 where
  pub some : 0 < length m.pairs
  pub most : length m.pairs ≤ most_pairs
  pub each : EachPair IsMapPair m.pairs
  pub apart : AreApart m.pairs

-- the text is the base, or begins with the base and a slash
unfoldable pub lies_under : List ℕ → List ℕ → Bool
lies_under base t = starts_with nat_eq t base && (length t == length base || slice_index t (length base) == slash)

-- of a pair and another, the one with the longer base
abbrev pub longer : MapPair → Option MapPair → Option MapPair
longer p None = Some p
longer p (Some q) = if nat_lt (length p.base) (length q.base) then Some q else Some p

-- the pair that counts for a text: of those under whose base it lies the one with the longest
unfoldable pub matching : List MapPair → List ℕ → Option MapPair
matching [] t = None
matching (p ∷ ps) t = if lies_under p.base t then longer p (matching ps t) else matching ps t

-- the mapped path: the destination that counts and what follows its base; else the text
abbrev pub mapped_by : Option MapPair → List ℕ → List ℕ
mapped_by None t = t
mapped_by (Some p) t = p.dest ++ drop (length p.base) t

unfoldable pub mapped_path : PathMap → List ℕ → List ℕ
mapped_path m t = mapped_by (matching m.pairs t) t

-- a map that changes no path
pub record ChangesNone (m : PathMap) : Type 0 where
  pub stays : (t : List ℕ) → mapped_path m t ≡ t

-- the pair that was added first
abbrev pub first_of : List MapPair → MapPair
first_of [] = record { base = []; dest = [] }
first_of (p ∷ ps) = p

abbrev pub first_pair : PathMap → MapPair
first_pair m = first_of m.pairs
