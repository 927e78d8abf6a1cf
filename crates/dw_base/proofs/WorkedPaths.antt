-- Worked paths: a base below another, a base that is another's destination, and a pair whose sides are one.
use Rattle.std.proofs.Common.{◌≡◌, [], ◌∷◌, refl}
use Rattle.std.specs.Prelude.{codes}
use Rattle.dw_base.specs.InlinePaths.{mapped_inline}
use Rattle.dw_base.specs.Paths.{PathMap, lies_under, mapped_path, matching, path_map, with_pair}

abbrev nested : PathMap
nested = record {
  pairs =
      record { base = codes "/build/p"; dest = codes "/usr/src/debug/p" } ∷ record { base = codes "/build/p/gen"; dest = codes "/usr/src/gen" } ∷ [];
}

abbrev chained : PathMap
chained = record { pairs = record { base = codes "/a"; dest = codes "/b" } ∷ record { base = codes "/b"; dest = codes "/c" } ∷ [] }

abbrev shielded : PathMap
shielded = record { pairs = record { base = codes "/a"; dest = codes "/x" } ∷ record { base = codes "/a/p"; dest = codes "/a/p" } ∷ [] }

abbrev shorter : PathMap
shorter = record { pairs = record { base = codes "/build/p"; dest = codes "/d" } ∷ record { base = codes "/build/p/gen"; dest = codes "/gen" } ∷ [] }

-- the longest base counts
pub longest_counts : mapped_path nested (codes "/build/p/gen/x.c") ≡ codes "/usr/src/gen/x.c"
unfolding mapped_path matching lies_under
longest_counts = refl

-- of those that a slash or the path's end follows
pub slash_asked : mapped_path nested (codes "/build/p/general/x.c") ≡ codes "/usr/src/debug/p/general/x.c"
unfolding mapped_path matching lies_under
slash_asked = refl

-- one pair is applied, once
pub applied_once : mapped_path chained (codes "/a/x") ≡ codes "/b/x"
unfolding mapped_path matching lies_under
applied_once = refl

-- a pair whose sides are one keeps what lies under its base
pub kept_by_its_pair : mapped_path shielded (codes "/a/p/x.c") ≡ codes "/a/p/x.c"
unfolding mapped_path matching lies_under
kept_by_its_pair = refl

-- the slashes of an inline path stand behind the destination that counts
pub padded_behind_its_destination : mapped_inline shorter (codes "/build/p/gen/x.c") ≡ codes "/gen/////////x.c"
unfolding mapped_inline matching lies_under
padded_behind_its_destination = refl

-- words are cut before they are paired, and a second pair stands behind the first
pub words_cut : with_pair (path_map (codes "/build/p/") (codes "/usr/src/debug/p")) (codes "/build/p/gen") (codes "/usr/src/gen//") ≡ nested
unfolding with_pair path_map
words_cut = refl
