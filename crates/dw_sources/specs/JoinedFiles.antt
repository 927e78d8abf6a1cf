-- Which line tables' files are joined with which folders. The files of a pair of both are joined once: from then on the names that
-- they give stand. This project's profile.
use Rattle.std.specs.Prelude.{◌≡◌, Bool, not, ℕ, ⊤, Option, Some, List, [], ◌∷◌}
use Rattle.std.specs.BTreeSet.{insert_key}
use Rattle.std.specs.Cmp.Lexicographic.{slice_cmp}
use Rattle.std.specs.Global.{Vec}
use Rattle.std.specs.List.{list_any}
use Rattle.std.specs.Ordering.{is_eq, nat_cmp, ordering_then}
use Rattle.std.specs.declared.cmp.Ordering.{Ordering}
use Rattle.dw_base.specs.DebugData.{DebugData, line_source}
use Rattle.dw_base.specs.LineTables.{LineTable}
use Rattle.dw_sources.specs.KeptNames.{bytes_of, kept_name, with_kept}
use Rattle.dw_sources.specs.UnitPaths.{lines_paths}

-- the names that are kept of paths stand already: none is one more
abbrev pub EachStands : List (List ℕ) → List (List ℕ) → List (List ℕ) → Type 0
EachStands fronts names [] = ⊤
EachStands fronts names (p ∷ ps) = (with_kept names (kept_name fronts p) ≡ names) × EachStands fronts names ps

-- the start of a table, and a folder
abbrev pub Pair : Type 0
Pair = ℕ × Vec ℕ

-- pairs go by the start, and then by the folder in byte order
abbrev pub pair_order : Pair → Pair → Ordering
pair_order x y = ordering_then (nat_cmp x.0 y.0) (slice_cmp nat_cmp (bytes_of x.1) (bytes_of y.1))

-- a pair is among these
abbrev pub has_pair : List Pair → Pair → Bool
has_pair pairs x = list_any (λ y. is_eq (pair_order x y)) pairs

-- the names of each pair's files stand
abbrev pub EachJoined : DebugData → (ℕ → Option LineTable) → List (List ℕ) → List (List ℕ) → List Pair → Type 0
EachJoined d tables fronts names [] = ⊤
EachJoined d tables fronts names (x ∷ xs) =
    EachStands fronts names (lines_paths (line_source d) tables (bytes_of x.1) (Some x.0)) × EachJoined d tables fronts names xs

-- pairs are joined: the names of their files are among these
pub record AreJoined (d : DebugData) (tables : ℕ → Option LineTable) (fronts : List (List ℕ)) (names : List (List ℕ)) (pairs : List Pair) : Type 0 where
  pub each : EachJoined d tables fronts names pairs

-- the pair of a start and a folder is put among pairs; whether it is new there
pub record Marks (old new : List Pair) (start : ℕ) (folder : List ℕ) (fresh : Bool) : Type 0 where
  pub pair : Pair
  pub starts : pair.0 ≡ start
  pub in_folder : bytes_of pair.1 ≡ folder
  pub put : new ≡ insert_key pair_order old pair
  pub is_new : fresh ≡ not (has_pair old pair)
