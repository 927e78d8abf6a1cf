-- Entries in byte order of their paths: where a path stands, or would stand, and their changes.
use Rattle.std.specs.Prelude.{ℕ, suc, Bool, true, false, not, List, [], ◌∷◌, Option}
use Rattle.std.specs.declared.cmp.Ordering.{Ordering}
use Rattle.std.specs.declared.cmp.Ordering.TheVariants.{Less, Equal, Greater}
use Rattle.std.specs.Ordering.{nat_cmp, eq_by_cmp}
use Rattle.std.specs.Cmp.Lexicographic.{slice_cmp}
use Rattle.std.specs.FinMap.Entries as entry
use Rattle.file_tree.specs.declared.node.Node.{Node}

abbrev pub rank_by : Ordering → ℕ → ℕ
rank_by Less n = 0
rank_by Equal n = 0
rank_by Greater n = suc n

-- how many paths are below this one, up to the first that isn't
abbrev pub rank : List ℕ → List (List ℕ × Node) → ℕ
rank path [] = 0
rank path (e ∷ es) = rank_by (slice_cmp nat_cmp path e.0) (rank path es)

abbrev pub stands_by : Ordering → Bool → Bool
stands_by Less b = false
stands_by Equal b = true
stands_by Greater b = b

-- whether the path is the first that isn't below it
abbrev pub stands : List ℕ → List (List ℕ × Node) → Bool
stands path [] = false
stands path (e ∷ es) = stands_by (slice_cmp nat_cmp path e.0) (stands path es)

-- the entries with the node at the path
abbrev pub with_entry : List ℕ → Node → List (List ℕ × Node) → List (List ℕ × Node)
with_entry path n es = entry.put (slice_cmp nat_cmp) path n es

-- the entries but for the path's
abbrev pub without_entry : List ℕ → List (List ℕ × Node) → List (List ℕ × Node)
without_entry path es = entry.where_key (slice_cmp nat_cmp) (λ x. not (eq_by_cmp (slice_cmp nat_cmp) path x)) es

-- the node at the path
abbrev pub entry_at : List ℕ → List (List ℕ × Node) → Option Node
entry_at path es = entry.find (slice_cmp nat_cmp) path es

-- whether the paths rise
abbrev pub are_rising : List (List ℕ × Node) → Bool
are_rising es = entry.is_sorted (slice_cmp nat_cmp) es
