-- What a tree in memory keeps: nodes in byte order of their paths, and its calls beside what they did.
use Rattle.std.specs.Prelude.{ℕ, Bool, false, List, [], ◌∷◌, map, nat_eq, nat_le, ◌||◌}
use Rattle.std.specs.Prelude.{Option, Some, None}
use Rattle.std.specs.declared.alloc.Global.{Global}
use Rattle.std.specs.Prelude.{String}
use Rattle.std.specs.String.{string_bytes}
use Rattle.std.specs.Ordering.{nat_cmp}
use Rattle.std.specs.Cmp.Lexicographic.{slice_cmp}
use Rattle.std.specs.List.{list_any}
use Rattle.std.specs.FinMap as fin
use Rattle.file_tree.specs.declared.node.Node.{Node}
use Rattle.file_tree.specs.declared.call.Call.{Call}
use Rattle.file_tree.specs.declared.call.Effect.{Effect}
use Rattle.file_tree.specs.Trees.{TreeMap}
use Rattle.file_tree.specs.Seen.{Happened, Past}

-- a path and the node at it, as a program holds them
abbrev pub Place : Type 0
Place = String Global × Node

-- the same with the bytes of the path
abbrev pub entry_of : Place → List ℕ × Node
entry_of p = (string_bytes p.0, p.1)

abbrev pub entries_of : List Place → List (List ℕ × Node)
entries_of = map entry_of

-- the map of these places
unfoldable pub tree_of : List Place → TreeMap
tree_of places = fin.from_entries (entries_of places)

-- the paths of these places
abbrev pub paths_of : List Place → List (List ℕ)
paths_of = map (λ p. string_bytes p.0)

-- whether the paths rise in byte order
unfoldable pub are_sorted : List Place → Bool
are_sorted places = fin.is_sorted (slice_cmp nat_cmp) (entries_of places)

-- each call with what it did
abbrev pub happened : List Call → List Effect → List Happened
happened [] es = []
happened (c ∷ cs) [] = []
happened (c ∷ cs) (e ∷ es) = (record { call = c; effect = e }) ∷ happened cs es

-- the past of a tree that began with these places
abbrev pub past_with : List Place → List Call → List Effect → Past
past_with first calls effects = record { first = tree_of first; log = happened calls effects }

-- which calls are to fail: those with these numbers, and all from a number on
pub record ToFail : Type 0 where
  pub listed : List ℕ
  pub from : Option ℕ

abbrev pub is_from : Option ℕ → ℕ → Bool
is_from None n = false
is_from (Some first) n = nat_le first n

-- whether the call of this number is to fail
abbrev pub is_due : ToFail → ℕ → Bool
is_due f n = list_any (λ m. nat_eq m n) f.listed || is_from f.from n
