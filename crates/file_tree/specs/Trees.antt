-- Trees as finite maps from paths to nodes: what a read or a list of one gives, and its three changes.
use Rattle.std.specs.Prelude.{ℕ, Bool, true, false, if◌then◌else◌, List, [], ◌∷◌, ◌++◌, length, nat_eq, nat_le, filter}
use Rattle.std.specs.Prelude.{Option, Some, None}
use Rattle.std.specs.Ordering.{nat_cmp}
use Rattle.std.specs.Cmp.Lexicographic.{slice_cmp}
use Rattle.std.specs.List.{starts_with, list_any}
use Rattle.std.specs.FinMap as fin
use Rattle.file_tree.specs.declared.node.Node.{Node}
use Rattle.file_tree.specs.declared.node.Node.TheVariants as node
use Rattle.file_tree.specs.declared.node.Found.{Found}
use Rattle.file_tree.specs.declared.node.Found.TheVariants as found
use Rattle.file_tree.specs.declared.node.Listed.{Listed}
use Rattle.file_tree.specs.declared.node.Listed.TheVariants as listed
use Rattle.file_tree.specs.declared.call.Change.{Change}
use Rattle.file_tree.specs.declared.call.Change.TheVariants as change

-- from the bytes of a path to the node that stands there, in byte order
abbrev pub TreeMap : Type 0
TreeMap = fin.FinMap (slice_cmp nat_cmp) Node

-- whether a path begins with the folder and a slash
abbrev pub is_below : List ℕ → List ℕ → Bool
is_below folder path = starts_with nat_eq path (folder ++ 47 ∷ [])

-- the paths below a folder, in byte order
unfoldable pub keys_below : TreeMap → List ℕ → List (List ℕ)
keys_below t folder = filter (is_below folder) (fin.keys t)

-- what a read gives of the node at its path, if there is one, and else of whether a path lies below it
abbrev pub found_of : Option Node → Bool → ℕ → Found
found_of (Some (node.File bytes mode)) below limit = if nat_le (length bytes) limit then found.File bytes mode else found.TooLarge (length bytes)
found_of (Some (node.Link target)) below limit = found.Link target
found_of None true limit = found.Folder
found_of None false limit = found.Absent

-- what a read of the path gives
unfoldable pub stands_at : TreeMap → List ℕ → ℕ → Found
stands_at t path limit = found_of (fin.get t path) (list_any (is_below path) (fin.keys t)) limit

-- what a list gives of these paths
abbrev pub listed_of : List (List ℕ) → ℕ → Listed
listed_of paths limit = if nat_le (length paths) limit then listed.Paths paths else listed.TooMany

-- what a list of the folder gives
unfoldable pub listed_at : TreeMap → List ℕ → ℕ → Listed
listed_at t folder limit = listed_of (keys_below t folder) limit

-- the path holds the node
abbrev pub with_node : List ℕ → Node → TreeMap → TreeMap
with_node path n t = fin.insert t path n

-- the path isn't there
abbrev pub without : List ℕ → TreeMap → TreeMap
without path t = fin.remove t path

-- the node, if there is one, stands at the one path in place of the other
abbrev pub carried : Option Node → List ℕ → List ℕ → TreeMap → TreeMap
carried None from to t = t
carried (Some n) from to t = with_node to n (without from t)

-- the node at `from` stands at `to`, in place of what was there
unfoldable pub moved : List ℕ → List ℕ → TreeMap → TreeMap
moved from to t = carried (fin.get t from) from to t

-- the tree after a change
abbrev pub after_change : TreeMap → Change → TreeMap
after_change t (change.Put path n) = with_node path n t
after_change t (change.Move from to) = moved from to t
after_change t (change.Take path) = without path t

abbrev pub after_changes : TreeMap → List Change → TreeMap
after_changes t [] = t
after_changes t (c ∷ cs) = after_changes (after_change t c) cs
