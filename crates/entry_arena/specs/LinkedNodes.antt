-- How nodes are linked: by how deep their entries stand. A node's parent is the last one before it that is one less deep; its first child is
-- the next node that is one deeper, and its next sibling the next one of its depth, where no less deep one stands in front of these.
use Rattle.std.specs.Prelude.{◌≡◌, ℕ, suc, ◌==◌, nat_lt, if◌then◌else◌, List, [], ◌∷◌, ◌++◌, length, take, Option, Some, None, ⊤}
use Rattle.dw_base.specs.AbbreviationTables.{Abbreviation, abbreviation_of}
use Rattle.dw_base.specs.declared.units.Scanned.{Scanned}
use Rattle.entry_arena.specs.declared.arena.EntryNode.{EntryNode}

-- the last of some numbers
abbrev pub last_of : List ℕ → Option ℕ
last_of [] = None
last_of (k ∷ []) = Some k
last_of (k ∷ (j ∷ js)) = last_of (j ∷ js)

-- the first node of a depth among those that follow, numbered from k on, up to one that is less deep
abbrev pub next_at : ℕ → ℕ → List ℕ → Option ℕ
next_at d k [] = None
next_at d k (e ∷ es) = if e == d then Some k else (if nat_lt e d then None else next_at d (suc k) es)

-- nodes of these depths, numbered from k on, are linked by them; above the first stand these nodes, the outermost first
abbrev pub AreLinked : (ℕ → EntryNode) → List ℕ → ℕ → List ℕ → Type 0
AreLinked at above k [] = ⊤
AreLinked at above k (d ∷ ds) =
    ((at k).parent ≡ last_of (take d above)) × ((at k).first_child ≡ next_at (suc d) (suc k) ds) × ((at k).next_sibling ≡ next_at d (suc k) ds)
    × AreLinked at (take d above ++ k ∷ []) (suc k) ds

-- the tag of an entry's abbreviation
abbrev pub tag_in : Option Abbreviation → ℕ
tag_in None = 0
tag_in (Some a) = a.tag

-- the node of an entry below a parent, before it is linked
abbrev pub new_node : List Abbreviation → Option ℕ → Scanned → EntryNode
new_node table parent e =
    record { offset = e.offset; tag = tag_in (abbreviation_of table e.code); code = e.code; parent = parent; first_child = None; next_sibling = None }

-- nodes that know their parents, how deep each stands, and the last one with those above it, the outermost first
pub record Begun : Type 0 where
  pub nodes : List EntryNode
  pub depths : List ℕ
  pub above : List ℕ

abbrev pub none_begun : Begun
none_begun = record { nodes = []; depths = []; above = [] }

abbrev pub with_entry : List Abbreviation → Begun → Scanned → Begun
with_entry table b e = record {
  nodes = b.nodes ++ new_node table (last_of (take e.depth b.above)) e ∷ [];
  depths = b.depths ++ e.depth ∷ [];
  above = take e.depth b.above ++ length b.nodes ∷ [];
}

abbrev pub all_begun : List Abbreviation → Begun → List Scanned → Begun
all_begun table b [] = b
all_begun table b (e ∷ es) = all_begun table (with_entry table b e) es

-- a node with links
abbrev pub with_links : EntryNode → Option ℕ → Option ℕ → EntryNode
with_links n first_child next_sibling =
    record { offset = n.offset; tag = n.tag; code = n.code; parent = n.parent; first_child = first_child; next_sibling = next_sibling }

-- nodes of these depths, numbered from k on, with their links
abbrev pub linked_from : ℕ → List EntryNode → List ℕ → List EntryNode
linked_from k [] ds = []
linked_from k (n ∷ ns) [] = n ∷ ns
linked_from k (n ∷ ns) (d ∷ ds) = with_links n (next_at (suc d) (suc k) ds) (next_at d (suc k) ds) ∷ linked_from (suc k) ns ds

abbrev pub linked_nodes : Begun → List EntryNode
linked_nodes b = linked_from 0 b.nodes b.depths
