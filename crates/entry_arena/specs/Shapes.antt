-- Trees of numbered nodes, and what it is that links spell one (DWARF 5, 2.3): nodes are numbered from 0 in the order of the places of their
-- entries, and each names its parent, the first of its children and its next sibling.
use Rattle.std.specs.Prelude.{◌≡◌, ℕ, zero, suc, ◌+◌, List, [], ◌∷◌, ◌++◌, length, get_or, Option, Some, None, ⊤}
use Rattle.std.specs.Prelude.{◌==◌, if◌then◌else◌}
use Rattle.entry_arena.specs.declared.arena.EntryNode.{EntryNode}

-- nodes in order, each with the nodes below it; its siblings follow
pub data Shape : Type 0 where
  no_nodes : Shape
  node : Shape → Shape → Shape

-- how many nodes there are
abbrev pub size : Shape → ℕ
size no_nodes = 0
size (node children siblings) = suc (size children + size siblings)

-- the number of the first node, where nodes are numbered from one on
abbrev pub root : ℕ → Shape → Option ℕ
root k no_nodes = None
root k (node children siblings) = Some k

-- the numbers in preorder: each node before its children, and these before its siblings
abbrev pub preorder : ℕ → Shape → List ℕ
preorder k no_nodes = []
preorder k (node children siblings) = k ∷ (preorder (suc k) children ++ preorder (suc k + size children) siblings)

-- so many numbers from one on
abbrev pub numbers : ℕ → ℕ → List ℕ
numbers k zero = []
numbers k (suc n) = k ∷ numbers (suc k) n

-- in how many nodes each node stands, in preorder, where the first stands in so many
abbrev pub depths_in : ℕ → Shape → List ℕ
depths_in d no_nodes = []
depths_in d (node children siblings) = d ∷ (depths_in (suc d) children ++ depths_in d siblings)

-- nodes, numbered from k on, are linked as these, and those that stand in none of them have this parent
abbrev pub NodesSpell : (ℕ → EntryNode) → Option ℕ → ℕ → Shape → Type 0
NodesSpell at parent k no_nodes = ⊤
NodesSpell at parent k (node children siblings) =
    ((at k).parent ≡ parent) × ((at k).first_child ≡ root (suc k) children) × ((at k).next_sibling ≡ root (suc k + size children) siblings)
    × NodesSpell at (Some k) (suc k) children × NodesSpell at parent (suc k + size children) siblings

-- the node of a number in a list; behind its end there is none, which nothing asks for
abbrev pub no_node : EntryNode
no_node = record { offset = 0; tag = 0; code = 0; parent = None; first_child = None; next_sibling = None }

abbrev pub node_at : List EntryNode → ℕ → EntryNode
node_at nodes k = get_or nodes k no_node

-- a list of nodes is linked as these
pub record IsLinkedAs (nodes : List EntryNode) (shape : Shape) : Type 0 where
  pub size_is : size shape ≡ length nodes
  pub spells : NodesSpell (node_at nodes) None 0 shape

pub record IsLinked (nodes : List EntryNode) : Type 0 where
  pub shape : Shape
  pub linked : IsLinkedAs nodes shape

-- the nodes that follow one another by their next siblings, from one on, or from none
pub data Chain (at : ℕ → EntryNode) : Option ℕ → List ℕ → Type 0 where
  chain_end : Chain at None []
  chain_more : (k : ℕ) (ks : List ℕ) → Chain at (at k).next_sibling ks → Chain at (Some k) (k ∷ ks)

-- how often a number stands in a list
abbrev pub times_of : ℕ → List ℕ → ℕ
times_of j [] = 0
times_of j (k ∷ ks) = (if k == j then 1 else 0) + times_of j ks

-- where the chain of a node's siblings begins: at its parent's first child, or at the first of all nodes
abbrev pub chain_start : (ℕ → EntryNode) → Option ℕ → Option ℕ
chain_start at None = Some 0
chain_start at (Some p) = (at p).first_child

-- a node stands in a chain exactly once
pub record StandsOnce (at : ℕ → EntryNode) (start : Option ℕ) (j : ℕ) : Type 0 where
  pub chain : List ℕ
  pub is : Chain at start chain
  pub once : times_of j chain ≡ 1

-- a node has so many nodes above it
pub data HasDepth (at : ℕ → EntryNode) : ℕ → ℕ → Type 0 where
  outermost : (k : ℕ) → (at k).parent ≡ None → HasDepth at k 0
  below : (k p d : ℕ) → (at k).parent ≡ Some p → HasDepth at p d → HasDepth at k (suc d)
