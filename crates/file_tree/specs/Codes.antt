-- That two trees are equal in one way at most: trees are stored as lists of numbers.
use Rattle.std.specs.Prelude.{◌≡◌, ℕ, List, refl, ◌⊎◌}
use Rattle.std.proofs.Common.{inl, inr}
use Rattle.std.specs.Coded.{Coded, Coded-set, code_by, coded_ℕ, coded_list, coded×, coded⊎}
use Rattle.std.specs.FinMap as fin
use Rattle.file_tree.specs.declared.node.Node.{Node}
use Rattle.file_tree.specs.declared.node.Node.TheVariants.{File, Link}
use Rattle.file_tree.specs.Trees.{TreeMap}

abbrev pub parts_of : Node → (List ℕ × ℕ) ⊎ List ℕ
parts_of (File bytes mode) = inl (bytes, mode)
parts_of (Link target) = inr target

abbrev pub node_of : (List ℕ × ℕ) ⊎ List ℕ → Node
node_of (inl p) = File p.0 p.1
node_of (inr target) = Link target

pub node_of-parts_of : (n : Node) → node_of (parts_of n) ≡ n
node_of-parts_of (File bytes mode) = refl
node_of-parts_of (Link target) = refl

abbrev pub node_code : Coded Node
node_code = code_by ((List ℕ × ℕ) ⊎ List ℕ) (coded⊎ (coded× (coded_list coded_ℕ) coded_ℕ) (coded_list coded_ℕ)) parts_of node_of node_of-parts_of

abbrev pub tree_code : Coded TreeMap
tree_code = fin.code (coded_list coded_ℕ) node_code

pub same_tree_once : (t u : TreeMap) → IsProp (t ≡ u)
same_tree_once t u = Coded-set tree_code t u
