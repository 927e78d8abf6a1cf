-- Runs of the small maker for tests: its nodes, and the core of a start.
use Rattle.std.proofs.Common.{◌≡◌, ℕ, List, [], ◌∷◌, ◌++◌, get_or, refl, eq-eqb}
use Rattle.std.specs.Prelude.{Some}
use Rattle.file_tree.specs.declared.node.Node.{Node}
use Rattle.file_tree.specs.declared.node.Node.TheVariants as node
use Rattle.journal_cases.specs.Toys.{toy_nodes}

pub toy_made : (first : ℕ) (bytes : List ℕ) (mode : ℕ) (ns : List Node) → get_or bytes 0 0 ≡ first
    → ns ≡ node.File (bytes ++ 100 ∷ []) mode ∷ node.File (bytes ++ 115 ∷ []) mode ∷ [] → toy_nodes first bytes mode ≡ Some ns
toy_made first bytes mode ns e is = rw (is, eq-eqb (get_or bytes 0 0) first e) refl
