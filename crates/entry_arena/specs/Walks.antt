-- A walk along the links of nodes: what is left of it, and what a step gives.
use Rattle.std.specs.Prelude.{◌≡◌, ℕ, suc, ◌+◌, ◌-◌, ◌<◌, ◌≤◌, ◌^◌, List, length, Option, Some, None}
use Rattle.entry_arena.specs.Shapes.{HasDepth, NodesSpell, Shape, no_nodes, node, node_at, root, size}
use Rattle.entry_arena.specs.declared.arena.EntryNode.{EntryNode}
use Rattle.entry_arena.specs.declared.walking.WalkStep.{WalkStep}

-- a walk over nodes, of which those before a number were given
pub record WalkState : Type 0 where
  pub nodes : List EntryNode
  pub number : ℕ

-- the number of what comes next: at the end, how many there are
abbrev pub next_number : ℕ → Option WalkStep → ℕ
next_number count None = count
next_number count (Some s) = s.number

-- the walk gives the next number, with the depth of its node
pub record GivesStep (s : WalkState) (x : WalkStep) (t : WalkState) : Type 0 where
  pub number : x.number ≡ s.number
  pub inside : s.number < length s.nodes
  pub depth : HasDepth (node_at s.nodes) x.number x.depth
  pub same : t ≡ record s { number = s.number + 1 }

-- the walk gives nothing: all numbers were given
pub record GivesNoStep (s t : WalkState) : Type 0 where
  pub all : s.number ≡ length s.nodes
  pub same : t ≡ s

abbrev pub Gives : WalkState → Option WalkStep → WalkState → Type 0
Gives s None t = GivesNoStep s t
Gives s (Some x) t = GivesStep s x t

-- of the numbers alone
pub record GivesOne (s : WalkState) (k : ℕ) (t : WalkState) : Type 0 where
  pub number : k ≡ s.number
  pub inside : s.number < length s.nodes
  pub same : t ≡ record s { number = s.number + 1 }

abbrev pub GivesNumber : WalkState → Option ℕ → WalkState → Type 0
GivesNumber s None t = GivesNoStep s t
GivesNumber s (Some k) t = GivesOne s k t

-- how many numbers are left
abbrev pub numbers_left : WalkState → ℕ
numbers_left s = length s.nodes - s.number

-- below a node stand those of a shape, numbered from k on, of a depth; behind them comes what follows the node, its parent and so on up
-- to the end of all nodes, of which there are n
pub data Pending (at : ℕ → EntryNode) (n : ℕ) : Option ℕ → ℕ → ℕ → Shape → Type 0 where
  last_list : (k : ℕ) (s : Shape) → NodesSpell at None k s → k + size s ≡ n → Pending at n None k 0 s
  inner_list : (a k d : ℕ) (s t : Shape) (p : Option ℕ) → NodesSpell at (Some a) k s → (at a).next_sibling ≡ root (k + size s) t → (at a).parent ≡ p
      → a < k → d ≤ a → Pending at n p (k + size s) d t → Pending at n (Some a) k (suc d) s

-- a step is due: its node comes next
pub record IsDue (nodes : List EntryNode) (s : WalkStep) : Type 0 where
  pub parent : Option ℕ
  pub children : Shape
  pub siblings : Shape
  pub pending : Pending (node_at nodes) (length nodes) parent s.number s.depth (node children siblings)

-- all below a node was given, and k comes next
pub record IsOver (nodes : List EntryNode) (k : ℕ) (s : WalkStep) : Type 0 where
  pub pending : Pending (node_at nodes) (length nodes) (Some s.number) k (suc s.depth) no_nodes

-- what comes next is due, if anything does
abbrev pub WalkFits : List EntryNode → Option WalkStep → Type 0
WalkFits nodes None = 0 ≤ length nodes
WalkFits nodes (Some s) = IsDue nodes s

-- so it is at every moment of a walk
pub record StepsFit (nodes : List EntryNode) (next : Option WalkStep) : Type 0 where
  pub small : length nodes ≤ 2 ^ 31
  pub fits : WalkFits nodes next
