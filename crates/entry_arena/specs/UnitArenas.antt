-- The arena of a unit: its entries in the order of their places, linked as they stand in one another.
use Rattle.std.specs.Prelude.{◌≡◌, ℕ, suc, ◌<◌, ◌≤◌, ◌^◌, List, [], ◌∷◌, length, ⊤}
use Rattle.dw_base.specs.AbbreviationTables.{Abbreviation, abbreviation_of}
use Rattle.dw_base.specs.EntryScans.{AreEntries}
use Rattle.dw_base.specs.declared.units.Scanned.{Scanned}
use Rattle.dw_base.specs.declared.units.UnitHeader.{UnitHeader}
use Rattle.entry_arena.specs.LinkedNodes.{tag_in}
use Rattle.entry_arena.specs.Shapes.{IsLinked, IsLinkedAs, Shape, depths_in, node_at}
use Rattle.entry_arena.specs.declared.arena.EntryNode.{EntryNode}

-- depths that rise by at most one, from at most this one on
abbrev pub Climb : ℕ → List ℕ → Type 0
Climb b [] = ⊤
Climb b (d ∷ ds) = (d ≤ b) × Climb (suc d) ds

-- how deep entries stand
abbrev pub depths_of : List Scanned → List ℕ
depths_of [] = []
depths_of (e ∷ es) = e.depth ∷ depths_of es

-- nodes are these entries, each with its place, its code and the tag of its abbreviation
abbrev pub AreOf : List Abbreviation → List EntryNode → List Scanned → Type 0
AreOf table [] [] = ⊤
AreOf table [] (e ∷ es) = ⊥
AreOf table (n ∷ ns) [] = ⊥
AreOf table (n ∷ ns) (e ∷ es) = (n.offset ≡ e.offset) × (n.code ≡ e.code) × (n.tag ≡ tag_in (abbreviation_of table e.code)) × AreOf table ns es

-- their places rise
pub record NodesRise (nodes : List EntryNode) : Type 0 where
  pub rise : (i j : ℕ) → i < j → j < length nodes → (node_at nodes i).offset < (node_at nodes j).offset

-- what holds of every arena: its nodes are linked as some shape, and their places rise
pub record ArenaFits (nodes : List EntryNode) : Type 0 where
  pub linked : IsLinked nodes
  pub rises : NodesRise nodes
  pub small : length nodes ≤ 2 ^ 31

-- the node of a number starts at a place
pub record StartsAt (nodes : List EntryNode) (offset k : ℕ) : Type 0 where
  pub inside : k < length nodes
  pub is : (node_at nodes k).offset ≡ offset

-- the nodes before a number start before a place, and the others behind it
pub record IsGapAt (nodes : List EntryNode) (offset k : ℕ) : Type 0 where
  pub inside : k ≤ length nodes
  pub before : (i : ℕ) → i < k → (node_at nodes i).offset < offset
  pub behind : (i : ℕ) → k ≤ i → i < length nodes → offset < (node_at nodes i).offset

-- nodes are the entries of a unit, linked as the shape that has their depths
pub record IsArenaOf (h : UnitHeader) (table : List Abbreviation) (bytes : List ℕ) (nodes : List EntryNode) : Type 0 where
  pub entries : List Scanned
  pub are : AreEntries h table bytes entries
  pub nodes_are : AreOf table nodes entries
  pub shape : Shape
  pub depths : depths_in 0 shape ≡ depths_of entries
  pub linked : IsLinkedAs nodes shape
