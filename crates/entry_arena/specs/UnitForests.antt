-- Arenas beside the forests that units mean: the nodes of each are linked as the unit's entries stand in one another.
use Rattle.std.specs.Prelude.{◌≡◌, ℕ, List, [], ◌∷◌, ◌++◌, ⊤}
use Rattle.dw_base.specs.AbbreviationTables.{Abbreviation}
use Rattle.dw_base.specs.EntryValues.{bytes_up_to}
use Rattle.dw_base.specs.Forests.{Forest, no_entries, entry}
use Rattle.dw_base.specs.UnitHeaders.{UnitBase, UnitSection}
use Rattle.dw_base.specs.UnitMeanings.{UnitMeaning}
use Rattle.dw_base.specs.UnitTables.{IsUnitTable}
use Rattle.dw_base.specs.declared.units.UnitHeader.{UnitHeader}
use Rattle.entry_arena.specs.Shapes.{IsLinkedAs, Shape, no_nodes, node}
use Rattle.entry_arena.specs.UnitArenas.{IsArenaOf}
use Rattle.entry_arena.specs.declared.arena.EntryNode.{EntryNode}

-- how the entries of a forest stand in one another
abbrev pub shape_of : Forest → Shape
shape_of no_entries = no_nodes
shape_of (entry tag attributes children siblings) = node (shape_of children) (shape_of siblings)

-- their tags, in preorder
abbrev pub tags_in : Forest → List ℕ
tags_in no_entries = []
tags_in (entry tag attributes children siblings) = tag ∷ (tags_in children ++ tags_in siblings)

abbrev pub tags_of : List EntryNode → List ℕ
tags_of [] = []
tags_of (n ∷ ns) = n.tag ∷ tags_of ns

-- nodes are the entries of a forest
pub record IsForest (nodes : List EntryNode) (f : Forest) : Type 0 where
  pub linked : IsLinkedAs nodes (shape_of f)
  pub tags : tags_of nodes ≡ tags_in f

-- of each unit of a section, with its abbreviations, the arena has the forest of what the unit means
abbrev pub AllForests : UnitBase → UnitSection → List UnitHeader → List UnitMeaning → Type 0
AllForests base z [] [] = ⊤
AllForests base z [] (u ∷ us) = ⊥
AllForests base z (h ∷ hs) [] = ⊥
AllForests base z (h ∷ hs) (u ∷ us) =
    ((table : List Abbreviation) (nodes : List EntryNode) → IsUnitTable base h table → IsArenaOf h table (bytes_up_to z h) nodes → IsForest nodes u.entries)
    × AllForests base z hs us
