-- The order in which the nodes of an arena stand.
use Rattle.std.proofs.Common.{◌≡◌, ℕ, List, length, ap, ◌∙◌}
use Rattle.dw_base.specs.AbbreviationTables.{Abbreviation}
use Rattle.dw_base.specs.declared.units.UnitHeader.{UnitHeader}
use Rattle.entry_arena.specs.Shapes.{IsLinkedAs, Shape, numbers, preorder}
use Rattle.entry_arena.specs.UnitArenas.{IsArenaOf, NodesRise}
use Rattle.entry_arena.specs.declared.arena.EntryNode.{EntryNode}
use Rattle.entry_arena.proofs.ScanLaws.{nodes-between, scans-rise}
use Rattle.entry_arena.proofs.ShapeLaws.{preorder-numbers}

-- the preorder of the links is the order of the numbers
pub arena-preorder : (nodes : List EntryNode) (s : Shape) → IsLinkedAs nodes s → preorder 0 s ≡ numbers 0 (length nodes)
arena-preorder nodes s l = preorder-numbers 0 s ∙ ap (numbers 0) l.size_is

-- and that of the places
pub arena-rises : (h : UnitHeader) (table : List Abbreviation) (bytes : List ℕ) (nodes : List EntryNode) → IsArenaOf h table bytes nodes → NodesRise nodes
arena-rises h table bytes nodes a =
    record { rise = λ i j less lt. nodes-between table nodes a.entries i j a.nodes_are (scans-rise h table bytes a.entries h.end 0 a.are).rises less lt }
