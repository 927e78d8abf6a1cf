-- The entry of a node of an arena, as it is printed (DWARF 5, 2.3): its place, and how deep it stands; and a unit that is printed with its arena.
use Rattle.std.specs.Prelude.{◌≡◌, ℕ, List, Some}
use Rattle.dw_base.specs.AbbreviationTables.{Abbreviation}
use Rattle.dw_base.specs.LineMeanings.{item_at}
use Rattle.dw_base.specs.declared.units.Scanned.{Scanned}
use Rattle.dw_base.specs.declared.units.UnitHeader.{UnitHeader}
use Rattle.entry_arena.specs.UnitArenas.{IsArenaOf}
use Rattle.entry_arena.specs.declared.arena.EntryNode.{EntryNode}
use Rattle.dw_attrs.specs.UnitValues.{SaidUnit, UnitSource, unit_bytes}
use Rattle.dw_units.specs.declared.listed_unit.ListedUnit.{ListedUnit}

-- where its values end isn't asked for
abbrev pub node_entry : EntryNode → ℕ → Scanned
node_entry n depth = record { offset = n.offset; depth = depth; code = n.code; after = n.offset }

-- the unit of a number has this header and this table
pub record IsNumbered (g : UnitSource) (number : ℕ) (h : UnitHeader) (table : List Abbreviation) : Type 0 where
  pub unit : ListedUnit
  pub there : item_at g.units number ≡ Some unit
  pub header_is : unit.header ≡ h
  pub table_is : item_at g.tables unit.table ≡ Some table

-- the unit that is printed is that of its number, with its own bytes, and nodes are its entries
pub record HasArena (u : SaidUnit) (nodes : List EntryNode) : Type 0 where
  pub numbered : IsNumbered u.source u.number u.header u.table
  pub bytes_are : u.bytes ≡ unit_bytes u.source.view u.header
  pub arena : IsArenaOf u.header u.table u.bytes nodes
