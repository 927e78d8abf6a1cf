-- The nodes of a unit's entries before they are linked to what comes behind them.
use Rattle.std.specs.Prelude.{◌≡◌, ℕ, List}
use Rattle.dw_base.specs.AbbreviationTables.{Abbreviation}
use Rattle.dw_base.specs.EntryScans.{AreEntries}
use Rattle.dw_base.specs.declared.units.Scanned.{Scanned}
use Rattle.dw_base.specs.declared.units.UnitHeader.{UnitHeader}
use Rattle.entry_arena.specs.LinkedNodes.{Begun, all_begun, none_begun}

-- these are the nodes of all entries of a unit
pub record IsBegun (h : UnitHeader) (table : List Abbreviation) (bytes : List ℕ) (b : Begun) : Type 0 where
  pub entries : List Scanned
  pub are : AreEntries h table bytes entries
  pub is : b ≡ all_begun table none_begun entries
