-- The units of a section with their tables and entries, one after another, as a pass over the section meets them.
use Rattle.std.specs.Prelude.{ℕ, List, [], ◌∷◌, ◌++◌, length}
use Rattle.dw_base.specs.AbbreviationTables.{Abbreviation}
use Rattle.dw_base.specs.EntryScans.{AreEntries}
use Rattle.dw_base.specs.EntryValues.{bytes_up_to}
use Rattle.dw_base.specs.UnitHeaders.{UnitBase, UnitSection, IsUnit}
use Rattle.dw_base.specs.UnitTables.{IsUnitTable}
use Rattle.dw_base.specs.declared.units.Scanned.{Scanned}
use Rattle.dw_base.specs.declared.units.UnitHeader.{UnitHeader}

-- units that can be read whole stand one after another from the section's start up to a place
pub data UnitsScanned (base : UnitBase) (z : UnitSection) : List UnitHeader → ℕ → Type 0 where
  none_scanned : UnitsScanned base z [] 0
  more_scanned : (list : List UnitHeader) (h : UnitHeader) (start : ℕ) (table : List Abbreviation) (items : List Scanned)
      → UnitsScanned base z list start → IsUnit base z start h → IsUnitTable base h table
      → AreEntries h table (bytes_up_to z h) items → UnitsScanned base z (list ++ h ∷ []) h.end

-- all units of the section
abbrev pub AreScanned : UnitBase → UnitSection → List UnitHeader → Type 0
AreScanned base z list = UnitsScanned base z list (length z.contents)
