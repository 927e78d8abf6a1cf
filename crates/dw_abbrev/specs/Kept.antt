-- Tables of abbreviations that are kept by their places (DWARF 5, 7.5.3).
use Rattle.std.specs.Prelude.{◌≡◌, ℕ, List, [], ◌∷◌, ⊤, Option, Some}
use Rattle.dw_base.specs.AbbreviationTables.{Abbreviation, IsTable}
use Rattle.dw_abbrev.specs.declared.keeping.KeptTable.{KeptTable}

-- each of these is the table at its place
abbrev pub AllKept : List ℕ → List KeptTable → Type 0
AllKept bytes [] = ⊤
AllKept bytes (k ∷ ks) = IsTable bytes k.at k.table × AllKept bytes ks

-- the tables that are kept by their places are those that stand there
pub record AreKept (bytes : List ℕ) (kept : ℕ → Option (List Abbreviation)) : Type 0 where
  pub each : (at : ℕ) (table : List Abbreviation) → kept at ≡ Some table → IsTable bytes at table
