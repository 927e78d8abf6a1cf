-- The units of sections, taken from the front of all units: those of one section stand together, section by section (DWARF 5, 7.5.1).
use Rattle.std.specs.Prelude.{Bool, false, ◌==◌, if◌then◌else◌, ℕ, suc, ◌+◌, ◌-◌, ◌≤◌, List, [], ◌∷◌, ◌++◌, take, drop, length}
use Rattle.dw_base.specs.AbbreviationTables.{Abbreviation}
use Rattle.dw_base.specs.DebugData.{DebugData}
use Rattle.dw_base.specs.RelocationRows.{HeaderOffsetsRead}
use Rattle.dw_base.specs.UnitHeaders.{UnitSection, AreUnits}
use Rattle.dw_base.specs.declared.units.UnitHeader.{UnitHeader}
use Rattle.dw_units.specs.UnitLists.{AreListed, Units}
use Rattle.dw_units.specs.declared.listed_unit.ListedUnit.{ListedUnit}

-- the units of these sections, one after another
pub data ListsFrom (d : DebugData) (tables : List (List Abbreviation)) : List UnitSection → List ListedUnit → Type 0 where
  none_from : ListsFrom d tables [] []
  more_from : (z : UnitSection) (zs : List UnitSection) (headers : List UnitHeader) (own us : List ListedUnit) → AreUnits d.base z headers
      → HeaderOffsetsRead d.base z → AreListed d tables headers own → ListsFrom d tables zs us → ListsFrom d tables (z ∷ zs) (own ++ us)

-- how many units at a list's front lie in a section
abbrev pub front_count : ℕ → List ListedUnit → ℕ
front_count section [] = 0
front_count section (u ∷ us) = if u.header.section == section then suc (front_count section us) else 0

-- a list's first unit lies in a section
abbrev pub lies_first : ℕ → List ListedUnit → Bool
lies_first section [] = false
lies_first section (u ∷ us) = u.header.section == section

-- the headers of units
abbrev pub headers_of : List ListedUnit → List UnitHeader
headers_of [] = []
headers_of (u ∷ us) = u.header ∷ headers_of us

-- the units of a section stand at the front, so many of them, and behind them those of other sections
pub record HasStretch (d : DebugData) (tables : List (List Abbreviation)) (z : UnitSection) (zs : List UnitSection) (us : List ListedUnit) (count : ℕ) : Type 0 where
  pub inside : count ≤ length us
  pub units : AreUnits d.base z (headers_of (take count us))
  pub offsets : HeaderOffsetsRead d.base z
  pub listed : AreListed d tables (headers_of (take count us)) (take count us)
  pub rest : ListsFrom d tables zs (drop count us)

-- the numbers of sections rise
abbrev pub NumbersRise : ℕ → List UnitSection → ℕ → Type 0
NumbersRise p [] q = p ≤ q
NumbersRise p (z ∷ zs) q = (p ≤ z.number) × NumbersRise (suc z.number) zs q

-- the units that stand in a list from one number up to another
abbrev pub stretch_of : List ListedUnit → ℕ → ℕ → List ListedUnit
stretch_of us first end = take (end - first) (drop first us)

-- these are the units of a section, each with its table
pub record IsStretch (d : DebugData) (us : Units) (z : UnitSection) (first end : ℕ) : Type 0 where
  pub rises : first ≤ end
  pub inside : end ≤ length us.units
  pub units : AreUnits d.base z (headers_of (stretch_of us.units first end))
  pub offsets : HeaderOffsetsRead d.base z
  pub listed : AreListed d us.tables (headers_of (stretch_of us.units first end)) (stretch_of us.units first end)

-- from a number on the units of these sections are left, whose numbers rise
pub record StretchesLeft (d : DebugData) (us : Units) (zs : List UnitSection) (first : ℕ) : Type 0 where
  pub inside : first ≤ length us.units
  pub lists : ListsFrom d us.tables zs (drop first us.units)
  pub low : ℕ
  pub high : ℕ
  pub rise : NumbersRise low zs high
