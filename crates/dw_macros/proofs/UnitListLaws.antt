-- Laws of the macro units of a section: all were read, or some can't be.
use Rattle.std.proofs.Common.{◌≡◌, ℕ, ◌<◌, ◌≤◌, List, length, subst, arith}
use Rattle.dw_base.specs.FileViews.{View, section_bytes}
use Rattle.dw_base.specs.declared.fault.Refusal.{Refusal}
use Rattle.dw_base.specs.MacroFails.{one}
use Rattle.dw_base.specs.MacroUnits.{AreMacroUnits, MacroUnitsUpTo, no_units, more_units}
use Rattle.dw_base.specs.declared.macro_units.MacroUnit.{MacroUnit}
use Rattle.dw_base.specs.MacroOffsets.{UnitsReadUpTo, no_unit, more_unit, AreReadUnits, UnitRefuses, unit_fails, offset_fails, UnitsRefuse, units, offsets}
use Rattle.dw_macros.proofs.UnitLaws.{read-unit}

-- units that can be read with their offsets are units
pub read-units : (v : View) (section : ℕ) (list : List MacroUnit) (place : ℕ) → UnitsReadUpTo v section list place → MacroUnitsUpTo v section list place
read-units v section list place no_unit = no_units
read-units v section list place (more_unit before u start so is) =
    more_units before u start (read-units v section before start so) (read-unit v section start u is)

-- some unit can't be read
pub section-fails : (v : View) (section : ℕ) (found : List ℕ) (start : ℕ) (list : List MacroUnit) (r : Refusal) → UnitsReadUpTo v section list start
    → found ≡ section_bytes v section → start < length found → UnitRefuses v section start r → UnitsRefuse v section r
section-fails v section found start list r u same lt (unit_fails f) =
    units (one list start (read-units v section list start u) (subst (λ (bs : List ℕ). start < length bs) same lt) f)
section-fails v section found start list r u same lt (offset_fails f) = offsets list start u (subst (λ (bs : List ℕ). start < length bs) same lt) f

-- all were read
pub units-fill : (v : View) (section : ℕ) (found : List ℕ) (start : ℕ) (list : List MacroUnit) → UnitsReadUpTo v section list start
    → found ≡ section_bytes v section → start ≤ length (section_bytes v section) → length found ≤ start → AreReadUnits v section list
units-fill v section found start list u same within far =
    subst (λ (k : ℕ). UnitsReadUpTo v section list k) (omega (arith, within, subst (λ (bs : List ℕ). length bs ≤ start) same far)) u

pub units-are : (v : View) (section : ℕ) (found : List ℕ) (start : ℕ) (list : List MacroUnit) → UnitsReadUpTo v section list start
    → found ≡ section_bytes v section → start ≤ length (section_bytes v section) → length found ≤ start → AreMacroUnits v section list
units-are v section found start list u same within far =
    read-units v section list (length (section_bytes v section)) (units-fill v section found start list u same within far)

pub ruleset list_laws = (no_unit, more_unit, section-fails, units-fill, units-are)
