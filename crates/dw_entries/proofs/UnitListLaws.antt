-- The units of a section, one after another.
use Rattle.std.proofs.Common.{true, ◌≡◌, ℕ, ◌≤◌, ◌<◌, List, length, sym, ap, ◌∙◌, subst, arith}
use Rattle.dw_base.specs.FileViews.{View, section_bytes}
use Rattle.dw_base.specs.Refusals.{at}
use Rattle.dw_base.specs.RelocationRows.{HeaderOffsetsRead}
use Rattle.dw_base.specs.UnitHeaders.{IsUnit, AreUnits}
use Rattle.dw_base.specs.UnitTables.{UnitTableFails, other_section}
use Rattle.dw_base.specs.declared.fault.Kind.TheVariants.{Abbreviation as AbbreviationKind}
use Rattle.dw_base.specs.declared.fault.Refusal.{Refusal}
use Rattle.dw_base.specs.declared.units.UnitHeader.{UnitHeader}
use Rattle.dw_entries.specs.HeaderRows.{HeadersRefuse, ReadUpTo, UnitRefuses, more_read, none_read}
use Rattle.dw_entries.specs.ViewUnits.{IsUnitSection, unit_base, unit_section_at}
use Rattle.dw_entries.proofs.HeaderRowLaws.{offsets-read, read-units, unit-refuses}
use Rattle.dw_entries.proofs.OffsetLaws.{length-contents}
use Rattle.dw_entries.proofs.UnitSectionLaws.{is-of-view}

-- the units fill the section
pub read-all : (v : View) (n start len : ℕ) (list : List UnitHeader) → IsUnitSection v n → ReadUpTo (unit_base v) (unit_section_at v n) list start
    → len ≡ length (section_bytes v n) → start ≤ length (section_bytes v n) → len ≤ start
    → ReadUpTo (unit_base v) (unit_section_at v n) list (length (unit_section_at v n).contents)
read-all v n start len list is u size within far =
    subst (λ (k : ℕ). ReadUpTo (unit_base v) (unit_section_at v n) list k)
    (omega (arith, size, within, far, length-contents v n (unit_section_at v n) (is-of-view v n is))) u

pub units-fill : (v : View) (n start len : ℕ) (list : List UnitHeader) → IsUnitSection v n → ReadUpTo (unit_base v) (unit_section_at v n) list start
    → len ≡ length (section_bytes v n) → start ≤ length (section_bytes v n) → len ≤ start → AreUnits (unit_base v) (unit_section_at v n) list
units-fill v n start len list is u size within far =
    read-units (unit_base v) (unit_section_at v n) list (length (unit_section_at v n).contents) (read-all v n start len list is u size within far)

-- and their offsets can be read
pub offsets-fill : (v : View) (n start len : ℕ) (list : List UnitHeader) → IsUnitSection v n → ReadUpTo (unit_base v) (unit_section_at v n) list start
    → len ≡ length (section_bytes v n) → start ≤ length (section_bytes v n) → len ≤ start → HeaderOffsetsRead (unit_base v) (unit_section_at v n)
offsets-fill v n start len list is u size within far =
    offsets-read (unit_base v) (unit_section_at v n) list (read-all v n start len list is u size within far)

-- the next unit isn't given
pub unit-fails : (v : View) (n start len : ℕ) (list : List UnitHeader) (r : Refusal) → IsUnitSection v n → ReadUpTo (unit_base v) (unit_section_at v n) list start
    → len ≡ length (section_bytes v n) → start < len → UnitRefuses (unit_base v) (unit_section_at v n) start r → HeadersRefuse (unit_base v) (unit_section_at v n) r
unit-fails v n start len list r is u size lt f =
    unit-refuses (unit_base v) (unit_section_at v n) list start r (read-units (unit_base v) (unit_section_at v n) list start u)
    (omega (arith, size, lt, length-contents v n (unit_section_at v n) (is-of-view v n is))) f

-- it lies in the section
pub unit-within : (v : View) (n start : ℕ) (h : UnitHeader) → IsUnitSection v n → IsUnit (unit_base v) (unit_section_at v n) start h
    → h.end ≤ length (section_bytes v n)
unit-within v n start h is u = let within = u.within in omega (arith, within, length-contents v n (unit_section_at v n) (is-of-view v n is))

-- the abbreviations of a unit may be in another section
pub table-elsewhere : (v : View) (h : UnitHeader) (number : ℕ) (r : Refusal) → number ≡ (unit_base v).abbrevs.number → r ≡ at AbbreviationKind number h.abbrevs
    → h.elsewhere ≡ true → UnitTableFails (unit_base v) h r
table-elsewhere v h number r number_is is there =
    subst (UnitTableFails (unit_base v) h) (sym (is ∙ ap (λ (n : ℕ). at AbbreviationKind n h.abbrevs) number_is)) (other_section there)

pub ruleset list_laws = (is-of-view, none_read, more_read, units-fill, offsets-fill, unit-within)
