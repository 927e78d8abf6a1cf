-- A pass over a unit that can be read gives no refusal (DWARF 5, 7.5.3).
use Rattle.std.proofs.Common.{◌≡◌, ℕ, ◌≤◌, List, length, subst, arith}
use Rattle.std.proofs.lemmas.List.{length-take}
use Rattle.dw_base.specs.AbbreviationTables.{Abbreviation}
use Rattle.dw_base.specs.Cells.{bytes_of}
use Rattle.dw_base.specs.EntryScans.{EntryFails}
use Rattle.dw_base.specs.FileViews.{View}
use Rattle.dw_base.specs.Refusals.{Blames}
use Rattle.dw_base.specs.declared.fault.Fault.{Fault}
use Rattle.dw_base.specs.declared.fault.Fault.TheVariants.{Refused}
use Rattle.dw_base.specs.declared.fault.Refusal.{Refusal}
use Rattle.dw_base.specs.declared.units.UnitHeader.{UnitHeader}
use Rattle.dw_entries.specs.ScanStates.{ScanState, GivesRefusal}
use Rattle.dw_entries.specs.ViewUnits.{unit_section_at}
use Rattle.dw_meaning.proofs.EntryRowLaws.{entries-exclude}
use Rattle.dw_attrs.specs.UnitValues.{unit_bytes}
use Rattle.dw_attrs.specs.UnitReads.{CanRead}
use Rattle.dw_attrs.proofs.EntryListLaws.{PassAt, pass-reads}

-- the bytes of a unit are no more than its end says
pub bytes-short : (v : View) (h : UnitHeader) → length (unit_bytes v h) ≤ h.end
bytes-short v h = omega (arith, length-take h.end (bytes_of (unit_section_at v h.section).contents))

pub pass-fails : (v : View) (h : UnitHeader) (table : List Abbreviation) (s u : ScanState) (number : ℕ) (r : Refusal) → PassAt h table (unit_bytes v h) s number
    → GivesRefusal s r u → CanRead v h table → ⊥
pass-fails v h table s u number r p g c = pass-reads h table (unit_bytes v h) s u number r c.items p g (bytes-short v h) c.entries

-- nor does a call that answers as a pass does
pub unit-passes : (v : View) (h : UnitHeader) (table : List Abbreviation) (f : Fault) (r : Refusal) → Blames (EntryFails h table (unit_bytes v h)) f → f ≡ Refused r
    → CanRead v h table → ⊥
unit-passes v h table f r blamed refused c =
    entries-exclude h table (unit_bytes v h) c.items r (bytes-short v h) c.entries (subst (λ (x : Fault). Blames (EntryFails h table (unit_bytes v h)) x) refused blamed)
