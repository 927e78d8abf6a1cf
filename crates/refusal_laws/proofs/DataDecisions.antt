-- The units of debug data can be read, with their tables and entries, or a condition holds (DWARF 5, 7.5).
use Rattle.std.proofs.Common.{◌≡◌, ◌⊎◌, inl, inr, ℕ, zero, suc, ◌+◌, ◌<◌, ◌≤◌, List, [], ◌∷◌, ◌++◌, length, refl, sym, ◌∙◌, subst, arith, append_assoc}
use Rattle.std.proofs.lemmas.Bool.{cases_lt}
use Rattle.dw_base.specs.AbbreviationTables.{Abbreviation}
use Rattle.dw_base.specs.DebugData.{DebugData, ReadsAll, units_in}
use Rattle.dw_base.specs.EntryScans.{AreEntries, EntryFails}
use Rattle.dw_base.specs.EntryValues.{HasUnit, bytes_up_to}
use Rattle.dw_base.specs.Readings.{Readings}
use Rattle.dw_base.specs.UnitFails.{HeaderFails}
use Rattle.dw_base.specs.UnitFails.UnitFails.{unit as unit_fails}
use Rattle.dw_base.specs.UnitHeaders.{IsUnit, UnitBase, UnitSection}
use Rattle.dw_base.specs.UnitTables.{IsUnitTable, UnitTableFails}
use Rattle.dw_base.specs.declared.debug_sections.DebugSection.TheVariants.{Info}
use Rattle.dw_base.specs.declared.units.Scanned.{Scanned}
use Rattle.dw_base.specs.declared.units.UnitHeader.{UnitHeader}
use Rattle.dw_meaning.specs.DataFails.{DataFails, entries, table, unit}
use Rattle.dw_meaning.specs.UnitScans.{AreScanned, UnitsScanned, more_scanned, none_scanned}
use Rattle.dw_meaning.proofs.DataRowLaws.{scanned-units}
use Rattle.dw_meaning.proofs.ScanSectionLaws.{SectionPieces, section-reads}
use Rattle.refusal_laws.specs.Decided.{Decided, refused, taken}
use Rattle.refusal_laws.specs.Readable.{HasEntries, HasUnitAt, HasUnitReadings, HasUnitTable}
use Rattle.refusal_laws.proofs.Decisions.{decided-by}
use Rattle.refusal_laws.proofs.EntryDecisions.{entries-decided}
use Rattle.refusal_laws.proofs.TableDecisions.{unit_table-decided}
use Rattle.refusal_laws.proofs.UnitDecisions.{header-some, unit-decided}

-- a unit section among those of debug data
record Among (d : DebugData) (z : UnitSection) : Type 0 where
  before : List UnitSection
  behind : List UnitSection
  is : d.found Info ≡ before ++ z ∷ behind

-- ### A unit

-- a unit that can be read whole
record WholeUnit (d : DebugData) (z : UnitSection) (start : ℕ) : Type 0 where
  header : UnitHeader
  list : List Abbreviation
  items : List Scanned
  is : IsUnit d.base z start header
  declares : IsUnitTable d.base header list
  scans : AreEntries header list (bytes_up_to z header) items

has-unit : (d : DebugData) (z : UnitSection) (a : Among d z) (xs : List UnitHeader) (start : ℕ) (u : HasUnitAt d.base z start) → UnitsScanned d.base z xs start
    → HasUnit d z u.header
has-unit d z a xs start u s = record {
  before = a.before;
  behind = a.behind;
  sections = a.is;
  list = xs;
  start = start;
  units = scanned-units d.base z xs start s;
  is = u.is;
}

entries-whole : (d : DebugData) (z : UnitSection) (start : ℕ) (u : HasUnitAt d.base z start) (t : HasUnitTable d.base u.header) → HasUnit d z u.header
    → Decided (HasEntries u.header t.list (bytes_up_to z u.header)) (EntryFails u.header t.list (bytes_up_to z u.header)) → Decided (WholeUnit d z start) (DataFails d)
entries-whole d z start u t has (refused r f) = refused r (entries z u.header t.list (record { unit = has; declares = t.is }) f)
entries-whole d z start u t has (taken e) =
    taken (record { header = u.header; list = t.list; items = e.items; is = u.is; declares = t.is; scans = e.are })

table-whole : (d : DebugData) (z : UnitSection) (start : ℕ) (u : HasUnitAt d.base z start) → HasUnit d z u.header
    → Decided (HasUnitTable d.base u.header) (UnitTableFails d.base u.header) → Decided (WholeUnit d z start) (DataFails d)
table-whole d z start u has (refused r f) = refused r (table z u.header has f)
table-whole d z start u has (taken t) = entries-whole d z start u t has (entries-decided u.header t.list (bytes_up_to z u.header))

unit-whole : (d : DebugData) (z : UnitSection) (a : Among d z) (xs : List UnitHeader) (start : ℕ) → UnitsScanned d.base z xs start → start < length z.contents
    → Decided (HasUnitAt d.base z start) (HeaderFails d.base z start) → Decided (WholeUnit d z start) (DataFails d)
unit-whole d z a xs start s before_end (refused r f) =
    refused r (unit z a.before a.behind a.is (unit_fails xs start (scanned-units d.base z xs start s) before_end f))
unit-whole d z a xs start s before_end (taken u) = table-whole d z start u (has-unit d z a xs start u s) (unit_table-decided d.base u.header)

-- ### A section

-- its units can be read whole
record IsScanned (d : DebugData) (z : UnitSection) : Type 0 where
  list : List UnitHeader
  are : AreScanned d.base z list

at-end : (d : DebugData) (z : UnitSection) (xs : List UnitHeader) (start : ℕ) → length z.contents ≤ start → start ≤ length z.contents → UnitsScanned d.base z xs start
    → IsScanned d z
at-end d z xs start past within s =
    let same : start ≡ length z.contents = omega (arith, past, within) in
    record { list = xs; are = subst (UnitsScanned d.base z xs) same s }

-- from a place on, with as many steps as there are bytes
section-from : (d : DebugData) (z : UnitSection) (a : Among d z) (steps : ℕ) (xs : List UnitHeader) (start : ℕ) → length z.contents ≤ start + steps → start ≤ length z.contents
    → UnitsScanned d.base z xs start → Decided (IsScanned d z) (DataFails d)
section-from d z a zero xs start enough within s = taken (at-end d z xs start (omega (arith, enough)) within s)
section-from d z a (suc steps) xs start enough within s =
    by (cases_lt start (length z.contents))
    (λ (before_end : start < length z.contents). unit-whole d z a xs start s before_end (unit-decided d.base z start))
    (λ (u : WholeUnit d z start) (some : start < u.header.end).
    section-from d z a steps (xs ++ u.header ∷ []) u.header.end (omega (arith, enough, some)) u.is.within (more_scanned xs u.header start u.list u.items s u.is u.declares u.scans))
  where
    by_unit : Decided (WholeUnit d z start) (DataFails d) → ((u : WholeUnit d z start) → start < u.header.end → Decided (IsScanned d z) (DataFails d))
        → Decided (IsScanned d z) (DataFails d)
    by_unit (refused r f) go = refused r f
    by_unit (taken u) go = go u (header-some d.base z start u.header u.is.header)

    by : (start < length z.contents) ⊎ (length z.contents ≤ start) → (start < length z.contents → Decided (WholeUnit d z start) (DataFails d))
        → ((u : WholeUnit d z start) → start < u.header.end → Decided (IsScanned d z) (DataFails d)) → Decided (IsScanned d z) (DataFails d)
    by (inl before_end) one go = by_unit (one before_end) go
    by (inr past) one go = taken (at-end d z xs start past within s)

-- ### All sections

-- all of a list can be read whole
data AllScanned (d : DebugData) : List UnitSection → Type 0 where
  none_left : AllScanned d []
  one_more : (z : UnitSection) (zs : List UnitSection) → IsScanned d z → AllScanned d zs → AllScanned d (z ∷ zs)

sections-from : (d : DebugData) (front zs : List UnitSection) → d.found Info ≡ front ++ zs → Decided (AllScanned d zs) (DataFails d)
sections-from d front [] e = taken none_left
sections-from d front (z ∷ zs) e =
    by (section-from d z (record { before = front; behind = zs; is = e }) (length z.contents) [] 0 (omega arith) (omega arith) none_scanned)
    (sections-from d (front ++ z ∷ []) zs (e ∙ sym (append_assoc front (z ∷ []) zs)))
  where
    by : Decided (IsScanned d z) (DataFails d) → Decided (AllScanned d zs) (DataFails d) → Decided (AllScanned d (z ∷ zs)) (DataFails d)
    by (refused r f) rest = refused r f
    by (taken s) (refused r f) = refused r f
    by (taken s) (taken all) = taken (one_more z zs s all)

-- sections that can be read whole are pieces
record HasReadings (base : UnitBase) (first : ℕ) (zs : List UnitSection) : Type 0 where
  units : Readings
  read : ReadsAll base first zs units

all-pieces : (d : DebugData) (first : ℕ) (zs : List UnitSection) → AllScanned d zs → HasReadings d.base first zs
all-pieces d first [] none_left = record { units = []; read = tt }
all-pieces d first (z ∷ zs) (one_more _ _ s all) =
    let own : SectionPieces d.base z first = section-reads d.base z first s.list s.are in
    let rest = all-pieces d (first + units_in own.pieces) zs all in
    record { units = record { number = z.number; pieces = own.pieces } ∷ rest.units; read = (refl, own.reads, rest.read) }

pub data-decided : (d : DebugData) → Decided (HasUnitReadings d) (DataFails d)
data-decided d =
    decided-by
    (λ (all : AllScanned d (d.found Info)). let r : HasReadings d.base 0 (d.found Info) = all-pieces d 0 (d.found Info) all in record { units = r.units; read = r.read })
    (sections-from d [] (d.found Info) refl)
