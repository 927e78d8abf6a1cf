-- Debug data that can be read excludes the refusals of units, tables and entries.
use Rattle.std.proofs.Common.{◌≡◌, ◌≢◌, ◌⊎◌, inl, inr, ℕ, ◌+◌, ◌<◌, ◌≤◌, List, [], ◌∷◌, ◌++◌, length, drop, Some, None, refl, sym, ap, ◌∙◌, subst, arith}
use Rattle.std.specs.Bool.{⊤}
use Rattle.std.proofs.lemmas.Bool.{cases_eq, cases_lt}
use Rattle.std.proofs.lemmas.List.{drop_all, length-take}
use Rattle.dw_base.specs.AbbreviationTables.{Abbreviation}
use Rattle.dw_base.specs.Cells.{bytes_of}
use Rattle.dw_meaning.specs.DataFails.{DataFails, unit as unit_row, table as table_row, entries as entries_row}
use Rattle.dw_meaning.specs.DataOutput.{DataReads}
use Rattle.dw_base.specs.DebugData.{DebugData, DataReadings, units_in, ReadsAll}
use Rattle.dw_base.specs.Readings.{Readings, EachReading}
use Rattle.dw_base.specs.EntryScans.{AreEntries}
use Rattle.dw_base.specs.EntryValues.{HasUnit, bytes_up_to}
use Rattle.dw_base.specs.Pieces.{Piece, EachPiece}
use Rattle.dw_base.specs.UnitHeaders.{UnitBase, UnitSection, header_at, unit_header, IsUnit, UnitsUpTo, no_units, more_units}
use Rattle.dw_base.specs.UnitPieces.{ReadsUnits}
use Rattle.dw_meaning.specs.UnitScans.{UnitsScanned, none_scanned, more_scanned}
use Rattle.dw_base.specs.UnitStates.{UnitState}
use Rattle.dw_base.specs.UnitTables.{IsUnitTable}
use Rattle.dw_base.specs.declared.fault.Refusal.{Refusal}
use Rattle.dw_base.specs.declared.units.Scanned.{Scanned}
use Rattle.dw_base.specs.declared.units.UnitHeader.{UnitHeader}
use Rattle.dw_base.proofs.AbbreviationLaws.{table-one}
use Rattle.dw_base.proofs.AbbreviationRowLaws.{unit_table-excludes}
use Rattle.dw_meaning.proofs.EntryRowLaws.{entries-exclude}
use Rattle.dw_base.proofs.ReachLaws.{Reaches, here, on, reach-total}
use Rattle.dw_meaning.proofs.ScanBackLaws.{section-scanned}
use Rattle.dw_meaning.proofs.ScanSectionLaws.{HeaderPlaced, header-placed}
use Rattle.dw_meaning.proofs.UnitOneLaws.{header-tests, header-shorter}
use Rattle.dw_base.proofs.UnitRowLaws.{UnitsRead, read_to, NextUnit, header-same, next-determined, units-reach, no_cells-header, units-exclude}
use Rattle.dw_base.specs.declared.debug_sections.DebugSection.TheVariants.{Info}

-- units with tables and entries are units
pub scanned-units : (base : UnitBase) (z : UnitSection) (list : List UnitHeader) (place : ℕ) → UnitsScanned base z list place → UnitsUpTo base z list place
scanned-units base z list place none_scanned = no_units
scanned-units base z all y (more_scanned list h start table items s u t e) = more_units list h start (scanned-units base z list start s) u

-- a unit starts before it ends
unit-forward : (base : UnitBase) (z : UnitSection) (start : ℕ) (h : UnitHeader) → IsUnit base z start h → start ≤ h.end
unit-forward base z start h u =
    let placed : HeaderPlaced z start h = header-placed base z start h u.header in
    let test = header-tests base z.kind z.number start (drop start z.contents) h u.header in
    let shorter : h.first ≤ h.end = header-shorter z.kind (drop start z.contents) h test in
    omega (arith, placed.behind, shorter)

-- units are reached forward
forward : (base : UnitBase) (z : UnitSection) (s t : UnitsRead) → Reaches (NextUnit base z) s t → s.place ≤ t.place
forward base z s t (here r) = omega arith
forward base z s t (on p q r n rest) =
    let one : p.place ≤ n.header.end = unit-forward base z p.place n.header n.is in
    let place : q.place ≡ n.header.end = ap (λ (x : UnitsRead). x.place) n.next in
    let more : q.place ≤ r.place = forward base z q r rest in
    omega (arith, one, place, more)

-- a unit in a section whose units have been read whole
pub record WholeUnit (base : UnitBase) (z : UnitSection) (start : ℕ) (h : UnitHeader) : Type 0 where
  pub list : List UnitHeader
  pub before : UnitsScanned base z list start
  pub table : List Abbreviation
  pub is : IsUnitTable base h table
  pub items : List Scanned
  pub entries : AreEntries h table (bytes_up_to z h) items

pub whole-unit : (base : UnitBase) (z : UnitSection) (list scanned : List UnitHeader) (start place : ℕ) (h : UnitHeader) → UnitsUpTo base z list start
    → IsUnit base z start h → UnitsScanned base z scanned place → start < place → WholeUnit base z start h
whole-unit base z list scanned start place h up u none_scanned lt = absurd (omega arith)
whole-unit base z list all start y h up u (more_scanned scanned g at table items s v t e) lt =
    by_place (cases_eq start at) (λ below. whole-unit base z list scanned start at h up u s below)
  where
    same : start ≡ at → WholeUnit base z start h
    same here_ =
        let own : IsUnit base z start g = subst (λ (n : ℕ). IsUnit base z n g) (sym here_) v in
        let one : g ≡ h = header-same g h (header_at base z start) own.header u.header in
        let whole : WholeUnit base z start g =
        record { list = scanned; before = subst (λ (n : ℕ). UnitsScanned base z scanned n) (sym here_) s; table = table; is = t; items = items; entries = e } in
        subst (λ (x : UnitHeader). WholeUnit base z start x) one whole

    by_reach : start ≢ at → (start < at → WholeUnit base z start h)
        → Reaches (NextUnit base z) (read_to list start) (read_to scanned at) ⊎ Reaches (NextUnit base z) (read_to scanned at) (read_to list start) → WholeUnit base z start h
    by_reach other rest (inl r) =
        let le : start ≤ at = forward base z (read_to list start) (read_to scanned at) r in
        rest (lt_of_ne start at le other)
      where
        lt_of_ne : (m n : ℕ) → m ≤ n → m ≢ n → m < n
        lt_of_ne m n le ne = grind (arith, le, ne)
    by_reach other rest (inr r) = absurd (past (read_to scanned at) (read_to list start) refl refl r)
      where
        past : (a b : UnitsRead) → a ≡ read_to scanned at → b ≡ read_to list start → Reaches (NextUnit base z) a b → ⊥
        past a b ea eb (here r) = other (sym (ap (λ (x : UnitsRead). x.place) (sym ea ∙ eb)))
        past a b ea eb (on p q r n others) =
            let first : p.place ≡ at = ap (λ (x : UnitsRead). x.place) ea in
            let is : IsUnit base z at n.header = subst (λ (m : ℕ). IsUnit base z m n.header) first n.is in
            let one : n.header ≡ g = header-same n.header g (header_at base z at) is.header v.header in
            let place : q.place ≡ g.end = ap (λ (x : UnitsRead). x.place) n.next ∙ ap (λ (x : UnitHeader). x.end) one in
            let more : q.place ≤ r.place = forward base z q r others in
            let last : r.place ≡ start = ap (λ (x : UnitsRead). x.place) eb in
            omega (arith, place, more, last, lt)

    by_place : (start ≡ at) ⊎ (start ≡ at → ⊥) → (start < at → WholeUnit base z start h) → WholeUnit base z start h
    by_place (inl here_) rest = same here_
    by_place (inr other) rest =
        by_reach other rest
        (reach-total (NextUnit base z) (next-determined base z) (read_to [] 0) (read_to list start) (read_to scanned at)
        (units-reach base z list start up) (units-reach base z scanned at (scanned-units base z scanned at s)))

-- the pieces of one section among all
pub record SectionRead (base : UnitBase) (z : UnitSection) (P : Piece UnitState → Type 0) : Type 0 where
  pub first : ℕ
  pub pieces : List (Piece UnitState)
  pub reads : ReadsUnits base z first pieces
  pub each : EachPiece P pieces

pub section-among : (base : UnitBase) (P : Piece UnitState → Type 0) (first : ℕ) (before behind : List UnitSection) (z : UnitSection) (rs : Readings)
    → ReadsAll base first (before ++ z ∷ behind) rs → EachReading P rs → SectionRead base z P
section-among base P first [] behind z [] reads each = absurd reads
section-among base P first [] behind z (r ∷ rs) reads each = record { first = first; pieces = r.pieces; reads = reads.1; each = each.0 }
section-among base P first (y ∷ ys) behind z [] reads each = absurd reads
section-among base P first (y ∷ ys) behind z (r ∷ rs) reads each = section-among base P (first + units_in r.pieces) ys behind z rs reads.2 each.1

abbrev Any : Piece UnitState → Type 0
Any x = ⊤

any-pieces : (xs : List (Piece UnitState)) → EachPiece Any xs
any-pieces [] = tt
any-pieces (x ∷ xs) = (tt, any-pieces xs)

any-readings : (rs : Readings) → EachReading Any rs
any-readings [] = tt
any-readings (r ∷ rs) = (any-pieces r.pieces, any-readings rs)

section-of : (d : DebugData) (rs : DataReadings) (z : UnitSection) (before behind : List UnitSection) → DataReads d rs → d.found Info ≡ before ++ z ∷ behind
    → SectionRead d.base z Any
section-of d rs z before behind reads split =
    section-among d.base Any 0 before behind z rs.units (subst (λ (zs : List UnitSection). ReadsAll d.base 0 zs rs.units) split reads.units) (any-readings rs.units)

-- a unit starts inside its section
unit-inside : (base : UnitBase) (z : UnitSection) (start : ℕ) (h : UnitHeader) → header_at base z start ≡ Some h → start < length z.contents
unit-inside base z start h e = by_order (cases_lt start (length z.contents))
  where
    none : length z.contents ≤ start → header_at base z start ≡ None
    none past = ap (unit_header base z.kind z.number start) (drop_all start z.contents past) ∙ no_cells-header base z.kind z.number start

    clash : header_at base z start ≡ None → ⊥
    clash f = cc

    by_order : (start < length z.contents) ⊎ (length z.contents ≤ start) → start < length z.contents
    by_order (inl lt) = lt
    by_order (inr past) = absurd (clash (none past))

-- a unit of debug data that can be read is whole
pub unit-whole : (d : DebugData) (rs : DataReadings) (z : UnitSection) (h : UnitHeader) → DataReads d rs → (u : HasUnit d z h) → WholeUnit d.base z u.start h
unit-whole d rs z h reads u =
    let s : SectionRead d.base z Any = section-of d rs z u.before u.behind reads u.sections in
    let all = section-scanned d.base z s.first s.pieces s.reads in
    whole-unit d.base z u.list all.0 u.start (length z.contents) h u.units u.is all.1 (unit-inside d.base z u.start h u.is.header)

-- so debug data that can be read has none of the refusals
pub data-excludes : (d : DebugData) (rs : DataReadings) (r : Refusal) → DataReads d rs → DataFails d r → ⊥
data-excludes d rs r reads (unit_row z before behind split f) =
    let s : SectionRead d.base z Any = section-of d rs z before behind reads split in
    let all = section-scanned d.base z s.first s.pieces s.reads in
    units-exclude d.base z all.0 r (scanned-units d.base z all.0 (length z.contents) all.1) f
data-excludes d rs r reads (table_row z h u f) =
    let w : WholeUnit d.base z u.start h = unit-whole d rs z h reads u in
    unit_table-excludes d.base h w.table r w.is f
data-excludes d rs r reads (entries_row z h list t f) =
    let w : WholeUnit d.base z t.unit.start h = unit-whole d rs z h reads t.unit in
    let same : w.table ≡ list = table-one d.base.abbrevs.bytes h.abbrevs w.table list w.is.is t.declares.is in
    let entries : AreEntries h list (bytes_up_to z h) w.items = subst (λ (xs : List Abbreviation). AreEntries h xs (bytes_up_to z h) w.items) same w.entries in
    entries-exclude h list (bytes_up_to z h) w.items r (omega (arith, length-take h.end (bytes_of z.contents))) entries f
