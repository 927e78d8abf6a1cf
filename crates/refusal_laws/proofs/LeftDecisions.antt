-- The relocations on the fields of debug data that are pieces may stand where they do, or a condition holds (gABI ch. 4 "Relocation").
use Rattle.std.proofs.Common.{◌≡◌, ℕ, ◌+◌, List, [], ◌∷◌, ◌++◌, length, refl, sym, ap, ◌∙◌, subst, arith, append_assoc}
use Rattle.dw_base.specs.Cells.{CellSection}
use Rattle.dw_base.specs.DebugData.{DataReadings, DebugData, ReadsAll, line_source, units_in}
use Rattle.dw_base.specs.LineFields.{line_fields, table_fields}
use Rattle.dw_base.specs.LineReadings.{AreTables, LineReading, ReadsTable, TablesTo}
use Rattle.dw_base.specs.LineSources.{LineSource}
use Rattle.dw_base.specs.MacroPieces.{MacroState, ReadsMacros}
use Rattle.dw_base.specs.MacroReadings.{MacroReading, ReadsAllMacros}
use Rattle.dw_base.specs.NamePieces.{NameState}
use Rattle.dw_base.specs.OffsetPieces.{OffsetState}
use Rattle.dw_base.specs.Pieces.{Piece}
use Rattle.dw_base.specs.Readings.{Readings}
use Rattle.dw_base.specs.RelocationRows.{FieldsRead, HeaderReads, macro_fields, name_fields, slot_fields, unit_fields}
use Rattle.dw_base.specs.UnitHeaders.{UnitSection}
use Rattle.dw_base.specs.UnitPieces.{ReadsUnits}
use Rattle.dw_base.specs.UnitStates.{UnitState}
use Rattle.dw_base.specs.declared.debug_sections.DebugSection.TheVariants.{Info, Line, Macro, Names, StrOffsets}
use Rattle.dw_base.specs.declared.shared.Order.{Order}
use Rattle.dw_meaning.specs.RelocationFails.{LeftRelocationsFail, LeftRelocationsRead}
use Rattle.dw_meaning.specs.RelocationFails.LeftRelocationsFail.{line_header, lines, macros, names, slots, units}
use Rattle.dw_meaning.proofs.DataOneLaws.{names-one, offsets-one}
use Rattle.dw_meaning.proofs.LineOneLaws.{table-one, tables-behind, tables-one}
use Rattle.dw_meaning.proofs.MacroReadLaws.{all-macros-one}
use Rattle.dw_meaning.proofs.UnitNumberLaws.{same-fields}
use Rattle.refusal_laws.specs.Decided.{Both, Decided}
use Rattle.refusal_laws.specs.Readable.{ArePieces}
use Rattle.refusal_laws.proofs.Decisions.{decided-among, decided-both, decided-by}
use Rattle.refusal_laws.proofs.FieldDecisions.{fields-decided, header-decided}
use Rattle.refusal_laws.proofs.LineDecisions.{Lies, table-lies}
use Rattle.refusal_laws.proofs.ListDecisions.{Among, Each, decided-list, decided-pair, each-among}

-- ### Units

-- the fields of a unit section that was read
record UnitsHold (d : DebugData) (moving : List ℕ) (z : UnitSection) : Type 0 where
  first : ℕ
  pieces : List (Piece UnitState)
  reads : ReadsUnits d.base z first pieces
  fields : FieldsRead d.base.order z.contents moving (unit_fields d.base.order pieces)

units-known : (d : DebugData) (moving : List ℕ) (first : ℕ) (front zs : List UnitSection) (rs : Readings) → d.found Info ≡ front ++ zs → ReadsAll d.base first zs rs
    → Decided (Each (UnitsHold d moving) zs) (LeftRelocationsFail d moving)
units-known d moving first front [] rs e reads = Decided.taken tt
units-known d moving first front (z ∷ zs) [] e reads = absurd reads
units-known d moving first front (z ∷ zs) (r ∷ rs) e reads =
    decided-pair
    (decided-by
    (λ (h : FieldsRead d.base.order z.contents moving (unit_fields d.base.order r.pieces)). record { first = first; pieces = r.pieces; reads = reads.1; fields = h })
    (decided-among (λ s f. units front zs z first r.pieces e reads.1 f) (fields-decided d.base.order z.number z.contents moving (unit_fields d.base.order r.pieces))))
    (units-known d moving (first + units_in r.pieces) (front ++ z ∷ []) zs rs (e ∙ sym (append_assoc front (z ∷ []) zs)) reads.2)

-- ### Macro units

record MacrosHold (d : DebugData) (moving : List ℕ) (z : CellSection) : Type 0 where
  pieces : List (Piece MacroState)
  reads : ReadsMacros d.base.order z.contents pieces
  fields : FieldsRead d.base.order z.contents moving (macro_fields pieces)

macros-known : (d : DebugData) (moving : List ℕ) (front zs : List CellSection) (rs : List MacroReading) → d.found Macro ≡ front ++ zs → ReadsAllMacros d.base.order zs rs
    → Decided (Each (MacrosHold d moving) zs) (LeftRelocationsFail d moving)
macros-known d moving front [] rs e reads = Decided.taken tt
macros-known d moving front (z ∷ zs) [] e reads = absurd reads
macros-known d moving front (z ∷ zs) (r ∷ rs) e reads =
    decided-pair
    (decided-by (λ (h : FieldsRead d.base.order z.contents moving (macro_fields r.pieces)). record { pieces = r.pieces; reads = reads.1; fields = h })
    (decided-among (λ s f. macros front zs z r.pieces e reads.1 f) (fields-decided d.base.order z.number z.contents moving (macro_fields r.pieces))))
    (macros-known d moving (front ++ z ∷ []) zs rs (e ∙ sym (append_assoc front (z ∷ []) zs)) reads.2)

first-same : (r q : MacroReading) → ◌≡◌ {A = List MacroReading} (r ∷ []) (q ∷ []) → r ≡ q
first-same r q e = cc

macros-one : (order : Order) (z : CellSection) (xs ys : List (Piece MacroState)) → ReadsMacros order z.contents xs → ReadsMacros order z.contents ys → xs ≡ ys
macros-one order z xs ys r t =
    ap (λ (m : MacroReading). m.pieces)
    (first-same (record { number = z.number; pieces = xs }) (record { number = z.number; pieces = ys })
    (all-macros-one order (z ∷ []) (record { number = z.number; pieces = xs } ∷ []) (record { number = z.number; pieces = ys } ∷ []) (refl, r, tt) (refl, t, tt)))

-- ### Line tables

-- one of tables that stand one after another
record LineStands (g : LineSource) (p : ℕ) (before : List LineReading) (t : LineReading) : Type 0 where
  start : ℕ
  tables : TablesTo g p before start
  reads : ReadsTable g start t

line-stands : (g : LineSource) (p e : ℕ) (before behind : List LineReading) (t : LineReading) → TablesTo g p (before ++ t ∷ behind) e → LineStands g p before t
line-stands g p e [] behind t h = record { start = p; tables = refl; reads = h.0 }
line-stands g p e (x ∷ xs) behind t h =
    let rest : LineStands g x.header.end xs t = line-stands g x.header.end e xs behind t h.1 in
    record { start = rest.start; tables = (h.0, rest.tables); reads = rest.reads }

-- a table behind tables that can be read is one of those that fill the section
table-met : (g : LineSource) (p e start : ℕ) (all before : List LineReading) (t : LineReading) → e ≡ length g.bytes → TablesTo g p all e → TablesTo g p before start
    → ReadsTable g start t → Among all t
table-met g p e start [] [] t size a b r =
    let lies : Lies g start t.header.end = table-lies g start t.header r.header in
    absurd (omega (arith, a, b, size, lies.some, lies.within))
table-met g p e start [] (y ∷ ys) t size a b r =
    let far = tables-behind g p start (y ∷ ys) b in
    let lies : Lies g start t.header.end = table-lies g start t.header r.header in
    absurd (omega (arith, a, far, size, lies.some, lies.within))
table-met g p e start (x ∷ xs) [] t size a b r =
    let same : x ≡ t = table-one g start x t (subst (λ (i : ℕ). ReadsTable g i x) b a.0) r in
    record { before = []; behind = xs; is = ap (λ (y : LineReading). y ∷ xs) same }
table-met g p e start (x ∷ xs) (y ∷ ys) t size a b r =
    let same : y ≡ x = table-one g p y x b.0 a.0 in
    let rest : Among xs t = table-met g x.header.end e start xs ys t size a.1 (subst (λ (u : LineReading). TablesTo g u.header.end ys start) same b.1) r in
    record { before = x ∷ rest.before; behind = rest.behind; is = ap (λ (zs : List LineReading). x ∷ zs) rest.is }

abbrev HeaderHolds : DebugData → LineReading → Type 0
HeaderHolds d t = HeaderReads t.header.start t.behind (d.found Line).contents (table_fields (line_source d) t)

headers-known : (d : DebugData) (moving : List ℕ) (ts : List LineReading) → AreTables (line_source d) ts → Decided (Each (HeaderHolds d) ts) (LeftRelocationsFail d moving)
headers-known d moving ts tables =
    decided-list {P = HeaderHolds d} {F = LeftRelocationsFail d moving} ts
    (λ (t : LineReading) (a : Among ts t).
    let s : LineStands (line_source d) 0 a.before t =
    line-stands (line_source d) 0 (length (line_source d).bytes) a.before a.behind t
    (subst (λ (us : List LineReading). TablesTo (line_source d) 0 us (length (line_source d).bytes)) a.is tables) in
    decided-among (λ r f. line_header a.before s.start t s.tables s.reads f)
    (header-decided (d.found Line).number t.header.start t.behind (d.found Line).contents (table_fields (line_source d) t)))

-- ### All

pub left-decided : (d : DebugData) (moving : List ℕ) (r : DataReadings) → ArePieces d r → Decided (LeftRelocationsRead d moving) (LeftRelocationsFail d moving)
left-decided d moving r p =
    decided-by
    (λ (b : Both (Each (UnitsHold d moving) (d.found Info)) (Both (FieldsRead d.base.order (d.found StrOffsets).contents moving (slot_fields r.offsets))
    (Both (FieldsRead d.base.order (d.found Names).contents moving (name_fields r.names)) (Both (Each (MacrosHold d moving) (d.found Macro))
    (Both (FieldsRead d.base.order (d.found Line).contents moving (line_fields (line_source d) r.lines)) (Each (HeaderHolds d) r.lines)))))).
    record {
      units = λ before behind z first xs split reads.
          let h : UnitsHold d moving z = each-among (UnitsHold d moving) (d.found Info) z (record { before = before; behind = behind; is = split }) b.first in
          subst (FieldsRead d.base.order z.contents moving) (same-fields d.base.order d.base z h.first first h.pieces xs h.reads reads) h.fields;
      slots = λ xs reads.
          subst (λ (ys : List (Piece OffsetState)). FieldsRead d.base.order (d.found StrOffsets).contents moving (slot_fields ys))
          (offsets-one d.base.order (d.found StrOffsets).contents r.offsets xs p.offsets reads) b.second.first;
      names = λ xs reads.
          subst (λ (ys : List (Piece NameState)). FieldsRead d.base.order (d.found Names).contents moving (name_fields ys))
          (names-one d.base.order (d.found Names).contents r.names xs p.names reads) b.second.second.first;
      macros = λ before behind z xs split reads.
          let h : MacrosHold d moving z = each-among (MacrosHold d moving) (d.found Macro) z (record { before = before; behind = behind; is = split }) b.second.second.second.first in
          subst (λ (ys : List (Piece MacroState)). FieldsRead d.base.order z.contents moving (macro_fields ys)) (macros-one d.base.order z h.pieces xs h.reads reads) h.fields;
      lines = λ ts tables.
          subst (λ (us : List LineReading). FieldsRead d.base.order (d.found Line).contents moving (line_fields (line_source d) us))
          (tables-one (line_source d) 0 (length (line_source d).bytes) r.lines ts p.lines tables) b.second.second.second.second.first;
      line_headers = λ before start t tables reads.
          each-among (HeaderHolds d) r.lines t (table-met (line_source d) 0 (length (line_source d).bytes) start r.lines before t refl p.lines tables reads)
          b.second.second.second.second.second;
    })
    (decided-both (units-known d moving 0 [] (d.found Info) r.units refl p.units) (λ u.
    decided-both
    (decided-among (λ s f. slots r.offsets p.offsets f)
    (fields-decided d.base.order (d.found StrOffsets).number (d.found StrOffsets).contents moving (slot_fields r.offsets))) (λ o.
    decided-both
    (decided-among (λ s f. names r.names p.names f) (fields-decided d.base.order (d.found Names).number (d.found Names).contents moving (name_fields r.names))) (λ n.
    decided-both (macros-known d moving [] (d.found Macro) r.macros refl p.macros) (λ m.
    decided-both
    (decided-among (λ s f. lines r.lines p.lines f)
    (fields-decided d.base.order (d.found Line).number (d.found Line).contents moving (line_fields (line_source d) r.lines))) (λ l.
    headers-known d moving r.lines p.lines))))))
