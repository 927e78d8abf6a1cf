-- The pieces of a section that are met: up to an entry of a unit, its code, and a value of it. What holds of each piece of the section holds of them.
use Rattle.std.proofs.Common.{Bool, true, false, ◌≡◌, ◌≢◌, ℕ, ◌+◌, ◌≤◌, List, ◌∷◌, ◌++◌, length, take, drop, Some, None, refl, sym, ap, ◌∙◌, subst, arith}
use Rattle.std.proofs.lemmas.Bool.{ne_eqb}
use Rattle.std.proofs.lemmas.List.{length-take}
use Rattle.dw_base.specs.AbbreviationBytes.{abbreviations_at}
use Rattle.dw_base.specs.AbbreviationTables.{Abbreviation, abbreviation_of}
use Rattle.dw_base.specs.Cells.{bytes_of}
use Rattle.dw_base.specs.DebugData.{DebugData, DataReadings, ReadsAll}
use Rattle.dw_base.specs.EntryScans.{Scans, depth_behind, is_split_root, split as split_row}
use Rattle.dw_base.specs.EntryValues.{HasTable, HasValue, bytes_up_to}
use Rattle.dw_base.specs.Forms.{form_in_front, kind_in}
use Rattle.dw_base.specs.Pieces.{Piece}
use Rattle.dw_base.specs.Readings.{EachReading}
use Rattle.dw_base.specs.UnitHeaders.{UnitBase, UnitSection}
use Rattle.dw_base.specs.Lebs.{uleb_at}
use Rattle.dw_base.specs.UnitPieces.{IsCode, may_stand}
use Rattle.dw_base.specs.UnitStates.{UnitState, at_chosen, at_code, at_values, between, code_value, in_unit, inside, of_chosen, past}
use Rattle.dw_base.specs.declared.units.Scanned.{Scanned}
use Rattle.dw_base.specs.Values.{value_of}
use Rattle.dw_base.specs.declared.units.UnitHeader.{UnitHeader}
use Rattle.dw_base.specs.declared.values.Spec.{Spec}
use Rattle.dw_base.specs.declared.values.Value.{Value}
use Rattle.dw_base.proofs.AbbreviationLaws.{table-found, table-one}
use Rattle.dw_meaning.proofs.DataRowLaws.{SectionRead, WholeUnit, section-among, unit-whole}
use Rattle.dw_meaning.proofs.EntryRowLaws.{entries-exclude, past-number}
use Rattle.dw_meaning.proofs.ScanPieceLaws.{Chosen, NumberPiece, Run, number-piece, chosen-run, front-run, own-run, run-more, run-one}
use Rattle.dw_meaning.proofs.ScanSectionLaws.{before, header-placed, header-run, in_headed, units-run}
use Rattle.dw_meaning.proofs.ScanUnitLaws.{code-run, scan-run, values-run}
use Rattle.dw_meaning.proofs.ValueRowLaws.{each-met}
use Rattle.dw_meaning.specs.DataOutput.{DataReads}

-- the pieces up to an entry of a unit
pub to-entry : (d : DebugData) (z : UnitSection) (h : UnitHeader) (list : List Abbreviation) (first : ℕ) (items : List Scanned) (place depth : ℕ) (t : HasTable d z h list)
    → (w : WholeUnit d.base z t.unit.start h) → Scans h list (bytes_up_to z h) items place depth
    → Run d.base z.contents (before z 0 first) (between (in_headed d.base z t.unit.start (first + length w.list) h) place (length items) depth) 0 place
to-entry d z h list first items place depth t w scans =
    let found : abbreviations_at d.base.abbrevs.bytes h.abbrevs ≡ list = table-found d.base.abbrevs.bytes h.abbrevs list t.declares.is in
    let one = units-run d.base z first w.list t.unit.start w.before in
    let two = header-run d.base z t.unit.start (first + length w.list) h w.table t.unit.is (header-placed d.base z t.unit.start h t.unit.is.header) w.is in
    let own : Scans h (abbreviations_at d.base.abbrevs.bytes h.abbrevs) (bytes_up_to z h) items place depth =
    subst (λ (xs : List Abbreviation). Scans h xs (bytes_up_to z h) items place depth) (sym found) scans in
    let three = scan-run d.base z.contents (in_headed d.base z t.unit.start (first + length w.list) h) items place depth own in
    run-more d.base z.contents _ _ _ 0 h.first place (run-more d.base z.contents _ _ _ 0 t.unit.start h.first one two) three

-- and up to a value
pub record ToValue (base : UnitBase) (z : UnitSection) (first : ℕ) (h : UnitHeader) (start unit number tag : ℕ) (x : Spec) (place : ℕ) : Type 0 where
  pub e : ℕ
  pub d : ℕ
  pub behind : List Spec
  pub run : Run base z.contents (before z 0 first) (in_unit (in_headed base z start unit h) place e d (at_values number tag (x ∷ behind))) 0 place

pub unsplit : (d : DebugData) (rs : DataReadings) (z : UnitSection) (h : UnitHeader) (list : List Abbreviation) (number : ℕ) (a : Abbreviation) (x : Spec) (place : ℕ) (v : Value)
    → DataReads d rs → HasTable d z h list → (y : HasValue h list (bytes_up_to z h) number a x place v) → is_split_root (length y.items) a ≡ false
unsplit d rs z h list number a x place v reads t y = by_split (is_split_root (length y.items) a) refl
  where
    w : WholeUnit d.base z t.unit.start h
    w = unit-whole d rs z h reads t.unit

    by_split : (b : Bool) → is_split_root (length y.items) a ≡ b → b ≡ false
    by_split false is = refl
    by_split true is =
        let same : w.table ≡ list = table-one d.base.abbrevs.bytes h.abbrevs w.table list w.is.is t.declares.is in
        absurd (entries-exclude h list (bytes_up_to z h) w.items _ (omega (arith, length-take h.end (bytes_of z.contents)))
        (subst (λ (xs : List Abbreviation). Scans h xs (bytes_up_to z h) w.items h.end 0) same w.entries)
        (split_row y.items y.start y.depth y.code y.size a y.scans y.spells y.some y.listed is))

pub to-value : (d : DebugData) (rs : DataReadings) (z : UnitSection) (h : UnitHeader) (list : List Abbreviation) (number : ℕ) (a : Abbreviation) (x : Spec) (place : ℕ) (v : Value) (first : ℕ)
    → DataReads d rs → (t : HasTable d z h list) → (w : WholeUnit d.base z t.unit.start h) → HasValue h list (bytes_up_to z h) number a x place v
    → ToValue d.base z first h t.unit.start (first + length w.list) number a.tag x place
to-value d rs z h list number a x place v first reads t w y =
    let found : abbreviations_at d.base.abbrevs.bytes h.abbrevs ≡ list = table-found d.base.abbrevs.bytes h.abbrevs list t.declares.is in
    let root : is_split_root (length y.items) a ≡ false = unsplit d rs z h list number a x place v reads t y in
    let front = to-entry d z h list first y.items y.start y.depth t w y.scans in
    let listed : abbreviation_of (abbreviations_at d.base.abbrevs.bytes h.abbrevs) y.code ≡ Some a = ap (λ (xs : List Abbreviation). abbreviation_of xs y.code) found ∙ y.listed in
    let code = code-run d.base z.contents (in_headed d.base z t.unit.start (first + length w.list) h) y.start (length y.items) y.depth y.code y.size a y.spells y.some listed root in
    let values : Run d.base z.contents
    (inside (in_headed d.base z t.unit.start (first + length w.list) h) (y.start + y.size) (length y.items + 1) (depth_behind a y.depth) (length y.items) a.tag a.specs)
    (inside (in_headed d.base z t.unit.start (first + length w.list) h) place (length y.items + 1) (depth_behind a y.depth) (length y.items) a.tag (x ∷ y.behind))
    (y.start + y.size) place =
    subst (λ (xs : List Spec). Run d.base z.contents
    (inside (in_headed d.base z t.unit.start (first + length w.list) h) (y.start + y.size) (length y.items + 1) (depth_behind a y.depth) (length y.items) a.tag xs)
    (inside (in_headed d.base z t.unit.start (first + length w.list) h) place (length y.items + 1) (depth_behind a y.depth) (length y.items) a.tag (x ∷ y.behind))
    (y.start + y.size) place) (sym y.attribute)
    (values-run d.base z.contents (in_headed d.base z t.unit.start (first + length w.list) h) (y.start + y.size) (length y.items + 1) (depth_behind a y.depth) (length y.items) a.tag
    y.before (x ∷ y.behind) place y.values) in
    let all = run-more d.base z.contents _ _ _ 0 (y.start + y.size) place (run-more d.base z.contents _ _ _ 0 y.start (y.start + y.size) front code) values in
    subst (λ (n : ℕ). ToValue d.base z first h t.unit.start (first + length w.list) n a.tag x place) y.nth
    (record { e = length y.items + 1; d = depth_behind a y.depth; behind = y.behind; run = all })

-- what holds of each piece holds of the value's
pub own-met : (base : UnitBase) (z : UnitSection) (P : Piece UnitState → Type 0) (r : SectionRead base z P) (h : UnitHeader) (start unit number tag : ℕ) (x : Spec) (place : ℕ) (v : Value)
    → (w : ToValue base z r.first h start unit number tag x place) → kind_in h.params x.form ≢ form_in_front
    → value_of (kind_in h.params x.form) h.params.order (bytes_up_to z h) place x.implicit ≡ Some v
    → P (record { state = in_unit (in_headed base z start unit h) place w.e w.d (at_values number tag (x ∷ w.behind)); cells = take v.size (drop place z.contents) })
unfolding run-more run-one own-run
own-met base z P r h start unit number tag x place v w other is =
    let own = own-run base z.contents (in_headed base z start unit h) place w.e w.d number tag x w.behind v other is in
    let all = run-more base z.contents (before z 0 r.first) (in_unit (in_headed base z start unit h) place w.e w.d (at_values number tag (x ∷ w.behind)))
    (inside (in_headed base z start unit h) (place + v.size) w.e w.d number tag w.behind) 0 place (place + v.size) w.run own in
    each-met base z P r (inside (in_headed base z start unit h) (place + v.size) w.e w.d number tag w.behind) w.run.pieces
    (record { state = in_unit (in_headed base z start unit h) place w.e w.d (at_values number tag (x ∷ w.behind)); cells = take v.size (drop place z.contents) })
    (place + v.size) all.leads all.covers

pub chosen-met : (base : UnitBase) (z : UnitSection) (P : Piece UnitState → Type 0) (r : SectionRead base z P) (h : UnitHeader) (start unit number tag : ℕ) (x : Spec) (place : ℕ) (v : Value)
    → (w : ToValue base z r.first h start unit number tag x place) → kind_in h.params x.form ≡ form_in_front → (c : Chosen h.params x (bytes_up_to z h) place v)
    → P (record { state = in_unit (in_headed base z start unit h) (place + c.size) w.e w.d (at_chosen number tag place (of_chosen x c.form) w.behind); cells = take c.value.size (drop (place + c.size) z.contents) })
unfolding run-more run-one chosen-run
chosen-met base z P r h start unit number tag x place v w front c =
    let f = front-run base z.contents (in_headed base z start unit h) place w.e w.d number tag c.form c.size x w.behind front c.spells c.other c.own in
    let l = chosen-run base z.contents (in_headed base z start unit h) (place + c.size) w.e w.d number tag place c.form x w.behind c.value c.is in
    let to = run-more base z.contents (before z 0 r.first) (in_unit (in_headed base z start unit h) place w.e w.d (at_values number tag (x ∷ w.behind)))
    (in_unit (in_headed base z start unit h) (place + c.size) w.e w.d (at_chosen number tag place (of_chosen x c.form) w.behind)) 0 place (place + c.size) w.run f in
    let all = run-more base z.contents (before z 0 r.first) (in_unit (in_headed base z start unit h) (place + c.size) w.e w.d (at_chosen number tag place (of_chosen x c.form) w.behind))
    (inside (in_headed base z start unit h) (place + c.size + c.value.size) w.e w.d number tag w.behind) 0 (place + c.size) (place + c.size + c.value.size) to l in
    each-met base z P r (inside (in_headed base z start unit h) (place + c.size + c.value.size) w.e w.d number tag w.behind) (w.run.pieces ++ f.pieces)
    (record { state = in_unit (in_headed base z start unit h) (place + c.size) w.e w.d (at_chosen number tag place (of_chosen x c.form) w.behind); cells = take c.value.size (drop (place + c.size) z.contents) })
    (place + c.size + c.value.size) all.leads all.covers

-- and of the code's
code-there : (s : UnitState) (place e d : ℕ) → place ≢ s.header.end → between s place e d ≡ in_unit s place e d at_code
unfolding between
code-there s place e d other = rw (ne_eqb place s.header.end other) refl

number-inside : (z : UnitSection) (h : UnitHeader) (place code size : ℕ) → uleb_at (bytes_up_to z h) place ≡ Some (code, size) → place ≢ h.end
number-inside z h place code size e end =
    let none : uleb_at (bytes_up_to z h) place ≡ None = past-number (bytes_up_to z h) place (omega (arith, end, length-take h.end (bytes_of z.contents))) in
    cc

pub code-met : (base : UnitBase) (z : UnitSection) (P : Piece UnitState → Type 0) (r : SectionRead base z P) (h : UnitHeader) (start unit place e d code size : ℕ) (a : Abbreviation)
    → Run base z.contents (before z 0 r.first) (between (in_headed base z start unit h) place e d) 0 place → uleb_at (bytes_up_to z h) place ≡ Some (code, size) → code ≢ 0
    → abbreviation_of (abbreviations_at base.abbrevs.bytes h.abbrevs) code ≡ Some a → is_split_root e a ≡ false
    → P (record { state = in_unit (in_headed base z start unit h) place e d at_code; cells = take size (drop place z.contents) }) × (code_value (take size (drop place z.contents)) ≡ code)
unfolding run-more run-one
code-met base z P r h start unit place e d code size a front is some listed root =
    let c : NumberPiece (in_headed base z start unit h) z.contents place code size = number-piece (in_headed base z start unit h) z.contents place code size is in
    let stands : may_stand e (abbreviation_of (abbreviations_at base.abbrevs.bytes h.abbrevs) code) ≡ true = rw (listed, root) refl in
    let fits : IsCode (in_unit (in_headed base z start unit h) place e d at_code) (take size (drop place z.contents)) =
    record {
      spells = c.spells ∙ ap (λ (v : ℕ). Some (v, length (take size (drop place z.contents)))) (sym c.value);
      before = subst (λ (m : ℕ). place + m ≤ h.end) (sym c.size) c.before;
      listed = λ other. ap (λ (v : ℕ). may_stand e (abbreviation_of (abbreviations_at base.abbrevs.bytes h.abbrevs) v)) c.value ∙ stands;
    } in
    let here : Run base z.contents (before z 0 r.first) (in_unit (in_headed base z start unit h) place e d at_code) 0 place =
    subst (λ (t : UnitState). Run base z.contents (before z 0 r.first) t 0 place)
    (code-there (in_headed base z start unit h) place e d (number-inside z h place code size is)) front in
    let one = run-one base z.contents (in_unit (in_headed base z start unit h) place e d at_code)
    (past at_code base (in_unit (in_headed base z start unit h) place e d at_code) (take size (drop place z.contents))) place size fits refl in
    let all = run-more base z.contents (before z 0 r.first) (in_unit (in_headed base z start unit h) place e d at_code)
    (past at_code base (in_unit (in_headed base z start unit h) place e d at_code) (take size (drop place z.contents))) 0 place (place + size) here one in (
      each-met base z P r (past at_code base (in_unit (in_headed base z start unit h) place e d at_code) (take size (drop place z.contents))) here.pieces
          (record { state = in_unit (in_headed base z start unit h) place e d at_code; cells = take size (drop place z.contents) }) (place + size) all.leads all.covers,
      c.value,
    )

-- the pieces of the section of a unit
pub section-met : (d : DebugData) (rs : DataReadings) (z : UnitSection) (h : UnitHeader) (list : List Abbreviation) (P : Piece UnitState → Type 0) → DataReads d rs → HasTable d z h list
    → EachReading P rs.units → SectionRead d.base z P
section-met d rs z h list P reads t each =
    section-among d.base P 0 t.unit.before t.unit.behind z rs.units (subst (λ (zs : List UnitSection). ReadsAll d.base 0 zs rs.units) t.unit.sections reads.units) each
