-- From the pieces of a unit section back to what a pass over it meets: its units can be read one after another.
use Rattle.std.proofs.Common.{Bool, true, false, ◌≡◌, ◌≢◌, ◌⊎◌, inl, inr, ℕ, ◌+◌, ◌-◌, ◌≤◌, List, [], ◌∷◌, ◌++◌, length, drop, Option, Some, None, IsTrue, refl, sym, ap, ◌∙◌, subst, arith, if◌then◌else◌, append_assoc, append-nil}
use Rattle.std.specs.Bool.{⊤}
use Rattle.std.specs.Prelude.{◌==◌, not}
use Rattle.std.proofs.lemmas.Bool.{eqb-true, eqb-false}
use Rattle.std.proofs.lemmas.List.{length-append}
use Rattle.dw_base.specs.AbbreviationBytes.{abbreviations_at}
use Rattle.dw_base.specs.AbbreviationTables.{Abbreviation, abbreviation_of}
use Rattle.dw_base.specs.Cells.{Cell}
use Rattle.dw_base.specs.EntryScans.{SpellsValues, no_values, more_values, is_split_root, IsEntry, depth_behind, scanned, Scans, starts, null, entry, AreEntries}
use Rattle.dw_base.specs.EntryValues.{bytes_up_to}
use Rattle.dw_base.specs.Forms.{ValueKind, number_of, leb_number, signed_leb, block_of, counted, counted_leb, inline_text, text_offset, present, in_abbreviation, form_in_front, supplementary, unlisted, kind_in}
use Rattle.dw_base.specs.Lebs.{uleb_at}
use Rattle.dw_base.specs.Pieces.{Piece, joined, Chain}
use Rattle.dw_base.specs.UnitHeaders.{UnitBase, UnitSection, unit_header, header_at, IsUnit}
use Rattle.dw_base.specs.UnitPieces.{IsHeader, IsCode, IsValue, IsFrontForm, FitsKind, may_stand, FitsMode, ReadsUnits, unit_grammar}
use Rattle.dw_meaning.specs.UnitScans.{UnitsScanned, none_scanned, more_scanned, AreScanned}
use Rattle.dw_base.specs.UnitStates.{Mode, at_header, at_code, at_values, at_chosen, stuck, UnitState, before_unit, in_unit, between, inside, headed, after_header, after_entry, after_code, code_value, of_chosen, after_value, past}
use Rattle.dw_base.specs.Values.{value_of, value_at, value_by, indirect_value, behind}
use Rattle.dw_base.specs.UnitTables.{IsUnitTable}
use Rattle.dw_base.specs.declared.units.Scanned.{Scanned}
use Rattle.dw_base.specs.declared.units.UnitHeader.{UnitHeader}
use Rattle.dw_base.specs.declared.values.Spec.{Spec}
use Rattle.dw_base.specs.declared.values.Value.{Value}
use Rattle.std.proofs.Math.Seq.{drop-append_seam}
use Rattle.std.proofs.lemmas.List.{drop-drop}
use Rattle.dw_base.proofs.FormLaws.{value_by-own, chosen_value-own}
use Rattle.dw_meaning.proofs.ScanPieceLaws.{is_front, after-own}
use Rattle.dw_base.specs.UnitHeaders.{SectionKind}
use Rattle.dw_meaning.proofs.ScanSectionLaws.{HeaderPlaced, header-placed}
use Rattle.dw_meaning.proofs.SpelledLaws.{stuck-none}
use Rattle.dw_base.proofs.UnitHeaderLaws.{header-more}
use Rattle.dw_meaning.proofs.ValuePasteLaws.{Placed, Stands, number-paste, value-paste}

-- a state is of this section
record OfSection (z : UnitSection) (s : UnitState) : Type 0 where
  section : s.section ≡ z.number
  kind : s.kind ≡ z.kind
  whole : s.whole ≡ length z.contents

-- before a unit: the units before it have been read
record BeforeUnit (base : UnitBase) (z : UnitSection) (s : UnitState) : Type 0 where
  own : OfSection z s
  list : List UnitHeader
  scanned_ : UnitsScanned base z list s.place

-- in a unit of a section, between entries: the units before it, its header and table, and the entries up to the place
record InUnit (base : UnitBase) (z : UnitSection) (s : UnitState) (place e d : ℕ) : Type 0 where
  own : OfSection z s
  list : List UnitHeader
  before : UnitsScanned base z list s.header.start
  unit : IsUnit base z s.header.start s.header
  table : IsUnitTable base s.header s.table
  items : List Scanned
  count : length items ≡ e
  scans : Scans s.header s.table (bytes_up_to z s.header) items place d

-- in an entry, in front of its last attributes
record InEntry (base : UnitBase) (z : UnitSection) (s : UnitState) (place e d : ℕ) (specs : List Spec) : Type 0 where
  start : ℕ
  number : ℕ
  depth : ℕ
  unit : InUnit base z s start number depth
  a : Abbreviation
  code : ℕ
  size : ℕ
  spells : uleb_at (bytes_up_to z s.header) start ≡ Some (code, size)
  some : code ≢ 0
  listed : abbreviation_of s.table code ≡ Some a
  root : is_split_root number a ≡ false
  front : List Spec
  attributes : a.specs ≡ front ++ specs
  values : SpellsValues s.header.params (bytes_up_to z s.header) (start + size) front place
  behind : e ≡ number + 1
  deep : d ≡ depth_behind a depth

-- behind a form in front of a value
record InChosen (base : UnitBase) (z : UnitSection) (s : UnitState) (place e d : ℕ) (x : Spec) (specs : List Spec) : Type 0 where
  own : Spec
  start : ℕ
  form : ℕ
  size : ℕ
  entry_ : InEntry base z s start e d (own ∷ specs)
  front : kind_in s.header.params own.form ≡ form_in_front
  spells : uleb_at (bytes_up_to z s.header) start ≡ Some (form, size)
  at_ : place ≡ start + size
  is : x ≡ of_chosen own form
  plain : kind_in s.header.params form ≢ in_abbreviation

-- what is known at a state
abbrev Reached : Mode → UnitBase → UnitSection → UnitState → Type 0
Reached at_header base z s = BeforeUnit base z s
Reached at_code base z s = InUnit base z s s.place s.entry s.depth
Reached (at_values n tag specs) base z s = InEntry base z s s.place s.entry s.depth specs
Reached (at_chosen n tag start x specs) base z s = InChosen base z s s.place s.entry s.depth x specs
Reached stuck base z s = ⊤

-- an entry whose values have been read
entry-done : (base : UnitBase) (z : UnitSection) (s : UnitState) (place e d : ℕ) → InEntry base z s place e d [] → InUnit base z s place e d
entry-done base z s place e d h =
    let specs : h.a.specs ≡ h.front = h.attributes ∙ append-nil h.front in
    let is : IsEntry s.header.params s.table (bytes_up_to z s.header) h.start h.a place =
    record {
      code = h.code;
      size = h.size;
      spells = h.spells;
      some = h.some;
      listed = h.listed;
      values = subst (λ (xs : List Spec). SpellsValues s.header.params (bytes_up_to z s.header) (h.start + h.size) xs place) (sym specs) h.values;
    } in
    let root : is_split_root (length h.unit.items) h.a ≡ false = ap (λ (n : ℕ). is_split_root n h.a) h.unit.count ∙ h.root in
    record {
      own = h.unit.own;
      list = h.unit.list;
      before = h.unit.before;
      unit = h.unit.unit;
      table = h.unit.table;
      items = h.unit.items ++ scanned h.start h.depth h.a place ∷ [];
      count = length-append h.unit.items (scanned h.start h.depth h.a place ∷ []) ∙ ap (λ (n : ℕ). n + 1) h.unit.count ∙ sym h.behind;
      scans = subst (λ (n : ℕ). Scans s.header s.table (bytes_up_to z s.header) (h.unit.items ++ scanned h.start h.depth h.a place ∷ []) place n) (sym h.deep)
          (entry h.unit.items h.start h.depth place h.a h.unit.scans is root);
    }

-- one more value has been read
value-done : (base : UnitBase) (z : UnitSection) (s : UnitState) (place e d : ℕ) (x : Spec) (xs : List Spec) (v : Value) → InEntry base z s place e d (x ∷ xs)
    → value_at s.header.params x (bytes_up_to z s.header) place ≡ Some v → InEntry base z s (place + v.size) e d xs
value-done base z s place e d x xs v h is = record {
  start = h.start;
  number = h.number;
  depth = h.depth;
  unit = h.unit;
  a = h.a;
  code = h.code;
  size = h.size;
  spells = h.spells;
  some = h.some;
  listed = h.listed;
  root = h.root;
  front = h.front ++ x ∷ [];
  attributes = h.attributes ∙ sym (append_assoc h.front (x ∷ []) xs);
  values = more_values h.front x place v h.values is;
  behind = h.behind;
  deep = h.deep;
}

-- where a state in the unit leads: to the next entry, or behind the unit
between-reached : (base : UnitBase) (z : UnitSection) (s : UnitState) (place e d : ℕ) (xs : List (Piece UnitState)) → InUnit base z s place e d
    → Chain (unit_grammar base) (between s place e d) xs → Reached (between s place e d).mode base z (between s place e d)
unfolding between
between-reached base z s place e d xs h c = by_end (place == s.header.end) refl c
  where
    by_depth : (t : Bool) → (d == 0) ≡ t → place ≡ s.header.end
        → Chain (unit_grammar base) (if t then before_unit s.section s.kind s.whole place (s.unit + 1) else in_unit s place e d stuck) xs
        → Reached (if t then before_unit s.section s.kind s.whole place (s.unit + 1) else in_unit s place e d stuck).mode base z
        (if t then before_unit s.section s.kind s.whole place (s.unit + 1) else in_unit s place e d stuck)
    by_depth true is end c =
        let zero_ : d ≡ 0 = eqb-true d 0 is in
        let entries : AreEntries s.header s.table (bytes_up_to z s.header) h.items =
        subst (λ (n : ℕ). Scans s.header s.table (bytes_up_to z s.header) h.items n 0) end
        (subst (λ (n : ℕ). Scans s.header s.table (bytes_up_to z s.header) h.items place n) zero_ h.scans) in
        record {
          own = record { section = h.own.section; kind = h.own.kind; whole = h.own.whole };
          list = h.list ++ s.header ∷ [];
          scanned_ = subst (λ (n : ℕ). UnitsScanned base z (h.list ++ s.header ∷ []) n) (sym end)
              (more_scanned h.list s.header s.header.start s.table h.items h.before h.unit h.table entries);
        }
    by_depth false is end c = absurd (stuck-none base (in_unit s place e d stuck) xs refl c)

    by_end : (t : Bool) → (place == s.header.end) ≡ t
        → Chain (unit_grammar base) (if t then (if d == 0 then before_unit s.section s.kind s.whole place (s.unit + 1) else in_unit s place e d stuck) else in_unit s place e d at_code) xs
        → Reached (if t then (if d == 0 then before_unit s.section s.kind s.whole place (s.unit + 1) else in_unit s place e d stuck) else in_unit s place e d at_code).mode base z
        (if t then (if d == 0 then before_unit s.section s.kind s.whole place (s.unit + 1) else in_unit s place e d stuck) else in_unit s place e d at_code)
    by_end true is c = by_depth (d == 0) refl (eqb-true place s.header.end is) c
    by_end false is c = record { own = record { section = h.own.section; kind = h.own.kind; whole = h.own.whole }; list = h.list; before = h.before; unit = h.unit; table = h.table; items = h.items; count = h.count; scans = h.scans }

inside-reached : (base : UnitBase) (z : UnitSection) (s : UnitState) (place e d n tag : ℕ) (specs : List Spec) (xs : List (Piece UnitState))
    → InEntry base z s place e d specs → Chain (unit_grammar base) (inside s place e d n tag specs) xs
    → Reached (inside s place e d n tag specs).mode base z (inside s place e d n tag specs)
inside-reached base z s place e d n tag [] xs h c = between-reached base z s place e d xs (entry-done base z s place e d h) c
inside-reached base z s place e d n tag (y ∷ ys) xs h c = record {
  start = h.start;
  number = h.number;
  depth = h.depth;
  unit = record {
    own = record { section = h.unit.own.section; kind = h.unit.own.kind; whole = h.unit.own.whole };
    list = h.unit.list;
    before = h.unit.before;
    unit = h.unit.unit;
    table = h.unit.table;
    items = h.unit.items;
    count = h.unit.count;
    scans = h.unit.scans;
  };
  a = h.a;
  code = h.code;
  size = h.size;
  spells = h.spells;
  some = h.some;
  listed = h.listed;
  root = h.root;
  front = h.front;
  attributes = h.attributes;
  values = h.values;
  behind = h.behind;
  deep = h.deep;
}

-- a piece of a unit stands in it
unit-placed : (base : UnitBase) (z : UnitSection) (s : UnitState) (place e d : ℕ) (p rest : List Cell) → InUnit base z s place e d → p ++ rest ≡ drop place z.contents
    → place + length p ≤ s.header.end → Placed z.contents p rest place s.header.end
unit-placed base z s place e d p rest h stands before = record { stands = stands; before = before; within = h.unit.within }

-- a header
header-step : (base : UnitBase) (z : UnitSection) (s : UnitState) (p rest : List Cell) (xs : List (Piece UnitState)) → BeforeUnit base z s → IsHeader base s p
    → p ++ rest ≡ drop s.place z.contents → Chain (unit_grammar base) (past at_header base s p) xs → Reached (past at_header base s p).mode base z (past at_header base s p)
header-step base z s p rest xs h fits stands c =
    let there : header_at base z s.place ≡ Some fits.header =
    ap (unit_header base z.kind z.number s.place) (sym stands)
    ∙ header-more base z.kind z.number s.place p rest fits.header
    (ap (λ (k : SectionKind). unit_header base k z.number s.place p) (sym h.own.kind) ∙ ap (λ (n : ℕ). unit_header base s.kind n s.place p) (sym h.own.section) ∙ fits.is) in
    let placed : HeaderPlaced z s.place fits.header = header-placed base z s.place fits.header there in
    let unit_ : IsUnit base z s.place fits.header = record { header = there; whole = fits.own; within = subst (λ (n : ℕ). fits.header.end ≤ n) h.own.whole fits.within } in
    let known : InUnit base z (headed base s fits.header) (s.place + length p) 0 0 =
    record {
      own = record { section = h.own.section; kind = h.own.kind; whole = h.own.whole };
      list = h.list;
      before = subst (λ (n : ℕ). UnitsScanned base z h.list n) (sym placed.start_is) h.scanned_;
      unit = subst (λ (n : ℕ). IsUnit base z n fits.header) (sym placed.start_is) unit_;
      table = fits.table;
      items = [];
      count = refl;
      scans = subst (λ (n : ℕ). Scans fits.header (abbreviations_at base.abbrevs.bytes fits.header.abbrevs) (bytes_up_to z fits.header) [] n 0) (sym fits.size) starts;
    } in
    let next : past at_header base s p ≡ between (headed base s fits.header) (s.place + length p) 0 0 = ap (after_header base s (s.place + length p)) fits.is in
    subst (λ (t : UnitState). Reached t.mode base z t) (sym next)
    (between-reached base z (headed base s fits.header) (s.place + length p) 0 0 xs known (subst (λ (t : UnitState). Chain (unit_grammar base) t xs) next c))

-- an entry's code
stands-some : (e : ℕ) (o : Option Abbreviation) → IsTrue (may_stand e o) → (a : Abbreviation) × (o ≡ Some a) × (is_split_root e a ≡ false)
stands-some e None h =
    let no : false ≡ true = h in
    absurd cc
stands-some e (Some a) h = (a, refl, not_true (is_split_root e a) h)
  where
    not_true : (b : Bool) → not b ≡ true → b ≡ false
    not_true true f = cc
    not_true false f = refl

code-step : (base : UnitBase) (z : UnitSection) (s : UnitState) (p rest : List Cell) (xs : List (Piece UnitState)) → InUnit base z s s.place s.entry s.depth → IsCode s p
    → p ++ rest ≡ drop s.place z.contents → Chain (unit_grammar base) (after_code s (s.place + length p) (code_value p)) xs
    → Reached (after_code s (s.place + length p) (code_value p)).mode base z (after_code s (s.place + length p) (code_value p))
unfolding after_code
code-step base z s p rest xs h fits stands c = by_null (code_value p == 0) refl c
  where
    there : uleb_at (bytes_up_to z s.header) s.place ≡ Some (code_value p, length p)
    there =
        number-paste z.contents p rest s.place s.header.end (code_value p) (length p) (unit-placed base z s s.place s.entry s.depth p rest h stands fits.before) fits.spells

    by_null : (t : Bool) → (code_value p == 0) ≡ t
        → Chain (unit_grammar base) (if t then between s (s.place + length p) s.entry (s.depth - 1) else after_entry s (s.place + length p) (abbreviation_of s.table (code_value p))) xs
        → Reached (if t then between s (s.place + length p) s.entry (s.depth - 1) else after_entry s (s.place + length p) (abbreviation_of s.table (code_value p))).mode base z
        (if t then between s (s.place + length p) s.entry (s.depth - 1) else after_entry s (s.place + length p) (abbreviation_of s.table (code_value p)))
    by_null true is c =
        let zero_ : code_value p ≡ 0 = eqb-true (code_value p) 0 is in
        let code : uleb_at (bytes_up_to z s.header) s.place ≡ Some (0, length p) = there ∙ ap (λ (n : ℕ). Some (n, length p)) zero_ in
        between-reached base z s (s.place + length p) s.entry (s.depth - 1) xs
        (record {
          own = h.own;
          list = h.list;
          before = h.before;
          unit = h.unit;
          table = h.table;
          items = h.items;
          count = h.count;
          scans = null h.items s.place s.depth (length p) h.scans code;
        }) c
    by_null false is c =
        let some : code_value p ≢ 0 = eqb-false (code_value p) 0 is in
        let a = stands-some s.entry (abbreviation_of s.table (code_value p)) (fits.listed some) in
        let next : after_entry s (s.place + length p) (abbreviation_of s.table (code_value p))
        ≡ inside s (s.place + length p) (s.entry + 1) (depth_behind a.0 s.depth) s.entry a.0.tag a.0.specs = ap (after_entry s (s.place + length p)) a.1 in
        let known : InEntry base z s (s.place + length p) (s.entry + 1) (depth_behind a.0 s.depth) a.0.specs =
        record {
          start = s.place;
          number = s.entry;
          depth = s.depth;
          unit = h;
          a = a.0;
          code = code_value p;
          size = length p;
          spells = there;
          some = some;
          listed = a.1;
          root = a.2;
          front = [];
          attributes = refl;
          values = no_values;
          behind = refl;
          deep = refl;
        } in
        subst (λ (t : UnitState). Reached t.mode base z t) (sym next)
        (inside-reached base z s (s.place + length p) (s.entry + 1) (depth_behind a.0 s.depth) s.entry a.0.tag a.0.specs xs known
        (subst (λ (t : UnitState). Chain (unit_grammar base) t xs) next c))

-- a value that isn't behind a form
value-read : (base : UnitBase) (z : UnitSection) (s : UnitState) (x : Spec) (ys : List Spec) (p rest : List Cell) → InEntry base z s s.place s.entry s.depth (x ∷ ys)
    → kind_in s.header.params x.form ≢ form_in_front → IsValue s x (kind_in s.header.params x.form) p → p ++ rest ≡ drop s.place z.contents
    → InEntry base z s (s.place + length p) s.entry s.depth ys
unfolding value_at
value-read base z s x ys p rest h other fits stands =
    let placed : Placed z.contents p rest s.place s.header.end = record { stands = stands; before = fits.before; within = h.unit.unit.within } in
    let there : Stands (kind_in s.header.params x.form) s.header.params.order (bytes_up_to z s.header) s.place x.implicit fits.value.size =
    value-paste (kind_in s.header.params x.form) s.header.params.order z.contents p rest s.place s.header.end x.implicit fits.value placed fits.is in
    let read : value_at s.header.params x (bytes_up_to z s.header) s.place ≡ Some there.value =
    value_by-own (kind_in s.header.params x.form) s.header.params x (bytes_up_to z s.header) s.place other ∙ there.is in
    subst (λ (n : ℕ). InEntry base z s (s.place + n) s.entry s.depth ys) (there.same ∙ fits.size)
    (value-done base z s s.place s.entry s.depth x ys there.value h read)

-- a kind's own fit
own-fits : (k : ValueKind) (s : UnitState) (x : Spec) (p : List Cell) → k ≢ form_in_front → FitsKind k s x p → IsValue s x k p
own-fits form_in_front s x p other f = absurd (other refl)
own-fits (number_of class n) s x p other f = f
own-fits (leb_number class) s x p other f = f
own-fits signed_leb s x p other f = f
own-fits (block_of n) s x p other f = f
own-fits (counted n) s x p other f = f
own-fits counted_leb s x p other f = f
own-fits inline_text s x p other f = f
own-fits (text_offset table n) s x p other f = f
own-fits present s x p other f = f
own-fits in_abbreviation s x p other f = f
own-fits supplementary s x p other f = f
own-fits unlisted s x p other f = f

-- a value, or a form in front of one
value-step : (base : UnitBase) (z : UnitSection) (s : UnitState) (n tag : ℕ) (x : Spec) (ys : List Spec) (p rest : List Cell) (xs : List (Piece UnitState))
    → InEntry base z s s.place s.entry s.depth (x ∷ ys) → FitsKind (kind_in s.header.params x.form) s x p → p ++ rest ≡ drop s.place z.contents
    → Chain (unit_grammar base) (after_value (kind_in s.header.params x.form) s (s.place + length p) (code_value p) n tag x ys) xs
    → Reached (after_value (kind_in s.header.params x.form) s (s.place + length p) (code_value p) n tag x ys).mode base z
    (after_value (kind_in s.header.params x.form) s (s.place + length p) (code_value p) n tag x ys)
value-step base z s n tag x ys p rest xs h fits stands c = by_front (is_front (kind_in s.header.params x.form))
  where
    by_front : (kind_in s.header.params x.form ≡ form_in_front) ⊎ (kind_in s.header.params x.form ≡ form_in_front → ⊥)
        → Reached (after_value (kind_in s.header.params x.form) s (s.place + length p) (code_value p) n tag x ys).mode base z
        (after_value (kind_in s.header.params x.form) s (s.place + length p) (code_value p) n tag x ys)
    by_front (inl front) =
        let f : IsFrontForm s p = subst (λ (k : ValueKind). FitsKind k s x p) front fits in
        let there : uleb_at (bytes_up_to z s.header) s.place ≡ Some (code_value p, length p) =
        number-paste z.contents p rest s.place s.header.end (code_value p) (length p)
        (record { stands = stands; before = f.before; within = h.unit.unit.within }) f.spells in
        let t : UnitState = in_unit s (s.place + length p) s.entry s.depth (at_chosen n tag s.place (of_chosen x (code_value p)) ys) in
        let known : InChosen base z s (s.place + length p) s.entry s.depth (of_chosen x (code_value p)) ys =
        record { own = x; start = s.place; form = code_value p; size = length p; entry_ = h; front = front; spells = there; at_ = refl; is = refl; plain = f.own } in
        subst (λ (k : ValueKind). Reached (after_value k s (s.place + length p) (code_value p) n tag x ys).mode base z (after_value k s (s.place + length p) (code_value p) n tag x ys))
        (sym front) (in-chosen s (s.place + length p) s.entry s.depth n tag s.place (of_chosen x (code_value p)) ys known)
      where
        in-chosen : (s : UnitState) (place e d n tag start : ℕ) (x : Spec) (ys : List Spec) → InChosen base z s place e d x ys
            → InChosen base z (in_unit s place e d (at_chosen n tag start x ys)) place e d x ys
        in-chosen s place e d n tag start x ys h = record {
          own = h.own;
          start = h.start;
          form = h.form;
          size = h.size;
          entry_ = record {
            start = h.entry_.start;
            number = h.entry_.number;
            depth = h.entry_.depth;
            unit = record {
              own = record { section = h.entry_.unit.own.section; kind = h.entry_.unit.own.kind; whole = h.entry_.unit.own.whole };
              list = h.entry_.unit.list;
              before = h.entry_.unit.before;
              unit = h.entry_.unit.unit;
              table = h.entry_.unit.table;
              items = h.entry_.unit.items;
              count = h.entry_.unit.count;
              scans = h.entry_.unit.scans;
            };
            a = h.entry_.a;
            code = h.entry_.code;
            size = h.entry_.size;
            spells = h.entry_.spells;
            some = h.entry_.some;
            listed = h.entry_.listed;
            root = h.entry_.root;
            front = h.entry_.front;
            attributes = h.entry_.attributes;
            values = h.entry_.values;
            behind = h.entry_.behind;
            deep = h.entry_.deep;
          };
          front = h.front;
          spells = h.spells;
          at_ = h.at_;
          is = h.is;
          plain = h.plain;
        }
    by_front (inr other) =
        let f : IsValue s x (kind_in s.header.params x.form) p = own-fits (kind_in s.header.params x.form) s x p other fits in
        let next : after_value (kind_in s.header.params x.form) s (s.place + length p) (code_value p) n tag x ys ≡ inside s (s.place + length p) s.entry s.depth n tag ys =
        after-own (kind_in s.header.params x.form) s (s.place + length p) (code_value p) n tag x ys other in
        subst (λ (t : UnitState). Reached t.mode base z t) (sym next)
        (inside-reached base z s (s.place + length p) s.entry s.depth n tag ys xs (value-read base z s x ys p rest h other f stands)
        (subst (λ (t : UnitState). Chain (unit_grammar base) t xs) next c))

-- a value whose form was read
chosen-step : (base : UnitBase) (z : UnitSection) (s : UnitState) (n tag : ℕ) (x : Spec) (ys : List Spec) (p rest : List Cell) (xs : List (Piece UnitState))
    → InChosen base z s s.place s.entry s.depth x ys → IsValue s x (kind_in s.header.params x.form) p → p ++ rest ≡ drop s.place z.contents
    → Chain (unit_grammar base) (inside s (s.place + length p) s.entry s.depth n tag ys) xs
    → Reached (inside s (s.place + length p) s.entry s.depth n tag ys).mode base z (inside s (s.place + length p) s.entry s.depth n tag ys)
unfolding value_at
chosen-step base z s n tag x ys p rest xs h fits stands c =
    let own_fits : IsValue s (of_chosen h.own h.form) (kind_in s.header.params h.form) p = subst (λ (y : Spec). IsValue s y (kind_in s.header.params y.form) p) h.is fits in
    let placed : Placed z.contents p rest s.place s.header.end = record { stands = stands; before = fits.before; within = h.entry_.unit.unit.within } in
    let there : Stands (kind_in s.header.params h.form) s.header.params.order (bytes_up_to z s.header) s.place h.own.implicit own_fits.value.size =
    value-paste (kind_in s.header.params h.form) s.header.params.order z.contents p rest s.place s.header.end h.own.implicit own_fits.value placed own_fits.is in
    let whole : Value = record there.value { size = h.size + there.value.size } in
    let read : value_at s.header.params h.own (bytes_up_to z s.header) h.start ≡ Some (record there.value { size = h.size + there.value.size }) =
    ap (λ (k : ValueKind). value_by k s.header.params h.own (bytes_up_to z s.header) h.start) h.front
    ∙ ap (indirect_value s.header.params h.own (bytes_up_to z s.header) h.start) h.spells
    ∙ ap (behind h.size)
    (chosen_value-own (kind_in s.header.params h.form) s.header.params h.own (bytes_up_to z s.header) (h.start + h.size) h.plain
    ∙ ap (λ (n : ℕ). value_of (kind_in s.header.params h.form) s.header.params.order (bytes_up_to z s.header) n h.own.implicit) (sym h.at_) ∙ there.is) in
    let done : InEntry base z s (h.start + (h.size + there.value.size)) s.entry s.depth ys =
    value-done base z s h.start s.entry s.depth h.own ys (record there.value { size = h.size + there.value.size }) h.entry_ read in
    let place : h.start + (h.size + there.value.size) ≡ s.place + length p = omega (arith, h.at_, there.same, own_fits.size) in
    inside-reached base z s (s.place + length p) s.entry s.depth n tag ys xs (subst (λ (m : ℕ). InEntry base z s m s.entry s.depth ys) place done) c

-- a piece
piece-step : (m : Mode) (base : UnitBase) (z : UnitSection) (s : UnitState) (p rest : List Cell) (xs : List (Piece UnitState)) → Reached m base z s → FitsMode m base s p
    → p ++ rest ≡ drop s.place z.contents → Chain (unit_grammar base) (past m base s p) xs → Reached (past m base s p).mode base z (past m base s p)
piece-step at_header base z s p rest xs h fits stands c = header-step base z s p rest xs h fits stands c
piece-step at_code base z s p rest xs h fits stands c = code-step base z s p rest xs h fits stands c
piece-step (at_values n tag []) base z s p rest xs h fits stands c = absurd fits
piece-step (at_values n tag (x ∷ ys)) base z s p rest xs h fits stands c = value-step base z s n tag x ys p rest xs h fits stands c
piece-step (at_chosen n tag start x ys) base z s p rest xs h fits stands c = chosen-step base z s n tag x ys p rest xs h fits stands c
piece-step stuck base z s p rest xs h fits stands c = absurd fits

-- the place behind a piece
between-place : (s : UnitState) (place e d : ℕ) → (between s place e d).place ≡ place
unfolding between
between-place s place e d = by_end (place == s.header.end) (d == 0)
  where
    by_end : (t u : Bool) → (if t then (if u then before_unit s.section s.kind s.whole place (s.unit + 1) else in_unit s place e d stuck) else in_unit s place e d at_code).place ≡ place
    by_end true true = refl
    by_end true false = refl
    by_end false u = refl

inside-place : (s : UnitState) (place e d n tag : ℕ) (specs : List Spec) → (inside s place e d n tag specs).place ≡ place
inside-place s place e d n tag [] = between-place s place e d
inside-place s place e d n tag (x ∷ xs) = refl

after-place : (k : ValueKind) (s : UnitState) (place form n tag : ℕ) (x : Spec) (xs : List Spec) → (after_value k s place form n tag x xs).place ≡ place
after-place form_in_front s place form n tag x xs = refl
after-place k s place form n tag x xs = inside-place s place s.entry s.depth n tag xs

code-place : (s : UnitState) (place n : ℕ) → (after_code s place n).place ≡ place
unfolding after_code
code-place s place n = by_null (n == 0) (abbreviation_of s.table n)
  where
    by_null : (t : Bool) (o : Option Abbreviation) → (if t then between s place s.entry (s.depth - 1) else after_entry s place o).place ≡ place
    by_null true o = between-place s place s.entry (s.depth - 1)
    by_null false None = refl
    by_null false (Some a) = inside-place s place (s.entry + 1) (depth_behind a s.depth) s.entry a.tag a.specs

next-place : (m : Mode) (base : UnitBase) (s : UnitState) (p : List Cell) → FitsMode m base s p → (past m base s p).place ≡ s.place + length p
next-place at_header base s p f =
    ap (λ (o : Option UnitHeader). (after_header base s (s.place + length p) o).place) f.is ∙ between-place (headed base s f.header) (s.place + length p) 0 0
next-place at_code base s p f = code-place s (s.place + length p) (code_value p)
next-place (at_values n tag []) base s p f = absurd f
next-place (at_values n tag (x ∷ xs)) base s p f = after-place (kind_in s.header.params x.form) s (s.place + length p) (code_value p) n tag x xs
next-place (at_chosen n tag start x xs) base s p f = inside-place s (s.place + length p) s.entry s.depth n tag xs
next-place stuck base s p f = absurd f

-- the units of a section
record ScannedAll (base : UnitBase) (z : UnitSection) : Type 0 where
  list : List UnitHeader
  scanned_ : AreScanned base z list

at_end : (m : Mode) (base : UnitBase) (z : UnitSection) (s : UnitState) → m ≡ at_header → s.place ≡ s.whole → Reached m base z s → ScannedAll base z
at_end at_header base z s e end h = record {
  list = h.list;
  scanned_ = subst (λ (n : ℕ). UnitsScanned base z h.list n) (end ∙ h.own.whole) h.scanned_;
}
at_end at_code base z s e end h = absurd cc
at_end (at_values n tag specs) base z s e end h = absurd cc
at_end (at_chosen n tag start x specs) base z s e end h = absurd cc
at_end stuck base z s e end h = absurd cc

rest-stands : (cells p rest : List Cell) (place : ℕ) → p ++ rest ≡ drop place cells → rest ≡ drop (place + length p) cells
rest-stands cells p rest place h = sym (drop-append_seam p rest) ∙ ap (drop (length p)) h ∙ drop-drop (length p) place cells

all-back : (base : UnitBase) (z : UnitSection) (s : UnitState) (xs : List (Piece UnitState)) → Reached s.mode base z s → Chain (unit_grammar base) s xs
    → joined xs ≡ drop s.place z.contents → ScannedAll base z
all-back base z s [] h c stands = at_end s.mode base z s c.mode c.place h
all-back base z s (x ∷ xs) h c stands =
    let here : Reached x.state.mode base z x.state = subst (λ (t : UnitState). Reached t.mode base z t) (sym c.0) h in
    let own : x.cells ++ joined xs ≡ drop x.state.place z.contents = stands ∙ ap (λ (t : UnitState). drop t.place z.contents) (sym c.0) in
    let next : (past x.state.mode base x.state x.cells).place ≡ x.state.place + length x.cells = next-place x.state.mode base x.state x.cells c.1 in
    all-back base z (past x.state.mode base x.state x.cells) xs (piece-step x.state.mode base z x.state x.cells (joined xs) xs here c.1 own c.2) c.2
    (rest-stands z.contents x.cells (joined xs) x.state.place own ∙ ap (λ (n : ℕ). drop n z.contents) (sym next))

-- a section that is pieces has units that can be read one after another
pub section-scanned : (base : UnitBase) (z : UnitSection) (first : ℕ) (xs : List (Piece UnitState)) → ReadsUnits base z first xs
    → (list : List UnitHeader) × AreScanned base z list
section-scanned base z first xs r =
    let all : ScannedAll base z =
    all-back base z (before_unit z.number z.kind (length z.contents) 0 first) xs
    (record { own = record { section = refl; kind = refl; whole = refl }; list = []; scanned_ = none_scanned }) r.chain r.cells in
    (all.list, all.scanned_)
