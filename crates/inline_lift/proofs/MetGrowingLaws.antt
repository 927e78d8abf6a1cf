-- A path that grows by its place is met as a piece that grows, in its unit. So where one does, one of the pieces that were read does.
use Rattle.std.proofs.Common.{Bool, true, false, ◌≡◌, ◌≢◌, ◌⊎◌, inl, inr, ℕ, ◌+◌, not, List, ◌∷◌, length, take, drop, Some, refl, sym, ap, ◌∙◌, subst, if◌then◌else◌}
use Rattle.std.specs.Prelude.{ℤ}
use Rattle.std.proofs.lemmas.Bool.{eqb-true}
use Rattle.dw_base.specs.AbbreviationTables.{Abbreviation}
use Rattle.dw_base.specs.Cells.{bytes_of}
use Rattle.dw_base.specs.DebugData.{DebugData, DataReadings}
use Rattle.dw_base.specs.EntryValues.{HasValue, bytes_up_to}
use Rattle.dw_base.specs.Forms.{ValueKind, form_in_front, inline_text, kind_in}
use Rattle.dw_base.specs.InlinePaths.{inline_fits}
use Rattle.dw_base.specs.Paths.{PathMap}
use Rattle.dw_base.specs.Pieces.{Piece}
use Rattle.dw_base.specs.Roles.{Role, fixed, inline_path, is_path, is_path_use, role_of, role_of_kind, use_of}
use Rattle.dw_base.specs.Texts.{text, text_in}
use Rattle.dw_base.specs.UnitHeaders.{UnitSection}
use Rattle.dw_base.specs.UnitStates.{UnitState, at_chosen, at_values, in_unit, of_chosen}
use Rattle.dw_base.specs.Values.{value_at, value_of}
use Rattle.dw_base.specs.declared.units.UnitHeader.{UnitHeader}
use Rattle.dw_base.specs.declared.values.Spec.{Spec}
use Rattle.dw_base.specs.declared.values.Value.{Value}
use Rattle.dw_base.specs.declared.values.ValueClass.TheVariants.{InlineText}
use Rattle.dw_base.specs.declared.values.ValueClass.{ValueClass}
use Rattle.dw_base.proofs.ClassLaws.{form-proper, inline-kind, is_proper, value-class}
use Rattle.dw_base.proofs.FormLaws.{value_by-own}
use Rattle.dw_meaning.proofs.DataRowLaws.{SectionRead, WholeUnit, unit-whole}
use Rattle.dw_meaning.proofs.ScanPieceLaws.{Chosen, chosen-read, is_front, part-length}
use Rattle.dw_meaning.proofs.ScanSectionLaws.{in_headed}
use Rattle.dw_meaning.proofs.ValueCutLaws.{IsCut, value_of-own}
use Rattle.dw_meaning.specs.DataOutput.{DataReads}
use Rattle.inline_lift.proofs.GrowingRowLaws.{InlineParts, inline-parts, text-there}
use Rattle.inline_lift.proofs.MetPieceLaws.{ToValue, chosen-met, own-met, section-met, to-value}
use Rattle.dw_base.specs.declared.fault.Refusal.{Refusal}
use Rattle.dw_meaning.specs.DataFails.{InlineFails, grows as grows_row}
use Rattle.inline_lift.specs.GrowingPaths.{grows, grows_by, some_path_grows}
use Rattle.inline_lift.specs.LiftFails.{HasGrowing, is_chosen}
use Rattle.inline_lift.proofs.LiftMeaningLaws.{Quiet, readings-quiet}
use Rattle.inline_lift.proofs.LiftedValueLaws.{path-first}

-- a path that grows by its place grows in its piece
used-path : (number tag name : ℕ) → is_path number tag name ≡ true → is_path_use (use_of number tag name) ≡ true
used-path number tag name e = rw e refl

grows-there : (m : PathMap) (z : UnitSection) (h : UnitHeader) (number tag name : ℕ) (k : ValueKind) (field : ℕ) (i : ℤ) (w : Value) → is_proper k ≡ true
    → value_of k h.params.order (bytes_up_to z h) field i ≡ Some w → w.class ≡ InlineText → is_path number tag name ≡ true → inline_fits m (text_in (bytes_up_to z h) w.at) ≡ false
    → (grows_by (role_of_kind k (use_of number tag name)) m (take w.size (drop field z.contents)) ≡ true) × (w.len + 1 ≡ w.size)
grows-there m z h number tag name k field i w proper is class path over =
    let text_kind : k ≡ inline_text = inline-kind k proper (value-class k h.params.order (bytes_up_to z h) field i w is ∙ ap (λ (c : ValueClass). Some c) class) in
    let own : value_of inline_text h.params.order (bytes_up_to z h) field i ≡ Some w = ap (λ (j : ValueKind). value_of j h.params.order (bytes_up_to z h) field i) (sym text_kind) ∙ is in
    let parts : InlineParts (bytes_up_to z h) field w = inline-parts h.params.order (bytes_up_to z h) field i w own in
    let words : text (bytes_of (take w.size (drop field z.contents))) ≡ text_in (bytes_up_to z h) w.at =
    text-there h.params.order z.contents h.end field i w own ∙ ap (text_in (bytes_up_to z h)) (sym parts.place) in
    let role : role_of_kind k (use_of number tag name) ≡ inline_path =
    ap (λ (j : ValueKind). role_of_kind j (use_of number tag name)) text_kind ∙ ap (λ (b : Bool). if b then inline_path else fixed) (used-path number tag name path) in
    (ap (λ (q : Role). grows_by q m (take w.size (drop field z.contents))) role ∙ ap not (ap (inline_fits m) words ∙ over), parts.len)

-- the piece: what is so of each piece of its section, it grows, and it is as long as the value; where its form doesn't stand in front of it, the value's is its own
pub record MetGrowing (m : PathMap) (P : Piece UnitState → Type 0) (h : UnitHeader) (x : Spec) (v : Value) (unit : ℕ) : Type 0 where
  pub piece : Piece UnitState
  pub holds : P piece
  pub grown : grows m piece ≡ true
  pub unit_is : piece.state.unit ≡ unit
  pub header : piece.state.header ≡ h
  pub len : v.len + 1 ≡ length piece.cells
  pub own : is_chosen piece.state.mode ≡ false → kind_in h.params x.form ≢ form_in_front

pub grown-met : (m : PathMap) (d : DebugData) (rs : DataReadings) (z : UnitSection) (h : UnitHeader) (list : List Abbreviation) (a : Abbreviation) (x : Spec) (v : Value)
    (P : Piece UnitState → Type 0) (s : SectionRead d.base z P) → DataReads d rs → (g : HasGrowing m d z h list a x v) → (w : WholeUnit d.base z g.table.unit.start h)
    → MetGrowing m P h x v (s.first + length w.list)
unfolding value_at role_of
grown-met m d rs z h list a x v P s reads g w = by_front (is_front (kind_in h.params x.form))
  where
    to : ToValue d.base z s.first h g.table.unit.start (s.first + length w.list) 0 a.tag x g.place
    to = to-value d rs z h list 0 a x g.place v s.first reads g.table w g.value

    by_front : (kind_in h.params x.form ≡ form_in_front) ⊎ (kind_in h.params x.form ≡ form_in_front → ⊥) → MetGrowing m P h x v (s.first + length w.list)
    by_front (inr other) =
        let own : value_of (kind_in h.params x.form) h.params.order (bytes_up_to z h) g.place x.implicit ≡ Some v =
        sym (value_by-own (kind_in h.params x.form) h.params x (bytes_up_to z h) g.place other) ∙ g.value.is in
        let there = grows-there m z h 0 a.tag x.name (kind_in h.params x.form) g.place x.implicit v (form-proper h.params x.form) own g.class g.path g.grows in
        let c : IsCut (kind_in h.params x.form) h.params.order (bytes_up_to z h) g.place x.implicit v.size =
        value_of-own (kind_in h.params x.form) h.params.order (bytes_up_to z h) g.place x.implicit v own in
        record {
          piece = record {
            state = in_unit (in_headed d.base z g.table.unit.start (s.first + length w.list) h) g.place to.e to.d (at_values 0 a.tag (x ∷ to.behind));
            cells = take v.size (drop g.place z.contents);
          };
          holds = own-met d.base z P s h g.table.unit.start (s.first + length w.list) 0 a.tag x g.place v to other own;
          grown = there.0;
          unit_is = refl;
          header = refl;
          len = there.1 ∙ sym (part-length v.size g.place h.end z.contents c.inside);
          own = λ e. other;
        }
    by_front (inl front) =
        let c : Chosen h.params x (bytes_up_to z h) g.place v = chosen-read h.params x (bytes_up_to z h) g.place v front g.value.is in
        let there = grows-there m z h 0 a.tag x.name (kind_in h.params c.form) (g.place + c.size) x.implicit c.value (form-proper h.params c.form) c.is (sym c.class_is ∙ g.class) g.path
        (ap (λ (n : ℕ). inline_fits m (text_in (bytes_up_to z h) n)) (sym c.at_is) ∙ g.grows) in
        let cut : IsCut (kind_in h.params c.form) h.params.order (bytes_up_to z h) (g.place + c.size) x.implicit c.value.size =
        value_of-own (kind_in h.params c.form) h.params.order (bytes_up_to z h) (g.place + c.size) x.implicit c.value c.is in
        record {
          piece = record {
            state = in_unit (in_headed d.base z g.table.unit.start (s.first + length w.list) h) (g.place + c.size) to.e to.d (at_chosen 0 a.tag g.place (of_chosen x c.form) to.behind);
            cells = take c.value.size (drop (g.place + c.size) z.contents);
          };
          holds = chosen-met d.base z P s h g.table.unit.start (s.first + length w.list) 0 a.tag x g.place v to front c;
          grown = there.0;
          unit_is = refl;
          header = refl;
          len = ap (λ (n : ℕ). n + 1) c.len_is ∙ there.1 ∙ sym (part-length c.value.size (g.place + c.size) h.end z.contents cut.inside);
          own = λ e. let no : true ≡ false = e in absurd cc;
        }

-- so one of the pieces that were read grows
pub growing-some : (m : PathMap) (d : DebugData) (rs : DataReadings) (z : UnitSection) (h : UnitHeader) (list : List Abbreviation) (a : Abbreviation) (x : Spec) (v : Value) → DataReads d rs
    → HasGrowing m d z h list a x v → some_path_grows m rs.units ≡ true
growing-some m d rs z h list a x v reads g = by_grows (some_path_grows m rs.units) refl
  where
    quiet : some_path_grows m rs.units ≡ false → ⊥
    quiet none =
        let s : SectionRead d.base z (Quiet m) = section-met d rs z h list (Quiet m) reads g.table (readings-quiet m rs.units none) in
        let met = grown-met m d rs z h list a x v (Quiet m) s reads g (unit-whole d rs z h reads g.table.unit) in
        let no : true ≡ false = sym met.grown ∙ met.holds in
        absurd cc

    by_grows : (t : Bool) → some_path_grows m rs.units ≡ t → some_path_grows m rs.units ≡ true
    by_grows true e = e
    by_grows false e = absurd (quiet e)

-- so does one where the row of paths of an edit holds
pub inline-growing : (m : PathMap) (d : DebugData) (rs : DataReadings) (q : Refusal) → DataReads d rs → InlineFails m d q → some_path_grows m rs.units ≡ true
inline-growing m d rs q reads (grows_row z h list number a x place v t y path class over) =
    let first : number ≡ 0 = eqb-true number 0 (path-first number a.tag x.name (used-path number a.tag x.name path)) in
    growing-some m d rs z h list a x v reads (record {
      place = place;
      table = t;
      value = subst (λ (n : ℕ). HasValue h list (bytes_up_to z h) n a x place v) first y;
      path = ap (λ (n : ℕ). is_path n a.tag x.name) (sym first) ∙ path;
      class = class;
      grows = over;
    })
