-- In pieces whose relocations may stand where they do, the field of each offset is a number or has a place (gABI ch. 4 "Relocation"): a symbol
-- without a place stands in none.
use Rattle.std.specs.Bool.{⊤}
use Rattle.std.specs.Prelude.{ℤ}
use Rattle.std.proofs.Common.{Bool, true, false, ◌≡◌, ℕ, ◌+◌, ◌==◌, ◌||◌, if◌then◌else◌, List, [], ◌∷◌, ◌++◌, length, drop, Option, Some, None, refl, sym, ap, ◌∙◌, subst, append_assoc}
use Rattle.std.proofs.Math.Seq.{drop-append_seam}
use Rattle.std.proofs.lemmas.List.{drop-drop}
use Rattle.dw_base.specs.Cells.{Cell, CellSection, Located, cells_at, field_of, is_placed}
use Rattle.dw_base.specs.DebugData.{DataReadings, DebugData, ReadsAll, units_in}
use Rattle.dw_base.specs.Forms.{ValueKind, block_of, counted, counted_leb, form_in_front, in_abbreviation, inline_text, kind_in, leb_number, number_of, present, signed_leb, supplementary, text_offset, unlisted, width_size}
use Rattle.dw_base.specs.MacroPieces.{MacroMode, MacroState, at_line, at_offset, at_operation, at_unit, macro_grammar, macros_at, no_macros}
use Rattle.dw_base.specs.MacroReadings.{EachMacro, MacroReading, ReadsAllMacros}
use Rattle.dw_base.specs.Numbers.{number_at}
use Rattle.dw_base.specs.OffsetPieces.{OffsetMode, OffsetState, at_contribution, at_slot, no_offsets, offset_grammar, offsets_at}
use Rattle.dw_base.specs.Pieces.{Chain, EachPiece, Piece, joined}
use Rattle.dw_base.specs.Readings.{EachReading, Readings}
use Rattle.dw_base.specs.RelocationRows.{FieldPlace, IsField, OffsetReads, can_be_offset, field_place, is_section_offset, kind_field, listed_field, macro_field, macro_fields, names_start, offset_field, plain_field, slot_field, slot_fields, unit_field, unit_fields}
use Rattle.dw_base.specs.Roles.{fixed, inline_path, is_line_start, is_macro_start, is_path_use, line_start, offset, role_of, role_of_kind, role_of_mode, use_of}
use Rattle.dw_base.specs.TableStarts.{is_macro_value, macro_value_by, macro_value_in}
use Rattle.dw_base.specs.TextIndexes.{SaidBase, all_bases, base_placed, base_said, base_value, bases_by, bases_in, is_base, placed_of, said_by}
use Rattle.dw_base.specs.UnitHeaders.{UnitBase, UnitSection}
use Rattle.dw_base.specs.UnitPieces.{FitsKind, FitsMode, IsValue, unit_grammar}
use Rattle.dw_base.specs.UnitStates.{Mode, UnitState, at_chosen, at_code, at_header, at_values, before_unit, stuck}
use Rattle.dw_base.specs.Values.{number_value, offset_class, value_of}
use Rattle.dw_base.specs.declared.debug_sections.DebugSection.TheVariants.{Info, Macro, StrOffsets}
use Rattle.dw_base.specs.declared.shared.Order.{Order}
use Rattle.dw_base.specs.declared.shared.Width.{Width}
use Rattle.dw_base.specs.declared.texts.TextSection.{TextSection}
use Rattle.dw_base.specs.declared.values.AttributeUse.{AttributeUse}
use Rattle.dw_base.specs.declared.values.AttributeUse.TheVariants.{NamesLineTable, NamesMacroUnit}
use Rattle.dw_base.specs.declared.values.Spec.{Spec}
use Rattle.dw_base.specs.declared.values.Value.{Value}
use Rattle.dw_base.specs.declared.values.ValueClass.{ValueClass}
use Rattle.dw_base.specs.declared.values.ValueClass.TheVariants.{Number, SecOffset}
use Rattle.dw_base.proofs.ViewCellLaws.{piece-cells}
use Rattle.dw_meaning.specs.RelocationFails.{LeftRelocationsRead}
use Rattle.dw_meaning.proofs.NameFieldRowLaws.{field-behind, first-field, front-field}
use Rattle.dw_offsets.proofs.SlotPieceLaws.{place-next}
use Rattle.dw_unit_fields.proofs.PlacedLaws.{PlacedCells, placed-cells}
use Rattle.refusal_laws.specs.Readable.{ArePieces}
use Rattle.refusal_laws.proofs.ListDecisions.{Each, each-append}

-- ### A value

-- how many bytes a number and the offset of a text have
abbrev FitsSize : ValueKind → List Cell → Type 0
FitsSize (number_of class n) p = length p ≡ n
FitsSize (text_offset table n) p = length p ≡ n
FitsSize k p = ⊤

number-size : (class : ValueClass) (at n : ℕ) (o : Option ℕ) (v : Value) → number_value class at n o ≡ Some v → v.size ≡ n
number-size class at n None v e = absurd cc
number-size class at n (Some x) v e =
    let same : record { class = class; number = x; at = at; len = n; size = n } ≡ v = once _ v e in
    sym (ap (λ (w : Value). w.size) same)
  where
    once : (w v : Value) → Some w ≡ Some v → w ≡ v
    once w v e = cc

value-size : (k : ValueKind) (order : Order) (bytes : List ℕ) (i : ℤ) (v : Value) (p : List Cell) → value_of k order bytes 0 i ≡ Some v → v.size ≡ length p → FitsSize k p
unfolding value_of
value-size (number_of class n) order bytes i v p e size = sym size ∙ number-size class 0 n (number_at order bytes 0 n) v e
value-size (text_offset table n) order bytes i v p e size = sym size ∙ number-size (offset_class table) 0 n (number_at order bytes 0 n) v e
value-size (leb_number class) order bytes i v p e size = tt
value-size signed_leb order bytes i v p e size = tt
value-size (block_of n) order bytes i v p e size = tt
value-size (counted n) order bytes i v p e size = tt
value-size counted_leb order bytes i v p e size = tt
value-size inline_text order bytes i v p e size = tt
value-size present order bytes i v p e size = tt
value-size in_abbreviation order bytes i v p e size = tt
value-size form_in_front order bytes i v p e size = tt
value-size supplementary order bytes i v p e size = tt
value-size unlisted order bytes i v p e size = tt

own-size : (k : ValueKind) (s : UnitState) (x : Spec) (p : List Cell) → IsValue s x k p → FitsSize k p
own-size k s x p f = value-size k s.header.params.order _ x.implicit f.value p f.is f.size

kind-size : (k : ValueKind) (s : UnitState) (x : Spec) (p : List Cell) → FitsKind k s x p → FitsSize k p
kind-size form_in_front s x p f = tt
kind-size (number_of class n) s x p f = own-size (number_of class n) s x p f
kind-size (text_offset table n) s x p f = own-size (text_offset table n) s x p f
kind-size (leb_number class) s x p f = tt
kind-size signed_leb s x p f = tt
kind-size (block_of n) s x p f = tt
kind-size (counted n) s x p f = tt
kind-size counted_leb s x p f = tt
kind-size inline_text s x p f = tt
kind-size present s x p f = tt
kind-size in_abbreviation s x p f = tt
kind-size supplementary s x p f = tt
kind-size unlisted s x p f = tt

-- the cells of a value of a kind stand at a place, and its offset, if it is one, reads
record ValueStands (order : Order) (contents : List Cell) (k : ValueKind) (place : ℕ) (start : Bool) (p : List Cell) : Type 0 where
  size : FitsSize k p
  cells : cells_at contents place (length p) ≡ p
  offsets : (f : FieldPlace) → IsField (kind_field k place start) f → f.use_is ≡ offset_field → OffsetReads order contents f

-- so the field of an offset of so many bytes is placed
field-placed : (order : Order) (contents : List Cell) (fs : List FieldPlace) (place n : ℕ) (p : List Cell) → cells_at contents place (length p) ≡ p → length p ≡ n
    → ((f : FieldPlace) → IsField fs f → f.use_is ≡ offset_field → OffsetReads order contents f) → fs ≡ field_place place n offset_field ∷ []
    → is_placed (field_of order p) ≡ true
field-placed order contents fs place n p cells size offsets is =
    let o : OffsetReads order contents (field_place place n offset_field) =
    offsets (field_place place n offset_field) (subst (λ (gs : List FieldPlace). IsField gs (field_place place n offset_field)) (sym is) (first-field (field_place place n offset_field) [])) refl in
    subst (λ (q : List Cell). is_placed (field_of order q) ≡ true) cells
    (subst (λ (m : ℕ). is_placed (field_of order (cells_at contents place m)) ≡ true) (sym size) o.placed)

-- the field of a number that can be an offset, of an attribute that says where something starts
number-field : (class : ValueClass) (n place : ℕ) (start : Bool) → start ≡ true → can_be_offset class n ≡ true → kind_field (number_of class n) place start ≡ field_place place n offset_field ∷ []
number-field class n place false s e = absurd cc
number-field SecOffset n place true s e = refl
number-field Number n place true s e = ap (λ (b : Bool). listed_field place n (Some (if b then offset_field else plain_field))) e
number-field class n place true s e = absurd cc

-- the offset of a text
text-kind : (k : ValueKind) (u : AttributeUse) (order : Order) (contents : List Cell) (place : ℕ) (start : Bool) (p : List Cell) (t : TextSection) (path : Bool)
    → ValueStands order contents k place start p → role_of_kind k u ≡ offset t path → is_placed (field_of order p) ≡ true
text-kind (text_offset table n) u order contents place start p t path h e =
    field-placed order contents (kind_field (text_offset table n) place start) place n p h.cells h.size h.offsets refl
text-kind (number_of class n) u order contents place start p t path h e = absurd (by (is_line_start u class n) e)
  where
    by : (b : Bool) → (if b then line_start else fixed) ≡ offset t path → ⊥
    by true e = cc
    by false e = cc
text-kind inline_text u order contents place start p t path h e = absurd (by (is_path_use u) e)
  where
    by : (b : Bool) → (if b then inline_path else fixed) ≡ offset t path → ⊥
    by true e = cc
    by false e = cc
text-kind (leb_number class) u order contents place start p t path h e = absurd cc
text-kind signed_leb u order contents place start p t path h e = absurd cc
text-kind (block_of n) u order contents place start p t path h e = absurd cc
text-kind (counted n) u order contents place start p t path h e = absurd cc
text-kind counted_leb u order contents place start p t path h e = absurd cc
text-kind present u order contents place start p t path h e = absurd cc
text-kind in_abbreviation u order contents place start p t path h e = absurd cc
text-kind form_in_front u order contents place start p t path h e = absurd cc
text-kind supplementary u order contents place start p t path h e = absurd cc
text-kind unlisted u order contents place start p t path h e = absurd cc

-- the start of a line table
line-use : (u : AttributeUse) (class : ValueClass) (n : ℕ) → is_line_start u class n ≡ true → (names_start u ≡ true) × (can_be_offset class n ≡ true)
line-use NamesLineTable SecOffset n e = (refl, refl)
line-use NamesLineTable Number n e = (refl, e)
line-use u class n e = absurd cc

line-kind : (k : ValueKind) (u : AttributeUse) (order : Order) (contents : List Cell) (place : ℕ) (start : Bool) (p : List Cell)
    → (names_start u ≡ true → start ≡ true) → ValueStands order contents k place start p → role_of_kind k u ≡ line_start → is_placed (field_of order p) ≡ true
line-kind (number_of class n) u order contents place start p says h e = by (is_line_start u class n) refl e
  where
    by : (b : Bool) → is_line_start u class n ≡ b → (if b then line_start else fixed) ≡ line_start → is_placed (field_of order p) ≡ true
    by false is e = absurd cc
    by true is e =
        let both = line-use u class n is in
        field-placed order contents (kind_field (number_of class n) place start) place n p h.cells h.size h.offsets (number-field class n place start (says both.0) both.1)
line-kind inline_text u order contents place start p says h e = absurd (by (is_path_use u) e)
  where
    by : (b : Bool) → (if b then inline_path else fixed) ≡ line_start → ⊥
    by true e = cc
    by false e = cc
line-kind (text_offset table n) u order contents place start p says h e = absurd cc
line-kind (leb_number class) u order contents place start p says h e = absurd cc
line-kind signed_leb u order contents place start p says h e = absurd cc
line-kind (block_of n) u order contents place start p says h e = absurd cc
line-kind (counted n) u order contents place start p says h e = absurd cc
line-kind counted_leb u order contents place start p says h e = absurd cc
line-kind present u order contents place start p says h e = absurd cc
line-kind in_abbreviation u order contents place start p says h e = absurd cc
line-kind form_in_front u order contents place start p says h e = absurd cc
line-kind supplementary u order contents place start p says h e = absurd cc
line-kind unlisted u order contents place start p says h e = absurd cc

-- the start of a macro unit
macro-use : (u : AttributeUse) (class : ValueClass) (n : ℕ) → is_macro_start u class n ≡ true → (names_start u ≡ true) × (can_be_offset class n ≡ true)
macro-use NamesMacroUnit SecOffset n e = (refl, refl)
macro-use NamesMacroUnit Number n e = (refl, e)
macro-use u class n e = absurd cc

macro-kind : (k : ValueKind) (u : AttributeUse) (order : Order) (contents : List Cell) (place : ℕ) (start : Bool) (p : List Cell)
    → (names_start u ≡ true → start ≡ true) → ValueStands order contents k place start p → macro_value_by k u ≡ true → is_placed (field_of order p) ≡ true
macro-kind (number_of class n) u order contents place start p says h e =
    let both = macro-use u class n e in
    field-placed order contents (kind_field (number_of class n) place start) place n p h.cells h.size h.offsets (number-field class n place start (says both.0) both.1)
macro-kind k u order contents place start p says h e = absurd cc

-- the base of a unit
base-kind : (k : ValueKind) (order : Order) (contents : List Cell) (place : ℕ) (start : Bool) (p : List Cell) → start ≡ true → ValueStands order contents k place start p
    → base_placed order k p ≡ true
base-kind (number_of Number n) order contents place start p says h = by (n == 4 || n == 8) refl
  where
    by : (b : Bool) → (n == 4 || n == 8) ≡ b → (if b then is_placed (field_of order p) else true) ≡ true
    by true is = field-placed order contents (kind_field (number_of Number n) place start) place n p h.cells h.size h.offsets (number-field Number n place start says is)
    by false is = refl
base-kind (number_of SecOffset n) order contents place start p says h =
    field-placed order contents (kind_field (number_of SecOffset n) place start) place n p h.cells h.size h.offsets (number-field SecOffset n place start says refl)
base-kind k order contents place start p says h = refl

-- ### A piece of a unit

abbrev ModeStands : Mode → Order → List Cell → UnitState → List Cell → Type 0
ModeStands (at_values number tag (x ∷ xs)) order contents s p = ValueStands order contents (kind_in s.header.params x.form) s.place (is_section_offset number tag x.name) p
ModeStands (at_chosen number tag start x xs) order contents s p = ValueStands order contents (kind_in s.header.params x.form) s.place (is_section_offset number tag x.name) p
ModeStands m order contents s p = ⊤

mode-stands : (m : Mode) (base : UnitBase) (contents : List Cell) (s : UnitState) (p : List Cell) → FitsMode m base s p → cells_at contents s.place (length p) ≡ p
    → ((f : FieldPlace) → IsField (unit_field m base.order s p) f → f.use_is ≡ offset_field → OffsetReads base.order contents f) → ModeStands m base.order contents s p
mode-stands (at_values number tag (x ∷ xs)) base contents s p fits cells offsets =
    record { size = kind-size (kind_in s.header.params x.form) s x p fits; cells = cells; offsets = offsets }
mode-stands (at_chosen number tag start x xs) base contents s p fits cells offsets =
    record { size = own-size (kind_in s.header.params x.form) s x p fits; cells = cells; offsets = offsets }
mode-stands (at_values number tag []) base contents s p fits cells offsets = tt
mode-stands at_header base contents s p fits cells offsets = tt
mode-stands at_code base contents s p fits cells offsets = tt
mode-stands stuck base contents s p fits cells offsets = tt

or-left : (a b : Bool) → a ≡ true → (a || b) ≡ true
or-left true b e = refl
or-left false b e = absurd cc

or-right : (a b : Bool) → b ≡ true → (a || b) ≡ true
or-right true true e = refl
or-right false true e = refl
or-right a false e = absurd cc

text-mode : (m : Mode) (order : Order) (contents : List Cell) (s : UnitState) (p : List Cell) (t : TextSection) (path : Bool) → ModeStands m order contents s p
    → role_of_mode m s.header.params ≡ offset t path → is_placed (field_of order p) ≡ true
text-mode (at_values number tag (x ∷ xs)) order contents s p t path h e =
    text-kind (kind_in s.header.params x.form) (use_of number tag x.name) order contents s.place (is_section_offset number tag x.name) p t path h e
text-mode (at_chosen number tag start x xs) order contents s p t path h e =
    text-kind (kind_in s.header.params x.form) (use_of number tag x.name) order contents s.place (is_section_offset number tag x.name) p t path h e
text-mode (at_values number tag []) order contents s p t path h e = absurd cc
text-mode at_header order contents s p t path h e = absurd cc
text-mode at_code order contents s p t path h e = absurd cc
text-mode stuck order contents s p t path h e = absurd cc

line-mode : (m : Mode) (order : Order) (contents : List Cell) (s : UnitState) (p : List Cell) → ModeStands m order contents s p → role_of_mode m s.header.params ≡ line_start
    → is_placed (field_of order p) ≡ true
line-mode (at_values number tag (x ∷ xs)) order contents s p h e =
    line-kind (kind_in s.header.params x.form) (use_of number tag x.name) order contents s.place (is_section_offset number tag x.name) p
    (or-left (names_start (use_of number tag x.name)) (is_base number x.name)) h e
line-mode (at_chosen number tag start x xs) order contents s p h e =
    line-kind (kind_in s.header.params x.form) (use_of number tag x.name) order contents s.place (is_section_offset number tag x.name) p
    (or-left (names_start (use_of number tag x.name)) (is_base number x.name)) h e
line-mode (at_values number tag []) order contents s p h e = absurd cc
line-mode at_header order contents s p h e = absurd cc
line-mode at_code order contents s p h e = absurd cc
line-mode stuck order contents s p h e = absurd cc

macro-mode : (m : Mode) (order : Order) (contents : List Cell) (s : UnitState) (p : List Cell) → ModeStands m order contents s p → macro_value_in m s.header.params ≡ true
    → is_placed (field_of order p) ≡ true
macro-mode (at_values number tag (x ∷ xs)) order contents s p h e =
    macro-kind (kind_in s.header.params x.form) (use_of number tag x.name) order contents s.place (is_section_offset number tag x.name) p
    (or-left (names_start (use_of number tag x.name)) (is_base number x.name)) h e
macro-mode (at_chosen number tag start x xs) order contents s p h e =
    macro-kind (kind_in s.header.params x.form) (use_of number tag x.name) order contents s.place (is_section_offset number tag x.name) p
    (or-left (names_start (use_of number tag x.name)) (is_base number x.name)) h e
macro-mode (at_values number tag []) order contents s p h e = absurd cc
macro-mode at_header order contents s p h e = absurd cc
macro-mode at_code order contents s p h e = absurd cc
macro-mode stuck order contents s p h e = absurd cc

abbrev IsPlacedBase : SaidBase → Type 0
IsPlacedBase x = x.placed ≡ true

said-placed : (unit : ℕ) (placed : Bool) (o : Option ℕ) → placed ≡ true → Each IsPlacedBase (said_by unit placed o)
said-placed unit placed None e = tt
said-placed unit placed (Some n) e = (e, tt)

value-bases : (kind : ValueKind) (number tag name : ℕ) (order : Order) (contents : List Cell) (z : Located) (s : UnitState) (p : List Cell)
    → ValueStands order contents kind s.place (is_section_offset number tag name) p
    → Each IsPlacedBase (if is_base number name then base_said s.unit order z kind p else [])
value-bases kind number tag name order contents z s p h = by (is_base number name) refl
  where
    by : (b : Bool) → is_base number name ≡ b → Each IsPlacedBase (if b then base_said s.unit order z kind p else [])
    by false is = tt
    by true is =
        said-placed s.unit (base_placed order kind p) (base_value order z kind p)
        (base-kind kind order contents s.place (is_section_offset number tag name) p (or-right (names_start (use_of number tag name)) (is_base number name) is) h)

base-mode : (m : Mode) (order : Order) (contents : List Cell) (z : Located) (s : UnitState) (p : List Cell) → ModeStands m order contents s p
    → Each IsPlacedBase (bases_by m order z s p)
base-mode (at_values number tag (x ∷ xs)) order contents z s p h = value-bases (kind_in s.header.params x.form) number tag x.name order contents z s p h
base-mode (at_chosen number tag start x xs) order contents z s p h = value-bases (kind_in s.header.params x.form) number tag x.name order contents z s p h
base-mode (at_values number tag []) order contents z s p h = tt
base-mode at_header order contents z s p h = tt
base-mode at_code order contents z s p h = tt
base-mode stuck order contents z s p h = tt

-- what is placed of a piece
pub record PlacedPiece (order : Order) (x : Piece UnitState) : Type 0 where
  pub text : (t : TextSection) (path : Bool) → role_of x ≡ offset t path → is_placed (field_of order x.cells) ≡ true
  pub line : role_of x ≡ line_start → is_placed (field_of order x.cells) ≡ true
  pub macro : is_macro_value x ≡ true → is_placed (field_of order x.cells) ≡ true
  pub bases : (z : Located) → Each IsPlacedBase (bases_by x.state.mode order z x.state x.cells)

piece-placed : (base : UnitBase) (contents : List Cell) (x : Piece UnitState) → FitsMode x.state.mode base x.state x.cells → cells_at contents x.state.place (length x.cells) ≡ x.cells
    → ((f : FieldPlace) → IsField (unit_field x.state.mode base.order x.state x.cells) f → f.use_is ≡ offset_field → OffsetReads base.order contents f)
    → PlacedPiece base.order x
unfolding role_of
piece-placed base contents x fits cells offsets =
    let h : ModeStands x.state.mode base.order contents x.state x.cells = mode-stands x.state.mode base contents x.state x.cells fits cells offsets in
    record {
      text = λ t path e. text-mode x.state.mode base.order contents x.state x.cells t path h e;
      line = λ e. line-mode x.state.mode base.order contents x.state x.cells h e;
      macro = λ e. macro-mode x.state.mode base.order contents x.state x.cells h e;
      bases = λ z. base-mode x.state.mode base.order contents z x.state x.cells h;
    }

pieces-placed : (base : UnitBase) (contents : List Cell) (s : UnitState) (place : ℕ) (xs : List (Piece UnitState)) → Chain (unit_grammar base) s xs → PlacedCells contents place xs
    → ((f : FieldPlace) → IsField (unit_fields base.order xs) f → f.use_is ≡ offset_field → OffsetReads base.order contents f) → EachPiece (PlacedPiece base.order) xs
pieces-placed base contents s place [] c p all = tt
pieces-placed base contents s place (x ∷ xs) c p all = (
  piece-placed base contents x c.1
      (ap (λ (i : ℕ). cells_at contents i (length x.cells)) p.0 ∙ piece-cells contents x.cells (joined xs) place (sym p.1))
      (λ f is own. all f (front-field (unit_field x.state.mode base.order x.state x.cells) (unit_fields base.order xs) f is) own),
  pieces-placed base contents ((unit_grammar base).next x.state x.cells) (place + length x.cells) xs c.2 p.2
      (λ f is own. all f (field-behind (unit_field x.state.mode base.order x.state x.cells) (unit_fields base.order xs) f is) own),
)

units-placed : (d : DebugData) (moving : List ℕ) (first : ℕ) (front zs : List UnitSection) (rs : Readings) → LeftRelocationsRead d moving → d.found Info ≡ front ++ zs
    → ReadsAll d.base first zs rs → EachReading (PlacedPiece d.base.order) rs
units-placed d moving first front zs [] left e reads = tt
units-placed d moving first front [] (r ∷ rs) left e reads = absurd reads
units-placed d moving first front (z ∷ zs) (r ∷ rs) left e reads = (
  pieces-placed d.base z.contents (before_unit z.number z.kind (length z.contents) 0 first) 0 r.pieces reads.1.chain
      (placed-cells d.base z.contents (before_unit z.number z.kind (length z.contents) 0 first) 0 r.pieces refl reads.1.chain reads.1.cells)
      (left.units front zs z first r.pieces e reads.1).offsets,
  units-placed d moving (first + units_in r.pieces) (front ++ z ∷ []) zs rs left (e ∙ sym (append_assoc front (z ∷ []) zs)) reads.2,
)

pub all-placed : (d : DebugData) (moving : List ℕ) (r : DataReadings) → ArePieces d r → LeftRelocationsRead d moving → EachReading (PlacedPiece d.base.order) r.units
all-placed d moving r p left = units-placed d moving 0 [] (d.found Info) r.units left refl p.units

-- the base of each unit is placed
bases-among : (order : Order) (z : Located) (xs : List (Piece UnitState)) → EachPiece (PlacedPiece order) xs → Each IsPlacedBase (bases_in order z xs)
bases-among order z [] h = tt
bases-among order z (x ∷ xs) h = each-append IsPlacedBase (bases_by x.state.mode order z x.state x.cells) (bases_in order z xs) (h.0.bases z) (bases-among order z xs h.1)

bases-all : (order : Order) (z : Located) (rs : Readings) → EachReading (PlacedPiece order) rs → Each IsPlacedBase (all_bases order z rs)
bases-all order z [] h = tt
bases-all order z (r ∷ rs) h = each-append IsPlacedBase (bases_in order z r.pieces) (all_bases order z rs) (bases-among order z r.pieces h.0) (bases-all order z rs h.1)

first-placed : (bs : List SaidBase) (unit : ℕ) → Each IsPlacedBase bs → placed_of bs unit ≡ true
first-placed [] unit h = refl
first-placed (x ∷ xs) unit h = by (x.unit == unit) (first-placed xs unit h.1)
  where
    by : (b : Bool) → placed_of xs unit ≡ true → (if b then x.placed else placed_of xs unit) ≡ true
    by true rest = h.0
    by false rest = rest

pub base-placed : (order : Order) (z : Located) (rs : Readings) (unit : ℕ) → EachReading (PlacedPiece order) rs → placed_of (all_bases order z rs) unit ≡ true
base-placed order z rs unit h = first-placed (all_bases order z rs) unit (bases-all order z rs h)

-- ### Slots

abbrev pub SlotPlaced : Order → Piece OffsetState → Type 0
SlotPlaced order x = (w : Width) (end : ℕ) → x.state.mode ≡ at_slot w end → is_placed (field_of order x.cells) ≡ true

slot-placed : (m : OffsetMode) (order : Order) (contents : List Cell) (s : OffsetState) (p : List Cell) → (offset_grammar order).Fits (record s { mode = m }) p
    → cells_at contents s.place (length p) ≡ p
    → ((f : FieldPlace) → IsField (slot_field m s.place) f → f.use_is ≡ offset_field → OffsetReads order contents f) → (w : Width) (end : ℕ) → m ≡ at_slot w end
    → is_placed (field_of order p) ≡ true
slot-placed (at_slot w end) order contents s p fits cells offsets u e is = field-placed order contents (slot_field (at_slot w end) s.place) s.place (width_size w) p cells fits.size offsets refl
slot-placed at_contribution order contents s p fits cells offsets u e is = absurd cc
slot-placed no_offsets order contents s p fits cells offsets u e is = absurd cc

slots-from : (order : Order) (contents : List Cell) (s : OffsetState) (place : ℕ) (xs : List (Piece OffsetState)) → s.place ≡ place → Chain (offset_grammar order) s xs
    → joined xs ≡ drop place contents
    → ((f : FieldPlace) → IsField (slot_fields xs) f → f.use_is ≡ offset_field → OffsetReads order contents f) → EachPiece (SlotPlaced order) xs
slots-from order contents s place [] at c e all = tt
slots-from order contents s place (x ∷ xs) at c e all =
    let here : x.state.place ≡ place = ap (λ (t : OffsetState). t.place) c.0 ∙ at in
    let next : ((offset_grammar order).next x.state x.cells).place ≡ place + length x.cells =
    place-next x.state.mode order x.state x.cells c.1 ∙ ap (λ (i : ℕ). i + length x.cells) here in
    let behind : joined xs ≡ drop (place + length x.cells) contents =
    sym (drop-append_seam x.cells (joined xs)) ∙ ap (drop (length x.cells)) e ∙ drop-drop (length x.cells) place contents in (
      slot-placed x.state.mode order contents x.state x.cells c.1
          (ap (λ (i : ℕ). cells_at contents i (length x.cells)) here ∙ piece-cells contents x.cells (joined xs) place (sym e))
          (λ f is own. all f (front-field (slot_field x.state.mode x.state.place) (slot_fields xs) f is) own),
      slots-from order contents ((offset_grammar order).next x.state x.cells) (place + length x.cells) xs next c.2 behind
          (λ f is own. all f (field-behind (slot_field x.state.mode x.state.place) (slot_fields xs) f is) own),
    )

pub slots-placed : (d : DebugData) (moving : List ℕ) (r : DataReadings) → ArePieces d r → LeftRelocationsRead d moving → EachPiece (SlotPlaced d.base.order) r.offsets
slots-placed d moving r p left =
    slots-from d.base.order (d.found StrOffsets).contents (offsets_at (length (d.found StrOffsets).contents) 0 0 at_contribution) 0 r.offsets refl p.offsets.chain p.offsets.cells
    (left.slots r.offsets p.offsets).offsets

-- ### Macro units

abbrev is_offset_mode : MacroMode → Bool
is_offset_mode (at_line width) = true
is_offset_mode (at_offset width names) = true
is_offset_mode m = false

abbrev pub MacroPlaced : Order → Piece MacroState → Type 0
MacroPlaced order x = is_offset_mode x.state.mode ≡ true → is_placed (field_of order x.cells) ≡ true

macro-placed : (m : MacroMode) (order : Order) (contents : List Cell) (s : MacroState) (p : List Cell) → (macro_grammar order).Fits (macros_at s.place m) p
    → cells_at contents s.place (length p) ≡ p
    → ((f : FieldPlace) → IsField (macro_field m s.place) f → f.use_is ≡ offset_field → OffsetReads order contents f) → is_offset_mode m ≡ true → is_placed (field_of order p) ≡ true
macro-placed (at_line w) order contents s p fits cells offsets is = field-placed order contents (macro_field (at_line w) s.place) s.place (width_size w) p cells fits offsets refl
macro-placed (at_offset w names) order contents s p fits cells offsets is =
    field-placed order contents (macro_field (at_offset w names) s.place) s.place (width_size w) p cells fits offsets refl
macro-placed at_unit order contents s p fits cells offsets is = absurd cc
macro-placed (at_operation w) order contents s p fits cells offsets is = absurd cc
macro-placed no_macros order contents s p fits cells offsets is = absurd cc

macros-from : (order : Order) (contents : List Cell) (s : MacroState) (place : ℕ) (xs : List (Piece MacroState)) → s.place ≡ place → Chain (macro_grammar order) s xs
    → joined xs ≡ drop place contents
    → ((f : FieldPlace) → IsField (macro_fields xs) f → f.use_is ≡ offset_field → OffsetReads order contents f) → EachPiece (MacroPlaced order) xs
macros-from order contents s place [] at c e all = tt
macros-from order contents s place (x ∷ xs) at c e all =
    let here : x.state.place ≡ place = ap (λ (t : MacroState). t.place) c.0 ∙ at in
    let next : x.state.place + length x.cells ≡ place + length x.cells = ap (λ (i : ℕ). i + length x.cells) here in
    let behind : joined xs ≡ drop (place + length x.cells) contents =
    sym (drop-append_seam x.cells (joined xs)) ∙ ap (drop (length x.cells)) e ∙ drop-drop (length x.cells) place contents in (
      macro-placed x.state.mode order contents x.state x.cells c.1
          (ap (λ (i : ℕ). cells_at contents i (length x.cells)) here ∙ piece-cells contents x.cells (joined xs) place (sym e))
          (λ f is own. all f (front-field (macro_field x.state.mode x.state.place) (macro_fields xs) f is) own),
      macros-from order contents ((macro_grammar order).next x.state x.cells) (place + length x.cells) xs next c.2 behind
          (λ f is own. all f (field-behind (macro_field x.state.mode x.state.place) (macro_fields xs) f is) own),
    )

sections-placed : (d : DebugData) (moving : List ℕ) (front zs : List CellSection) (rs : List MacroReading) → LeftRelocationsRead d moving → d.found Macro ≡ front ++ zs
    → ReadsAllMacros d.base.order zs rs → EachMacro (MacroPlaced d.base.order) rs
sections-placed d moving front zs [] left e reads = tt
sections-placed d moving front [] (r ∷ rs) left e reads = absurd reads
sections-placed d moving front (z ∷ zs) (r ∷ rs) left e reads = (
  macros-from d.base.order z.contents (macros_at 0 at_unit) 0 r.pieces refl reads.1.chain reads.1.cells (left.macros front zs z r.pieces e reads.1).offsets,
  sections-placed d moving (front ++ z ∷ []) zs rs left (e ∙ sym (append_assoc front (z ∷ []) zs)) reads.2,
)

pub macros-placed : (d : DebugData) (moving : List ℕ) (r : DataReadings) → ArePieces d r → LeftRelocationsRead d moving → EachMacro (MacroPlaced d.base.order) r.macros
macros-placed d moving r p left = sections-placed d moving [] (d.found Macro) r.macros left refl p.macros
