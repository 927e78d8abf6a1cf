-- From the places of texts in units to the readings of debug data, and what they say of paths.
use Rattle.std.proofs.Common.{Bool, true, false, ◌≡◌, ℕ, ◌+◌, List, [], ◌∷◌, ◌++◌, length, take, drop, cond, IsTrue, Option, Some, None, refl, sym, ap, ◌∙◌, subst, arith, append_assoc, append-nil, ◌==◌, ◌||◌}
use Rattle.std.specs.Bool.{⊤}
use Rattle.std.proofs.Math.Seq.{take-append_seam}
use Rattle.std.proofs.lemmas.List.{take-append-le}
use Rattle.dw_base.specs.Cells.{Cell, bytes_of, cells_at, field_of, located_cells, offset_of}
use Rattle.dw_base.specs.DebugData.{DebugData, DataReadings, Lasting, around_of, start_number, units_in, ReadsAll}
use Rattle.dw_base.specs.DebugSections.{read_sections}
use Rattle.dw_base.specs.Readings.{Reading, Readings, EachReading}
use Rattle.dw_base.specs.Forms.{ValueKind, number_of, leb_number, inline_text as inline_kind, text_offset, kind_in}
use Rattle.dw_base.specs.InlinePaths.{inline_fits}
use Rattle.dw_base.specs.Numbers.{spelled}
use Rattle.dw_base.specs.Paths.{PathMap}
use Rattle.dw_base.specs.Pieces.{Piece, joined, Chain, EachPiece}
use Rattle.dw_base.specs.Roles.{Role, fixed, offset, inline_path, line_start, role_of, role_of_kind, role_of_mode, use_of, is_line_start, is_path, is_path_use}
use Rattle.dw_base.specs.TableStarts.{has_start_form, HasStartForm, NamesMacro, NamesUnitIf, begin_in, is_macro_value, macro_value_by, macro_value_in, start_form_by, start_form_in, value_begin}
use Rattle.dw_base.specs.LineMeanings.{is_there}
use Rattle.dw_base.specs.LineReadings.{table_starts}
use Rattle.dw_base.specs.TextChanges.{NamesTextBy, NamesText, InlineFitsBy, InlineFits}
use Rattle.dw_base.specs.TextIndexes.{is_base}
use Rattle.dw_base.specs.Texts.{text, text_in}
use Rattle.dw_base.specs.UnitHeaders.{UnitBase, UnitSection}
use Rattle.dw_base.specs.UnitPieces.{IsValue, FitsKind, FitsMode, ReadsUnits, unit_grammar}
use Rattle.dw_base.specs.UnitStates.{Mode, at_header, at_code, at_values, at_chosen, stuck, UnitState, before_unit, code_value}
use Rattle.dw_base.specs.Values.{value_of}
use Rattle.dw_base.specs.declared.shared.Order.{Order}
use Rattle.dw_base.specs.declared.values.Spec.{Spec}
use Rattle.dw_base.specs.declared.values.ValueClass.{ValueClass}
use Rattle.dw_base.specs.declared.values.ValueClass.TheVariants.{Number, StrIndex, SecOffset}
use Rattle.dw_meaning.proofs.TextEditLaws.{chosen-fits}
use Rattle.dw_base.proofs.UnitHeaderLaws.{bytes_of-append}
use Rattle.dw_base.specs.declared.debug_sections.DebugSection.TheVariants.{Line, Macro}
use Rattle.dw_offsets.specs.declared.fields.OffsetField.{OffsetField}
use Rattle.dw_base.specs.declared.texts.TextSection.{TextSection}
use Rattle.dw_base.specs.declared.texts.TextSection.TheVariants.{InStr, InLineStr}
use Rattle.dw_base.specs.declared.values.AttributeUse.{AttributeUse}
use Rattle.dw_meaning.proofs.ScanPieceLaws.{bytes_of-drop}
use Rattle.dw_unit_fields.specs.TextPlaces.{TextPlace, Indexed, base_offset, said_base, unit_base, text_index, place_of, indexed_at, indexed_kind, indexed_in, places_in, PlaceNames, PlacesName, fields_in, inline_at, inline_in, paths_by, SectionSays, AllPlaced, InlinesFit, AllFitRooms, macros_in, no_start, places_into, said_start, stray_in, starts_in, unit_start}
use Rattle.dw_unit_fields.specs.NamedStarts.{AllStarts, StartsNamed, UnitsNamed}
use Rattle.dw_starts.specs.UnitPlaces.{PlacesStart, UnitPlaces, names_place}
use Rattle.dw_unit_fields.specs.SectionFields.{SectionFields, field_by, fields_into, lists_by, piece_fields, pieces_into, inline_by, inline_paths, paths_in, paths_of, inline_text, macro_by, macro_fields, start_by, start_fields, stray_among}
use Rattle.dw_unit_fields.specs.declared.fields.InlinePath.{InlinePath}
use Rattle.dw_unit_fields.proofs.FieldListLaws.{each-section, lists-same, paths-same}
use Rattle.dw_base.proofs.StartFormLaws.{macro-form}
use Rattle.dw_unit_fields.proofs.PlacedLaws.{PlacedCells, placed-cells}
use Rattle.dw_unit_fields.proofs.SectionRunLaws.{PlacedPieces, section-placed}
use Rattle.dw_unit_fields.proofs.InlineTextLaws.{text-length, text-front}
use Rattle.dw_unit_fields.proofs.ValuePlaceLaws.{text-fields}
use Rattle.dw_starts.proofs.UnitPlaceLaws.{field-unit}

-- the fields of places, and of more of them
pub fields-append : (table : TextSection) (ts us : List TextPlace) → fields_in table (ts ++ us) ≡ fields_in table ts ++ fields_in table us
fields-append table [] us = refl
fields-append table (t ∷ ts) us =
    ap (λ (fs : List OffsetField). field_by table t.role t.at t.len ++ fs) (fields-append table ts us)
    ∙ sym (append_assoc (field_by table t.role t.at t.len) (fields_in table ts) (fields_in table us))

pub inline-append : (ts us : List TextPlace) → inline_in (ts ++ us) ≡ inline_in ts ++ inline_in us
inline-append [] us = refl
inline-append (t ∷ ts) us =
    ap (λ (ps : List InlinePath). inline_at t.role t.at t.len ++ ps) (inline-append ts us)
    ∙ sym (append_assoc (inline_at t.role t.at t.len) (inline_in ts) (inline_in us))

-- the field of one place
field-one : (table : TextSection) (r : Role) (at len : ℕ) → fields_in table (place_of r at len) ≡ field_by table r at len
field-one InStr fixed at len = refl
field-one InLineStr fixed at len = refl
field-one table (offset t path) at len = append-nil (field_by table (offset t path) at len)
field-one table inline_path at len = append-nil (field_by table inline_path at len)
field-one table line_start at len = append-nil (field_by table line_start at len)

inline-one : (r : Role) (at len : ℕ) → inline_in (place_of r at len) ≡ inline_at r at len
inline-one fixed at len = refl
inline-one (offset t path) at len = refl
inline-one inline_path at len = refl
inline-one line_start at len = refl

-- what a piece says that stays is no text that an edit may change
data IsIndexed : List TextPlace → Type 0 where
  none_indexed : IsIndexed []
  more_indexed : (at len : ℕ) (i : Indexed) (ts : List TextPlace) → IsIndexed ts → IsIndexed (record { role = fixed; at = at; len = len; says = i } ∷ ts)

one_indexed : (at : ℕ) (i : Indexed) → IsIndexed (indexed_at at i)
one_indexed at i = more_indexed at 0 i [] none_indexed

both-indexed : (ts us : List TextPlace) → IsIndexed ts → IsIndexed us → IsIndexed (ts ++ us)
both-indexed ts us none_indexed h = h
both-indexed ts us (more_indexed at len i rest k) h = more_indexed at len i (rest ++ us) (both-indexed rest us k h)

base-indexed : (field : Bool) (begin at len n : ℕ) → IsIndexed (said_base field begin at len n)
base-indexed true begin at len n = more_indexed at len base_offset [] none_indexed
base-indexed false begin at len n = one_indexed begin (unit_base n)

kind-indexed : (k : ValueKind) (path base : Bool) (order : Order) (begin at len : ℕ) (p : List Cell) → IsIndexed (indexed_kind k path base order begin at len p)
kind-indexed (number_of class n) path base order begin at len p = by_class class base
  where
    by_class : (c : ValueClass) (b : Bool) → IsIndexed (indexed_kind (number_of c n) path b order begin at len p)
    by_class StrIndex b = one_indexed begin (text_index path (spelled order (bytes_of p) 0 (length p)))
    by_class Number true = base-indexed (n == 4 || n == 8) begin at len (spelled order (bytes_of p) 0 (length p))
    by_class Number false = none_indexed
    by_class SecOffset true = base-indexed true begin at len (spelled order (bytes_of p) 0 (length p))
    by_class SecOffset false = none_indexed
    by_class c b = none_indexed
kind-indexed (leb_number class) path base order begin at len p = by_class class base
  where
    by_class : (c : ValueClass) (b : Bool) → IsIndexed (indexed_kind (leb_number c) path b order begin at len p)
    by_class StrIndex b = one_indexed begin (text_index path (code_value p))
    by_class Number true = one_indexed begin (unit_base (code_value p))
    by_class Number false = none_indexed
    by_class c b = none_indexed
kind-indexed k path base order begin at len p = none_indexed

said-indexed : (b macro : Bool) (begin at len : ℕ) → IsIndexed (said_start b macro begin at len)
said-indexed true true begin at len = more_indexed at len unit_start [] none_indexed
said-indexed true false begin at len = none_indexed
said-indexed false macro begin at len = one_indexed begin no_start

piece-indexed : (m : Mode) (s : UnitState) (p : List Cell) → IsIndexed (indexed_in m s p)
piece-indexed at_header s p = none_indexed
piece-indexed at_code s p = none_indexed
piece-indexed (at_values n tag []) s p = none_indexed
piece-indexed (at_values n tag (x ∷ xs)) s p =
    both-indexed (indexed_kind (kind_in s.header.params x.form) (is_path n tag x.name) (is_base n x.name) s.header.params.order s.place s.place (length p) p)
    (said_start (start_form_by (kind_in s.header.params x.form) (use_of n tag x.name)) (macro_value_by (kind_in s.header.params x.form) (use_of n tag x.name)) s.place s.place (length p))
    (kind-indexed (kind_in s.header.params x.form) (is_path n tag x.name) (is_base n x.name) s.header.params.order s.place s.place (length p) p)
    (said-indexed (start_form_by (kind_in s.header.params x.form) (use_of n tag x.name)) (macro_value_by (kind_in s.header.params x.form) (use_of n tag x.name)) s.place s.place (length p))
piece-indexed (at_chosen n tag start x xs) s p =
    both-indexed (indexed_kind (kind_in s.header.params x.form) (is_path n tag x.name) (is_base n x.name) s.header.params.order start s.place (length p) p)
    (said_start (start_form_by (kind_in s.header.params x.form) (use_of n tag x.name)) (macro_value_by (kind_in s.header.params x.form) (use_of n tag x.name)) start s.place (length p))
    (kind-indexed (kind_in s.header.params x.form) (is_path n tag x.name) (is_base n x.name) s.header.params.order start s.place (length p) p)
    (said-indexed (start_form_by (kind_in s.header.params x.form) (use_of n tag x.name)) (macro_value_by (kind_in s.header.params x.form) (use_of n tag x.name)) start s.place (length p))
piece-indexed stuck s p = none_indexed

fields-skip : (table : TextSection) (ts us : List TextPlace) → IsIndexed ts → fields_in table (ts ++ us) ≡ fields_in table us
fields-skip table ts us none_indexed = refl
fields-skip InStr ts us (more_indexed at len i rest k) = fields-skip InStr rest us k
fields-skip InLineStr ts us (more_indexed at len i rest k) = fields-skip InLineStr rest us k

inline-skip : (ts us : List TextPlace) → IsIndexed ts → inline_in (ts ++ us) ≡ inline_in us
inline-skip ts us none_indexed = refl
inline-skip ts us (more_indexed at len i rest k) = inline-skip rest us k

starts-skip : (ts us : List TextPlace) → IsIndexed ts → starts_in (ts ++ us) ≡ starts_in us
starts-skip ts us none_indexed = refl
starts-skip ts us (more_indexed at len i rest k) = starts-skip rest us k

names-skip : (d : DebugData) (cells : List Cell) (ts us : List TextPlace) → IsIndexed ts → PlacesName d cells (ts ++ us) → PlacesName d cells us
names-skip d cells ts us none_indexed h = h
names-skip d cells ts us (more_indexed at len i rest k) h = names-skip d cells rest us k h.1

-- the starts of pieces are those of their places
start-piece : (r : Role) (at len : ℕ) (us : List TextPlace) → starts_in (place_of r at len ++ us) ≡ start_by r at len ++ starts_in us
start-piece fixed at len us = refl
start-piece (offset t path) at len us = refl
start-piece inline_path at len us = refl
start-piece line_start at len us = refl

pub starts-are : (xs : List (Piece UnitState)) → starts_in (places_in xs) ≡ start_fields xs
starts-are [] = refl
starts-are (x ∷ xs) =
    start-piece (role_of x) x.state.place (length x.cells) (indexed_in x.state.mode x.state x.cells ++ places_in xs)
    ∙ ap (λ (fs : List OffsetField). start_by (role_of x) x.state.place (length x.cells) ++ fs)
    (starts-skip (indexed_in x.state.mode x.state x.cells) (places_in xs) (piece-indexed x.state.mode x.state x.cells) ∙ starts-are xs)

-- and so is the first value that can't say one
stray-role : (r : Role) (at len : ℕ) (us : List TextPlace) → stray_in (place_of r at len ++ us) ≡ stray_in us
stray-role fixed at len us = refl
stray-role (offset t path) at len us = refl
stray-role inline_path at len us = refl
stray-role line_start at len us = refl

stray-base : (field : Bool) (begin at len n : ℕ) (us : List TextPlace) → stray_in (said_base field begin at len n ++ us) ≡ stray_in us
stray-base true begin at len n us = refl
stray-base false begin at len n us = refl

stray-kind : (k : ValueKind) (path base : Bool) (order : Order) (begin at len : ℕ) (p : List Cell) (us : List TextPlace) → stray_in (indexed_kind k path base order begin at len p ++ us) ≡ stray_in us
stray-kind (number_of class n) path base order begin at len p us = by_class class base
  where
    by_class : (c : ValueClass) (b : Bool) → stray_in (indexed_kind (number_of c n) path b order begin at len p ++ us) ≡ stray_in us
    by_class StrIndex b = refl
    by_class Number true = stray-base (n == 4 || n == 8) begin at len (spelled order (bytes_of p) 0 (length p)) us
    by_class Number false = refl
    by_class SecOffset true = stray-base true begin at len (spelled order (bytes_of p) 0 (length p)) us
    by_class SecOffset false = refl
    by_class c b = refl
stray-kind (leb_number class) path base order begin at len p us = by_class class base
  where
    by_class : (c : ValueClass) (b : Bool) → stray_in (indexed_kind (leb_number c) path b order begin at len p ++ us) ≡ stray_in us
    by_class StrIndex b = refl
    by_class Number true = refl
    by_class Number false = refl
    by_class c b = refl
stray-kind k path base order begin at len p us = refl

stray-form : (b macro : Bool) (begin at len : ℕ) (us : List TextPlace) → stray_in (said_start b macro begin at len ++ us) ≡ cond b (stray_in us) (Some begin)
stray-form true true begin at len us = refl
stray-form true false begin at len us = refl
stray-form false macro begin at len us = refl

stray-both : (k : ValueKind) (path base : Bool) (order : Order) (start : ℕ) (p : List Cell) (b macro : Bool) (at len : ℕ) (us : List TextPlace)
    → stray_in ((indexed_kind k path base order start at len p ++ said_start b macro start at len) ++ us) ≡ cond b (stray_in us) (Some start)
stray-both k path base order start p b macro at len us =
    ap stray_in (append_assoc (indexed_kind k path base order start at len p) (said_start b macro start at len) us)
    ∙ stray-kind k path base order start at len p (said_start b macro start at len ++ us) ∙ stray-form b macro start at len us

stray-piece : (m : Mode) (s : UnitState) (p : List Cell) (us : List TextPlace)
    → stray_in (indexed_in m s p ++ us) ≡ cond (start_form_in m s.header.params) (stray_in us) (Some (begin_in m s.place))
stray-piece at_header s p us = refl
stray-piece at_code s p us = refl
stray-piece (at_values n tag []) s p us = refl
stray-piece (at_values n tag (x ∷ xs)) s p us =
    stray-both (kind_in s.header.params x.form) (is_path n tag x.name) (is_base n x.name) s.header.params.order s.place p
    (start_form_by (kind_in s.header.params x.form) (use_of n tag x.name)) (macro_value_by (kind_in s.header.params x.form) (use_of n tag x.name)) s.place (length p) us
stray-piece (at_chosen n tag start x xs) s p us =
    stray-both (kind_in s.header.params x.form) (is_path n tag x.name) (is_base n x.name) s.header.params.order start p
    (start_form_by (kind_in s.header.params x.form) (use_of n tag x.name)) (macro_value_by (kind_in s.header.params x.form) (use_of n tag x.name)) s.place (length p) us
stray-piece stuck s p us = refl

pub stray-are : (xs : List (Piece UnitState)) → stray_in (places_in xs) ≡ stray_among xs
stray-are [] = refl
stray-are (x ∷ xs) =
    stray-role (role_of x) x.state.place (length x.cells) (indexed_in x.state.mode x.state x.cells ++ places_in xs)
    ∙ stray-piece x.state.mode x.state x.cells (places_in xs)
    ∙ ap (λ (o : Option ℕ). cond (has_start_form x) o (Some (value_begin x.state))) (stray-are xs)

-- the fields of the starts of macro units too
macro-role : (r : Role) (at len : ℕ) (us : List TextPlace) → macros_in (place_of r at len ++ us) ≡ macros_in us
macro-role fixed at len us = refl
macro-role (offset t path) at len us = refl
macro-role inline_path at len us = refl
macro-role line_start at len us = refl

macro-base : (field : Bool) (begin at len n : ℕ) (us : List TextPlace) → macros_in (said_base field begin at len n ++ us) ≡ macros_in us
macro-base true begin at len n us = refl
macro-base false begin at len n us = refl

macro-kind : (k : ValueKind) (path base : Bool) (order : Order) (begin at len : ℕ) (p : List Cell) (us : List TextPlace) → macros_in (indexed_kind k path base order begin at len p ++ us) ≡ macros_in us
macro-kind (number_of class n) path base order begin at len p us = by_class class base
  where
    by_class : (c : ValueClass) (b : Bool) → macros_in (indexed_kind (number_of c n) path b order begin at len p ++ us) ≡ macros_in us
    by_class StrIndex b = refl
    by_class Number true = macro-base (n == 4 || n == 8) begin at len (spelled order (bytes_of p) 0 (length p)) us
    by_class Number false = refl
    by_class SecOffset true = macro-base true begin at len (spelled order (bytes_of p) 0 (length p)) us
    by_class SecOffset false = refl
    by_class c b = refl
macro-kind (leb_number class) path base order begin at len p us = by_class class base
  where
    by_class : (c : ValueClass) (b : Bool) → macros_in (indexed_kind (leb_number c) path b order begin at len p ++ us) ≡ macros_in us
    by_class StrIndex b = refl
    by_class Number true = refl
    by_class Number false = refl
    by_class c b = refl
macro-kind k path base order begin at len p us = refl

macro-said : (b macro : Bool) (begin at len : ℕ) (us : List TextPlace) → (macro ≡ true → b ≡ true)
    → macros_in (said_start b macro begin at len ++ us) ≡ macro_by macro at len ++ macros_in us
macro-said true true begin at len us form = refl
macro-said true false begin at len us form = refl
macro-said false false begin at len us form = refl
macro-said false true begin at len us form =
    let is : false ≡ true = form refl in
    absurd cc

macro-both : (k : ValueKind) (path base : Bool) (order : Order) (start : ℕ) (p : List Cell) (u : AttributeUse) (at len : ℕ) (us : List TextPlace)
    → macros_in ((indexed_kind k path base order start at len p ++ said_start (start_form_by k u) (macro_value_by k u) start at len) ++ us)
    ≡ macro_by (macro_value_by k u) at len ++ macros_in us
macro-both k path base order start p u at len us =
    ap macros_in (append_assoc (indexed_kind k path base order start at len p) (said_start (start_form_by k u) (macro_value_by k u) start at len) us)
    ∙ macro-kind k path base order start at len p (said_start (start_form_by k u) (macro_value_by k u) start at len ++ us)
    ∙ macro-said (start_form_by k u) (macro_value_by k u) start at len us (macro-form k u)

macro-piece : (m : Mode) (s : UnitState) (p : List Cell) (us : List TextPlace)
    → macros_in (indexed_in m s p ++ us) ≡ macro_by (macro_value_in m s.header.params) s.place (length p) ++ macros_in us
macro-piece at_header s p us = refl
macro-piece at_code s p us = refl
macro-piece (at_values n tag []) s p us = refl
macro-piece (at_values n tag (x ∷ xs)) s p us =
    macro-both (kind_in s.header.params x.form) (is_path n tag x.name) (is_base n x.name) s.header.params.order s.place p (use_of n tag x.name) s.place (length p) us
macro-piece (at_chosen n tag start x xs) s p us =
    macro-both (kind_in s.header.params x.form) (is_path n tag x.name) (is_base n x.name) s.header.params.order start p (use_of n tag x.name) s.place (length p) us
macro-piece stuck s p us = refl

pub macros-are : (xs : List (Piece UnitState)) → macros_in (places_in xs) ≡ macro_fields xs
macros-are [] = refl
macros-are (x ∷ xs) =
    macro-role (role_of x) x.state.place (length x.cells) (indexed_in x.state.mode x.state x.cells ++ places_in xs)
    ∙ macro-piece x.state.mode x.state x.cells (places_in xs)
    ∙ ap (λ (fs : List OffsetField). macro_by (is_macro_value x) x.state.place (length x.cells) ++ fs) (macros-are xs)

-- the fields of pieces are those of their places
pub fields-are : (table : TextSection) (xs : List (Piece UnitState)) → fields_in table (places_in xs) ≡ piece_fields table xs
fields-are table [] = refl
fields-are table (x ∷ xs) =
    let rest : List TextPlace = indexed_in x.state.mode x.state x.cells ++ places_in xs in
    fields-append table (place_of (role_of x) x.state.place (length x.cells)) rest
    ∙ ap (λ (fs : List OffsetField). fs ++ fields_in table rest) (field-one table (role_of x) x.state.place (length x.cells))
    ∙ ap (λ (fs : List OffsetField). field_by table (role_of x) x.state.place (length x.cells) ++ fs)
    (fields-skip table (indexed_in x.state.mode x.state x.cells) (places_in xs) (piece-indexed x.state.mode x.state x.cells) ∙ fields-are table xs)

-- a path that stands in a piece fills it, but for its NUL
abbrev InlineSized : Role → List Cell → Type 0
InlineSized inline_path p = length (text (bytes_of p)) + 1 ≡ length p
InlineSized r p = ⊤

sized-text : (b : Bool) (s : UnitState) (x : Spec) (p : List Cell) → IsValue s x inline_kind p → InlineSized (cond b inline_path fixed) p
unfolding value_of text_in
sized-text false s x p f = tt
sized-text true s x p f =
    let v = text-fields (bytes_of p) 0 f.value f.is in
    sym v.size_is ∙ f.size

sized-kind : (k : ValueKind) (u : AttributeUse) (s : UnitState) (x : Spec) (p : List Cell) → FitsKind k s x p → InlineSized (role_of_kind k u) p
sized-kind inline_kind u s x p f = sized-text (is_path_use u) s x p f
sized-kind (text_offset table n) u s x p f = tt
sized-kind (number_of class n) u s x p f = by_start (is_line_start u class n)
  where
    by_start : (b : Bool) → InlineSized (cond b line_start fixed) p
    by_start true = tt
    by_start false = tt
sized-kind k u s x p f = tt

sized-mode : (m : Mode) (base : UnitBase) (s : UnitState) (p : List Cell) → FitsMode m base s p → InlineSized (role_of_mode m s.header.params) p
sized-mode at_header base s p f = tt
sized-mode at_code base s p f = tt
sized-mode (at_values n tag []) base s p f = tt
sized-mode (at_values n tag (x ∷ xs)) base s p f = sized-kind (kind_in s.header.params x.form) (use_of n tag x.name) s x p f
sized-mode (at_chosen n tag start x xs) base s p f =
    sized-kind (kind_in s.header.params x.form) (use_of n tag x.name) s x p (chosen-fits (kind_in s.header.params x.form) s x p f)
sized-mode stuck base s p f = tt

inline-piece : (r : Role) (at : ℕ) (p : List Cell) → InlineSized r p → inline_at r at (length p) ≡ inline_by r at p
inline-piece fixed at p h = refl
inline-piece (offset t path) at p h = refl
inline-piece line_start at p h = refl
inline-piece inline_path at p h = ap (λ (n : ℕ). record { at = at; len = n } ∷ []) (omega (arith, h))

-- the paths of pieces are those of their places
pub inline-are : (base : UnitBase) (s : UnitState) (xs : List (Piece UnitState)) → Chain (unit_grammar base) s xs → inline_in (places_in xs) ≡ inline_paths xs
unfolding role_of
inline-are base s [] c = refl
inline-are base s (x ∷ xs) c =
    inline-append (place_of (role_of x) x.state.place (length x.cells)) (indexed_in x.state.mode x.state x.cells ++ places_in xs)
    ∙ ap (λ (ps : List InlinePath). inline_in (place_of (role_of x) x.state.place (length x.cells)) ++ ps)
    (inline-skip (indexed_in x.state.mode x.state x.cells) (places_in xs) (piece-indexed x.state.mode x.state x.cells))
    ∙ ap (λ (ps : List InlinePath). ps ++ inline_in (places_in xs))
    (inline-one (role_of x) x.state.place (length x.cells) ∙ inline-piece (role_of x) x.state.place x.cells (sized-mode x.state.mode base x.state x.cells c.1))
    ∙ ap (λ (ps : List InlinePath). inline_by (role_of x) x.state.place x.cells ++ ps) (inline-are base ((unit_grammar base).next x.state x.cells) xs c.2)

-- what a section says is what its pieces say
pub paths-are : (base : UnitBase) (z : UnitSection) (first : ℕ) (xs : List (Piece UnitState)) → ReadsUnits base z first xs
    → paths_by z.number (places_in xs) ≡ paths_in (record { number = z.number; pieces = xs })
paths-are base z first xs r =
    paths-same z.number (lists_by (places_into (places_in xs))) (lists_by (pieces_into xs)) (inline_in (places_in xs)) (inline_paths xs) (stray_in (places_in xs)) (stray_among xs)
    (lists-same (places_into (places_in xs)) (pieces_into xs) read_sections
    (each-section (places_into (places_in xs)) (pieces_into xs) refl refl refl (fields-are InStr xs) (fields-are InLineStr xs) refl (starts-are xs) (macros-are xs) refl))
    (inline-are base (before_unit z.number z.kind (length z.contents) 0 first) xs r.chain) (stray-are xs)

-- the cells of a piece
piece-cells : (p rest cells : List Cell) (place : ℕ) → p ++ rest ≡ drop place cells → cells_at cells place (length p) ≡ p
piece-cells p rest cells place e = ap (take (length p)) (sym e) ∙ take-append_seam p rest

-- a start that is there, of cells of a role
abbrev StartNamed : Role → DebugData → List ℕ → List Cell → Type 0
StartNamed line_start d starts p = IsTrue (is_there (start_number 0 starts (offset_of d.base.order (located_cells (d.found Line)) p)))
StartNamed r d starts p = ⊤

-- an offset that names a text is one of a piece, and so is a start
names-by : (r : Role) (d : DebugData) (rs : DataReadings) (starts : List ℕ) (p : List Cell) → starts ≡ table_starts rs.lines → PlaceNames r d p → StartNamed r d starts p
    → NamesTextBy r (around_of d rs) p
names-by fixed d rs starts p e h k = tt
names-by inline_path d rs starts p e h k = tt
names-by (offset InStr path) d rs starts p e h k = h
names-by (offset InLineStr path) d rs starts p e h k = h
names-by line_start d rs starts p e h k =
    subst (λ (ss : List ℕ). IsTrue (is_there (start_number 0 ss (offset_of d.base.order (located_cells (d.found Line)) p)))) e k

names-first : (r : Role) (d : DebugData) (cells : List Cell) (at len : ℕ) (ts : List TextPlace) → PlacesName d cells (place_of r at len ++ ts)
    → PlaceNames r d (cells_at cells at len) × PlacesName d cells ts
names-first fixed d cells at len ts h = (tt, h)
names-first inline_path d cells at len ts h = (tt, h.1)
names-first line_start d cells at len ts h = (tt, h.1)
names-first (offset InStr path) d cells at len ts h = (h.0, h.1)
names-first (offset InLineStr path) d cells at len ts h = (h.0, h.1)

starts-first : (r : Role) (d : DebugData) (starts : List ℕ) (cells : List Cell) (at len : ℕ) (fs : List OffsetField) → StartsNamed d starts cells (start_by r at len ++ fs)
    → StartNamed r d starts (cells_at cells at len) × StartsNamed d starts cells fs
starts-first fixed d starts cells at len fs h = (tt, h)
starts-first inline_path d starts cells at len fs h = (tt, h)
starts-first (offset t path) d starts cells at len fs h = (tt, h)
starts-first line_start d starts cells at len fs h = (h.0, h.1)

pub names-are : (d : DebugData) (rs : DataReadings) (starts : List ℕ) (cells : List Cell) (place : ℕ) (xs : List (Piece UnitState)) → starts ≡ table_starts rs.lines
    → PlacedCells cells place xs → PlacesName d cells (places_in xs) → StartsNamed d starts cells (start_fields xs) → EachPiece (NamesText (around_of d rs)) xs
names-are d rs starts cells place [] e l h k = tt
names-are d rs starts cells place (x ∷ xs) e l h k =
    let said : List TextPlace = indexed_in x.state.mode x.state x.cells in
    let both = names-first (role_of x) d cells x.state.place (length x.cells) (said ++ places_in xs) h in
    let starts_ = starts-first (role_of x) d starts cells x.state.place (length x.cells) (start_fields xs) k in
    let rest : PlacesName d cells (places_in xs) = names-skip d cells said (places_in xs) (piece-indexed x.state.mode x.state x.cells) both.1 in
    let here : cells_at cells x.state.place (length x.cells) ≡ x.cells =
    ap (λ (i : ℕ). cells_at cells i (length x.cells)) l.0 ∙ piece-cells x.cells (joined xs) cells place l.1 in (
      names-by (role_of x) d rs starts x.cells e (subst (PlaceNames (role_of x) d) here both.0) (subst (StartNamed (role_of x) d starts) here starts_.0),
      names-are d rs starts cells (place + length x.cells) xs e l.2 rest starts_.1,
    )

-- a value that names a macro unit by its place names it
units-first : (b : Bool) (d : DebugData) (places : UnitPlaces) (cells : List Cell) (at len : ℕ) (fs : List OffsetField) → UnitsNamed d places cells (macro_by b at len ++ fs)
    → (b ≡ true → names_place places (field_of d.base.order (cells_at cells at len)) ≡ true) × UnitsNamed d places cells fs
units-first true d places cells at len fs h = (λ e. h.0, h.1)
units-first false d places cells at len fs h = (λ e. absurd cc, h)

pub names-if : (b : Bool) (places : UnitPlaces) (g : Lasting) (p : List Cell) → PlacesStart places (g.kept Macro) → (b ≡ true → names_place places (field_of g.base.order p) ≡ true) → NamesUnitIf b g p
names-if false places g p s h = tt
names-if true places g p s h = field-unit places (g.kept Macro) (field_of g.base.order p) s ∙ h refl

pub units-are : (d : DebugData) (g : Lasting) (places : UnitPlaces) (cells : List Cell) (place : ℕ) (xs : List (Piece UnitState)) → g.base.order ≡ d.base.order → PlacesStart places (g.kept Macro)
    → PlacedCells cells place xs → UnitsNamed d places cells (macro_fields xs) → EachPiece (NamesMacro g) xs
units-are d g places cells place [] o s l h = tt
units-are d g places cells place (x ∷ xs) o s l h =
    let both = units-first (is_macro_value x) d places cells x.state.place (length x.cells) (macro_fields xs) h in
    let here : cells_at cells x.state.place (length x.cells) ≡ x.cells =
    ap (λ (i : ℕ). cells_at cells i (length x.cells)) l.0 ∙ piece-cells x.cells (joined xs) cells place l.1 in (
      names-if (is_macro_value x) places g x.cells s (λ e.
          ap (λ (w : Order). names_place places (field_of w x.cells)) o ∙ ap (λ (p : List Cell). names_place places (field_of d.base.order p)) (sym here) ∙ both.0 e),
      units-are d g places cells (place + length x.cells) xs o s l.2 both.1,
    )

-- where none is known that can't say a start, each has a form that can
pub forms-are : (xs : List (Piece UnitState)) → stray_among xs ≡ None → EachPiece HasStartForm xs
forms-are [] none = tt
forms-are (x ∷ xs) none = by_form (has_start_form x) refl none (forms-are xs)
  where
    by_form : (b : Bool) → has_start_form x ≡ b → cond {A = Option ℕ} b (stray_among xs) (Some (value_begin x.state)) ≡ None → (stray_among xs ≡ None → EachPiece HasStartForm xs)
        → EachPiece HasStartForm (x ∷ xs)
    by_form true is e rest = (is, rest e)
    by_form false is e rest = absurd cc

-- a path that fits its room is one of a piece
fits-by : (r : Role) (m : PathMap) (cells : List Cell) (p rest : List Cell) (place : ℕ) (ps : List InlinePath) → p ++ rest ≡ drop place cells
    → InlinesFit m (bytes_of cells) (inline_by r place p ++ ps) → InlineFitsBy r m p × InlinesFit m (bytes_of cells) ps
fits-by fixed m cells p rest place ps e h = (tt, h)
fits-by (offset t path) m cells p rest place ps e h = (tt, h)
fits-by line_start m cells p rest place ps e h = (tt, h)
fits-by inline_path m cells p rest place ps e h =
    let bytes : bytes_of p ++ bytes_of rest ≡ drop place (bytes_of cells) = sym (bytes_of-append p rest) ∙ ap bytes_of e ∙ bytes_of-drop place cells in
    let t : List ℕ = text (bytes_of p) in
    let same : inline_text (bytes_of cells) (record { at = place; len = length t }) ≡ t =
    ap (take (length t)) (sym bytes) ∙ take-append-le (length t) (bytes_of p) (bytes_of rest) (text-length (bytes_of p)) ∙ sym (text-front (bytes_of p)) in
    (subst (λ (u : List ℕ). IsTrue (inline_fits m u)) same h.0, h.1)

pub fits-are : (m : PathMap) (cells : List Cell) (place : ℕ) (xs : List (Piece UnitState)) → PlacedCells cells place xs
    → InlinesFit m (bytes_of cells) (inline_paths xs) → EachPiece (InlineFits m) xs
fits-are m cells place [] l h = tt
fits-are m cells place (x ∷ xs) l h =
    let at_place : InlinesFit m (bytes_of cells) (inline_by (role_of x) place x.cells ++ inline_paths xs) =
    subst (λ (i : ℕ). InlinesFit m (bytes_of cells) (inline_by (role_of x) i x.cells ++ inline_paths xs)) l.0 h in
    let both = fits-by (role_of x) m cells x.cells (joined xs) place (inline_paths xs) l.1 at_place in
    (both.0, fits-are m cells (place + length x.cells) xs l.2 both.1)

-- the readings of unit sections, with what they say of paths
pub record FoundReadings (d : DebugData) (first : ℕ) (zs : List UnitSection) (us : List SectionFields) : Type 0 where
  pub readings : Readings
  pub reads : ReadsAll d.base first zs readings
  pub says : paths_of readings ≡ us
  pub names : (rs : DataReadings) (starts : List ℕ) (places : UnitPlaces) → starts ≡ table_starts rs.lines → AllStarts d starts places zs us → EachReading (NamesText (around_of d rs)) readings
  pub forms : (starts : List ℕ) (places : UnitPlaces) → AllStarts d starts places zs us → EachReading HasStartForm readings
  pub units : (g : Lasting) (starts : List ℕ) (places : UnitPlaces) → g.base.order ≡ d.base.order → PlacesStart places (g.kept Macro) → AllStarts d starts places zs us
      → EachReading (NamesMacro g) readings

pub found-readings : (d : DebugData) (first : ℕ) (zs : List UnitSection) (us : List SectionFields) → AllPlaced d zs us → FoundReadings d first zs us
found-readings d first [] [] all = record { readings = []; reads = tt; says = refl; names = λ rs starts places e h. tt; forms = λ starts places h. tt; units = λ g starts places o s h. tt }
found-readings d first [] (u ∷ us) all = absurd all
found-readings d first (z ∷ zs) [] all = absurd all
found-readings d first (z ∷ zs) (u ∷ us) all =
    let s : SectionSays d z u = all.0 in
    let p : PlacedPieces d.base z first s.places s.section.units = section-placed d.base z first s.section.list s.places s.section.units s.section.placed in
    let r : Reading = record { number = z.number; pieces = p.pieces } in
    let rest : FoundReadings d (first + units_in p.pieces) zs us = found-readings d (first + units_in p.pieces) zs us all.1 in
    let cells : PlacedCells z.contents 0 p.pieces =
    placed-cells d.base z.contents (before_unit z.number z.kind (length z.contents) 0 first) 0 p.pieces refl p.reads.chain p.reads.cells in
    let own : paths_in (record { number = z.number; pieces = p.pieces }) ≡ u =
    sym (paths-are d.base z first p.pieces p.reads) ∙ ap (paths_by z.number) p.places_are ∙ sym s.says in
    record {
      readings = r ∷ rest.readings;
      reads = (refl, p.reads, rest.reads);
      says = ap (λ (v : SectionFields). v ∷ paths_of rest.readings) own ∙ ap (λ (vs : List SectionFields). u ∷ vs) rest.says;
      names = λ (rs : DataReadings) (starts : List ℕ) (places : UnitPlaces) e h. (
        names-are d rs starts z.contents 0 p.pieces e cells (subst (PlacesName d z.contents) (sym p.places_are) s.names)
            (subst (λ (v : SectionFields). StartsNamed d starts z.contents (fields_into v Line)) (sym own) h.0.named),
        rest.names rs starts places e h.1,
      );
      forms = λ (starts : List ℕ) (places : UnitPlaces) h. (forms-are p.pieces (ap (λ (v : SectionFields). v.stray) own ∙ h.0.all_say), rest.forms starts places h.1);
      units = λ (g : Lasting) (starts : List ℕ) (places : UnitPlaces) o st h. (
        units-are d g places z.contents 0 p.pieces o st cells (subst (λ (v : SectionFields). UnitsNamed d places z.contents (fields_into v Macro)) (sym own) h.0.units),
        rest.units g starts places o st h.1,
      );
    }

-- each path that stands in its value fits its room
pub found-fits : (base : UnitBase) (m : PathMap) (first : ℕ) (zs : List UnitSection) (rs : Readings) → ReadsAll base first zs rs → AllFitRooms m zs (paths_of rs)
    → EachReading (InlineFits m) rs
found-fits base m first zs [] reads fits = tt
found-fits base m first [] (r ∷ rs) reads fits = absurd reads
found-fits base m first (z ∷ zs) (r ∷ rs) reads fits = (
  fits-are m z.contents 0 r.pieces
      (placed-cells base z.contents (before_unit z.number z.kind (length z.contents) 0 first) 0 r.pieces refl reads.1.chain reads.1.cells) fits.0,
  found-fits base m (first + units_in r.pieces) zs rs reads.2 fits.1,
)
