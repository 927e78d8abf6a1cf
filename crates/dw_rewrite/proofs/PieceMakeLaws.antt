-- The addends at the pieces of a section of units, of string offsets, of macro units and of name tables make their new offsets where those at the section's fields
-- do; and a field whose addend doesn't is a piece whose doesn't.
use Rattle.std.proofs.Common.{Bool, false, ◌≡◌, ◌⊎◌, inl, inr, ℕ, zero, suc, ◌+◌, ◌<◌, List, [], ◌∷◌, ◌++◌, length, get_or, drop, Option, Some, None, refl, sym, ap, ◌∙◌, subst, arith}
use Rattle.std.specs.Bool.{⊤}
use Rattle.std.proofs.Math.Seq.{drop-append_seam}
use Rattle.std.proofs.lemmas.List.{drop-drop}
use Rattle.dw_base.specs.Cells.{Cell, Relocation, first_relocation, offset_of}
use Rattle.dw_base.specs.DebugData.{Around, start_number, table_of}
use Rattle.dw_base.specs.LineReadings.{starts_from}
use Rattle.dw_base.specs.MacroPieces.{MacroState, macro_grammar}
use Rattle.dw_base.specs.NamePieces.{NameState}
use Rattle.dw_base.specs.OffsetPieces.{OffsetState}
use Rattle.dw_base.specs.Pieces.{Chain, EachPiece, Piece, joined}
use Rattle.dw_base.specs.Refusals.{at}
use Rattle.dw_base.specs.RelocationFields.{relocation_at}
use Rattle.dw_base.specs.Roles.{Role, fixed, offset, inline_path, line_start, role_of}
use Rattle.dw_base.specs.SectionTexts.{macro_role, name_role, slot_role}
use Rattle.dw_base.specs.TextChanges.{TableChanges, change_of}
use Rattle.dw_base.specs.UnitStates.{UnitState}
use Rattle.dw_base.specs.declared.debug_sections.DebugSection.TheVariants.{Str, LineStr, Line}
use Rattle.dw_base.specs.declared.fault.Kind.TheVariants.{TooWide}
use Rattle.dw_base.specs.declared.fault.Refusal.{Refusal}
use Rattle.dw_base.specs.declared.shared.Order.{Order}
use Rattle.dw_offsets.specs.declared.fields.OffsetField.{OffsetField}
use Rattle.dw_base.specs.declared.texts.TextSection.{TextSection}
use Rattle.dw_base.specs.declared.texts.TextSection.TheVariants.{InStr, InLineStr}
use Rattle.dw_meaning.specs.NewAddends.{Makes, MakesNew, MakesRole, Misses, PieceMisses, new_offset, start_place}
use Rattle.dw_read.specs.MacroFields.{macro_starts, macro_texts}
use Rattle.dw_read.specs.NameSections.{names_texts}
use Rattle.dw_read.specs.SlotPaths.{offset_fields}
use Rattle.dw_unit_fields.specs.SectionFields.{field_by, piece_fields, start_by, start_fields}
use Rattle.dw_read.proofs.NameHaveLaws.{NamesPlaced, no-start as no-name-start}
use Rattle.dw_unit_fields.proofs.PlacedLaws.{PlacedCells}
use Rattle.dw_read.proofs.SlotPlaceLaws.{SlotsIn, no-start}
use Rattle.dw_rewrite.specs.Changes.{FieldSource, new_start, offset_at, start_known}
use Rattle.dw_rewrite.specs.NewOffsets.{asked}
use Rattle.dw_rewrite.specs.OffsetAddends.{FieldMakes, FieldMisses, FieldsMake, FieldsMiss}
use Rattle.dw_rewrite.specs.OffsetAddends.FieldMisses.{misses_new}
use Rattle.dw_rewrite.specs.OffsetAddends.FieldsMiss.{one_field}
use Rattle.dw_rewrite.specs.UnitsAfter.{start_source, text_source}
use Rattle.dw_rewrite.proofs.EditedLaws.{piece-there}
use Rattle.dw_rewrite.proofs.SaidLaws.{Sized, sized-parts}

-- the row of one of some fields, by the list
abbrev pub AnyMisses : FieldSource → (Bool → ℕ → Option ℕ) → ℕ → List OffsetField → Refusal → Type 0
AnyMisses s known number [] r = ⊥
AnyMisses s known number (f ∷ fs) r = FieldMisses s number f (known f.path (offset_at s f)) r ⊎ AnyMisses s known number fs r

any-at : (s : FieldSource) (known : Bool → ℕ → Option ℕ) (number : ℕ) (fs : List OffsetField) (i : ℕ) (f : OffsetField) (r : Refusal) → i < length fs → f ≡ get_or fs i f
    → FieldMisses s number f (known f.path (offset_at s f)) r → AnyMisses s known number fs r
any-at s known number [] i f r lt is h = absurd (omega (arith, lt))
any-at s known number (g ∷ gs) zero f r lt is h = inl (subst (λ (x : OffsetField). FieldMisses s number x (known x.path (offset_at s x)) r) is h)
any-at s known number (g ∷ gs) (suc i) f r lt is h = inr (any-at s known number gs i f r (omega (arith, lt)) is h)

pub any-of : (s : FieldSource) (known : Bool → ℕ → Option ℕ) (number : ℕ) (fs : List OffsetField) (r : Refusal) → FieldsMiss s known number fs r → AnyMisses s known number fs r
any-of s known number fs r (one_field i f lt is h) = any-at s known number fs i f _ lt is h

-- parts of fields
makes-parts : (s : FieldSource) (known : Bool → ℕ → Option ℕ) (fs gs : List OffsetField) → FieldsMake s known (fs ++ gs) → FieldsMake s known fs × FieldsMake s known gs
makes-parts s known [] gs h = (tt, h)
makes-parts s known (f ∷ fs) gs h = let rest = makes-parts s known fs gs h.1 in ((h.0, rest.0), rest.1)

any-parts : (s : FieldSource) (known : Bool → ℕ → Option ℕ) (number : ℕ) (fs gs : List OffsetField) (r : Refusal) → AnyMisses s known number (fs ++ gs) r
    → AnyMisses s known number fs r ⊎ AnyMisses s known number gs r
any-parts s known number [] gs r h = inr h
any-parts s known number (f ∷ fs) gs r (inl h) = inl (inl h)
any-parts s known number (f ∷ fs) gs r (inr h) = by (any-parts s known number fs gs r h)
  where
    by : AnyMisses s known number fs r ⊎ AnyMisses s known number gs r → AnyMisses s known number (f ∷ fs) r ⊎ AnyMisses s known number gs r
    by (inl x) = inl (inr x)
    by (inr x) = inr x

-- the relocation that begins at a piece
first-here : (p behind cells : List Cell) (place : ℕ) → p ++ behind ≡ drop place cells → 0 < length p → relocation_at cells place ≡ first_relocation p
first-here [] behind cells place e some = absurd (omega (arith, some))
first-here (x ∷ xs) behind cells place e some = ap first_relocation (sym e)

-- a piece and the field that it is
one-makes : (s : FieldSource) (p behind : List Cell) (place : ℕ) (path : Bool) (new : Option ℕ) → p ++ behind ≡ drop place s.cells
    → FieldMakes s (record { at = place; size = length p; path = path }) new → MakesNew new p
one-makes s p behind place path None e h = tt
one-makes s [] behind place path (Some n) e h = tt
one-makes s (x ∷ xs) behind place path (Some n) e h =
    subst (λ (r : Option Relocation). Makes r (suc (length xs)) n) (first-here (x ∷ xs) behind s.cells place e (omega arith)) h

-- its addend doesn't make the offset that the edit puts there
pub record RoleMisses (r : Role) (c : TableChanges) (a : Around) (p : List Cell) (number place : ℕ) (x : Refusal) : Type 0 where
  pub new : ℕ
  pub put : new_offset r c a p ≡ Some new
  pub misses : Misses (first_relocation p) (length p) new
  pub is : x ≡ at TooWide number place

one-misses : (r : Role) (c : TableChanges) (a : Around) (s : FieldSource) (p behind : List Cell) (number place : ℕ) (path : Bool) (new : Option ℕ) (x : Refusal) → p ++ behind ≡ drop place s.cells
    → 0 < length p → new ≡ new_offset r c a p → FieldMisses s number (record { at = place; size = length p; path = path }) new x → RoleMisses r c a p number place x
one-misses r c a s p behind number place path new x e some same (misses_new n known m) = record {
  new = n;
  put = sym same ∙ known;
  misses = subst (λ (o : Option Relocation). Misses o (length p) n) (first-here p behind s.cells place e some) m;
  is = refl;
}

-- the new offset of the field of a text, and of one that says where a line table starts
text-new : (table : TextSection) (path : Bool) (c : TableChanges) (a : Around) (cells p behind : List Cell) (place : ℕ) → p ++ behind ≡ drop place cells
    → asked (change_of c table) c.map (table_of a table).bytes path (offset_at (text_source a cells table) (record { at = place; size = length p; path = path }))
    ≡ new_offset (offset table path) c a p
text-new table path c a cells p behind place e =
    ap (λ (q : List Cell). asked (change_of c table) c.map (table_of a table).bytes path (offset_of a.lasting.base.order (table_of a table) q)) (piece-there p behind cells place e)

start-new : (c : TableChanges) (a : Around) (cells p behind : List Cell) (place : ℕ) → p ++ behind ≡ drop place cells
    → start_known (a.stands Line).starts (starts_from 0 (c.new Line)) false (offset_at (start_source a cells) (record { at = place; size = length p; path = false })) ≡ new_offset line_start c a p
start-new c a cells p behind place e =
    ap (λ (q : List Cell). new_start (starts_from 0 (c.new Line)) (start_number 0 (a.stands Line).starts (offset_of a.lasting.base.order (a.stands Line).located q))) (piece-there p behind cells place e)
    ∙ by (start_number 0 (a.stands Line).starts (offset_of a.lasting.base.order (a.stands Line).located p))
  where
    by : (o : Option ℕ) → new_start (starts_from 0 (c.new Line)) o ≡ start_place (starts_from 0 (c.new Line)) o
    by None = refl
    by (Some k) = refl

-- what is known of the new offsets of a section's fields
abbrev pub str_asked : TableChanges → Around → Bool → ℕ → Option ℕ
str_asked c a = asked (c.new Str) c.map (a.stands Str).bytes

abbrev pub line_str_asked : TableChanges → Around → Bool → ℕ → Option ℕ
line_str_asked c a = asked (c.new LineStr) c.map (a.stands LineStr).bytes

abbrev pub starts_asked : TableChanges → Around → Bool → ℕ → Option ℕ
starts_asked c a = start_known (a.stands Line).starts (starts_from 0 (c.new Line))

-- a piece by its role
role-makes : (r : Role) (c : TableChanges) (a : Around) (cells p behind : List Cell) (place : ℕ) → p ++ behind ≡ drop place cells
    → FieldsMake (text_source a cells InStr) (str_asked c a) (field_by InStr r place (length p))
    → FieldsMake (text_source a cells InLineStr) (line_str_asked c a) (field_by InLineStr r place (length p))
    → FieldsMake (start_source a cells) (starts_asked c a) (start_by r place (length p)) → MakesRole r c a p
role-makes fixed c a cells p behind place e hs hl ht = tt
role-makes inline_path c a cells p behind place e hs hl ht = tt
role-makes (offset InStr path) c a cells p behind place e hs hl ht =
    subst (λ (o : Option ℕ). MakesNew o p) (text-new InStr path c a cells p behind place e)
    (one-makes (text_source a cells InStr) p behind place path (str_asked c a path (offset_at (text_source a cells InStr) (record { at = place; size = length p; path = path }))) e hs.0)
role-makes (offset InLineStr path) c a cells p behind place e hs hl ht =
    subst (λ (o : Option ℕ). MakesNew o p) (text-new InLineStr path c a cells p behind place e)
    (one-makes (text_source a cells InLineStr) p behind place path (line_str_asked c a path (offset_at (text_source a cells InLineStr) (record { at = place; size = length p; path = path }))) e hl.0)
role-makes line_start c a cells p behind place e hs hl ht =
    subst (λ (o : Option ℕ). MakesNew o p) (start-new c a cells p behind place e)
    (one-makes (start_source a cells) p behind place false (starts_asked c a false (offset_at (start_source a cells) (record { at = place; size = length p; path = false }))) e ht.0)

-- the same of one that misses, from what a piece of each role is in a list of fields
abbrev pub MissesBy : (Role → ℕ → ℕ → List OffsetField) → TableChanges → Around → FieldSource → (Bool → ℕ → Option ℕ) → Type 0
MissesBy by c a s known =
    (r : Role) (p behind : List Cell) (number place : ℕ) (x : Refusal) → p ++ behind ≡ drop place s.cells → Sized (by r place (length p))
    → AnyMisses s known number (by r place (length p)) x → RoleMisses r c a p number place x

str-misses : (c : TableChanges) (a : Around) (cells : List Cell) → MissesBy (field_by InStr) c a (text_source a cells InStr) (str_asked c a)
str-misses c a cells fixed p behind number place x e sized h = absurd h
str-misses c a cells inline_path p behind number place x e sized h = absurd h
str-misses c a cells line_start p behind number place x e sized h = absurd h
str-misses c a cells (offset InLineStr path) p behind number place x e sized h = absurd h
str-misses c a cells (offset InStr path) p behind number place x e sized (inr h) = absurd h
str-misses c a cells (offset InStr path) p behind number place x e sized (inl h) =
    one-misses (offset InStr path) c a (text_source a cells InStr) p behind number place path
    (str_asked c a path (offset_at (text_source a cells InStr) (record { at = place; size = length p; path = path }))) x e sized.0 (text-new InStr path c a cells p behind place e) h

line_str-misses : (c : TableChanges) (a : Around) (cells : List Cell) → MissesBy (field_by InLineStr) c a (text_source a cells InLineStr) (line_str_asked c a)
line_str-misses c a cells fixed p behind number place x e sized h = absurd h
line_str-misses c a cells inline_path p behind number place x e sized h = absurd h
line_str-misses c a cells line_start p behind number place x e sized h = absurd h
line_str-misses c a cells (offset InStr path) p behind number place x e sized h = absurd h
line_str-misses c a cells (offset InLineStr path) p behind number place x e sized (inr h) = absurd h
line_str-misses c a cells (offset InLineStr path) p behind number place x e sized (inl h) =
    one-misses (offset InLineStr path) c a (text_source a cells InLineStr) p behind number place path
    (line_str_asked c a path (offset_at (text_source a cells InLineStr) (record { at = place; size = length p; path = path }))) x e sized.0 (text-new InLineStr path c a cells p behind place e) h

start-misses : (c : TableChanges) (a : Around) (cells : List Cell) → MissesBy start_by c a (start_source a cells) (starts_asked c a)
start-misses c a cells fixed p behind number place x e sized h = absurd h
start-misses c a cells inline_path p behind number place x e sized h = absurd h
start-misses c a cells (offset table path) p behind number place x e sized h = absurd h
start-misses c a cells line_start p behind number place x e sized (inr h) = absurd h
start-misses c a cells line_start p behind number place x e sized (inl h) =
    one-misses line_start c a (start_source a cells) p behind number place false
    (starts_asked c a false (offset_at (start_source a cells) (record { at = place; size = length p; path = false }))) x e sized.0 (start-new c a cells p behind place e) h

-- pieces stand one behind another, each where its state says
abbrev pub StandFrom : {S : Type 0} → (S → ℕ) → List Cell → ℕ → List (Piece S) → Type 0
StandFrom placed cells place [] = ⊤
StandFrom placed cells place (x ∷ xs) = (placed x.state ≡ place) × (x.cells ++ joined xs ≡ drop place cells) × StandFrom placed cells (place + length x.cells) xs

-- the fields that pieces are
abbrev pub fields_in : {S : Type 0} → (Role → ℕ → ℕ → List OffsetField) → (Piece S → Role) → (S → ℕ) → List (Piece S) → List OffsetField
fields_in by role placed [] = []
fields_in by role placed (x ∷ xs) = by (role x) (placed x.state) (length x.cells) ++ fields_in by role placed xs

pieces-make : {S : Type 0} (role : Piece S → Role) (placed : S → ℕ) (c : TableChanges) (a : Around) (cells : List Cell) (place : ℕ) (xs : List (Piece S))
    → StandFrom placed cells place xs
    → FieldsMake (text_source a cells InStr) (str_asked c a) (fields_in (field_by InStr) role placed xs)
    → FieldsMake (text_source a cells InLineStr) (line_str_asked c a) (fields_in (field_by InLineStr) role placed xs)
    → FieldsMake (start_source a cells) (starts_asked c a) (fields_in start_by role placed xs) → EachPiece (λ x. MakesRole (role x) c a x.cells) xs
pieces-make role placed c a cells place [] stand hs hl ht = tt
pieces-make role placed c a cells place (x ∷ xs) stand hs hl ht =
    let s = makes-parts (text_source a cells InStr) (str_asked c a) (field_by InStr (role x) (placed x.state) (length x.cells)) (fields_in (field_by InStr) role placed xs) hs in
    let l = makes-parts (text_source a cells InLineStr) (line_str_asked c a) (field_by InLineStr (role x) (placed x.state) (length x.cells))
    (fields_in (field_by InLineStr) role placed xs) hl in
    let t = makes-parts (start_source a cells) (starts_asked c a) (start_by (role x) (placed x.state) (length x.cells)) (fields_in start_by role placed xs) ht in
    let e : x.cells ++ joined xs ≡ drop (placed x.state) cells = stand.1 ∙ ap (λ (n : ℕ). drop n cells) (sym stand.0) in (
      role-makes (role x) c a cells x.cells (joined xs) (placed x.state) e s.0 l.0 t.0,
      pieces-make role placed c a cells (place + length x.cells) xs stand.2 s.1 l.1 t.1,
    )

-- a piece among others
pub record PieceFails {S : Type 0} (role : Piece S → Role) (placed : S → ℕ) (c : TableChanges) (a : Around) (number : ℕ) (xs : List (Piece S)) (x : Refusal) : Type 0 where
  pub piece : Piece S
  pub misses : PieceMisses role c a xs piece
  pub is : x ≡ at TooWide number (placed piece.state)

fails-here : {S : Type 0} (role : Piece S → Role) (placed : S → ℕ) (c : TableChanges) (a : Around) (number : ℕ) (x : Piece S) (xs : List (Piece S)) (r : Refusal)
    → RoleMisses (role x) c a x.cells number (placed x.state) r → PieceFails role placed c a number (x ∷ xs) r
fails-here role placed c a number x xs r h = record {
  piece = x;
  misses = record { before = []; behind = xs; among = refl; place = h.new; put = h.put; misses = h.misses };
  is = h.is;
}

fails-later : {S : Type 0} (role : Piece S → Role) (placed : S → ℕ) (c : TableChanges) (a : Around) (number : ℕ) (x : Piece S) (xs : List (Piece S)) (r : Refusal)
    → PieceFails role placed c a number xs r → PieceFails role placed c a number (x ∷ xs) r
fails-later {S} role placed c a number x xs r h = record {
  piece = h.piece;
  misses = record {
    before = x ∷ h.misses.before;
    behind = h.misses.behind;
    among = ap (λ (ys : List (Piece S)). x ∷ ys) h.misses.among;
    place = h.misses.place;
    put = h.misses.put;
    misses = h.misses.misses;
  };
  is = h.is;
}

pieces-miss : {S : Type 0} (by : Role → ℕ → ℕ → List OffsetField) (role : Piece S → Role) (placed : S → ℕ) (c : TableChanges) (a : Around) (s : FieldSource) (known : Bool → ℕ → Option ℕ)
    (number place : ℕ) (xs : List (Piece S)) (r : Refusal) → MissesBy by c a s known → StandFrom placed s.cells place xs → Sized (fields_in by role placed xs)
    → AnyMisses s known number (fields_in by role placed xs) r → PieceFails role placed c a number xs r
pieces-miss by role placed c a s known number place [] r one stand sized h = absurd h
pieces-miss by role placed c a s known number place (x ∷ xs) r one stand sized h =
    let parts = sized-parts (by (role x) (placed x.state) (length x.cells)) (fields_in by role placed xs) sized in
    let e : x.cells ++ joined xs ≡ drop (placed x.state) s.cells = stand.1 ∙ ap (λ (n : ℕ). drop n s.cells) (sym stand.0) in
    choose parts.0 e (any-parts s known number (by (role x) (placed x.state) (length x.cells)) (fields_in by role placed xs) r h)
    (λ g. pieces-miss by role placed c a s known number (place + length x.cells) xs r one stand.2 parts.1 g)
  where
    choose : Sized (by (role x) (placed x.state) (length x.cells)) → x.cells ++ joined xs ≡ drop (placed x.state) s.cells
        → AnyMisses s known number (by (role x) (placed x.state) (length x.cells)) r ⊎ AnyMisses s known number (fields_in by role placed xs) r
        → (AnyMisses s known number (fields_in by role placed xs) r → PieceFails role placed c a number xs r) → PieceFails role placed c a number (x ∷ xs) r
    choose some e (inl g) rest = fails-here role placed c a number x xs r (one (role x) x.cells (joined xs) number (placed x.state) r e some g)
    choose some e (inr g) rest = fails-later role placed c a number x xs r (rest g)

-- units
abbrev pub unit_place : UnitState → ℕ
unit_place s = s.place

units-stand : (cells : List Cell) (place : ℕ) (xs : List (Piece UnitState)) → PlacedCells cells place xs → StandFrom unit_place cells place xs
units-stand cells place [] l = tt
units-stand cells place (x ∷ xs) l = (l.0, l.1, units-stand cells (place + length x.cells) xs l.2)

units-text : (table : TextSection) (xs : List (Piece UnitState)) → piece_fields table xs ≡ fields_in (field_by table) role_of unit_place xs
units-text table [] = refl
units-text table (x ∷ xs) = ap (λ (fs : List OffsetField). field_by table (role_of x) x.state.place (length x.cells) ++ fs) (units-text table xs)

units-start : (xs : List (Piece UnitState)) → start_fields xs ≡ fields_in start_by role_of unit_place xs
units-start [] = refl
units-start (x ∷ xs) = ap (λ (fs : List OffsetField). start_by (role_of x) x.state.place (length x.cells) ++ fs) (units-start xs)

pub make-units : (c : TableChanges) (a : Around) (cells : List Cell) (xs : List (Piece UnitState)) → PlacedCells cells 0 xs → FieldsMake (text_source a cells InStr) (str_asked c a) (piece_fields InStr xs)
    → FieldsMake (text_source a cells InLineStr) (line_str_asked c a) (piece_fields InLineStr xs) → FieldsMake (start_source a cells) (starts_asked c a) (start_fields xs)
    → EachPiece (λ x. MakesRole (role_of x) c a x.cells) xs
make-units c a cells xs l hs hl ht =
    pieces-make role_of unit_place c a cells 0 xs (units-stand cells 0 xs l)
    (subst (FieldsMake (text_source a cells InStr) (str_asked c a)) (units-text InStr xs) hs)
    (subst (FieldsMake (text_source a cells InLineStr) (line_str_asked c a)) (units-text InLineStr xs) hl)
    (subst (FieldsMake (start_source a cells) (starts_asked c a)) (units-start xs) ht)

pub miss-units-str : (c : TableChanges) (a : Around) (cells : List Cell) (number : ℕ) (xs : List (Piece UnitState)) (r : Refusal) → PlacedCells cells 0 xs
    → Sized (piece_fields InStr xs) → AnyMisses (text_source a cells InStr) (str_asked c a) number (piece_fields InStr xs) r → PieceFails role_of unit_place c a number xs r
miss-units-str c a cells number xs r l sized h =
    pieces-miss (field_by InStr) role_of unit_place c a (text_source a cells InStr) (str_asked c a) number 0 xs r (str-misses c a cells) (units-stand cells 0 xs l)
    (subst Sized (units-text InStr xs) sized)
    (subst (λ (fs : List OffsetField). AnyMisses (text_source a cells InStr) (str_asked c a) number fs r) (units-text InStr xs) h)

pub miss-units-line_str : (c : TableChanges) (a : Around) (cells : List Cell) (number : ℕ) (xs : List (Piece UnitState)) (r : Refusal) → PlacedCells cells 0 xs
    → Sized (piece_fields InLineStr xs) → AnyMisses (text_source a cells InLineStr) (line_str_asked c a) number (piece_fields InLineStr xs) r
    → PieceFails role_of unit_place c a number xs r
miss-units-line_str c a cells number xs r l sized h =
    pieces-miss (field_by InLineStr) role_of unit_place c a (text_source a cells InLineStr) (line_str_asked c a) number 0 xs r (line_str-misses c a cells) (units-stand cells 0 xs l)
    (subst Sized (units-text InLineStr xs) sized)
    (subst (λ (fs : List OffsetField). AnyMisses (text_source a cells InLineStr) (line_str_asked c a) number fs r) (units-text InLineStr xs) h)

pub miss-units-start : (c : TableChanges) (a : Around) (cells : List Cell) (number : ℕ) (xs : List (Piece UnitState)) (r : Refusal) → PlacedCells cells 0 xs
    → Sized (start_fields xs) → AnyMisses (start_source a cells) (starts_asked c a) number (start_fields xs) r → PieceFails role_of unit_place c a number xs r
miss-units-start c a cells number xs r l sized h =
    pieces-miss start_by role_of unit_place c a (start_source a cells) (starts_asked c a) number 0 xs r (start-misses c a cells) (units-stand cells 0 xs l)
    (subst Sized (units-start xs) sized)
    (subst (λ (fs : List OffsetField). AnyMisses (start_source a cells) (starts_asked c a) number fs r) (units-start xs) h)

-- string offsets
abbrev pub slot_place : OffsetState → ℕ
slot_place s = s.place

abbrev pub slot_piece_role : List ℕ → Piece OffsetState → Role
slot_piece_role paths x = slot_role paths x.state

slots-stand : (cells : List Cell) (place : ℕ) (xs : List (Piece OffsetState)) → SlotsIn cells place xs → StandFrom slot_place cells place xs
slots-stand cells place [] l = tt
slots-stand cells place (x ∷ xs) l = (l.0, l.1, slots-stand cells (place + length x.cells) xs l.2)

slots-text : (table : TextSection) (paths : List ℕ) (xs : List (Piece OffsetState)) → offset_fields table paths xs ≡ fields_in (field_by table) (slot_piece_role paths) slot_place xs
slots-text table paths [] = refl
slots-text table paths (x ∷ xs) = ap (λ (fs : List OffsetField). field_by table (slot_role paths x.state) x.state.place (length x.cells) ++ fs) (slots-text table paths xs)

slots-start : (paths : List ℕ) (xs : List (Piece OffsetState)) → fields_in start_by (slot_piece_role paths) slot_place xs ≡ []
slots-start paths [] = refl
slots-start paths (x ∷ xs) =
    ap (λ (fs : List OffsetField). fs ++ fields_in start_by (slot_piece_role paths) slot_place xs) (no-start paths x.state.mode x.state.slot x.state.place (length x.cells))
    ∙ slots-start paths xs

pub make-slots : (c : TableChanges) (a : Around) (cells : List Cell) (paths : List ℕ) (xs : List (Piece OffsetState)) → SlotsIn cells 0 xs → FieldsMake (text_source a cells InStr) (str_asked c a) (offset_fields InStr paths xs)
    → FieldsMake (text_source a cells InLineStr) (line_str_asked c a) (offset_fields InLineStr paths xs)
    → EachPiece (λ x. MakesRole (slot_role paths x.state) c a x.cells) xs
make-slots c a cells paths xs l hs hl =
    pieces-make (slot_piece_role paths) slot_place c a cells 0 xs (slots-stand cells 0 xs l)
    (subst (FieldsMake (text_source a cells InStr) (str_asked c a)) (slots-text InStr paths xs) hs)
    (subst (FieldsMake (text_source a cells InLineStr) (line_str_asked c a)) (slots-text InLineStr paths xs) hl)
    (subst (FieldsMake (start_source a cells) (starts_asked c a)) (sym (slots-start paths xs)) tt)

pub miss-slots : (c : TableChanges) (a : Around) (cells : List Cell) (paths : List ℕ) (number : ℕ) (xs : List (Piece OffsetState)) (r : Refusal) → SlotsIn cells 0 xs
    → Sized (offset_fields InStr paths xs) → AnyMisses (text_source a cells InStr) (str_asked c a) number (offset_fields InStr paths xs) r
    → PieceFails (slot_piece_role paths) slot_place c a number xs r
miss-slots c a cells paths number xs r l sized h =
    pieces-miss (field_by InStr) (slot_piece_role paths) slot_place c a (text_source a cells InStr) (str_asked c a) number 0 xs r (str-misses c a cells) (slots-stand cells 0 xs l)
    (subst Sized (slots-text InStr paths xs) sized)
    (subst (λ (fs : List OffsetField). AnyMisses (text_source a cells InStr) (str_asked c a) number fs r) (slots-text InStr paths xs) h)

-- macro units
abbrev pub macro_place : MacroState → ℕ
macro_place s = s.place

abbrev pub macro_piece_role : Piece MacroState → Role
macro_piece_role x = macro_role x.state

macros-stand : (order : Order) (cells : List Cell) (s : MacroState) (place : ℕ) (xs : List (Piece MacroState)) → s.place ≡ place → Chain (macro_grammar order) s xs
    → joined xs ≡ drop place cells → StandFrom macro_place cells place xs
macros-stand order cells s place [] stands chain e = tt
macros-stand order cells s place (x ∷ xs) stands chain e =
    let own : x.state.place ≡ place = ap (λ (z : MacroState). z.place) chain.0 ∙ stands in
    let next : x.state.place + length x.cells ≡ place + length x.cells = ap (λ (i : ℕ). i + length x.cells) own in
    let behind : joined xs ≡ drop (place + length x.cells) cells =
    sym (drop-append_seam x.cells (joined xs)) ∙ ap (drop (length x.cells)) e ∙ drop-drop (length x.cells) place cells in
    (own, e, macros-stand order cells ((macro_grammar order).next x.state x.cells) (place + length x.cells) xs next chain.2 behind)

macros-start : (xs : List (Piece MacroState)) → macro_starts xs ≡ fields_in start_by macro_piece_role macro_place xs
macros-start [] = refl
macros-start (x ∷ xs) = ap (λ (fs : List OffsetField). start_by (macro_role x.state) x.state.place (length x.cells) ++ fs) (macros-start xs)

macros-text : (table : TextSection) (xs : List (Piece MacroState)) → macro_texts table xs ≡ fields_in (field_by table) macro_piece_role macro_place xs
macros-text table [] = refl
macros-text table (x ∷ xs) = ap (λ (fs : List OffsetField). field_by table (macro_role x.state) x.state.place (length x.cells) ++ fs) (macros-text table xs)

pub make-macros : (c : TableChanges) (a : Around) (order : Order) (cells : List Cell) (s : MacroState) (xs : List (Piece MacroState)) → s.place ≡ 0 → Chain (macro_grammar order) s xs → joined xs ≡ cells
    → FieldsMake (text_source a cells InStr) (str_asked c a) (macro_texts InStr xs) → FieldsMake (text_source a cells InLineStr) (line_str_asked c a) (macro_texts InLineStr xs)
    → FieldsMake (start_source a cells) (starts_asked c a) (macro_starts xs) → EachPiece (λ x. MakesRole (macro_role x.state) c a x.cells) xs
make-macros c a order cells s xs stands chain e hs hl ht =
    pieces-make macro_piece_role macro_place c a cells 0 xs (macros-stand order cells s 0 xs stands chain e)
    (subst (FieldsMake (text_source a cells InStr) (str_asked c a)) (macros-text InStr xs) hs)
    (subst (FieldsMake (text_source a cells InLineStr) (line_str_asked c a)) (macros-text InLineStr xs) hl)
    (subst (FieldsMake (start_source a cells) (starts_asked c a)) (macros-start xs) ht)

pub miss-macros-str : (c : TableChanges) (a : Around) (order : Order) (cells : List Cell) (s : MacroState) (number : ℕ) (xs : List (Piece MacroState)) (r : Refusal) → s.place ≡ 0
    → Chain (macro_grammar order) s xs → joined xs ≡ cells → Sized (macro_texts InStr xs) → AnyMisses (text_source a cells InStr) (str_asked c a) number (macro_texts InStr xs) r
    → PieceFails macro_piece_role macro_place c a number xs r
miss-macros-str c a order cells s number xs r stands chain e sized h =
    pieces-miss (field_by InStr) macro_piece_role macro_place c a (text_source a cells InStr) (str_asked c a) number 0 xs r (str-misses c a cells)
    (macros-stand order cells s 0 xs stands chain e) (subst Sized (macros-text InStr xs) sized)
    (subst (λ (fs : List OffsetField). AnyMisses (text_source a cells InStr) (str_asked c a) number fs r) (macros-text InStr xs) h)

pub miss-macros-start : (c : TableChanges) (a : Around) (order : Order) (cells : List Cell) (s : MacroState) (number : ℕ) (xs : List (Piece MacroState)) (r : Refusal) → s.place ≡ 0
    → Chain (macro_grammar order) s xs → joined xs ≡ cells → Sized (macro_starts xs) → AnyMisses (start_source a cells) (starts_asked c a) number (macro_starts xs) r
    → PieceFails macro_piece_role macro_place c a number xs r
miss-macros-start c a order cells s number xs r stands chain e sized h =
    pieces-miss start_by macro_piece_role macro_place c a (start_source a cells) (starts_asked c a) number 0 xs r (start-misses c a cells)
    (macros-stand order cells s 0 xs stands chain e) (subst Sized (macros-start xs) sized)
    (subst (λ (fs : List OffsetField). AnyMisses (start_source a cells) (starts_asked c a) number fs r) (macros-start xs) h)

-- name tables
abbrev pub name_place : NameState → ℕ
name_place s = s.place

abbrev pub name_piece_role : Piece NameState → Role
name_piece_role x = name_role x.state

names-stand : (cells : List Cell) (place : ℕ) (xs : List (Piece NameState)) → NamesPlaced cells place xs → StandFrom name_place cells place xs
names-stand cells place [] l = tt
names-stand cells place (x ∷ xs) l = (l.0, l.1, names-stand cells (place + length x.cells) xs l.2)

names-text : (table : TextSection) (xs : List (Piece NameState)) → names_texts table xs ≡ fields_in (field_by table) name_piece_role name_place xs
names-text table [] = refl
names-text table (x ∷ xs) = ap (λ (fs : List OffsetField). field_by table (name_role x.state) x.state.place (length x.cells) ++ fs) (names-text table xs)

names-start : (xs : List (Piece NameState)) → fields_in start_by name_piece_role name_place xs ≡ []
names-start [] = refl
names-start (x ∷ xs) =
    ap (λ (fs : List OffsetField). fs ++ fields_in start_by name_piece_role name_place xs) (no-name-start x.state.mode x.state.place (length x.cells)) ∙ names-start xs

pub make-names : (c : TableChanges) (a : Around) (cells : List Cell) (xs : List (Piece NameState)) → NamesPlaced cells 0 xs → FieldsMake (text_source a cells InStr) (str_asked c a) (names_texts InStr xs)
    → FieldsMake (text_source a cells InLineStr) (line_str_asked c a) (names_texts InLineStr xs) → EachPiece (λ x. MakesRole (name_role x.state) c a x.cells) xs
make-names c a cells xs l hs hl =
    pieces-make name_piece_role name_place c a cells 0 xs (names-stand cells 0 xs l)
    (subst (FieldsMake (text_source a cells InStr) (str_asked c a)) (names-text InStr xs) hs)
    (subst (FieldsMake (text_source a cells InLineStr) (line_str_asked c a)) (names-text InLineStr xs) hl)
    (subst (FieldsMake (start_source a cells) (starts_asked c a)) (sym (names-start xs)) tt)

pub miss-names : (c : TableChanges) (a : Around) (cells : List Cell) (number : ℕ) (xs : List (Piece NameState)) (r : Refusal) → NamesPlaced cells 0 xs
    → Sized (names_texts InStr xs) → AnyMisses (text_source a cells InStr) (str_asked c a) number (names_texts InStr xs) r → PieceFails name_piece_role name_place c a number xs r
miss-names c a cells number xs r l sized h =
    pieces-miss (field_by InStr) name_piece_role name_place c a (text_source a cells InStr) (str_asked c a) number 0 xs r (str-misses c a cells) (names-stand cells 0 xs l)
    (subst Sized (names-text InStr xs) sized)
    (subst (λ (fs : List OffsetField). AnyMisses (text_source a cells InStr) (str_asked c a) number fs r) (names-text InStr xs) h)
