-- Values that are to say where line tables and macro units start: each names one, or is a row of the debug data.
use Rattle.std.proofs.Common.{Bool, true, false, ◌≡◌, ℕ, zero, suc, ◌+◌, ◌-◌, ◌<◌, ◌≤◌, ◌==◌, List, [], ◌∷◌, ◌++◌, length, drop, get_or, cond, Option, Some, None, refl, sym, ap, ◌∙◌, subst, arith, append_assoc}
use Rattle.std.proofs.Math.Seq.{drop-cons}
use Rattle.std.proofs.lemmas.List.{drop_all, drop_more}
use Rattle.dw_base.specs.AbbreviationTables.{Abbreviation, abbreviation_of}
use Rattle.dw_base.specs.Cells.{Cell, Located, cells_at, field_of, offset_of, is_placed}
use Rattle.dw_base.specs.DebugData.{DebugData, DataReadings, ReadsAll, around_of, line_table, macro_unit, start_number, units_in, macro_places}
use Rattle.dw_base.specs.EntryScans.{depth_behind}
use Rattle.dw_base.specs.FileViews.{View, section_bytes, view_cells}
use Rattle.dw_base.specs.Forms.{ValueKind, form_in_front, kind_in}
use Rattle.dw_base.specs.LineMeanings.{is_there}
use Rattle.dw_base.specs.LineReadings.{table_starts}
use Rattle.dw_base.specs.Pieces.{Piece, Chain, EachPiece, joined}
use Rattle.dw_base.specs.Readings.{Reading, Readings}
use Rattle.dw_base.specs.Refusals.{at}
use Rattle.dw_base.specs.RelocationRows.{OffsetFails, field_place, offset_field}
use Rattle.dw_base.specs.Roles.{Role, fixed, offset, inline_path, line_start, role_of}
use Rattle.dw_base.specs.TableStarts.{other_form as form_row, no_table as table_row, no_unit as unit_row, has_start_form, is_macro_value, value_begin}
use Rattle.dw_base.specs.UnitHeaders.{UnitBase, UnitSection}
use Rattle.dw_base.specs.UnitPieces.{ReadsUnits, unit_grammar}
use Rattle.dw_base.specs.UnitStates.{Mode, at_header, at_code, at_values, at_chosen, stuck, UnitState, before_unit, in_unit, between, inside, headed, after_header, after_entry, after_code, after_value, code_value, piece_header, past}
use Rattle.dw_base.specs.ViewData.{debug_data, located}
use Rattle.dw_base.specs.declared.debug_sections.DebugSection.TheVariants.{Info, Line, Macro}
use Rattle.dw_base.specs.declared.fault.Kind.TheVariants.{Stray}
use Rattle.dw_base.specs.declared.fault.Refusal.{Refusal}
use Rattle.dw_base.specs.declared.shared.Order.{Order}
use Rattle.dw_base.specs.declared.units.UnitHeader.{UnitHeader}
use Rattle.dw_base.specs.declared.values.Spec.{Spec}
use Rattle.dw_base.proofs.ViewCellLaws.{lines-located, piece-cells}
use Rattle.dw_offsets.specs.declared.fields.OffsetField.{OffsetField}
use Rattle.dw_entries.specs.Fronts.{IsOfView}
use Rattle.dw_meaning.specs.DataFails.{StartsFail, stray}
use Rattle.dw_meaning.specs.RelocationFails.{ValueRelocationFails}
use Rattle.dw_meaning.proofs.SlotRowLaws.{piece-among}
use Rattle.dw_unit_fields.specs.Fields.{AreStartFields}
use Rattle.dw_starts.specs.LineStarts.{TablesStart}
use Rattle.dw_starts.specs.UnitPlaces.{UnitsStart, PlacesStart, UnitPlaces}
use Rattle.dw_unit_fields.specs.StartRows.{FieldStrays, SectionStrays, StartsRefuse, other_form, no_offset, no_table, no_unit, reads_none, says_none, field}
use Rattle.dw_unit_fields.specs.ViewFields.{HasPlaces, info_of}
use Rattle.dw_unit_fields.specs.TextPlaces.{AllPlaced, SectionSays, macros_in, starts_in}
use Rattle.dw_unit_fields.specs.NamedStarts.{AllStarts, FieldsSay, SectionStarts, says_start, says_unit}
use Rattle.dw_unit_fields.specs.SectionFields.{SectionFields, paths_in, paths_of, macro_by, macro_fields, start_by, start_fields, stray_among, fields_into}
use Rattle.dw_unit_fields.specs.UnitTexts.{AllTaken}
use Rattle.dw_unit_fields.proofs.FoundLaws.{FoundReadings, found-readings}
use Rattle.dw_starts.proofs.UnitPlaceLaws.{field-unit}
use Rattle.dw_unit_fields.proofs.PlaceValueLaws.{EachOf, PlaceOf, RowField, each-get, starts-rows, units-rows}
use Rattle.dw_unit_fields.proofs.PlacedLaws.{PlacedCells, placed-cells}
use Rattle.dw_unit_fields.proofs.SectionFactLaws.{SectionFacts, facts-at, facts-each, own-section, places-at, says-number, taken-placed}

-- if the fields that are left say this, all do
pub record FieldsPassed (says : List Cell → Bool) (cells : List Cell) (fields : List OffsetField) (i : ℕ) : Type 0 where
  pub here : FieldsSay says cells (drop i fields) → FieldsSay says cells fields

pub fields-none : (says : List Cell → Bool) (cells : List Cell) (fields : List OffsetField) → FieldsPassed says cells fields 0
fields-none says cells fields = record { here = λ h. h }

pub fields-more : (says : List Cell → Bool) (cells : List Cell) (fields : List OffsetField) (i : ℕ) (f : OffsetField) (b : Bool) → i < length fields → f ≡ get_or fields i f
    → b ≡ says (cells_at cells f.at f.size) → b ≡ true → FieldsPassed says cells fields i → FieldsPassed says cells fields (i + 1)
fields-more says cells fields i f b lt is said yes_ passed =
    let front : drop i fields ≡ f ∷ drop (i + 1) fields = drop_more fields i f lt ∙ ap (λ (g : OffsetField). g ∷ drop (i + 1) fields) (sym is) in
    record { here = λ rest. passed.here (subst (FieldsSay says cells) (sym front) (sym said ∙ yes_, rest)) }

pub fields-all : (says : List Cell → Bool) (cells : List Cell) (fields : List OffsetField) (i : ℕ) → length fields ≤ i → FieldsPassed says cells fields i → FieldsSay says cells fields
fields-all says cells fields i end passed = passed.here (subst (FieldsSay says cells) (sym (drop_all i fields end)) tt)

pub fields-refused : (order : Order) (section : ℕ) (cells : List Cell) (says : List Cell → Bool) (fields : List OffsetField) (i : ℕ) (f : OffsetField) (b : Bool) (r : Refusal) → i < length fields
    → f ≡ get_or fields i f → is_placed (field_of order (cells_at cells f.at f.size)) ≡ true → b ≡ says (cells_at cells f.at f.size) → b ≡ false → r ≡ at Stray section f.at
    → FieldStrays order section cells says fields r
fields-refused order section cells says fields i f b r lt is placed said none same =
    subst (FieldStrays order section cells says fields) (sym same) (field i f lt is placed (sym said ∙ none))

pub fields-unread : (order : Order) (section : ℕ) (cells : List Cell) (says : List Cell → Bool) (fields : List OffsetField) (i : ℕ) (f : OffsetField) (r : Refusal) → i < length fields
    → f ≡ get_or fields i f → OffsetFails order section cells (field_place f.at f.size offset_field) r → FieldStrays order section cells says fields r
fields-unread order section cells says fields i f r lt is fails = no_offset i f lt is fails

-- where the offset of a field is one of the starts
pub says-table : (order : Order) (z : Located) (starts : List ℕ) (p : List Cell) (n k : ℕ) (o : Option ℕ) → n ≡ offset_of order z p → o ≡ start_number 0 starts n → o ≡ Some k
    → true ≡ says_start order z starts p
says-table order z starts p n k o read number some = sym (ap (λ (m : ℕ). is_there (start_number 0 starts m)) (sym read) ∙ ap is_there (sym number ∙ some))

pub says-nothing : (order : Order) (z : Located) (starts : List ℕ) (p : List Cell) (n : ℕ) (o : Option ℕ) → n ≡ offset_of order z p → o ≡ start_number 0 starts n → o ≡ None
    → false ≡ says_start order z starts p
says-nothing order z starts p n o read number none = sym (ap (λ (m : ℕ). is_there (start_number 0 starts m)) (sym read) ∙ ap is_there (sym number ∙ none))

pub ruleset says_rules = (says-table, says-nothing)

-- a section
pub section-there : (v : View) (u : SectionFields) → HasPlaces v u → u.number < length v.sections
section-there v u h = h.there

pub section-fields : (v : View) (u : SectionFields) (n : ℕ) (fields : List OffsetField) → HasPlaces v u → n ≡ u.number → fields ≡ fields_into u Line → AreStartFields (section_bytes v n) fields
section-fields v u n fields h en ef = subst (λ (k : ℕ). AreStartFields (section_bytes v k) fields) (sym en) (subst (AreStartFields (info_of v u)) (sym ef) h.starts)

pub unit-fields : (v : View) (u : SectionFields) (n : ℕ) (fields : List OffsetField) → HasPlaces v u → n ≡ u.number → fields ≡ fields_into u Macro → AreStartFields (section_bytes v n) fields
unit-fields v u n fields h en ef = subst (λ (k : ℕ). AreStartFields (section_bytes v k) fields) (sym en) (subst (AreStartFields (info_of v u)) (sym ef) h.macros)

pub section-strays : (v : View) (n : ℕ) (starts : List ℕ) (places : UnitPlaces) (u : SectionFields) (fields : List OffsetField) (r : Refusal) → n ≡ u.number → fields ≡ fields_into u Line
    → FieldStrays v.order n (view_cells v n) (says_start v.order (located v Line) starts) fields r → SectionStrays v starts places u r
section-strays v n starts places u fields r en ef h =
    no_table (subst (λ (k : ℕ). FieldStrays v.order k (view_cells v k) (says_start v.order (located v Line) starts) (fields_into u Line) r) en
    (subst (λ (fs : List OffsetField). FieldStrays v.order n (view_cells v n) (says_start v.order (located v Line) starts) fs r) ef h))

pub unit-strays : (v : View) (n : ℕ) (starts : List ℕ) (places : UnitPlaces) (u : SectionFields) (fields : List OffsetField) (r : Refusal) → n ≡ u.number → fields ≡ fields_into u Macro
    → FieldStrays v.order n (view_cells v n) (says_unit v.order places) fields r → SectionStrays v starts places u r
unit-strays v n starts places u fields r en ef h =
    no_unit (subst (λ (k : ℕ). FieldStrays v.order k (view_cells v k) (says_unit v.order places) (fields_into u Macro) r) en
    (subst (λ (fs : List OffsetField). FieldStrays v.order n (view_cells v n) (says_unit v.order places) fs r) ef h))

pub section-stray : (v : View) (starts : List ℕ) (places : UnitPlaces) (u : SectionFields) (n place : ℕ) (r : Refusal) → n ≡ u.number → u.stray ≡ Some place → r ≡ at Stray n place
    → SectionStrays v starts places u r
section-stray v starts places u n place r en some same =
    subst (SectionStrays v starts places u) (sym (same ∙ ap (λ (k : ℕ). at Stray k place) en)) (other_form place some)

pub ruleset section_rules = (section-there, section-fields, unit-fields)

-- no piece leaves the section
stays-between : (s : UnitState) (place entry depth : ℕ) → (between s place entry depth).section ≡ s.section
unfolding between
stays-between s place entry depth = by_end (place == s.header.end) (depth == 0)
  where
    by_end : (last top : Bool)
        → (cond last (cond top (before_unit s.section s.kind s.whole place (s.unit + 1)) (in_unit s place entry depth stuck)) (in_unit s place entry depth at_code)).section ≡ s.section
    by_end true true = refl
    by_end true false = refl
    by_end false top = refl

stays-inside : (s : UnitState) (place entry depth number tag : ℕ) (specs : List Spec) → (inside s place entry depth number tag specs).section ≡ s.section
stays-inside s place entry depth number tag [] = stays-between s place entry depth
stays-inside s place entry depth number tag (x ∷ xs) = refl

stays-header : (base : UnitBase) (s : UnitState) (place : ℕ) (h : Option UnitHeader) → (after_header base s place h).section ≡ s.section
stays-header base s place None = refl
stays-header base s place (Some h) = stays-between (headed base s h) place 0 0

stays-entry : (s : UnitState) (place : ℕ) (a : Option Abbreviation) → (after_entry s place a).section ≡ s.section
stays-entry s place None = refl
stays-entry s place (Some a) = stays-inside s place (s.entry + 1) (depth_behind a s.depth) s.entry a.tag a.specs

stays-code : (s : UnitState) (place n : ℕ) → (after_code s place n).section ≡ s.section
unfolding after_code
stays-code s place n = by_null (n == 0)
  where
    by_null : (null : Bool) → (cond null (between s place s.entry (s.depth - 1)) (after_entry s place (abbreviation_of s.table n))).section ≡ s.section
    by_null true = stays-between s place s.entry (s.depth - 1)
    by_null false = stays-entry s place (abbreviation_of s.table n)

stays-value : (k : ValueKind) (s : UnitState) (place form number tag : ℕ) (x : Spec) (xs : List Spec) → (after_value k s place form number tag x xs).section ≡ s.section
stays-value form_in_front s place form number tag x xs = refl
stays-value k s place form number tag x xs = stays-inside s place s.entry s.depth number tag xs

stays-past : (m : Mode) (base : UnitBase) (s : UnitState) (p : List Cell) → (past m base s p).section ≡ s.section
stays-past at_header base s p = stays-header base s (s.place + length p) (piece_header base s p)
stays-past at_code base s p = stays-code s (s.place + length p) (code_value p)
stays-past (at_values number tag []) base s p = refl
stays-past (at_values number tag (x ∷ xs)) base s p = stays-value (kind_in s.header.params x.form) s (s.place + length p) (code_value p) number tag x xs
stays-past (at_chosen number tag start x xs) base s p = stays-inside s (s.place + length p) s.entry s.depth number tag xs
stays-past stuck base s p = refl

-- what is known of a piece of a section: it stands in the section's cells
pub record PieceFacts (section : ℕ) (cells : List Cell) (x : Piece UnitState) : Type 0 where
  pub own : x.state.section ≡ section
  pub rest : List Cell
  pub stands : x.cells ++ rest ≡ drop x.state.place cells

pub piece-facts : (base : UnitBase) (section : ℕ) (cells : List Cell) (s : UnitState) (place : ℕ) (xs : List (Piece UnitState)) → s.section ≡ section → Chain (unit_grammar base) s xs
    → PlacedCells cells place xs → EachPiece (PieceFacts section cells) xs
piece-facts base section cells s place [] own c l = tt
piece-facts base section cells s place (x ∷ xs) own c l =
    let here : x.state.section ≡ section = ap (λ (y : UnitState). y.section) c.0 ∙ own in (
      record { own = here; rest = joined xs; stands = l.1 ∙ ap (λ (i : ℕ). drop i cells) (sym l.0) },
      piece-facts base section cells (past x.state.mode base x.state x.cells) (place + length x.cells) xs (stays-past x.state.mode base x.state x.cells ∙ here) c.2 l.2,
    )

-- so it is the cells there
piece-is : (section : ℕ) (cells : List Cell) (x : Piece UnitState) → PieceFacts section cells x → cells_at cells x.state.place (length x.cells) ≡ x.cells
piece-is section cells x p = piece-cells cells x.cells p.rest x.state.place (sym p.stands)

-- a piece that is to say where a line table starts, and has another form
record StrayPiece (xs : List (Piece UnitState)) (place : ℕ) : Type 0 where
  one : Piece UnitState
  front : List (Piece UnitState)
  rest : List (Piece UnitState)
  split : xs ≡ front ++ one ∷ rest
  form : has_start_form one ≡ false
  there : value_begin one.state ≡ place

stray-found : (xs : List (Piece UnitState)) (place : ℕ) → stray_among xs ≡ Some place → StrayPiece xs place
stray-found [] place e = absurd cc
stray-found (x ∷ xs) place e = by_form (has_start_form x) refl e (stray-found xs place)
  where
    some-once : (a b : ℕ) → Some a ≡ Some b → a ≡ b
    some-once a b f = cc

    by_form : (b : Bool) → has_start_form x ≡ b → cond b (stray_among xs) (Some (value_begin x.state)) ≡ Some place → (stray_among xs ≡ Some place → StrayPiece xs place)
        → StrayPiece (x ∷ xs) place
    by_form true is f next =
        let s : StrayPiece xs place = next f in
        record { one = s.one; front = x ∷ s.front; rest = s.rest; split = ap (λ (ys : List (Piece UnitState)). x ∷ ys) s.split; form = s.form; there = s.there }
    by_form false is f next =
        record { one = x; front = []; rest = xs; split = refl; form = is; there = some-once (value_begin x.state) place f }

-- the piece of a field that says where a line table starts
record StartPiece (xs : List (Piece UnitState)) (f : OffsetField) : Type 0 where
  one : Piece UnitState
  front : List (Piece UnitState)
  rest : List (Piece UnitState)
  split : xs ≡ front ++ one ∷ rest
  role : role_of one ≡ line_start
  is : f ≡ record { at = one.state.place; size = length one.cells; path = false }

start-pieces : (all front xs : List (Piece UnitState)) → all ≡ front ++ xs → EachOf (StartPiece all) (start_fields xs)
start-pieces all front [] split = tt
start-pieces all front (x ∷ xs) split =
    by_role (role_of x) refl (start-pieces all (front ++ x ∷ []) xs (split ∙ sym (append_assoc front (x ∷ []) xs)))
  where
    by_role : (r : Role) → role_of x ≡ r → EachOf (StartPiece all) (start_fields xs)
        → EachOf (StartPiece all) (start_by r x.state.place (length x.cells) ++ start_fields xs)
    by_role fixed e rest = rest
    by_role (offset t path) e rest = rest
    by_role inline_path e rest = rest
    by_role line_start e rest = (record { one = x; front = front; rest = xs; split = split; role = e; is = refl }, rest)

-- the piece of a field that says where a macro unit starts
record UnitPiece (xs : List (Piece UnitState)) (f : OffsetField) : Type 0 where
  one : Piece UnitState
  front : List (Piece UnitState)
  rest : List (Piece UnitState)
  split : xs ≡ front ++ one ∷ rest
  value : is_macro_value one ≡ true
  is : f ≡ record { at = one.state.place; size = length one.cells; path = false }

unit-pieces : (all front xs : List (Piece UnitState)) → all ≡ front ++ xs → EachOf (UnitPiece all) (macro_fields xs)
unit-pieces all front [] split = tt
unit-pieces all front (x ∷ xs) split =
    by_value (is_macro_value x) refl (unit-pieces all (front ++ x ∷ []) xs (split ∙ sym (append_assoc front (x ∷ []) xs)))
  where
    by_value : (b : Bool) → is_macro_value x ≡ b → EachOf (UnitPiece all) (macro_fields xs)
        → EachOf (UnitPiece all) (macro_by b x.state.place (length x.cells) ++ macro_fields xs)
    by_value false e rest = rest
    by_value true e rest = (record { one = x; front = front; rest = xs; split = split; value = e; is = refl }, rest)

-- the reading of a section that says this
record ReadingOf (v : View) (rs : Readings) (u : SectionFields) : Type 0 where
  before : Readings
  behind : Readings
  reading : Reading
  sections : rs ≡ before ++ reading ∷ behind
  says : paths_in reading ≡ u
  facts : EachPiece (PieceFacts u.number (view_cells v u.number)) reading.pieces

reading-here : (v : View) (before zs : List UnitSection) (z : UnitSection) (first : ℕ) (r : Reading) (u : SectionFields) → (debug_data v).found Info ≡ before ++ z ∷ zs → r.number ≡ z.number
    → ReadsUnits (debug_data v).base z first r.pieces → u ≡ paths_in r → EachPiece (PieceFacts u.number (view_cells v u.number)) r.pieces
reading-here v before zs z first r u split number reads is =
    let own : IsOfView v z.number z = own-section v before zs z split in
    let same : z.number ≡ u.number = sym number ∙ sym (ap (λ (x : SectionFields). x.number) is) in
    let here : EachPiece (PieceFacts z.number z.contents) r.pieces =
    piece-facts (debug_data v).base z.number z.contents (before_unit z.number z.kind (length z.contents) 0 first) 0 r.pieces refl reads.chain
    (placed-cells (debug_data v).base z.contents (before_unit z.number z.kind (length z.contents) 0 first) 0 r.pieces refl reads.chain reads.cells) in
    subst (λ (n : ℕ). EachPiece (PieceFacts n (view_cells v n)) r.pieces) same (subst (λ (cells : List Cell). EachPiece (PieceFacts z.number cells) r.pieces) own.contents here)

reading-of : (v : View) (before zs : List UnitSection) (first : ℕ) (rs : Readings) (i : ℕ) (u : SectionFields) → (debug_data v).found Info ≡ before ++ zs
    → ReadsAll (debug_data v).base first zs rs → i < length (paths_of rs) → u ≡ get_or (paths_of rs) i u → ReadingOf v rs u
reading-of v before zs first [] i u split reads lt is = absurd (omega (arith, lt))
reading-of v before [] first (r ∷ rs) i u split reads lt is = absurd reads
reading-of v before (z ∷ zs) first (r ∷ rs) zero u split reads lt is = record {
  before = [];
  behind = rs;
  reading = r;
  sections = refl;
  says = sym is;
  facts = reading-here v before zs z first r u split reads.0 reads.1 is;
}
reading-of v before (z ∷ zs) first (r ∷ rs) (suc i) u split reads lt is =
    let x : ReadingOf v rs u =
    reading-of v (before ++ z ∷ []) zs (first + units_in r.pieces) rs i u (split ∙ sym (append_assoc before (z ∷ []) zs)) reads.2 (omega (arith, lt)) is in
    record {
      before = r ∷ x.before;
      behind = x.behind;
      reading = x.reading;
      sections = ap (λ (ys : Readings). r ∷ ys) x.sections;
      says = x.says;
      facts = x.facts;
    }

-- the place of a refusal
refused-at : (P : Refusal → Type 0) (a b c d : ℕ) → a ≡ b → c ≡ d → P (at Stray a c) → P (at Stray b d)
refused-at P a b c d e f h = subst (λ (n : ℕ). P (at Stray b n)) f (subst (λ (n : ℕ). P (at Stray n c)) e h)

-- where no table starts
none-there : (v : View) (q : DataReadings) (starts : List ℕ) (x : Piece UnitState) (section : ℕ) → starts ≡ table_starts q.lines → PieceFacts section (view_cells v section) x
    → says_start v.order (located v Line) starts (cells_at (view_cells v section) x.state.place (length x.cells)) ≡ false → is_there (line_table (around_of (debug_data v) q) x.cells) ≡ false
unfolding debug_data
none-there v q starts x section same p none =
    ap (λ (z : Located). is_there (start_number 0 (table_starts q.lines) (offset_of v.order z x.cells))) (lines-located v)
    ∙ ap (λ (ss : List ℕ). says_start v.order (located v Line) ss x.cells) (sym same)
    ∙ ap (says_start v.order (located v Line) starts) (sym (piece-is section (view_cells v section) x p))
    ∙ none

-- where no macro unit starts
no-unit-there : (v : View) (q : DataReadings) (places : UnitPlaces) (x : Piece UnitState) (section : ℕ) → PlacesStart places (macro_places (debug_data v) q)
    → PieceFacts section (view_cells v section) x → says_unit v.order places (cells_at (view_cells v section) x.state.place (length x.cells)) ≡ false
    → is_there (macro_unit (around_of (debug_data v) q).lasting x.cells) ≡ false
unfolding debug_data
no-unit-there v q places x section start p none =
    field-unit places (macro_places (debug_data v) q) (field_of v.order x.cells) start
    ∙ ap (says_unit v.order places) (sym (piece-is section (view_cells v section) x p))
    ∙ none

-- by the byte order of the debug data
placed-there : (v : View) (q : DataReadings) (p : List Cell) → is_placed (field_of v.order p) ≡ true → is_placed (field_of (around_of (debug_data v) q).lasting.base.order p) ≡ true
unfolding debug_data
placed-there v q p placed = placed

-- the field of a section of debug data is that of the view
own-fails : (v : View) (before behind : List UnitSection) (z : UnitSection) (u : SectionFields) (g : OffsetField) (r : Refusal) → (debug_data v).found Info ≡ before ++ z ∷ behind
    → SectionSays (debug_data v) z u → OffsetFails v.order u.number (view_cells v u.number) (field_place g.at g.size offset_field) r
    → OffsetFails (debug_data v).base.order z.number z.contents (field_place g.at g.size offset_field) r
unfolding debug_data
own-fails v before behind z u g r split says fails =
    let of : IsOfView v z.number z = own-section v before behind z split in
    subst (λ (cs : List Cell). OffsetFails v.order z.number cs (field_place g.at g.size offset_field) r) (sym of.contents)
    (subst (λ (n : ℕ). OffsetFails v.order n (view_cells v n) (field_place g.at g.size offset_field) r) (says-number (debug_data v) z u says) fails)

-- a value that says none is a row
pub section-row : (v : View) (starts : List ℕ) (places : UnitPlaces) (us : List SectionFields) (i : ℕ) (u : SectionFields) (r : Refusal) → AllTaken (debug_data v) ((debug_data v).found Info) us
    → TablesStart (debug_data v) starts → UnitsStart (debug_data v) places → i < length us → u ≡ get_or us i u → SectionStrays v starts places u r
    → StartsRefuse (debug_data v) r
section-row v starts places us i u r taken t ms lt is row =
    let d : DebugData = debug_data v in
    let f : FoundReadings (debug_data v) 0 ((debug_data v).found Info) us = found-readings (debug_data v) 0 ((debug_data v).found Info) us (taken-placed (debug_data v) ((debug_data v).found Info) us taken) in
    by_row f (reading-of v [] ((debug_data v).found Info) 0 f.readings i u refl f.reads (subst (λ (xs : List SectionFields). i < length xs) (sym f.says) lt)
    (is ∙ ap (λ (xs : List SectionFields). get_or xs i u) (sym f.says))) r row
  where
    all : FoundReadings (debug_data v) 0 ((debug_data v).found Info) us → DataReadings
    all f = record { units = f.readings; offsets = []; lines = t.tables; macros = ms.readings; names = [] }

    own-placed : (g : OffsetField) (y : Piece UnitState) → PieceFacts u.number (view_cells v u.number) y → g ≡ record { at = y.state.place; size = length y.cells; path = false }
        → is_placed (field_of v.order (cells_at (view_cells v u.number) g.at g.size)) ≡ true → is_placed (field_of v.order y.cells) ≡ true
    own-placed g y facts is placed =
        ap (λ (cs : List Cell). is_placed (field_of v.order cs)) (sym (piece-is u.number (view_cells v u.number) y facts))
        ∙ subst (λ (k : OffsetField). is_placed (field_of v.order (cells_at (view_cells v u.number) k.at k.size)) ≡ true) is placed

    by_field : (f : FoundReadings (debug_data v) 0 ((debug_data v).found Info) us) (x : ReadingOf v f.readings u) (g : OffsetField) → StartPiece x.reading.pieces g
        → is_placed (field_of v.order (cells_at (view_cells v u.number) g.at g.size)) ≡ true → says_start v.order (located v Line) starts (cells_at (view_cells v u.number) g.at g.size) ≡ false → StartsFail (debug_data v) (at Stray u.number g.at)
    by_field f x g s placed none =
        let facts : PieceFacts u.number (view_cells v u.number) s.one =
        piece-among (PieceFacts u.number (view_cells v u.number)) s.front s.rest s.one (subst (EachPiece (PieceFacts u.number (view_cells v u.number))) s.split x.facts) in
        let absent : says_start v.order (located v Line) starts (cells_at (view_cells v u.number) s.one.state.place (length s.one.cells)) ≡ false =
        subst (λ (y : OffsetField). says_start v.order (located v Line) starts (cells_at (view_cells v u.number) y.at y.size) ≡ false) s.is none in
        let is_placed_ : is_placed (field_of v.order s.one.cells) ≡ true = own-placed g s.one facts s.is placed in
        refused-at (StartsFail (debug_data v)) s.one.state.section u.number s.one.state.place g.at facts.own (sym (ap (λ (y : OffsetField). y.at) s.is))
        (stray (all f) (record { units = f.reads; lines = t.are; macros = ms.are })
        (table_row s.one (record { before = x.before; behind = x.behind; section = x.reading; sections = x.sections; front = s.front; rest = s.rest; pieces = s.split }) s.role (placed-there v (all f) s.one.cells is_placed_)
        (none-there v (all f) starts s.one u.number t.is facts absent)))

    by_unit : (f : FoundReadings (debug_data v) 0 ((debug_data v).found Info) us) (x : ReadingOf v f.readings u) (g : OffsetField) → UnitPiece x.reading.pieces g
        → is_placed (field_of v.order (cells_at (view_cells v u.number) g.at g.size)) ≡ true → says_unit v.order places (cells_at (view_cells v u.number) g.at g.size) ≡ false → StartsFail (debug_data v) (at Stray u.number g.at)
    by_unit f x g s placed none =
        let facts : PieceFacts u.number (view_cells v u.number) s.one =
        piece-among (PieceFacts u.number (view_cells v u.number)) s.front s.rest s.one (subst (EachPiece (PieceFacts u.number (view_cells v u.number))) s.split x.facts) in
        let absent : says_unit v.order places (cells_at (view_cells v u.number) s.one.state.place (length s.one.cells)) ≡ false =
        subst (λ (y : OffsetField). says_unit v.order places (cells_at (view_cells v u.number) y.at y.size) ≡ false) s.is none in
        let is_placed_ : is_placed (field_of v.order s.one.cells) ≡ true = own-placed g s.one facts s.is placed in
        refused-at (StartsFail (debug_data v)) s.one.state.section u.number s.one.state.place g.at facts.own (sym (ap (λ (y : OffsetField). y.at) s.is))
        (stray (all f) (record { units = f.reads; lines = t.are; macros = ms.are })
        (unit_row s.one (record { before = x.before; behind = x.behind; section = x.reading; sections = x.sections; front = s.front; rest = s.rest; pieces = s.split }) s.value (placed-there v (all f) s.one.cells is_placed_)
        (no-unit-there v (all f) places s.one u.number ms.start facts absent)))

    section : SectionFacts v u
    section = facts-at v us i u (taken-placed (debug_data v) ((debug_data v).found Info) us taken) lt is

    places_each : EachOf (PlaceOf (debug_data v) section.section) section.says.places
    places_each = facts-each v u section

    unread : (g : OffsetField) (q : Refusal) → RowField (debug_data v) section.section g → OffsetFails v.order u.number (view_cells v u.number) (field_place g.at g.size offset_field) q
        → ValueRelocationFails (debug_data v) q
    unread g q row fails = row.row q (own-fails v section.before section.behind section.section u g q section.split section.says fails)

    by_row : (f : FoundReadings (debug_data v) 0 ((debug_data v).found Info) us) (x : ReadingOf v f.readings u) (q : Refusal) → SectionStrays v starts places u q → StartsRefuse (debug_data v) q
    by_row f x q (other_form place some) =
        let s : StrayPiece x.reading.pieces place = stray-found x.reading.pieces place (ap (λ (y : SectionFields). y.stray) x.says ∙ some) in
        let facts : PieceFacts u.number (view_cells v u.number) s.one =
        piece-among (PieceFacts u.number (view_cells v u.number)) s.front s.rest s.one (subst (EachPiece (PieceFacts u.number (view_cells v u.number))) s.split x.facts) in
        says_none (refused-at (StartsFail (debug_data v)) s.one.state.section u.number (value_begin s.one.state) place facts.own s.there
        (stray (all f) (record { units = f.reads; lines = t.are; macros = ms.are })
        (form_row s.one (record { before = x.before; behind = x.behind; section = x.reading; sections = x.sections; front = s.front; rest = s.rest; pieces = s.split }) s.form)))
    by_row f x q (no_table (field k g lt_k is_k placed none)) =
        let same : start_fields x.reading.pieces ≡ fields_into u Line = ap (λ (y : SectionFields). fields_into y Line) x.says in
        let piece : StartPiece x.reading.pieces g =
        subst (StartPiece x.reading.pieces) (sym is_k)
        (each-get (StartPiece x.reading.pieces) (fields_into u Line) k g lt_k (subst (EachOf (StartPiece x.reading.pieces)) same (start-pieces x.reading.pieces [] x.reading.pieces refl))) in
        says_none (by_field f x g piece placed none)
    by_row f x q (no_table (no_offset k g lt_k is_k fails)) =
        let same : fields_into u Line ≡ starts_in section.says.places = ap (λ (y : SectionFields). fields_into y Line) section.says.says in
        let row : RowField (debug_data v) section.section g =
        subst (RowField (debug_data v) section.section) (sym is_k)
        (each-get (RowField (debug_data v) section.section) (fields_into u Line) k g lt_k (subst (EachOf (RowField (debug_data v) section.section)) (sym same)
        (starts-rows (debug_data v) section.section section.says.places places_each))) in
        reads_none (unread g q row fails)
    by_row f x q (no_unit (field k g lt_k is_k placed none)) =
        let same : macro_fields x.reading.pieces ≡ fields_into u Macro = ap (λ (y : SectionFields). fields_into y Macro) x.says in
        let piece : UnitPiece x.reading.pieces g =
        subst (UnitPiece x.reading.pieces) (sym is_k)
        (each-get (UnitPiece x.reading.pieces) (fields_into u Macro) k g lt_k (subst (EachOf (UnitPiece x.reading.pieces)) same (unit-pieces x.reading.pieces [] x.reading.pieces refl))) in
        says_none (by_unit f x g piece placed none)
    by_row f x q (no_unit (no_offset k g lt_k is_k fails)) =
        let same : fields_into u Macro ≡ macros_in section.says.places = ap (λ (y : SectionFields). fields_into y Macro) section.says.says in
        let row : RowField (debug_data v) section.section g =
        subst (RowField (debug_data v) section.section) (sym is_k)
        (each-get (RowField (debug_data v) section.section) (fields_into u Macro) k g lt_k (subst (EachOf (RowField (debug_data v) section.section)) (sym same)
        (units-rows (debug_data v) section.section section.says.places places_each))) in
        reads_none (unread g q row fails)

-- the same of sections: what was tested holds of all
abbrev pub StartsIn : View → List ℕ → UnitPlaces → SectionFields → Type 0
StartsIn v starts places u = SectionStarts v starts places u

all-starts : (v : View) (starts : List ℕ) (places : UnitPlaces) (before zs : List UnitSection) (us : List SectionFields) → (debug_data v).found Info ≡ before ++ zs → AllPlaced (debug_data v) zs us
    → EachOf (StartsIn v starts places) us → AllStarts (debug_data v) starts places zs us
unfolding debug_data
all-starts v starts places before [] us split all each = tt
all-starts v starts places before (z ∷ zs) [] split all each = tt
all-starts v starts places before (z ∷ zs) (u ∷ us) split all each =
    let here : StartsIn v starts places u = each.0 in
    let of : IsOfView v z.number z = own-section v before zs z split in
    let cells : view_cells v u.number ≡ z.contents = ap (view_cells v) (says-number (debug_data v) z u all.0) ∙ sym of.contents in (
      record {
        all_say = here.all_say;
        named = subst (λ (l : Located). FieldsSay (says_start v.order l starts) z.contents (fields_into u Line)) (sym (lines-located v))
            (subst (λ (cs : List Cell). FieldsSay (says_start v.order (located v Line) starts) cs (fields_into u Line)) cells here.there);
        units = subst (λ (cs : List Cell). FieldsSay (says_unit v.order places) cs (fields_into u Macro)) cells here.units;
      },
      all-starts v starts places (before ++ z ∷ []) zs us (split ∙ sym (append_assoc before (z ∷ []) zs)) all.1 each.1,
    )

sections-front : (us : List SectionFields) (u : SectionFields) (i : ℕ) → i < length us → u ≡ get_or us i u → drop i us ≡ u ∷ drop (i + 1) us
sections-front us u i lt is =
    let next : suc i ≡ i + 1 = omega arith in
    drop-cons us i u lt ∙ ap (λ (n : ℕ). get_or us i u ∷ drop n us) next ∙ ap (λ (y : SectionFields). y ∷ drop (i + 1) us) (sym is)

pub record AllPassed (v : View) (starts : List ℕ) (places : UnitPlaces) (us : List SectionFields) (i : ℕ) : Type 0 where
  pub here : EachOf (StartsIn v starts places) (drop i us) → EachOf (StartsIn v starts places) us

pub all-none : (v : View) (starts : List ℕ) (places : UnitPlaces) (us : List SectionFields) → AllPassed v starts places us 0
all-none v starts places us = record { here = λ h. h }

pub all-more : (v : View) (starts : List ℕ) (places : UnitPlaces) (us : List SectionFields) (i : ℕ) (u : SectionFields) → i < length us → u ≡ get_or us i u → AllPassed v starts places us i
    → SectionStarts v starts places u → AllPassed v starts places us (i + 1)
all-more v starts places us i u lt is passed here = record { here = λ h. passed.here (subst (EachOf (StartsIn v starts places)) (sym (sections-front us u i lt is)) (here, h)) }

pub all-end : (v : View) (starts : List ℕ) (places : UnitPlaces) (us : List SectionFields) (i : ℕ) → AllTaken (debug_data v) ((debug_data v).found Info) us → length us ≤ i → AllPassed v starts places us i
    → AllStarts (debug_data v) starts places ((debug_data v).found Info) us
all-end v starts places us i taken end passed =
    all-starts v starts places [] ((debug_data v).found Info) us refl (taken-placed (debug_data v) ((debug_data v).found Info) us taken)
    (passed.here (subst (EachOf (StartsIn v starts places)) (sym (drop_all i us end)) tt))

pub taken-paths : (v : View) (us : List SectionFields) (i : ℕ) (u : SectionFields) → AllTaken (debug_data v) ((debug_data v).found Info) us → i < length us → u ≡ get_or us i u → HasPlaces v u
taken-paths v us i u taken lt is = places-at v us i u (taken-placed (debug_data v) ((debug_data v).found Info) us taken) lt is

pub ruleset all_rules = (all-none)
