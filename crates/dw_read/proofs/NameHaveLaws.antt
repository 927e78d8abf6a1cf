-- What the section of name tables that was read says of texts: fields of the view of which no two have a byte in common.
use Rattle.std.proofs.Common.{true, false, ◌≡◌, ℕ, zero, suc, ◌+◌, ◌<◌, ◌≤◌, List, [], ◌∷◌, ◌++◌, length, drop, Option, Some, None, refl, sym, ap, ◌∙◌, subst, arith, append-nil}
use Rattle.std.specs.Bool.{⊤}
use Rattle.std.proofs.Math.Seq.{drop-append_seam}
use Rattle.std.proofs.lemmas.List.{drop-drop, length-append, length-drop}
use Rattle.dw_base.specs.Cells.{Cell, bytes_of, cells_at, offset_of}
use Rattle.dw_base.specs.DebugData.{Around, DataReadings, around_of}
use Rattle.dw_base.specs.DebugSections.{name_of}
use Rattle.dw_base.specs.FileViews.{View, section_named, view_cells}
use Rattle.dw_base.specs.Lebs.{initial_length_at}
use Rattle.dw_base.specs.NameHeaders.{name_counts}
use Rattle.dw_base.specs.NamePieces.{NameMode, at_table, at_string, at_rest, no_names, NameState, names_at, before_strings_of, after_front, past_names, FitsNames, ReadsNames, name_grammar}
use Rattle.dw_base.specs.Pieces.{Piece, Chain, joined}
use Rattle.dw_base.specs.SectionTexts.{NameTexts, name_role, name_role_by}
use Rattle.dw_base.specs.TextChanges.{NamesTextBy}
use Rattle.dw_base.specs.Texts.{ends_in}
use Rattle.dw_base.specs.ViewData.{cells_located, debug_data}
use Rattle.dw_base.specs.declared.debug_sections.DebugSection.TheVariants.{Str, Names}
use Rattle.dw_base.specs.declared.shared.Order.{Order}
use Rattle.dw_base.specs.declared.shared.Width.{Width}
use Rattle.dw_base.specs.declared.name_tables.NameTable.{NameTable}
use Rattle.dw_base.specs.declared.texts.TextSection.{TextSection}
use Rattle.dw_base.specs.declared.texts.TextSection.TheVariants.{InStr, InLineStr}
use Rattle.dw_base.proofs.FileViewLaws.{section_after-within}
use Rattle.dw_base.proofs.ViewCellLaws.{piece-cells}
use Rattle.dw_offsets.specs.NameFields.{fields_of_names, piece_strings, string_field}
use Rattle.dw_offsets.specs.declared.fields.OffsetField.{OffsetField}
use Rattle.dw_unit_fields.specs.Fields.{AllApart, IsOffsetField}
use Rattle.dw_read.specs.NameSections.{names_of_view, names_read, names_texts}
use Rattle.dw_unit_fields.specs.SectionFields.{SectionFields, field_by, start_by}
use Rattle.dw_read.specs.SlotPaths.{slots_by, slots_with}
use Rattle.dw_unit_fields.specs.ViewFields.{AllHaveOffsets, AllHavePlaces}
use Rattle.dw_unit_fields.proofs.ApartLaws.{apart-here}
use Rattle.dw_read.proofs.MacroHaveLaws.{width-sized, width-some}
use Rattle.dw_unit_fields.proofs.PieceFieldLaws.{FieldsFrom, from-less, from-piece}
use Rattle.dw_unit_fields.proofs.PlaceValueLaws.{EachOf, each-append, offset-fields}

-- what was put behind what was found
pub names-pushed : (v : View) (tables : List NameTable) (old new : List SectionFields) (n : ℕ) (fields : List OffsetField) (u : SectionFields) → Some n ≡ section_named v (name_of Names)
    → fields ≡ fields_of_names tables → u ≡ slots_with n fields → new ≡ old ++ u ∷ [] → new ≡ old ++ names_of_view v (fields_of_names tables)
names-pushed v tables old new n fields u found are is e =
    e ∙ ap (λ (x : SectionFields). old ++ x ∷ []) is ∙ ap (λ (o : Option ℕ). old ++ slots_by o fields) found
    ∙ ap (λ (fs : List OffsetField). old ++ names_of_view v fs) are

pub names-none : (v : View) (tables : List NameTable) (old new : List SectionFields) → None ≡ section_named v (name_of Names) → new ≡ old
    → new ≡ old ++ names_of_view v (fields_of_names tables)
names-none v tables old new none e = e ∙ sym (append-nil old) ∙ ap (λ (o : Option ℕ). old ++ slots_by o (fields_of_names tables)) none

pub ruleset names_rules = (names-pushed, names-none)

-- the fields by tables are those by pieces
string-is : (m : NameMode) (place size : ℕ) → string_field m place size ≡ field_by InStr (name_role_by m) place size
string-is at_table place size = refl
string-is (at_string w left end) place size = refl
string-is (at_rest end) place size = refl
string-is no_names place size = refl

pub strings-are : (xs : List (Piece NameState)) → piece_strings xs ≡ names_texts InStr xs
strings-are [] = refl
strings-are (x ∷ xs) =
    ap (λ (fs : List OffsetField). fs ++ piece_strings xs) (string-is x.state.mode x.state.place (length x.cells))
    ∙ ap (λ (fs : List OffsetField). field_by InStr (name_role x.state) x.state.place (length x.cells) ++ fs) (strings-are xs)

-- pieces of name tables stand one after another
place-strings : (whole place : ℕ) (w : Width) (k end : ℕ) → (before_strings_of whole place w k end).place ≡ place
place-strings whole place w zero end = refl
place-strings whole place w (suc k) end = refl

place-front : (order : Order) (s : NameState) (p : List Cell) (o : Option (Width × ℕ × ℕ)) → (after_front order s p o).place ≡ s.place + length p
place-front order s p None = refl
place-front order s p (Some l) = place-strings s.whole (s.place + length p) l.0 (name_counts order (bytes_of p) l.2).names (s.place + l.2 + l.1)

place-next : (m : NameMode) (order : Order) (s : NameState) (p : List Cell) → FitsNames m order s p → (past_names m order s p).place ≡ s.place + length p
place-next at_table order s p f = place-front order s p (initial_length_at order (bytes_of p) 0)
place-next (at_string w left end) order s p f = place-strings s.whole (s.place + length p) w left end
place-next (at_rest end) order s p f = sym f
place-next no_names order s p f = absurd f

abbrev pub NamesPlaced : List Cell → ℕ → List (Piece NameState) → Type 0
NamesPlaced cells place [] = ⊤
NamesPlaced cells place (x ∷ xs) = (x.state.place ≡ place) × (x.cells ++ joined xs ≡ drop place cells) × NamesPlaced cells (place + length x.cells) xs

names-placed : (order : Order) (cells : List Cell) (s : NameState) (place : ℕ) (xs : List (Piece NameState)) → s.place ≡ place → Chain (name_grammar order) s xs
    → joined xs ≡ drop place cells → NamesPlaced cells place xs
names-placed order cells s place [] at c e = tt
names-placed order cells s place (x ∷ xs) at c e =
    let here : x.state.place ≡ place = ap (λ (z : NameState). z.place) c.0 ∙ at in
    let behind : joined xs ≡ drop (place + length x.cells) cells =
    sym (drop-append_seam x.cells (joined xs)) ∙ ap (drop (length x.cells)) e ∙ drop-drop (length x.cells) place cells in
    let next : (past_names x.state.mode order x.state x.cells).place ≡ place + length x.cells =
    place-next x.state.mode order x.state x.cells c.1 ∙ ap (λ (i : ℕ). i + length x.cells) here in
    (here, e, names-placed order cells (past_names x.state.mode order x.state x.cells) (place + length x.cells) xs next c.2 behind)

pub names-in : (v : View) (o : Option ℕ) (xs : List (Piece NameState)) → ReadsNames v.order (cells_located v o).contents xs → NamesPlaced (cells_located v o).contents 0 xs
names-in v o xs r = names-placed v.order (cells_located v o).contents (names_at (length (cells_located v o).contents) 0 at_table) 0 xs refl r.chain r.cells

-- so no two of their fields have a byte in common
pub names-from : (table : TextSection) (cells : List Cell) (place : ℕ) (xs : List (Piece NameState)) → NamesPlaced cells place xs → FieldsFrom place (names_texts table xs)
names-from table cells place [] l = tt
names-from table cells place (x ∷ xs) l =
    subst (λ (i : ℕ). FieldsFrom place (field_by table (name_role x.state) i (length x.cells) ++ names_texts table xs)) (sym l.0)
    (from-piece table (name_role x.state) place (length x.cells) (names_texts table xs)
    (from-less place (place + length x.cells) (names_texts table xs) (omega arith) (names-from table cells (place + length x.cells) xs l.2)))

one-apart : (m : NameMode) (place size : ℕ) (fs : List OffsetField) → FieldsFrom (place + size) fs → AllApart fs → AllApart (field_by InStr (name_role_by m) place size ++ fs)
one-apart at_table place size fs h all = all
one-apart (at_string w left end) place size fs h all = (apart-here place size false fs h, all)
one-apart (at_rest end) place size fs h all = all
one-apart no_names place size fs h all = all

names-apart : (cells : List Cell) (place : ℕ) (xs : List (Piece NameState)) → NamesPlaced cells place xs → AllApart (names_texts InStr xs)
names-apart cells place [] l = tt
names-apart cells place (x ∷ xs) l =
    subst (λ (i : ℕ). AllApart (field_by InStr (name_role x.state) i (length x.cells) ++ names_texts InStr xs)) (sym l.0)
    (one-apart x.state.mode place (length x.cells) (names_texts InStr xs) (names-from InStr cells (place + length x.cells) xs l.2) (names-apart cells (place + length x.cells) xs l.2))

-- none is one of `.debug_line_str`, and none says a start
line-name : (m : NameMode) (place size : ℕ) → field_by InLineStr (name_role_by m) place size ≡ []
line-name at_table place size = refl
line-name (at_string w left end) place size = refl
line-name (at_rest end) place size = refl
line-name no_names place size = refl

pub line-names : (xs : List (Piece NameState)) → names_texts InLineStr xs ≡ []
line-names [] = refl
line-names (x ∷ xs) = ap (λ (fs : List OffsetField). fs ++ names_texts InLineStr xs) (line-name x.state.mode x.state.place (length x.cells)) ∙ line-names xs

pub no-start : (m : NameMode) (place size : ℕ) → start_by (name_role_by m) place size ≡ []
no-start at_table place size = refl
no-start (at_string w left end) place size = refl
no-start (at_rest end) place size = refl
no-start no_names place size = refl

-- each holds the offset of a text
text-field : (m : NameMode) (order : Order) (around : Around) (cells : List Cell) (x : Piece NameState) (rest : List Cell) (place : ℕ) → FitsNames m order x.state x.cells
    → x.state.place ≡ place → x.cells ++ rest ≡ drop place cells → NamesTextBy (name_role_by m) around x.cells
    → EachOf (IsOffsetField around.lasting.base.order (around.stands Str) cells) (field_by InStr (name_role_by m) x.state.place (length x.cells))
text-field at_table order around cells x rest place fits at e names = tt
text-field (at_string w left end) order around cells x rest place fits at e names =
    (record { sized = width-sized w (length x.cells) fits.size; inside = inside; ends = ends }, tt)
  where
    inside : x.state.place + length x.cells ≤ length cells
    inside =
        let whole : length (x.cells ++ rest) ≡ length (drop place cells) = ap (λ (l : List Cell). length l) e in
        let size = length-append x.cells rest in
        let some : 0 < length x.cells = width-some w (length x.cells) fits.size in
        omega (arith, whole, size, length-drop place cells, at, some)

    ends : ends_in (around.stands Str).bytes (offset_of around.lasting.base.order (around.stands Str) (cells_at cells x.state.place (length x.cells))) ≡ true
    ends =
        let own : cells_at cells x.state.place (length x.cells) ≡ x.cells =
        ap (λ (i : ℕ). cells_at cells i (length x.cells)) at ∙ piece-cells cells x.cells rest place (sym e) in
        ap (λ (p : List Cell). ends_in (around.stands Str).bytes (offset_of around.lasting.base.order (around.stands Str) p)) own ∙ names
text-field (at_rest end) order around cells x rest place fits at e names = tt
text-field no_names order around cells x rest place fits at e names = tt

text-fields : (order : Order) (around : Around) (cells : List Cell) (s : NameState) (xs : List (Piece NameState)) (place : ℕ) → Chain (name_grammar order) s xs → NamesPlaced cells place xs
    → NameTexts name_role around xs → EachOf (IsOffsetField around.lasting.base.order (around.stands Str) cells) (names_texts InStr xs)
text-fields order around cells s [] place chain placed names = tt
text-fields order around cells s (x ∷ xs) place chain placed names =
    each-append (IsOffsetField around.lasting.base.order (around.stands Str) cells) (field_by InStr (name_role x.state) x.state.place (length x.cells)) (names_texts InStr xs)
    (text-field x.state.mode order around cells x (joined xs) place chain.1 placed.0 placed.1 names.0)
    (text-fields order around cells (past_names x.state.mode order x.state x.cells) xs (place + length x.cells) chain.2 placed.2 names.1)

-- the section of a view
pub names-of : (v : View) (xs : List (Piece NameState)) → ReadsNames (debug_data v).base.order ((debug_data v).found Names).contents xs
    → ReadsNames v.order (cells_located v (section_named v (name_of Names))).contents xs
unfolding debug_data
names-of v xs r = r

names-there : (v : View) (i : ℕ) → section_named v (name_of Names) ≡ Some i → i < length v.sections
unfolding section_named
names-there v i e = (section_after-within v (name_of Names) 0 i e).1

offsets-by : (v : View) (rs : DataReadings) (o : Option ℕ) → ((i : ℕ) → o ≡ Some i → i < length v.sections) → ReadsNames v.order (cells_located v o).contents rs.names
    → NameTexts name_role (around_of (debug_data v) rs) rs.names → AllHaveOffsets v (slots_by o (names_texts InStr rs.names))
unfolding debug_data
offsets-by v rs None there r names = tt
offsets-by v rs (Some i) there r names = (
  record {
    there = there i refl;
    str = offset-fields v.order ((debug_data v).found Str) (view_cells v i) (names_texts InStr rs.names)
        (text-fields v.order (around_of (debug_data v) rs) (view_cells v i) _ rs.names 0 r.chain (names-in v (Some i) rs.names r) names);
    line_str = record { each = λ k d lt. absurd (omega (arith, lt)) };
  },
  tt,
)

places-by : (v : View) (rs : DataReadings) (o : Option ℕ) → ((i : ℕ) → o ≡ Some i → i < length v.sections) → ReadsNames v.order (cells_located v o).contents rs.names
    → AllHavePlaces v (slots_by o (names_texts InStr rs.names))
places-by v rs None there r = tt
places-by v rs (Some i) there r = (
  record {
    there = there i refl;
    starts = record { each = λ k d lt. absurd (omega (arith, lt)) };
    macros = record { each = λ k d lt. absurd (omega (arith, lt)) };
    apart = subst AllApart (sym (append-nil (names_texts InStr rs.names))) (names-apart (view_cells v i) 0 rs.names (names-in v (Some i) rs.names r));
    rooms = record { each = λ k d lt. absurd (omega (arith, lt)) };
  },
  tt,
)

pub names-offsets : (v : View) (rs : DataReadings) → ReadsNames v.order (cells_located v (section_named v (name_of Names))).contents rs.names
    → NameTexts name_role (around_of (debug_data v) rs) rs.names → AllHaveOffsets v (names_read v rs)
names-offsets v rs r names = offsets-by v rs (section_named v (name_of Names)) (names-there v) r names

pub names-places : (v : View) (rs : DataReadings) → ReadsNames v.order (cells_located v (section_named v (name_of Names))).contents rs.names → AllHavePlaces v (names_read v rs)
names-places v rs r = places-by v rs (section_named v (name_of Names)) (names-there v) r
