-- What sections of macro units that were read say of line tables and texts: fields of the view of which no two have a byte in common.
use Rattle.std.proofs.Common.{true, ◌≡◌, ◌⊎◌, inl, inr, ℕ, ◌+◌, ◌<◌, ◌≤◌, arith, List, [], ◌∷◌, ◌++◌, length, drop, refl, sym, ap, ◌∙◌, subst}
use Rattle.std.specs.Bool.{⊤}
use Rattle.std.proofs.Math.Seq.{drop-append_seam}
use Rattle.std.proofs.lemmas.List.{drop-drop, length-append, length-drop}
use Rattle.dw_base.specs.Cells.{Cell, CellSection, bytes_of, cells_at, offset_of}
use Rattle.dw_base.specs.FileViews.{View, section_bytes, view_cells}
use Rattle.dw_base.specs.Forms.{width_size}
use Rattle.dw_base.specs.MacroPieces.{of_text, of_unit, MacroMode, at_unit, at_line, at_operation, at_offset, no_macros, MacroState, FitsMacros, ReadsMacros, macros_at, macro_grammar}
use Rattle.dw_base.specs.MacroReadings.{EachMacro, MacroReading, ReadsAllMacros}
use Rattle.dw_base.specs.Pieces.{Piece, Chain, EachPiece, joined}
use Rattle.dw_base.specs.SectionTexts.{macro_role, macro_role_by}
use Rattle.dw_base.specs.ViewData.{debug_data}
use Rattle.dw_base.specs.declared.shared.Order.{Order}
use Rattle.dw_base.specs.declared.shared.Width.{Width}
use Rattle.dw_base.specs.declared.shared.Width.TheVariants.{W32, W64}
use Rattle.dw_base.proofs.UnitEditLaws.{length-bytes_of}
use Rattle.dw_base.proofs.UnitHeaderLaws.{bytes_of-append}
use Rattle.dw_base.proofs.ViewCellLaws.{piece-cells}
use Rattle.dw_base.specs.TextChanges.{NamesTextBy}
use Rattle.dw_base.specs.Texts.{ends_in}
use Rattle.dw_base.specs.declared.texts.TextSection.{TextSection}
use Rattle.dw_base.specs.declared.texts.TextSection.TheVariants.{InStr, InLineStr}
use Rattle.dw_base.specs.declared.debug_sections.DebugSection.TheVariants.{Str, Macro}
use Rattle.dw_offsets.specs.declared.fields.OffsetField.{OffsetField}
use Rattle.dw_meaning.proofs.MacroPieceLaws.{CellsOf}
use Rattle.dw_unit_fields.specs.Fields.{AllApart, IsOffsetField, IsStartField}
use Rattle.dw_base.specs.DebugData.{Around, DataReadings, around_of}
use Rattle.dw_read.specs.MacroFields.{macro_starts, macro_texts, macros_read, macros_with}
use Rattle.dw_unit_fields.specs.SectionFields.{field_by, start_by}
use Rattle.dw_unit_fields.specs.ViewFields.{AllHaveOffsets, AllHavePlaces, HasOffsets, HasPlaces}
use Rattle.dw_unit_fields.proofs.ApartLaws.{apart-piece}
use Rattle.dw_unit_fields.proofs.PieceFieldLaws.{FieldsFrom, from-less, from-piece}
use Rattle.dw_unit_fields.proofs.PlaceValueLaws.{EachOf, each-append, each-get, offset-fields}
use Rattle.dw_starts.proofs.MacroNumberLaws.{AllBelow, AllCells, numbers-below}

-- pieces of macro units stand where their states say
abbrev MacrosPlaced : List ℕ → ℕ → List (Piece MacroState) → Type 0
MacrosPlaced info place [] = ⊤
MacrosPlaced info place (x ∷ xs) =
    (x.state.place ≡ place) × (bytes_of x.cells ++ bytes_of (joined xs) ≡ drop place info) × MacrosPlaced info (place + length x.cells) xs

drop-seam : (xs ys : List ℕ) → drop (length xs) (xs ++ ys) ≡ ys
drop-seam [] ys = refl
drop-seam (x ∷ xs) ys = drop-seam xs ys

macros-placed : (order : Order) (info : List ℕ) (s : MacroState) (place : ℕ) (xs : List (Piece MacroState)) → s.place ≡ place → Chain (macro_grammar order) s xs
    → bytes_of (joined xs) ≡ drop place info → MacrosPlaced info place xs
macros-placed order info s place [] at c e = tt
macros-placed order info s place (x ∷ xs) at c e =
    let here : x.state.place ≡ place = ap (λ (z : MacroState). z.place) c.0 ∙ at in
    let parts : bytes_of x.cells ++ bytes_of (joined xs) ≡ drop place info = sym (bytes_of-append x.cells (joined xs)) ∙ e in
    let behind : bytes_of (joined xs) ≡ drop (place + length x.cells) info =
    sym (drop-seam (bytes_of x.cells) (bytes_of (joined xs))) ∙ ap (λ (n : ℕ). drop n (bytes_of x.cells ++ bytes_of (joined xs))) (length-bytes_of x.cells)
    ∙ ap (drop (length x.cells)) parts ∙ drop-drop (length x.cells) place info in
    (here, parts, macros-placed order info ((macro_grammar order).next x.state x.cells) (place + length x.cells) xs (ap (λ (i : ℕ). i + length x.cells) here) c.2 behind)

-- their fields are fields of the section
pub width-sized : (w : Width) (n : ℕ) → n ≡ width_size w → (n ≡ 4) ⊎ (n ≡ 8)
width-sized W32 n e = inl e
width-sized W64 n e = inr e

pub width-some : (w : Width) (n : ℕ) → n ≡ width_size w → 0 < n
width-some W32 n e = omega (arith, e)
width-some W64 n e = omega (arith, e)

one-field : (m : MacroMode) (order : Order) (info : List ℕ) (p : List Cell) (rest : List ℕ) (place : ℕ) → FitsMacros m order p → bytes_of p ++ rest ≡ drop place info
    → EachOf (IsStartField info) (start_by (macro_role_by m) place (length p))
one-field at_unit order info p rest place f e = tt
one-field (at_line width) order info p rest place f e =
    let whole : length (bytes_of p ++ rest) ≡ length (drop place info) = ap (λ (l : List ℕ). length l) e in
    let some : 0 < length p = width-some width (length p) f in
    (record { sized = width-sized width (length p) f; inside = omega (arith, whole, length-append (bytes_of p) rest, some, length-drop place info, length-bytes_of p) }, tt)
one-field (at_operation width) order info p rest place f e = tt
one-field (at_offset width (of_text defines line)) order info p rest place f e = tt
one-field (at_offset width of_unit) order info p rest place f e = tt
one-field no_macros order info p rest place f e = tt

start-append : (info : List ℕ) (fs gs : List OffsetField) → EachOf (IsStartField info) fs → EachOf (IsStartField info) gs → EachOf (IsStartField info) (fs ++ gs)
start-append info [] gs a b = b
start-append info (f ∷ fs) gs a b = (a.0, start-append info fs gs a.1 b)

all-fields : (order : Order) (info : List ℕ) (s : MacroState) (place : ℕ) (xs : List (Piece MacroState)) → Chain (macro_grammar order) s xs → MacrosPlaced info place xs
    → EachOf (IsStartField info) (macro_starts xs)
all-fields order info s place [] c l = tt
all-fields order info s place (x ∷ xs) c l =
    start-append info (start_by (macro_role x.state) x.state.place (length x.cells)) (macro_starts xs)
    (one-field x.state.mode order info x.cells (bytes_of (joined xs)) x.state.place c.1 (l.1 ∙ ap (λ (i : ℕ). drop i info) (sym l.0)))
    (all-fields order info ((macro_grammar order).next x.state x.cells) (place + length x.cells) xs c.2 l.2)

-- and stand from where the pieces do
from-one : (m : MacroMode) (place size : ℕ) (fs : List OffsetField) → FieldsFrom (place + size) fs → FieldsFrom place (start_by (macro_role_by m) place size ++ fs)
from-one at_unit place size fs h = from-less place (place + size) fs (omega arith) h
from-one (at_line width) place size fs h = (omega arith, from-less place (place + size) fs (omega arith) h)
from-one (at_operation width) place size fs h = from-less place (place + size) fs (omega arith) h
from-one (at_offset width (of_text defines line)) place size fs h = from-less place (place + size) fs (omega arith) h
from-one (at_offset width of_unit) place size fs h = from-less place (place + size) fs (omega arith) h
from-one no_macros place size fs h = from-less place (place + size) fs (omega arith) h

from-all : (info : List ℕ) (place : ℕ) (xs : List (Piece MacroState)) → MacrosPlaced info place xs → FieldsFrom place (macro_starts xs)
from-all info place [] l = tt
from-all info place (x ∷ xs) l =
    subst (λ (i : ℕ). FieldsFrom place (start_by (macro_role x.state) i (length x.cells) ++ macro_starts xs)) (sym l.0)
    (from-one x.state.mode place (length x.cells) (macro_starts xs) (from-all info (place + length x.cells) xs l.2))

-- so do those of texts, and no two fields have a byte in common
texts-from : (table : TextSection) (info : List ℕ) (place : ℕ) (xs : List (Piece MacroState)) → MacrosPlaced info place xs → FieldsFrom place (macro_texts table xs)
texts-from table info place [] l = tt
texts-from table info place (x ∷ xs) l =
    subst (λ (i : ℕ). FieldsFrom place (field_by table (macro_role x.state) i (length x.cells) ++ macro_texts table xs)) (sym l.0)
    (from-piece table (macro_role x.state) place (length x.cells) (macro_texts table xs)
    (from-less place (place + length x.cells) (macro_texts table xs) (omega arith) (texts-from table info (place + length x.cells) xs l.2)))

all-apart : (info : List ℕ) (place : ℕ) (xs : List (Piece MacroState)) → MacrosPlaced info place xs
    → AllApart (macro_texts InStr xs ++ (macro_texts InLineStr xs ++ macro_starts xs))
all-apart info place [] l = tt
all-apart info place (x ∷ xs) l =
    subst (λ (i : ℕ). AllApart ((field_by InStr (macro_role x.state) i (length x.cells) ++ macro_texts InStr xs)
    ++ ((field_by InLineStr (macro_role x.state) i (length x.cells) ++ macro_texts InLineStr xs) ++ (start_by (macro_role x.state) i (length x.cells) ++ macro_starts xs)))) (sym l.0)
    (apart-piece (macro_role x.state) place (length x.cells) (macro_texts InStr xs) (macro_texts InLineStr xs) (macro_starts xs) (texts-from InStr info (place + length x.cells) xs l.2)
    (texts-from InLineStr info (place + length x.cells) xs l.2) (from-all info (place + length x.cells) xs l.2) (all-apart info (place + length x.cells) xs l.2))

-- none is of `.debug_line_str`
no-line-text : (m : MacroMode) (place size : ℕ) → field_by InLineStr (macro_role_by m) place size ≡ []
no-line-text at_unit place size = refl
no-line-text (at_line width) place size = refl
no-line-text (at_operation width) place size = refl
no-line-text (at_offset width (of_text defines line)) place size = refl
no-line-text (at_offset width of_unit) place size = refl
no-line-text no_macros place size = refl

pub line-texts : (xs : List (Piece MacroState)) → macro_texts InLineStr xs ≡ []
line-texts [] = refl
line-texts (x ∷ xs) = ap (λ (fs : List OffsetField). fs ++ macro_texts InLineStr xs) (no-line-text x.state.mode x.state.place (length x.cells)) ∙ line-texts xs

-- a section of macro units that was read
macro-has : (v : View) (z : CellSection) (xs : List (Piece MacroState)) → CellsOf v z.number z.contents → z.number < length v.sections → ReadsMacros v.order z.contents xs
    → HasPlaces v (macros_with z.number (macro_starts xs) (macro_texts InStr xs))
macro-has v z xs c there r =
    let info : List ℕ = section_bytes v z.number in
    let l : MacrosPlaced (section_bytes v z.number) 0 xs =
    macros-placed v.order (section_bytes v z.number) (macros_at 0 at_unit) 0 xs refl r.chain (ap bytes_of r.cells ∙ c.bytes) in
    let fields : EachOf (IsStartField (section_bytes v z.number)) (macro_starts xs) = all-fields v.order (section_bytes v z.number) (macros_at 0 at_unit) 0 xs r.chain l in
    record {
      there = there;
      starts = record { each = λ k d lt. each-get (IsStartField (section_bytes v z.number)) (macro_starts xs) k d lt fields };
      macros = record { each = λ k d lt. absurd (omega (arith, lt)) };
      apart = subst (λ (gs : List OffsetField). AllApart (macro_texts InStr xs ++ (gs ++ macro_starts xs))) (line-texts xs) (all-apart (section_bytes v z.number) 0 xs l);
      rooms = record { each = λ k d lt. absurd (omega (arith, lt)) };
    }

macros-have-by : (v : View) (zs : List CellSection) (rs : List MacroReading) → AllCells v zs → AllBelow (length v.sections) zs → ReadsAllMacros v.order zs rs
    → AllHavePlaces v (macros_read rs)
macros-have-by v [] [] c b r = tt
macros-have-by v [] (x ∷ xs) c b r = absurd r
macros-have-by v (z ∷ zs) [] c b r = absurd r
macros-have-by v (z ∷ zs) (x ∷ xs) c b r = (
  subst (λ (n : ℕ). HasPlaces v (macros_with n (macro_starts x.pieces) (macro_texts InStr x.pieces))) (sym r.0) (macro-has v z x.pieces c.0 b.0 r.1),
  macros-have-by v zs xs c.1 b.1 r.2,
)

pub macros-have : (v : View) (rs : List MacroReading) → AllCells v ((debug_data v).found Macro) → ReadsAllMacros v.order ((debug_data v).found Macro) rs → AllHavePlaces v (macros_read rs)
macros-have v rs c r = macros-have-by v ((debug_data v).found Macro) rs c (numbers-below v) r

-- each text of a unit is there: so their offsets are offsets of texts
text-field : (m : MacroMode) (order : Order) (around : Around) (cells : List Cell) (x : Piece MacroState) (rest : List Cell) (place : ℕ) → FitsMacros m order x.cells → x.state.place ≡ place
    → x.cells ++ rest ≡ drop place cells → NamesTextBy (macro_role_by m) around x.cells
    → EachOf (IsOffsetField around.lasting.base.order (around.stands Str) cells) (field_by InStr (macro_role_by m) x.state.place (length x.cells))
text-field at_unit order around cells x rest place fits at e names = tt
text-field (at_line width) order around cells x rest place fits at e names = tt
text-field (at_operation width) order around cells x rest place fits at e names = tt
text-field (at_offset width (of_text defines line)) order around cells x rest place fits at e names =
    (record { sized = width-sized width (length x.cells) fits; inside = inside; ends = ends }, tt)
  where
    inside : x.state.place + length x.cells ≤ length cells
    inside =
        let whole : length (x.cells ++ rest) ≡ length (drop place cells) = ap (λ (l : List Cell). length l) e in
        let size = length-append x.cells rest in
        let some : 0 < length x.cells = width-some width (length x.cells) fits in
        omega (arith, whole, size, length-drop place cells, at, some)

    ends : ends_in (around.stands Str).bytes (offset_of around.lasting.base.order (around.stands Str) (cells_at cells x.state.place (length x.cells))) ≡ true
    ends =
        let own : cells_at cells x.state.place (length x.cells) ≡ x.cells =
        ap (λ (i : ℕ). cells_at cells i (length x.cells)) at ∙ piece-cells cells x.cells rest place (sym e) in
        ap (λ (p : List Cell). ends_in (around.stands Str).bytes (offset_of around.lasting.base.order (around.stands Str) p)) own ∙ names
text-field (at_offset width of_unit) order around cells x rest place fits at e names = tt
text-field no_macros order around cells x rest place fits at e names = tt

text-fields : (order : Order) (around : Around) (cells : List Cell) (s : MacroState) (xs : List (Piece MacroState)) (place : ℕ) → Chain (macro_grammar order) s xs → s.place ≡ place
    → joined xs ≡ drop place cells → EachPiece (λ x. NamesTextBy (macro_role x.state) around x.cells) xs
    → EachOf (IsOffsetField around.lasting.base.order (around.stands Str) cells) (macro_texts InStr xs)
text-fields order around cells s [] place chain at e names = tt
text-fields order around cells s (x ∷ xs) place chain at e names =
    let here : x.state.place ≡ place = ap (λ (z : MacroState). z.place) chain.0 ∙ at in
    let behind : joined xs ≡ drop (place + length x.cells) cells =
    sym (drop-append_seam x.cells (joined xs)) ∙ ap (drop (length x.cells)) e ∙ drop-drop (length x.cells) place cells in
    each-append (IsOffsetField around.lasting.base.order (around.stands Str) cells) (field_by InStr (macro_role x.state) x.state.place (length x.cells)) (macro_texts InStr xs)
    (text-field x.state.mode order around cells x (joined xs) place chain.1 here e names.0)
    (text-fields order around cells ((macro_grammar order).next x.state x.cells) xs (place + length x.cells) chain.2 (ap (λ (i : ℕ). i + length x.cells) here) behind names.1)

macro-offsets : (v : View) (all : DataReadings) (z : CellSection) (xs : List (Piece MacroState)) → CellsOf v z.number z.contents → z.number < length v.sections → ReadsMacros v.order z.contents xs
    → EachPiece (λ x. NamesTextBy (macro_role x.state) (around_of (debug_data v) all) x.cells) xs → HasOffsets v (macros_with z.number (macro_starts xs) (macro_texts InStr xs))
unfolding debug_data
macro-offsets v all z xs c there r names = record {
  there = there;
  str = offset-fields v.order ((debug_data v).found Str) (view_cells v z.number) (macro_texts InStr xs)
      (text-fields v.order (around_of (debug_data v) all) (view_cells v z.number) (macros_at 0 at_unit) xs 0 r.chain refl (r.cells ∙ c.same) names);
  line_str = record { each = λ k d lt. absurd (omega (arith, lt)) };
}

offsets-have-by : (v : View) (all : DataReadings) (zs : List CellSection) (rs : List MacroReading) → AllCells v zs → AllBelow (length v.sections) zs → ReadsAllMacros v.order zs rs
    → EachMacro (λ x. NamesTextBy (macro_role x.state) (around_of (debug_data v) all) x.cells) rs → AllHaveOffsets v (macros_read rs)
offsets-have-by v all [] [] c b r names = tt
offsets-have-by v all [] (x ∷ xs) c b r names = absurd r
offsets-have-by v all (z ∷ zs) [] c b r names = absurd r
offsets-have-by v all (z ∷ zs) (x ∷ xs) c b r names = (
  subst (λ (n : ℕ). HasOffsets v (macros_with n (macro_starts x.pieces) (macro_texts InStr x.pieces))) (sym r.0) (macro-offsets v all z x.pieces c.0 b.0 r.1 names.0),
  offsets-have-by v all zs xs c.1 b.1 r.2 names.1,
)

pub offsets-have : (v : View) (all : DataReadings) (rs : List MacroReading) → AllCells v ((debug_data v).found Macro) → ReadsAllMacros v.order ((debug_data v).found Macro) rs
    → EachMacro (λ x. NamesTextBy (macro_role x.state) (around_of (debug_data v) all) x.cells) rs → AllHaveOffsets v (macros_read rs)
offsets-have v all rs c r names = offsets-have-by v all ((debug_data v).found Macro) rs c (numbers-below v) r names
