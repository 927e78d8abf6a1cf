-- An offset of a macro unit that names no line table or no unit is a piece of its section that names none: one of the rows of debug data.
use Rattle.std.specs.Bool.{⊤}
use Rattle.std.specs.Prelude.{option_map}
use Rattle.std.proofs.Common.{Bool, true, false, ◌≡◌, ℕ, ◌+◌, ◌≤◌, ◌<◌, List, [], ◌∷◌, ◌++◌, length, take, drop, slice_index, Option, Some, None, refl, sym, ap, ◌∙◌, subst, arith, append_assoc, if◌then◌else◌}
use Rattle.std.proofs.Math.Seq.{take-append_seam}
use Rattle.std.proofs.lemmas.List.{length-drop}
use Rattle.dw_base.specs.Cells.{Cell, CellSection, bytes_of, located_cells, offset_of, Located, field_of, is_placed}
use Rattle.dw_base.specs.DebugData.{DataReadings, ReadsAll, around_of, line_table, macro_places, macro_unit, start_number, unit_named}
use Rattle.dw_base.specs.FileViews.{View, field_at, section_bytes}
use Rattle.dw_base.specs.Forms.{width_size}
use Rattle.dw_base.specs.LineMeanings.{is_there}
use Rattle.dw_base.specs.LineReadings.{LineReading, table_starts}
use Rattle.dw_base.specs.MacroHeaders.{has_flag, width_by, macro_header}
use Rattle.dw_base.specs.MacroOperations.{operation_at}
use Rattle.dw_base.specs.MacroPieces.{OffsetUse, of_text, of_unit, OperationFront, whole, last, before_offset, MacroMode, at_unit, at_line, at_operation, at_offset, MacroState, macros_at, whole_by, front_of, FitsMacros, after_operation, mode_behind, macro_grammar, ReadsMacros}
use Rattle.dw_base.specs.MacroReadings.{MacroReading, ReadsAllMacros}
use Rattle.dw_base.specs.MacroUnits.{offset_at, is_end}
use Rattle.dw_base.specs.Numbers.{spelled}
use Rattle.dw_base.specs.Pieces.{Piece, joined, Chain}
use Rattle.dw_base.specs.Readings.{Readings}
use Rattle.dw_base.specs.Refusals.{at}
use Rattle.dw_base.specs.TableStarts.{HasMacroPiece, MacroStrayFails, no_line, no_import}
use Rattle.dw_base.specs.ViewData.{debug_data, located}
use Rattle.dw_base.specs.declared.debug_sections.DebugSection.TheVariants.{Info, Line, Macro}
use Rattle.dw_base.specs.declared.fault.Kind.TheVariants.{Stray}
use Rattle.dw_base.specs.declared.fault.Refusal.{Refusal}
use Rattle.dw_base.specs.declared.line_tables.TextPlace.{TextPlace}
use Rattle.dw_base.specs.declared.macro_numbers.TheConstants.{OFFSET_SIZE_FLAG, DEBUG_LINE_OFFSET_FLAG}
use Rattle.dw_base.specs.declared.macro_units.MacroEvent.{MacroEvent}
use Rattle.dw_base.specs.declared.macro_units.MacroEvent.TheVariants.{Define, Undef, StartFile, EndFile, Import}
use Rattle.dw_base.specs.declared.macro_units.MacroHeader.{MacroHeader}
use Rattle.dw_base.specs.declared.macro_units.MacroOperation.{MacroOperation}
use Rattle.dw_base.specs.declared.macro_units.MacroOperation.TheVariants.{End, Inline, Named, Enter, Leave, Bring, Foreign}
use Rattle.dw_base.specs.declared.macro_units.MacroUnit.{MacroUnit}
use Rattle.dw_base.specs.declared.shared.Width.{Width}
use Rattle.dw_base.specs.declared.view_fields.Field.{Field}
use Rattle.dw_base.proofs.ContributionBackLaws.{StandsAt, piece-stands, behind-piece, piece-inside}
use Rattle.dw_base.proofs.UnitEditLaws.{length-bytes_of}
use Rattle.dw_macros.specs.MacroEvents.{SpellsEvents, over, one_event, event_by, event_if, event_in, import_at, inline_place, named_place, text_event, unit_events, import_of}
use Rattle.dw_meaning.proofs.LineReadLaws.{if-some, some-same}
use Rattle.dw_meaning.proofs.MacroBackLaws.{byte-at, header-lined, header-plain, spelled-at}
use Rattle.dw_meaning.proofs.MacroPieceLaws.{CellsOf}
use Rattle.dw_meaning.proofs.MacroReadLaws.{WholeAt, front-there, moved_operation, read_as}
use Rattle.dw_meaning.specs.DataFails.{StartsFail, macro_stray}
use Rattle.dw_starts.specs.LineStarts.{TablesStart}
use Rattle.dw_starts.specs.UnitPlaces.{UnitsStart, UnitPlaces, has_unit, names_place}
use Rattle.dw_starts.specs.MacroNames.{EventStrays, LineStrays, MacrosStray, UnitStrays, UnitsStray}
use Rattle.dw_starts.specs.MacroNames.EventStray.{import}
use Rattle.dw_starts.specs.MacroNames.EventStrays.{event}
use Rattle.dw_starts.specs.MacroNames.LineStrays.{line as line_stray}
use Rattle.dw_starts.specs.MacroNames.MacrosStray.{section as section_stray}
use Rattle.dw_starts.specs.MacroNames.UnitStrays.{line as unit_line, events as unit_strays}
use Rattle.dw_starts.specs.MacroNames.UnitsStray.{unit as unit_stray}
use Rattle.dw_starts.specs.MacroSections.{HaveUnits, SectionUnits, UnitsFoundIn}
use Rattle.dw_base.specs.MacroOffsets.{AreReadUnits, IsReadUnit, UnitsReadUpTo, more_unit, no_unit, FieldReads, OperationReads, ReadsFrom}
use Rattle.dw_macros.proofs.CallerLaws.{read-unit, unit-reads}
use Rattle.dw_starts.proofs.MacroAskedLaws.{bring-room, event-ends, event-same, event_read, field-there, header-events, line-room, line-there, lined_header, none-event, plain_header}
use Rattle.dw_starts.proofs.MacroNumberLaws.{AllBelow, AllCells, numbers-below}
use Rattle.dw_starts.proofs.MacroStartLaws.{all-cells}
use Rattle.dw_base.specs.declared.view_fields.Field.TheVariants.{Num, Into, Sym}
use Rattle.dw_starts.proofs.UnitPlaceLaws.{field-unit, first-number}
use Rattle.dw_base.proofs.MacroRowLaws.{macro_header-inside}
use Rattle.dw_macros.proofs.MeaningLaws.{placed-field, reads-at, reads-past}

-- the pieces of a section from a state on
record PiecesFrom (v : View) (section : ℕ) (cells : List Cell) (xs : List (Piece MacroState)) (s : MacroState) : Type 0 where
  front : List (Piece MacroState)
  rest : List (Piece MacroState)
  is : xs ≡ front ++ rest
  chain : Chain (macro_grammar v.order) s rest
  inside : s.place ≤ length cells
  stands : drop s.place cells ≡ joined rest

-- the next of them
record NextPiece (v : View) (section : ℕ) (cells : List Cell) (xs : List (Piece MacroState)) (s : MacroState) : Type 0 where
  piece : Piece MacroState
  front : List (Piece MacroState)
  rest : List (Piece MacroState)
  is : xs ≡ front ++ piece ∷ rest
  state : piece.state ≡ s
  fits : FitsMacros s.mode v.order piece.cells
  stands : StandsAt (section_bytes v section) (bytes_of piece.cells) s.place
  cells_are : piece.cells ≡ take (length piece.cells) (drop s.place cells)
  behind : PiecesFrom v section cells xs (macros_at (s.place + length piece.cells) (mode_behind s.mode (bytes_of piece.cells)))

next-by : (v : View) (section : ℕ) (cells : List Cell) (xs : List (Piece MacroState)) (s : MacroState) (front rest : List (Piece MacroState)) → CellsOf v section cells → xs ≡ front ++ rest
    → Chain (macro_grammar v.order) s rest → s.place ≤ length cells → drop s.place cells ≡ joined rest → (s.mode ≡ at_unit → s.place < length cells) → NextPiece v section cells xs s
next-by v section cells xs s front [] c is chain inside stands some =
    let less = some chain in
    let size : length (drop s.place cells) ≡ 0 = ap length stands in
    absurd (omega (arith, less, size, length-drop s.place cells))
next-by v section cells xs s front (x ∷ rest) c is chain inside stands some = record {
  piece = x;
  front = front;
  rest = rest;
  is = is;
  state = chain.0;
  fits = subst (λ (z : MacroState). FitsMacros z.mode v.order x.cells) chain.0 chain.1;
  stands = subst (λ (bs : List ℕ). StandsAt bs (bytes_of x.cells) s.place) c.bytes (piece-stands cells x.cells (joined rest) s.place inside stands);
  cells_are = sym (ap (take (length x.cells)) stands ∙ take-append_seam x.cells (joined rest));
  behind = record {
    front = front ++ x ∷ [];
    rest = rest;
    is = is ∙ sym (append_assoc front (x ∷ []) rest);
    chain = subst (λ (z : MacroState). Chain (macro_grammar v.order) (macros_at (z.place + length x.cells) (mode_behind z.mode (bytes_of x.cells))) rest) chain.0 chain.2;
    inside = piece-inside cells x.cells (joined rest) s.place inside stands;
    stands = behind-piece cells x.cells (joined rest) s.place stands;
  };
}

next-of : (v : View) (section : ℕ) (cells : List Cell) (xs : List (Piece MacroState)) (s : MacroState) → CellsOf v section cells → PiecesFrom v section cells xs s
    → (s.mode ≡ at_unit → s.place < length cells) → NextPiece v section cells xs s
next-of v section cells xs s c f some = next-by v section cells xs s f.front f.rest c f.is f.chain f.inside f.stands some

-- an offset among them
record OffsetIn (cells : List Cell) (xs : List (Piece MacroState)) (mode : MacroMode) (width : Width) (field : ℕ) : Type 0 where
  piece : Piece MacroState
  front : List (Piece MacroState)
  rest : List (Piece MacroState)
  is : xs ≡ front ++ piece ∷ rest
  state : piece.state ≡ macros_at field mode
  cells_are : piece.cells ≡ take (width_size width) (drop field cells)

offset-in : (v : View) (section : ℕ) (cells : List Cell) (xs : List (Piece MacroState)) (mode : MacroMode) (width : Width) (place field : ℕ)
    → (n : NextPiece v section cells xs (macros_at place mode)) → length n.piece.cells ≡ width_size width → place ≡ field → OffsetIn cells xs mode width field
offset-in v section cells xs mode width place field n size same = record {
  piece = n.piece;
  front = n.front;
  rest = n.rest;
  is = n.is;
  state = n.state ∙ ap (λ (k : ℕ). macros_at k mode) same;
  cells_are = n.cells_are ∙ ap (λ (k : ℕ). take k (drop place cells)) size ∙ ap (λ (k : ℕ). take (width_size width) (drop k cells)) same;
}

-- what the offset of an operation makes it
abbrev offset_operation : OffsetUse → ℕ → MacroOperation
offset_operation (of_text defines line) field = Named defines line field
offset_operation of_unit field = Bring field

-- an offset and what stands in front of it
record TwoPieces (v : View) (section : ℕ) (cells : List Cell) (xs : List (Piece MacroState)) (width : Width) (names : OffsetUse) (place : ℕ) : Type 0 where
  field : ℕ
  second : NextPiece v section cells xs (macros_at field (at_offset width names))
  size : length second.piece.cells ≡ width_size width
  is : operation_at (section_bytes v section) width place ≡ read_as (offset_operation names field) (field + width_size width)

behind-front : (v : View) (section : ℕ) (cells : List Cell) (xs : List (Piece MacroState)) (width : Width) (place : ℕ) (kind : OperationFront)
    → (n : NextPiece v section cells xs (macros_at place (at_operation width))) → front_of (bytes_of n.piece.cells) ≡ Some kind
    → PiecesFrom v section cells xs (macros_at (place + length n.piece.cells) (after_operation width (Some kind)))
behind-front v section cells xs width place kind n e =
    subst (λ (f : Option OperationFront). PiecesFrom v section cells xs (macros_at (place + length n.piece.cells) (after_operation width f))) e n.behind

use-there : (v : View) (section : ℕ) (p : List Cell) (width : Width) (names : OffsetUse) (place : ℕ) → StandsAt (section_bytes v section) (bytes_of p) place
    → place + length p + width_size width ≤ length (section_bytes v section) → front_of (bytes_of p) ≡ Some (before_offset names)
    → operation_at (section_bytes v section) width place ≡ read_as (offset_operation names (place + length p)) (place + length p + width_size width)
use-there v section p width (of_text defines line) place stands room e =
    let bytes = length-bytes_of p in
    let end : place + length (bytes_of p) ≡ place + length p = ap (λ (n : ℕ). place + n) (length-bytes_of p) in
    let there : operation_at (section_bytes v section) width place ≡ read_as (Named defines line (place + length (bytes_of p))) (place + length (bytes_of p) + width_size width) =
    front-there (section_bytes v section) (bytes_of p) width place (before_offset (of_text defines line)) stands (record { room = omega (arith, room, bytes) }) e in
    there ∙ ap (λ (n : ℕ). read_as (Named defines line n) (n + width_size width)) end
use-there v section p width of_unit place stands room e =
    let bytes = length-bytes_of p in
    let end : place + length (bytes_of p) ≡ place + length p = ap (λ (n : ℕ). place + n) (length-bytes_of p) in
    let there : operation_at (section_bytes v section) width place ≡ read_as (Bring (place + length (bytes_of p))) (place + length (bytes_of p) + width_size width) =
    front-there (section_bytes v section) (bytes_of p) width place (before_offset of_unit) stands (record { room = omega (arith, room, bytes) }) e in
    there ∙ ap (λ (n : ℕ). read_as (Bring n) (n + width_size width)) end

two-of : (v : View) (section : ℕ) (cells : List Cell) (xs : List (Piece MacroState)) (width : Width) (names : OffsetUse) (place : ℕ) → CellsOf v section cells
    → (n : NextPiece v section cells xs (macros_at place (at_operation width))) → front_of (bytes_of n.piece.cells) ≡ Some (before_offset names)
    → TwoPieces v section cells xs width names place
two-of v section cells xs width names place c n e =
    let second : NextPiece v section cells xs (macros_at (place + length n.piece.cells) (at_offset width names)) =
    next-of v section cells xs (macros_at (place + length n.piece.cells) (at_offset width names)) c
    (behind-front v section cells xs width place (before_offset names) n e) (λ (g : at_offset width names ≡ at_unit). absurd cc) in
    let within = second.stands.inside in
    let bytes = length-bytes_of second.piece.cells in
    let size : length second.piece.cells ≡ width_size width = second.fits in
    record {
      field = place + length n.piece.cells;
      second = second;
      size = size;
      is = use-there v section n.piece.cells width names place n.stands (omega (arith, within, bytes, size)) e;
    }

-- of two readings of an operation each is the other
same-read : (a b : MacroOperation) (n m : ℕ) (x : Option (MacroOperation × ℕ)) → x ≡ read_as a n → x ≡ read_as b m → (a ≡ b) × (n ≡ m)
same-read a b n m x e f =
    let both = some-same (a, n) (b, m) (sym e ∙ f) in
    (ap (λ (y : MacroOperation × ℕ). y.0) both, ap (λ (y : MacroOperation × ℕ). y.1) both)

last-ends : (place : ℕ) (o : MacroOperation) → whole_by o ≡ Some last → is_end (moved_operation place o) ≡ true
last-ends place End k = refl
last-ends place (Inline d l a m) k = absurd cc
last-ends place (Named d l a) k = absurd cc
last-ends place (Enter l a) k = absurd cc
last-ends place Leave k = absurd cc
last-ends place (Bring a) k = absurd cc
last-ends place Foreign k = absurd cc

whole-more : (place : ℕ) (o : MacroOperation) → whole_by o ≡ Some whole → is_end (moved_operation place o) ≡ false
whole-more place End k = absurd cc
whole-more place (Inline d l a m) k = refl
whole-more place (Named d l a) k = absurd cc
whole-more place (Enter l a) k = refl
whole-more place Leave k = refl
whole-more place (Bring a) k = absurd cc
whole-more place Foreign k = absurd cc

use-more : (names : OffsetUse) (field : ℕ) → is_end (offset_operation names field) ≡ false
use-more (of_text defines line) field = refl
use-more of_unit field = refl

not-both : (b : Bool) → b ≡ true → b ≡ false → ⊥
not-both b e f =
    let same : true ≡ false = sym e ∙ f in
    absurd cc

at-place : (v : View) (section : ℕ) (cells : List Cell) (xs : List (Piece MacroState)) (mode : MacroMode) (place size next : ℕ) → place + size ≡ next
    → PiecesFrom v section cells xs (macros_at (place + size) mode) → PiecesFrom v section cells xs (macros_at next mode)
at-place v section cells xs mode place size next same f = subst (λ (k : ℕ). PiecesFrom v section cells xs (macros_at k mode)) same f

-- the pieces behind an operation that doesn't end its unit
more-by : (v : View) (section : ℕ) (cells : List Cell) (xs : List (Piece MacroState)) (width : Width) (place next : ℕ) (o : MacroOperation) (kind : OperationFront) → CellsOf v section cells
    → (n : NextPiece v section cells xs (macros_at place (at_operation width))) → front_of (bytes_of n.piece.cells) ≡ Some kind
    → operation_at (section_bytes v section) width place ≡ read_as o next → is_end o ≡ false → PiecesFrom v section cells xs (macros_at next (at_operation width))
more-by v section cells xs width place next o whole c n e is more =
    let w : WholeAt whole (section_bytes v section) (bytes_of n.piece.cells) width place = front-there (section_bytes v section) (bytes_of n.piece.cells) width place whole n.stands tt e in
    let same = same-read (moved_operation place w.operation) o (place + length (bytes_of n.piece.cells)) next (operation_at (section_bytes v section) width place) w.is is in
    at-place v section cells xs (at_operation width) place (length n.piece.cells) next (ap (λ (k : ℕ). place + k) (sym (length-bytes_of n.piece.cells)) ∙ same.1)
    (behind-front v section cells xs width place whole n e)
more-by v section cells xs width place next o last c n e is more =
    let w : WholeAt last (section_bytes v section) (bytes_of n.piece.cells) width place = front-there (section_bytes v section) (bytes_of n.piece.cells) width place last n.stands tt e in
    let same = same-read (moved_operation place w.operation) o (place + length (bytes_of n.piece.cells)) next (operation_at (section_bytes v section) width place) w.is is in
    absurd (not-both (is_end o) (sym (ap is_end same.0) ∙ last-ends place w.operation w.kind) more)
more-by v section cells xs width place next o (before_offset names) c n e is more =
    let t : TwoPieces v section cells xs width names place = two-of v section cells xs width names place c n e in
    let same = same-read (offset_operation names t.field) o (t.field + width_size width) next (operation_at (section_bytes v section) width place) t.is is in
    at-place v section cells xs (at_operation width) t.field (length t.second.piece.cells) next (ap (λ (k : ℕ). t.field + k) t.size ∙ same.1) t.second.behind

pieces-more : (v : View) (section : ℕ) (cells : List Cell) (xs : List (Piece MacroState)) (width : Width) (place next : ℕ) (o : MacroOperation) → CellsOf v section cells
    → PiecesFrom v section cells xs (macros_at place (at_operation width)) → operation_at (section_bytes v section) width place ≡ read_as o next → is_end o ≡ false
    → PiecesFrom v section cells xs (macros_at next (at_operation width))
pieces-more v section cells xs width place next o c f is more =
    let n : NextPiece v section cells xs (macros_at place (at_operation width)) =
    next-of v section cells xs (macros_at place (at_operation width)) c f (λ (g : at_operation width ≡ at_unit). absurd cc) in
    more-by v section cells xs width place next o n.fits.front c n n.fits.is is more

-- and behind one that does
ended-by : (v : View) (section : ℕ) (cells : List Cell) (xs : List (Piece MacroState)) (width : Width) (place next : ℕ) (kind : OperationFront) → CellsOf v section cells
    → (n : NextPiece v section cells xs (macros_at place (at_operation width))) → front_of (bytes_of n.piece.cells) ≡ Some kind
    → operation_at (section_bytes v section) width place ≡ read_as End next → PiecesFrom v section cells xs (macros_at next at_unit)
ended-by v section cells xs width place next whole c n e is =
    let w : WholeAt whole (section_bytes v section) (bytes_of n.piece.cells) width place = front-there (section_bytes v section) (bytes_of n.piece.cells) width place whole n.stands tt e in
    let same = same-read (moved_operation place w.operation) End (place + length (bytes_of n.piece.cells)) next (operation_at (section_bytes v section) width place) w.is is in
    absurd (not-both (is_end (moved_operation place w.operation)) (ap is_end same.0) (whole-more place w.operation w.kind))
ended-by v section cells xs width place next last c n e is =
    let w : WholeAt last (section_bytes v section) (bytes_of n.piece.cells) width place = front-there (section_bytes v section) (bytes_of n.piece.cells) width place last n.stands tt e in
    let same = same-read (moved_operation place w.operation) End (place + length (bytes_of n.piece.cells)) next (operation_at (section_bytes v section) width place) w.is is in
    at-place v section cells xs at_unit place (length n.piece.cells) next (ap (λ (k : ℕ). place + k) (sym (length-bytes_of n.piece.cells)) ∙ same.1)
    (behind-front v section cells xs width place last n e)
ended-by v section cells xs width place next (before_offset names) c n e is =
    let t : TwoPieces v section cells xs width names place = two-of v section cells xs width names place c n e in
    let same = same-read (offset_operation names t.field) End (t.field + width_size width) next (operation_at (section_bytes v section) width place) t.is is in
    absurd (not-both (is_end (offset_operation names t.field)) (ap is_end same.0) (use-more names t.field))

pieces-ended : (v : View) (section : ℕ) (cells : List Cell) (xs : List (Piece MacroState)) (width : Width) (place next : ℕ) → CellsOf v section cells
    → PiecesFrom v section cells xs (macros_at place (at_operation width)) → operation_at (section_bytes v section) width place ≡ read_as End next
    → PiecesFrom v section cells xs (macros_at next at_unit)
pieces-ended v section cells xs width place next c f is =
    let n : NextPiece v section cells xs (macros_at place (at_operation width)) =
    next-of v section cells xs (macros_at place (at_operation width)) c f (λ (g : at_operation width ≡ at_unit). absurd cc) in
    ended-by v section cells xs width place next n.fits.front c n n.fits.is is

-- the offset of one that brings a unit
whole-not : (f : OperationFront) (place field : ℕ) (o : MacroOperation) → whole_by o ≡ Some f → moved_operation place o ≡ Bring field → ⊥
whole-not f place field End k e = cc
whole-not f place field (Inline d l a m) k e = cc
whole-not f place field (Named d l a) k e = cc
whole-not f place field (Enter l a) k e = cc
whole-not f place field Leave k e = cc
whole-not f place field (Bring a) k e = cc
whole-not f place field Foreign k e = cc

bring-by : (v : View) (section : ℕ) (cells : List Cell) (xs : List (Piece MacroState)) (width : Width) (place next field : ℕ) (kind : OperationFront) → CellsOf v section cells
    → (n : NextPiece v section cells xs (macros_at place (at_operation width))) → front_of (bytes_of n.piece.cells) ≡ Some kind
    → operation_at (section_bytes v section) width place ≡ read_as (Bring field) next → OffsetIn cells xs (at_offset width of_unit) width field
bring-by v section cells xs width place next field whole c n e is =
    let w : WholeAt whole (section_bytes v section) (bytes_of n.piece.cells) width place = front-there (section_bytes v section) (bytes_of n.piece.cells) width place whole n.stands tt e in
    let same = same-read (moved_operation place w.operation) (Bring field) (place + length (bytes_of n.piece.cells)) next (operation_at (section_bytes v section) width place) w.is is in
    absurd (whole-not whole place field w.operation w.kind same.0)
bring-by v section cells xs width place next field last c n e is =
    let w : WholeAt last (section_bytes v section) (bytes_of n.piece.cells) width place = front-there (section_bytes v section) (bytes_of n.piece.cells) width place last n.stands tt e in
    let same = same-read (moved_operation place w.operation) (Bring field) (place + length (bytes_of n.piece.cells)) next (operation_at (section_bytes v section) width place) w.is is in
    absurd (whole-not last place field w.operation w.kind same.0)
bring-by v section cells xs width place next field (before_offset (of_text defines line)) c n e is =
    let t : TwoPieces v section cells xs width (of_text defines line) place = two-of v section cells xs width (of_text defines line) place c n e in
    let same = same-read (Named defines line t.field) (Bring field) (t.field + width_size width) next (operation_at (section_bytes v section) width place) t.is is in
    absurd (clash defines line t.field same.0)
  where
    clash : (d : Bool) (l f : ℕ) → Named d l f ≡ Bring field → ⊥
    clash d l f e = cc
bring-by v section cells xs width place next field (before_offset of_unit) c n e is =
    let t : TwoPieces v section cells xs width of_unit place = two-of v section cells xs width of_unit place c n e in
    let same = same-read (Bring t.field) (Bring field) (t.field + width_size width) next (operation_at (section_bytes v section) width place) t.is is in
    offset-in v section cells xs (at_offset width of_unit) width t.field field t.second t.size (field-same t.field same.0)
  where
    field-same : (f : ℕ) → Bring f ≡ Bring field → f ≡ field
    field-same f e = cc

bring-piece : (v : View) (section : ℕ) (cells : List Cell) (xs : List (Piece MacroState)) (width : Width) (place next field : ℕ) → CellsOf v section cells
    → PiecesFrom v section cells xs (macros_at place (at_operation width)) → operation_at (section_bytes v section) width place ≡ read_as (Bring field) next
    → OffsetIn cells xs (at_offset width of_unit) width field
bring-piece v section cells xs width place next field c f is =
    let n : NextPiece v section cells xs (macros_at place (at_operation width)) =
    next-of v section cells xs (macros_at place (at_operation width)) c f (λ (g : at_operation width ≡ at_unit). absurd cc) in
    bring-by v section cells xs width place next field n.fits.front c n n.fits.is is

-- the pieces behind a header, and the offset of its line table
record HeaderPieces (v : View) (section : ℕ) (cells : List Cell) (xs : List (Piece MacroState)) (h : MacroHeader) : Type 0 where
  behind : PiecesFrom v section cells xs (macros_at h.first (at_operation h.width))
  line : h.has_line ≡ true → OffsetIn cells xs (at_line h.width) h.width h.line_field

header-pieces : (v : View) (section : ℕ) (cells : List Cell) (xs : List (Piece MacroState)) (start : ℕ) (h : MacroHeader) → CellsOf v section cells
    → PiecesFrom v section cells xs (macros_at start at_unit) → macro_header v.order (section_bytes v section) start ≡ Some h → HeaderPieces v section cells xs h
header-pieces v section cells xs start h c f e =
    by_line (has_flag (slice_index (bytes_of n.piece.cells) 2) DEBUG_LINE_OFFSET_FLAG) refl n.behind
  where
    inside : start < length cells
    inside =
        let room = macro_header-inside v.order (section_bytes v section) start h e in
        let same : length (bytes_of cells) ≡ length (section_bytes v section) = ap length c.bytes in
        omega (arith, room, same, length-bytes_of cells)

    n : NextPiece v section cells xs (macros_at start at_unit)
    n = next-of v section cells xs (macros_at start at_unit) c f (λ (g : at_unit ≡ at_unit). inside)

    size : length (bytes_of n.piece.cells) ≡ 3
    size = length-bytes_of n.piece.cells ∙ n.fits.size

    version : spelled v.order (section_bytes v section) start 2 ≡ spelled v.order (bytes_of n.piece.cells) 0 2
    version = spelled-at v.order (section_bytes v section) (bytes_of n.piece.cells) start 2 n.stands (omega (arith, size))

    flags : slice_index (section_bytes v section) (start + 2) ≡ slice_index (bytes_of n.piece.cells) 2
    flags = byte-at (section_bytes v section) (bytes_of n.piece.cells) start 2 n.stands (omega (arith, size))

    plain-line : (m p : ℕ) (w : Width) → plain_header m w p ≡ h → h.has_line ≡ true → ⊥
    plain-line m p w same has =
        let none : false ≡ true = ap (λ (x : MacroHeader). x.has_line) same ∙ has in
        absurd cc

    lined : (m place : ℕ) (w : Width) → lined_header m w place ≡ h → (o : NextPiece v section cells xs (macros_at place (at_line w))) → HeaderPieces v section cells xs h
    lined m place w same o = subst (HeaderPieces v section cells xs) same (record {
      behind = subst (λ (k : ℕ). PiecesFrom v section cells xs (macros_at (place + k) (at_operation w))) o.fits o.behind;
      line = λ (has : true ≡ true). offset-in v section cells xs (at_line w) w place place o o.fits refl;
    })

    by_line : (b : Bool) → has_flag (slice_index (bytes_of n.piece.cells) 2) DEBUG_LINE_OFFSET_FLAG ≡ b
        → PiecesFrom v section cells xs (macros_at (start + length n.piece.cells)
        (if b then at_line (width_by (has_flag (slice_index (bytes_of n.piece.cells) 2) OFFSET_SIZE_FLAG)) else at_operation (width_by (has_flag (slice_index (bytes_of n.piece.cells) 2) OFFSET_SIZE_FLAG))))
        → HeaderPieces v section cells xs h
    by_line true has k =
        let w : Width = width_by (has_flag (slice_index (bytes_of n.piece.cells) 2) OFFSET_SIZE_FLAG) in
        let at_three : PiecesFrom v section cells xs (macros_at (start + 3) (at_line (width_by (has_flag (slice_index (bytes_of n.piece.cells) 2) OFFSET_SIZE_FLAG)))) =
        subst (λ (i : ℕ). PiecesFrom v section cells xs (macros_at (start + i) (at_line (width_by (has_flag (slice_index (bytes_of n.piece.cells) 2) OFFSET_SIZE_FLAG))))) n.fits.size k in
        let o : NextPiece v section cells xs (macros_at (start + 3) (at_line (width_by (has_flag (slice_index (bytes_of n.piece.cells) 2) OFFSET_SIZE_FLAG)))) =
        next-of v section cells xs (macros_at (start + 3) (at_line (width_by (has_flag (slice_index (bytes_of n.piece.cells) 2) OFFSET_SIZE_FLAG)))) c at_three
        (λ (g : at_line (width_by (has_flag (slice_index (bytes_of n.piece.cells) 2) OFFSET_SIZE_FLAG)) ≡ at_unit). absurd cc) in
        let within = o.stands.inside in
        let bytes = length-bytes_of o.piece.cells in
        let wide : length o.piece.cells ≡ width_size (width_by (has_flag (slice_index (bytes_of n.piece.cells) 2) OFFSET_SIZE_FLAG)) = o.fits in
        lined (spelled v.order (bytes_of n.piece.cells) 0 2) (start + 3) (width_by (has_flag (slice_index (bytes_of n.piece.cells) 2) OFFSET_SIZE_FLAG))
        (some-same (lined_header (spelled v.order (bytes_of n.piece.cells) 0 2) (width_by (has_flag (slice_index (bytes_of n.piece.cells) 2) OFFSET_SIZE_FLAG)) (start + 3)) h
        (sym (header-lined v section start (spelled v.order (bytes_of n.piece.cells) 0 2) (slice_index (bytes_of n.piece.cells) 2) version flags n.fits.version n.fits.operands has
        (omega (arith, within, bytes, wide))) ∙ e)) o
    by_line false has k =
        let same : plain_header (spelled v.order (bytes_of n.piece.cells) 0 2) (width_by (has_flag (slice_index (bytes_of n.piece.cells) 2) OFFSET_SIZE_FLAG)) (start + 3) ≡ h =
        some-same (plain_header (spelled v.order (bytes_of n.piece.cells) 0 2) (width_by (has_flag (slice_index (bytes_of n.piece.cells) 2) OFFSET_SIZE_FLAG)) (start + 3)) h
        (sym (header-plain v section start (spelled v.order (bytes_of n.piece.cells) 0 2) (slice_index (bytes_of n.piece.cells) 2) (macro_header-inside v.order (section_bytes v section) start h e) version flags n.fits.version
        n.fits.operands has) ∙ e) in
        let behind : PiecesFrom v section cells xs (macros_at (start + 3) (at_operation (width_by (has_flag (slice_index (bytes_of n.piece.cells) 2) OFFSET_SIZE_FLAG)))) =
        subst (λ (i : ℕ). PiecesFrom v section cells xs (macros_at (start + i) (at_operation (width_by (has_flag (slice_index (bytes_of n.piece.cells) 2) OFFSET_SIZE_FLAG))))) n.fits.size k in
        record {
          behind = subst (λ (x : MacroHeader). PiecesFrom v section cells xs (macros_at x.first (at_operation x.width))) same behind;
          line = λ (is : h.has_line ≡ true).
              absurd (plain-line (spelled v.order (bytes_of n.piece.cells) 0 2) (start + 3) (width_by (has_flag (slice_index (bytes_of n.piece.cells) 2) OFFSET_SIZE_FLAG)) same is);
        }

-- an event that was read is an operation
record EventOf (v : View) (section : ℕ) (width : Width) (place next : ℕ) (e : MacroEvent) : Type 0 where
  operation : MacroOperation
  is : operation_at (section_bytes v section) width place ≡ read_as operation next
  says : event_by v section width operation next ≡ event_read e next
  more : is_end operation ≡ false

event-more : (v : View) (section : ℕ) (width : Width) (o : MacroOperation) (n m : ℕ) (e : MacroEvent) → event_by v section width o n ≡ event_read e m → is_end o ≡ false
unfolding event_by
event-more v section width End n m e h = absurd (none-event e m h)
event-more v section width (Inline d l a k) n m e h = refl
event-more v section width (Named d l f) n m e h = refl
event-more v section width (Enter l f) n m e h = refl
event-more v section width Leave n m e h = refl
event-more v section width (Bring f) n m e h = refl
event-more v section width Foreign n m e h = refl

event-of : (v : View) (section : ℕ) (width : Width) (place next : ℕ) (e : MacroEvent) → event_in v section width place ≡ event_read e next → EventOf v section width place next e
unfolding event_in
event-of v section width place next e h = by_read (operation_at (section_bytes v section) width place) refl h
  where
    by_read : (x : Option (MacroOperation × ℕ)) → operation_at (section_bytes v section) width place ≡ x → event_if v section width x ≡ event_read e next → EventOf v section width place next e
    by_read None is g = absurd (none-event e next g)
    by_read (Some o) is g =
        let end : o.1 ≡ next = event-ends v section width o.0 o.1 next e g in
        record {
          operation = o.0;
          is = is ∙ ap (read_as o.0) end;
          says = ap (event_by v section width o.0) (sym end) ∙ g;
          more = event-more v section width o.0 o.1 next e g;
        }

-- the pieces behind the events of a unit
pieces-behind : (v : View) (section : ℕ) (cells : List Cell) (xs : List (Piece MacroState)) (width : Width) (place end : ℕ) (es : List MacroEvent) → CellsOf v section cells
    → PiecesFrom v section cells xs (macros_at place (at_operation width)) → SpellsEvents v section width place es end → PiecesFrom v section cells xs (macros_at end at_unit)
pieces-behind v section cells xs width place end es c f (over p q is) = pieces-ended v section cells xs width p q c f is
pieces-behind v section cells xs width place end es c f (one_event p next q e rest is s) =
    let o : EventOf v section width p next e = event-of v section width p next e is in
    pieces-behind v section cells xs width next q rest c (pieces-more v section cells xs width p next o.operation c f o.is o.more) s

-- the events of a unit that was read
own-events : (v : View) (section start : ℕ) (u : MacroUnit) → section < length v.sections → (is : IsReadUnit v section start u)
    → SpellsEvents v section is.header.width is.header.first (unit_events v u) u.end
own-events v section start u there is = header-events v section start u is.header is.end (read-unit v section start u there is) is.is

unit-pieces : (v : View) (section : ℕ) (cells : List Cell) (xs : List (Piece MacroState)) (start : ℕ) (u : MacroUnit) → CellsOf v section cells → section < length v.sections
    → IsReadUnit v section start u → PiecesFrom v section cells xs (macros_at start at_unit) → PiecesFrom v section cells xs (macros_at u.end at_unit)
unit-pieces v section cells xs start u c there is f =
    pieces-behind v section cells xs is.header.width is.header.first u.end (unit_events v u) c (header-pieces v section cells xs start is.header c f is.header_is).behind
    (own-events v section start u there is)

units-pieces : (v : View) (section : ℕ) (cells : List Cell) (xs : List (Piece MacroState)) (place : ℕ) (us : List MacroUnit) → CellsOf v section cells → section < length v.sections
    → PiecesFrom v section cells xs (macros_at 0 at_unit) → UnitsReadUpTo v section us place → PiecesFrom v section cells xs (macros_at place at_unit)
units-pieces v section cells xs place us c there f no_unit = f
units-pieces v section cells xs place us c there f (more_unit list u start before is) =
    unit-pieces v section cells xs start u c there is (units-pieces v section cells xs start list c there f before)

-- each unit of a section that was read, with those before it
record UnitAt (v : View) (section : ℕ) (u : MacroUnit) : Type 0 where
  start : ℕ
  list : List MacroUnit
  before : UnitsReadUpTo v section list start
  is : IsReadUnit v section start u

abbrev UnitsAt : View → ℕ → List MacroUnit → Type 0
UnitsAt v section [] = ⊤
UnitsAt v section (u ∷ us) = UnitAt v section u × UnitsAt v section us

units-append : (v : View) (section : ℕ) (us : List MacroUnit) (u : MacroUnit) → UnitsAt v section us → UnitAt v section u → UnitsAt v section (us ++ u ∷ [])
units-append v section [] u h k = (k, tt)
units-append v section (x ∷ xs) u h k = (h.0, units-append v section xs u h.1 k)

units-at : (v : View) (section place : ℕ) (us : List MacroUnit) → UnitsReadUpTo v section us place → UnitsAt v section us
units-at v section place us no_unit = tt
units-at v section place us (more_unit list u start before is) =
    units-append v section list u (units-at v section start list before) (record { start = start; list = list; before = before; is = is })

unit-among : (v : View) (section : ℕ) (before behind : List MacroUnit) (u : MacroUnit) → UnitsAt v section (before ++ u ∷ behind) → UnitAt v section u
unit-among v section [] behind u h = h.0
unit-among v section (x ∷ xs) behind u h = unit-among v section xs behind u h.1

-- an import among the events
record ImportIn (v : View) (section : ℕ) (cells : List Cell) (xs : List (Piece MacroState)) (width : Width) (in_section n field : ℕ) : Type 0 where
  offset : OffsetIn cells xs (at_offset width of_unit) width field
  room : field + width_size width ≤ length (section_bytes v section)
  says : import_of (located v Macro) field (field_at v section field (width_size width)) ≡ Import in_section n field
  placed : is_placed (field_at v section field (width_size width)) ≡ true

abbrev imported : ℕ → ℕ → ℕ → MacroEvent
imported section n field = Import section n field

text-not : (d : Bool) (l n m section number field : ℕ) (t : TextPlace) → event_read (text_event d l t) n ≡ event_read (imported section number field) m → ⊥
text-not true l n m section number field t h = clash l section number field t (event-same (Define l t) (Import section number field) n m h).0
  where
    clash : (l section number field : ℕ) (t : TextPlace) → Define l t ≡ Import section number field → ⊥
    clash l section number field t e = cc
text-not false l n m section number field t h = clash l section number field t (event-same (Undef l t) (Import section number field) n m h).0
  where
    clash : (l section number field : ℕ) (t : TextPlace) → Undef l t ≡ Import section number field → ⊥
    clash l section number field t e = cc

abbrev text_pair : Bool → ℕ → ℕ → TextPlace → MacroEvent × ℕ
text_pair d l n t = (text_event d l t, n)

named-not : (d : Bool) (l n m section number field : ℕ) (x : Option TextPlace) → option_map (text_pair d l n) x ≡ event_read (imported section number field) m → ⊥
named-not d l n m section number field None h = none-event (Import section number field) m h
named-not d l n m section number field (Some t) h = text-not d l n m section number field t h

import-same : (a b n m f g : ℕ) → imported a n f ≡ imported b m g → (a ≡ b) × (n ≡ m) × (f ≡ g)
import-same a b n m f g e = (section, number, field)
  where
    section : a ≡ b
    section = cc

    number : n ≡ m
    number = cc

    field : f ≡ g
    field = cc

-- its field, and that it names no unit where none starts
import-field : (z : Located) (at in_section n field : ℕ) (f : Field) → import_of z at f ≡ imported in_section n field → at ≡ field
import-field z at in_section n field (Num m) e = (import-same z.number in_section m n at field e).2
import-field z at in_section n field (Into s m) e = (import-same s in_section m n at field e).2
import-field z at in_section n field (Sym s k a) e = (import-same z.number in_section (length z.bytes) n at field e).2

import-none : (places : UnitPlaces) (z : Located) (field in_section n : ℕ) (f : Field) → places.first ≡ z.number → import_of z field f ≡ imported in_section n field
    → has_unit places in_section n ≡ false → names_place places f ≡ false
import-none places z field in_section n (Num m) first e none =
    let same = import-same z.number in_section m n field field e in
    ap (λ (k : ℕ). has_unit places k m) (first ∙ same.0) ∙ ap (has_unit places in_section) same.1 ∙ none
import-none places z field in_section n (Into s m) first e none =
    let same = import-same s in_section m n field field e in
    ap (λ (k : ℕ). has_unit places k m) same.0 ∙ ap (has_unit places in_section) same.1 ∙ none
import-none places z field in_section n (Sym s k a) first e none = refl

import-by : (v : View) (section : ℕ) (cells : List Cell) (xs : List (Piece MacroState)) (width : Width) (place next in_section n field : ℕ) (o : MacroOperation) → CellsOf v section cells
    → PiecesFrom v section cells xs (macros_at place (at_operation width)) → operation_at (section_bytes v section) width place ≡ read_as o next
    → OperationReads v section width o → event_by v section width o next ≡ event_read (imported in_section n field) next → ImportIn v section cells xs width in_section n field
unfolding event_by import_at
import-by v section cells xs width place next in_section n field End c f is reads h = absurd (none-event (Import in_section n field) next h)
import-by v section cells xs width place next in_section n field (Inline d l a k) c f is reads h =
    absurd (text-not d l next next in_section n field (inline_place section a k) h)
import-by v section cells xs width place next in_section n field (Named d l a) c f is reads h =
    absurd (named-not d l next next in_section n field (named_place v section width a) h)
import-by v section cells xs width place next in_section n field (Enter l a) c f is reads h =
    absurd (clash l a in_section n field (event-same (StartFile l a) (Import in_section n field) next next h).0)
  where
    clash : (l a s n f : ℕ) → StartFile l a ≡ Import s n f → ⊥
    clash l a s n f e = cc
import-by v section cells xs width place next in_section n field Leave c f is reads h =
    absurd (clash in_section n field (event-same EndFile (Import in_section n field) next next h).0)
  where
    clash : (s n f : ℕ) → EndFile ≡ Import s n f → ⊥
    clash s n f e = cc
import-by v section cells xs width place next in_section n field (Bring a) c f is reads h =
    let brings = (event-same (import_at v section width a) (Import in_section n field) next next h).0 in
    let own : a ≡ field = import-field (located v Macro) a in_section n field (field_at v section a (width_size width)) brings in
    let here : operation_at (section_bytes v section) width place ≡ read_as (Bring field) next = is ∙ ap (λ (k : ℕ). read_as (Bring k) next) own in
    record {
      offset = bring-piece v section cells xs width place next field c f here;
      room = bring-room (section_bytes v section) width place next field here;
      says = subst (λ (k : ℕ). import_of (located v Macro) k (field_at v section k (width_size width)) ≡ imported in_section n field) own brings;
      placed = subst (λ (k : ℕ). is_placed (field_at v section k (width_size width)) ≡ true) own (placed-field v section width a reads);
    }
import-by v section cells xs width place next in_section n field Foreign c f is reads h = absurd (none-event (Import in_section n field) next h)

event-head : (x y : MacroEvent) (xs ys : List MacroEvent) → x ∷ xs ≡ y ∷ ys → x ≡ y
event-head x y xs ys e = cc

event-tail : (x y : MacroEvent) (xs ys : List MacroEvent) → x ∷ xs ≡ y ∷ ys → xs ≡ ys
event-tail x y xs ys e = cc

none-events : (before behind : List MacroEvent) (e : MacroEvent) → [] ≡ before ++ e ∷ behind → ⊥
none-events [] behind e h = cc
none-events (x ∷ xs) behind e h = cc

import-in : (v : View) (section : ℕ) (cells : List Cell) (xs : List (Piece MacroState)) (width : Width) (place end : ℕ) (es before behind : List MacroEvent) (in_section n field : ℕ) → CellsOf v section cells
    → es ≡ before ++ imported in_section n field ∷ behind → PiecesFrom v section cells xs (macros_at place (at_operation width)) → ReadsFrom v section width place
    → SpellsEvents v section width place es end → ImportIn v section cells xs width in_section n field
import-in v section cells xs width place end es before behind in_section n field c split f reads (over p q is) =
    absurd (none-events before behind (Import in_section n field) split)
import-in v section cells xs width place end es [] behind in_section n field c split f reads (one_event p next q e rest is s) =
    let o : EventOf v section width p next e = event-of v section width p next e is in
    import-by v section cells xs width p next in_section n field o.operation c f o.is (reads-at v section width p next o.operation reads o.is)
    (o.says ∙ ap (λ (x : MacroEvent). event_read x next) (event-head e (Import in_section n field) rest behind split))
import-in v section cells xs width place end es (b ∷ bs) behind in_section n field c split f reads (one_event p next q e rest is s) =
    let o : EventOf v section width p next e = event-of v section width p next e is in
    import-in v section cells xs width next q rest bs behind in_section n field c (event-tail e b rest (bs ++ imported in_section n field ∷ behind) split)
    (pieces-more v section cells xs width p next o.operation c f o.is o.more) (reads-past v section width p next o.operation reads o.is o.more) s

-- a section that was read, among all
record SectionRead (v : View) (rs : List MacroReading) (s : SectionUnits) : Type 0 where
  place : CellSection
  reading : MacroReading
  front : List MacroReading
  rest : List MacroReading
  is : rs ≡ front ++ reading ∷ rest
  number : reading.number ≡ place.number
  there : place.number < length v.sections
  cells : CellsOf v place.number place.contents
  units : AreReadUnits v place.number s.units
  reads : ReadsMacros v.order place.contents reading.pieces

section-read : (v : View) (zs : List CellSection) (rs first all : List MacroReading) (before behind : List SectionUnits) (s : SectionUnits) → all ≡ first ++ rs → AllCells v zs
    → AllBelow (length v.sections) zs → HaveUnits v zs (before ++ s ∷ behind) → ReadsAllMacros v.order zs rs → SectionRead v all s
section-read v [] rs first all [] behind s is c b have reads = absurd have
section-read v [] rs first all (x ∷ xs) behind s is c b have reads = absurd have
section-read v (z ∷ zs) [] first all before behind s is c b have reads = absurd reads
section-read v (z ∷ zs) (r ∷ rs) first all [] behind s is c b have reads = record {
  place = z;
  reading = r;
  front = first;
  rest = rs;
  is = is;
  number = reads.0;
  there = b.0;
  cells = c.0;
  units = have.1;
  reads = reads.1;
}
section-read v (z ∷ zs) (r ∷ rs) first all (x ∷ xs) behind s is c b have reads =
    section-read v zs rs (first ++ r ∷ []) all xs behind s (is ∙ sym (append_assoc first (r ∷ []) rs)) c.1 b.1 have.2 reads.2

-- all pieces of it
all-pieces : (v : View) (section : ℕ) (cells : List Cell) (xs : List (Piece MacroState)) → ReadsMacros v.order cells xs → PiecesFrom v section cells xs (macros_at 0 at_unit)
all-pieces v section cells xs r = record { front = []; rest = xs; is = refl; chain = r.chain; inside = omega arith; stands = sym r.cells }

-- what was read of units, line tables and macro units
abbrev starts_with : Readings → List LineReading → List MacroReading → DataReadings
starts_with us ls ms = record { units = us; offsets = []; lines = ls; macros = ms; names = [] }

piece-of : (v : View) (rs : List MacroReading) (s : SectionUnits) (mode : MacroMode) (width : Width) (field : ℕ) → (r : SectionRead v rs s)
    → (o : OffsetIn r.place.contents r.reading.pieces mode width field) → HasMacroPiece rs r.reading o.piece
piece-of v rs s mode width field r o = record { before = r.front; behind = r.rest; sections = r.is; front = o.front; rest = o.rest; pieces = o.is }

-- no line table starts where a unit says
line-row : (v : View) (us : Readings) (ls : List LineReading) (ms : List MacroReading) (starts : List ℕ) (s : SectionUnits) (width : Width) (field n : ℕ) → starts ≡ table_starts ls
    → (r : SectionRead v ms s) → OffsetIn r.place.contents r.reading.pieces (at_line width) width field → field + width_size width ≤ length (section_bytes v r.place.number)
    → FieldReads v r.place.number width field → offset_at v (located v Line) r.place.number field width ≡ n → start_number 0 starts n ≡ None
    → MacroStrayFails (around_of (debug_data v) (starts_with us ls ms)) ms (at Stray r.place.number field)
unfolding debug_data
line-row v us ls ms starts s width field n is r o room reads number none =
    let p : HasMacroPiece ms r.reading o.piece = piece-of v ms s (at_line width) width field r o in
    let says : is_there (line_table (around_of (debug_data v) (starts_with us ls ms)) o.piece.cells) ≡ false =
    ap (λ (x : List Cell). is_there (start_number 0 (table_starts ls) (offset_of v.order (located_cells ((debug_data v).found Line)) x))) o.cells_are
    ∙ ap (λ (k : ℕ). is_there (start_number 0 (table_starts ls) k)) (line-there v r.place.number r.place.contents width field r.cells room ∙ number)
    ∙ ap (λ (l : List ℕ). is_there (start_number 0 l n)) (sym is) ∙ ap is_there none in
    let placed : is_placed (field_of v.order o.piece.cells) ≡ true =
    ap (λ (x : List Cell). is_placed (field_of v.order x)) o.cells_are ∙ ap is_placed (field-there v r.place.number r.place.contents width field r.cells room)
    ∙ placed-field v r.place.number width field reads in
    let row : MacroStrayFails (around_of (debug_data v) (starts_with us ls ms)) ms (at Stray r.reading.number o.piece.state.place) =
    no_line r.reading o.piece width p (ap (λ (z : MacroState). z.mode) o.state) placed says in
    subst (λ (k : ℕ). MacroStrayFails (around_of (debug_data v) (starts_with us ls ms)) ms (at Stray r.place.number k)) (ap (λ (z : MacroState). z.place) o.state)
    (subst (λ (k : ℕ). MacroStrayFails (around_of (debug_data v) (starts_with us ls ms)) ms (at Stray k o.piece.state.place)) r.number row)

-- and no unit where an import does
import-row : (v : View) (us : Readings) (ls : List LineReading) (places : UnitPlaces) (s : SectionUnits) (width : Width) (field in_section n : ℕ) → (units : UnitsStart (debug_data v) places)
    → (r : SectionRead v units.readings s) → ImportIn v r.place.number r.place.contents r.reading.pieces width in_section n field → has_unit places in_section n ≡ false
    → MacroStrayFails (around_of (debug_data v) (starts_with us ls units.readings)) units.readings (at Stray r.place.number field)
unfolding debug_data
import-row v us ls places s width field in_section n units r i none =
    let p : HasMacroPiece units.readings r.reading i.offset.piece = piece-of v units.readings s (at_offset width of_unit) width field r i.offset in
    let says : is_there (macro_unit (around_of (debug_data v) (starts_with us ls units.readings)).lasting i.offset.piece.cells) ≡ false =
    ap (λ (x : List Cell). is_there (macro_unit (around_of (debug_data v) (starts_with us ls units.readings)).lasting x)) i.offset.cells_are
    ∙ ap (λ (x : Field). is_there (unit_named (macro_places (debug_data v) (starts_with us ls units.readings)) x)) (field-there v r.place.number r.place.contents width field r.cells i.room)
    ∙ field-unit places (macro_places (debug_data v) (starts_with us ls units.readings)) (field_at v r.place.number field (width_size width)) units.start
    ∙ import-none places (located v Macro) field in_section n (field_at v r.place.number field (width_size width)) (first-number v places units) i.says none in
    let placed : is_placed (field_of v.order i.offset.piece.cells) ≡ true =
    ap (λ (x : List Cell). is_placed (field_of v.order x)) i.offset.cells_are ∙ ap is_placed (field-there v r.place.number r.place.contents width field r.cells i.room)
    ∙ i.placed in
    let row : MacroStrayFails (around_of (debug_data v) (starts_with us ls units.readings)) units.readings (at Stray r.reading.number i.offset.piece.state.place) =
    no_import r.reading i.offset.piece width p (ap (λ (z : MacroState). z.mode) i.offset.state) placed says in
    subst (λ (k : ℕ). MacroStrayFails (around_of (debug_data v) (starts_with us ls units.readings)) units.readings (at Stray r.place.number k)) (ap (λ (z : MacroState). z.place) i.offset.state)
    (subst (λ (k : ℕ). MacroStrayFails (around_of (debug_data v) (starts_with us ls units.readings)) units.readings (at Stray k i.offset.piece.state.place)) r.number row)

-- so debug data have the row
line-fails : (v : View) (us : Readings) (starts : List ℕ) (places : UnitPlaces) (s : SectionUnits) (u : MacroUnit) (f : Refusal) → ReadsAll (debug_data v).base 0 ((debug_data v).found Info) us
    → TablesStart (debug_data v) starts → (units : UnitsStart (debug_data v) places) → (r : SectionRead v units.readings s) → UnitAt v r.place.number u → LineStrays starts u f
    → StartsFail (debug_data v) f
line-fails v us starts places s u f reads tables units r a (line_stray n some none) =
    let own : u.section ≡ r.place.number = ap (λ (x : MacroUnit). x.section) a.is.is in
    let field : u.line_field ≡ a.is.header.line_field = ap (λ (x : MacroUnit). x.line_field) a.is.is in
    let both = if-some a.is.header.has_line (Some (offset_at v (located v Line) r.place.number a.is.header.line_field a.is.header.width)) n
    (sym (ap (λ (x : MacroUnit). x.line) a.is.is) ∙ some) in
    let first : PiecesFrom v r.place.number r.place.contents r.reading.pieces (macros_at a.start at_unit) =
    units-pieces v r.place.number r.place.contents r.reading.pieces a.start a.list r.cells r.there (all-pieces v r.place.number r.place.contents r.reading.pieces r.reads) a.before in
    let o : OffsetIn r.place.contents r.reading.pieces (at_line a.is.header.width) a.is.header.width a.is.header.line_field =
    (header-pieces v r.place.number r.place.contents r.reading.pieces a.start a.is.header r.cells first a.is.header_is).line both.0 in
    let row : MacroStrayFails (around_of (debug_data v) (starts_with us tables.tables units.readings)) units.readings (at Stray r.place.number a.is.header.line_field) =
    line-row v us tables.tables units.readings starts s a.is.header.width a.is.header.line_field n tables.is r o
    (line-room v.order (section_bytes v r.place.number) a.start a.is.header a.is.header_is both.0) (a.is.line_reads both.0)
    (some-same (offset_at v (located v Line) r.place.number a.is.header.line_field a.is.header.width) n both.1) none in
    macro_stray (starts_with us tables.tables units.readings) (record { units = reads; lines = tables.are; macros = units.are })
    (subst (λ (k : ℕ). MacroStrayFails (around_of (debug_data v) (starts_with us tables.tables units.readings)) units.readings (at Stray u.section k)) (sym field)
    (subst (λ (k : ℕ). MacroStrayFails (around_of (debug_data v) (starts_with us tables.tables units.readings)) units.readings (at Stray k a.is.header.line_field)) (sym own) row))

import-fails : (v : View) (us : Readings) (starts : List ℕ) (places : UnitPlaces) (s : SectionUnits) (u : MacroUnit) (f : Refusal) → ReadsAll (debug_data v).base 0 ((debug_data v).found Info) us
    → TablesStart (debug_data v) starts → (units : UnitsStart (debug_data v) places) → (r : SectionRead v units.readings s) → UnitAt v r.place.number u
    → EventStrays u.section places (unit_events v u) f → StartsFail (debug_data v) f
import-fails v us starts places s u f reads tables units r a (event before behind e split (import in_section n field is none)) =
    let own : u.section ≡ r.place.number = ap (λ (x : MacroUnit). x.section) a.is.is in
    let first : PiecesFrom v r.place.number r.place.contents r.reading.pieces (macros_at a.start at_unit) =
    units-pieces v r.place.number r.place.contents r.reading.pieces a.start a.list r.cells r.there (all-pieces v r.place.number r.place.contents r.reading.pieces r.reads) a.before in
    let i : ImportIn v r.place.number r.place.contents r.reading.pieces a.is.header.width in_section n field =
    import-in v r.place.number r.place.contents r.reading.pieces a.is.header.width a.is.header.first u.end (unit_events v u) before behind in_section n field r.cells
    (split ∙ ap (λ (x : MacroEvent). before ++ x ∷ behind) is)
    (header-pieces v r.place.number r.place.contents r.reading.pieces a.start a.is.header r.cells first a.is.header_is).behind (unit-reads v r.place.number a.start u a.is)
    (own-events v r.place.number a.start u r.there a.is) in
    macro_stray (starts_with us tables.tables units.readings) (record { units = reads; lines = tables.are; macros = units.are })
    (subst (λ (k : ℕ). MacroStrayFails (around_of (debug_data v) (starts_with us tables.tables units.readings)) units.readings (at Stray k field)) (sym own)
    (import-row v us tables.tables places s a.is.header.width field in_section n units r i none))

unit-fails : (v : View) (us : Readings) (starts : List ℕ) (places : UnitPlaces) (s : SectionUnits) (u : MacroUnit) (f : Refusal) → ReadsAll (debug_data v).base 0 ((debug_data v).found Info) us
    → TablesStart (debug_data v) starts → (units : UnitsStart (debug_data v) places) → (r : SectionRead v units.readings s) → UnitAt v r.place.number u → UnitStrays v starts places u f
    → StartsFail (debug_data v) f
unit-fails v us starts places s u f reads tables units r a (unit_line h) = line-fails v us starts places s u f reads tables units r a h
unit-fails v us starts places s u f reads tables units r a (unit_strays h) = import-fails v us starts places s u f reads tables units r a h

units-fail : (v : View) (us : Readings) (starts : List ℕ) (places : UnitPlaces) (s : SectionUnits) (f : Refusal) → ReadsAll (debug_data v).base 0 ((debug_data v).found Info) us
    → TablesStart (debug_data v) starts → (units : UnitsStart (debug_data v) places) → SectionRead v units.readings s → UnitsStray v starts places s.units f
    → StartsFail (debug_data v) f
units-fail v us starts places s f reads tables units r (unit_stray before behind u split h) =
    let all : UnitsAt v r.place.number s.units = units-at v r.place.number (length (section_bytes v r.place.number)) s.units r.units in
    unit-fails v us starts places s u f reads tables units r (unit-among v r.place.number before behind u (subst (UnitsAt v r.place.number) split all)) h

pub macros-fail : (v : View) (us : Readings) (starts : List ℕ) (places : UnitPlaces) (ss : List SectionUnits) (f : Refusal) → ReadsAll (debug_data v).base 0 ((debug_data v).found Info) us
    → TablesStart (debug_data v) starts → UnitsStart (debug_data v) places → UnitsFoundIn v ss → MacrosStray v starts places ss f → StartsFail (debug_data v) f
unfolding debug_data
macros-fail v us starts places ss f reads tables units found (section_stray before behind s split h) =
    let r : SectionRead v units.readings s =
    section-read v ((debug_data v).found Macro) units.readings [] units.readings before behind s refl (all-cells v) (numbers-below v)
    (subst (HaveUnits v ((debug_data v).found Macro)) split found.units) units.are in
    units-fail v us starts places s f reads tables units r h
