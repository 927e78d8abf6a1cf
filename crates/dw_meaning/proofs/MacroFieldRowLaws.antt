-- Macro units whose offsets read as fields of their section: none that a reader meets is refused, wherever it stops.
use Rattle.std.specs.Bool.{⊤}
use Rattle.std.proofs.Common.{Bool, true, false, ◌≡◌, ℕ, ◌+◌, ◌<◌, ◌≤◌, nat_le, if◌then◌else◌, List, [], ◌∷◌, ◌++◌, length, drop, slice_index, Option, Some, None, refl, sym, ap, ◌∙◌, subst, arith}
use Rattle.std.specs.Prelude.{Result, Ok, Err}
use Rattle.std.proofs.lemmas.Bool.{leb-true}
use Rattle.std.proofs.lemmas.List.{length-drop}
use Rattle.dw_base.specs.Cells.{Cell, bytes_of}
use Rattle.dw_base.specs.FileViews.{View, section_bytes, view_cells, field_at}
use Rattle.dw_base.specs.Forms.{width_size}
use Rattle.dw_base.specs.MacroHeaders.{has_flag, header_of, macro_header, width_by}
use Rattle.dw_base.specs.MacroOffsets.{OffsetRefuses, OperationRefuses, ReadUpTo, UnitsReadUpTo, more_read, more_unit, no_unit, none_read, of_line, of_operation}
use Rattle.dw_base.specs.MacroOperations.{operation_at}
use Rattle.dw_base.specs.MacroPieces.{OffsetUse, of_text, of_unit, OperationFront, whole, last, before_offset, MacroMode, at_unit, at_line, at_operation, at_offset, no_macros, MacroState, macros_at, IsUnitFront, FitsMacros, after_operation, front_of, mode_behind, macro_grammar, ReadsMacros, whole_by}
use Rattle.dw_base.specs.MacroUnits.{is_end, taken, taken_if, names_text, unit_operation, nameless}
use Rattle.dw_base.specs.Numbers.{spelled}
use Rattle.dw_base.specs.Pieces.{Chain, Piece, joined}
use Rattle.dw_base.specs.RelocationRows.{FieldPlace, FieldsRead, IsField, OffsetReads, field_place, macro_field, macro_fields, offset_field}
use Rattle.dw_base.specs.Refusals.{at}
use Rattle.dw_base.specs.declared.fault.Refusal.{Refusal}
use Rattle.dw_base.specs.declared.macro_numbers.TheConstants.{OFFSET_SIZE_FLAG, DEBUG_LINE_OFFSET_FLAG}
use Rattle.dw_base.specs.declared.macro_units.MacroHeader.{MacroHeader}
use Rattle.dw_base.specs.declared.macro_units.MacroOperation.{MacroOperation}
use Rattle.dw_base.specs.declared.macro_units.MacroOperation.TheVariants.{End, Inline, Named, Enter, Leave, Bring, Foreign}
use Rattle.dw_base.specs.declared.macro_units.MacroUnit.{MacroUnit}
use Rattle.dw_base.specs.declared.shared.Width.{Width}
use Rattle.dw_base.proofs.ContributionBackLaws.{StandsAt, behind-piece, piece-inside, piece-stands}
use Rattle.dw_base.proofs.UnitEditLaws.{length-bytes_of}
use Rattle.dw_base.proofs.ViewCellLaws.{bytes_of-view_cells, length-view_cells}
use Rattle.dw_meaning.proofs.MacroBackLaws.{byte-at, header-lined, header-plain, spelled-at}
use Rattle.dw_meaning.proofs.MacroReadLaws.{WholeAt, front-there, moved_operation}
use Rattle.dw_meaning.proofs.NameFieldRowLaws.{FieldHere, field-behind, front-field, here-read}

-- pieces from a place on, before a mode, whose fields read
record PiecesAt (v : View) (section : ℕ) (mode : MacroMode) (place : ℕ) : Type 0 where
  rest : List (Piece MacroState)
  chain : Chain (macro_grammar v.order) (macros_at place mode) rest
  inside : place ≤ length (view_cells v section)
  is : drop place (view_cells v section) ≡ joined rest
  fields : (f : FieldPlace) → IsField (macro_fields rest) f → OffsetReads v.order (view_cells v section) f

-- the first of them
record FirstPiece (v : View) (section : ℕ) (mode : MacroMode) (place : ℕ) : Type 0 where
  cells : List Cell
  fits : FitsMacros mode v.order cells
  stands : StandsAt (section_bytes v section) (bytes_of cells) place
  room : place + length cells ≤ length (view_cells v section)
  own : (f : FieldPlace) → IsField (macro_field mode place) f → OffsetReads v.order (view_cells v section) f
  next : PiecesAt v section (mode_behind mode (bytes_of cells)) (place + length cells)

first-piece : (v : View) (section : ℕ) (mode : MacroMode) (place : ℕ) → PiecesAt v section mode place → (mode ≡ at_unit → place < length (view_cells v section))
    → FirstPiece v section mode place
first-piece v section mode place a some = by_rest a.rest a.chain a.is a.fields
  where
    by_rest : (xs : List (Piece MacroState)) → Chain (macro_grammar v.order) (macros_at place mode) xs → drop place (view_cells v section) ≡ joined xs
        → ((f : FieldPlace) → IsField (macro_fields xs) f → OffsetReads v.order (view_cells v section) f) → FirstPiece v section mode place
    by_rest [] chain is fields =
        let below = some chain in
        let size : length (drop place (view_cells v section)) ≡ 0 = ap length is in
        absurd (omega (arith, below, size, length-drop place (view_cells v section)))
    by_rest (x ∷ xs) chain is fields =
        let fits : FitsMacros mode v.order x.cells = subst (λ (s : MacroState). FitsMacros s.mode v.order x.cells) chain.0 chain.1 in
        let list : macro_fields (x ∷ xs) ≡ macro_field mode place ++ macro_fields xs =
        ap (λ (s : MacroState). macro_field s.mode s.place ++ macro_fields xs) chain.0 in
        let inside : place + length x.cells ≤ length (view_cells v section) = piece-inside (view_cells v section) x.cells (joined xs) place a.inside is in
        record {
          cells = x.cells;
          fits = fits;
          stands = subst (λ (bs : List ℕ). StandsAt bs (bytes_of x.cells) place) (bytes_of-view_cells v section)
              (piece-stands (view_cells v section) x.cells (joined xs) place a.inside is);
          room = inside;
          own = λ f h. fields f (subst (λ (fs : List FieldPlace). IsField fs f) (sym list) (front-field (macro_field mode place) (macro_fields xs) f h));
          next = record {
            rest = xs;
            chain = subst (λ (s : MacroState). Chain (macro_grammar v.order) (macros_at (s.place + length x.cells) (mode_behind s.mode (bytes_of x.cells))) xs) chain.0 chain.2;
            inside = inside;
            is = behind-piece (view_cells v section) x.cells (joined xs) place is;
            fields = λ f h. fields f (field-behind (macro_field x.state.mode x.state.place) (macro_fields xs) f h);
          };
        }

-- a field of an offset that is a piece
abbrev Here : View → ℕ → ℕ → Width → Type 0
Here v section place width = FieldHere v.order (view_cells v section) place (width_size width)

own-here : (v : View) (section place : ℕ) (width : Width) (p : List Cell) → length p ≡ width_size width → place + length p ≤ length (view_cells v section)
    → ((f : FieldPlace) → IsField (field_place place (width_size width) offset_field ∷ []) f → OffsetReads v.order (view_cells v section) f) → Here v section place width
own-here v section place width p size room own = record {
  reads = own (field_place place (width_size width) offset_field) (record { before = []; behind = []; is = refl });
  inside = subst (λ (n : ℕ). place + n ≤ length (view_cells v section)) size room;
}

-- an operation that a reader meets
abbrev OperationHere : View → ℕ → Width → MacroOperation → Type 0
OperationHere v section width (Named defines line field) = Here v section field width
OperationHere v section width (Bring field) = Here v section field width
OperationHere v section width o = ⊤

record OperationAt (v : View) (section : ℕ) (width : Width) (o : MacroOperation) (next : ℕ) : Type 0 where
  here : OperationHere v section width o
  behind : is_end o ≡ false → PiecesAt v section (at_operation width) next
  over : o ≡ End → PiecesAt v section at_unit next

some-pair : (o q : MacroOperation) (n k : ℕ) (x : Option (MacroOperation × ℕ)) → x ≡ Some (o, n) → x ≡ Some (q, k) → ◌≡◌ {A = MacroOperation × ℕ} (o, n) (q, k)
some-pair o q n k x e f = by_kind (sym e ∙ f)
  where
    by_kind : ◌≡◌ {A = Option (MacroOperation × ℕ)} (Some (o, n)) (Some (q, k)) → ◌≡◌ {A = MacroOperation × ℕ} (o, n) (q, k)
    by_kind g = cc

whole-here : (v : View) (section : ℕ) (width : Width) (place next : ℕ) (o : MacroOperation) → whole_by o ≡ Some whole → PiecesAt v section (at_operation width) next
    → OperationAt v section width (moved_operation place o) next
whole-here v section width place next End k a = absurd cc
whole-here v section width place next (Inline d l at len) k a = record { here = tt; behind = λ e. a; over = λ e. absurd cc }
whole-here v section width place next (Named d l f) k a = absurd cc
whole-here v section width place next (Enter l f) k a = record { here = tt; behind = λ e. a; over = λ e. absurd cc }
whole-here v section width place next Leave k a = record { here = tt; behind = λ e. a; over = λ e. absurd cc }
whole-here v section width place next (Bring f) k a = absurd cc
whole-here v section width place next Foreign k a = absurd cc

last-here : (v : View) (section : ℕ) (width : Width) (place next : ℕ) (o : MacroOperation) → whole_by o ≡ Some last → PiecesAt v section at_unit next
    → OperationAt v section width (moved_operation place o) next
last-here v section width place next End k a = record { here = tt; behind = λ e. absurd cc; over = λ e. a }
last-here v section width place next (Inline d l at len) k a = absurd cc
last-here v section width place next (Named d l f) k a = absurd cc
last-here v section width place next (Enter l f) k a = absurd cc
last-here v section width place next Leave k a = absurd cc
last-here v section width place next (Bring f) k a = absurd cc
last-here v section width place next Foreign k a = absurd cc

never-unit : (width : Width) (n : ℕ) (P : ℕ → Type 0) → at_operation width ≡ at_unit → P n
never-unit width n P e = absurd cc

operation-here : (v : View) (section : ℕ) (width : Width) (place next : ℕ) (o : MacroOperation) → PiecesAt v section (at_operation width) place
    → operation_at (section_bytes v section) width place ≡ Some (o, next) → OperationAt v section width o next
operation-here v section width place next o a e =
    let p : FirstPiece v section (at_operation width) place =
    first-piece v section (at_operation width) place a (λ same. never-unit width place (λ n. n < length (view_cells v section)) same) in
    by_front p.cells p.fits.front p.fits.is p.stands p.room
    (subst (λ (f : Option OperationFront). PiecesAt v section (after_operation width f) (place + length p.cells)) p.fits.is p.next)
  where
    pair : (q : MacroOperation) (k : ℕ) → operation_at (section_bytes v section) width place ≡ Some (q, k) → OperationAt v section width q k → OperationAt v section width o next
    pair q k f h =
        subst (λ (x : MacroOperation × ℕ). OperationAt v section width x.0 x.1) (some-pair q o k next (operation_at (section_bytes v section) width place) f e) h

    by_front : (p : List Cell) (f : OperationFront) → front_of (bytes_of p) ≡ Some f → StandsAt (section_bytes v section) (bytes_of p) place
        → place + length p ≤ length (view_cells v section) → PiecesAt v section (after_operation width (Some f)) (place + length p) → OperationAt v section width o next
    by_front p whole is stands room after =
        let w : WholeAt whole (section_bytes v section) (bytes_of p) width place = front-there (section_bytes v section) (bytes_of p) width place whole stands tt is in
        pair (moved_operation place w.operation) (place + length (bytes_of p)) w.is
        (whole-here v section width place (place + length (bytes_of p)) w.operation w.kind
        (subst (λ (n : ℕ). PiecesAt v section (at_operation width) (place + n)) (sym (length-bytes_of p)) after))
    by_front p last is stands room after =
        let w : WholeAt last (section_bytes v section) (bytes_of p) width place = front-there (section_bytes v section) (bytes_of p) width place last stands tt is in
        pair (moved_operation place w.operation) (place + length (bytes_of p)) w.is
        (last-here v section width place (place + length (bytes_of p)) w.operation w.kind
        (subst (λ (n : ℕ). PiecesAt v section at_unit (place + n)) (sym (length-bytes_of p)) after))
    by_front p (before_offset names) is stands room after =
        let q : FirstPiece v section (at_offset width names) (place + length p) =
        first-piece v section (at_offset width names) (place + length p) after (λ same. absurd cc) in
        let size : length q.cells ≡ width_size width = q.fits in
        let inside = q.room in
        let bytes = length-bytes_of p in
        let all = length-view_cells v section in
        let here : Here v section (place + length p) width = own-here v section (place + length p) width q.cells size q.room q.own in
        let next_at : PiecesAt v section (at_operation width) (place + length p + width_size width) =
        subst (λ (n : ℕ). PiecesAt v section (at_operation width) (place + length p + n)) size q.next in
        by_names names is stands (omega (arith, inside, bytes, size, all)) (sym bytes) here next_at
      where
        by_names : (names : OffsetUse) → front_of (bytes_of p) ≡ Some (before_offset names) → StandsAt (section_bytes v section) (bytes_of p) place
            → place + length (bytes_of p) + width_size width ≤ length (section_bytes v section) → length p ≡ length (bytes_of p) → Here v section (place + length p) width
            → PiecesAt v section (at_operation width) (place + length p + width_size width) → OperationAt v section width o next
        by_names (of_text defines line) is stands room same here next_at =
            pair (Named defines line (place + length (bytes_of p))) (place + length (bytes_of p) + width_size width)
            (front-there (section_bytes v section) (bytes_of p) width place (before_offset (of_text defines line)) stands (record { room = room }) is)
            (subst (λ (n : ℕ). OperationAt v section width (Named defines line (place + n)) (place + n + width_size width)) same
            (record { here = here; behind = λ e. next_at; over = λ e. absurd cc }))
        by_names of_unit is stands room same here next_at =
            pair (Bring (place + length (bytes_of p))) (place + length (bytes_of p) + width_size width)
            (front-there (section_bytes v section) (bytes_of p) width place (before_offset of_unit) stands (record { room = room }) is)
            (subst (λ (n : ℕ). OperationAt v section width (Bring (place + n)) (place + n + width_size width)) same
            (record { here = here; behind = λ e. next_at; over = λ e. absurd cc }))

-- operations one after another
taken-ok : (v : View) (section : ℕ) (width : Width) (place n : ℕ) (q o : MacroOperation) (next : ℕ) → taken v section width place q n ≡ Ok (o, next)
    → ◌≡◌ {A = MacroOperation × ℕ} (q, n) (o, next)
taken-ok v section width place n End o next e = cc
taken-ok v section width place n (Inline d l at len) o next e = cc
taken-ok v section width place n (Named d l f) o next e = by_text (names_text v section width f) e
  where
    by_text : (b : Bool) → ◌≡◌ {A = Result (MacroOperation × ℕ) Refusal} (if b then Ok (Named d l f, n) else Err (at (nameless (field_at v section f (width_size width))) section f)) (Ok (o, next)) → ◌≡◌ {A = MacroOperation × ℕ} (Named d l f, n) (o, next)
    by_text true e = cc
    by_text false e = absurd cc
taken-ok v section width place n (Enter l f) o next e = cc
taken-ok v section width place n Leave o next e = cc
taken-ok v section width place n (Bring f) o next e = cc
taken-ok v section width place n Foreign o next e = absurd cc

unit-taken : (v : View) (section start : ℕ) (width : Width) (place next : ℕ) (o : MacroOperation) → unit_operation v section start width place ≡ Ok (o, next)
    → operation_at (section_bytes v section) width place ≡ Some (o, next)
unfolding unit_operation
unit-taken v section start width place next o e = by_read (operation_at (section_bytes v section) width place) e
  where
    by_read : (x : Option (MacroOperation × ℕ)) → taken_if v section start width place x ≡ Ok (o, next) → x ≡ Some (o, next)
    by_read None e = absurd cc
    by_read (Some q) e = ap Some (taken-ok v section width place q.1 q.0 o next e)

operations-here : (v : View) (section start : ℕ) (width : Width) (first place : ℕ) → PiecesAt v section (at_operation width) first → ReadUpTo v section start width first place
    → PiecesAt v section (at_operation width) place
operations-here v section start width first place a none_read = a
operations-here v section start width first place a (more_read o from next before e more reads) =
    (operation-here v section width from place o (operations-here v section start width first from a before) (unit-taken v section start width from place o e)).behind more

-- the header of a unit that a reader meets
record HeaderHere (v : View) (section : ℕ) (h : MacroHeader) : Type 0 where
  line : h.has_line ≡ true → Here v section h.line_field h.width
  operations : PiecesAt v section (at_operation h.width) h.first

header-room : (v : View) (section start : ℕ) (h : MacroHeader) → macro_header v.order (section_bytes v section) start ≡ Some h → start + 3 ≤ length (section_bytes v section)
unfolding macro_header
header-room v section start h e = by_room (nat_le (start + 3) (length (section_bytes v section))) refl e
  where
    by_room : (t : Bool) → nat_le (start + 3) (length (section_bytes v section)) ≡ t
        → (if t then header_of (section_bytes v section) (spelled v.order (section_bytes v section) start 2) (slice_index (section_bytes v section) (start + 2)) (start + 3) else None) ≡ Some h
        → start + 3 ≤ length (section_bytes v section)
    by_room true is e = leb-true (start + 3) (length (section_bytes v section)) is
    by_room false is e = absurd cc

once-header : (h k : MacroHeader) (x : Option MacroHeader) → x ≡ Some h → x ≡ Some k → h ≡ k
once-header h k x e f = by_kind (sym e ∙ f)
  where
    by_kind : Some h ≡ Some k → h ≡ k
    by_kind g = cc

header-here : (v : View) (section start : ℕ) (h : MacroHeader) → PiecesAt v section at_unit start → macro_header v.order (section_bytes v section) start ≡ Some h
    → HeaderHere v section h
header-here v section start h a is =
    let whole = length-view_cells v section in
    let room = header-room v section start h is in
    let p : FirstPiece v section at_unit start = first-piece v section at_unit start a (λ same. omega (arith, room, whole)) in
    by_line p.cells p.fits p.stands (has_flag (slice_index (bytes_of p.cells) 2) DEBUG_LINE_OFFSET_FLAG) refl p.next room
  where
    by_line : (p : List Cell) → IsUnitFront v.order p → StandsAt (section_bytes v section) (bytes_of p) start → (b : Bool)
        → has_flag (slice_index (bytes_of p) 2) DEBUG_LINE_OFFSET_FLAG ≡ b
        → PiecesAt v section
        (if b then at_line (width_by (has_flag (slice_index (bytes_of p) 2) OFFSET_SIZE_FLAG)) else at_operation (width_by (has_flag (slice_index (bytes_of p) 2) OFFSET_SIZE_FLAG)))
        (start + length p)
        → start + 3 ≤ length (section_bytes v section) → HeaderHere v section h
    by_line p f stands b line next room = by_flag b line next
      where
        size : length (bytes_of p) ≡ 3
        size = length-bytes_of p ∙ f.size

        wide : Width
        wide = width_by (has_flag (slice_index (bytes_of p) 2) OFFSET_SIZE_FLAG)

        version : spelled v.order (section_bytes v section) start 2 ≡ spelled v.order (bytes_of p) 0 2
        version = spelled-at v.order (section_bytes v section) (bytes_of p) start 2 stands (omega (arith, size))

        flags : slice_index (section_bytes v section) (start + 2) ≡ slice_index (bytes_of p) 2
        flags = byte-at (section_bytes v section) (bytes_of p) start 2 stands (omega (arith, size))

        by_flag : (b : Bool) → has_flag (slice_index (bytes_of p) 2) DEBUG_LINE_OFFSET_FLAG ≡ b
            → PiecesAt v section
            (if b then at_line (width_by (has_flag (slice_index (bytes_of p) 2) OFFSET_SIZE_FLAG)) else at_operation (width_by (has_flag (slice_index (bytes_of p) 2) OFFSET_SIZE_FLAG)))
            (start + length p) → HeaderHere v section h
        by_flag false line next =
            let own : h ≡ record {
              version = spelled v.order (bytes_of p) 0 2;
              width = width_by (has_flag (slice_index (bytes_of p) 2) OFFSET_SIZE_FLAG);
              has_line = false;
              line_field = 0;
              first = start + 3;
            } = once-header h _ (macro_header v.order (section_bytes v section) start) is
            (header-plain v section start (spelled v.order (bytes_of p) 0 2) (slice_index (bytes_of p) 2) room version flags f.version f.operands line) in
            subst (HeaderHere v section) (sym own)
            (record {
              line = λ e. absurd cc;
              operations = subst (λ (n : ℕ). PiecesAt v section (at_operation (width_by (has_flag (slice_index (bytes_of p) 2) OFFSET_SIZE_FLAG))) (start + n)) f.size next;
            })
        by_flag true line next =
            let q : FirstPiece v section (at_line (width_by (has_flag (slice_index (bytes_of p) 2) OFFSET_SIZE_FLAG))) (start + length p) =
            first-piece v section (at_line (width_by (has_flag (slice_index (bytes_of p) 2) OFFSET_SIZE_FLAG))) (start + length p) next (λ same. absurd cc) in
            let inside = q.room in
            let long = q.fits in
            let three = f.size in
            let whole = length-view_cells v section in
            let own : h ≡ record {
              version = spelled v.order (bytes_of p) 0 2;
              width = width_by (has_flag (slice_index (bytes_of p) 2) OFFSET_SIZE_FLAG);
              has_line = true;
              line_field = start + 3;
              first = start + 3 + width_size (width_by (has_flag (slice_index (bytes_of p) 2) OFFSET_SIZE_FLAG));
            } = once-header h _ (macro_header v.order (section_bytes v section) start) is
            (header-lined v section start (spelled v.order (bytes_of p) 0 2) (slice_index (bytes_of p) 2) version flags f.version f.operands line (omega (arith, inside, long, three, whole))) in
            subst (HeaderHere v section) (sym own)
            (record {
              line = λ e. subst (λ (n : ℕ). Here v section (start + n) (width_by (has_flag (slice_index (bytes_of p) 2) OFFSET_SIZE_FLAG))) f.size
                  (own-here v section (start + length p) (width_by (has_flag (slice_index (bytes_of p) 2) OFFSET_SIZE_FLAG)) q.cells q.fits q.room q.own);
              operations = subst (λ (n : ℕ). PiecesAt v section (at_operation (width_by (has_flag (slice_index (bytes_of p) 2) OFFSET_SIZE_FLAG))) (start + n + width_size (width_by (has_flag (slice_index (bytes_of p) 2) OFFSET_SIZE_FLAG)))) f.size
                  (subst (λ (n : ℕ). PiecesAt v section (at_operation (width_by (has_flag (slice_index (bytes_of p) 2) OFFSET_SIZE_FLAG))) (start + length p + n)) q.fits q.next);
            })

-- behind units that a reader meets
units-here : (v : View) (section : ℕ) (list : List MacroUnit) (place : ℕ) → PiecesAt v section at_unit 0 → UnitsReadUpTo v section list place → PiecesAt v section at_unit place
units-here v section list place first no_unit = first
units-here v section list place first (more_unit before u start up is) =
    let h : HeaderHere v section is.header = header-here v section start is.header (units-here v section before start first up) is.header_is in
    let o : OperationAt v section is.header.width End is.end =
    operation-here v section is.header.width is.last is.end End (operations-here v section start is.header.width is.header.first is.last h.operations is.operations)
    (unit-taken v section start is.header.width is.last is.end End is.ends) in
    subst (PiecesAt v section at_unit) (sym (ap (λ (x : MacroUnit). x.end) is.is)) (o.over refl)

operation-refused : (v : View) (section : ℕ) (width : Width) (o : MacroOperation) (r : Refusal) → OperationHere v section width o → OperationRefuses v section width o r → ⊥
operation-refused v section width (Named d l field) r h f = here-read v section field width (view_cells v section) r refl h f.is
operation-refused v section width (Bring field) r h f = here-read v section field width (view_cells v section) r refl h f.is
operation-refused v section width End r h f = f
operation-refused v section width (Inline d l at len) r h f = f
operation-refused v section width (Enter l field) r h f = f
operation-refused v section width Leave r h f = f
operation-refused v section width Foreign r h f = f

pub unit-refused : (v : View) (section : ℕ) (moving : List ℕ) (xs : List (Piece MacroState)) (list : List MacroUnit) (start : ℕ) (r : Refusal)
    → ReadsMacros v.order (view_cells v section) xs → FieldsRead v.order (view_cells v section) moving (macro_fields xs) → UnitsReadUpTo v section list start
    → OffsetRefuses v section start r → ⊥
unit-refused v section moving xs list start r reads fields u f =
    let first : PiecesAt v section at_unit 0 = record {
      rest = xs;
      chain = reads.chain;
      inside = omega arith;
      is = sym reads.cells;
      fields = λ g h. fields.offsets g h (macro-offset xs g h);
    } in
    by_row (units-here v section list start first u) f
  where
    by_row : PiecesAt v section at_unit start → OffsetRefuses v section start r → ⊥
    by_row a (of_line h is f) = here-read v section h.line_field h.width (view_cells v section) r refl ((header-here v section start h a is).line f.has) f.refused.is
    by_row a (of_operation h place next o is up there f) =
        operation-refused v section h.width o r
        (operation-here v section h.width place next o (operations-here v section start h.width h.first place (header-here v section start h a is).operations up) there).here f

    one-use : (f : FieldPlace) (rest : List FieldPlace) (g : FieldPlace) → f.use_is ≡ offset_field → IsField (f ∷ rest) g → (IsField rest g → g.use_is ≡ offset_field) → g.use_is ≡ offset_field
    one-use f rest g use_of h more = by_list h.before h.is
      where
        by_list : (before : List FieldPlace) → f ∷ rest ≡ before ++ g ∷ h.behind → g.use_is ≡ offset_field
        by_list [] e = let same : f ≡ g = cc in ap (λ (x : FieldPlace). x.use_is) (sym same) ∙ use_of
        by_list (x ∷ xs) e = let tail : rest ≡ xs ++ g ∷ h.behind = cc in more (record { before = xs; behind = h.behind; is = tail })

    macro-use : (m : MacroMode) (place : ℕ) (g : FieldPlace) (rest : List FieldPlace) → IsField (macro_field m place ++ rest) g → (IsField rest g → g.use_is ≡ offset_field)
        → g.use_is ≡ offset_field
    macro-use (at_line w) place g rest h more = one-use (field_place place (width_size w) offset_field) rest g refl h more
    macro-use (at_offset w names) place g rest h more = one-use (field_place place (width_size w) offset_field) rest g refl h more
    macro-use at_unit place g rest h more = more h
    macro-use (at_operation w) place g rest h more = more h
    macro-use no_macros place g rest h more = more h

    macro-offset : (ys : List (Piece MacroState)) (g : FieldPlace) → IsField (macro_fields ys) g → g.use_is ≡ offset_field
    macro-offset [] g h = absurd (empty h.before h.is)
      where
        empty : (before : List FieldPlace) → [] ≡ before ++ g ∷ h.behind → ⊥
        empty [] e = cc
        empty (x ∷ xs) e = cc
    macro-offset (y ∷ ys) g h = macro-use y.state.mode y.state.place g (macro_fields ys) h (λ k. macro-offset ys g k)
