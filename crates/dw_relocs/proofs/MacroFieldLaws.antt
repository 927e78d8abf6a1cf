-- The offsets of macro units are the fields of the pieces of their section.
use Rattle.std.proofs.Common.{Bool, true, false, ◌≡◌, ◌≢◌, ℕ, ◌+◌, ◌<◌, ◌≤◌, nat_le, if◌then◌else◌, List, [], ◌∷◌, ◌++◌, length, take, drop, slice_index, Option, Some, None, refl, sym, ap, ◌∙◌, subst, arith}
use Rattle.std.specs.Bool.{⊤}
use Rattle.std.proofs.lemmas.Bool.{leb-true}
use Rattle.dw_base.specs.Cells.{Cell, bytes_of}
use Rattle.dw_base.specs.Forms.{width_size}
use Rattle.dw_base.specs.MacroHeaders.{has_flag, header_by, header_of, is_macro_version, macro_header, width_by}
use Rattle.dw_base.specs.MacroOperations.{operation_at}
use Rattle.dw_base.specs.MacroPieces.{MacroMode, MacroState, OffsetUse, OperationFront, after_flags, after_operation, at_line, at_offset, at_operation, at_unit, before_offset, front_of, last, macro_grammar, macros_at, of_text, of_unit, whole}
use Rattle.dw_base.specs.Numbers.{spelled}
use Rattle.dw_base.specs.Pieces.{Piece}
use Rattle.dw_base.specs.RelocationRows.{FieldPlace, macro_field, macro_fields}
use Rattle.dw_base.specs.declared.macro_numbers.TheConstants.{DEBUG_LINE_OFFSET_FLAG, OFFSET_SIZE_FLAG, OPCODE_OPERANDS_TABLE_FLAG}
use Rattle.dw_base.specs.declared.macro_units.MacroHeader.{MacroHeader}
use Rattle.dw_base.specs.declared.macro_units.MacroOperation.{MacroOperation}
use Rattle.dw_base.specs.declared.macro_units.MacroOperation.TheVariants.{End, Inline, Named, Enter, Leave, Bring, Foreign}
use Rattle.dw_base.specs.declared.shared.Order.{Order}
use Rattle.dw_base.specs.declared.shared.Width.{Width}
use Rattle.dw_base.proofs.ContributionBackLaws.{StandsAt}
use Rattle.dw_base.proofs.RunLaws.{part-bytes, part-length}
use Rattle.dw_base.proofs.UnitEditLaws.{length-bytes_of}
use Rattle.dw_meaning.proofs.LineReadLaws.{if-some, some-same}
use Rattle.dw_meaning.proofs.MacroBackLaws.{byte-at, spelled-at}
use Rattle.dw_meaning.proofs.MacroCutLaws.{FrontCut, cut-length, cut-stands, operation-cut}
use Rattle.dw_relocs.specs.MacroFields.{fields_at, header_place, operation_field}
use Rattle.dw_meaning.specs.PieceRuns.{all_of}
use Rattle.dw_meaning.proofs.RunLaws.{PieceRun, run-more, run-one}

-- nothing is asked of a piece
abbrev pub any_macro : Piece MacroState → Type 0
any_macro x = ⊤

-- the fields of a piece
abbrev pub macro_piece : Piece MacroState → List FieldPlace
macro_piece x = macro_field x.state.mode x.state.place

pub macro_fields-are : (xs : List (Piece MacroState)) → macro_fields xs ≡ all_of macro_piece xs
macro_fields-are [] = refl
macro_fields-are (x ∷ xs) = ap (λ (l : List FieldPlace). macro_field x.state.mode x.state.place ++ l) (macro_fields-are xs)

-- pieces of a macro section, with their fields
abbrev pub MacroRun : Order → List Cell → ℕ → MacroMode → ℕ → MacroMode → List FieldPlace → Type 0
MacroRun order cells a s b t fs = PieceRun (macro_grammar order) any_macro macro_piece cells (macros_at a s) (macros_at b t) a b fs

-- parts of the section
part-is : (cells : List Cell) (bs : List ℕ) (a n : ℕ) → bytes_of cells ≡ bs → bytes_of (take n (drop a cells)) ≡ take n (drop a bs)
part-is cells bs a n is = part-bytes n a cells ∙ ap (λ (l : List ℕ). take n (drop a l)) is

part-size : (cells : List Cell) (bs : List ℕ) (a n : ℕ) → bytes_of cells ≡ bs → a + n ≤ length bs → length (take n (drop a cells)) ≡ n
part-size cells bs a n is h =
    let size : length cells ≡ length bs = sym (length-bytes_of cells) ∙ ap length is in
    part-length n a cells (omega (arith, h, size))

-- the cells in front of an offset, or of a whole operation
front-run : (order : Order) (cells : List Cell) (bs : List ℕ) (width : Width) (place : ℕ) (o : MacroOperation) (next : ℕ) → bytes_of cells ≡ bs
    → (c : FrontCut bs width place o next)
    → MacroRun order cells place (at_operation width) (place + c.size) (after_operation width (Some c.kind)) []
front-run order cells bs width place o next is c =
    let bytes : bytes_of (take c.size (drop place cells)) ≡ take c.size (drop place bs) = part-is cells bs place c.size is in
    let size : length (take c.size (drop place cells)) ≡ c.size = part-size cells bs place c.size is c.within in
    let front : front_of (bytes_of (take c.size (drop place cells))) ≡ Some c.kind = ap front_of bytes ∙ c.front in
    run-one (macro_grammar order) any_macro macro_piece cells (macros_at place (at_operation width)) (macros_at (place + c.size) (after_operation width (Some c.kind))) place c.size []
    (record { front = c.kind; is = front })
    (ap (λ (n : ℕ). macros_at (place + n) (after_operation width (front_of (bytes_of (take c.size (drop place cells)))))) size
    ∙ ap (λ (f : Option OperationFront). macros_at (place + c.size) (after_operation width f)) front) refl tt

-- an offset
offset-run : (order : Order) (cells : List Cell) (bs : List ℕ) (width : Width) (names : OffsetUse) (place : ℕ) → bytes_of cells ≡ bs → place + width_size width ≤ length bs
    → MacroRun order cells place (at_offset width names) (place + width_size width) (at_operation width) (fields_at width (Some place))
offset-run order cells bs width names place is h =
    let size : length (take (width_size width) (drop place cells)) ≡ width_size width = part-size cells bs place (width_size width) is h in
    run-one (macro_grammar order) any_macro macro_piece cells (macros_at place (at_offset width names)) (macros_at (place + width_size width) (at_operation width)) place (width_size width)
    (fields_at width (Some place)) size (ap (λ (n : ℕ). macros_at (place + n) (at_operation width)) size) refl tt

line-run : (order : Order) (cells : List Cell) (bs : List ℕ) (width : Width) (place : ℕ) → bytes_of cells ≡ bs → place + width_size width ≤ length bs
    → MacroRun order cells place (at_line width) (place + width_size width) (at_operation width) (fields_at width (Some place))
line-run order cells bs width place is h =
    let size : length (take (width_size width) (drop place cells)) ≡ width_size width = part-size cells bs place (width_size width) is h in
    run-one (macro_grammar order) any_macro macro_piece cells (macros_at place (at_line width)) (macros_at (place + width_size width) (at_operation width)) place (width_size width)
    (fields_at width (Some place)) size (ap (λ (n : ℕ). macros_at (place + n) (at_operation width)) size) refl tt

kind-is : (x : Option OperationFront) (f g : OperationFront) → x ≡ Some f → x ≡ Some g → f ≡ g
kind-is x f g e h = some-same f g (sym e ∙ h)

-- where the cells of an operation lead
abbrev pub behind_operation : MacroOperation → Width → MacroMode
behind_operation End width = at_unit
behind_operation o width = at_operation width

whole-run : (order : Order) (cells : List Cell) (width : Width) (place next size : ℕ) (f kind : OperationFront) (m : MacroMode) → kind ≡ f
    → after_operation width (Some f) ≡ m → next ≡ place + size
    → MacroRun order cells place (at_operation width) (place + size) (after_operation width (Some kind)) []
    → MacroRun order cells place (at_operation width) next m []
whole-run order cells width place next size f kind m same leads end r =
    subst (λ (n : ℕ). MacroRun order cells place (at_operation width) n m []) (sym end)
    (subst (λ (x : MacroMode). MacroRun order cells place (at_operation width) (place + size) x [])
    (ap (λ (x : OperationFront). after_operation width (Some x)) same ∙ leads) r)

two-run : (order : Order) (cells : List Cell) (bs : List ℕ) (width : Width) (place next field size : ℕ) (names : OffsetUse) (kind : OperationFront) → bytes_of cells ≡ bs
    → kind ≡ before_offset names → field ≡ place + size → next ≡ field + width_size width → next ≤ length bs
    → MacroRun order cells place (at_operation width) (place + size) (after_operation width (Some kind)) []
    → MacroRun order cells place (at_operation width) next (at_operation width) (fields_at width (Some field))
two-run order cells bs width place next field size names kind is same at_is end within r =
    let first : MacroRun order cells place (at_operation width) field (at_offset width names) [] =
    subst (λ (n : ℕ). MacroRun order cells place (at_operation width) n (at_offset width names) []) (sym at_is)
    (subst (λ (x : OperationFront). MacroRun order cells place (at_operation width) (place + size) (after_operation width (Some x)) []) same r) in
    subst (λ (n : ℕ). MacroRun order cells place (at_operation width) n (at_operation width) (fields_at width (Some field))) (sym end)
    (run-more (macro_grammar order) any_macro macro_piece cells (macros_at place (at_operation width)) (macros_at field (at_offset width names)) (macros_at (field + width_size width) (at_operation width))
    place field (field + width_size width) [] (fields_at width (Some field)) first (offset-run order cells bs width names field is (omega (arith, end, within))))

by-cut : (order : Order) (cells : List Cell) (bs : List ℕ) (width : Width) (place : ℕ) (o : MacroOperation) (next : ℕ) → bytes_of cells ≡ bs → o ≢ Foreign
    → FrontCut bs width place o next
    → MacroRun order cells place (at_operation width) next (behind_operation o width) (fields_at width (operation_field o))
by-cut order cells bs width place End next is native cut =
    whole-run order cells width place next cut.size last cut.kind at_unit (kind-is (Some last) cut.kind last cut.is refl) refl cut.end
    (front-run order cells bs width place End next is cut)
by-cut order cells bs width place (Inline d l a n) next is native cut =
    whole-run order cells width place next cut.size whole cut.kind (at_operation width) (kind-is (Some whole) cut.kind whole cut.is refl) refl cut.end
    (front-run order cells bs width place (Inline d l a n) next is cut)
by-cut order cells bs width place (Enter l f) next is native cut =
    whole-run order cells width place next cut.size whole cut.kind (at_operation width) (kind-is (Some whole) cut.kind whole cut.is refl) refl cut.end
    (front-run order cells bs width place (Enter l f) next is cut)
by-cut order cells bs width place Leave next is native cut =
    whole-run order cells width place next cut.size whole cut.kind (at_operation width) (kind-is (Some whole) cut.kind whole cut.is refl) refl cut.end
    (front-run order cells bs width place Leave next is cut)
by-cut order cells bs width place (Named d l field) next is native cut =
    two-run order cells bs width place next field cut.size (of_text d l) cut.kind is (kind-is (Some (before_offset (of_text d l))) cut.kind (before_offset (of_text d l)) cut.is refl)
    cut.end cut.offset.0 cut.offset.1 (front-run order cells bs width place (Named d l field) next is cut)
by-cut order cells bs width place (Bring field) next is native cut =
    two-run order cells bs width place next field cut.size of_unit cut.kind is (kind-is (Some (before_offset of_unit)) cut.kind (before_offset of_unit) cut.is refl)
    cut.end cut.offset.0 cut.offset.1 (front-run order cells bs width place (Bring field) next is cut)
by-cut order cells bs width place Foreign next is native cut = absurd (native refl)

pub operation-run : (order : Order) (cells : List Cell) (bs : List ℕ) (width : Width) (place : ℕ) (o : MacroOperation) (next : ℕ) → bytes_of cells ≡ bs → o ≢ Foreign
    → operation_at bs width place ≡ Some (o, next)
    → MacroRun order cells place (at_operation width) next (behind_operation o width) (fields_at width (operation_field o))
operation-run order cells bs width place o next is native e = by-cut order cells bs width place o next is native (operation-cut bs width place o next native e)

-- where the offset of an operation lies
pub record OperationLies (size : ℕ) (width : Width) (o : MacroOperation) (place next : ℕ) : Type 0 where
  pub before : place < next
  pub within : next ≤ size
  pub field : (f : ℕ) → operation_field o ≡ Some f → (place ≤ f) × (f + width_size width ≤ next)

lies-by : (bs : List ℕ) (width : Width) (place : ℕ) (o : MacroOperation) (next : ℕ) → o ≢ Foreign → FrontCut bs width place o next → OperationLies (length bs) width o place next
lies-by bs width place End next native cut =
    record { before = omega (arith, cut.some, cut.end); within = omega (arith, cut.within, cut.end); field = λ f e. cc }
lies-by bs width place (Inline d l a n) next native cut =
    record { before = omega (arith, cut.some, cut.end); within = omega (arith, cut.within, cut.end); field = λ f e. cc }
lies-by bs width place (Enter l n) next native cut =
    record { before = omega (arith, cut.some, cut.end); within = omega (arith, cut.within, cut.end); field = λ f e. cc }
lies-by bs width place Leave next native cut =
    record { before = omega (arith, cut.some, cut.end); within = omega (arith, cut.within, cut.end); field = λ f e. cc }
lies-by bs width place (Named d l at) next native cut = record {
  before = omega (arith, cut.some, cut.end, cut.offset.0);
  within = cut.offset.1;
  field = λ f e.
      let same : at ≡ f = some-same at f e in
      (omega (arith, same, cut.end), omega (arith, same, cut.offset.0));
}
lies-by bs width place (Bring at) next native cut = record {
  before = omega (arith, cut.some, cut.end, cut.offset.0);
  within = cut.offset.1;
  field = λ f e.
      let same : at ≡ f = some-same at f e in
      (omega (arith, same, cut.end), omega (arith, same, cut.offset.0));
}
lies-by bs width place Foreign next native cut = absurd (native refl)

pub operation-lies : (bs : List ℕ) (width : Width) (place : ℕ) (o : MacroOperation) (next : ℕ) → o ≢ Foreign → operation_at bs width place ≡ Some (o, next)
    → OperationLies (length bs) width o place next
operation-lies bs width place o next native e = lies-by bs width place o next native (operation-cut bs width place o next native e)

-- the version and the flags
flags-run : (order : Order) (cells : List Cell) (bs : List ℕ) (start : ℕ) → bytes_of cells ≡ bs → start + 3 ≤ length bs
    → is_macro_version (spelled order bs start 2) ≡ true → has_flag (slice_index bs (start + 2)) OPCODE_OPERANDS_TABLE_FLAG ≡ false
    → MacroRun order cells start at_unit (start + 3) (after_flags (slice_index bs (start + 2))) []
flags-run order cells bs start is h version operands =
    let size : length (take 3 (drop start cells)) ≡ 3 = part-size cells bs start 3 is h in
    let bytes : bytes_of (take 3 (drop start cells)) ≡ take 3 (drop start bs) = part-is cells bs start 3 is in
    let whole_size = cut-length bs start 3 h in
    let stands : StandsAt bs (take 3 (drop start bs)) start = cut-stands bs start 3 h in
    let number : spelled order (bytes_of (take 3 (drop start cells))) 0 2 ≡ spelled order bs start 2 =
    ap (λ (l : List ℕ). spelled order l 0 2) bytes ∙ sym (spelled-at order bs (take 3 (drop start bs)) start 2 stands (omega (arith, whole_size))) in
    let flags : slice_index (bytes_of (take 3 (drop start cells))) 2 ≡ slice_index bs (start + 2) =
    ap (λ (l : List ℕ). slice_index l 2) bytes ∙ sym (byte-at bs (take 3 (drop start bs)) start 2 stands (omega (arith, whole_size))) in
    run-one (macro_grammar order) any_macro macro_piece cells (macros_at start at_unit) (macros_at (start + 3) (after_flags (slice_index bs (start + 2)))) start 3 []
    (record {
      size = size;
      version = ap is_macro_version number ∙ version;
      operands = ap (λ (n : ℕ). has_flag n OPCODE_OPERANDS_TABLE_FLAG) flags ∙ operands;
    })
    (ap (λ (n : ℕ). macros_at (start + n) (after_flags (slice_index (bytes_of (take 3 (drop start cells))) 2))) size
    ∙ ap (λ (n : ℕ). macros_at (start + 3) (after_flags n)) flags) refl tt

abbrev plain_header : ℕ → Width → ℕ → MacroHeader
plain_header version w place = record { version = version; width = w; has_line = false; line_field = 0; first = place }

abbrev lined_header : ℕ → Width → ℕ → MacroHeader
lined_header version w place = record { version = version; width = w; has_line = true; line_field = place; first = place + width_size w }

-- a header, and where its offset lies
pub record HeaderRun (order : Order) (cells : List Cell) (bs : List ℕ) (start : ℕ) (h : MacroHeader) : Type 0 where
  pub run : MacroRun order cells start at_unit h.first (at_operation h.width) (fields_at h.width (header_place h))
  pub before : start ≤ h.first
  pub within : h.first ≤ length bs
  pub field : (f : ℕ) → header_place h ≡ Some f → (start ≤ f) × (f + width_size h.width ≤ h.first)

pub header-run : (order : Order) (cells : List Cell) (bs : List ℕ) (start : ℕ) (h : MacroHeader) → bytes_of cells ≡ bs → macro_header order bs start ≡ Some h
    → HeaderRun order cells bs start h
unfolding macro_header header_of header_by
header-run order cells bs start h is e =
    let room = if-some (nat_le (start + 3) (length bs)) (header_of bs (spelled order bs start 2) (slice_index bs (start + 2)) (start + 3)) h e in
    let version = if-some (is_macro_version (spelled order bs start 2))
    (if has_flag (slice_index bs (start + 2)) OPCODE_OPERANDS_TABLE_FLAG then None
    else header_by bs (spelled order bs start 2) (width_by (has_flag (slice_index bs (start + 2)) OFFSET_SIZE_FLAG))
    (has_flag (slice_index bs (start + 2)) DEBUG_LINE_OFFSET_FLAG) (start + 3)) h room.1 in
    by_operands (has_flag (slice_index bs (start + 2)) OPCODE_OPERANDS_TABLE_FLAG) refl (leb-true (start + 3) (length bs) room.0) version.0 version.1
  where
    no_field : (f : ℕ) → ◌≡◌ {A = Option ℕ} None (Some f) → ⊥
    no_field f g = cc

    by_line : (b : Bool) (w : Width) → start + 3 ≤ length bs → MacroRun order cells start at_unit (start + 3) (if b then at_line w else at_operation w) []
        → header_by bs (spelled order bs start 2) w b (start + 3) ≡ Some h → HeaderRun order cells bs start h
    by_line false w room r g = subst (HeaderRun order cells bs start) (some-same (plain_header (spelled order bs start 2) w (start + 3)) h g)
        (record { run = r; before = omega arith; within = room; field = λ f k. absurd (no_field f k) })
    by_line true w room r g =
        let both = if-some (nat_le (start + 3 + width_size w) (length bs)) (Some (lined_header (spelled order bs start 2) w (start + 3))) h g in
        let same : lined_header (spelled order bs start 2) w (start + 3) ≡ h = some-same (lined_header (spelled order bs start 2) w (start + 3)) h both.1 in
        let inside : start + 3 + width_size w ≤ length bs = leb-true (start + 3 + width_size w) (length bs) both.0 in
        subst (HeaderRun order cells bs start) same
        (record {
          run =
              run-more (macro_grammar order) any_macro macro_piece cells (macros_at start at_unit) (macros_at (start + 3) (at_line w)) (macros_at (start + 3 + width_size w) (at_operation w))
              start (start + 3) (start + 3 + width_size w) [] (fields_at w (Some (start + 3))) r (line-run order cells bs w (start + 3) is inside);
          before = omega arith;
          within = inside;
          field = λ f k.
              let at_is : start + 3 ≡ f = some-same (start + 3) f k in
              (omega (arith, at_is), omega (arith, at_is));
        })

    by_operands : (b : Bool) → has_flag (slice_index bs (start + 2)) OPCODE_OPERANDS_TABLE_FLAG ≡ b → start + 3 ≤ length bs
        → is_macro_version (spelled order bs start 2) ≡ true
        → (if b then None else header_by bs (spelled order bs start 2) (width_by (has_flag (slice_index bs (start + 2)) OFFSET_SIZE_FLAG))
        (has_flag (slice_index bs (start + 2)) DEBUG_LINE_OFFSET_FLAG) (start + 3)) ≡ Some h
        → HeaderRun order cells bs start h
    by_operands true operands room version g = absurd cc
    by_operands false operands room version g =
        by_line (has_flag (slice_index bs (start + 2)) DEBUG_LINE_OFFSET_FLAG) (width_by (has_flag (slice_index bs (start + 2)) OFFSET_SIZE_FLAG)) room
        (flags-run order cells bs start is room version operands) g
