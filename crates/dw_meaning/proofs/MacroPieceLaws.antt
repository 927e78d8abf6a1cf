-- A section whose macro units were read one after another is pieces, of which each offset is one that a unit has; and its texts are there.
use Rattle.std.specs.Bool.{⊤}
use Rattle.std.specs.Prelude.{Result, Ok, Err}
use Rattle.std.proofs.Common.{Bool, true, false, ◌≡◌, ◌≢◌, ℕ, ◌+◌, ◌≤◌, nat_le, List, [], ◌∷◌, ◌++◌, length, take, drop, slice_index, IsTrue, Option, Some, None, refl, sym, ap, ◌∙◌, subst, arith, append_assoc, if◌then◌else◌}
use Rattle.std.proofs.lemmas.Bool.{leb-true}
use Rattle.std.proofs.lemmas.List.{append-nil, drop_all, drop-drop, take-append-drop}
use Rattle.dw_base.specs.Cells.{Cell, CellSection, bytes_of, cells_at, offset_into, offset_of}
use Rattle.dw_base.specs.FileViews.{View, field_at, section_bytes, view_cells}
use Rattle.dw_base.specs.Forms.{width_size}
use Rattle.dw_base.specs.MacroHeaders.{is_macro_version, has_flag, width_by, header_by, header_of, macro_header}
use Rattle.dw_base.specs.MacroOperations.{operation_at}
use Rattle.dw_base.specs.MacroPieces.{OffsetUse, of_text, of_unit, OperationFront, whole, last, before_offset, MacroMode, at_unit, at_line, at_operation, at_offset, MacroState, macros_at, front_of, after_flags, after_operation, macro_grammar, ReadsMacros}
use Rattle.dw_base.specs.MacroReadings.{MacroReading, ReadsAllMacros, EachMacro, MacroStart, started_by, starts_in, macro_starts}
use Rattle.dw_base.specs.MacroUnits.{offset_at, unit_with, names_text, taken, taken_if, unit_operation, OperationsUpTo, no_operations, more_operations, IsMacroUnit, MacroUnitsUpTo, no_units, more_units, AreMacroUnits, is_end, nameless}
use Rattle.dw_base.specs.Numbers.{spelled}
use Rattle.dw_base.specs.Pieces.{Piece, joined, Leads, EachPiece}
use Rattle.dw_base.specs.Refusals.{at}
use Rattle.dw_base.specs.Texts.{ends_in}
use Rattle.dw_base.specs.ViewData.{located}
use Rattle.dw_base.specs.declared.debug_sections.DebugSection.TheVariants.{Line, Str}
use Rattle.dw_base.specs.declared.fault.Refusal.{Refusal}
use Rattle.dw_base.specs.declared.macro_numbers.TheConstants.{OFFSET_SIZE_FLAG, DEBUG_LINE_OFFSET_FLAG, OPCODE_OPERANDS_TABLE_FLAG}
use Rattle.dw_base.specs.declared.macro_units.MacroHeader.{MacroHeader}
use Rattle.dw_base.specs.declared.macro_units.MacroOperation.{MacroOperation}
use Rattle.dw_base.specs.declared.macro_units.MacroOperation.TheVariants.{End, Inline, Named, Enter, Leave, Bring, Foreign}
use Rattle.dw_base.specs.declared.macro_units.MacroUnit.{MacroUnit}
use Rattle.dw_base.specs.declared.shared.Width.{Width}
use Rattle.dw_base.proofs.ContributionBackLaws.{StandsAt}
use Rattle.dw_base.proofs.ViewCellLaws.{offset_at-cells}
use Rattle.dw_base.proofs.RunLaws.{part-bytes, part-length}
use Rattle.dw_base.proofs.UnitEditLaws.{length-bytes_of}
use Rattle.dw_meaning.proofs.LineReadLaws.{if-some, some-same}
use Rattle.dw_meaning.proofs.FieldPutLaws.{width-some}
use Rattle.dw_meaning.proofs.MacroBackLaws.{byte-at, spelled-at}
use Rattle.dw_meaning.proofs.MacroCutLaws.{cut-stands, cut-length, FrontCut, operation-cut}
use Rattle.dw_meaning.proofs.MacroReadLaws.{read_as}
use Rattle.dw_meaning.proofs.PieceLaws.{leads-more, leads-chain, joined-append}

-- the contents of a section of the view, and their bytes
pub record CellsOf (v : View) (section : ℕ) (cells : List Cell) : Type 0 where
  pub bytes : bytes_of cells ≡ section_bytes v section
  pub same : cells ≡ view_cells v section

-- where the offset of a line table stands, and how many bytes it has
pub record FieldPlace : Type 0 where
  pub place : ℕ
  pub size : ℕ

abbrev pub line_field_by : MacroMode → ℕ → List FieldPlace
line_field_by (at_line width) place = record { place = place; size = width_size width } ∷ []
line_field_by m place = []

-- those among pieces
abbrev pub line_fields : List (Piece MacroState) → List FieldPlace
line_fields [] = []
line_fields (x ∷ xs) = line_field_by x.state.mode x.state.place ++ line_fields xs

-- where the offset of a text stands, and how many bytes it has
abbrev pub use_text : OffsetUse → Width → ℕ → List FieldPlace
use_text (of_text defines line) width place = record { place = place; size = width_size width } ∷ []
use_text of_unit width place = []

abbrev pub text_field_by : MacroMode → ℕ → List FieldPlace
text_field_by (at_offset width names) place = use_text names width place
text_field_by m place = []

abbrev pub text_fields : List (Piece MacroState) → List FieldPlace
text_fields [] = []
text_fields (x ∷ xs) = text_field_by x.state.mode x.state.place ++ text_fields xs

-- that of an operation, and those of operations one after another, of a unit and of units
abbrev pub operation_text : MacroOperation → Width → List FieldPlace
operation_text (Named defines line field) width = record { place = field; size = width_size width } ∷ []
operation_text o width = []

abbrev pub operation_texts : (v : View) (section start : ℕ) (width : Width) (first place : ℕ) → OperationsUpTo v section start width first place → List FieldPlace
operation_texts v section start width first place no_operations = []
operation_texts v section start width first place (more_operations o at_place end so e more) = operation_texts v section start width first at_place so ++ operation_text o width

abbrev pub unit_texts : (v : View) (section start : ℕ) (u : MacroUnit) → IsMacroUnit v section start u → List FieldPlace
unit_texts v section start u is = operation_texts v section start is.header.width is.header.first is.last is.operations

abbrev pub units_texts : (v : View) (section : ℕ) (list : List MacroUnit) (place : ℕ) → MacroUnitsUpTo v section list place → List FieldPlace
units_texts v section list place no_units = []
units_texts v section list place (more_units before u start so is) = units_texts v section before start so ++ unit_texts v section start u is

fields-append : (xs ys : List (Piece MacroState)) → line_fields (xs ++ ys) ≡ line_fields xs ++ line_fields ys
fields-append [] ys = refl
fields-append (x ∷ xs) ys =
    ap (λ (rest : List FieldPlace). line_field_by x.state.mode x.state.place ++ rest) (fields-append xs ys)
    ∙ sym (append_assoc (line_field_by x.state.mode x.state.place) (line_fields xs) (line_fields ys))

texts-append : (xs ys : List (Piece MacroState)) → text_fields (xs ++ ys) ≡ text_fields xs ++ text_fields ys
texts-append [] ys = refl
texts-append (x ∷ xs) ys =
    ap (λ (rest : List FieldPlace). text_field_by x.state.mode x.state.place ++ rest) (texts-append xs ys)
    ∙ sym (append_assoc (text_field_by x.state.mode x.state.place) (text_fields xs) (text_fields ys))

-- pieces that lead from one state to another, from one place to another; of each this holds, these units start in them, and these are
-- their offsets of line tables, and of texts
pub record MacroRun (v : View) (section : ℕ) (cells : List Cell) (P : Piece MacroState → Type 0) (ss : List MacroStart) (fs ts : List FieldPlace) (s t : MacroState) (a b : ℕ) : Type 0 where
  pub pieces : List (Piece MacroState)
  pub leads : Leads (macro_grammar v.order) s pieces t
  pub covers : joined pieces ++ drop b cells ≡ drop a cells
  pub each : EachPiece P pieces
  pub starts : starts_in section pieces ≡ ss
  pub lines : line_fields pieces ≡ fs
  pub texts : text_fields pieces ≡ ts

each-append : (P : Piece MacroState → Type 0) (xs ys : List (Piece MacroState)) → EachPiece P xs → EachPiece P ys → EachPiece P (xs ++ ys)
each-append P [] ys h k = k
each-append P (x ∷ xs) ys h k = (h.0, each-append P xs ys h.1 k)

starts-append : (section : ℕ) (xs ys : List (Piece MacroState)) → starts_in section (xs ++ ys) ≡ starts_in section xs ++ starts_in section ys
starts-append section [] ys = refl
starts-append section (x ∷ xs) ys =
    ap (λ (rest : List MacroStart). started_by x.state.mode section x.state.place ++ rest) (starts-append section xs ys)
    ∙ sym (append_assoc (started_by x.state.mode section x.state.place) (starts_in section xs) (starts_in section ys))

macro-more : (v : View) (section : ℕ) (cells : List Cell) (P : Piece MacroState → Type 0) (ss us : List MacroStart) (fs hs ts ws : List FieldPlace) (s t u : MacroState) (a b c : ℕ)
    → MacroRun v section cells P ss fs ts s t a b → MacroRun v section cells P us hs ws t u b c → MacroRun v section cells P (ss ++ us) (fs ++ hs) (ts ++ ws) s u a c
macro-more v section cells P ss us fs hs ts ws s t u a b c m n = record {
  pieces = m.pieces ++ n.pieces;
  leads = leads-more (macro_grammar v.order) s t u m.pieces n.pieces m.leads n.leads;
  covers =
      ap (λ (x : List Cell). x ++ drop c cells) (joined-append m.pieces n.pieces) ∙ append_assoc (joined m.pieces) (joined n.pieces) (drop c cells)
      ∙ ap (λ (x : List Cell). joined m.pieces ++ x) n.covers ∙ m.covers;
  each = each-append P m.pieces n.pieces m.each n.each;
  starts = starts-append section m.pieces n.pieces ∙ ap (λ (l : List MacroStart). l ++ starts_in section n.pieces) m.starts ∙ ap (λ (l : List MacroStart). ss ++ l) n.starts;
  lines = fields-append m.pieces n.pieces ∙ ap (λ (l : List FieldPlace). l ++ line_fields n.pieces) m.lines ∙ ap (λ (l : List FieldPlace). fs ++ l) n.lines;
  texts = texts-append m.pieces n.pieces ∙ ap (λ (l : List FieldPlace). l ++ text_fields n.pieces) m.texts ∙ ap (λ (l : List FieldPlace). ts ++ l) n.texts;
}

macro-none : (v : View) (section : ℕ) (cells : List Cell) (P : Piece MacroState → Type 0) (s : MacroState) (a : ℕ) → MacroRun v section cells P [] [] [] s s a a
macro-none v section cells P s a = record { pieces = []; leads = refl; covers = refl; each = tt; starts = refl; lines = refl; texts = refl }

macro-one : (v : View) (section : ℕ) (cells : List Cell) (P : Piece MacroState → Type 0) (s t : MacroState) (a n : ℕ) → (macro_grammar v.order).Fits s (take n (drop a cells))
    → (macro_grammar v.order).next s (take n (drop a cells)) ≡ t → P (record { state = s; cells = take n (drop a cells) })
    → MacroRun v section cells P (started_by s.mode section s.place ++ []) (line_field_by s.mode s.place ++ []) (text_field_by s.mode s.place ++ []) s t a (a + n)
macro-one v section cells P s t a n fits next holds = record {
  pieces = record { state = s; cells = take n (drop a cells) } ∷ [];
  leads = (refl, fits, next);
  covers =
      append_assoc (take n (drop a cells)) [] (drop (a + n) cells)
      ∙ ap (λ (x : List Cell). take n (drop a cells) ++ x) (sym (drop-drop n a cells)) ∙ take-append-drop n (drop a cells);
  each = (holds, tt);
  starts = refl;
  lines = refl;
  texts = refl;
}

-- the bytes of a part of the section
part-is : (v : View) (section : ℕ) (cells : List Cell) (a n : ℕ) → CellsOf v section cells → bytes_of (take n (drop a cells)) ≡ take n (drop a (section_bytes v section))
part-is v section cells a n c = part-bytes n a cells ∙ ap (λ (bs : List ℕ). take n (drop a bs)) c.bytes

cells-length : (v : View) (section : ℕ) (cells : List Cell) → CellsOf v section cells → length cells ≡ length (section_bytes v section)
cells-length v section cells c = sym (length-bytes_of cells) ∙ ap length c.bytes

part-size : (v : View) (section : ℕ) (cells : List Cell) (a n : ℕ) → CellsOf v section cells → a + n ≤ length (section_bytes v section) → length (take n (drop a cells)) ≡ n
part-size v section cells a n c h =
    let size = cells-length v section cells c in
    part-length n a cells (omega (arith, h, size))

-- an operation that isn't refused
record TakenOk (v : View) (section : ℕ) (width : Width) (place : ℕ) (o : MacroOperation) (next : ℕ) : Type 0 where
  is : operation_at (section_bytes v section) width place ≡ read_as o next
  native : o ≢ Foreign
  named : (defines : Bool) (line field : ℕ) → o ≡ Named defines line field → names_text v section width field ≡ true

abbrev ok_read : MacroOperation → ℕ → Result (MacroOperation × ℕ) Refusal
ok_read o next = Ok (o, next)

ok-same : (x y : MacroOperation × ℕ) → ◌≡◌ {A = Result (MacroOperation × ℕ) Refusal} (Ok x) (Ok y) → x ≡ y
ok-same x y e = cc

err-ok : (r : Refusal) (y : MacroOperation × ℕ) → ◌≡◌ {A = Result (MacroOperation × ℕ) Refusal} (Err r) (Ok y) → ⊥
err-ok r y e = cc

taken-ok : (v : View) (section : ℕ) (width : Width) (place : ℕ) (r o : MacroOperation) (m next : ℕ) → taken v section width place r m ≡ Ok (o, next)
    → (◌≡◌ {A = MacroOperation × ℕ} (r, m) (o, next)) × (r ≢ Foreign) × ((defines : Bool) (line field : ℕ) → r ≡ Named defines line field → names_text v section width field ≡ true)
taken-ok v section width place End o m next e = (ok-same (End, m) (o, next) e, λ g. cc, λ d l f g. cc)
taken-ok v section width place (Inline d l a n) o m next e = (ok-same (Inline d l a n, m) (o, next) e, λ g. cc, λ x y f g. cc)
taken-ok v section width place (Named d l field) o m next e = by_text (names_text v section width field) refl e
  where
    by_text : (b : Bool) → names_text v section width field ≡ b
        → (if b then ok_read (Named d l field) m else Err (at (nameless (field_at v section field (width_size width))) section field)) ≡ ok_read o next
        → (◌≡◌ {A = MacroOperation × ℕ} (Named d l field, m) (o, next)) × (Named d l field ≢ Foreign)
        × ((defines : Bool) (line f : ℕ) → Named d l field ≡ Named defines line f → names_text v section width f ≡ true)
    by_text true is g = (ok-same (Named d l field, m) (o, next) g, λ k. cc, λ x y f k. ap (names_text v section width) (sym (field-same x y f k)) ∙ is)
      where
        field-same : (x : Bool) (y f : ℕ) → Named d l field ≡ Named x y f → field ≡ f
        field-same x y f k = cc
    by_text false is g = absurd (err-ok _ (o, next) g)
taken-ok v section width place (Enter l f) o m next e = (ok-same (Enter l f, m) (o, next) e, λ g. cc, λ x y z g. cc)
taken-ok v section width place Leave o m next e = (ok-same (Leave, m) (o, next) e, λ g. cc, λ x y f g. cc)
taken-ok v section width place (Bring f) o m next e = (ok-same (Bring f, m) (o, next) e, λ g. cc, λ x y z g. cc)
taken-ok v section width place Foreign o m next e = absurd (err-ok _ (o, next) e)

unit-ok : (v : View) (section start place : ℕ) (width : Width) (o : MacroOperation) (next : ℕ) → unit_operation v section start width place ≡ Ok (o, next)
    → TakenOk v section width place o next
unfolding unit_operation
unit-ok v section start place width o next e = by_read (operation_at (section_bytes v section) width place) refl e
  where
    by_read : (x : Option (MacroOperation × ℕ)) → operation_at (section_bytes v section) width place ≡ x → taken_if v section start width place x ≡ Ok (o, next)
        → TakenOk v section width place o next
    by_read None is g = absurd (err-ok _ (o, next) g)
    by_read (Some r) is g =
        let t = taken-ok v section width place r.0 o r.1 next g in
        let same : r.0 ≡ o = ap (λ (x : MacroOperation × ℕ). x.0) t.0 in
        record {
          is = is ∙ ap (λ (x : MacroOperation × ℕ). read_as x.0 x.1) t.0;
          native = λ k. t.1 (same ∙ k);
          named = λ d l f k. t.2 d l f (same ∙ k);
        }

-- the text that one names
text-there : (v : View) (section : ℕ) (cells : List Cell) (width : Width) (place : ℕ) → CellsOf v section cells → place + width_size width ≤ length (section_bytes v section)
    → names_text v section width place ≡ true
    → IsTrue (ends_in (located v Str).bytes (offset_of v.order (located v Str) (take (width_size width) (drop place cells))))
text-there v section cells width place c h named =
    let same : offset_of v.order (located v Str) (take (width_size width) (drop place cells)) ≡ offset_into (located v Str) (field_at v section place (width_size width)) =
    ap (λ (cs : List Cell). offset_of v.order (located v Str) (cells_at cs place (width_size width))) c.same
    ∙ offset_at-cells v (located v Str) section place (width_size width) (width-some width) h in
    ap (ends_in (located v Str).bytes) same ∙ named

-- what an offset of an operation names, and where it stands
abbrev pub offset_use : MacroOperation → Option (OffsetUse × ℕ)
offset_use (Named defines line field) = Some (of_text defines line, field)
offset_use (Bring field) = Some (of_unit, field)
offset_use o = None

-- the piece of an offset at a place
abbrev pub offset_piece : List Cell → MacroMode → Width → ℕ → Piece MacroState
offset_piece cells mode width field = record { state = macros_at field mode; cells = take (width_size width) (drop field cells) }

-- a piece is an offset
abbrev pub has_offset : MacroMode → Bool
has_offset (at_line width) = true
has_offset (at_offset width names) = true
has_offset m = false

-- this holds of each piece that is no offset
pub record HoldsElse (P : Piece MacroState → Type 0) : Type 0 where
  pub holds : (x : Piece MacroState) → has_offset x.state.mode ≡ false → P x

-- and of each offset of a unit: of that of its line table, and of those of its operations
pub record UnitHolds (v : View) (section : ℕ) (cells : List Cell) (P : Piece MacroState → Type 0) (start : ℕ) (h : MacroHeader) : Type 0 where
  pub line : h.has_line ≡ true → P (offset_piece cells (at_line h.width) h.width h.line_field)
  pub offset : (place : ℕ) (o : MacroOperation) (next : ℕ) (names : OffsetUse) (field : ℕ) → OperationsUpTo v section start h.width h.first place
      → unit_operation v section start h.width place ≡ Ok (o, next) → offset_use o ≡ Some (names, field) → P (offset_piece cells (at_offset h.width names) h.width field)

-- the cells in front of an offset, or of a whole operation
front-run : (v : View) (section : ℕ) (cells : List Cell) (P : Piece MacroState → Type 0) (width : Width) (place : ℕ) (o : MacroOperation) (next : ℕ) → CellsOf v section cells → HoldsElse P
    → (c : FrontCut (section_bytes v section) width place o next)
    → MacroRun v section cells P [] [] [] (macros_at place (at_operation width)) (macros_at (place + c.size) (after_operation width (Some c.kind))) place (place + c.size)
front-run v section cells P width place o next cells_are else_ c =
    let bytes : bytes_of (take c.size (drop place cells)) ≡ take c.size (drop place (section_bytes v section)) = part-is v section cells place c.size cells_are in
    let size : length (take c.size (drop place cells)) ≡ c.size = part-size v section cells place c.size cells_are c.within in
    let front : front_of (bytes_of (take c.size (drop place cells))) ≡ Some c.kind = ap front_of bytes ∙ c.front in
    macro-one v section cells P (macros_at place (at_operation width)) (macros_at (place + c.size) (after_operation width (Some c.kind))) place c.size
    (record { front = c.kind; is = front })
    (ap (λ (n : ℕ). macros_at (place + n) (after_operation width (front_of (bytes_of (take c.size (drop place cells)))))) size
    ∙ ap (λ (f : Option OperationFront). macros_at (place + c.size) (after_operation width f)) front)
    (else_.holds (record { state = macros_at place (at_operation width); cells = take c.size (drop place cells) }) refl)

-- an offset
offset-run : (v : View) (section : ℕ) (cells : List Cell) (P : Piece MacroState → Type 0) (width : Width) (names : OffsetUse) (place : ℕ) → CellsOf v section cells
    → place + width_size width ≤ length (section_bytes v section) → P (offset_piece cells (at_offset width names) width place)
    → MacroRun v section cells P [] [] (use_text names width place ++ []) (macros_at place (at_offset width names)) (macros_at (place + width_size width) (at_operation width)) place (place + width_size width)
offset-run v section cells P width names place cells_are h holds =
    let size : length (take (width_size width) (drop place cells)) ≡ width_size width = part-size v section cells place (width_size width) cells_are h in
    macro-one v section cells P (macros_at place (at_offset width names)) (macros_at (place + width_size width) (at_operation width)) place (width_size width) size
    (ap (λ (n : ℕ). macros_at (place + n) (at_operation width)) size) holds

kind-is : (x : Option OperationFront) (f g : OperationFront) → x ≡ Some f → x ≡ Some g → f ≡ g
kind-is x f g e h = some-same f g (sym e ∙ h)

-- where the cells of an operation lead
abbrev behind_operation : MacroOperation → Width → MacroMode
behind_operation End width = at_unit
behind_operation o width = at_operation width

whole-run : (v : View) (section : ℕ) (cells : List Cell) (P : Piece MacroState → Type 0) (width : Width) (place next size : ℕ) (f kind : OperationFront) (m : MacroMode) → kind ≡ f
    → after_operation width (Some f) ≡ m → next ≡ place + size
    → MacroRun v section cells P [] [] [] (macros_at place (at_operation width)) (macros_at (place + size) (after_operation width (Some kind))) place (place + size)
    → MacroRun v section cells P [] [] [] (macros_at place (at_operation width)) (macros_at next m) place next
whole-run v section cells P width place next size f kind m same leads end r =
    subst (λ (n : ℕ). MacroRun v section cells P [] [] [] (macros_at place (at_operation width)) (macros_at n m) place n) (sym end)
    (subst (λ (x : MacroMode). MacroRun v section cells P [] [] [] (macros_at place (at_operation width)) (macros_at (place + size) x) place (place + size))
    (ap (λ (x : OperationFront). after_operation width (Some x)) same ∙ leads) r)

two-run : (v : View) (section : ℕ) (cells : List Cell) (P : Piece MacroState → Type 0) (width : Width) (place next field size : ℕ) (names : OffsetUse) (kind : OperationFront) → CellsOf v section cells
    → kind ≡ before_offset names → field ≡ place + size → next ≡ field + width_size width → next ≤ length (section_bytes v section)
    → P (offset_piece cells (at_offset width names) width field)
    → MacroRun v section cells P [] [] [] (macros_at place (at_operation width)) (macros_at (place + size) (after_operation width (Some kind))) place (place + size)
    → MacroRun v section cells P [] [] (use_text names width field ++ []) (macros_at place (at_operation width)) (macros_at next (at_operation width)) place next
two-run v section cells P width place next field size names kind c same at_is end within holds r =
    let first : MacroRun v section cells P [] [] [] (macros_at place (at_operation width)) (macros_at field (at_offset width names)) place field =
    subst (λ (n : ℕ). MacroRun v section cells P [] [] [] (macros_at place (at_operation width)) (macros_at n (at_offset width names)) place n) (sym at_is)
    (subst (λ (x : OperationFront). MacroRun v section cells P [] [] [] (macros_at place (at_operation width)) (macros_at (place + size) (after_operation width (Some x))) place (place + size)) same r) in
    subst (λ (n : ℕ). MacroRun v section cells P [] [] (use_text names width field ++ []) (macros_at place (at_operation width)) (macros_at n (at_operation width)) place n) (sym end)
    (macro-more v section cells P [] [] [] [] [] (use_text names width field ++ []) (macros_at place (at_operation width)) (macros_at field (at_offset width names)) (macros_at (field + width_size width) (at_operation width)) place field (field + width_size width)
    first (offset-run v section cells P width names field c (omega (arith, end, within)) holds))

-- what is asked of the offset of an operation
abbrev OffsetHolds : List Cell → (Piece MacroState → Type 0) → Width → MacroOperation → Type 0
OffsetHolds cells P width o = (names : OffsetUse) (field : ℕ) → offset_use o ≡ Some (names, field) → P (offset_piece cells (at_offset width names) width field)

operation-run : (v : View) (section : ℕ) (cells : List Cell) (P : Piece MacroState → Type 0) (width : Width) (place : ℕ) (o : MacroOperation) (next : ℕ) → CellsOf v section cells → HoldsElse P
    → o ≢ Foreign → OffsetHolds cells P width o → FrontCut (section_bytes v section) width place o next
    → MacroRun v section cells P [] [] (operation_text o width) (macros_at place (at_operation width)) (macros_at next (behind_operation o width)) place next
operation-run v section cells P width place End next c q native holds cut =
    whole-run v section cells P width place next cut.size last cut.kind at_unit (kind-is (Some last) cut.kind last cut.is refl) refl cut.end
    (front-run v section cells P width place End next c q cut)
operation-run v section cells P width place (Inline d l a n) next c q native holds cut =
    whole-run v section cells P width place next cut.size whole cut.kind (at_operation width) (kind-is (Some whole) cut.kind whole cut.is refl) refl cut.end
    (front-run v section cells P width place (Inline d l a n) next c q cut)
operation-run v section cells P width place (Enter l f) next c q native holds cut =
    whole-run v section cells P width place next cut.size whole cut.kind (at_operation width) (kind-is (Some whole) cut.kind whole cut.is refl) refl cut.end
    (front-run v section cells P width place (Enter l f) next c q cut)
operation-run v section cells P width place Leave next c q native holds cut =
    whole-run v section cells P width place next cut.size whole cut.kind (at_operation width) (kind-is (Some whole) cut.kind whole cut.is refl) refl cut.end
    (front-run v section cells P width place Leave next c q cut)
operation-run v section cells P width place (Named d l field) next c q native holds cut =
    two-run v section cells P width place next field cut.size (of_text d l) cut.kind c (kind-is (Some (before_offset (of_text d l))) cut.kind (before_offset (of_text d l)) cut.is refl) cut.end
    cut.offset.0 cut.offset.1 (holds (of_text d l) field refl) (front-run v section cells P width place (Named d l field) next c q cut)
operation-run v section cells P width place (Bring field) next c q native holds cut =
    two-run v section cells P width place next field cut.size of_unit cut.kind c (kind-is (Some (before_offset of_unit)) cut.kind (before_offset of_unit) cut.is refl) cut.end
    cut.offset.0 cut.offset.1 (holds of_unit field refl) (front-run v section cells P width place (Bring field) next c q cut)
operation-run v section cells P width place Foreign next c q native holds cut = absurd (native refl)

unit-operation-run : (v : View) (section start : ℕ) (cells : List Cell) (P : Piece MacroState → Type 0) (width : Width) (place : ℕ) (o : MacroOperation) (next : ℕ) → CellsOf v section cells → HoldsElse P
    → OffsetHolds cells P width o → unit_operation v section start width place ≡ Ok (o, next)
    → MacroRun v section cells P [] [] (operation_text o width) (macros_at place (at_operation width)) (macros_at next (behind_operation o width)) place next
unit-operation-run v section start cells P width place o next c q holds e =
    let t : TakenOk v section width place o next = unit-ok v section start place width o next e in
    operation-run v section cells P width place o next c q t.native holds (operation-cut (section_bytes v section) width place o next t.native t.is)

-- an operation that doesn't end its unit
more-mode : (o : MacroOperation) (width : Width) → is_end o ≡ false → behind_operation o width ≡ at_operation width
more-mode End width e = absurd cc
more-mode (Inline d l a n) width e = refl
more-mode (Named d l f) width e = refl
more-mode (Enter l f) width e = refl
more-mode Leave width e = refl
more-mode (Bring f) width e = refl
more-mode Foreign width e = refl

operations-run : (v : View) (section start : ℕ) (cells : List Cell) (P : Piece MacroState → Type 0) (h : MacroHeader) (place : ℕ) → CellsOf v section cells → HoldsElse P
    → UnitHolds v section cells P start h → (up : OperationsUpTo v section start h.width h.first place)
    → MacroRun v section cells P [] [] (operation_texts v section start h.width h.first place up) (macros_at h.first (at_operation h.width)) (macros_at place (at_operation h.width)) h.first place
operations-run v section start cells P h place c q holds no_operations = macro-none v section cells P (macros_at h.first (at_operation h.width)) h.first
operations-run v section start cells P h next c q holds (more_operations o place end so e more) =
    macro-more v section cells P [] [] [] [] (operation_texts v section start h.width h.first place so) (operation_text o h.width) (macros_at h.first (at_operation h.width)) (macros_at place (at_operation h.width)) (macros_at next (at_operation h.width)) h.first place next
    (operations-run v section start cells P h place c q holds so)
    (subst (λ (m : MacroMode). MacroRun v section cells P [] [] (operation_text o h.width) (macros_at place (at_operation h.width)) (macros_at next m) place next) (more-mode o h.width more)
    (unit-operation-run v section start cells P h.width place o next c q (λ names field is. holds.offset place o next names field so e is) e))

-- a unit that starts at a place of a section
abbrev pub start_at : ℕ → ℕ → List MacroStart
start_at section place = record { section = section; place = place } ∷ []

-- the version and the flags
flags-run : (v : View) (section : ℕ) (cells : List Cell) (P : Piece MacroState → Type 0) (start : ℕ) → CellsOf v section cells → HoldsElse P → start + 3 ≤ length (section_bytes v section)
    → is_macro_version (spelled v.order (section_bytes v section) start 2) ≡ true → has_flag (slice_index (section_bytes v section) (start + 2)) OPCODE_OPERANDS_TABLE_FLAG ≡ false
    → MacroRun v section cells P (start_at section start) [] [] (macros_at start at_unit) (macros_at (start + 3) (after_flags (slice_index (section_bytes v section) (start + 2)))) start (start + 3)
flags-run v section cells P start c q h version operands =
    let size : length (take 3 (drop start cells)) ≡ 3 = part-size v section cells start 3 c h in
    let bytes : bytes_of (take 3 (drop start cells)) ≡ take 3 (drop start (section_bytes v section)) = part-is v section cells start 3 c in
    let whole_size = cut-length (section_bytes v section) start 3 h in
    let stands : StandsAt (section_bytes v section) (take 3 (drop start (section_bytes v section))) start = cut-stands (section_bytes v section) start 3 h in
    let number : spelled v.order (bytes_of (take 3 (drop start cells))) 0 2 ≡ spelled v.order (section_bytes v section) start 2 =
    ap (λ (bs : List ℕ). spelled v.order bs 0 2) bytes
    ∙ sym (spelled-at v.order (section_bytes v section) (take 3 (drop start (section_bytes v section))) start 2 stands (omega (arith, whole_size))) in
    let flags : slice_index (bytes_of (take 3 (drop start cells))) 2 ≡ slice_index (section_bytes v section) (start + 2) =
    ap (λ (bs : List ℕ). slice_index bs 2) bytes
    ∙ sym (byte-at (section_bytes v section) (take 3 (drop start (section_bytes v section))) start 2 stands (omega (arith, whole_size))) in
    macro-one v section cells P (macros_at start at_unit) (macros_at (start + 3) (after_flags (slice_index (section_bytes v section) (start + 2)))) start 3
    (record {
      size = size;
      version = ap is_macro_version number ∙ version;
      operands = ap (λ (n : ℕ). has_flag n OPCODE_OPERANDS_TABLE_FLAG) flags ∙ operands;
    })
    (ap (λ (n : ℕ). macros_at (start + n) (after_flags (slice_index (bytes_of (take 3 (drop start cells))) 2))) size
    ∙ ap (λ (n : ℕ). macros_at (start + 3) (after_flags n)) flags)
    (q.holds (record { state = macros_at start at_unit; cells = take 3 (drop start cells) }) refl)

abbrev line_at : Width → ℕ → List FieldPlace
line_at width place = record { place = place; size = width_size width } ∷ []

-- the offset of the line table of a header
abbrev header_line : MacroHeader → List FieldPlace
header_line h = if h.has_line then line_at h.width h.line_field else []

-- the offset of a line table
line-run : (v : View) (section : ℕ) (cells : List Cell) (P : Piece MacroState → Type 0) (width : Width) (place : ℕ) → CellsOf v section cells
    → place + width_size width ≤ length (section_bytes v section) → P (offset_piece cells (at_line width) width place)
    → MacroRun v section cells P [] (line_at width place) [] (macros_at place (at_line width)) (macros_at (place + width_size width) (at_operation width)) place (place + width_size width)
line-run v section cells P width place c h holds =
    let size : length (take (width_size width) (drop place cells)) ≡ width_size width = part-size v section cells place (width_size width) c h in
    macro-one v section cells P (macros_at place (at_line width)) (macros_at (place + width_size width) (at_operation width)) place (width_size width) size
    (ap (λ (n : ℕ). macros_at (place + n) (at_operation width)) size) holds

abbrev plain_header : ℕ → Width → ℕ → MacroHeader
plain_header version w place = record { version = version; width = w; has_line = false; line_field = 0; first = place }

abbrev lined_header : ℕ → Width → ℕ → MacroHeader
lined_header version w place = record { version = version; width = w; has_line = true; line_field = place; first = place + width_size w }

-- a header
header-run : (v : View) (section : ℕ) (cells : List Cell) (P : Piece MacroState → Type 0) (start : ℕ) (h : MacroHeader) → CellsOf v section cells → HoldsElse P
    → (h.has_line ≡ true → P (offset_piece cells (at_line h.width) h.width h.line_field)) → macro_header v.order (section_bytes v section) start ≡ Some h
    → MacroRun v section cells P (start_at section start) (header_line h) [] (macros_at start at_unit) (macros_at h.first (at_operation h.width)) start h.first
unfolding macro_header header_of header_by
header-run v section cells P start h c q holds e =
    let room = if-some (nat_le (start + 3) (length (section_bytes v section)))
    (header_of (section_bytes v section) (spelled v.order (section_bytes v section) start 2) (slice_index (section_bytes v section) (start + 2)) (start + 3)) h e in
    let version = if-some (is_macro_version (spelled v.order (section_bytes v section) start 2))
    (if has_flag (slice_index (section_bytes v section) (start + 2)) OPCODE_OPERANDS_TABLE_FLAG then None
    else header_by (section_bytes v section) (spelled v.order (section_bytes v section) start 2) (width_by (has_flag (slice_index (section_bytes v section) (start + 2)) OFFSET_SIZE_FLAG))
    (has_flag (slice_index (section_bytes v section) (start + 2)) DEBUG_LINE_OFFSET_FLAG) (start + 3)) h room.1 in
    by_operands (has_flag (slice_index (section_bytes v section) (start + 2)) OPCODE_OPERANDS_TABLE_FLAG) refl (leb-true (start + 3) (length (section_bytes v section)) room.0) version.0 version.1
  where
    Leads_to : MacroHeader → Type 0
    Leads_to x = MacroRun v section cells P (start_at section start) (header_line x) [] (macros_at start at_unit) (macros_at x.first (at_operation x.width)) start x.first

    line_holds : (x : MacroHeader) → x ≡ h → x.has_line ≡ true → P (offset_piece cells (at_line x.width) x.width x.line_field)
    line_holds x same = subst (λ (y : MacroHeader). y.has_line ≡ true → P (offset_piece cells (at_line y.width) y.width y.line_field)) (sym same) holds

    by_line : (b : Bool) (w : Width) → MacroRun v section cells P (start_at section start) [] [] (macros_at start at_unit) (macros_at (start + 3) (if b then at_line w else at_operation w)) start (start + 3)
        → header_by (section_bytes v section) (spelled v.order (section_bytes v section) start 2) w b (start + 3) ≡ Some h → Leads_to h
    by_line false w r g = subst Leads_to (some-same (plain_header (spelled v.order (section_bytes v section) start 2) w (start + 3)) h g) r
    by_line true w r g =
        let both = if-some (nat_le (start + 3 + width_size w) (length (section_bytes v section)))
        (Some (lined_header (spelled v.order (section_bytes v section) start 2) w (start + 3))) h g in
        let same : lined_header (spelled v.order (section_bytes v section) start 2) w (start + 3) ≡ h =
        some-same (lined_header (spelled v.order (section_bytes v section) start 2) w (start + 3)) h both.1 in
        subst Leads_to same
        (macro-more v section cells P (start_at section start) [] [] (line_at w (start + 3)) [] [] (macros_at start at_unit) (macros_at (start + 3) (at_line w)) (macros_at (start + 3 + width_size w) (at_operation w)) start (start + 3) (start + 3 + width_size w) r
        (line-run v section cells P w (start + 3) c (leb-true (start + 3 + width_size w) (length (section_bytes v section)) both.0)
        (line_holds (lined_header (spelled v.order (section_bytes v section) start 2) w (start + 3)) same refl)))

    by_operands : (b : Bool) → has_flag (slice_index (section_bytes v section) (start + 2)) OPCODE_OPERANDS_TABLE_FLAG ≡ b → start + 3 ≤ length (section_bytes v section)
        → is_macro_version (spelled v.order (section_bytes v section) start 2) ≡ true
        → (if b then None else header_by (section_bytes v section) (spelled v.order (section_bytes v section) start 2)
        (width_by (has_flag (slice_index (section_bytes v section) (start + 2)) OFFSET_SIZE_FLAG)) (has_flag (slice_index (section_bytes v section) (start + 2)) DEBUG_LINE_OFFSET_FLAG) (start + 3)) ≡ Some h
        → Leads_to h
    by_operands true is room version g = absurd cc
    by_operands false is room version g =
        by_line (has_flag (slice_index (section_bytes v section) (start + 2)) DEBUG_LINE_OFFSET_FLAG) (width_by (has_flag (slice_index (section_bytes v section) (start + 2)) OFFSET_SIZE_FLAG))
        (flags-run v section cells P start c q room version is) g

-- the offset of the line table of a unit
abbrev line_given : Option ℕ → Width → ℕ → List FieldPlace
line_given None width field = []
line_given (Some n) width field = line_at width field

abbrev pub unit_line : MacroUnit → List FieldPlace
unit_line u = line_given u.line u.width u.line_field

header-unit : (v : View) (section start end : ℕ) (h : MacroHeader) → header_line h ≡ unit_line (unit_with v section start h end)
header-unit v section start end h = by_line h.has_line
  where
    by_line : (b : Bool) → (if b then line_at h.width h.line_field else []) ≡ line_given (if b then Some (offset_at v (located v Line) section h.line_field h.width) else None) h.width h.line_field
    by_line true = refl
    by_line false = refl

-- a unit
unit-run : (v : View) (section : ℕ) (cells : List Cell) (P : Piece MacroState → Type 0) (start : ℕ) (u : MacroUnit) → CellsOf v section cells → HoldsElse P → (is : IsMacroUnit v section start u)
    → UnitHolds v section cells P start is.header
    → MacroRun v section cells P (start_at section start) (unit_line u) (unit_texts v section start u is) (macros_at start at_unit) (macros_at u.end at_unit) start u.end
unit-run v section cells P start u c q is holds =
    let end : u.end ≡ is.end = ap (λ (x : MacroUnit). x.end) is.is in
    let line : header_line is.header ≡ unit_line u = header-unit v section start is.end is.header ∙ ap unit_line (sym is.is) in
    let none : header_line is.header ++ [] ≡ header_line is.header = append-nil (header_line is.header) in
    let both : header_line is.header ++ [] ++ [] ≡ unit_line u = ap (λ (l : List FieldPlace). l ++ []) none ∙ none ∙ line in
    subst (λ (n : ℕ). MacroRun v section cells P (start_at section start) (unit_line u) (unit_texts v section start u is) (macros_at start at_unit) (macros_at n at_unit) start n) (sym end)
    (subst (λ (ts : List FieldPlace). MacroRun v section cells P (start_at section start) (unit_line u) ts (macros_at start at_unit) (macros_at is.end at_unit) start is.end)
    (append-nil (unit_texts v section start u is))
    (subst (λ (fs : List FieldPlace). MacroRun v section cells P (start_at section start) fs (unit_texts v section start u is ++ []) (macros_at start at_unit) (macros_at is.end at_unit) start is.end) both
    (macro-more v section cells P (start_at section start) [] (header_line is.header ++ []) [] (unit_texts v section start u is) [] (macros_at start at_unit) (macros_at is.last (at_operation is.header.width)) (macros_at is.end at_unit) start is.last is.end
    (macro-more v section cells P (start_at section start) [] (header_line is.header) [] [] (unit_texts v section start u is) (macros_at start at_unit) (macros_at is.header.first (at_operation is.header.width)) (macros_at is.last (at_operation is.header.width)) start is.header.first is.last
    (header-run v section cells P start is.header c q holds.line is.header_is) (operations-run v section start cells P is.header is.last c q holds is.operations))
    (unit-operation-run v section start cells P is.header.width is.last End is.end c q (λ names field e. absurd (no_offset names field e)) is.ends))))
  where
    no_offset : (names : OffsetUse) (field : ℕ) → offset_use End ≡ Some (names, field) → ⊥
    no_offset names field e = cc

-- of each unit that was read this holds, where it starts at a place
abbrev pub EachUnit : ((start : ℕ) (u : MacroUnit) → Type 0) → List MacroUnit → Type 0
EachUnit Q [] = ⊤
EachUnit Q (u ∷ us) = ((start : ℕ) → Q start u) × EachUnit Q us

each-front : (Q : (start : ℕ) (u : MacroUnit) → Type 0) (us : List MacroUnit) (u : MacroUnit) → EachUnit Q (us ++ u ∷ []) → EachUnit Q us × ((start : ℕ) → Q start u)
each-front Q [] u h = (tt, h.0)
each-front Q (x ∷ xs) u h =
    let rest = each-front Q xs u h.1 in
    ((h.0, rest.0), rest.1)

-- where units start
abbrev pub unit_starts : ℕ → List MacroUnit → List MacroStart
unit_starts section [] = []
unit_starts section (u ∷ us) = record { section = section; place = u.start } ∷ unit_starts section us

starts-last : (section : ℕ) (us : List MacroUnit) (u : MacroUnit) → unit_starts section (us ++ u ∷ []) ≡ unit_starts section us ++ start_at section u.start
starts-last section [] u = refl
starts-last section (x ∷ xs) u = ap (λ (l : List MacroStart). record { section = section; place = x.start } ∷ l) (starts-last section xs u)

-- the offsets of line tables of units
abbrev pub unit_lines : List MacroUnit → List FieldPlace
unit_lines [] = []
unit_lines (u ∷ us) = unit_line u ++ unit_lines us

lines-last : (us : List MacroUnit) (u : MacroUnit) → unit_lines (us ++ u ∷ []) ≡ unit_lines us ++ unit_line u
lines-last [] u = append-nil (unit_line u)
lines-last (x ∷ xs) u = ap (λ (l : List FieldPlace). unit_line x ++ l) (lines-last xs u) ∙ sym (append_assoc (unit_line x) (unit_lines xs) (unit_line u))

-- what is asked of a unit
abbrev pub Asked : View → ℕ → List Cell → (Piece MacroState → Type 0) → ℕ → MacroUnit → Type 0
Asked v section cells P start u = (is : IsMacroUnit v section start u) → UnitHolds v section cells P start is.header

units-run : (v : View) (section : ℕ) (cells : List Cell) (P : Piece MacroState → Type 0) (list : List MacroUnit) (place : ℕ) → CellsOf v section cells → HoldsElse P
    → EachUnit (Asked v section cells P) list → (up : MacroUnitsUpTo v section list place)
    → MacroRun v section cells P (unit_starts section list) (unit_lines list) (units_texts v section list place up) (macros_at 0 at_unit) (macros_at place at_unit) 0 place
units-run v section cells P list place c q each no_units = macro-none v section cells P (macros_at 0 at_unit) 0
units-run v section cells P all place c q each (more_units list u start so is) =
    let both = each-front (Asked v section cells P) list u each in
    let begins : u.start ≡ start = ap (λ (x : MacroUnit). x.start) is.is in
    let starts : unit_starts section list ++ start_at section start ≡ unit_starts section (list ++ u ∷ []) =
    ap (λ (n : ℕ). unit_starts section list ++ start_at section n) (sym begins) ∙ sym (starts-last section list u) in
    subst (λ (ss : List MacroStart). MacroRun v section cells P ss (unit_lines (list ++ u ∷ [])) (units_texts v section list start so ++ unit_texts v section start u is) (macros_at 0 at_unit) (macros_at u.end at_unit) 0 u.end) starts
    (subst (λ (fs : List FieldPlace). MacroRun v section cells P (unit_starts section list ++ start_at section start) fs (units_texts v section list start so ++ unit_texts v section start u is) (macros_at 0 at_unit) (macros_at u.end at_unit) 0 u.end) (sym (lines-last list u))
    (macro-more v section cells P (unit_starts section list) (start_at section start) (unit_lines list) (unit_line u) (units_texts v section list start so) (unit_texts v section start u is) (macros_at 0 at_unit) (macros_at start at_unit) (macros_at u.end at_unit) 0 start u.end
    (units-run v section cells P list start c q both.0 so) (unit-run v section cells P start u c q is (both.1 start is))))

-- the pieces of a section, and where units start in them
pub record PiecesRead (v : View) (section : ℕ) (cells : List Cell) (P : Piece MacroState → Type 0) (list : List MacroUnit) (are : AreMacroUnits v section list) : Type 0 where
  pub pieces : List (Piece MacroState)
  pub reads : ReadsMacros v.order cells pieces
  pub each : EachPiece P pieces
  pub starts : starts_in section pieces ≡ unit_starts section list
  pub lines : line_fields pieces ≡ unit_lines list
  pub texts : text_fields pieces ≡ units_texts v section list (length (section_bytes v section)) are

pub units-read : (v : View) (section : ℕ) (cells : List Cell) (P : Piece MacroState → Type 0) (list : List MacroUnit) → CellsOf v section cells → HoldsElse P
    → EachUnit (Asked v section cells P) list → (are : AreMacroUnits v section list) → PiecesRead v section cells P list are
units-read v section cells P list c q each are =
    let r : MacroRun v section cells P (unit_starts section list) (unit_lines list) (units_texts v section list (length (section_bytes v section)) are) (macros_at 0 at_unit) (macros_at (length (section_bytes v section)) at_unit) 0 (length (section_bytes v section)) =
    units-run v section cells P list (length (section_bytes v section)) c q each are in
    let size : length cells ≡ length (section_bytes v section) = cells-length v section cells c in
    let none : drop (length (section_bytes v section)) cells ≡ [] = drop_all (length (section_bytes v section)) cells (omega (arith, size)) in
    record {
      pieces = r.pieces;
      reads = record {
        chain = leads-chain (macro_grammar v.order) (macros_at 0 at_unit) (macros_at (length (section_bytes v section)) at_unit) r.pieces r.leads refl;
        cells = sym (append-nil (joined r.pieces)) ∙ ap (λ (l : List Cell). joined r.pieces ++ l) (sym none) ∙ r.covers;
      };
      each = r.each;
      starts = r.starts;
      lines = r.lines;
      texts = r.texts;
    }

-- the text that an offset names, which was read without a refusal
pub text-named : (v : View) (section start : ℕ) (cells : List Cell) (width : Width) (place next : ℕ) (defines : Bool) (line field : ℕ) → CellsOf v section cells
    → unit_operation v section start width place ≡ Ok (Named defines line field, next)
    → IsTrue (ends_in (located v Str).bytes (offset_of v.order (located v Str) (take (width_size width) (drop field cells))))
text-named v section start cells width place next defines line field c e =
    let t : TakenOk v section width place (Named defines line field) next = unit-ok v section start place width (Named defines line field) next e in
    let cut : FrontCut (section_bytes v section) width place (Named defines line field) next = operation-cut (section_bytes v section) width place (Named defines line field) next t.native t.is in
    let end = cut.offset.0 in
    let within = cut.offset.1 in
    text-there v section cells width field c (omega (arith, end, within)) (t.named defines line field refl)

-- all sections: of each the units, and what is asked of them
abbrev pub AllUnits : View → (Piece MacroState → Type 0) → List CellSection → List (List MacroUnit) → Type 0
AllUnits v P [] [] = ⊤
AllUnits v P [] (us ∷ rest) = ⊥
AllUnits v P (z ∷ zs) [] = ⊥
AllUnits v P (z ∷ zs) (us ∷ rest) =
    CellsOf v z.number z.contents × EachUnit (Asked v z.number z.contents P) us × AreMacroUnits v z.number us × AllUnits v P zs rest

abbrev pub all_unit_starts : List CellSection → List (List MacroUnit) → List MacroStart
all_unit_starts [] rest = []
all_unit_starts (z ∷ zs) [] = []
all_unit_starts (z ∷ zs) (us ∷ rest) = unit_starts z.number us ++ all_unit_starts zs rest

-- they are pieces
pub record MacrosFound (v : View) (P : Piece MacroState → Type 0) (zs : List CellSection) (rest : List (List MacroUnit)) : Type 0 where
  pub readings : List MacroReading
  pub reads : ReadsAllMacros v.order zs readings
  pub each : EachMacro P readings
  pub starts : macro_starts readings ≡ all_unit_starts zs rest

pub all-units-read : (v : View) (P : Piece MacroState → Type 0) (zs : List CellSection) (rest : List (List MacroUnit)) → HoldsElse P → AllUnits v P zs rest → MacrosFound v P zs rest
all-units-read v P [] [] q all = record { readings = []; reads = tt; each = tt; starts = refl }
all-units-read v P [] (us ∷ rest) q all = absurd all
all-units-read v P (z ∷ zs) [] q all = absurd all
all-units-read v P (z ∷ zs) (us ∷ rest) q all =
    let here : PiecesRead v z.number z.contents P us all.2 = units-read v z.number z.contents P us all.0 q all.1 all.2 in
    let others : MacrosFound v P zs rest = all-units-read v P zs rest q all.3 in
    record {
      readings = record { number = z.number; pieces = here.pieces } ∷ others.readings;
      reads = (refl, here.reads, others.reads);
      each = (here.each, others.each);
      starts = ap (λ (l : List MacroStart). l ++ macro_starts others.readings) here.starts ∙ ap (λ (l : List MacroStart). unit_starts z.number us ++ l) others.starts;
    }
