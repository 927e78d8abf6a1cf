-- From the pieces of a section of macro units to the units that a reader meets, so macro units that can be read exclude their refusals.
use Rattle.std.specs.Bool.{⊤}
use Rattle.std.proofs.Common.{Bool, true, false, ◌≡◌, ℕ, ◌+◌, ◌<◌, ◌≤◌, List, [], ◌∷◌, ◌++◌, length, drop, get_or, slice_index, IsTrue, Option, Some, Ok, refl, sym, ap, ◌∙◌, subst, arith, if◌then◌else◌}
use Rattle.std.proofs.lemmas.Bool.{le-leb}
use Rattle.std.proofs.lemmas.List.{get_or-drop, get_or_append_left, length-drop}
use Rattle.dw_base.specs.Cells.{Cell, bytes_of, cells_at, offset_into, offset_of}
use Rattle.dw_base.specs.FileViews.{View, field_at, section_bytes, view_cells}
use Rattle.dw_base.specs.Forms.{width_size}
use Rattle.dw_base.specs.MacroHeaders.{is_macro_version, has_flag, width_by, header_by, header_of, macro_header}
use Rattle.dw_base.specs.MacroOperations.{operation_at}
use Rattle.dw_base.specs.MacroPieces.{OffsetUse, of_text, of_unit, OperationFront, whole, last, before_offset, MacroMode, at_unit, at_line, at_operation, at_offset, no_macros, MacroState, macros_at, whole_by, front_of, IsUnitFront, FitsMacros, after_flags, after_operation, mode_behind, macro_grammar, ReadsMacros}
use Rattle.dw_base.specs.MacroUnits.{names_text, taken, taken_if, unit_operation, is_end, OperationsUpTo, no_operations, more_operations, unit_with, MacroUnitsUpTo, no_units, more_units, AreMacroUnits}
use Rattle.dw_base.specs.Numbers.{spelled}
use Rattle.dw_base.specs.Pieces.{Piece, joined, Chain, EachPiece}
use Rattle.dw_base.specs.Texts.{ends_in}
use Rattle.dw_base.specs.ViewData.{located}
use Rattle.dw_base.specs.declared.debug_sections.DebugSection.TheVariants.{Str}
use Rattle.dw_base.specs.declared.macro_numbers.TheConstants.{OFFSET_SIZE_FLAG, DEBUG_LINE_OFFSET_FLAG, OPCODE_OPERANDS_TABLE_FLAG}
use Rattle.dw_base.specs.declared.macro_units.MacroHeader.{MacroHeader}
use Rattle.dw_base.specs.declared.macro_units.MacroOperation.{MacroOperation}
use Rattle.dw_base.specs.declared.macro_units.MacroOperation.TheVariants.{End, Inline, Named, Enter, Leave, Bring, Foreign}
use Rattle.dw_base.specs.declared.macro_units.MacroUnit.{MacroUnit}
use Rattle.dw_base.specs.declared.shared.Order.{Order}
use Rattle.dw_base.specs.declared.shared.Width.{Width}
use Rattle.dw_base.proofs.ContributionBackLaws.{StandsAt, spelled-there, piece-stands, behind-piece, piece-inside}
use Rattle.dw_base.proofs.ViewCellLaws.{bytes_of-view_cells, length-view_cells, offset_at-piece, piece-cells}
use Rattle.dw_base.proofs.UnitEditLaws.{length-bytes_of}
use Rattle.dw_meaning.proofs.FieldPutLaws.{width-some}
use Rattle.dw_meaning.proofs.MacroReadLaws.{moved_operation, WholeAt, front-there}

-- cells whose offset of a text, if they are one, names one
abbrev pub MacroNamesBy : MacroMode → View → List Cell → Type 0
MacroNamesBy (at_offset width (of_text defines line)) v p = IsTrue (ends_in (located v Str).bytes (offset_of v.order (located v Str) p))
MacroNamesBy m v p = ⊤

abbrev pub MacroNames : View → Piece MacroState → Type 0
MacroNames v x = MacroNamesBy x.state.mode v x.cells

-- the cells stand at a place of a section of the view
abbrev pub StandsThere : View → ℕ → List Cell → ℕ → Type 0
StandsThere v section p place = cells_at (view_cells v section) place (length p) ≡ p

-- a byte behind the first
pub byte-at : (bs xs : List ℕ) (p k : ℕ) → StandsAt bs xs p → k < length xs → slice_index bs (p + k) ≡ slice_index xs k
byte-at bs xs p k h lt =
    sym (get_or-drop p bs k 0) ∙ ap (λ (l : List ℕ). get_or l k 0) h.is ∙ get_or_append_left xs h.behind 0 k lt

pub spelled-at : (o : Order) (bs xs : List ℕ) (p n : ℕ) → StandsAt bs xs p → n ≤ length xs → spelled o bs p n ≡ spelled o xs 0 n
spelled-at o bs xs p n h le =
    let first : p ≡ p + 0 = omega arith in
    ap (λ (k : ℕ). spelled o bs k n) first ∙ spelled-there o bs xs p 0 n h (omega (arith, le))

-- an operation that was read, where nothing refuses it
taken-whole : (v : View) (section : ℕ) (width : Width) (place n : ℕ) (o : MacroOperation) → whole_by o ≡ Some whole
    → (taken v section width place (moved_operation place o) n ≡ Ok (moved_operation place o, n)) × (is_end (moved_operation place o) ≡ false)
taken-whole v section width place n End k = absurd cc
taken-whole v section width place n (Inline d l a m) k = (refl, refl)
taken-whole v section width place n (Named d l a) k = absurd cc
taken-whole v section width place n (Enter l a) k = (refl, refl)
taken-whole v section width place n Leave k = (refl, refl)
taken-whole v section width place n (Bring a) k = absurd cc
taken-whole v section width place n Foreign k = absurd cc

taken-last : (place : ℕ) (o : MacroOperation) → whole_by o ≡ Some last → moved_operation place o ≡ End
taken-last place End k = refl
taken-last place (Inline d l a m) k = absurd cc
taken-last place (Named d l a) k = absurd cc
taken-last place (Enter l a) k = absurd cc
taken-last place Leave k = absurd cc
taken-last place (Bring a) k = absurd cc
taken-last place Foreign k = absurd cc

read-there : (v : View) (section start place : ℕ) (width : Width) (o : MacroOperation) (n : ℕ) → operation_at (section_bytes v section) width place ≡ Some (o, n)
    → unit_operation v section start width place ≡ taken v section width place o n
unfolding unit_operation
read-there v section start place width o n e = ap (taken_if v section start width place) e

-- what is known in front of a piece

-- behind the version and the flags of a unit with the offset of a line table
record LineAt (v : View) (section : ℕ) (width : Width) (list : List MacroUnit) (place : ℕ) : Type 0 where
  start : ℕ
  before : MacroUnitsUpTo v section list start
  place_is : place ≡ start + 3
  version : is_macro_version (spelled v.order (section_bytes v section) start 2) ≡ true
  operands : has_flag (slice_index (section_bytes v section) (start + 2)) OPCODE_OPERANDS_TABLE_FLAG ≡ false
  line : has_flag (slice_index (section_bytes v section) (start + 2)) DEBUG_LINE_OFFSET_FLAG ≡ true
  wide : width_by (has_flag (slice_index (section_bytes v section) (start + 2)) OFFSET_SIZE_FLAG) ≡ width

-- in front of an operation
record OperationsAt (v : View) (section : ℕ) (width : Width) (list : List MacroUnit) (place : ℕ) : Type 0 where
  start : ℕ
  before : MacroUnitsUpTo v section list start
  header : MacroHeader
  header_is : macro_header v.order (section_bytes v section) start ≡ Some header
  wide : header.width ≡ width
  operations : OperationsUpTo v section start width header.first place

-- in front of the offset of one
record OffsetAt (v : View) (section : ℕ) (width : Width) (names : OffsetUse) (list : List MacroUnit) (place : ℕ) : Type 0 where
  from : ℕ
  known : OperationsAt v section width list from
  front : List ℕ
  stands : StandsAt (section_bytes v section) front from
  is : front_of front ≡ Some (before_offset names)
  place_is : from + length front ≡ place

abbrev KnownBy : MacroMode → View → ℕ → List MacroUnit → ℕ → Type 0
KnownBy at_unit v section list place = MacroUnitsUpTo v section list place
KnownBy (at_line width) v section list place = LineAt v section width list place
KnownBy (at_operation width) v section list place = OperationsAt v section width list place
KnownBy (at_offset width names) v section list place = OffsetAt v section width names list place
KnownBy no_macros v section list place = ⊥

-- of units so far, the others are those that are known then
record KnownAt (v : View) (section : ℕ) (mode : MacroMode) (place : ℕ) : Type 0 where
  list : List MacroUnit
  known : KnownBy mode v section list place

-- a header without the offset of a line table, and one with it
pub header-plain : (v : View) (section start : ℕ) (version flags : ℕ) → start + 3 ≤ length (section_bytes v section) → spelled v.order (section_bytes v section) start 2 ≡ version
    → slice_index (section_bytes v section) (start + 2) ≡ flags → is_macro_version version ≡ true → has_flag flags OPCODE_OPERANDS_TABLE_FLAG ≡ false
    → has_flag flags DEBUG_LINE_OFFSET_FLAG ≡ false
    → macro_header v.order (section_bytes v section) start
    ≡ Some (record { version = version; width = width_by (has_flag flags OFFSET_SIZE_FLAG); has_line = false; line_field = 0; first = start + 3 })
unfolding macro_header header_of header_by
header-plain v section start version flags inside is_version is_flags good none line =
    rw (le-leb (start + 3) (length (section_bytes v section)) inside, is_version, is_flags, good, none, line) refl

pub header-lined : (v : View) (section start : ℕ) (version flags : ℕ) → spelled v.order (section_bytes v section) start 2 ≡ version
    → slice_index (section_bytes v section) (start + 2) ≡ flags → is_macro_version version ≡ true → has_flag flags OPCODE_OPERANDS_TABLE_FLAG ≡ false
    → has_flag flags DEBUG_LINE_OFFSET_FLAG ≡ true → start + 3 + width_size (width_by (has_flag flags OFFSET_SIZE_FLAG)) ≤ length (section_bytes v section)
    → macro_header v.order (section_bytes v section) start
    ≡ Some (record {
      version = version;
      width = width_by (has_flag flags OFFSET_SIZE_FLAG);
      has_line = true;
      line_field = start + 3;
      first = start + 3 + width_size (width_by (has_flag flags OFFSET_SIZE_FLAG));
    })
unfolding macro_header header_of header_by
header-lined v section start version flags is_version is_flags good none line inside =
    rw (
      le-leb (start + 3) (length (section_bytes v section)) (omega (arith, inside)),
      is_version,
      is_flags,
      good,
      none,
      line,
      le-leb (start + 3 + width_size (width_by (has_flag flags OFFSET_SIZE_FLAG))) (length (section_bytes v section)) inside,
    ) refl

-- a step over each piece

unit-step : (v : View) (section : ℕ) (list : List MacroUnit) (place : ℕ) (p : List Cell) → StandsAt (section_bytes v section) (bytes_of p) place → IsUnitFront v.order p
    → MacroUnitsUpTo v section list place → KnownAt v section (after_flags (slice_index (bytes_of p) 2)) (place + length p)
unit-step v section list place p h f before = by_line (has_flag (slice_index (bytes_of p) 2) DEBUG_LINE_OFFSET_FLAG) refl
  where
    size : length (bytes_of p) ≡ 3
    size = length-bytes_of p ∙ f.size

    version : spelled v.order (section_bytes v section) place 2 ≡ spelled v.order (bytes_of p) 0 2
    version = spelled-at v.order (section_bytes v section) (bytes_of p) place 2 h (omega (arith, size))

    flags : slice_index (section_bytes v section) (place + 2) ≡ slice_index (bytes_of p) 2
    flags = byte-at (section_bytes v section) (bytes_of p) place 2 h (omega (arith, size))

    by_line : (b : Bool) → has_flag (slice_index (bytes_of p) 2) DEBUG_LINE_OFFSET_FLAG ≡ b
        → KnownAt v section (if b then at_line (width_by (has_flag (slice_index (bytes_of p) 2) OFFSET_SIZE_FLAG)) else at_operation (width_by (has_flag (slice_index (bytes_of p) 2) OFFSET_SIZE_FLAG)))
        (place + length p)
    by_line true line = record {
      list = list;
      known = record {
        start = place;
        before = before;
        place_is = ap (λ (n : ℕ). place + n) f.size;
        version = ap is_macro_version version ∙ f.version;
        operands = ap (λ (n : ℕ). has_flag n OPCODE_OPERANDS_TABLE_FLAG) flags ∙ f.operands;
        line = ap (λ (n : ℕ). has_flag n DEBUG_LINE_OFFSET_FLAG) flags ∙ line;
        wide = ap (λ (n : ℕ). width_by (has_flag n OFFSET_SIZE_FLAG)) flags;
      };
    }
    by_line false line =
        let inside = h.inside in
        let header : MacroHeader = record {
          version = spelled v.order (bytes_of p) 0 2;
          width = width_by (has_flag (slice_index (bytes_of p) 2) OFFSET_SIZE_FLAG);
          has_line = false;
          line_field = 0;
          first = place + 3;
        } in
        let end : place + 3 ≡ place + length p = ap (λ (n : ℕ). place + n) (sym f.size) in
        record {
          list = list;
          known = record {
            start = place;
            before = before;
            header = header;
            header_is = header-plain v section place (spelled v.order (bytes_of p) 0 2) (slice_index (bytes_of p) 2) (omega (arith, inside, size)) version flags f.version f.operands line;
            wide = refl;
            operations = subst (OperationsUpTo v section place (width_by (has_flag (slice_index (bytes_of p) 2) OFFSET_SIZE_FLAG)) (place + 3)) end no_operations;
          };
        }

line-step : (v : View) (section : ℕ) (width : Width) (list : List MacroUnit) (place : ℕ) (p : List Cell) → StandsAt (section_bytes v section) (bytes_of p) place → length p ≡ width_size width
    → LineAt v section width list place → OperationsAt v section width list (place + length p)
line-step v section width list place p h size k =
    let inside = h.inside in
    let bytes = length-bytes_of p in
    let wide : width_size (width_by (has_flag (slice_index (section_bytes v section) (k.start + 2)) OFFSET_SIZE_FLAG)) ≡ width_size width = ap width_size k.wide in
    let room : k.start + 3 + width_size (width_by (has_flag (slice_index (section_bytes v section) (k.start + 2)) OFFSET_SIZE_FLAG)) ≤ length (section_bytes v section) =
    omega (arith, inside, bytes, size, wide, k.place_is) in
    let end : k.start + 3 + width_size (width_by (has_flag (slice_index (section_bytes v section) (k.start + 2)) OFFSET_SIZE_FLAG)) ≡ place + length p = omega (arith, size, wide, k.place_is) in
    let header : MacroHeader = record {
      version = spelled v.order (section_bytes v section) k.start 2;
      width = width_by (has_flag (slice_index (section_bytes v section) (k.start + 2)) OFFSET_SIZE_FLAG);
      has_line = true;
      line_field = k.start + 3;
      first = k.start + 3 + width_size (width_by (has_flag (slice_index (section_bytes v section) (k.start + 2)) OFFSET_SIZE_FLAG));
    } in
    record {
      start = k.start;
      before = k.before;
      header = header;
      header_is = header-lined v section k.start (spelled v.order (section_bytes v section) k.start 2) (slice_index (section_bytes v section) (k.start + 2)) refl refl k.version k.operands k.line room;
      wide = k.wide;
      operations = subst (λ (f : ℕ). OperationsUpTo v section k.start width f (place + length p)) (sym end) no_operations;
    }

-- one operation more
more-step : (v : View) (section : ℕ) (width : Width) (list : List MacroUnit) (place next : ℕ) (o : MacroOperation) → (k : OperationsAt v section width list place)
    → unit_operation v section k.start width place ≡ Ok (o, next) → is_end o ≡ false → OperationsAt v section width list next
more-step v section width list place next o k e more = record {
  start = k.start;
  before = k.before;
  header = k.header;
  header_is = k.header_is;
  wide = k.wide;
  operations = more_operations o place next k.operations e more;
}

operation-step : (v : View) (section : ℕ) (width : Width) (list : List MacroUnit) (place : ℕ) (p : List Cell) (f : OperationFront) → StandsAt (section_bytes v section) (bytes_of p) place
    → front_of (bytes_of p) ≡ Some f → OperationsAt v section width list place → KnownAt v section (after_operation width (Some f)) (place + length p)
operation-step v section width list place p whole h e k =
    let w : WholeAt whole (section_bytes v section) (bytes_of p) width place = front-there (section_bytes v section) (bytes_of p) width place whole h tt e in
    let t = taken-whole v section width place (place + length (bytes_of p)) w.operation w.kind in
    let end : place + length (bytes_of p) ≡ place + length p = ap (λ (n : ℕ). place + n) (length-bytes_of p) in
    record {
      list = list;
      known = subst (OperationsAt v section width list) end
          (more-step v section width list place (place + length (bytes_of p)) (moved_operation place w.operation) k
          (read-there v section k.start place width (moved_operation place w.operation) (place + length (bytes_of p)) w.is ∙ t.0) t.1);
    }
operation-step v section width list place p last h e k =
    let w : WholeAt last (section_bytes v section) (bytes_of p) width place = front-there (section_bytes v section) (bytes_of p) width place last h tt e in
    let end : place + length (bytes_of p) ≡ place + length p = ap (λ (n : ℕ). place + n) (length-bytes_of p) in
    let over : operation_at (section_bytes v section) width place ≡ Some (End, place + length p) =
    w.is ∙ ap (λ (o : MacroOperation). Some (o, place + length (bytes_of p))) (taken-last place w.operation w.kind) ∙ ap (λ (n : ℕ). Some (End, n)) end in
    let ends : unit_operation v section k.start width place ≡ Ok (End, place + length p) = read-there v section k.start place width End (place + length p) over in
    record {
      list = list ++ unit_with v section k.start k.header (place + length p) ∷ [];
      known = more_units list (unit_with v section k.start k.header (place + length p)) k.start k.before
          (record {
            header = k.header;
            last = place;
            end = place + length p;
            header_is = k.header_is;
            operations = subst (λ (x : Width). OperationsUpTo v section k.start x k.header.first place) (sym k.wide) k.operations;
            ends = subst (λ (x : Width). unit_operation v section k.start x place ≡ Ok (End, place + length p)) (sym k.wide) ends;
            is = refl;
          });
    }
operation-step v section width list place p (before_offset names) h e k = record {
  list = list;
  known = record { from = place; known = k; front = bytes_of p; stands = h; is = e; place_is = ap (λ (n : ℕ). place + n) (length-bytes_of p) };
}

-- the text that an offset names
text-named : (v : View) (section : ℕ) (width : Width) (place : ℕ) (p : List Cell) → StandsAt (section_bytes v section) (bytes_of p) place → length p ≡ width_size width → StandsThere v section p place
    → IsTrue (ends_in (located v Str).bytes (offset_of v.order (located v Str) p)) → names_text v section width place ≡ true
text-named v section width place p h size there names =
    let inside = h.inside in
    let bytes = length-bytes_of p in
    let same : offset_of v.order (located v Str) p ≡ offset_into (located v Str) (field_at v section place (width_size width)) =
    offset_at-piece v (located v Str) section place p there (omega (arith, size, width-some width)) (omega (arith, inside, bytes))
    ∙ ap (λ (n : ℕ). offset_into (located v Str) (field_at v section place n)) size in
    ap (ends_in (located v Str).bytes) (sym same) ∙ names

offset-step : (v : View) (section : ℕ) (width : Width) (names : OffsetUse) (list : List MacroUnit) (place : ℕ) (p : List Cell) → StandsAt (section_bytes v section) (bytes_of p) place
    → length p ≡ width_size width → StandsThere v section p place → MacroNamesBy (at_offset width names) v p → OffsetAt v section width names list place → OperationsAt v section width list (place + length p)
offset-step v section width (of_text defines line) list place p h size there names k =
    let inside = h.inside in
    let bytes = length-bytes_of p in
    let place_is = k.place_is in
    let at : operation_at (section_bytes v section) width k.from ≡ Some (Named defines line (k.from + length k.front), k.from + length k.front + width_size width) =
    front-there (section_bytes v section) k.front width k.from (before_offset (of_text defines line)) k.stands (record { room = omega (arith, inside, bytes, size, place_is) }) k.is in
    let here : operation_at (section_bytes v section) width k.from ≡ Some (Named defines line place, place + length p) =
    at ∙ ap (λ (n : ℕ). Some (Named defines line n, n + width_size width)) place_is ∙ ap (λ (n : ℕ). Some (Named defines line place, place + n)) (sym size) in
    let named : names_text v section width place ≡ true = text-named v section width place p h size there names in
    more-step v section width list k.from (place + length p) (Named defines line place) k.known
    (read-there v section k.known.start k.from width (Named defines line place) (place + length p) here ∙ rw named refl) refl
offset-step v section width of_unit list place p h size there names k =
    let inside = h.inside in
    let bytes = length-bytes_of p in
    let place_is = k.place_is in
    let at : operation_at (section_bytes v section) width k.from ≡ Some (Bring (k.from + length k.front), k.from + length k.front + width_size width) =
    front-there (section_bytes v section) k.front width k.from (before_offset of_unit) k.stands (record { room = omega (arith, inside, bytes, size, place_is) }) k.is in
    let here : operation_at (section_bytes v section) width k.from ≡ Some (Bring place, place + length p) =
    at ∙ ap (λ (n : ℕ). Some (Bring n, n + width_size width)) place_is ∙ ap (λ (n : ℕ). Some (Bring place, place + n)) (sym size) in
    more-step v section width list k.from (place + length p) (Bring place) k.known (read-there v section k.known.start k.from width (Bring place) (place + length p) here) refl

known-step : (m : MacroMode) (v : View) (section : ℕ) (list : List MacroUnit) (place : ℕ) (p : List Cell) → StandsAt (section_bytes v section) (bytes_of p) place → FitsMacros m v.order p
    → StandsThere v section p place → MacroNamesBy m v p → KnownBy m v section list place → KnownAt v section (mode_behind m (bytes_of p)) (place + length p)
known-step at_unit v section list place p h f there names k = unit-step v section list place p h f k
known-step (at_line width) v section list place p h f there names k = record { list = list; known = line-step v section width list place p h f k }
known-step (at_operation width) v section list place p h f there names k =
    subst (λ (o : Option OperationFront). KnownAt v section (after_operation width o) (place + length p)) (sym f.is) (operation-step v section width list place p f.front h f.is k)
known-step (at_offset width use_) v section list place p h f there names k = record { list = list; known = offset-step v section width use_ list place p h f there names k }
known-step no_macros v section list place p h f there names k = absurd f

-- the units of a section that is pieces
pub record UnitsBack (v : View) (section : ℕ) : Type 0 where
  pub all : List MacroUnit
  pub are : AreMacroUnits v section all

pieces-back : (v : View) (section : ℕ) (cells : List Cell) (s : MacroState) (xs : List (Piece MacroState)) (list : List MacroUnit) → cells ≡ view_cells v section
    → s.place ≤ length cells → drop s.place cells ≡ joined xs → Chain (macro_grammar v.order) s xs → EachPiece (MacroNames v) xs → KnownBy s.mode v section list s.place → UnitsBack v section
pieces-back v section cells s [] list same inside is chain names k =
    let size : length (drop s.place cells) ≡ 0 = ap length is in
    let place : s.place ≡ length (section_bytes v section) = omega (arith, inside, size, length-drop s.place cells, ap length same, length-view_cells v section) in
    let up : MacroUnitsUpTo v section list s.place = subst (λ (m : MacroMode). KnownBy m v section list s.place) chain k in
    record { all = list; are = subst (MacroUnitsUpTo v section list) place up }
pieces-back v section cells s (x ∷ xs) list same inside is chain names k =
    let stands : StandsAt (section_bytes v section) (bytes_of x.cells) s.place =
    subst (λ (bs : List ℕ). StandsAt bs (bytes_of x.cells) s.place) (ap bytes_of same ∙ bytes_of-view_cells v section)
    (piece-stands cells x.cells (joined xs) s.place inside is) in
    let there : StandsThere v section x.cells s.place =
    ap (λ (cs : List Cell). cells_at cs s.place (length x.cells)) (sym same) ∙ piece-cells cells x.cells (joined xs) s.place is in
    let known : KnownBy x.state.mode v section list s.place = subst (λ (z : MacroState). KnownBy z.mode v section list s.place) (sym chain.0) k in
    let next : KnownAt v section (mode_behind x.state.mode (bytes_of x.cells)) (s.place + length x.cells) =
    known-step x.state.mode v section list s.place x.cells stands chain.1 there names.0 known in
    let place : x.state.place + length x.cells ≡ s.place + length x.cells = ap (λ (z : MacroState). z.place + length x.cells) chain.0 in
    pieces-back v section cells (macros_at (x.state.place + length x.cells) (mode_behind x.state.mode (bytes_of x.cells))) xs next.list same
    (subst (λ (n : ℕ). n ≤ length cells) (sym place) (piece-inside cells x.cells (joined xs) s.place inside is))
    (ap (λ (n : ℕ). drop n cells) place ∙ behind-piece cells x.cells (joined xs) s.place is)
    chain.2 names.1 (subst (KnownBy (mode_behind x.state.mode (bytes_of x.cells)) v section next.list) (sym place) next.known)

pub units-back : (v : View) (section : ℕ) (cells : List Cell) (xs : List (Piece MacroState)) → cells ≡ view_cells v section → ReadsMacros v.order cells xs
    → EachPiece (MacroNames v) xs → UnitsBack v section
units-back v section cells xs same reads names =
    pieces-back v section cells (macros_at 0 at_unit) xs [] same (omega arith) (sym reads.cells) reads.chain names no_units
