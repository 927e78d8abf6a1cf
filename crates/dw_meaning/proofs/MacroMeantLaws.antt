-- What macro units that stand in a section one after another mean, by places: for those who read them so.
use Rattle.std.specs.Bool.{⊤}
use Rattle.std.proofs.Common.{Bool, true, false, ◌≡◌, ℕ, ◌+◌, ◌≤◌, ◌==◌, nat_le, List, [], ◌∷◌, ◌++◌, length, take, drop, slice_index, Option, Some, None, refl, sym, ap, ◌∙◌, subst, arith, if◌then◌else◌}
use Rattle.std.proofs.lemmas.Bool.{eqb-true, lt-leb}
use Rattle.std.proofs.lemmas.List.{drop-drop, drop-append-le, length-drop, take-append-le}
use Rattle.dw_base.specs.Cells.{Cell, Located, bytes_of, cells_at, field_of, offset_into, offset_of}
use Rattle.dw_base.specs.DebugData.{Around, line_table, start_number, unit_named}
use Rattle.dw_base.specs.FileViews.{View, field_at, section_bytes, view_cells}
use Rattle.dw_base.specs.Forms.{width_size}
use Rattle.dw_base.specs.Lebs.{uleb_at}
use Rattle.dw_base.specs.MacroHeaders.{has_flag, width_by, macro_header}
use Rattle.dw_base.specs.MacroMeanings.{EventMeaning, begun, ended, brought, MacroMeaning, MacroMark, begins_unit, has_line, has_event, no_event, text_event, operation_mark, read_mark, front_mark, offset_mark, macro_mark_by, MacrosBehind, no_macros_behind, with_macro_mark, macros_behind}
use Rattle.dw_base.specs.MacroOperations.{inline_behind, inline_operation, named_behind, named_operation, enter_behind, enter_operation, bring_operation, is_foreign, plain_operation, operation_of, operation_at}
use Rattle.dw_base.specs.MacroPieces.{OffsetUse, of_text, of_unit, OperationFront, whole, last, before_offset, MacroMode, at_unit, at_line, at_operation, at_offset, no_macros, MacroState, macros_at, whole_by, whole_if, line_if, front_by, front_of, IsUnitFront, FitsMacros, after_flags, after_operation, mode_behind, macro_grammar, ReadsMacros}
use Rattle.dw_base.specs.MacroUnits.{is_end}
use Rattle.dw_base.specs.Numbers.{spelled}
use Rattle.dw_base.specs.Pieces.{Piece, joined, Chain}
use Rattle.dw_base.specs.Texts.{ends_in, text_in}
use Rattle.dw_base.specs.declared.macro_numbers.TheConstants.{MACRO_END, DW_MACRO_define, DW_MACRO_undef, DW_MACRO_start_file, DW_MACRO_end_file, DW_MACRO_define_strp, DW_MACRO_undef_strp, DW_MACRO_import, OFFSET_SIZE_FLAG, DEBUG_LINE_OFFSET_FLAG}
use Rattle.dw_base.specs.declared.macro_units.MacroHeader.{MacroHeader}
use Rattle.dw_base.specs.declared.macro_units.MacroOperation.{MacroOperation}
use Rattle.dw_base.specs.declared.macro_units.MacroOperation.TheVariants.{End, Inline, Named, Enter, Leave, Bring, Foreign}
use Rattle.dw_base.specs.declared.shared.Order.{Order}
use Rattle.dw_base.specs.declared.shared.Width.{Width}
use Rattle.dw_base.specs.declared.shared.Width.TheVariants.{W32}
use Rattle.dw_base.specs.declared.view_fields.Field.{Field}
use Rattle.dw_base.proofs.ContributionBackLaws.{StandsAt, piece-stands, behind-piece, piece-inside}
use Rattle.dw_base.proofs.ViewCellLaws.{bytes_of-view_cells, field_at-piece, length-view_cells, piece-cells}
use Rattle.dw_base.proofs.UnitEditLaws.{length-bytes_of}
use Rattle.dw_base.specs.declared.debug_sections.DebugSection.TheVariants.{Str, Line, Macro}
use Rattle.dw_meaning.proofs.LineReadLaws.{bound, made, if-some, some-same}
use Rattle.dw_meaning.proofs.FieldPutLaws.{width-some}
use Rattle.dw_meaning.proofs.MacroBackLaws.{StandsThere, byte-at, header-lined, header-plain, spelled-at}
use Rattle.dw_meaning.proofs.MacroCutLaws.{if-case}
use Rattle.dw_meaning.proofs.MacroReadLaws.{moved_operation, read_as, front-some, WholeAt, front-there}

-- an operation as an event
abbrev pub operation_meaning : View → Around → ℕ → Width → MacroOperation → EventMeaning
operation_meaning v g section width End = ended
operation_meaning v g section width (Inline defines line at len) = text_event defines line (take len (drop at (section_bytes v section)))
operation_meaning v g section width (Named defines line field) =
    text_event defines line (text_in (g.stands Str).bytes (offset_into (g.stands Str) (field_at v section field (width_size width))))
operation_meaning v g section width (Enter line file) = begun line file
operation_meaning v g section width Leave = ended
operation_meaning v g section width (Bring field) = brought (unit_named (g.lasting.kept Macro) (field_at v section field (width_size width)))
operation_meaning v g section width Foreign = ended

-- the events from a place on, up to the operation that ends their unit, and where that ends
pub data EventsFrom (v : View) (g : Around) (section : ℕ) (width : Width) : ℕ → List EventMeaning → ℕ → Type 0 where
  events_over : (place end : ℕ) → operation_at (section_bytes v section) width place ≡ Some (End, end) → EventsFrom v g section width place [] end
  events_more : (place next end : ℕ) (o : MacroOperation) (es : List EventMeaning) → operation_at (section_bytes v section) width place ≡ Some (o, next) → is_end o ≡ false
      → EventsFrom v g section width next es end → EventsFrom v g section width place (operation_meaning v g section width o ∷ es) end

-- the number of the line table of a header
abbrev pub line_meant : View → Around → ℕ → MacroHeader → Option ℕ
line_meant v g section h =
    if h.has_line then start_number 0 (g.stands Line).starts (offset_into (g.stands Line).located (field_at v section h.line_field (width_size h.width))) else None

-- the units from a place of a section on, up to its end
pub data UnitsFrom (v : View) (g : Around) (section : ℕ) : ℕ → List MacroMeaning → Type 0 where
  units_over : (place : ℕ) → place ≡ length (section_bytes v section) → UnitsFrom v g section place []
  units_more : (place end : ℕ) (h : MacroHeader) (es : List EventMeaning) (ms : List MacroMeaning) → macro_header v.order (section_bytes v section) place ≡ Some h
      → EventsFrom v g section h.width h.first es end → UnitsFrom v g section end ms
      → UnitsFrom v g section place (record { version = h.version; line = line_meant v g section h; events = es } ∷ ms)

-- what an offset says
abbrev offset_event : View → Around → ℕ → Width → OffsetUse → ℕ → EventMeaning
offset_event v g section width (of_text defines line) place = operation_meaning v g section width (Named defines line place)
offset_event v g section width of_unit place = operation_meaning v g section width (Bring place)

-- what follows a place, by what comes next there

record UnitsBehind (v : View) (g : Around) (section place : ℕ) (b : MacrosBehind) : Type 0 where
  units : UnitsFrom v g section place b.units
  events : b.events ≡ []
  line : b.line ≡ None

record EventsBehind (v : View) (g : Around) (section : ℕ) (width : Width) (place : ℕ) (b : MacrosBehind) : Type 0 where
  end : ℕ
  events : EventsFrom v g section width place b.events end
  units : UnitsFrom v g section end b.units
  line : b.line ≡ None

record LineBehind (v : View) (g : Around) (section : ℕ) (width : Width) (place : ℕ) (b : MacrosBehind) : Type 0 where
  end : ℕ
  room : place + width_size width ≤ length (section_bytes v section)
  events : EventsFrom v g section width (place + width_size width) b.events end
  units : UnitsFrom v g section end b.units
  line : b.line ≡ start_number 0 (g.stands Line).starts (offset_into (g.stands Line).located (field_at v section place (width_size width)))

record OffsetBehind (v : View) (g : Around) (section : ℕ) (width : Width) (names : OffsetUse) (place : ℕ) (b : MacrosBehind) : Type 0 where
  end : ℕ
  more : List EventMeaning
  room : place + width_size width ≤ length (section_bytes v section)
  is : b.events ≡ offset_event v g section width names place ∷ more
  events : EventsFrom v g section width (place + width_size width) more end
  units : UnitsFrom v g section end b.units
  line : b.line ≡ None

abbrev MeantBy : MacroMode → View → Around → ℕ → ℕ → MacrosBehind → Type 0
MeantBy at_unit v g section place b = UnitsBehind v g section place b
MeantBy (at_line width) v g section place b = LineBehind v g section width place b
MeantBy (at_operation width) v g section place b = EventsBehind v g section width place b
MeantBy (at_offset width names) v g section place b = OffsetBehind v g section width names place b
MeantBy no_macros v g section place b = ⊤

-- a field of cells that stand in the view
field-is : (v : View) (section place : ℕ) (width : Width) (p : List Cell) → StandsAt (section_bytes v section) (bytes_of p) place → length p ≡ width_size width
    → StandsThere v section p place → field_of v.order p ≡ field_at v section place (width_size width)
field-is v section place width p h size there =
    let inside = h.inside in
    let bytes = length-bytes_of p in
    field_at-piece v section place p there (omega (arith, size, width-some width)) (omega (arith, inside, bytes)) ∙ ap (field_at v section place) size

offset-is : (v : View) (section place : ℕ) (width : Width) (p : List Cell) (z : Located) → StandsAt (section_bytes v section) (bytes_of p) place → length p ≡ width_size width
    → StandsThere v section p place → offset_of v.order z p ≡ offset_into z (field_at v section place (width_size width))
unfolding offset_of
offset-is v section place width p z h size there = ap (offset_into z) (field-is v section place width p h size there)

-- how long a text is that stands in its operation
inline-size : (xs : List ℕ) (defines own : Bool) (line at len n : ℕ) → inline_operation xs own 1 ≡ read_as (Inline defines line at len) n → at + (len + 1) ≡ n
unfolding inline_operation inline_behind
inline-size xs defines own line at len n e =
    let first = bound (λ (x : ℕ × ℕ). inline_behind xs own x.0 (1 + x.1)) (uleb_at xs 1) (Inline defines line at len, n) e in
    let both = if-some (ends_in xs (1 + first.first.1)) (read_as (Inline own first.first.0 (1 + first.first.1) (length (text_in xs (1 + first.first.1)))) (1 + first.first.1 + (length (text_in xs (1 + first.first.1)) + 1)))
    (Inline defines line at len, n) first.rest in
    parts (1 + first.first.1) (length (text_in xs (1 + first.first.1))) first.first.0 both.1
  where
    parts : (a m v : ℕ) → read_as (Inline own v a m) (a + (m + 1)) ≡ read_as (Inline defines line at len) n → at + (len + 1) ≡ n
    parts a m v g =
        let both = some-same (Inline own v a m, a + (m + 1)) (Inline defines line at len, n) g in
        let same : Inline own v a m ≡ Inline defines line at len = ap (λ (x : MacroOperation × ℕ). x.0) both in
        let end : a + (m + 1) ≡ n = ap (λ (x : MacroOperation × ℕ). x.1) both in
        let place : a ≡ at = place-same a m v same in
        let size : m ≡ len = size-same a m v same in
        omega (arith, place, size, end)
      where
        place-same : (a m v : ℕ) → Inline own v a m ≡ Inline defines line at len → a ≡ at
        place-same a m v e = cc

        size-same : (a m v : ℕ) → Inline own v a m ≡ Inline defines line at len → m ≡ len
        size-same a m v e = cc

not-inline : (r : MacroOperation) (m n line at len : ℕ) (defines : Bool) → read_as r m ≡ read_as (Inline defines line at len) n → r ≡ Inline defines line at len
not-inline r m n line at len defines e = ap (λ (x : MacroOperation × ℕ). x.0) (some-same (r, m) (Inline defines line at len, n) e)

named-not : (xs : List ℕ) (own defines : Bool) (line at len n : ℕ) → named_operation xs W32 own 1 ≡ read_as (Inline defines line at len) n → at + (len + 1) ≡ n
unfolding named_operation named_behind
named-not xs own defines line at len n e =
    let first = bound (λ (x : ℕ × ℕ). named_behind xs W32 own x.0 (1 + x.1)) (uleb_at xs 1) (Inline defines line at len, n) e in
    let both = if-some (nat_le (1 + first.first.1 + width_size W32) (length xs)) (read_as (Named own first.first.0 (1 + first.first.1)) (1 + first.first.1 + width_size W32)) (Inline defines line at len, n) first.rest in
    absurd (clash first.first.0 (1 + first.first.1) (not-inline (Named own first.first.0 (1 + first.first.1)) (1 + first.first.1 + width_size W32) n line at len defines both.1))
  where
    clash : (v a : ℕ) → Named own v a ≡ Inline defines line at len → ⊥
    clash v a g = cc

enter-not : (xs : List ℕ) (defines : Bool) (line at len n : ℕ) → enter_operation xs 1 ≡ read_as (Inline defines line at len) n → at + (len + 1) ≡ n
unfolding enter_operation enter_behind
enter-not xs defines line at len n e =
    let first = bound (λ (x : ℕ × ℕ). enter_behind xs x.0 (1 + x.1)) (uleb_at xs 1) (Inline defines line at len, n) e in
    let file = made (λ (x : ℕ × ℕ). (Enter first.first.0 x.0, 1 + first.first.1 + x.1)) (uleb_at xs (1 + first.first.1)) (Inline defines line at len, n) first.rest in
    absurd (clash first.first.0 file.first.0 (ap (λ (x : MacroOperation × ℕ). x.0) file.same))
  where
    clash : (v a : ℕ) → Enter v a ≡ Inline defines line at len → ⊥
    clash v a g = cc

bring-not : (xs : List ℕ) (defines : Bool) (line at len n : ℕ) → bring_operation xs W32 1 ≡ read_as (Inline defines line at len) n → at + (len + 1) ≡ n
unfolding bring_operation
bring-not xs defines line at len n e =
    let both = if-some (nat_le (1 + width_size W32) (length xs)) (read_as (Bring 1) (1 + width_size W32)) (Inline defines line at len, n) e in
    absurd (clash (not-inline (Bring 1) (1 + width_size W32) n line at len defines both.1))
  where
    clash : Bring 1 ≡ Inline defines line at len → ⊥
    clash g = cc

text-size : (xs : List ℕ) (op : ℕ) (defines : Bool) (line at len n : ℕ) → operation_of xs W32 op 1 ≡ read_as (Inline defines line at len) n → at + (len + 1) ≡ n
unfolding operation_of plain_operation
text-size xs op defines line at len n e =
    if-case (op == DW_MACRO_define) _ _ (Inline defines line at len, n) (λ is f. inline-size xs defines true line at len n f)
    (λ n1. if-case (op == DW_MACRO_undef) _ _ (Inline defines line at len, n) (λ is f. inline-size xs defines false line at len n f)
    (λ n2. if-case (op == DW_MACRO_define_strp) _ _ (Inline defines line at len, n) (λ is f. named-not xs true defines line at len n f)
    (λ n5. if-case (op == DW_MACRO_undef_strp) _ _ (Inline defines line at len, n) (λ is f. named-not xs false defines line at len n f)
    (λ n6. if-case (op == MACRO_END) _ _ (Inline defines line at len, n) (λ is f. absurd (end-not (not-inline End 1 n line at len defines f)))
    (λ n0. if-case (op == DW_MACRO_start_file) _ _ (Inline defines line at len, n) (λ is f. enter-not xs defines line at len n f)
    (λ n3. if-case (op == DW_MACRO_end_file) _ _ (Inline defines line at len, n) (λ is f. absurd (leave-not (not-inline Leave 1 n line at len defines f)))
    (λ n4. if-case (op == DW_MACRO_import) _ _ (Inline defines line at len, n) (λ is f. bring-not xs defines line at len n f)
    (λ n7. if-case (is_foreign op) _ _ (Inline defines line at len, n) (λ is f. absurd (foreign-not (not-inline Foreign 1 n line at len defines f))) (λ no_one f. absurd (none-not f)))))))))) e
  where
    end-not : End ≡ Inline defines line at len → ⊥
    end-not g = cc

    leave-not : Leave ≡ Inline defines line at len → ⊥
    leave-not g = cc

    foreign-not : Foreign ≡ Inline defines line at len → ⊥
    foreign-not g = cc

    none-not : None ≡ read_as (Inline defines line at len) n → ⊥
    none-not g = cc

-- a whole operation is the event at its place
part-there : (bs xs : List ℕ) (p at len : ℕ) → StandsAt bs xs p → at + len ≤ length xs → take len (drop at xs) ≡ take len (drop (p + at) bs)
part-there bs xs p at len h le =
    let there : drop (p + at) bs ≡ drop at xs ++ h.behind = sym (drop-drop at p bs) ∙ ap (drop at) h.is ∙ drop-append-le at xs h.behind (omega (arith, le)) in
    sym (ap (take len) there ∙ take-append-le len (drop at xs) h.behind (omega (arith, le, length-drop at xs)))

whole-mark : (v : View) (g : Around) (section place n op : ℕ) (width : Width) (xs : List ℕ) (o : MacroOperation) → StandsAt (section_bytes v section) xs place → n ≤ length xs
    → operation_of xs W32 op 1 ≡ Some (o, n) → whole_by o ≡ Some whole → operation_mark xs o ≡ has_event (operation_meaning v g section width (moved_operation place o))
whole-mark v g section place n op width xs End h le e k = absurd cc
whole-mark v g section place n op width xs (Inline d l a m) h le e k =
    let size = text-size xs op d l a m n e in
    ap (λ (t : List ℕ). has_event (text_event d l t)) (part-there (section_bytes v section) xs place a m h (omega (arith, size, le)))
whole-mark v g section place n op width xs (Named d l a) h le e k = absurd cc
whole-mark v g section place n op width xs (Enter l a) h le e k = refl
whole-mark v g section place n op width xs Leave h le e k = refl
whole-mark v g section place n op width xs (Bring a) h le e k = absurd cc
whole-mark v g section place n op width xs Foreign h le e k = absurd cc

last-mark : (xs : List ℕ) (o : MacroOperation) → whole_by o ≡ Some last → operation_mark xs o ≡ no_event
last-mark xs End k = refl
last-mark xs (Inline d l a m) k = absurd cc
last-mark xs (Named d l a) k = absurd cc
last-mark xs (Enter l a) k = absurd cc
last-mark xs Leave k = absurd cc
last-mark xs (Bring a) k = absurd cc
last-mark xs Foreign k = absurd cc

last-end : (place : ℕ) (o : MacroOperation) → whole_by o ≡ Some last → moved_operation place o ≡ End
last-end place End k = refl
last-end place (Inline d l a m) k = absurd cc
last-end place (Named d l a) k = absurd cc
last-end place (Enter l a) k = absurd cc
last-end place Leave k = absurd cc
last-end place (Bring a) k = absurd cc
last-end place Foreign k = absurd cc

whole-more : (place : ℕ) (o : MacroOperation) → whole_by o ≡ Some whole → is_end (moved_operation place o) ≡ false
whole-more place End k = absurd cc
whole-more place (Inline d l a m) k = refl
whole-more place (Named d l a) k = absurd cc
whole-more place (Enter l a) k = refl
whole-more place Leave k = refl
whole-more place (Bring a) k = absurd cc
whole-more place Foreign k = absurd cc

-- what stands in front of an offset is no event itself: there is no room for the offset
named-none : (xs : List ℕ) (own : Bool) (v k : ℕ) → uleb_at xs 1 ≡ Some (v, k) → 1 + k ≡ length xs → named_operation xs W32 own 1 ≡ None
unfolding named_operation named_behind
named-none xs own v k e size = rw (e, lt-leb (1 + k + width_size W32) (length xs) (omega (arith, size))) refl

bring-none : (xs : List ℕ) → length xs ≡ 1 → bring_operation xs W32 1 ≡ None
unfolding bring_operation
bring-none xs size = rw (lt-leb (1 + width_size W32) (length xs) (omega (arith, size))) refl

line-none : (xs : List ℕ) (defines own : Bool) (names : OffsetUse) → line_if defines (length xs) (uleb_at xs 1) ≡ Some (before_offset names) → named_operation xs W32 own 1 ≡ None
line-none xs defines own names e = by_line (uleb_at xs 1) refl e
  where
    by_line : (x : Option (ℕ × ℕ)) → uleb_at xs 1 ≡ x → line_if defines (length xs) x ≡ Some (before_offset names) → named_operation xs W32 own 1 ≡ None
    by_line None is g = absurd cc
    by_line (Some n) is g =
        let both = if-some (1 + n.1 == length xs) (Some (before_offset (of_text defines n.0))) (before_offset names) g in
        named-none xs own n.0 n.1 is (eqb-true (1 + n.1) (length xs) both.0)

offset-none : (xs : List ℕ) (op : ℕ) (names : OffsetUse) → front_by xs op ≡ Some (before_offset names) → read_mark xs (operation_of xs W32 op 1) ≡ no_event
unfolding front_by operation_of plain_operation
offset-none xs op names e =
    if-case (op == DW_MACRO_define_strp) _ _ (before_offset names)
    (λ is f. ap (λ (k : ℕ). read_mark xs (operation_of xs W32 k 1)) (eqb-true op DW_MACRO_define_strp is) ∙ ap (read_mark xs) (line-none xs true true names f))
    (λ n5. if-case (op == DW_MACRO_undef_strp) _ _ (before_offset names)
    (λ is f. ap (λ (k : ℕ). read_mark xs (operation_of xs W32 k 1)) (eqb-true op DW_MACRO_undef_strp is) ∙ ap (read_mark xs) (line-none xs false false names f))
    (λ n6. if-case (op == DW_MACRO_import) _ _ (before_offset names)
    (λ is f. ap (λ (k : ℕ). read_mark xs (operation_of xs W32 k 1)) (eqb-true op DW_MACRO_import is)
    ∙ ap (read_mark xs) (bring-none xs (eqb-true (length xs) 1 (if-some (length xs == 1) (Some (before_offset of_unit)) (before_offset names) f).0)))
    (λ n7 f. absurd (no_whole (operation_of xs W32 op 1) f)))) e
  where
    by_kind : (o : MacroOperation) → whole_by o ≡ Some (before_offset names) → ⊥
    by_kind End k = cc
    by_kind (Inline d l a n) k = cc
    by_kind (Named d l a) k = cc
    by_kind (Enter l a) k = cc
    by_kind Leave k = cc
    by_kind (Bring a) k = cc
    by_kind Foreign k = cc

    no_whole : (x : Option (MacroOperation × ℕ)) → whole_if (length xs) x ≡ Some (before_offset names) → ⊥
    no_whole None g = cc
    no_whole (Some o) g = by_kind o.0 (if-some (o.1 == length xs) (whole_by o.0) (before_offset names) g).1

-- a step over each piece

unit-meant : (v : View) (g : Around) (section place : ℕ) (p : List Cell) (b : MacrosBehind) → g.lasting.base.order ≡ v.order → StandsAt (section_bytes v section) (bytes_of p) place → IsUnitFront v.order p
    → MeantBy (after_flags (slice_index (bytes_of p) 2)) v g section (place + length p) b
    → UnitsBehind v g section place (with_macro_mark (begins_unit (spelled g.lasting.base.order (bytes_of p) 0 2)) b)
unit-meant v g section place p b order h f k = by_line (has_flag (slice_index (bytes_of p) 2) DEBUG_LINE_OFFSET_FLAG) refl k
  where
    size : length (bytes_of p) ≡ 3
    size = length-bytes_of p ∙ f.size

    end : place + length p ≡ place + 3
    end = ap (λ (n : ℕ). place + n) f.size

    version : spelled v.order (section_bytes v section) place 2 ≡ spelled v.order (bytes_of p) 0 2
    version = spelled-at v.order (section_bytes v section) (bytes_of p) place 2 h (omega (arith, size))

    flags : slice_index (section_bytes v section) (place + 2) ≡ slice_index (bytes_of p) 2
    flags = byte-at (section_bytes v section) (bytes_of p) place 2 h (omega (arith, size))

    width : Width
    width = width_by (has_flag (slice_index (bytes_of p) 2) OFFSET_SIZE_FLAG)

    made_of : (hd : MacroHeader) (line : Option ℕ) (es : List EventMeaning) (ms : List MacroMeaning) → hd.version ≡ spelled v.order (bytes_of p) 0 2 → line_meant v g section hd ≡ line
        → UnitsFrom v g section place (record { version = hd.version; line = line_meant v g section hd; events = es } ∷ ms)
        → UnitsFrom v g section place (record { version = spelled g.lasting.base.order (bytes_of p) 0 2; line = line; events = es } ∷ ms)
    made_of hd line es ms number is u =
        subst (λ (o : Order). UnitsFrom v g section place (record { version = spelled o (bytes_of p) 0 2; line = line; events = es } ∷ ms)) (sym order)
        (subst (λ (n : ℕ). UnitsFrom v g section place (record { version = n; line = line; events = es } ∷ ms)) number
        (subst (λ (l : Option ℕ). UnitsFrom v g section place (record { version = hd.version; line = l; events = es } ∷ ms)) is u))

    by_line : (x : Bool) → has_flag (slice_index (bytes_of p) 2) DEBUG_LINE_OFFSET_FLAG ≡ x
        → MeantBy (if x then at_line (width_by (has_flag (slice_index (bytes_of p) 2) OFFSET_SIZE_FLAG)) else at_operation (width_by (has_flag (slice_index (bytes_of p) 2) OFFSET_SIZE_FLAG))) v g section (place + length p) b
        → UnitsBehind v g section place (with_macro_mark (begins_unit (spelled g.lasting.base.order (bytes_of p) 0 2)) b)
    by_line true line k =
        let own : LineBehind v g section (width_by (has_flag (slice_index (bytes_of p) 2) OFFSET_SIZE_FLAG)) (place + 3) b =
        subst (λ (n : ℕ). LineBehind v g section (width_by (has_flag (slice_index (bytes_of p) 2) OFFSET_SIZE_FLAG)) n b) end k in
        let hd : MacroHeader = record {
          version = spelled v.order (bytes_of p) 0 2;
          width = width_by (has_flag (slice_index (bytes_of p) 2) OFFSET_SIZE_FLAG);
          has_line = true;
          line_field = place + 3;
          first = place + 3 + width_size (width_by (has_flag (slice_index (bytes_of p) 2) OFFSET_SIZE_FLAG));
        } in
        record {
          units = made_of (record {
            version = spelled v.order (bytes_of p) 0 2;
            width = width_by (has_flag (slice_index (bytes_of p) 2) OFFSET_SIZE_FLAG);
            has_line = true;
            line_field = place + 3;
            first = place + 3 + width_size (width_by (has_flag (slice_index (bytes_of p) 2) OFFSET_SIZE_FLAG));
          }) b.line b.events b.units refl (sym own.line)
              (units_more place own.end _ b.events b.units
              (header-lined v section place (spelled v.order (bytes_of p) 0 2) (slice_index (bytes_of p) 2) version flags f.version f.operands line own.room) own.events own.units);
          events = refl;
          line = refl;
        }
    by_line false line k =
        let own : EventsBehind v g section (width_by (has_flag (slice_index (bytes_of p) 2) OFFSET_SIZE_FLAG)) (place + 3) b =
        subst (λ (n : ℕ). EventsBehind v g section (width_by (has_flag (slice_index (bytes_of p) 2) OFFSET_SIZE_FLAG)) n b) end k in
        let inside = h.inside in
        record {
          units = made_of (record {
            version = spelled v.order (bytes_of p) 0 2;
            width = width_by (has_flag (slice_index (bytes_of p) 2) OFFSET_SIZE_FLAG);
            has_line = false;
            line_field = 0;
            first = place + 3;
          }) b.line b.events b.units refl (sym own.line)
              (units_more place own.end _ b.events b.units
              (header-plain v section place (spelled v.order (bytes_of p) 0 2) (slice_index (bytes_of p) 2) (omega (arith, inside, size)) version flags f.version f.operands line) own.events own.units);
          events = refl;
          line = refl;
        }

line-meant : (v : View) (g : Around) (section place : ℕ) (width : Width) (p : List Cell) (b : MacrosBehind) → g.lasting.base.order ≡ v.order → StandsAt (section_bytes v section) (bytes_of p) place
    → length p ≡ width_size width → StandsThere v section p place → EventsBehind v g section width (place + length p) b → LineBehind v g section width place (with_macro_mark (has_line (line_table g p)) b)
line-meant v g section place width p b order h size there k =
    let inside = h.inside in
    let bytes = length-bytes_of p in
    record {
      end = k.end;
      room = omega (arith, inside, bytes, size);
      events = subst (λ (n : ℕ). EventsFrom v g section width n b.events k.end) (ap (λ (n : ℕ). place + n) size) k.events;
      units = k.units;
      line = ap (λ (o : Order). start_number 0 (g.stands Line).starts (offset_of o (g.stands Line).located p)) order ∙ ap (start_number 0 (g.stands Line).starts) (offset-is v section place width p (g.stands Line).located h size there);
    }

front-meant : (v : View) (g : Around) (section place : ℕ) (width : Width) (p : List Cell) (f : OperationFront) (b : MacrosBehind) → StandsAt (section_bytes v section) (bytes_of p) place
    → front_of (bytes_of p) ≡ Some f → MeantBy (after_operation width (Some f)) v g section (place + length p) b → EventsBehind v g section width place (with_macro_mark (front_mark (bytes_of p)) b)
unfolding front_mark
front-meant v g section place width p whole b h e k =
    let w : WholeAt whole (section_bytes v section) (bytes_of p) width place = front-there (section_bytes v section) (bytes_of p) width place whole h tt e in
    let end : place + length (bytes_of p) ≡ place + length p = ap (λ (n : ℕ). place + n) (length-bytes_of p) in
    let mark : read_mark (bytes_of p) (operation_of (bytes_of p) W32 (slice_index (bytes_of p) 0) 1) ≡ has_event (operation_meaning v g section width (moved_operation place w.operation)) =
    ap (read_mark (bytes_of p)) w.own
    ∙ whole-mark v g section place (length (bytes_of p)) (slice_index (bytes_of p) 0) width (bytes_of p) w.operation h (omega arith) w.own w.kind in
    subst (λ (m : MacroMark). EventsBehind v g section width place (with_macro_mark m b)) (sym mark)
    (record {
      end = k.end;
      events = events_more place (place + length (bytes_of p)) k.end (moved_operation place w.operation) b.events w.is (whole-more place w.operation w.kind)
          (subst (λ (n : ℕ). EventsFrom v g section width n b.events k.end) (sym end) k.events);
      units = k.units;
      line = k.line;
    })
front-meant v g section place width p last b h e k =
    let w : WholeAt last (section_bytes v section) (bytes_of p) width place = front-there (section_bytes v section) (bytes_of p) width place last h tt e in
    let end : place + length (bytes_of p) ≡ place + length p = ap (λ (n : ℕ). place + n) (length-bytes_of p) in
    let mark : read_mark (bytes_of p) (operation_of (bytes_of p) W32 (slice_index (bytes_of p) 0) 1) ≡ no_event = ap (read_mark (bytes_of p)) w.own ∙ last-mark (bytes_of p) w.operation w.kind in
    let over : operation_at (section_bytes v section) width place ≡ read_as End (place + length p) =
    w.is ∙ ap (λ (o : MacroOperation). read_as o (place + length (bytes_of p))) (last-end place w.operation w.kind) ∙ ap (read_as End) end in
    subst (λ (m : MacroMark). EventsBehind v g section width place (with_macro_mark m b)) (sym mark)
    (record {
      end = place + length p;
      events = subst (λ (es : List EventMeaning). EventsFrom v g section width place es (place + length p)) (sym k.events) (events_over place (place + length p) over);
      units = k.units;
      line = k.line;
    })
front-meant v g section place width p (before_offset (of_text defines line)) b h e k =
    let some = front-some (bytes_of p) (before_offset (of_text defines line)) e in
    let end : place + length (bytes_of p) ≡ place + length p = ap (λ (n : ℕ). place + n) (length-bytes_of p) in
    let room = k.room in
    let at : operation_at (section_bytes v section) width place ≡ read_as (Named defines line (place + length (bytes_of p))) (place + length (bytes_of p) + width_size width) =
    front-there (section_bytes v section) (bytes_of p) width place (before_offset (of_text defines line)) h (record { room = omega (arith, room, end) }) e in
    let here : operation_at (section_bytes v section) width place ≡ read_as (Named defines line (place + length p)) (place + length p + width_size width) =
    at ∙ ap (λ (n : ℕ). read_as (Named defines line n) (n + width_size width)) end in
    subst (λ (m : MacroMark). EventsBehind v g section width place (with_macro_mark m b)) (sym (offset-none (bytes_of p) (slice_index (bytes_of p) 0) (of_text defines line) some.1))
    (record {
      end = k.end;
      events = subst (λ (es : List EventMeaning). EventsFrom v g section width place es k.end) (sym k.is)
          (events_more place (place + length p + width_size width) k.end (Named defines line (place + length p)) k.more here refl k.events);
      units = k.units;
      line = k.line;
    })
front-meant v g section place width p (before_offset of_unit) b h e k =
    let some = front-some (bytes_of p) (before_offset of_unit) e in
    let end : place + length (bytes_of p) ≡ place + length p = ap (λ (n : ℕ). place + n) (length-bytes_of p) in
    let room = k.room in
    let at : operation_at (section_bytes v section) width place ≡ read_as (Bring (place + length (bytes_of p))) (place + length (bytes_of p) + width_size width) =
    front-there (section_bytes v section) (bytes_of p) width place (before_offset of_unit) h (record { room = omega (arith, room, end) }) e in
    let here : operation_at (section_bytes v section) width place ≡ read_as (Bring (place + length p)) (place + length p + width_size width) =
    at ∙ ap (λ (n : ℕ). read_as (Bring n) (n + width_size width)) end in
    subst (λ (m : MacroMark). EventsBehind v g section width place (with_macro_mark m b)) (sym (offset-none (bytes_of p) (slice_index (bytes_of p) 0) of_unit some.1))
    (record {
      end = k.end;
      events = subst (λ (es : List EventMeaning). EventsFrom v g section width place es k.end) (sym k.is)
          (events_more place (place + length p + width_size width) k.end (Bring (place + length p)) k.more here refl k.events);
      units = k.units;
      line = k.line;
    })

offset-meant : (v : View) (g : Around) (section place : ℕ) (width : Width) (names : OffsetUse) (p : List Cell) (b : MacrosBehind) → g.lasting.base.order ≡ v.order
    → StandsAt (section_bytes v section) (bytes_of p) place → length p ≡ width_size width → StandsThere v section p place → EventsBehind v g section width (place + length p) b
    → OffsetBehind v g section width names place (with_macro_mark (offset_mark names g p) b)
offset-meant v g section place width names p b order h size there k =
    let inside = h.inside in
    let bytes = length-bytes_of p in
    by_use names (omega (arith, inside, bytes, size))
  where
    by_use : (names : OffsetUse) → place + width_size width ≤ length (section_bytes v section) → OffsetBehind v g section width names place (with_macro_mark (offset_mark names g p) b)
    by_use (of_text defines line) room = record {
      end = k.end;
      more = b.events;
      room = room;
      is = ap (λ (n : ℕ). text_event defines line (text_in (g.stands Str).bytes n) ∷ b.events)
          (ap (λ (o : Order). offset_of o (g.stands Str) p) order ∙ offset-is v section place width p (g.stands Str) h size there);
      events = subst (λ (n : ℕ). EventsFrom v g section width n b.events k.end) (ap (λ (n : ℕ). place + n) size) k.events;
      units = k.units;
      line = k.line;
    }
    by_use of_unit room = record {
      end = k.end;
      more = b.events;
      room = room;
      is = ap (λ (f : Field). brought (unit_named (g.lasting.kept Macro) f) ∷ b.events)
          (ap (λ (o : Order). field_of o p) order ∙ field-is v section place width p h size there);
      events = subst (λ (n : ℕ). EventsFrom v g section width n b.events k.end) (ap (λ (n : ℕ). place + n) size) k.events;
      units = k.units;
      line = k.line;
    }

piece-meant : (m : MacroMode) (v : View) (g : Around) (section place : ℕ) (p : List Cell) (b : MacrosBehind) → g.lasting.base.order ≡ v.order → StandsAt (section_bytes v section) (bytes_of p) place
    → FitsMacros m v.order p → StandsThere v section p place → MeantBy (mode_behind m (bytes_of p)) v g section (place + length p) b → MeantBy m v g section place (with_macro_mark (macro_mark_by m g p) b)
piece-meant at_unit v g section place p b order h f there k = unit-meant v g section place p b order h f k
piece-meant (at_line width) v g section place p b order h f there k = line-meant v g section place width p b order h f there k
piece-meant (at_operation width) v g section place p b order h f there k =
    front-meant v g section place width p f.front b h f.is (subst (λ (o : Option OperationFront). MeantBy (after_operation width o) v g section (place + length p) b) f.is k)
piece-meant (at_offset width names) v g section place p b order h f there k = offset-meant v g section place width names p b order h f there k
piece-meant no_macros v g section place p b order h f there k = tt

pieces-meant : (v : View) (g : Around) (section : ℕ) (cells : List Cell) (s : MacroState) (xs : List (Piece MacroState)) → g.lasting.base.order ≡ v.order → cells ≡ view_cells v section
    → s.place ≤ length cells → drop s.place cells ≡ joined xs → Chain (macro_grammar v.order) s xs → MeantBy s.mode v g section s.place (macros_behind g xs)
pieces-meant v g section cells s [] order same inside is chain =
    let size : length (drop s.place cells) ≡ 0 = ap length is in
    let place : s.place ≡ length (section_bytes v section) = omega (arith, inside, size, length-drop s.place cells, ap length same, length-view_cells v section) in
    subst (λ (m : MacroMode). MeantBy m v g section s.place no_macros_behind) (sym chain) (record { units = units_over s.place place; events = refl; line = refl })
pieces-meant v g section cells s (x ∷ xs) order same inside is chain =
    let stands : StandsAt (section_bytes v section) (bytes_of x.cells) s.place =
    subst (λ (bs : List ℕ). StandsAt bs (bytes_of x.cells) s.place) (ap bytes_of same ∙ bytes_of-view_cells v section)
    (piece-stands cells x.cells (joined xs) s.place inside is) in
    let there : StandsThere v section x.cells s.place =
    ap (λ (cs : List Cell). cells_at cs s.place (length x.cells)) (sym same) ∙ piece-cells cells x.cells (joined xs) s.place is in
    let place : x.state.place + length x.cells ≡ s.place + length x.cells = ap (λ (z : MacroState). z.place + length x.cells) chain.0 in
    let next = pieces-meant v g section cells (macros_at (x.state.place + length x.cells) (mode_behind x.state.mode (bytes_of x.cells))) xs order same
    (subst (λ (n : ℕ). n ≤ length cells) (sym place) (piece-inside cells x.cells (joined xs) s.place inside is))
    (ap (λ (n : ℕ). drop n cells) place ∙ behind-piece cells x.cells (joined xs) s.place is) chain.2 in
    let here : MeantBy x.state.mode v g section s.place (with_macro_mark (macro_mark_by x.state.mode g x.cells) (macros_behind g xs)) =
    piece-meant x.state.mode v g section s.place x.cells (macros_behind g xs) order stands chain.1 there
    (subst (λ (n : ℕ). MeantBy (mode_behind x.state.mode (bytes_of x.cells)) v g section n (macros_behind g xs)) place next) in
    subst (λ (m : MacroMode). MeantBy m v g section s.place (with_macro_mark (macro_mark_by x.state.mode g x.cells) (macros_behind g xs))) (ap (λ (z : MacroState). z.mode) chain.0) here

-- the units of a section that is pieces mean what stands at their places
pub units-meant : (v : View) (g : Around) (section : ℕ) (cells : List Cell) (xs : List (Piece MacroState)) → g.lasting.base.order ≡ v.order → cells ≡ view_cells v section
    → ReadsMacros v.order cells xs → UnitsFrom v g section 0 (macros_behind g xs).units
units-meant v g section cells xs order same reads =
    (pieces-meant v g section cells (macros_at 0 at_unit) xs order same (omega arith) (sym reads.cells) reads.chain).units
