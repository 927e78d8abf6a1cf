-- Macro units whose offsets name what they are to name, as they were read: so do the offsets among the pieces of their sections.
use Rattle.std.specs.Prelude.{Result, Ok, Err, option_map}
use Rattle.std.proofs.Common.{Bool, true, false, ◌≡◌, ℕ, ◌+◌, ◌≤◌, nat_le, List, [], ◌∷◌, length, take, drop, slice_index, IsTrue, Option, Some, None, refl, sym, ap, ◌∙◌, subst, arith, if◌then◌else◌}
use Rattle.std.proofs.lemmas.Bool.{leb-true}
use Rattle.dw_base.specs.Cells.{Cell, CellSection, Located, cells_at, field_of, located_cells, offset_into, offset_of, is_placed}
use Rattle.dw_base.specs.DebugData.{start_number, DebugData}
use Rattle.dw_base.specs.FileViews.{View, field_at, section_bytes}
use Rattle.dw_base.specs.Forms.{width_size}
use Rattle.dw_base.specs.LineMeanings.{is_there}
use Rattle.dw_base.specs.MacroHeaders.{is_macro_version, has_flag, width_by, header_by, header_of, macro_header}
use Rattle.dw_base.specs.MacroOperations.{operation_at}
use Rattle.dw_base.specs.MacroPieces.{OffsetUse, of_text, of_unit, at_line, at_offset, MacroMode, MacroState}
use Rattle.dw_base.specs.MacroUnits.{offset_at, names_text, taken, taken_if, unit_operation, is_end, OperationsUpTo, no_operations, more_operations, IsMacroUnit, unit_with, nameless, AreMacroUnits}
use Rattle.dw_base.specs.Numbers.{spelled}
use Rattle.dw_base.specs.Refusals.{at}
use Rattle.dw_base.specs.ViewData.{debug_data, located}
use Rattle.dw_base.specs.declared.debug_sections.DebugSection.TheVariants.{Line, Macro as macro_table, Str}
use Rattle.dw_base.specs.declared.fault.Kind.TheVariants.{Macro, Supplementary}
use Rattle.dw_base.specs.declared.fault.Refusal.{Refusal}
use Rattle.dw_base.specs.declared.line_tables.TextPlace.{TextPlace}
use Rattle.dw_base.specs.declared.macro_numbers.TheConstants.{OFFSET_SIZE_FLAG, DEBUG_LINE_OFFSET_FLAG, OPCODE_OPERANDS_TABLE_FLAG}
use Rattle.dw_base.specs.declared.macro_units.MacroEvent.{MacroEvent}
use Rattle.dw_base.specs.declared.macro_units.MacroEvent.TheVariants.{StartFile, EndFile}
use Rattle.dw_base.specs.declared.macro_units.MacroHeader.{MacroHeader}
use Rattle.dw_base.specs.declared.macro_units.MacroOperation.{MacroOperation}
use Rattle.dw_base.specs.declared.macro_units.MacroOperation.TheVariants.{End, Inline, Named, Enter, Leave, Bring, Foreign}
use Rattle.dw_base.specs.declared.macro_units.MacroUnit.{MacroUnit}
use Rattle.dw_base.specs.declared.shared.Order.{Order}
use Rattle.dw_base.specs.declared.shared.Width.{Width}
use Rattle.dw_base.proofs.ViewCellLaws.{field_at-cells, lines-located}
use Rattle.dw_macros.proofs.UnitListLaws.{read-units}
use Rattle.dw_macros.proofs.EventLaws.{unit-whole}
use Rattle.dw_macros.specs.MacroEvents.{IsUnitIn, SpellsEvents, over, one_event, event_by, event_if, event_in, import_at, inline_place, named_place, text_event, unit_events, import_of}
use Rattle.dw_meaning.proofs.LineReadLaws.{if-some, some-same}
use Rattle.dw_meaning.proofs.FieldPutLaws.{width-some}
use Rattle.dw_meaning.proofs.MacroCutLaws.{FrontCut, operation-cut}
use Rattle.dw_meaning.proofs.MacroPieceLaws.{Asked, CellsOf, EachUnit, offset_piece, offset_use, text-named}
use Rattle.dw_meaning.proofs.MacroReadLaws.{read_as}
use Rattle.dw_starts.specs.MacroNames.{AreUnitsIn, EventNames, EventsName, LineNames, MacrosName, UnitsName}
use Rattle.dw_starts.specs.MacroSections.{HaveUnits, SectionUnits, UnitsFoundIn}
use Rattle.dw_starts.specs.UnitPlaces.{UnitPlaces, has_unit, names_place}
use Rattle.dw_starts.proofs.MacroNumberLaws.{AllBelow, AllCells, numbers-below}
use Rattle.dw_starts.proofs.MacroNameLaws.{in-run}
use Rattle.dw_starts.proofs.MacroStartLaws.{all-cells}
use Rattle.dw_base.specs.MacroOffsets.{FieldReads, OperationReads, ReadsFrom, one_there, over_there}
use Rattle.dw_base.specs.declared.view_fields.Field.{Field}
use Rattle.dw_base.specs.declared.view_fields.Field.TheVariants.{Num, Into, Sym}
use Rattle.dw_base.proofs.ViewOffsetLaws.{offset-is}
use Rattle.std.specs.Bool.{⊤}
use Rattle.dw_base.specs.Pieces.{Piece}
use Rattle.dw_base.specs.Texts.{ends_in}

-- what a piece is to name, by starts and places
abbrev pub NamesBy : MacroMode → DebugData → List ℕ → UnitPlaces → List Cell → Type 0
NamesBy (at_line width) d starts places p = IsTrue (is_there (start_number 0 starts (offset_of d.base.order (located_cells (d.found Line)) p)))
NamesBy (at_offset width (of_text defines line)) d starts places p = IsTrue (ends_in (d.found Str).bytes (offset_of d.base.order (d.found Str) p))
NamesBy (at_offset width of_unit) d starts places p = IsTrue (names_place places (field_of d.base.order p))
NamesBy m d starts places p = ⊤

abbrev pub PieceNames : DebugData → List ℕ → UnitPlaces → Piece MacroState → Type 0
PieceNames d starts places x = NamesBy x.state.mode d starts places x.cells

-- the units of sections, of which each offset is one of a piece that names so
abbrev pub AllAsked : View → (Piece MacroState → Type 0) → List CellSection → List SectionUnits → Type 0
AllAsked v P [] [] = ⊤
AllAsked v P [] (s ∷ ss) = ⊥
AllAsked v P (z ∷ zs) [] = ⊥
AllAsked v P (z ∷ zs) (s ∷ ss) =
    CellsOf v z.number z.contents × (s.number ≡ z.number) × AreMacroUnits v z.number s.units
    × EachUnit (Asked v z.number z.contents P) s.units × AllAsked v P zs ss

-- what a field holds is what stands in the view
pub field-there : (v : View) (section : ℕ) (cells : List Cell) (width : Width) (field : ℕ) → CellsOf v section cells → field + width_size width ≤ length (section_bytes v section)
    → field_of v.order (take (width_size width) (drop field cells)) ≡ field_at v section field (width_size width)
field-there v section cells width field c inside =
    ap (λ (cs : List Cell). field_of v.order (cells_at cs field (width_size width))) c.same
    ∙ field_at-cells v section field (width_size width) (width-some width) inside

pub lines-same : (v : View) → located_cells ((debug_data v).found Line) ≡ located v Line
lines-same v = lines-located v

pub line-there : (v : View) (section : ℕ) (cells : List Cell) (width : Width) (field : ℕ) → CellsOf v section cells → field + width_size width ≤ length (section_bytes v section)
    → offset_of v.order (located_cells ((debug_data v).found Line)) (take (width_size width) (drop field cells)) ≡ offset_at v (located v Line) section field width
unfolding offset_of
line-there v section cells width field c inside =
    ap (λ (z : Located). offset_into z (field_of v.order (take (width_size width) (drop field cells)))) (lines-same v)
    ∙ ap (offset_into (located v Line)) (field-there v section cells width field c inside)

-- a header without the offset of a line table, and one with it
abbrev pub plain_header : ℕ → Width → ℕ → MacroHeader
plain_header version w place = record { version = version; width = w; has_line = false; line_field = 0; first = place }

abbrev pub lined_header : ℕ → Width → ℕ → MacroHeader
lined_header version w place = record { version = version; width = w; has_line = true; line_field = place; first = place + width_size w }

-- the offset lies in the section
pub line-room : (order : Order) (bytes : List ℕ) (start : ℕ) (h : MacroHeader) → macro_header order bytes start ≡ Some h → h.has_line ≡ true → h.line_field + width_size h.width ≤ length bytes
unfolding macro_header header_of header_by
line-room order bytes start h e has =
    let room = if-some (nat_le (start + 3) (length bytes)) (header_of bytes (spelled order bytes start 2) (slice_index bytes (start + 2)) (start + 3)) h e in
    let version = if-some (is_macro_version (spelled order bytes start 2))
    (if has_flag (slice_index bytes (start + 2)) OPCODE_OPERANDS_TABLE_FLAG then None
    else header_by bytes (spelled order bytes start 2) (width_by (has_flag (slice_index bytes (start + 2)) OFFSET_SIZE_FLAG)) (has_flag (slice_index bytes (start + 2)) DEBUG_LINE_OFFSET_FLAG) (start + 3))
    h room.1 in
    by_operands (has_flag (slice_index bytes (start + 2)) OPCODE_OPERANDS_TABLE_FLAG) version.1
  where
    clash : (n p : ℕ) (w : Width) → plain_header n w p ≡ h → ⊥
    clash n p w same =
        let none : false ≡ true = ap (λ (x : MacroHeader). x.has_line) same ∙ has in
        absurd cc

    by_line : (b : Bool) (n p : ℕ) (w : Width) → header_by bytes n w b p ≡ Some h → h.line_field + width_size h.width ≤ length bytes
    by_line false n p w g = absurd (clash n p w (some-same (plain_header n w p) h g))
    by_line true n p w g =
        let both = if-some (nat_le (p + width_size w) (length bytes)) (Some (lined_header n w p)) h g in
        subst (λ (x : MacroHeader). x.line_field + width_size x.width ≤ length bytes) (some-same (lined_header n w p) h both.1)
        (leb-true (p + width_size w) (length bytes) both.0)

    by_operands : (b : Bool) → (if b then None else header_by bytes (spelled order bytes start 2) (width_by (has_flag (slice_index bytes (start + 2)) OFFSET_SIZE_FLAG))
        (has_flag (slice_index bytes (start + 2)) DEBUG_LINE_OFFSET_FLAG) (start + 3)) ≡ Some h → h.line_field + width_size h.width ≤ length bytes
    by_operands true g = absurd cc
    by_operands false g =
        by_line (has_flag (slice_index bytes (start + 2)) DEBUG_LINE_OFFSET_FLAG) (spelled order bytes start 2) (start + 3)
        (width_by (has_flag (slice_index bytes (start + 2)) OFFSET_SIZE_FLAG)) g

-- the line table of a unit
abbrev line_if : View → ℕ → MacroHeader → Bool → Option ℕ
line_if v section h has = if has then Some (offset_at v (located v Line) section h.line_field h.width) else None

line-named : (v : View) (starts : List ℕ) (places : UnitPlaces) (section start : ℕ) (cells : List Cell) (u : MacroUnit) → CellsOf v section cells → (is : IsMacroUnit v section start u) → LineNames starts u.line
    → is.header.has_line ≡ true → PieceNames (debug_data v) starts places (offset_piece cells (at_line is.header.width) is.header.width is.header.line_field)
unfolding debug_data
line-named v starts places section start cells u c is names has =
    let room = line-room v.order (section_bytes v section) start is.header is.header_is has in
    let line : u.line ≡ Some (offset_at v (located v Line) section is.header.line_field is.header.width) =
    ap (λ (x : MacroUnit). x.line) is.is ∙ ap (line_if v section is.header) has in
    ap (λ (n : ℕ). is_there (start_number 0 starts n)) (line-there v section cells is.header.width is.header.line_field c room) ∙ subst (LineNames starts) line names

-- an operation that isn't refused was read
abbrev pub ok_read : MacroOperation → ℕ → Result (MacroOperation × ℕ) Refusal
ok_read o next = Ok (o, next)

ok-same : (x y : MacroOperation × ℕ) → ◌≡◌ {A = Result (MacroOperation × ℕ) Refusal} (Ok x) (Ok y) → x ≡ y
ok-same x y e = cc

err-ok : (r : Refusal) (y : MacroOperation × ℕ) → ◌≡◌ {A = Result (MacroOperation × ℕ) Refusal} (Err r) (Ok y) → ⊥
err-ok r y e = cc

taken-same : (v : View) (section : ℕ) (width : Width) (place : ℕ) (r o : MacroOperation) (m next : ℕ) → taken v section width place r m ≡ ok_read o next
    → ◌≡◌ {A = MacroOperation × ℕ} (r, m) (o, next)
taken-same v section width place End o m next e = ok-same (End, m) (o, next) e
taken-same v section width place (Inline d l a n) o m next e = ok-same (Inline d l a n, m) (o, next) e
taken-same v section width place (Named d l field) o m next e = by_text (names_text v section width field) e
  where
    by_text : (b : Bool) → (if b then ok_read (Named d l field) m else Err (at (nameless (field_at v section field (width_size width))) section field)) ≡ ok_read o next → ◌≡◌ {A = MacroOperation × ℕ} (Named d l field, m) (o, next)
    by_text true g = ok-same (Named d l field, m) (o, next) g
    by_text false g = absurd (err-ok (at (nameless (field_at v section field (width_size width))) section field) (o, next) g)
taken-same v section width place (Enter l f) o m next e = ok-same (Enter l f, m) (o, next) e
taken-same v section width place Leave o m next e = ok-same (Leave, m) (o, next) e
taken-same v section width place (Bring f) o m next e = ok-same (Bring f, m) (o, next) e
taken-same v section width place Foreign o m next e = absurd (err-ok (at Supplementary section place) (o, next) e)

pub operation-read : (v : View) (section start place : ℕ) (width : Width) (o : MacroOperation) (next : ℕ) → unit_operation v section start width place ≡ ok_read o next
    → operation_at (section_bytes v section) width place ≡ read_as o next
unfolding unit_operation
operation-read v section start place width o next e = by_read (operation_at (section_bytes v section) width place) refl e
  where
    by_read : (x : Option (MacroOperation × ℕ)) → operation_at (section_bytes v section) width place ≡ x → taken_if v section start width place x ≡ ok_read o next
        → operation_at (section_bytes v section) width place ≡ read_as o next
    by_read None is g = absurd (err-ok (at Macro section start) (o, next) g)
    by_read (Some r) is g = is ∙ ap (λ (x : MacroOperation × ℕ). Some x) (taken-same v section width place r.0 o r.1 next g)

-- an event that was read ends where its operation does
abbrev pub event_read : MacroEvent → ℕ → Option (MacroEvent × ℕ)
event_read e n = Some (e, n)

pub event-same : (e f : MacroEvent) (n m : ℕ) → event_read e n ≡ event_read f m → (e ≡ f) × (n ≡ m)
event-same e f n m h =
    let both = some-same (e, n) (f, m) h in
    (ap (λ (x : MacroEvent × ℕ). x.0) both, ap (λ (x : MacroEvent × ℕ). x.1) both)

pub none-event : (e : MacroEvent) (n : ℕ) → None ≡ event_read e n → ⊥
none-event e n h = cc

abbrev text_pair : Bool → ℕ → ℕ → TextPlace → MacroEvent × ℕ
text_pair d l n t = (text_event d l t, n)

text-ends : (d : Bool) (l n m : ℕ) (e : MacroEvent) (x : Option TextPlace) → option_map (text_pair d l n) x ≡ event_read e m → n ≡ m
text-ends d l n m e None h = absurd (none-event e m h)
text-ends d l n m e (Some t) h = (event-same (text_event d l t) e n m h).1

pub event-ends : (v : View) (section : ℕ) (width : Width) (o : MacroOperation) (n m : ℕ) (e : MacroEvent) → event_by v section width o n ≡ event_read e m → n ≡ m
unfolding event_by
event-ends v section width End n m e h = absurd (none-event e m h)
event-ends v section width (Inline d l a k) n m e h = (event-same (text_event d l (inline_place section a k)) e n m h).1
event-ends v section width (Named d l field) n m e h = text-ends d l n m e (named_place v section width field) h
event-ends v section width (Enter l f) n m e h = (event-same (StartFile l f) e n m h).1
event-ends v section width Leave n m e h = (event-same EndFile e n m h).1
event-ends v section width (Bring field) n m e h = (event-same (import_at v section width field) e n m h).1
event-ends v section width Foreign n m e h = absurd (none-event e m h)

pub event-next : (v : View) (section : ℕ) (width : Width) (place : ℕ) (o : MacroOperation) (n m : ℕ) (e : MacroEvent) → operation_at (section_bytes v section) width place ≡ read_as o n
    → event_in v section width place ≡ event_read e m → n ≡ m
unfolding event_in
event-next v section width place o n m e is h = event-ends v section width o n m e (sym (ap (event_if v section width) is) ∙ h)

-- one that brings a unit is that operation's
import-is : (v : View) (section : ℕ) (width : Width) (place n m field : ℕ) (e : MacroEvent) → operation_at (section_bytes v section) width place ≡ read_as (Bring field) n
    → event_in v section width place ≡ event_read e m → import_at v section width field ≡ e
unfolding event_in event_by
import-is v section width place n m field e is h = (event-same (import_at v section width field) e n m (sym (ap (event_if v section width) is) ∙ h)).0

-- the events that are left at a place
record EventsLeft (v : View) (places : UnitPlaces) (section : ℕ) (width : Width) (place : ℕ) : Type 0 where
  end : ℕ
  events : List MacroEvent
  spells : SpellsEvents v section width place events end
  names : EventsName places events
  reads : ReadsFrom v section width place

pub end-not : (o : MacroOperation) (n m : ℕ) (x : Option (MacroOperation × ℕ)) → x ≡ read_as o n → x ≡ read_as End m → is_end o ≡ false → ⊥
end-not o n m x a b more =
    let same : o ≡ End = ap (λ (y : MacroOperation × ℕ). y.0) (some-same (o, n) (End, m) (sym a ∙ b)) in
    let ends : false ≡ true = sym more ∙ ap is_end same in
    absurd cc

reads-behind : (v : View) (section : ℕ) (width : Width) (place next : ℕ) (o : MacroOperation) → operation_at (section_bytes v section) width place ≡ read_as o next → is_end o ≡ false
    → ReadsFrom v section width place → ReadsFrom v section width next
reads-behind v section width place next o is more (over_there p q ends) =
    absurd (end-not o next q (operation_at (section_bytes v section) width p) is ends more)
reads-behind v section width place next o is more (one_there p n own there reads rest) =
    subst (ReadsFrom v section width) (ap (λ (x : MacroOperation × ℕ). x.1) (some-same (own, n) (o, next) (sym there ∙ is))) rest

left-behind : (v : View) (places : UnitPlaces) (section : ℕ) (width : Width) (place next end : ℕ) (o : MacroOperation) (es : List MacroEvent)
    → operation_at (section_bytes v section) width place ≡ read_as o next → is_end o ≡ false → EventsName places es → ReadsFrom v section width place
    → SpellsEvents v section width place es end → EventsLeft v places section width next
left-behind v places section width place next end o es is more names reads (over p q ends) =
    absurd (end-not o next q (operation_at (section_bytes v section) width p) is ends more)
left-behind v places section width place next end o es is more names reads (one_event p n q e rest own s) =
    let same : next ≡ n = event-next v section width p o next n e is own in
    record {
      end = q;
      events = rest;
      spells = subst (λ (k : ℕ). SpellsEvents v section width k rest q) (sym same) s;
      names = names.1;
      reads = reads-behind v section width p next o is more reads;
    }

left-after : (v : View) (places : UnitPlaces) (section start : ℕ) (width : Width) (first place : ℕ) → EventsLeft v places section width first → OperationsUpTo v section start width first place
    → EventsLeft v places section width place
left-after v places section start width first place l no_operations = l
left-after v places section start width first next l (more_operations o place n so e more) =
    let before : EventsLeft v places section width place = left-after v places section start width first place l so in
    left-behind v places section width place n before.end o before.events (operation-read v section start place width o n e) more before.names before.reads before.spells

-- the offset of an operation that brings a unit is one that can be read,
own-reads : (v : View) (section : ℕ) (width : Width) (place next field : ℕ) → operation_at (section_bytes v section) width place ≡ read_as (Bring field) next
    → ReadsFrom v section width place → FieldReads v section width field
own-reads v section width place next field is (over_there p q ends) =
    absurd (end-not (Bring field) next q (operation_at (section_bytes v section) width p) is ends refl)
own-reads v section width place next field is (one_there p n own there reads rest) =
    subst (λ (o : MacroOperation). OperationReads v section width o) (ap (λ (x : MacroOperation × ℕ). x.0) (some-same (own, n) (Bring field, next) (sym there ∙ is))) reads

-- and what it names is a unit that starts there
field-named : (places : UnitPlaces) (z : Located) (field : ℕ) (f : Field) → places.first ≡ z.number → is_placed f ≡ true → EventNames places (import_of z field f)
    → IsTrue (names_place places f)
field-named places z field (Num n) first placed names = subst (λ (k : ℕ). IsTrue (has_unit places k n)) (sym first) names
field-named places z field (Into s n) first placed names = names
field-named places z field (Sym s k a) first placed names = absurd cc

-- so the next one that brings a unit names it
import-names : (v : View) (places : UnitPlaces) (section : ℕ) (width : Width) (place next end field : ℕ) (es : List MacroEvent) → places.first ≡ (located v macro_table).number
    → operation_at (section_bytes v section) width place ≡ read_as (Bring field) next → EventsName places es → FieldReads v section width field → SpellsEvents v section width place es end
    → IsTrue (names_place places (field_at v section field (width_size width)))
unfolding import_at
import-names v places section width place next end field es first is names reads (over p q ends) =
    absurd (end-not (Bring field) next q (operation_at (section_bytes v section) width p) is ends refl)
import-names v places section width place next end field es first is names reads (one_event p n q e rest own s) =
    field-named places (located v macro_table) field (field_at v section field (width_size width)) first
    (offset-is v section field (width_size width) (field_at v section field (width_size width)) reads.is).placed
    (subst (EventNames places) (sym (import-is v section width p next n field e is own)) names.0)

-- it lies in the section
pub bring-room : (bs : List ℕ) (width : Width) (place next field : ℕ) → operation_at bs width place ≡ read_as (Bring field) next → field + width_size width ≤ length bs
bring-room bs width place next field is =
    let cut : FrontCut bs width place (Bring field) next = operation-cut bs width place (Bring field) next (λ g. cc) is in
    let end = cut.offset.0 in
    let within = cut.offset.1 in
    omega (arith, end, within)

-- the events of a unit by its header
pub header-events : (v : View) (section start : ℕ) (u : MacroUnit) (h : MacroHeader) (end : ℕ) → IsUnitIn v u → u ≡ unit_with v section start h end
    → SpellsEvents v section h.width h.first (unit_events v u) u.end
header-events v section start u h end there is =
    let own : u.section ≡ section = ap (λ (x : MacroUnit). x.section) is in
    let width : u.width ≡ h.width = ap (λ (x : MacroUnit). x.width) is in
    let first : u.first ≡ h.first = ap (λ (x : MacroUnit). x.first) is in
    subst (λ (n : ℕ). SpellsEvents v section h.width n (unit_events v u) u.end) first
    (subst (λ (w : Width). SpellsEvents v section w u.first (unit_events v u) u.end) width
    (subst (λ (n : ℕ). SpellsEvents v n u.width u.first (unit_events v u) u.end) own (unit-whole v u there)))

-- and that their offsets can be read
header-reads : (v : View) (section start : ℕ) (u : MacroUnit) (h : MacroHeader) (end : ℕ) → IsUnitIn v u → u ≡ unit_with v section start h end → ReadsFrom v section h.width h.first
header-reads v section start u h end there is =
    let own : u.section ≡ section = ap (λ (x : MacroUnit). x.section) is in
    let width : u.width ≡ h.width = ap (λ (x : MacroUnit). x.width) is in
    let first : u.first ≡ h.first = ap (λ (x : MacroUnit). x.first) is in
    subst (λ (n : ℕ). ReadsFrom v section h.width n) first
    (subst (λ (w : Width). ReadsFrom v section w u.first) width (subst (λ (n : ℕ). ReadsFrom v n u.width u.first) own there.reads))

-- the offset of an operation
abbrev use_at : OffsetUse → ℕ → Option (OffsetUse × ℕ)
use_at names field = Some (names, field)

offset-named : (v : View) (starts : List ℕ) (places : UnitPlaces) (section start : ℕ) (cells : List Cell) (u : MacroUnit) (place next : ℕ) (o : MacroOperation) (names : OffsetUse) (field : ℕ) → CellsOf v section cells
    → places.first ≡ (located v macro_table).number → IsUnitIn v u → (is : IsMacroUnit v section start u) → EventsName places (unit_events v u) → OperationsUpTo v section start is.header.width is.header.first place
    → unit_operation v section start is.header.width place ≡ ok_read o next → offset_use o ≡ use_at names field
    → PieceNames (debug_data v) starts places (offset_piece cells (at_offset is.header.width names) is.header.width field)
unfolding debug_data
offset-named v starts places section start cells u place next End names field c first there is events up e same = absurd cc
offset-named v starts places section start cells u place next (Inline d l a n) names field c first there is events up e same = absurd cc
offset-named v starts places section start cells u place next (Named d l f) names field c first there is events up e same =
    subst (λ (x : OffsetUse × ℕ). PieceNames (debug_data v) starts places (offset_piece cells (at_offset is.header.width x.0) is.header.width x.1))
    (some-same (of_text d l, f) (names, field) same)
    (text-named v section start cells is.header.width place next d l f c e)
offset-named v starts places section start cells u place next (Enter l f) names field c first there is events up e same = absurd cc
offset-named v starts places section start cells u place next Leave names field c first there is events up e same = absurd cc
offset-named v starts places section start cells u place next (Bring f) names field c first there is events up e same =
    let read : operation_at (section_bytes v section) is.header.width place ≡ read_as (Bring f) next = operation-read v section start place is.header.width (Bring f) next e in
    let left : EventsLeft v places section is.header.width place =
    left-after v places section start is.header.width is.header.first place
    (record { end = u.end; events = unit_events v u; spells = header-events v section start u is.header is.end there is.is; names = events; reads = header-reads v section start u is.header is.end there is.is }) up in
    subst (λ (x : OffsetUse × ℕ). PieceNames (debug_data v) starts places (offset_piece cells (at_offset is.header.width x.0) is.header.width x.1))
    (some-same (of_unit, f) (names, field) same)
    (ap (names_place places) (field-there v section cells is.header.width f c (bring-room (section_bytes v section) is.header.width place next f read))
    ∙ import-names v places section is.header.width place next left.end f left.events first read left.names (own-reads v section is.header.width place next f read left.reads) left.spells)
offset-named v starts places section start cells u place next Foreign names field c first there is events up e same = absurd cc

-- all of a unit, of a section, and of all sections
asked-units : (v : View) (starts : List ℕ) (places : UnitPlaces) (section : ℕ) (cells : List Cell) (us : List MacroUnit) → CellsOf v section cells → places.first ≡ (located v macro_table).number → AreUnitsIn v us
    → UnitsName v starts places us → EachUnit (Asked v section cells (PieceNames (debug_data v) starts places)) us
asked-units v starts places section cells [] c first there names = tt
asked-units v starts places section cells (u ∷ us) c first there names = (
  λ start is. record {
    line = λ has. line-named v starts places section start cells u c is names.0 has;
    offset = λ place o next use_ field up e is_use. offset-named v starts places section start cells u place next o use_ field c first there.0 is names.1 up e is_use;
  },
  asked-units v starts places section cells us c first there.1 names.2,
)

asked-all : (v : View) (starts : List ℕ) (places : UnitPlaces) (zs : List CellSection) (ss : List SectionUnits) → places.first ≡ (located v macro_table).number → AllCells v zs → AllBelow (length v.sections) zs
    → HaveUnits v zs ss → MacrosName v starts places ss → AllAsked v (PieceNames (debug_data v) starts places) zs ss
asked-all v starts places [] [] first c b have names = tt
asked-all v starts places [] (s ∷ ss) first c b have names = absurd have
asked-all v starts places (z ∷ zs) [] first c b have names = absurd have
asked-all v starts places (z ∷ zs) (s ∷ ss) first c b have names = (
  c.0,
  have.0,
  read-units v z.number s.units _ have.1,
  asked-units v starts places z.number z.contents s.units c.0 first (in-run v z.number _ s.units b.0 have.1) names.0,
  asked-all v starts places zs ss first c.1 b.1 have.2 names.1,
)

pub asked-of : (v : View) (starts : List ℕ) (places : UnitPlaces) (ss : List SectionUnits) → places.first ≡ (located v macro_table).number → UnitsFoundIn v ss → MacrosName v starts places ss
    → AllAsked v (PieceNames (debug_data v) starts places) ((debug_data v).found macro_table) ss
asked-of v starts places ss first found names = asked-all v starts places ((debug_data v).found macro_table) ss first (all-cells v) (numbers-below v) found.units names
