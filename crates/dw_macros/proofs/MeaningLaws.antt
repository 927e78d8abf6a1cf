-- Units that were read mean what the pieces of their section mean.
use Rattle.std.specs.Prelude.{option_and_then, option_map}
use Rattle.std.proofs.Common.{Bool, true, false, ◌≡◌, ℕ, zero, suc, ◌+◌, ◌<◌, ◌≤◌, List, [], ◌∷◌, ◌++◌, length, map, take, drop, Option, Some, None, refl, sym, ap, ◌∙◌, subst, arith, if◌then◌else◌}
use Rattle.std.proofs.lemmas.List.{append-nil}
use Rattle.dw_base.specs.Cells.{Located, is_placed, offset_into}
use Rattle.dw_base.specs.DebugData.{Around, DataReadings, around_of, start_number, started_unit, unit_named}
use Rattle.dw_base.specs.FileViews.{View, field_at, section_bytes, section_named}
use Rattle.dw_base.specs.DebugSections.{name_of}
use Rattle.dw_base.specs.Forms.{width_size}
use Rattle.dw_base.specs.MacroMeanings.{EventMeaning, defined, undefined, brought, MacroMeaning, text_event as event_of_text}
use Rattle.dw_base.specs.MacroOperations.{operation_at}
use Rattle.dw_base.specs.MacroOffsets.{AreReadUnits, FieldReads, IsReadUnit, OperationReads, ReadsFrom, UnitsReadUpTo, no_unit, more_unit, over_there, one_there}
use Rattle.dw_base.specs.MacroUnits.{is_end, offset_at, unit_with}
use Rattle.dw_base.specs.Texts.{has_nul, text, ends_in, text_in}
use Rattle.dw_base.specs.ViewData.{debug_data, located, located_at}
use Rattle.dw_base.specs.declared.debug_sections.DebugSection.TheVariants.{Str, Line, Macro as MacroSection}
use Rattle.dw_base.specs.declared.line_tables.TextPlace.{TextPlace}
use Rattle.dw_base.specs.declared.macro_units.MacroEvent.{MacroEvent}
use Rattle.dw_base.specs.declared.macro_units.MacroEvent.TheVariants.{StartFile, EndFile}
use Rattle.dw_base.specs.declared.macro_units.MacroHeader.{MacroHeader}
use Rattle.dw_base.specs.declared.macro_units.MacroOperation.{MacroOperation}
use Rattle.dw_base.specs.declared.macro_units.MacroOperation.TheVariants.{End, Inline, Named, Enter, Leave, Bring, Foreign}
use Rattle.dw_base.specs.declared.macro_units.MacroUnit.{MacroUnit}
use Rattle.dw_base.specs.declared.shared.Width.{Width}
use Rattle.dw_base.specs.declared.view_fields.Field.{Field}
use Rattle.dw_base.specs.declared.view_fields.Field.TheVariants.{Num, Into, Sym}
use Rattle.dw_base.proofs.ViewCellLaws.{lines-located}
use Rattle.dw_base.proofs.ViewOffsetLaws.{offset-is}
use Rattle.dw_base.proofs.TextLaws.{take-text}
use Rattle.dw_macros.proofs.CallerLaws.{read-unit}
use Rattle.dw_macros.proofs.EventLaws.{reads-here, unit-whole}
use Rattle.dw_macros.specs.EventMeanings.{text_bytes, event_meaning, unit_meaning}
use Rattle.dw_macros.specs.MacroEvents.{IsUnitIn, import_of, SpellsEvents, over, one_event, event_by, event_if, event_in, import_at, inline_place, named_place, text_event, unit_events}
use Rattle.dw_meaning.proofs.LineReadLaws.{some-same}
use Rattle.dw_meaning.proofs.MacroFirstLaws.{first-macros}
use Rattle.dw_meaning.proofs.MacroMeantLaws.{operation_meaning, EventsFrom, events_over, events_more, line_meant, UnitsFrom, units_over, units_more}
use Rattle.dw_base.proofs.MacroRowLaws.{macro_header-inside}

-- what stands around macro units is that of the view
pub record Seen (v : View) (g : Around) : Type 0 where
  pub str : g.stands Str ≡ located v Str
  pub lines : (g.stands Line).located ≡ located v Line
  pub macros : (g.lasting.kept MacroSection).first ≡ (located v MacroSection).number

-- an event that was read is an operation that means the same
record OperationOf (v : View) (g : Around) (section : ℕ) (width : Width) (place next : ℕ) (e : MacroEvent) : Type 0 where
  operation : MacroOperation
  is : operation_at (section_bytes v section) width place ≡ Some (operation, next)
  more : is_end operation ≡ false
  says : operation_meaning v g section width operation ≡ event_meaning v g e

abbrev pair_of : MacroEvent → ℕ → MacroEvent × ℕ
pair_of e n = (e, n)

abbrev event_read : MacroEvent → ℕ → Option (MacroEvent × ℕ)
event_read e n = Some (e, n)

-- a text that stands there, and one that an offset names
inline-says : (v : View) (g : Around) (section : ℕ) (defines : Bool) (line at len : ℕ)
    → event_of_text defines line (take len (drop at (section_bytes v section))) ≡ event_meaning v g (text_event defines line (inline_place section at len))
inline-says v g section true line at len = refl
inline-says v g section false line at len = refl

place-says : (v : View) (g : Around) (defines : Bool) (line : ℕ) (t : TextPlace) (bs : List ℕ) → text_bytes v t ≡ bs
    → event_of_text defines line bs ≡ event_meaning v g (text_event defines line t)
place-says v g true line t bs e = ap (defined line) (sym e)
place-says v g false line t bs e = ap (undefined line) (sym e)

named-bytes : (v : View) (field offset : ℕ) → ends_in (located v Str).bytes offset ≡ true
    → text_bytes v (record { section = (located v Str).number; at = offset; len = length (text_in (located v Str).bytes offset); field = field }) ≡ text_in (located v Str).bytes offset
unfolding located ends_in text_in
named-bytes v field offset e = by_section (section_named v (name_of Str)) e
  where
    by_section : (o : Option ℕ) → has_nul (drop offset (located_at v o).bytes) ≡ true
        → take (length (text (drop offset (located_at v o).bytes))) (drop offset (section_bytes v (located_at v o).number)) ≡ text (drop offset (located_at v o).bytes)
    by_section (Some i) e = take-text (drop offset (section_bytes v i)) e
    by_section None e = absurd (none_ends offset e)
      where
        none_ends : (n : ℕ) → has_nul (drop n []) ≡ true → ⊥
        none_ends zero f = cc
        none_ends (suc n) f = cc

event-same : (e f : MacroEvent) (n m : ℕ) → event_read e n ≡ event_read f m → (e ≡ f) × (n ≡ m)
event-same e f n m h =
    let both = some-same (e, n) (f, m) h in
    (ap (λ (x : MacroEvent × ℕ). x.0) both, ap (λ (x : MacroEvent × ℕ). x.1) both)

none-event : (e : MacroEvent) (n : ℕ) → None ≡ event_read e n → ⊥
none-event e n h = cc

-- the text of an offset, where one begins there
named-if : (v : View) (field offset m next : ℕ) (d : Bool) (l : ℕ) (e : MacroEvent) (b : Bool) → ends_in (located v Str).bytes offset ≡ b
    → option_map (λ (t : TextPlace). pair_of (text_event d l t) m) (if b then Some (record {
      section = (located v Str).number;
      at = offset;
      len = length (text_in (located v Str).bytes offset);
      field = field;
    }) else None) ≡ event_read e next
    → ((g : Around) → event_of_text d l (text_in (located v Str).bytes offset) ≡ event_meaning v g e) × (m ≡ next)
named-if v field offset m next d l e false ends h = absurd (none-event e next h)
named-if v field offset m next d l e true ends h =
    let both = event-same (text_event d l (record {
      section = (located v Str).number;
      at = offset;
      len = length (text_in (located v Str).bytes offset);
      field = field;
    })) e m next h in (
      λ g. place-says v g d l (record {
        section = (located v Str).number;
        at = offset;
        len = length (text_in (located v Str).bytes offset);
        field = field;
      }) (text_in (located v Str).bytes offset) (named-bytes v field offset ends) ∙ ap (event_meaning v g) both.0,
      both.1,
    )

-- the unit that a field names, which has a place
import-says : (v : View) (g : Around) (field : ℕ) (f : Field) → (g.lasting.kept MacroSection).first ≡ (located v MacroSection).number → is_placed f ≡ true
    → brought (unit_named (g.lasting.kept MacroSection) f) ≡ event_meaning v g (import_of (located v MacroSection) field f)
import-says v g field (Num n) first placed = ap (λ (i : ℕ). brought (started_unit 0 (g.lasting.kept MacroSection).starts i n)) first
import-says v g field (Into s n) first placed = refl
import-says v g field (Sym s k a) first placed = absurd (false-true placed)
  where
    false-true : false ≡ true → ⊥
    false-true e = cc

pub placed-field : (v : View) (section : ℕ) (width : Width) (field : ℕ) → FieldReads v section width field → is_placed (field_at v section field (width_size width)) ≡ true
placed-field v section width field h = (offset-is v section field (width_size width) (field_at v section field (width_size width)) h.is).placed

-- an operation as an event
event-of : (v : View) (g : Around) (section : ℕ) (width : Width) (place m next : ℕ) (o : MacroOperation) (e : MacroEvent) → Seen v g → OperationReads v section width o
    → operation_at (section_bytes v section) width place ≡ Some (o, m) → event_by v section width o m ≡ Some (e, next) → OperationOf v g section width place next e
unfolding event_by named_place import_at
event-of v g section width place m next End e seen reads is f = absurd (none-event e next f)
event-of v g section width place m next (Inline d l a n) e seen reads is f =
    let both = event-same (text_event d l (inline_place section a n)) e m next f in
    record {
      operation = Inline d l a n;
      is = is ∙ ap (λ (k : ℕ). Some (Inline d l a n, k)) both.1;
      more = refl;
      says = inline-says v g section d l a n ∙ ap (event_meaning v g) both.0;
    }
event-of v g section width place m next (Named d l field) e seen reads is f =
    let both = named-if v field (offset_at v (located v Str) section field width) m next d l e
    (ends_in (located v Str).bytes (offset_at v (located v Str) section field width)) refl f in
    record {
      operation = Named d l field;
      is = is ∙ ap (λ (k : ℕ). Some (Named d l field, k)) both.1;
      more = refl;
      says = ap (λ (z : Located). event_of_text d l (text_in z.bytes (offset_into z (field_at v section field (width_size width))))) seen.str ∙ both.0 g;
    }
event-of v g section width place m next (Enter l a) e seen reads is f =
    let both = event-same (StartFile l a) e m next f in
    record { operation = Enter l a; is = is ∙ ap (λ (k : ℕ). Some (Enter l a, k)) both.1; more = refl; says = ap (event_meaning v g) both.0 }
event-of v g section width place m next Leave e seen reads is f =
    let both = event-same EndFile e m next f in
    record { operation = Leave; is = is ∙ ap (λ (k : ℕ). Some (Leave, k)) both.1; more = refl; says = ap (event_meaning v g) both.0 }
event-of v g section width place m next (Bring field) e seen reads is f =
    let both = event-same (import_of (located v MacroSection) field (field_at v section field (width_size width))) e m next f in
    record {
      operation = Bring field;
      is = is ∙ ap (λ (k : ℕ). Some (Bring field, k)) both.1;
      more = refl;
      says = import-says v g field (field_at v section field (width_size width)) seen.macros (placed-field v section width field reads)
          ∙ ap (event_meaning v g) both.0;
    }
event-of v g section width place m next Foreign e seen reads is f = absurd (none-event e next f)

-- the operation there can be read
pub reads-at : (v : View) (section : ℕ) (width : Width) (place next : ℕ) (o : MacroOperation) → ReadsFrom v section width place
    → operation_at (section_bytes v section) width place ≡ Some (o, next) → OperationReads v section width o
reads-at v section width place next o reads is = reads-here v section place next width (section_bytes v section) o reads refl (sym is)

event-in : (v : View) (g : Around) (section : ℕ) (width : Width) (place next : ℕ) (e : MacroEvent) → Seen v g → ReadsFrom v section width place
    → event_in v section width place ≡ Some (e, next) → OperationOf v g section width place next e
unfolding event_in
event-in v g section width place next e seen reads f = by_read (operation_at (section_bytes v section) width place) refl f
  where
    by_read : (x : Option (MacroOperation × ℕ)) → operation_at (section_bytes v section) width place ≡ x → event_if v section width x ≡ Some (e, next) → OperationOf v g section width place next e
    by_read None is h = absurd (none-event e next h)
    by_read (Some o) is h = event-of v g section width place o.1 next o.0 e seen (reads-at v section width place o.1 o.0 reads is) is h

-- events that were read are the events from their place on
read-same : (o r : MacroOperation) (n m : ℕ) (x : Option (MacroOperation × ℕ)) → x ≡ Some (o, n) → x ≡ Some (r, m) → (o ≡ r) × (n ≡ m)
read-same o r n m x e f =
    let both = some-same (o, n) (r, m) (sym e ∙ f) in
    (ap (λ (y : MacroOperation × ℕ). y.0) both, ap (λ (y : MacroOperation × ℕ). y.1) both)

true-false : true ≡ false → ⊥
true-false e = cc

pub reads-past : (v : View) (section : ℕ) (width : Width) (place next : ℕ) (o : MacroOperation) → ReadsFrom v section width place
    → operation_at (section_bytes v section) width place ≡ Some (o, next) → is_end o ≡ false → ReadsFrom v section width next
reads-past v section width place next o (over_there p n is) e more =
    let same = read-same o End next n (operation_at (section_bytes v section) width p) e is in
    absurd (true-false (ap is_end (sym same.0) ∙ more))
reads-past v section width place next o (one_there p n q is reads rest) e more =
    let same = read-same o q next n (operation_at (section_bytes v section) width p) e is in
    subst (ReadsFrom v section width) (sym same.1) rest

events-read : (v : View) (g : Around) (section : ℕ) (width : Width) (place end : ℕ) (es : List MacroEvent) → Seen v g → ReadsFrom v section width place
    → SpellsEvents v section width place es end → EventsFrom v g section width place (map (event_meaning v g) es) end
events-read v g section width place end es seen reads (over p q is) = events_over p q is
events-read v g section width place end es seen reads (one_event p next q e rest is s) =
    let o : OperationOf v g section width p next e = event-in v g section width p next e seen reads is in
    subst (λ (m : EventMeaning). EventsFrom v g section width p (m ∷ map (event_meaning v g) rest) q) o.says
    (events_more p next q o.operation (map (event_meaning v g) rest) o.is o.more
    (events-read v g section width next q rest seen (reads-past v section width p next o.operation reads o.is o.more) s))

-- and there is one way
events-one : (v : View) (g : Around) (section : ℕ) (width : Width) (place end other : ℕ) (es fs : List EventMeaning) → EventsFrom v g section width place es end
    → EventsFrom v g section width place fs other → (es ≡ fs) × (end ≡ other)
events-one v g section width place end other es fs (events_over p q is) (events_over p2 q2 f) =
    (refl, (read-same End End q q2 (operation_at (section_bytes v section) width p) is f).1)
events-one v g section width place end other es fs (events_over p q is) (events_more p2 n q2 o rest f more s) =
    let same = read-same End o q n (operation_at (section_bytes v section) width p) is f in
    absurd (true-false (ap is_end same.0 ∙ more))
events-one v g section width place end other es fs (events_more p n q o rest is more s) (events_over p2 q2 f) =
    let same = read-same End o q2 n (operation_at (section_bytes v section) width p) f is in
    absurd (true-false (ap is_end same.0 ∙ more))
events-one v g section width place end other es fs (events_more p n q o rest is more s) (events_more p2 n2 q2 o2 rest2 f more2 s2) =
    let same = read-same o o2 n n2 (operation_at (section_bytes v section) width p) is f in
    let others = events-one v g section width n q q2 rest rest2 s (subst (λ (k : ℕ). EventsFrom v g section width k rest2 q2) (sym same.1) s2) in (
      ap (λ (x : MacroOperation). operation_meaning v g section width x ∷ rest) same.0 ∙ ap (λ (xs : List EventMeaning). operation_meaning v g section width o2 ∷ xs) others.0,
      others.1,
    )

-- the line table of a unit
line-same : (v : View) (g : Around) (section start end : ℕ) (h : MacroHeader) → Seen v g
    → line_meant v g section h ≡ option_and_then (start_number 0 (g.stands Line).starts) (unit_with v section start h end).line
line-same v g section start end h seen = by_line h.has_line
  where
    by_line : (b : Bool) → (if b then start_number 0 (g.stands Line).starts (offset_into (g.stands Line).located (field_at v section h.line_field (width_size h.width))) else None)
        ≡ option_and_then (start_number 0 (g.stands Line).starts) (if b then Some (offset_at v (located v Line) section h.line_field h.width) else None)
    by_line true = ap (λ (z : Located). start_number 0 (g.stands Line).starts (offset_into z (field_at v section h.line_field (width_size h.width)))) seen.lines
    by_line false = refl

-- of the units of a section, what those behind some that were read mean
record Behind (v : View) (g : Around) (section : ℕ) (list : List MacroUnit) (place : ℕ) (ms : List MacroMeaning) : Type 0 where
  rest : List MacroMeaning
  is : ms ≡ map (unit_meaning v g) list ++ rest
  units : UnitsFrom v g section place rest

map-last : (v : View) (g : Around) (xs : List MacroUnit) (u : MacroUnit) (rest : List MacroMeaning)
    → map (unit_meaning v g) xs ++ (unit_meaning v g u ∷ rest) ≡ map (unit_meaning v g) (xs ++ u ∷ []) ++ rest
map-last v g [] u rest = refl
map-last v g (x ∷ xs) u rest = ap (λ (l : List MacroMeaning). unit_meaning v g x ∷ l) (map-last v g xs u rest)

-- one more
record OneMore (v : View) (g : Around) (section : ℕ) (u : MacroUnit) (ms : List MacroMeaning) : Type 0 where
  rest : List MacroMeaning
  is : ms ≡ unit_meaning v g u ∷ rest
  units : UnitsFrom v g section u.end rest

one-more : (v : View) (g : Around) (section start : ℕ) (u : MacroUnit) (ms : List MacroMeaning) → Seen v g → section < length v.sections → IsReadUnit v section start u
    → UnitsFrom v g section start ms → OneMore v g section u ms
one-more v g section start u ms seen there is (units_over p at_end) =
    let inside = macro_header-inside v.order (section_bytes v section) start is.header is.header_is in
    absurd (omega (arith, inside, at_end))
one-more v g section start u all seen there is (units_more p end h es ms head events units) =
    let same : h ≡ is.header = some-same h is.header (sym head ∙ is.header_is) in
    let own : section ≡ u.section = sym (ap (λ (x : MacroUnit). x.section) is.is) in
    let width : is.header.width ≡ u.width = sym (ap (λ (x : MacroUnit). x.width) is.is) in
    let first : is.header.first ≡ u.first = sym (ap (λ (x : MacroUnit). x.first) is.is) in
    let version : is.header.version ≡ u.version = sym (ap (λ (x : MacroUnit). x.version) is.is) in
    let read : EventsFrom v g u.section u.width u.first (map (event_meaning v g) (unit_events v u)) u.end =
    let one_in : IsUnitIn v u = read-unit v section start u there is in
    events-read v g u.section u.width u.first u.end (unit_events v u) seen one_in.reads (unit-whole v u one_in) in
    let here : EventsFrom v g section u.width u.first (map (event_meaning v g) (unit_events v u)) u.end =
    subst (λ (i : ℕ). EventsFrom v g i u.width u.first (map (event_meaning v g) (unit_events v u)) u.end) (sym own) read in
    let theirs : EventsFrom v g section u.width u.first es end =
    subst (λ (n : ℕ). EventsFrom v g section u.width n es end) first
    (subst (λ (w : Width). EventsFrom v g section w is.header.first es end) width
    (subst (λ (x : MacroHeader). EventsFrom v g section x.width x.first es end) same events)) in
    let one = events-one v g section u.width u.first end u.end es (map (event_meaning v g) (unit_events v u)) theirs here in
    let line : line_meant v g section is.header ≡ option_and_then (start_number 0 (g.stands Line).starts) u.line =
    line-same v g section start is.end is.header seen ∙ ap (λ (x : MacroUnit). option_and_then (start_number 0 (g.stands Line).starts) x.line) (sym is.is) in
    record {
      rest = ms;
      is = ap (λ (x : MacroHeader). meaning_with x.version (line_meant v g section x) es ∷ ms) same
          ∙ ap (λ (n : ℕ). meaning_with n (line_meant v g section is.header) es ∷ ms) version
          ∙ ap (λ (l : Option ℕ). meaning_with u.version l es ∷ ms) line
          ∙ ap (λ (xs : List EventMeaning). meaning_with u.version (option_and_then (start_number 0 (g.stands Line).starts) u.line) xs ∷ ms) one.0;
      units = subst (λ (n : ℕ). UnitsFrom v g section n ms) one.1 units;
    }
  where
    meaning_with : ℕ → Option ℕ → List EventMeaning → MacroMeaning
    meaning_with n l xs = record { version = n; line = l; events = xs }

units-behind : (v : View) (g : Around) (section place : ℕ) (list : List MacroUnit) (ms : List MacroMeaning) → Seen v g → section < length v.sections → UnitsReadUpTo v section list place
    → UnitsFrom v g section 0 ms → Behind v g section list place ms
units-behind v g section place list ms seen there no_unit u = record { rest = ms; is = refl; units = u }
units-behind v g section place all ms seen there (more_unit list x start so is) u =
    let b : Behind v g section list start ms = units-behind v g section start list ms seen there so u in
    let more : OneMore v g section x b.rest = one-more v g section start x b.rest seen there is b.units in
    record {
      rest = more.rest;
      is = b.is ∙ ap (λ (l : List MacroMeaning). map (unit_meaning v g) list ++ l) more.is ∙ map-last v g list x more.rest;
      units = more.units;
    }

nothing-behind : (v : View) (g : Around) (section place : ℕ) (ms : List MacroMeaning) → place ≡ length (section_bytes v section) → UnitsFrom v g section place ms → ms ≡ []
nothing-behind v g section place ms e (units_over p at_end) = refl
nothing-behind v g section place all e (units_more p end h es ms head events units) =
    let inside = macro_header-inside v.order (section_bytes v section) place h head in
    absurd (omega (arith, inside, e))

-- all units of a section
pub units-mean : (v : View) (g : Around) (section : ℕ) (list : List MacroUnit) (ms : List MacroMeaning) → Seen v g → section < length v.sections → AreReadUnits v section list
    → UnitsFrom v g section 0 ms → ms ≡ map (unit_meaning v g) list
units-mean v g section list ms seen there are u =
    let b : Behind v g section list (length (section_bytes v section)) ms = units-behind v g section (length (section_bytes v section)) list ms seen there are u in
    b.is ∙ ap (λ (l : List MacroMeaning). map (unit_meaning v g) list ++ l) (nothing-behind v g section (length (section_bytes v section)) b.rest refl b.units)
    ∙ append-nil (map (unit_meaning v g) list)

-- what stands around the units of a view is that
pub seen-view : (v : View) (r : DataReadings) → Seen v (around_of (debug_data v) r)
unfolding debug_data
seen-view v r = record {
  str = refl;
  lines = lines-located v;
  macros = first-macros v;
}
