-- The texts that the events of macro units name by offsets are those of the offsets of their operations, one after another.
use Rattle.std.proofs.Common.{Bool, true, false, ◌≡◌, ◌≢◌, ℕ, suc, ◌<◌, ◌≤◌, ◌&&◌, if◌then◌else◌, List, [], ◌∷◌, ◌++◌, length, drop, Option, Some, None, refl, sym, ap, ◌∙◌, subst, arith, append_assoc, append-nil}
use Rattle.std.specs.Bool.{⊤}
use Rattle.std.specs.Prelude.{option_map}
use Rattle.std.proofs.lemmas.Bool.{eq-eqb, ne_eqb}
use Rattle.dw_base.specs.Cells.{CellSection, Located}
use Rattle.dw_base.specs.DebugSections.{debug_section, name_of}
use Rattle.dw_base.specs.FileViews.{View, ViewSection, first_filled, is_filled, section_after, section_bytes, section_named}
use Rattle.dw_base.specs.Forms.{width_size}
use Rattle.dw_base.specs.MacroOperations.{operation_at}
use Rattle.dw_base.specs.MacroUnits.{IsMacroUnit, MacroUnitsUpTo, OperationsUpTo, is_end, more_operations, more_units, no_operations, no_units, offset_at}
use Rattle.dw_base.specs.Texts.{ends_in, text_in}
use Rattle.dw_base.specs.ViewData.{debug_data, is_macro, located, located_at, macro_section, macro_sections, macro_sections_from}
use Rattle.dw_base.specs.declared.debug_sections.DebugSection.TheVariants.{Str, Macro as macro_table}
use Rattle.dw_base.specs.declared.line_tables.TextPlace.{TextPlace}
use Rattle.dw_base.specs.declared.macro_units.MacroEvent.{MacroEvent}
use Rattle.dw_base.specs.declared.macro_units.MacroEvent.TheVariants.{EndFile, StartFile}
use Rattle.dw_base.specs.declared.macro_units.MacroOperation.{MacroOperation}
use Rattle.dw_base.specs.declared.macro_units.MacroOperation.TheVariants.{End, Inline, Named, Enter, Leave, Bring, Foreign}
use Rattle.dw_base.specs.declared.macro_units.MacroUnit.{MacroUnit}
use Rattle.dw_base.specs.declared.shared.Width.{Width}
use Rattle.dw_base.specs.declared.view_fields.Field.{Field}
use Rattle.dw_base.specs.declared.view_fields.Field.TheVariants.{Num, Into, Sym}
use Rattle.dw_macros.specs.MacroEvents.{IsUnitIn, SpellsEvents, event_by, event_if, event_in, import_at, import_of, inline_place, named_place, one_event, over, text_event, text_if, unit_events}
use Rattle.dw_meaning.proofs.MacroPieceLaws.{FieldPlace, operation_text, operation_texts, unit_texts, units_texts}
use Rattle.dw_meaning.proofs.MacroReadLaws.{read_as}
use Rattle.dw_offsets.specs.declared.fields.OffsetField.{OffsetField}
use Rattle.dw_starts.specs.MacroNames.{AllUnitsIn, AreUnitsIn}
use Rattle.dw_starts.specs.MacroSections.{SectionUnits}
use Rattle.dw_read.specs.MacroFields.{event_field, event_fields, named_texts}
use Rattle.dw_read.proofs.FoundUnitLaws.{first-above, some-name}
use Rattle.dw_starts.proofs.MacroAskedLaws.{end-not, event-next, event-same, event_read, header-events, none-event, operation-read}
use Rattle.dw_read.proofs.MacroFoundLaws.{AllTexts, as-append, as_fields}
use Rattle.dw_starts.proofs.MacroNumberLaws.{above-from}
use Rattle.dw_starts.proofs.MacroPlaceLaws.{AllAbove}

-- the numbers of sections are others than one
abbrev pub AllBut : ℕ → List CellSection → Type 0
AllBut n [] = ⊤
AllBut n (z ∷ zs) = (z.number ≢ n) × AllBut n zs

but-above : (n k : ℕ) (zs : List CellSection) → n ≤ k → AllAbove k zs → AllBut n zs
but-above n k [] le h = tt
but-above n k (z ∷ zs) le h = (λ same. let above : k < z.number = h.0 in omega (arith, le, above, same), but-above n k zs le h.1)

and-false : (b : Bool) → (b && false) ≡ false
and-false true = refl
and-false false = refl

-- a section of texts is none of macro units
not-macro : is_macro (debug_section (name_of Str)) ≡ false
unfolding debug_section
not-macro = refl

but-from : (k i : ℕ) (ss : List ViewSection) → first_filled (name_of Str) k ss ≡ Some i → AllBut i (macro_sections_from k ss)
but-from k i [] e = tt
but-from k i (s ∷ ss) e = by_filled (is_filled (name_of Str) s) refl e (λ g. but-from (suc k) i ss g)
  where
    by_test : (b : Bool) → (k ≢ i) → AllBut i (macro_sections_from (suc k) ss) → AllBut i (macro_section k s b ++ macro_sections_from (suc k) ss)
    by_test true other rest = (other, rest)
    by_test false other rest = rest

    by_filled : (b : Bool) → is_filled (name_of Str) s ≡ b → (if b then Some k else first_filled (name_of Str) (suc k) ss) ≡ Some i
        → (first_filled (name_of Str) (suc k) ss ≡ Some i → AllBut i (macro_sections_from (suc k) ss)) → AllBut i (macro_sections_from k (s ∷ ss))
    by_filled true filled g rest =
        let same : k ≡ i = cc in
        let none : (s.has_bytes && is_macro (debug_section s.name)) ≡ false =
        ap (λ (name : List ℕ). s.has_bytes && is_macro (debug_section name)) (some-name (name_of Str) s filled) ∙ ap (λ (b : Bool). s.has_bytes && b) not-macro ∙ and-false s.has_bytes in
        subst (λ (b : Bool). AllBut i (macro_section k s b ++ macro_sections_from (suc k) ss)) (sym none)
        (but-above i k (macro_sections_from (suc k) ss) (omega (arith, same)) (above-from (suc k) k ss (omega arith)))
    by_filled false filled g rest =
        let above : suc k ≤ i = first-above (name_of Str) (suc k) i ss g in
        by_test (s.has_bytes && is_macro (debug_section s.name)) (λ same. omega (arith, above, same)) (rest g)

apart-by : (v : View) (o : Option ℕ) → o ≡ section_named v (name_of Str) → AllBut (located_at v o).number (macro_sections v)
unfolding macro_sections section_named section_after
apart-by v None e = but-above 0 0 (macro_sections_from 1 (drop 1 v.sections)) (omega arith) (above-from 1 0 (drop 1 v.sections) (omega arith))
apart-by v (Some i) e = but-from 1 i (drop 1 v.sections) (sym e)

pub texts-apart : (v : View) → AllBut (located v Str).number ((debug_data v).found macro_table)
unfolding debug_data located
texts-apart v = apart-by v (section_named v (name_of Str)) refl

-- an event names the text that its operation does
own-none : (section : ℕ) (width : Width) (defines : Bool) (line at len : ℕ) → event_field section width (text_event defines line (inline_place section at len)) ≡ []
own-none section width true line at len = rw (eq-eqb section section refl) refl
own-none section width false line at len = rw (eq-eqb section section refl) refl

import-none : (section : ℕ) (width : Width) (z : Located) (field : ℕ) (f : Field) → event_field section width (import_of z field f) ≡ []
import-none section width z field (Num n) = refl
import-none section width z field (Into s n) = refl
import-none section width z field (Sym s k a) = refl

-- the place of a text that a field names
abbrev place_of : Located → ℕ → ℕ → ℕ → TextPlace
place_of z field offset len = record { section = z.number; at = offset; len = len; field = field }

named-field : (section : ℕ) (width : Width) (z : Located) (field offset len : ℕ) (defines : Bool) (line : ℕ) → section ≢ z.number
    → event_field section width (text_event defines line (place_of z field offset len)) ≡ record { at = field; size = width_size width; path = false } ∷ []
named-field section width z field offset len true line other = rw (ne_eqb z.number section (λ same. other (sym same))) refl
named-field section width z field offset len false line other = rw (ne_eqb z.number section (λ same. other (sym same))) refl

abbrev text_pair : Bool → ℕ → ℕ → TextPlace → MacroEvent × ℕ
text_pair defines line n t = (text_event defines line t, n)

text-named : (section : ℕ) (width : Width) (z : Located) (field offset line n m : ℕ) (defines : Bool) (e : MacroEvent) → section ≢ z.number
    → option_map (text_pair defines line n) (text_if z field offset) ≡ event_read e m → event_field section width e ≡ record { at = field; size = width_size width; path = false } ∷ []
text-named section width z field offset line n m defines e other h = by_ends (ends_in z.bytes offset) (length (text_in z.bytes offset)) h
  where
    by_ends : (b : Bool) (len : ℕ) → option_map (text_pair defines line n) (if b then Some (place_of z field offset len) else None) ≡ event_read e m
        → event_field section width e ≡ record { at = field; size = width_size width; path = false } ∷ []
    by_ends true len g =
        ap (event_field section width) (sym (event-same (text_event defines line (place_of z field offset len)) e n m g).0) ∙ named-field section width z field offset len defines line other
    by_ends false len g = absurd (none-event e m g)

event-text : (v : View) (section : ℕ) (width : Width) (o : MacroOperation) (n m : ℕ) (e : MacroEvent) → section ≢ (located v Str).number → event_by v section width o n ≡ event_read e m
    → event_field section width e ≡ as_fields (operation_text o width)
unfolding event_by named_place import_at
event-text v section width End n m e other h = absurd (none-event e m h)
event-text v section width (Inline d l a k) n m e other h =
    ap (event_field section width) (sym (event-same (text_event d l (inline_place section a k)) e n m h).0) ∙ own-none section width d l a k
event-text v section width (Named d l field) n m e other h = text-named section width (located v Str) field (offset_at v (located v Str) section field width) l n m d e other h
event-text v section width (Enter l f) n m e other h = ap (event_field section width) (sym (event-same (StartFile l f) e n m h).0)
event-text v section width Leave n m e other h = ap (event_field section width) (sym (event-same EndFile e n m h).0)
event-text v section width (Bring field) n m e other h =
    ap (event_field section width) (sym (event-same (import_at v section width field) e n m h).0) ∙ import-none section width (located v macro_table) field _
event-text v section width Foreign n m e other h = absurd (none-event e m h)

-- the events that are left at a place, behind those that name these texts
record TextsLeft (v : View) (section : ℕ) (width : Width) (place : ℕ) (es : List MacroEvent) (named : List FieldPlace) : Type 0 where
  end : ℕ
  left : List MacroEvent
  spells : SpellsEvents v section width place left end
  texts : event_fields section width es ≡ as_fields named ++ event_fields section width left

texts-behind : (v : View) (section : ℕ) (width : Width) (place next end : ℕ) (o : MacroOperation) (es : List MacroEvent) → section ≢ (located v Str).number
    → operation_at (section_bytes v section) width place ≡ read_as o next → is_end o ≡ false → SpellsEvents v section width place es end
    → TextsLeft v section width next es (operation_text o width)
unfolding event_in
texts-behind v section width place next end o es other is more (over p q ends) =
    absurd (end-not o next q (operation_at (section_bytes v section) width p) is ends more)
texts-behind v section width place next end o es other is more (one_event p n q e rest own s) =
    let same : next ≡ n = event-next v section width p o next n e is own in
    record {
      end = q;
      left = rest;
      spells = subst (λ (k : ℕ). SpellsEvents v section width k rest q) (sym same) s;
      texts = ap (λ (fs : List OffsetField). fs ++ event_fields section width rest)
          (event-text v section width o next n e other (sym (ap (event_if v section width) is) ∙ own));
    }

texts-after : (v : View) (section start : ℕ) (width : Width) (first place : ℕ) (up : OperationsUpTo v section start width first place) (es : List MacroEvent) (end : ℕ)
    → section ≢ (located v Str).number → SpellsEvents v section width first es end → TextsLeft v section width place es (operation_texts v section start width first place up)
texts-after v section start width first place no_operations es end other s = record { end = end; left = es; spells = s; texts = refl }
texts-after v section start width first next (more_operations o place n so e more) es end other s =
    let before : TextsLeft v section width place es (operation_texts v section start width first place so) = texts-after v section start width first place so es end other s in
    let step : TextsLeft v section width n before.left (operation_text o width) =
    texts-behind v section width place n before.end o before.left other (operation-read v section start place width o n e) more before.spells in
    record {
      end = step.end;
      left = step.left;
      spells = step.spells;
      texts = before.texts ∙ ap (λ (fs : List OffsetField). as_fields (operation_texts v section start width first place so) ++ fs) step.texts
          ∙ sym (append_assoc (as_fields (operation_texts v section start width first place so)) (as_fields (operation_text o width)) (event_fields section width step.left))
          ∙ ap (λ (fs : List OffsetField). fs ++ event_fields section width step.left) (sym (as-append (operation_texts v section start width first place so) (operation_text o width)));
    }

-- none is left where the last operation ends its unit
none-left : (v : View) (section : ℕ) (width : Width) (place next end : ℕ) (es : List MacroEvent) → operation_at (section_bytes v section) width place ≡ read_as End next
    → SpellsEvents v section width place es end → es ≡ []
unfolding event_in event_by
none-left v section width place next end es is (over p q ends) = refl
none-left v section width place next end es is (one_event p n q e rest own s) = absurd (none-event e n (sym (ap (event_if v section width) is) ∙ own))

-- the texts of a unit
unit-named : (v : View) (section start : ℕ) (u : MacroUnit) (is : IsMacroUnit v section start u) → IsUnitIn v u → section ≢ (located v Str).number
    → event_fields u.section u.width (unit_events v u) ≡ as_fields (unit_texts v section start u is)
unit-named v section start u is there other =
    let own : u.section ≡ section = ap (λ (x : MacroUnit). x.section) is.is in
    let width : u.width ≡ is.header.width = ap (λ (x : MacroUnit). x.width) is.is in
    let left : TextsLeft v section is.header.width is.last (unit_events v u) (operation_texts v section start is.header.width is.header.first is.last is.operations) =
    texts-after v section start is.header.width is.header.first is.last is.operations (unit_events v u) u.end other (header-events v section start u is.header is.end there is.is) in
    let none : left.left ≡ [] =
    none-left v section is.header.width is.last is.end left.end left.left (operation-read v section start is.last is.header.width End is.end is.ends) left.spells in
    ap (λ (n : ℕ). event_fields n u.width (unit_events v u)) own ∙ ap (λ (w : Width). event_fields section w (unit_events v u)) width
    ∙ left.texts ∙ ap (λ (es : List MacroEvent). as_fields (unit_texts v section start u is) ++ event_fields section is.header.width es) none
    ∙ append-nil (as_fields (unit_texts v section start u is))

-- of units
named-last : (v : View) (us : List MacroUnit) (u : MacroUnit) → named_texts v (us ++ u ∷ []) ≡ named_texts v us ++ event_fields u.section u.width (unit_events v u)
named-last v [] u = append-nil (event_fields u.section u.width (unit_events v u))
named-last v (x ∷ xs) u =
    ap (λ (fs : List OffsetField). event_fields x.section x.width (unit_events v x) ++ fs) (named-last v xs u)
    ∙ sym (append_assoc (event_fields x.section x.width (unit_events v x)) (named_texts v xs) (event_fields u.section u.width (unit_events v u)))

in-parts : (v : View) (us : List MacroUnit) (u : MacroUnit) → AreUnitsIn v (us ++ u ∷ []) → AreUnitsIn v us × IsUnitIn v u
in-parts v [] u h = (tt, h.0)
in-parts v (x ∷ xs) u h = let rest = in-parts v xs u h.1 in ((h.0, rest.0), rest.1)

units-named : (v : View) (section : ℕ) (list : List MacroUnit) (place : ℕ) (up : MacroUnitsUpTo v section list place) → AreUnitsIn v list → section ≢ (located v Str).number
    → named_texts v list ≡ as_fields (units_texts v section list place up)
units-named v section list place no_units there other = refl
units-named v section all place (more_units before u start so is) there other =
    let parts = in-parts v before u there in
    named-last v before u ∙ ap (λ (fs : List OffsetField). fs ++ event_fields u.section u.width (unit_events v u)) (units-named v section before start so parts.0 other)
    ∙ ap (λ (fs : List OffsetField). as_fields (units_texts v section before start so) ++ fs) (unit-named v section start u is parts.1 other)
    ∙ sym (as-append (units_texts v section before start so) (unit_texts v section start u is))

-- of all sections
named-by : (v : View) (zs : List CellSection) (ss : List SectionUnits) → AllBut (located v Str).number zs → AllUnitsIn v ss → AllTexts v zs ss
named-by v [] [] but there = tt
named-by v [] (s ∷ ss) but there = tt
named-by v (z ∷ zs) [] but there = tt
named-by v (z ∷ zs) (s ∷ ss) but there = (
  λ are. units-named v z.number s.units (length (section_bytes v z.number)) are there.0 but.0,
  named-by v zs ss but.1 there.1,
)

pub all-named : (v : View) (ss : List SectionUnits) → AllUnitsIn v ss → AllTexts v ((debug_data v).found macro_table) ss
all-named v ss there = named-by v ((debug_data v).found macro_table) ss (texts-apart v) there
