-- Laws of the events of a macro unit.
use Rattle.std.proofs.Common.{Bool, true, false, ◌≡◌, ℕ, zero, suc, ◌+◌, ◌-◌, ◌<◌, nat_lt, ℤ, if◌then◌else◌, List, [], ◌∷◌, length, drop, slice_index, Option, Some, None, refl, sym, ap, ◌∙◌, subst, arith}
use Rattle.std.specs.Prelude.{Result, Ok, Err, option_map, IfSome}
use Rattle.std.proofs.lemmas.Bool.Decides.{nat_tests}
use Rattle.std.proofs.lemmas.List.{drop_all, drop-drop, length-drop}
use Rattle.dw_base.specs.Cells.{Located, is_placed}
use Rattle.dw_base.specs.DebugSections.{name_of}
use Rattle.dw_base.specs.FileViews.{View, field_at, section_bytes, section_named}
use Rattle.dw_base.specs.Forms.{width_size}
use Rattle.dw_base.specs.Refusals.{at}
use Rattle.dw_base.specs.Texts.{ends_in, has_nul, text_in}
use Rattle.dw_base.specs.ViewData.{located, located_at}
use Rattle.dw_base.specs.declared.debug_sections.DebugSection.TheVariants.{Macro as MacroSection, Str}
use Rattle.dw_base.specs.declared.fault.Kind.TheVariants.{Macro, Supplementary}
use Rattle.dw_base.specs.declared.fault.Refusal.{Refusal}
use Rattle.dw_base.specs.declared.shared.Width.{Width}
use Rattle.dw_base.specs.declared.view_fields.Field.{Field}
use Rattle.dw_base.specs.declared.view_fields.Field.TheVariants.{Num, Into, Sym}
use Rattle.dw_macros.specs.MacroEvents.{EventsFit, IsUnitIn, SpellsEvents, over, one_event, event_by, event_if, event_in, events_behind, events_from, events_start, import_at, import_of, inline_place, named_place, text_event, text_if, unit_events, with_those}
use Rattle.dw_base.specs.MacroOffsets.{FieldReads, FieldRefuses, OperationReads, ReadUpTo, none_read, more_read, ReadsFrom, over_there, one_there}
use Rattle.dw_base.specs.MacroUnits.{OperationsUpTo, no_operations, more_operations, is_end, names_text, offset_at, taken, taken_if, unit_operation, nameless}
use Rattle.dw_macros.proofs.OperationLaws.{operation-behind}
use Rattle.dw_base.specs.MacroOperations.{operation_at, operation_of}
use Rattle.dw_base.specs.declared.macro_units.MacroEvent.{MacroEvent}
use Rattle.dw_base.specs.declared.macro_units.MacroEvent.TheVariants.{StartFile, EndFile, Import}
use Rattle.dw_base.specs.declared.macro_units.MacroOperation.{MacroOperation}
use Rattle.dw_base.specs.declared.macro_units.MacroOperation.TheVariants.{End, Inline, Named, Enter, Leave, Bring, Foreign}
use Rattle.dw_base.specs.declared.macro_units.MacroUnit.{MacroUnit}
use Rattle.dw_base.specs.declared.line_tables.TextPlace.{TextPlace}

-- the text that an offset names
located-some : (v : View) (number : ℕ) (bytes : List ℕ) → Some number ≡ section_named v (name_of Str) → bytes ≡ section_bytes v number
    → located v Str ≡ record { number = number; bytes = bytes }
unfolding located
located-some v number bytes e b = ap (located_at v) (sym e) ∙ ap (λ (bs : List ℕ). record { number = number; bytes = bs }) (sym b)

located-none : (v : View) → None ≡ section_named v (name_of Str) → located v Str ≡ record { number = 0; bytes = [] }
unfolding located
located-none v e = ap (located_at v) (sym e)

nothing-ends : (place : ℕ) → ends_in [] place ≡ false
unfolding ends_in
nothing-ends place = ap has_nul (drop_all place [] (omega arith))

named-in : (v : View) (section field offset : ℕ) (width : Width) (z : Located) → z ≡ located v Str → offset ≡ offset_at v (located v Str) section field width
    → named_place v section width field ≡ text_if z field offset
unfolding named_place
named-in v section field offset width z l o = rw (l, o) refl

pub named-nowhere : (v : View) (section field offset : ℕ) (width : Width) → offset ≡ offset_at v (located v Str) section field width
    → None ≡ section_named v (name_of Str) → None ≡ named_place v section width field
named-nowhere v section field offset width o none =
    sym (named-in v section field offset width (record { number = 0; bytes = [] }) (sym (located-none v none)) o ∙ rw (nothing-ends offset) refl)

pub named-not : (v : View) (section field offset number : ℕ) (bytes : List ℕ) (width : Width) → offset ≡ offset_at v (located v Str) section field width
    → Some number ≡ section_named v (name_of Str) → bytes ≡ section_bytes v number → ends_in bytes offset ≡ false → None ≡ named_place v section width field
named-not v section field offset number bytes width o some b none =
    sym (named-in v section field offset width (record { number = number; bytes = bytes }) (sym (located-some v number bytes some b)) o ∙ rw none refl)

pub named-some : (v : View) (section field offset number len : ℕ) (bytes text : List ℕ) (width : Width) → offset ≡ offset_at v (located v Str) section field width
    → Some number ≡ section_named v (name_of Str) → bytes ≡ section_bytes v number → ends_in bytes offset ≡ true → text ≡ text_in bytes offset → len ≡ length text
    → Some (record { section = number; at = offset; len = len; field = field }) ≡ named_place v section width field
named-some v section field offset number len bytes text width o some b ends t l =
    sym (named-in v section field offset width (record { number = number; bytes = bytes }) (sym (located-some v number bytes some b)) o ∙ rw (ends, l, t) refl)

-- an offset that can be read isn't refused
pub never-refused : (v : View) (section field : ℕ) (width : Width) (r : Refusal) → FieldReads v section width field → FieldRefuses v section width field r → ⊥
never-refused v section field width r h f = by_kind (sym h.is ∙ f.is)
  where
    by_kind : ◌≡◌ {A = Result Field Refusal} (Ok (field_at v section field (width_size width))) (Err r) → ⊥
    by_kind g = cc

pub ruleset named_laws = (named-nowhere, named-not, named-some, never-refused)

-- the unit that an offset names
import-in : (v : View) (section field : ℕ) (width : Width) (f : Field) → f ≡ field_at v section field (width_size width)
    → import_at v section width field ≡ import_of (located v MacroSection) field f
unfolding import_at
import-in v section field width f e = ap (import_of (located v MacroSection) field) (sym e)

pub import-num : (v : View) (section field number n : ℕ) (width : Width) (f : Field) → f ≡ field_at v section field (width_size width)
    → f ≡ Num n → number ≡ (located v MacroSection).number → Import number n field ≡ import_at v section width field
import-num v section field number n width f e is here = sym (import-in v section field width f e ∙ rw (is, here) refl)

pub import-into : (v : View) (section field target n : ℕ) (width : Width) (f : Field) → f ≡ field_at v section field (width_size width)
    → f ≡ Into target n → Import target n field ≡ import_at v section width field
import-into v section field target n width f e is = sym (import-in v section field width f e ∙ rw is refl)

-- a symbol has no place
pub never-symbol : (symbol kind : ℕ) (addend : ℤ) (f : Field) → f ≡ Sym symbol kind addend → is_placed f ≡ true → ⊥
never-symbol symbol kind addend f is placed = false-true (sym (ap is_placed is) ∙ placed)
  where
    false-true : false ≡ true → ⊥
    false-true e = cc

pub ruleset import_laws = (import-num, import-into, never-refused, never-symbol)

-- the offset of an operation
pub named-reads : (v : View) (section line field : ℕ) (width : Width) (o : MacroOperation) (defines : Bool) → OperationReads v section width o
    → o ≡ Named defines line field → FieldReads v section width field
named-reads v section line field width o defines h kind = subst (OperationReads v section width) kind h

pub brought-reads : (v : View) (section field : ℕ) (width : Width) (o : MacroOperation) → OperationReads v section width o → o ≡ Bring field
    → FieldReads v section width field
brought-reads v section field width o h kind = subst (OperationReads v section width) kind h

pub ruleset by_laws = (named-some, named-reads, brought-reads)

-- the event at a place, by the operation there
read-event : (v : View) (section place : ℕ) (width : Width) (bytes : List ℕ) (x : Option (MacroOperation × ℕ)) → bytes ≡ section_bytes v section
    → x ≡ operation_at bytes width place → event_in v section width place ≡ event_if v section width x
unfolding event_in
read-event v section place width bytes x b e = ap (event_if v section width) (sym (e ∙ ap (λ (bs : List ℕ). operation_at bs width place) b))

pub event-none : (v : View) (section place : ℕ) (width : Width) (bytes : List ℕ) → bytes ≡ section_bytes v section
    → None ≡ operation_at bytes width place → None ≡ event_in v section width place
event-none v section place width bytes b e = sym (read-event v section place width bytes None b e)

pub event-some : (v : View) (section place next : ℕ) (width : Width) (bytes : List ℕ) (o : MacroOperation) (x : Option (MacroEvent × ℕ)) → bytes ≡ section_bytes v section
    → Some (o, next) ≡ operation_at bytes width place → x ≡ event_by v section width o next → x ≡ event_in v section width place
event-some v section place next width bytes o x b e is = is ∙ sym (read-event v section place width bytes (Some (o, next)) b e)

-- offsets that can be read from a place on
read-same : (o p : MacroOperation) (n m : ℕ) (x : Option (MacroOperation × ℕ)) → x ≡ Some (o, n) → x ≡ Some (p, m) → (o ≡ p) × (n ≡ m)
read-same o p n m x e f = let both = by_kind (sym e ∙ f) in (ap (λ (y : MacroOperation × ℕ). y.0) both, ap (λ (y : MacroOperation × ℕ). y.1) both)
  where
    by_kind : ◌≡◌ {A = Option (MacroOperation × ℕ)} (Some (o, n)) (Some (p, m)) → ◌≡◌ {A = MacroOperation × ℕ} (o, n) (p, m)
    by_kind g = cc

there-is : (v : View) (section place next : ℕ) (width : Width) (bytes : List ℕ) (o : MacroOperation) → bytes ≡ section_bytes v section
    → Some (o, next) ≡ operation_at bytes width place → operation_at (section_bytes v section) width place ≡ Some (o, next)
there-is v section place next width bytes o b e = ap (λ (bs : List ℕ). operation_at bs width place) (sym b) ∙ sym e

pub reads-here : (v : View) (section place next : ℕ) (width : Width) (bytes : List ℕ) (o : MacroOperation) → ReadsFrom v section width place
    → bytes ≡ section_bytes v section → Some (o, next) ≡ operation_at bytes width place → OperationReads v section width o
reads-here v section place next width bytes o (over_there p n is) b e =
    let same = read-same o End next n (operation_at (section_bytes v section) width p) (there-is v section p next width bytes o b e) is in
    subst (OperationReads v section width) (sym same.0) tt
reads-here v section place next width bytes o (one_there p n q is reads rest) b e =
    let same = read-same o q next n (operation_at (section_bytes v section) width p) (there-is v section p next width bytes o b e) is in
    subst (OperationReads v section width) (sym same.0) reads

end-none : (v : View) (section next : ℕ) (width : Width) (e : MacroEvent × ℕ) → event_by v section width End next ≡ Some e → ⊥
unfolding event_by
end-none v section next width e f = by_kind f
  where
    by_kind : ◌≡◌ {A = Option (MacroEvent × ℕ)} None (Some e) → ⊥
    by_kind g = cc

reads-next : (v : View) (section place next : ℕ) (width : Width) (bytes : List ℕ) (o : MacroOperation) (e : MacroEvent × ℕ) → ReadsFrom v section width place
    → bytes ≡ section_bytes v section → Some (o, next) ≡ operation_at bytes width place → Some e ≡ event_by v section width o next → next ≡ e.1
    → ReadsFrom v section width e.1
reads-next v section place next width bytes o e (over_there p n is) b there event behind =
    let same = read-same o End next n (operation_at (section_bytes v section) width p) (there-is v section p next width bytes o b there) is in
    absurd (end-none v section next width e (ap (λ (x : MacroOperation). event_by v section width x next) (sym same.0) ∙ sym event))
reads-next v section place next width bytes o e (one_there p n q is reads rest) b there event behind =
    let same = read-same o q next n (operation_at (section_bytes v section) width p) (there-is v section p next width bytes o b there) is in
    subst (ReadsFrom v section width) (sym same.1 ∙ behind) rest

pub reads-behind : (v : View) (section place next : ℕ) (width : Width) (bytes : List ℕ) (o : MacroOperation) (x : Option (MacroEvent × ℕ))
    → ReadsFrom v section width place → bytes ≡ section_bytes v section → Some (o, next) ≡ operation_at bytes width place
    → x ≡ event_by v section width o next → IfSome x (λ e. e.1 ≡ next) → IfSome x (λ e. ReadsFrom v section width e.1)
reads-behind v section place next width bytes o None reads b there event behind = tt
reads-behind v section place next width bytes o (Some e) reads b there event behind =
    reads-next v section place next width bytes o e reads b there event (sym behind)

pub ruleset in_laws = (event-none, event-some, reads-here)

-- events behind so many bytes are those of the bytes behind them
events-drop : (event : ℕ → Option (MacroEvent × ℕ)) (n place : ℕ) (bytes : List ℕ)
    → events_behind event n place bytes ≡ events_behind event 0 (n + place) (drop n bytes)
events-drop event zero place bytes =
    let same : place ≡ 0 + place = omega arith in
    ap (λ (k : ℕ). events_behind event 0 k bytes) same
events-drop event (suc n) place [] = refl
events-drop event (suc n) place (b ∷ bs) =
    let sum : n + suc place ≡ suc n + place = omega arith in
    events-drop event n (suc place) bs ∙ ap (λ (k : ℕ). events_behind event 0 k (drop n bs)) sum

none-some : {Y : Type 0} (y : Y) → None ≡ Some y → ⊥
none-some y e = cc

below : (m n : ℕ) → nat_lt m n ≡ true → m < n
below m n e = grind (arith, nat_tests)

-- an event stands before the section's end
operation-inside : (bytes : List ℕ) (width : Width) (place : ℕ) (o : MacroOperation × ℕ) → operation_at bytes width place ≡ Some o → place < length bytes
unfolding operation_at
operation-inside bytes width place o e = by_test (nat_lt place (length bytes)) refl e
  where
    by_test : (b : Bool) → nat_lt place (length bytes) ≡ b
        → (if b then operation_of bytes width (slice_index bytes place) (place + 1) else None) ≡ Some o → place < length bytes
    by_test true t f = below place (length bytes) t
    by_test false t f = absurd (none-some o f)

event-inside : (v : View) (section place : ℕ) (width : Width) (e : MacroEvent × ℕ) → event_in v section width place ≡ Some e → place < length (section_bytes v section)
unfolding event_in
event-inside v section place width e is = by_operation (operation_at (section_bytes v section) width place) refl is
  where
    by_operation : (x : Option (MacroOperation × ℕ)) → operation_at (section_bytes v section) width place ≡ x → event_if v section width x ≡ Some e
        → place < length (section_bytes v section)
    by_operation None o f = absurd (none-some e f)
    by_operation (Some y) o f = operation-inside (section_bytes v section) width place y o

-- an event and those behind it
events-one : (event : ℕ → Option (MacroEvent × ℕ)) (bytes : List ℕ) (place next : ℕ) (e : MacroEvent) → event place ≡ Some (e, next) → place < next → 0 < length bytes
    → events_behind event 0 place bytes ≡ e ∷ events_behind event 0 next (drop (next - place) bytes)
events-one event [] place next e is after some = absurd (omega (arith, some))
events-one event (b ∷ bs) place next e is after some =
    let sum : next - suc place + suc place ≡ next = omega (arith, after) in
    let rest : suc (next - suc place) ≡ next - place = omega (arith, after) in
    ap (λ (x : Option (MacroEvent × ℕ)). with_those x (λ (k : ℕ). events_behind event (k - suc place) (suc place) bs)) is
    ∙ ap (λ (es : List MacroEvent). e ∷ es)
    (events-drop event (next - suc place) (suc place) bs ∙ ap (λ (k : ℕ). events_behind event 0 k (drop (next - suc place) bs)) sum
    ∙ ap (λ (k : ℕ). events_behind event 0 next (drop k (b ∷ bs))) rest)

nothing-left : (event : ℕ → Option (MacroEvent × ℕ)) (bytes : List ℕ) (place : ℕ) → event place ≡ None → events_behind event 0 place bytes ≡ []
nothing-left event [] place is = refl
nothing-left event (b ∷ bs) place is = ap (λ (x : Option (MacroEvent × ℕ)). with_those x (λ (k : ℕ). events_behind event (k - suc place) (suc place) bs)) is

pub next-event : (v : View) (section place next : ℕ) (width : Width) (e : MacroEvent) → Some (e, next) ≡ event_in v section width place → place < next
    → events_from v section width place ≡ e ∷ events_from v section width next
next-event v section place next width e is after =
    let inside = event-inside v section place width (e, next) (sym is) in
    let size = length-drop place (section_bytes v section) in
    let some : 0 < length (drop place (section_bytes v section)) = omega (arith, size, inside) in
    let sum : place + (next - place) ≡ next = omega (arith, after) in
    events-one (event_in v section width) (drop place (section_bytes v section)) place next e (sym is) after some
    ∙ ap (λ (bs : List ℕ). e ∷ events_behind (event_in v section width) 0 next bs)
    (drop-drop (next - place) place (section_bytes v section) ∙ ap (λ (k : ℕ). drop k (section_bytes v section)) sum)

pub next-none : (v : View) (section place : ℕ) (width : Width) → None ≡ event_in v section width place → events_from v section width place ≡ []
next-none v section place width is = nothing-left (event_in v section width) (drop place (section_bytes v section)) place (sym is)

pub ruleset next_laws = (next-event, next-none)

some-next : (x : MacroEvent) (next : ℕ) (e : MacroEvent × ℕ) → ◌≡◌ {A = Option (MacroEvent × ℕ)} (Some (x, next)) (Some e) → next ≡ e.1
some-next x next e f = ap (λ (p : MacroEvent × ℕ). p.1) (by_kind f)
  where
    by_kind : ◌≡◌ {A = Option (MacroEvent × ℕ)} (Some (x, next)) (Some e) → ◌≡◌ {A = MacroEvent × ℕ} (x, next) e
    by_kind g = cc

-- an operation that was read, and doesn't end its unit, is an event
record IsEvent (v : View) (section : ℕ) (width : Width) (place next : ℕ) : Type 0 where
  event : MacroEvent
  is : event_in v section width place ≡ Some (event, next)

-- the place behind an event is that behind its operation
next-same : (v : View) (section : ℕ) (width : Width) (o : MacroOperation) (next : ℕ) (e : MacroEvent × ℕ) → event_by v section width o next ≡ Some e → next ≡ e.1
unfolding event_by
next-same v section width End next e f = absurd (none-some e f)
next-same v section width (Inline d l a k) next e f = some-next (text_event d l (inline_place section a k)) next e f
next-same v section width (Named d l g) next e f = by_text (named_place v section width g) f
  where
    by_text : (x : Option TextPlace) → option_map (λ text. (text_event d l text, next)) x ≡ Some e → next ≡ e.1
    by_text None h = absurd (none-some e h)
    by_text (Some t) h = some-next (text_event d l t) next e h
next-same v section width (Enter l g) next e f = some-next (StartFile l g) next e f
next-same v section width Leave next e f = some-next EndFile next e f
next-same v section width (Bring g) next e f = some-next (import_at v section width g) next e f
next-same v section width Foreign next e f = absurd (none-some e f)

-- the same of the operation
record HasEvent (v : View) (section : ℕ) (width : Width) (o : MacroOperation) (n next : ℕ) : Type 0 where
  event : MacroEvent
  is : event_by v section width o n ≡ Some (event, next)

false-true : false ≡ true → ⊥
false-true e = cc

true-false : true ≡ false → ⊥
true-false e = cc

place-same : (o p : MacroOperation) (n next : ℕ) → ◌≡◌ {A = Result (MacroOperation × ℕ) Refusal} (Ok (o, n)) (Ok (p, next)) → n ≡ next
place-same o p n next e = ap (λ (x : MacroOperation × ℕ). x.1) (by_kind e)
  where
    by_kind : ◌≡◌ {A = Result (MacroOperation × ℕ) Refusal} (Ok (o, n)) (Ok (p, next)) → ◌≡◌ {A = MacroOperation × ℕ} (o, n) (p, next)
    by_kind f = cc

kind-same : (o p : MacroOperation) (n next : ℕ) → ◌≡◌ {A = Result (MacroOperation × ℕ) Refusal} (Ok (o, n)) (Ok (p, next)) → o ≡ p
kind-same o p n next e = ap (λ (x : MacroOperation × ℕ). x.0) (by_kind e)
  where
    by_kind : ◌≡◌ {A = Result (MacroOperation × ℕ) Refusal} (Ok (o, n)) (Ok (p, next)) → ◌≡◌ {A = MacroOperation × ℕ} (o, n) (p, next)
    by_kind f = cc

err-ok : (r : Refusal) (p : MacroOperation × ℕ) → Err r ≡ Ok p → ⊥
err-ok r p e = cc

-- a text that was looked at is there
text-there : (v : View) (section field : ℕ) (width : Width) (defines : Bool) (line n : ℕ) → names_text v section width field ≡ true
    → HasEvent v section width (Named defines line field) n n
unfolding event_by named_place
text-there v section field width defines line n e = record {
  event = text_event defines line (record {
    section = (located v Str).number;
    at = offset_at v (located v Str) section field width;
    len = length (text_in (located v Str).bytes (offset_at v (located v Str) section field width));
    field = field;
  });
  is = rw e refl;
}

has-event : (v : View) (section place n next : ℕ) (width : Width) (x o : MacroOperation) → taken v section width place x n ≡ Ok (o, next) → is_end o ≡ false
    → HasEvent v section width x n next
unfolding event_by
has-event v section place n next width End o e more = absurd (true-false (ap is_end (kind-same End o n next e) ∙ more))
has-event v section place n next width (Inline d l a k) o e more = record {
  event = text_event d l (inline_place section a k);
  is = ap (λ (m : ℕ). Some (text_event d l (inline_place section a k), m)) (place-same (Inline d l a k) o n next e);
}
has-event v section place n next width (Named d l f) o e more = by_test (names_text v section width f) refl e
  where
    by_test : (b : Bool) → names_text v section width f ≡ b
        → ◌≡◌ {A = Result (MacroOperation × ℕ) Refusal} (if b then Ok (Named d l f, n) else Err (at (nameless (field_at v section f (width_size width))) section f)) (Ok (o, next)) → HasEvent v section width (Named d l f) n next
    by_test true t g =
        subst (λ (m : ℕ). HasEvent v section width (Named d l f) n m) (place-same (Named d l f) o n next g) (text-there v section f width d l n t)
    by_test false t g = absurd (err-ok (at (nameless (field_at v section f (width_size width))) section f) (o, next) g)
has-event v section place n next width (Enter l f) o e more = record {
  event = StartFile l f;
  is = ap (λ (m : ℕ). Some (StartFile l f, m)) (place-same (Enter l f) o n next e);
}
has-event v section place n next width Leave o e more = record {
  event = EndFile;
  is = ap (λ (m : ℕ). Some (EndFile, m)) (place-same Leave o n next e);
}
has-event v section place n next width (Bring f) o e more = record {
  event = import_at v section width f;
  is = ap (λ (m : ℕ). Some (import_at v section width f, m)) (place-same (Bring f) o n next e);
}
has-event v section place n next width Foreign o e more = absurd (err-ok (at Supplementary section place) (o, next) e)

is-event : (v : View) (section start place next : ℕ) (width : Width) (o : MacroOperation) → unit_operation v section start width place ≡ Ok (o, next) → is_end o ≡ false
    → IsEvent v section width place next
unfolding unit_operation event_in
is-event v section start place next width o e more = by_operation (operation_at (section_bytes v section) width place) refl e
  where
    by_operation : (x : Option (MacroOperation × ℕ)) → operation_at (section_bytes v section) width place ≡ x → taken_if v section start width place x ≡ Ok (o, next)
        → IsEvent v section width place next
    by_operation None is f = absurd (err-ok (at Macro section start) (o, next) f)
    by_operation (Some y) is f =
        let h = has-event v section place y.1 next width y.0 o f more in
        record { event = h.event; is = ap (event_if v section width) is ∙ h.is }

-- events from a place on
record EventsTo (v : View) (section : ℕ) (width : Width) (place end : ℕ) : Type 0 where
  events : List MacroEvent
  spells : SpellsEvents v section width place events end

events-front : (v : View) (section start : ℕ) (width : Width) (first place end : ℕ) → OperationsUpTo v section start width first place
    → EventsTo v section width place end → EventsTo v section width first end
events-front v section start width first place end no_operations s = s
events-front v section start width first place end (more_operations o before next so e more) s =
    let h = is-event v section start before place width o e more in
    events-front v section start width first before end so
    (record { events = h.event ∷ s.events; spells = one_event before place end h.event s.events h.is s.spells })

-- an operation of a unit stands at its place
taken-same : (v : View) (section place : ℕ) (width : Width) (x : MacroOperation) (n next : ℕ) (o : MacroOperation) → taken v section width place x n ≡ Ok (o, next)
    → ◌≡◌ {A = Option (MacroOperation × ℕ)} (Some (x, n)) (Some (o, next))
taken-same v section place width x n next o e = by_kind x e
  where
    same : (y : MacroOperation) → ◌≡◌ {A = Result (MacroOperation × ℕ) Refusal} (Ok (y, n)) (Ok (o, next)) → ◌≡◌ {A = Option (MacroOperation × ℕ)} (Some (y, n)) (Some (o, next))
    same y f = ap (λ (p : MacroOperation). Some (p, n)) (kind-same y o n next f) ∙ ap (λ (k : ℕ). Some (o, k)) (place-same y o n next f)

    by_test : (d : Bool) (l g : ℕ) (b : Bool) → ◌≡◌ {A = Result (MacroOperation × ℕ) Refusal} (if b then Ok (Named d l g, n) else Err (at (nameless (field_at v section g (width_size width))) section g)) (Ok (o, next))
        → ◌≡◌ {A = Option (MacroOperation × ℕ)} (Some (Named d l g, n)) (Some (o, next))
    by_test d l g true f = same (Named d l g) f
    by_test d l g false f = absurd (err-ok (at (nameless (field_at v section g (width_size width))) section g) (o, next) f)

    by_kind : (y : MacroOperation) → taken v section width place y n ≡ Ok (o, next) → ◌≡◌ {A = Option (MacroOperation × ℕ)} (Some (y, n)) (Some (o, next))
    by_kind End f = same End f
    by_kind (Inline d l a k) f = same (Inline d l a k) f
    by_kind (Named d l g) f = by_test d l g (names_text v section width g) f
    by_kind (Enter l g) f = same (Enter l g) f
    by_kind Leave f = same Leave f
    by_kind (Bring g) f = same (Bring g) f
    by_kind Foreign f = absurd (err-ok (at Supplementary section place) (o, next) f)

pub operation-there : (v : View) (section start place next : ℕ) (width : Width) (o : MacroOperation) → unit_operation v section start width place ≡ Ok (o, next)
    → operation_at (section_bytes v section) width place ≡ Some (o, next)
unfolding unit_operation
operation-there v section start place next width o e = by_operation (operation_at (section_bytes v section) width place) refl e
  where
    by_operation : (x : Option (MacroOperation × ℕ)) → operation_at (section_bytes v section) width place ≡ x → taken_if v section start width place x ≡ Ok (o, next)
        → operation_at (section_bytes v section) width place ≡ Some (o, next)
    by_operation None is f = absurd (err-ok (at Macro section start) (o, next) f)
    by_operation (Some y) is f = is ∙ taken-same v section place width y.0 y.1 next o f

-- from operations whose offsets can be read to those that are left
pub reads-front : (v : View) (section start : ℕ) (width : Width) (first place : ℕ) → ReadUpTo v section start width first place → ReadsFrom v section width place
    → ReadsFrom v section width first
reads-front v section start width first place none_read rest = rest
reads-front v section start width first place (more_read o before next so e more reads) rest =
    reads-front v section start width first before so
    (one_there before next o (operation-there v section start before next width o e) reads rest)

-- the next event stands behind
event-behind : (v : View) (section place : ℕ) (width : Width) (e : MacroEvent × ℕ) → event_in v section width place ≡ Some e → place < e.1
unfolding event_in
event-behind v section place width e is = by_operation (operation_at (section_bytes v section) width place) refl is
  where
    by_operation : (x : Option (MacroOperation × ℕ)) → operation_at (section_bytes v section) width place ≡ x → event_if v section width x ≡ Some e → place < e.1
    by_operation None o f = absurd (none-some e f)
    by_operation (Some y) o f =
        let same = next-same v section width y.0 y.1 e f in
        let after = operation-behind (section_bytes v section) width place y o in
        omega (arith, same, after)

-- events that are spelled are those from the place on
spelled-events : (v : View) (section : ℕ) (width : Width) (place end : ℕ) (es : List MacroEvent) → SpellsEvents v section width place es end
    → events_from v section width place ≡ es
unfolding event_in event_by
spelled-events v section width place end es (over p q is) =
    next-none v section p width (sym (ap (event_if v section width) is))
spelled-events v section width place end es (one_event p next q e rest is s) =
    next-event v section p next width e (sym is) (event-behind v section p width (e, next) is)
    ∙ ap (λ (xs : List MacroEvent). e ∷ xs) (spelled-events v section width next q rest s)

-- a unit that was read is its events
pub unit-whole : (v : View) (u : MacroUnit) → IsUnitIn v u → SpellsEvents v u.section u.width u.first (unit_events v u) u.end
unit-whole v u is =
    let unit = is.is in
    let same = unit.is in
    let h = unit.header in
    let read = events-front v u.section is.start h.width h.first unit.last unit.end unit.operations
    (record { events = []; spells = over unit.last unit.end (operation-there v u.section is.start unit.last unit.end h.width End unit.ends) }) in
    let width : h.width ≡ u.width = sym (ap (λ (x : MacroUnit). x.width) same) in
    let first : h.first ≡ u.first = sym (ap (λ (x : MacroUnit). x.first) same) in
    let end : unit.end ≡ u.end = sym (ap (λ (x : MacroUnit). x.end) same) in
    let spells : SpellsEvents v u.section u.width u.first read.events u.end =
    subst (λ (n : ℕ). SpellsEvents v u.section u.width u.first read.events n) end
    (subst (λ (n : ℕ). SpellsEvents v u.section u.width n read.events unit.end) first
    (subst (λ (w : Width). SpellsEvents v u.section w h.first read.events unit.end) width read.spells)) in
    subst (λ (es : List MacroEvent). SpellsEvents v u.section u.width u.first es u.end)
    (sym (spelled-events v u.section u.width u.first u.end read.events spells)) spells

pub unit-fits : (v : View) (u : MacroUnit) → IsUnitIn v u → EventsFit (events_start v u)
unit-fits v u is = record { there = is.there; reads = is.reads }

pub ruleset start_laws = (unit-whole, unit-fits)
