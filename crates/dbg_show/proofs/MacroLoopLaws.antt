-- Events and macro units are printed one after another.
use Rattle.std.proofs.Common.{Bool, true, false, ◌≡◌, ℕ, suc, ◌+◌, ◌<◌, ◌≤◌, List, [], ◌∷◌, ◌++◌, length, drop, drop-cons, get_or, Option, Some, None, refl, sym, ap, ◌∙◌, subst, arith}
use Rattle.std.specs.Prelude.{option_map}
use Rattle.std.proofs.lemmas.List.{drop_all}
use Rattle.dw_base.specs.Cells.{Located}
use Rattle.dw_base.specs.DebugSections.{name_of}
use Rattle.dw_base.specs.FileViews.{View, field_at, section_bytes, section_named}
use Rattle.dw_base.specs.Forms.{width_size}
use Rattle.dw_base.specs.MacroOperations.{operation_at}
use Rattle.dw_base.specs.MacroUnits.{offset_at}
use Rattle.dw_base.specs.Texts.{ends_in, has_nul, text_in}
use Rattle.dw_base.specs.ViewData.{located, located_at}
use Rattle.dw_base.specs.declared.debug_sections.DebugSection.TheVariants.{Macro as MacroSection, Str}
use Rattle.dw_base.specs.declared.line_tables.TextPlace.{TextPlace}
use Rattle.dw_base.specs.declared.macro_units.MacroEvent.{MacroEvent}
use Rattle.dw_base.specs.declared.macro_units.MacroEvent.TheVariants.{StartFile, EndFile, Import}
use Rattle.dw_base.specs.declared.macro_units.MacroOperation.{MacroOperation}
use Rattle.dw_base.specs.declared.macro_units.MacroOperation.TheVariants.{End, Inline, Named, Enter, Leave, Bring, Foreign}
use Rattle.dw_base.specs.declared.macro_units.MacroUnit.{MacroUnit}
use Rattle.dw_base.specs.declared.shared.Width.{Width}
use Rattle.dw_base.specs.declared.view_fields.Field.{Field}
use Rattle.dw_base.specs.declared.view_fields.Field.TheVariants.{Num, Into, Sym}
use Rattle.dw_base.proofs.FileViewLaws.{section_after-within}
use Rattle.dw_macros.specs.MacroEvents.{IsUnitIn, SpellsEvents, over, one_event, event_by, event_if, event_in, import_at, import_of, inline_place, named_place, text_event, text_if, unit_events}
use Rattle.dw_starts.proofs.MacroLoopLaws.{unit-at}
use Rattle.file_tree.specs.Heard.{Heard}
use Rattle.dbg_show.specs.Printing.{Printed, Cut, Goes}
use Rattle.dbg_show.specs.ShownMacros.{EventThere, EventsThere, MacroSource, event_shown, events_shown, unit_shown, units_shown}
use Rattle.dbg_show.specs.declared.show_err.ShowErr.{ShowErr}
use Rattle.dbg_show.proofs.PrintingLaws.{goes-start, goes-more, goes-over, goes-cut}

-- the text of an event that was read stands in a section of the view
some-same : (x y : MacroEvent × ℕ) → ◌≡◌ {A = Option (MacroEvent × ℕ)} (Some x) (Some y) → x ≡ y
some-same x y e = cc

none-some : (y : MacroEvent × ℕ) → None ≡ Some y → ⊥
none-some y e = cc

there-of : (v : View) (e x : MacroEvent) (next m : ℕ) → EventThere v x → ◌≡◌ {A = Option (MacroEvent × ℕ)} (Some (x, m)) (Some (e, next)) → EventThere v e
there-of v e x next m there f = subst (EventThere v) (ap (λ (y : MacroEvent × ℕ). y.0) (some-same (x, m) (e, next) f)) there

text-there : (v : View) (defines : Bool) (line : ℕ) (t : TextPlace) → t.section < length v.sections → EventThere v (text_event defines line t)
text-there v true line t lt = lt
text-there v false line t lt = lt

nothing-ends : (place : ℕ) → ends_in [] place ≡ false
unfolding ends_in
nothing-ends place = ap has_nul (drop_all place [] (omega arith))

str-within : (v : View) (section : ℕ) → section_named v (name_of Str) ≡ Some section → section < length v.sections
unfolding section_named
str-within v section e = (section_after-within v (name_of Str) 0 section e).1

place-there : (v : View) (field at : ℕ) (t : TextPlace) → text_if (located v Str) field at ≡ Some t → t.section < length v.sections
unfolding located
place-there v field at t e = by_section (section_named v (name_of Str)) refl e
  where
    place_some : (x y : TextPlace) → ◌≡◌ {A = Option TextPlace} (Some x) (Some y) → x ≡ y
    place_some x y f = cc

    nothing : ◌≡◌ {A = Option TextPlace} None (Some t) → ⊥
    nothing f = cc

    by_end : (z : Located) (b : Bool) → ends_in z.bytes at ≡ b → text_if z field at ≡ Some t → (ends_in z.bytes at ≡ true) × (t.section ≡ z.number)
    by_end z true is f =
        let own : text_if z field at ≡ Some (record { section = z.number; at = at; len = length (text_in z.bytes at); field = field }) = rw is refl in
        (is, ap (λ (x : TextPlace). x.section) (sym (place_some (record { section = z.number; at = at; len = length (text_in z.bytes at); field = field }) t (sym own ∙ f))))
    by_end z false is f =
        let own : text_if z field at ≡ None = rw is refl in
        absurd (nothing (sym own ∙ f))

    clash : true ≡ false → ⊥
    clash f = cc

    by_section : (o : Option ℕ) → section_named v (name_of Str) ≡ o → text_if (located_at v o) field at ≡ Some t → t.section < length v.sections
    by_section None is f =
        let both = by_end (located_at v None) (ends_in [] at) refl f in
        absurd (clash (sym both.0 ∙ nothing-ends at))
    by_section (Some section) is f =
        let both = by_end (located_at v (Some section)) (ends_in (section_bytes v section) at) refl f in
        let within = str-within v section is in
        let own = both.1 in
        omega (arith, within, own)

abbrev pair_of : MacroEvent → ℕ → MacroEvent × ℕ
pair_of e n = (e, n)

abbrev pair_read : MacroEvent → ℕ → Option (MacroEvent × ℕ)
pair_read e n = Some (e, n)

event-there : (v : View) (section : ℕ) (width : Width) (place m next : ℕ) (o : MacroOperation) (e : MacroEvent) → section < length v.sections
    → event_by v section width o m ≡ Some (e, next) → EventThere v e
unfolding event_by named_place import_at
event-there v section width place m next End e lt f = absurd (none-some (e, next) f)
event-there v section width place m next (Inline d l a n) e lt f =
    there-of v e (text_event d l (inline_place section a n)) next m (text-there v d l (inline_place section a n) lt) f
event-there v section width place m next (Named d l field) e lt f =
    by_text (text_if (located v Str) field (offset_at v (located v Str) section field width)) refl f
  where
    by_text : (x : Option TextPlace) → text_if (located v Str) field (offset_at v (located v Str) section field width) ≡ x
        → option_map (λ (t : TextPlace). pair_of (text_event d l t) m) x ≡ pair_read e next → EventThere v e
    by_text None is h = absurd (none-some (e, next) h)
    by_text (Some t) is h =
        there-of v e (text_event d l t) next m (text-there v d l t (place-there v field (offset_at v (located v Str) section field width) t is)) h
event-there v section width place m next (Enter l a) e lt f = there-of v e (StartFile l a) next m tt f
event-there v section width place m next Leave e lt f = there-of v e EndFile next m tt f
event-there v section width place m next (Bring field) e lt f = by_field (field_at v section field (width_size width)) f
  where
    by_field : (x : Field) → ◌≡◌ {A = Option (MacroEvent × ℕ)} (Some (import_of (located v MacroSection) field x, m)) (Some (e, next)) → EventThere v e
    by_field (Num n) h = there-of v e (Import (located v MacroSection).number n field) next m tt h
    by_field (Into s n) h = there-of v e (Import s n field) next m tt h
    by_field (Sym s k a) h = there-of v e (Import (located v MacroSection).number (length (located v MacroSection).bytes) field) next m tt h
event-there v section width place m next Foreign e lt f = absurd (none-some (e, next) f)

read-there : (v : View) (section : ℕ) (width : Width) (place next : ℕ) (e : MacroEvent) → section < length v.sections → event_in v section width place ≡ Some (e, next) → EventThere v e
unfolding event_in
read-there v section width place next e lt f = by_read (operation_at (section_bytes v section) width place) f
  where
    by_read : (x : Option (MacroOperation × ℕ)) → event_if v section width x ≡ Some (e, next) → EventThere v e
    by_read None h = absurd (none-some (e, next) h)
    by_read (Some o) h = event-there v section width place o.1 next o.0 e lt h

events-there : (v : View) (section : ℕ) (width : Width) (place end : ℕ) (es : List MacroEvent) → section < length v.sections → SpellsEvents v section width place es end → EventsThere v es
events-there v section width place end es lt (over p q is) = tt
events-there v section width place end es lt (one_event p next q e rest is s) =
    (read-there v section width p next e lt is, events-there v section width next q rest lt s)

pub unit-there : (v : View) (u : MacroUnit) → IsUnitIn v u → SpellsEvents v u.section u.width u.first (unit_events v u) u.end → EventsThere v (unit_events v u)
unit-there v u is s = events-there v u.section u.width u.first u.end (unit_events v u) is.there s

pub ruleset unit_laws = (unit-there)

pub events-more : (g : MacroSource) (e : MacroEvent) (left rest : List MacroEvent) (total before between behind : List ℕ) (old mid new : Heard)
    → Goes total (events_shown g left) before old mid between → left ≡ e ∷ rest → Printed (event_shown g e) between mid new behind → Goes total (events_shown g rest) before old new behind
events-more g e left rest total before between behind old mid new goes is p =
    goes-more total (event_shown g e) (events_shown g rest) before between behind old mid new
    (subst (λ (x : List ℕ). Goes total x before old mid between) (ap (events_shown g) is) goes) p

pub events-over : (g : MacroSource) (all left : List MacroEvent) (before behind : List ℕ) (old new : Heard) → Goes (events_shown g all) (events_shown g left) before old new behind → left ≡ []
    → Printed (events_shown g all) before old new behind
events-over g all left before behind old new goes is =
    goes-over (events_shown g all) before behind old new (subst (λ (es : List MacroEvent). Goes (events_shown g all) (events_shown g es) before old new behind) is goes)

pub events-cut : (g : MacroSource) (e : MacroEvent) (all left rest : List MacroEvent) (before between : List ℕ) (old mid new : Heard) (x : ShowErr)
    → Goes (events_shown g all) (events_shown g left) before old mid between → left ≡ e ∷ rest → Cut (between ++ event_shown g e) mid new x → Cut (before ++ events_shown g all) old new x
events-cut g e all left rest before between old mid new x goes is c =
    goes-cut (events_shown g all) (event_shown g e) (events_shown g rest) before between old mid new x
    (subst (λ (t : List ℕ). Goes (events_shown g all) t before old mid between) (ap (events_shown g) is) goes) c

pub first-there : (v : View) (e : MacroEvent) (left rest : List MacroEvent) → EventsThere v left → left ≡ e ∷ rest → EventThere v e
first-there v e left rest all is =
    let here : EventsThere v (e ∷ rest) = subst (EventsThere v) is all in
    here.0

pub rest-there : (v : View) (e : MacroEvent) (left rest : List MacroEvent) → EventsThere v left → left ≡ e ∷ rest → EventsThere v rest
rest-there v e left rest all is =
    let here : EventsThere v (e ∷ rest) = subst (EventsThere v) is all in
    here.1

-- of the events of a unit a front is printed, and these are left
pub record EventsGo (g : MacroSource) (all left : List MacroEvent) (before : List ℕ) (old new : Heard) (behind : List ℕ) : Type 0 where
  pub goes : Goes (events_shown g all) (events_shown g left) before old new behind
  pub there : EventsThere g.view left

pub all-left : (g : MacroSource) (all : List MacroEvent) (before : List ℕ) (h : Heard) → EventsThere g.view all → EventsGo g all all before h h before
all-left g all before h there = record { goes = goes-start (events_shown g all) before h; there = there }

pub one-less : (g : MacroSource) (e : MacroEvent) (all left rest : List MacroEvent) (before between behind : List ℕ) (old mid new : Heard)
    → EventsGo g all left before old mid between → left ≡ e ∷ rest → Printed (event_shown g e) between mid new behind → EventsGo g all rest before old new behind
one-less g e all left rest before between behind old mid new go is p = record {
  goes = events-more g e left rest (events_shown g all) before between behind old mid new go.goes is p;
  there = rest-there g.view e left rest go.there is;
}

pub here-there : (g : MacroSource) (e : MacroEvent) (all left rest : List MacroEvent) (before between : List ℕ) (old mid : Heard) → EventsGo g all left before old mid between → left ≡ e ∷ rest
    → EventThere g.view e
here-there g e all left rest before between old mid go is = first-there g.view e left rest go.there is

pub ruleset event_laws = (all-left, one-less, here-there)

-- units
unit-first : (g : MacroSource) (us : List MacroUnit) (i : ℕ) (d : MacroUnit) → i < length us
    → units_shown g i (drop i us) ≡ unit_shown g i (get_or us i d) ++ units_shown g (i + 1) (drop (i + 1) us)
unit-first g us i d lt =
    let next : suc i ≡ i + 1 = omega arith in
    ap (units_shown g i) (drop-cons us i d lt) ∙ ap (λ (k : ℕ). unit_shown g i (get_or us i d) ++ units_shown g (i + 1) (drop k us)) next

pub units-start : (g : MacroSource) (us : List MacroUnit) (before : List ℕ) (h : Heard) → Goes (units_shown g 0 us) (units_shown g 0 (drop 0 us)) before h h before
units-start g us before h = goes-start (units_shown g 0 us) before h

pub units-more : (g : MacroSource) (us : List MacroUnit) (i : ℕ) (d : MacroUnit) (total before between behind : List ℕ) (old mid new : Heard)
    → Goes total (units_shown g i (drop i us)) before old mid between → i < length us
    → Printed (unit_shown g i (get_or us i d)) between mid new behind → Goes total (units_shown g (i + 1) (drop (i + 1) us)) before old new behind
units-more g us i d total before between behind old mid new goes lt p =
    goes-more total (unit_shown g i (get_or us i d)) (units_shown g (i + 1) (drop (i + 1) us)) before between behind old mid new
    (subst (λ (rest : List ℕ). Goes total rest before old mid between) (unit-first g us i d lt) goes) p

pub units-over : (g : MacroSource) (us : List MacroUnit) (i : ℕ) (before behind : List ℕ) (old new : Heard)
    → Goes (units_shown g 0 us) (units_shown g i (drop i us)) before old new behind → length us ≤ i → Printed (units_shown g 0 us) before old new behind
units-over g us i before behind old new goes past =
    goes-over (units_shown g 0 us) before behind old new
    (subst (λ (rest : List ℕ). Goes (units_shown g 0 us) rest before old new behind) (ap (units_shown g i) (drop_all i us past)) goes)

pub units-cut : (g : MacroSource) (us : List MacroUnit) (i : ℕ) (u d : MacroUnit) (before between : List ℕ) (old mid new : Heard) (e : ShowErr)
    → Goes (units_shown g 0 us) (units_shown g i (drop i us)) before old mid between → i < length us → u ≡ get_or us i d
    → Cut (between ++ unit_shown g i u) mid new e → Cut (before ++ units_shown g 0 us) old new e
units-cut g us i u d before between old mid new e goes lt is c =
    goes-cut (units_shown g 0 us) (unit_shown g i u) (units_shown g (i + 1) (drop (i + 1) us)) before between old mid new e
    (subst (λ (rest : List ℕ). Goes (units_shown g 0 us) rest before old mid between)
    (unit-first g us i d lt ∙ ap (λ (x : MacroUnit). unit_shown g i x ++ units_shown g (i + 1) (drop (i + 1) us)) (sym is)) goes) c

pub ruleset units_laws = (units-start, units-more, unit-at)
