-- Offsets of macro units, one after another: where those that were passed name what they are to name, all do if those that are left do; and why one
-- doesn't.
use Rattle.std.proofs.Common.{◌≡◌, ℕ, zero, suc, ◌+◌, ◌<◌, ◌≤◌, List, [], ◌∷◌, ◌++◌, length, take, drop, get_or, refl, sym, ap, ◌∙◌, subst, arith, append_assoc}
use Rattle.std.proofs.Math.Seq.{drop-cons}
use Rattle.std.proofs.lemmas.List.{drop_all, take-append-drop}
use Rattle.dw_base.specs.FileViews.{View}
use Rattle.dw_base.specs.declared.fault.Refusal.{Refusal}
use Rattle.dw_base.specs.declared.macro_units.MacroEvent.{MacroEvent}
use Rattle.dw_base.specs.declared.macro_units.MacroUnit.{MacroUnit}
use Rattle.dw_macros.specs.MacroEvents.{IsUnitIn, unit_events}
use Rattle.dw_starts.specs.MacroNames.{AllUnitsIn, AreUnitsIn, EventNames, EventStray, EventStrays, EventsName, LineNames, LineStrays, MacrosName, MacrosStray, UnitsName, UnitsStray}
use Rattle.dw_starts.specs.MacroNames.EventStrays.{event}
use Rattle.dw_starts.specs.MacroNames.MacrosStray.{section as stray_section}
use Rattle.dw_starts.specs.MacroNames.UnitStrays.{line as stray_line, events as stray_events}
use Rattle.dw_starts.specs.MacroNames.UnitsStray.{unit as stray_unit}
use Rattle.dw_starts.specs.MacroSections.{SectionUnits}
use Rattle.dw_starts.specs.UnitPlaces.{UnitPlaces}

-- one of a list, with those before it and behind it
front-at : {X : Type 0} (xs : List X) (x : X) (i : ℕ) → i < length xs → x ≡ get_or xs i x → drop i xs ≡ x ∷ drop (i + 1) xs
front-at {X} xs x i lt is =
    let next : suc i ≡ i + 1 = omega arith in
    drop-cons xs i x lt ∙ ap (λ (n : ℕ). get_or xs i x ∷ drop n xs) next ∙ ap (λ (y : X). y ∷ drop (i + 1) xs) (sym is)

split-at : {X : Type 0} (xs : List X) (x : X) (i : ℕ) → i < length xs → x ≡ get_or xs i x → xs ≡ take i xs ++ x ∷ drop (i + 1) xs
split-at {X} xs x i lt is = sym (take-append-drop i xs) ∙ ap (λ (ys : List X). take i xs ++ ys) (front-at xs x i lt is)

-- events: those that are left behind some
pub record EventsPassed (places : UnitPlaces) (all left : List MacroEvent) : Type 0 where
  pub passed : List MacroEvent
  pub split : all ≡ passed ++ left
  pub here : EventsName places left → EventsName places all

pub events-none : (places : UnitPlaces) (all : List MacroEvent) → EventsPassed places all all
events-none places all = record { passed = []; split = refl; here = λ h. h }

pub events-more : (places : UnitPlaces) (e : MacroEvent) (all left rest : List MacroEvent) → EventsPassed places all left → left ≡ e ∷ rest → EventNames places e
    → EventsPassed places all rest
events-more places e all left rest p is names = record {
  passed = p.passed ++ e ∷ [];
  split = p.split ∙ ap (λ (es : List MacroEvent). p.passed ++ es) is ∙ sym (append_assoc p.passed (e ∷ []) rest);
  here = λ h. p.here (subst (EventsName places) (sym is) (names, h));
}

pub events-over : (places : UnitPlaces) (all left : List MacroEvent) → EventsPassed places all left → left ≡ [] → EventsName places all
events-over places all left p none = p.here (subst (EventsName places) (sym none) tt)

pub events-refused : (section : ℕ) (places : UnitPlaces) (e : MacroEvent) (all left rest : List MacroEvent) (r : Refusal) → EventsPassed places all left → left ≡ e ∷ rest
    → EventStray section places e r → EventStrays section places all r
events-refused section places e all left rest r p is stray = event p.passed rest e (p.split ∙ ap (λ (es : List MacroEvent). p.passed ++ es) is) stray

pub ruleset event_loop_rules = (events-none, events-more)

-- units of a section
pub record UnitsPassed (v : View) (starts : List ℕ) (places : UnitPlaces) (us : List MacroUnit) (i : ℕ) : Type 0 where
  pub here : UnitsName v starts places (drop i us) → UnitsName v starts places us

pub units-none : (v : View) (starts : List ℕ) (places : UnitPlaces) (us : List MacroUnit) → UnitsPassed v starts places us 0
units-none v starts places us = record { here = λ h. h }

pub units-more : (v : View) (starts : List ℕ) (places : UnitPlaces) (us : List MacroUnit) (i : ℕ) (u : MacroUnit) → i < length us → u ≡ get_or us i u → UnitsPassed v starts places us i
    → LineNames starts u.line → EventsName places (unit_events v u) → UnitsPassed v starts places us (i + 1)
units-more v starts places us i u lt is p line events =
    record { here = λ h. p.here (subst (UnitsName v starts places) (sym (front-at us u i lt is)) (line, events, h)) }

pub units-over : (v : View) (starts : List ℕ) (places : UnitPlaces) (us : List MacroUnit) (i : ℕ) → length us ≤ i → UnitsPassed v starts places us i → UnitsName v starts places us
units-over v starts places us i end p = p.here (subst (UnitsName v starts places) (sym (drop_all i us end)) tt)

pub line-refused : (v : View) (starts : List ℕ) (places : UnitPlaces) (us : List MacroUnit) (i : ℕ) (u : MacroUnit) (r : Refusal) → i < length us → u ≡ get_or us i u
    → LineStrays starts u r → UnitsStray v starts places us r
line-refused v starts places us i u r lt is stray = stray_unit (take i us) (drop (i + 1) us) u (split-at us u i lt is) (stray_line stray)

pub unit-refused : (v : View) (starts : List ℕ) (places : UnitPlaces) (us : List MacroUnit) (i : ℕ) (u : MacroUnit) (r : Refusal) → i < length us → u ≡ get_or us i u
    → EventStrays u.section places (unit_events v u) r → UnitsStray v starts places us r
unit-refused v starts places us i u r lt is stray = stray_unit (take i us) (drop (i + 1) us) u (split-at us u i lt is) (stray_events stray)

pub unit-at : (v : View) (us : List MacroUnit) (i : ℕ) (d : MacroUnit) → i < length us → AreUnitsIn v us → IsUnitIn v (get_or us i d)
unit-at v [] i d lt are = absurd (omega (arith, lt))
unit-at v (u ∷ us) zero d lt are = are.0
unit-at v (u ∷ us) (suc i) d lt are = unit-at v us i d (omega (arith, lt)) are.1

pub ruleset unit_loop_rules = (units-none, units-over)

-- sections
pub record SectionsPassed (v : View) (starts : List ℕ) (places : UnitPlaces) (ss : List SectionUnits) (i : ℕ) : Type 0 where
  pub here : MacrosName v starts places (drop i ss) → MacrosName v starts places ss

pub sections-none : (v : View) (starts : List ℕ) (places : UnitPlaces) (ss : List SectionUnits) → SectionsPassed v starts places ss 0
sections-none v starts places ss = record { here = λ h. h }

pub sections-more : (v : View) (starts : List ℕ) (places : UnitPlaces) (ss : List SectionUnits) (i : ℕ) (s : SectionUnits) (us : List MacroUnit) → i < length ss → s ≡ get_or ss i s
    → SectionsPassed v starts places ss i → us ≡ s.units → UnitsName v starts places us → SectionsPassed v starts places ss (i + 1)
sections-more v starts places ss i s us lt is p own names = record {
  here = λ h. p.here (subst (MacrosName v starts places) (sym (front-at ss s i lt is)) (subst (UnitsName v starts places) own names, h));
}

pub sections-over : (v : View) (starts : List ℕ) (places : UnitPlaces) (ss : List SectionUnits) (i : ℕ) → length ss ≤ i → SectionsPassed v starts places ss i → MacrosName v starts places ss
sections-over v starts places ss i end p = p.here (subst (MacrosName v starts places) (sym (drop_all i ss end)) tt)

pub section-refused : (v : View) (starts : List ℕ) (places : UnitPlaces) (ss : List SectionUnits) (i : ℕ) (s : SectionUnits) (us : List MacroUnit) (r : Refusal) → i < length ss
    → s ≡ get_or ss i s → us ≡ s.units → UnitsStray v starts places us r → MacrosStray v starts places ss r
section-refused v starts places ss i s us r lt is own stray =
    stray_section (take i ss) (drop (i + 1) ss) s (split-at ss s i lt is) (subst (λ (xs : List MacroUnit). UnitsStray v starts places xs r) own stray)

units-at : (v : View) (ss : List SectionUnits) (i : ℕ) (d : SectionUnits) → i < length ss → AllUnitsIn v ss → AreUnitsIn v (get_or ss i d).units
units-at v [] i d lt are = absurd (omega (arith, lt))
units-at v (s ∷ ss) zero d lt are = are.0
units-at v (s ∷ ss) (suc i) d lt are = units-at v ss i d (omega (arith, lt)) are.1

pub section-units : (v : View) (ss : List SectionUnits) (i : ℕ) (s : SectionUnits) (us : List MacroUnit) → i < length ss → s ≡ get_or ss i s → AllUnitsIn v ss
    → us ≡ s.units → AreUnitsIn v us
section-units v ss i s us lt is are own =
    subst (AreUnitsIn v) (sym (own ∙ ap (λ (x : SectionUnits). x.units) is)) (units-at v ss i s lt are)

pub ruleset section_loop_rules = (sections-none, sections-over)
