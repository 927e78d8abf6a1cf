-- The macro units of a view, section by section: the fields of the offsets of their line tables and of texts.
use Rattle.std.proofs.Common.{false, ◌≡◌, ◌≢◌, ℕ, zero, suc, ◌+◌, ◌<◌, ◌≤◌, if◌then◌else◌, Bool, List, [], ◌∷◌, ◌++◌, length, get_or, drop, None, refl, sym, ap, ◌∙◌, subst, arith, append_assoc, append-nil}
use Rattle.std.proofs.lemmas.Bool.{eq-eqb, ne_eqb}
use Rattle.std.proofs.Math.Seq.{drop-cons}
use Rattle.std.proofs.lemmas.List.{drop_all}
use Rattle.dw_base.specs.declared.macro_units.MacroUnit.{MacroUnit}
use Rattle.dw_base.specs.DebugSections.{read_sections}
use Rattle.dw_base.specs.FileViews.{View}
use Rattle.dw_base.specs.Forms.{width_size}
use Rattle.dw_base.specs.declared.line_tables.TextPlace.{TextPlace}
use Rattle.dw_base.specs.declared.macro_units.MacroEvent.{MacroEvent}
use Rattle.dw_base.specs.declared.shared.Width.{Width}
use Rattle.dw_macros.specs.MacroEvents.{unit_events}
use Rattle.dw_starts.specs.MacroNames.{AllUnitsIn, AreUnitsIn}
use Rattle.dw_starts.specs.MacroSections.{SectionUnits}
use Rattle.dw_read.specs.MacroFields.{event_field, event_fields, line_fields, macros_into, macros_of, macros_with, named_texts, place_field}
use Rattle.dw_unit_fields.specs.SectionFields.{SectionFields, lists_by, with_fields}
use Rattle.dw_unit_fields.specs.EntryTexts.{no_paths}
use Rattle.dw_unit_fields.proofs.FieldListLaws.{each-section, lists-same, paths-same}
use Rattle.dw_base.specs.declared.debug_sections.DebugSection.TheVariants.{Str, Line}
use Rattle.dw_offsets.specs.declared.fields.OffsetField.{OffsetField}

pub fields-all : (us : List MacroUnit) (i : ℕ) (fields : List OffsetField) → length us ≤ i → fields ++ line_fields (drop i us) ≡ line_fields us → fields ≡ line_fields us
fields-all us i fields end is = sym (append-nil fields) ∙ ap (λ (xs : List MacroUnit). fields ++ line_fields xs) (sym (drop_all i us end)) ∙ is

pub ruleset fields_rules = (fields-all)

-- a section more
section-front : (ss : List SectionUnits) (s : SectionUnits) (i : ℕ) → i < length ss → s ≡ get_or ss i s → drop i ss ≡ s ∷ drop (i + 1) ss
section-front ss s i lt is =
    let next : suc i ≡ i + 1 = omega arith in
    drop-cons ss i s lt ∙ ap (λ (n : ℕ). get_or ss i s ∷ drop n ss) next ∙ ap (λ (y : SectionUnits). y ∷ drop (i + 1) ss) (sym is)

pub macros-pushed : (v : View) (ss : List SectionUnits) (s : SectionUnits) (i : ℕ) (first old new : List SectionFields) (u : SectionFields) → i < length ss → s ≡ get_or ss i s
    → u ≡ macros_with s.number (line_fields s.units) (named_texts v s.units) → old ++ macros_of v (drop i ss) ≡ first ++ macros_of v ss → new ≡ old ++ u ∷ []
    → new ++ macros_of v (drop (i + 1) ss) ≡ first ++ macros_of v ss
macros-pushed v ss s i first old new u lt is one before more =
    ap (λ (us : List SectionFields). us ++ macros_of v (drop (i + 1) ss)) more ∙ append_assoc old (u ∷ []) (macros_of v (drop (i + 1) ss))
    ∙ ap (λ (x : SectionFields). old ++ x ∷ macros_of v (drop (i + 1) ss)) one
    ∙ ap (λ (xs : List SectionUnits). old ++ macros_of v xs) (sym (section-front ss s i lt is)) ∙ before

pub macros-all : (v : View) (ss : List SectionUnits) (i : ℕ) (first paths : List SectionFields) → length ss ≤ i → paths ++ macros_of v (drop i ss) ≡ first ++ macros_of v ss
    → paths ≡ first ++ macros_of v ss
macros-all v ss i first paths end is = sym (append-nil paths) ∙ ap (λ (xs : List SectionUnits). paths ++ macros_of v xs) (sym (drop_all i ss end)) ∙ is

-- each section has units of the view
pub section-at : (v : View) (ss : List SectionUnits) (i : ℕ) (s : SectionUnits) → i < length ss → s ≡ get_or ss i s → AllUnitsIn v ss → AreUnitsIn v s.units
section-at v ss i s lt is are = subst (λ (x : SectionUnits). AreUnitsIn v x.units) (sym is) (get-at ss i s lt are)
  where
    get-at : (xs : List SectionUnits) (k : ℕ) (d : SectionUnits) → k < length xs → AllUnitsIn v xs → AreUnitsIn v (get_or xs k d).units
    get-at [] k d below h = absurd (omega (arith, below))
    get-at (x ∷ xs) zero d below h = h.0
    get-at (x ∷ xs) (suc k) d below h = get-at xs k d (omega (arith, below)) h.1

pub ruleset push_rules = (macros-pushed, macros-all)

-- what a section says
pub with-both : (n : ℕ) (starts texts a b : List OffsetField) (none lined both : SectionFields) → a ≡ starts → b ≡ texts → none ≡ no_paths n → lined ≡ with_fields none Line a
    → both ≡ with_fields lined Str b → both ≡ macros_with n starts texts
with-both n starts texts a b none lined both x y e l is =
    is ∙ ap (λ (u : SectionFields). with_fields u Str b) (l ∙ ap (λ (u : SectionFields). with_fields u Line a) e)
    ∙ paths-same n (lists_by (macros_into a b)) (lists_by (macros_into starts texts)) [] [] None None
    (lists-same (macros_into a b) (macros_into starts texts) read_sections (each-section (macros_into a b) (macros_into starts texts) refl refl refl y refl refl x refl refl)) refl refl

-- the units that are passed
pub units-slice : (v : View) (xs us : List MacroUnit) → xs ≡ us → AreUnitsIn v us → AreUnitsIn v xs
units-slice v xs us is are = subst (AreUnitsIn v) (sym is) are

pub lines-slice : (xs us : List MacroUnit) (fields : List OffsetField) → xs ≡ us → fields ≡ line_fields xs → fields ≡ line_fields us
lines-slice xs us fields is are = are ∙ ap line_fields is

pub texts-slice : (v : View) (xs us : List MacroUnit) (fields : List OffsetField) → xs ≡ us → fields ≡ named_texts v xs → fields ≡ named_texts v us
texts-slice v xs us fields is are = are ∙ ap (named_texts v) is

pub ruleset with_rules = (with-both, units-slice, lines-slice, texts-slice)

-- one text more, one event more, and one unit more
pub text-there : (section : ℕ) (w : Width) (text : TextPlace) (size : ℕ) (old new : List OffsetField) → text.section ≢ section → size ≡ width_size w
    → new ≡ old ++ record { at = text.field; size = size; path = false } ∷ [] → new ≡ old ++ place_field section w text
text-there section w text size old new other is more =
    more ∙ ap (λ (n : ℕ). old ++ record { at = text.field; size = n; path = false } ∷ []) is
    ∙ ap (λ (b : Bool). old ++ (if b then [] else record { at = text.field; size = width_size w; path = false } ∷ [])) (sym (ne_eqb text.section section other))

pub text-own : (section : ℕ) (w : Width) (text : TextPlace) (old new : List OffsetField) → text.section ≡ section → new ≡ old → new ≡ old ++ place_field section w text
text-own section w text old new own same =
    same ∙ sym (append-nil old)
    ∙ ap (λ (b : Bool). old ++ (if b then [] else record { at = text.field; size = width_size w; path = false } ∷ [])) (sym (eq-eqb text.section section own))

pub ruleset text_rules = (text-there, text-own)

pub event-none : (section : ℕ) (w : Width) (e : MacroEvent) (old new : List OffsetField) → event_field section w e ≡ [] → new ≡ old → new ≡ old ++ event_field section w e
event-none section w e old new none same = same ∙ sym (append-nil old) ∙ ap (λ (fs : List OffsetField). old ++ fs) (sym none)

pub ruleset event_rules = (event-none)

pub event-more : (section : ℕ) (w : Width) (e : MacroEvent) (all left rest : List MacroEvent) (first old new : List OffsetField) → left ≡ e ∷ rest
    → old ++ event_fields section w left ≡ first ++ event_fields section w all → new ≡ old ++ event_field section w e
    → new ++ event_fields section w rest ≡ first ++ event_fields section w all
event-more section w e all left rest first old new is before more =
    ap (λ (fs : List OffsetField). fs ++ event_fields section w rest) more ∙ append_assoc old (event_field section w e) (event_fields section w rest)
    ∙ ap (λ (es : List MacroEvent). old ++ event_fields section w es) (sym is) ∙ before

pub events-over : (section : ℕ) (w : Width) (all left : List MacroEvent) (first new : List OffsetField) → left ≡ [] → new ++ event_fields section w left ≡ first ++ event_fields section w all
    → new ≡ first ++ event_fields section w all
events-over section w all left first new none before = sym (append-nil new) ∙ ap (λ (es : List MacroEvent). new ++ event_fields section w es) (sym none) ∙ before

pub ruleset left_rules = (event-more, events-over)

pub unit-more : (v : View) (us : List MacroUnit) (i : ℕ) (u : MacroUnit) (old new : List OffsetField) → i < length us → u ≡ get_or us i u
    → old ++ named_texts v (drop i us) ≡ named_texts v us → new ≡ old ++ event_fields u.section u.width (unit_events v u) → new ++ named_texts v (drop (i + 1) us) ≡ named_texts v us
unit-more v us i u old new lt is before more =
    let next : suc i ≡ i + 1 = omega arith in
    let front : drop i us ≡ u ∷ drop (i + 1) us =
    drop-cons us i u lt ∙ ap (λ (n : ℕ). get_or us i u ∷ drop n us) next ∙ ap (λ (y : MacroUnit). y ∷ drop (i + 1) us) (sym is) in
    ap (λ (fs : List OffsetField). fs ++ named_texts v (drop (i + 1) us)) more
    ∙ append_assoc old (event_fields u.section u.width (unit_events v u)) (named_texts v (drop (i + 1) us))
    ∙ ap (λ (xs : List MacroUnit). old ++ named_texts v xs) (sym front) ∙ before

pub units-over : (v : View) (us : List MacroUnit) (i : ℕ) (new : List OffsetField) → length us ≤ i → new ++ named_texts v (drop i us) ≡ named_texts v us → new ≡ named_texts v us
units-over v us i new end is = sym (append-nil new) ∙ ap (λ (xs : List MacroUnit). new ++ named_texts v xs) (sym (drop_all i us end)) ∙ is
