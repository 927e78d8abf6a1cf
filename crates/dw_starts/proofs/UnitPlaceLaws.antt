-- The macro units of a view that were read start at the places that are kept: their first section, and each as one number.
use Rattle.std.proofs.Common.{◌≡◌, ℕ, suc, ◌+◌, ◌^◌, ◌<◌, ◌≤◌, List, [], ◌∷◌, ◌++◌, length, get_or, drop, refl, sym, ap, ◌∙◌, subst, arith, append_assoc, append-nil}
use Rattle.std.proofs.Math.Seq.{drop-cons}
use Rattle.std.proofs.lemmas.List.{drop_all}
use Rattle.dw_base.specs.Cells.{CellSection}
use Rattle.dw_base.specs.DebugData.{started_unit, unit_named}
use Rattle.dw_base.specs.FileViews.{View, section_bytes}
use Rattle.dw_base.specs.MacroReadings.{MacroStart, first_macros, MacroPlaces}
use Rattle.dw_base.specs.ViewData.{debug_data, located}
use Rattle.dw_base.specs.declared.debug_sections.DebugSection.TheVariants.{Macro}
use Rattle.dw_base.specs.declared.macro_units.MacroUnit.{MacroUnit}
use Rattle.dw_meaning.proofs.MacroFirstLaws.{first-macros}
use Rattle.dw_macros.specs.MacroEvents.{IsUnitIn}
use Rattle.dw_starts.specs.UnitPlaces.{UnitsStart, AllBelow, UnitPlaces, all_units, place_key, place_limit, unit_keys, unit_number, PlacesStart, has_unit, names_place}
use Rattle.dw_starts.specs.LineStarts.{Rises}
use Rattle.dw_starts.specs.MacroSections.{HaveUnits, SectionUnits, UnitsFoundIn, first_section}
use Rattle.dw_starts.proofs.MacroNameLaws.{units-in}
use Rattle.dw_starts.proofs.MacroStartLaws.{StartsRead, all-cells, starts-read}
use Rattle.dw_starts.proofs.UnitKeyLaws.{keys-append, keys-rise, numbered, starts-all}
use Rattle.dw_starts.proofs.MacroLoopLaws.{unit-at}
use Rattle.dw_base.proofs.MacroRowLaws.{macro_header-inside}
use Rattle.dw_base.specs.LineMeanings.{is_there}
use Rattle.dw_base.specs.declared.view_fields.Field.{Field}
use Rattle.dw_base.specs.declared.view_fields.Field.TheVariants.{Num, Into, Sym}

pub start-below : (v : View) (u : MacroUnit) (bytes : List ℕ) → IsUnitIn v u → bytes ≡ section_bytes v u.section → length bytes ≤ 2 ^ 31 → u.start < place_limit
start-below v u bytes is same small =
    let inside = macro_header-inside v.order (section_bytes v u.section) is.start is.is.header is.is.header_is in
    let size : length bytes ≡ length (section_bytes v u.section) = ap length same in
    let own : u.start ≡ is.start = ap (λ (x : MacroUnit). x.start) is.is.is in
    omega (arith, inside, size, own, small)

pub ruleset start_rules = (start-below)

-- one unit more
unit-front : (us : List MacroUnit) (u : MacroUnit) (i : ℕ) → i < length us → drop i us ≡ get_or us i u ∷ drop (i + 1) us
unit-front us u i lt =
    let next : suc i ≡ i + 1 = omega arith in
    drop-cons us i u lt ∙ ap (λ (n : ℕ). get_or us i u ∷ drop n us) next

pub record KeysPushed (first : List ℕ) (us : List MacroUnit) (i : ℕ) (keys : List ℕ) : Type 0 where
  pub are : keys ++ unit_keys (drop i us) ≡ first ++ unit_keys us
  pub below : AllBelow (drop i us) → AllBelow us

pub keys-start : (us : List MacroUnit) (first : List ℕ) → KeysPushed first us 0 first
keys-start us first = record { are = refl; below = λ h. h }

pub keys-more : (us : List MacroUnit) (u : MacroUnit) (i k : ℕ) (first old new : List ℕ) → i < length us → KeysPushed first us i old
    → k ≡ place_key (get_or us i u).section (get_or us i u).start → (get_or us i u).start < place_limit → new ≡ old ++ k ∷ [] → KeysPushed first us (i + 1) new
keys-more us u i k first old new lt so key below more = record {
  are =
      ap (λ (ks : List ℕ). ks ++ unit_keys (drop (i + 1) us)) more ∙ append_assoc old (k ∷ []) (unit_keys (drop (i + 1) us))
      ∙ ap (λ (n : ℕ). old ++ n ∷ unit_keys (drop (i + 1) us)) key
      ∙ ap (λ (xs : List MacroUnit). old ++ unit_keys xs) (sym (unit-front us u i lt)) ∙ so.are;
  below = λ h. so.below (subst AllBelow (sym (unit-front us u i lt)) (below, h));
}

pub keys-all : (us : List MacroUnit) (i : ℕ) (first keys : List ℕ) → length us ≤ i → KeysPushed first us i keys → keys ≡ first ++ unit_keys us
keys-all us i first keys end so = sym (append-nil keys) ∙ ap (λ (xs : List MacroUnit). keys ++ unit_keys xs) (sym (drop_all i us end)) ∙ so.are

pub keys-below : (us : List MacroUnit) (i : ℕ) (first keys : List ℕ) → length us ≤ i → KeysPushed first us i keys → AllBelow us
keys-below us i first keys end so = so.below (subst AllBelow (sym (drop_all i us end)) tt)

pub ruleset keys_rules = (unit-at)

-- one section more
section-front : (ss : List SectionUnits) (s : SectionUnits) (i : ℕ) → i < length ss → s ≡ get_or ss i s → drop i ss ≡ s ∷ drop (i + 1) ss
section-front ss s i lt is =
    let next : suc i ≡ i + 1 = omega arith in
    drop-cons ss i s lt ∙ ap (λ (n : ℕ). get_or ss i s ∷ drop n ss) next ∙ ap (λ (y : SectionUnits). y ∷ drop (i + 1) ss) (sym is)

pub record AllKeys (ss : List SectionUnits) (i : ℕ) (keys : List ℕ) : Type 0 where
  pub are : keys ++ unit_keys (all_units (drop i ss)) ≡ unit_keys (all_units ss)
  pub below : AllBelow (all_units (drop i ss)) → AllBelow (all_units ss)

pub all-start : (ss : List SectionUnits) → AllKeys ss 0 []
all-start ss = record { are = refl; below = λ h. h }

below-append : (us ws : List MacroUnit) → AllBelow us → AllBelow ws → AllBelow (us ++ ws)
below-append [] ws h k = k
below-append (u ∷ us) ws h k = (h.0, below-append us ws h.1 k)

pub all-more : (ss : List SectionUnits) (s : SectionUnits) (i : ℕ) (us : List MacroUnit) (old new : List ℕ) → i < length ss → s ≡ get_or ss i s → us ≡ s.units → AllKeys ss i old
    → new ≡ old ++ unit_keys us → AllBelow us → AllKeys ss (i + 1) new
all-more ss s i us old new lt is own so more below = record {
  are =
      ap (λ (ks : List ℕ). ks ++ unit_keys (all_units (drop (i + 1) ss))) more
      ∙ append_assoc old (unit_keys us) (unit_keys (all_units (drop (i + 1) ss)))
      ∙ ap (λ (ks : List ℕ). old ++ ks) (sym (keys-append us (all_units (drop (i + 1) ss))))
      ∙ ap (λ (xs : List MacroUnit). old ++ unit_keys (xs ++ all_units (drop (i + 1) ss))) own
      ∙ ap (λ (xs : List SectionUnits). old ++ unit_keys (all_units xs)) (sym (section-front ss s i lt is)) ∙ so.are;
  below = λ h. so.below (subst (λ (xs : List SectionUnits). AllBelow (all_units xs)) (sym (section-front ss s i lt is))
      (below-append s.units (all_units (drop (i + 1) ss)) (subst AllBelow own below) h));
}

pub all-end : (ss : List SectionUnits) (i : ℕ) (keys : List ℕ) → length ss ≤ i → AllKeys ss i keys → keys ≡ unit_keys (all_units ss)
all-end ss i keys end so =
    sym (append-nil keys) ∙ ap (λ (xs : List SectionUnits). keys ++ unit_keys (all_units xs)) (sym (drop_all i ss end)) ∙ so.are

pub all-below : (ss : List SectionUnits) (i : ℕ) (keys : List ℕ) → length ss ≤ i → AllKeys ss i keys → AllBelow (all_units ss)
all-below ss i keys end so = so.below (subst (λ (xs : List SectionUnits). AllBelow (all_units xs)) (sym (drop_all i ss end)) tt)

pub ruleset all_rules = (all-start, all-end, all-below)

-- the first section
pub first-none : (ss : List SectionUnits) → length ss ≡ 0 → 0 ≡ first_section ss
first-none [] e = refl
first-none (s ∷ ss) e = absurd (omega (arith, e))

pub first-some : (ss : List SectionUnits) (s : SectionUnits) (n : ℕ) → 0 < length ss → s ≡ get_or ss 0 s → n ≡ s.number → n ≡ first_section ss
first-some [] s n lt is e = absurd (omega (arith, lt))
first-some (x ∷ xs) s n lt is e = e ∙ ap (λ (y : SectionUnits). y.number) is

pub ruleset first_rules = (first-none, first-some)

first-is : (v : View) (zs : List CellSection) (ss : List SectionUnits) → HaveUnits v zs ss → first_section ss ≡ first_macros zs
first-is v [] [] h = refl
first-is v [] (s ∷ ss) h = absurd h
first-is v (z ∷ zs) [] h = absurd h
first-is v (z ∷ zs) (s ∷ ss) h = h.0

-- so the units start at these places, and these rise
pub places-rise : (v : View) (ss : List SectionUnits) (keys : List ℕ) → UnitsFoundIn v ss → keys ≡ unit_keys (all_units ss) → AllBelow (all_units ss) → Rises keys
places-rise v ss keys found is below = subst Rises (sym is) (keys-rise v ss found below)

pub units-start : (v : View) (ss : List SectionUnits) (first : ℕ) (keys : List ℕ) → UnitsFoundIn v ss → keys ≡ unit_keys (all_units ss) → AllBelow (all_units ss)
    → first ≡ first_section ss → UnitsStart (debug_data v) (record { first = first; keys = keys })
unfolding debug_data
units-start v ss first keys found is below one =
    let r : StartsRead v ((debug_data v).found Macro) ss = starts-read v ((debug_data v).found Macro) ss (all-cells v) found.units in
    record {
      readings = r.readings;
      are = r.reads;
      start = record {
        first = one ∙ first-is v ((debug_data v).found Macro) ss found.units;
        numbered = λ (s o : ℕ).
            ap (λ (ms : List MacroStart). started_unit 0 ms s o) (r.starts ∙ starts-all v ((debug_data v).found Macro) ss found.units)
            ∙ numbered s o (all_units ss) below
            ∙ ap (λ (ks : List ℕ). unit_number ks s o) (sym is);
      };
    }

pub ruleset new_rules = (places-rise, units-start, units-in)

-- the first section is that of their name
pub first-number : (v : View) (places : UnitPlaces) → UnitsStart (debug_data v) places → places.first ≡ (located v Macro).number
unfolding debug_data
first-number v places units = units.start.first ∙ first-macros v

-- a field names a unit exactly where one starts at the place that it holds
pub field-unit : (places : UnitPlaces) (g : MacroPlaces) (f : Field) → PlacesStart places g → is_there (unit_named g f) ≡ names_place places f
field-unit places g (Num n) p =
    ap is_there (p.numbered g.first n) ∙ ap (λ (k : ℕ). has_unit places k n) (sym p.first)
field-unit places g (Into z n) p = ap is_there (p.numbered z n)
field-unit places g (Sym s k a) p = refl
