-- The macro units of a view in one list, with where they start.
use Rattle.std.proofs.Common.{◌≡◌, ℕ, suc, ◌+◌, ◌<◌, ◌≤◌, List, [], ◌∷◌, ◌++◌, length, get_or, drop, sym, ap, ◌∙◌, subst, arith, append_assoc, append-nil}
use Rattle.std.proofs.Math.Seq.{drop-cons}
use Rattle.std.proofs.lemmas.List.{drop_all}
use Rattle.dw_base.specs.FileViews.{View}
use Rattle.dw_base.specs.declared.macro_units.MacroUnit.{MacroUnit}
use Rattle.dw_starts.specs.MacroNames.{AllUnitsIn, AreUnitsIn}
use Rattle.dw_starts.specs.MacroSections.{SectionUnits}
use Rattle.dw_starts.specs.UnitPlaces.{AllBelow, all_units, unit_keys}
use Rattle.dbg_show.specs.ShownMacros.{AreMacros}

-- the units of one section more
section-front : (ss : List SectionUnits) (s : SectionUnits) (i : ℕ) → i < length ss → drop i ss ≡ get_or ss i s ∷ drop (i + 1) ss
section-front ss s i lt =
    let next : suc i ≡ i + 1 = omega arith in
    drop-cons ss i s lt ∙ ap (λ (n : ℕ). get_or ss i s ∷ drop n ss) next

pub units-pushed : (ss : List SectionUnits) (s : SectionUnits) (i : ℕ) (old new : List MacroUnit) → i < length ss → old ++ all_units (drop i ss) ≡ all_units ss
    → new ≡ old ++ (get_or ss i s).units → new ++ all_units (drop (i + 1) ss) ≡ all_units ss
units-pushed ss s i old new lt before more =
    ap (λ (us : List MacroUnit). us ++ all_units (drop (i + 1) ss)) more ∙ append_assoc old (get_or ss i s).units (all_units (drop (i + 1) ss))
    ∙ ap (λ (xs : List SectionUnits). old ++ all_units xs) (sym (section-front ss s i lt)) ∙ before

pub units-whole : (ss : List SectionUnits) (i : ℕ) (units : List MacroUnit) → length ss ≤ i → units ++ all_units (drop i ss) ≡ all_units ss → units ≡ all_units ss
units-whole ss i units end is = sym (append-nil units) ∙ ap (λ (xs : List SectionUnits). units ++ all_units xs) (sym (drop_all i ss end)) ∙ is

pub ruleset unit_laws = (units-pushed, units-whole)

-- the units of all sections are of the view
in-append : (v : View) (us ws : List MacroUnit) → AreUnitsIn v us → AreUnitsIn v ws → AreUnitsIn v (us ++ ws)
in-append v [] ws h k = k
in-append v (u ∷ us) ws h k = (h.0, in-append v us ws h.1 k)

pub all-in : (v : View) (ss : List SectionUnits) → AllUnitsIn v ss → AreUnitsIn v (all_units ss)
all-in v [] h = tt
all-in v (s ∷ ss) h = in-append v s.units (all_units ss) h.0 (all-in v ss h.1)

pub list-in : (v : View) (ss : List SectionUnits) (units us : List MacroUnit) → AllUnitsIn v ss → us ≡ units → units ≡ all_units ss → AreUnitsIn v us
list-in v ss units us h is are = subst (AreUnitsIn v) (sym (is ∙ are)) (all-in v ss h)

pub list-made : (v : View) (ss : List SectionUnits) (units us : List MacroUnit) (keys : List ℕ) → units ≡ all_units ss → us ≡ units → keys ≡ unit_keys us → AllBelow us
    → AreMacros v ss units keys
list-made v ss units us keys are is keyed below = record { units_are = are; keys_are = keyed ∙ ap unit_keys is; below = subst AllBelow is below }

pub ruleset list_laws = (list-in, list-made)
