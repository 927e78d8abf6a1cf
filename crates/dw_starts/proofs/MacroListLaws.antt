-- The sections of macro units of a view, found one after another.
use Rattle.std.proofs.Common.{◌≡◌, ℕ, suc, ◌+◌, ◌<◌, ◌≤◌, arith, List, [], ◌∷◌, ◌++◌, length, get_or, slice_get, Option, Some, None, sym, ap, ◌∙◌, subst, append_assoc, append-nil}
use Rattle.std.proofs.lemmas.Option.{slice_get-get_or, slice_get_past}
use Rattle.dw_base.specs.Cells.{CellSection}
use Rattle.dw_base.specs.DebugSections.{name_of}
use Rattle.dw_base.specs.FileViews.{View, section_after, section_named, sections_named}
use Rattle.dw_base.specs.Refusals.{Blames}
use Rattle.dw_base.specs.ViewData.{debug_data}
use Rattle.dw_base.specs.declared.debug_sections.DebugSection.TheVariants.{Macro}
use Rattle.dw_base.specs.declared.fault.Fault.{Fault}
use Rattle.dw_base.specs.declared.fault.Fault.TheVariants.{NoMemory, Refused}
use Rattle.dw_base.specs.declared.fault.Refusal.{Refusal}
use Rattle.dw_base.proofs.FileViewLaws.{first-named, next-named, section_after-within}
use Rattle.dw_meaning.proofs.MacroFirstLaws.{macros-all, macros-none, macros-some, macros_above, section_cells}
use Rattle.dw_base.specs.MacroOffsets.{AreReadUnits, UnitsRefuse, units as read_units, offsets as read_offsets}
use Rattle.dw_macros.proofs.ExcludeLaws.{units-exclude-all}
use Rattle.dw_starts.specs.MacroSections.{HaveUnits, SectionUnits, UnitsFailIn, offsets, units, UnitsFoundIn}

-- so many were found, and the next one comes behind
pub record SectionsSo (v : View) (next : Option ℕ) (found : List SectionUnits) : Type 0 where
  pub last : ℕ
  pub done : List CellSection
  pub split : (debug_data v).found Macro ≡ done ++ macros_above v last
  pub next_is : next ≡ section_after v (name_of Macro) last
  pub have : HaveUnits v done found

sections-none : (v : View) (next : Option ℕ) → next ≡ section_named v (name_of Macro) → SectionsSo v next []
unfolding debug_data section_named
sections-none v next is = record { last = 0; done = []; split = macros-all v; next_is = is; have = tt }

have-append : (v : View) (zs : List CellSection) (ss : List SectionUnits) (z : CellSection) (s : SectionUnits) → HaveUnits v zs ss → s.number ≡ z.number → AreReadUnits v z.number s.units
    → HaveUnits v (zs ++ z ∷ []) (ss ++ s ∷ [])
have-append v [] [] z s h n u = (n, u, tt)
have-append v [] (x ∷ xs) z s h n u = absurd h
have-append v (y ∷ ys) [] z s h n u = absurd h
have-append v (y ∷ ys) (x ∷ xs) z s h n u = (h.0, h.1, have-append v ys xs z s h.2 n u)

-- one more
sections-more : (v : View) (next after : Option ℕ) (found new : List SectionUnits) (i : ℕ) (s : SectionUnits) → SectionsSo v next found → next ≡ Some i → s.number ≡ i
    → AreReadUnits v i s.units → new ≡ found ++ s ∷ [] → after ≡ section_after v (name_of Macro) i → SectionsSo v after new
sections-more v next after found new i s so some number are more is =
    let step = macros-some v so.last i (sym so.next_is ∙ some) in
    record {
      last = i;
      done = so.done ++ section_cells v i ∷ [];
      split = so.split ∙ ap (λ (zs : List CellSection). so.done ++ zs) step ∙ sym (append_assoc so.done (section_cells v i ∷ []) (macros_above v i));
      next_is = is;
      have = subst (HaveUnits v (so.done ++ section_cells v i ∷ [])) (sym more) (have-append v so.done found (section_cells v i) s so.have number are);
    }

-- all of them
sections-all : (v : View) (next : Option ℕ) (found : List SectionUnits) → SectionsSo v next found → next ≡ None → UnitsFoundIn v found
sections-all v next found so none =
    let over = macros-none v so.last (sym so.next_is ∙ none) in
    let all : (debug_data v).found Macro ≡ so.done = so.split ∙ ap (λ (zs : List CellSection). so.done ++ zs) over ∙ append-nil so.done in
    record { units = subst (λ (zs : List CellSection). HaveUnits v zs found) (sym all) so.have }

-- one that can't be read
sections-fault : (v : View) (next : Option ℕ) (found : List SectionUnits) (i : ℕ) (f : Fault) → SectionsSo v next found → next ≡ Some i → Blames (UnitsRefuse v i) f
    → Blames (UnitsFailIn v) f
sections-fault v next found i NoMemory so some b = tt
sections-fault v next found i (Refused r) so some b =
    by_row (so.split ∙ ap (λ (zs : List CellSection). so.done ++ zs) (macros-some v so.last i (sym so.next_is ∙ some))) b
  where
    by_row : (debug_data v).found Macro ≡ so.done ++ section_cells v i ∷ macros_above v i → UnitsRefuse v i r → UnitsFailIn v r
    by_row split (read_units f) = units (section_cells v i) so.done (macros_above v i) split f
    by_row split (read_offsets list start u lt f) = offsets (section_cells v i) so.done (macros_above v i) split (read_offsets list start u lt f)

-- those that were read exclude each refusal
among : (v : View) (before behind : List CellSection) (z : CellSection) (ss : List SectionUnits) (r : Refusal) → HaveUnits v (before ++ z ∷ behind) ss → UnitsRefuse v z.number r → ⊥
among v [] behind z [] r h f = absurd h
among v [] behind z (s ∷ ss) r h f = units-exclude-all v z.number s.units r h.1 f
among v (y ∷ ys) behind z [] r h f = absurd h
among v (y ∷ ys) behind z (s ∷ ss) r h f = among v ys behind z ss r h.2 f

pub found-exclude : (v : View) (ss : List SectionUnits) (r : Refusal) → UnitsFoundIn v ss → UnitsFailIn v r → ⊥
found-exclude v ss r found (units z before behind split f) =
    among v before behind z ss r (subst (λ (zs : List CellSection). HaveUnits v zs ss) split found.units) (read_units f)
found-exclude v ss r found (offsets z before behind split f) = among v before behind z ss r (subst (λ (zs : List CellSection). HaveUnits v zs ss) split found.units) f

pub units-exclude : (v : View) (ss : List SectionUnits) (before behind : List CellSection) (z : CellSection) (r : Refusal) → UnitsFoundIn v ss → (debug_data v).found Macro ≡ before ++ z ∷ behind
    → UnitsRefuse v z.number r → ⊥
units-exclude v ss before behind z r found split f = among v before behind z ss r (subst (λ (zs : List CellSection). HaveUnits v zs ss) split found.units) f

-- the next one is a section of the view
next-there : (v : View) (next : Option ℕ) (found : List SectionUnits) (i : ℕ) → SectionsSo v next found → next ≡ Some i → i < length v.sections
next-there v next found i so some = (section_after-within v (name_of Macro) so.last i (sym so.next_is ∙ some)).1

-- where a pass over the list of these sections stands
abbrev pub ListSo : View → ℕ → List SectionUnits → Type 0
ListSo v place found = SectionsSo v (slice_get (sections_named v (name_of Macro)) place) found

pub list-none : (v : View) → ListSo v 0 []
list-none v = sections-none v (slice_get (sections_named v (name_of Macro)) 0) (first-named v (name_of Macro))

item-at : (list all : List ℕ) (place : ℕ) (d : ℕ) → list ≡ all → place < length list → slice_get all place ≡ Some (get_or list place d)
item-at list all place d are lt = ap (λ (l : List ℕ). slice_get l place) (sym are) ∙ slice_get-get_or list place d lt

pub list-more : (v : View) (list : List ℕ) (found new : List SectionUnits) (place i d : ℕ) (s : SectionUnits) → ListSo v place found → list ≡ sections_named v (name_of Macro)
    → place < length list → i ≡ get_or list place d → s.number ≡ i → AreReadUnits v i s.units → new ≡ found ++ s ∷ [] → ListSo v (place + 1) new
list-more v list found new place i d s so list_is lt i_is number are more =
    let next : suc place ≡ place + 1 = omega arith in
    let item : slice_get (sections_named v (name_of Macro)) place ≡ Some i =
    item-at list (sections_named v (name_of Macro)) place d list_is lt ∙ ap (λ (n : ℕ). Some n) (sym i_is) in
    sections-more v (slice_get (sections_named v (name_of Macro)) place) (slice_get (sections_named v (name_of Macro)) (place + 1)) found new i s so item number are more
    (ap (slice_get (sections_named v (name_of Macro))) (sym next) ∙ next-named v (name_of Macro) place i item)

pub list-all : (v : View) (list : List ℕ) (found : List SectionUnits) (place : ℕ) → ListSo v place found → list ≡ sections_named v (name_of Macro) → length list ≤ place
    → UnitsFoundIn v found
list-all v list found place so list_is le =
    sections-all v (slice_get (sections_named v (name_of Macro)) place) found so
    (ap (λ (l : List ℕ). slice_get l place) (sym list_is) ∙ slice_get_past list place le)

pub list-fault : (v : View) (list : List ℕ) (found : List SectionUnits) (place i d : ℕ) (f : Fault) → ListSo v place found → list ≡ sections_named v (name_of Macro)
    → place < length list → i ≡ get_or list place d → Blames (UnitsRefuse v i) f → Blames (UnitsFailIn v) f
list-fault v list found place i d f so list_is lt i_is b =
    sections-fault v (slice_get (sections_named v (name_of Macro)) place) found i f so
    (item-at list (sections_named v (name_of Macro)) place d list_is lt ∙ ap (λ (n : ℕ). Some n) (sym i_is)) b

pub list-there : (v : View) (list : List ℕ) (found : List SectionUnits) (place i d : ℕ) → ListSo v place found → list ≡ sections_named v (name_of Macro)
    → place < length list → i ≡ get_or list place d → i < length v.sections
list-there v list found place i d so list_is lt i_is =
    next-there v (slice_get (sections_named v (name_of Macro)) place) found i so
    (item-at list (sections_named v (name_of Macro)) place d list_is lt ∙ ap (λ (n : ℕ). Some n) (sym i_is))

pub ruleset sections_rules = (list-none, list-more, list-all, list-fault, list-there)
