-- The macro sections of a view, one after another, and what is known of the relocations that stand there.
use Rattle.std.proofs.Common.{Bool, true, false, ◌≡◌, ℕ, zero, suc, ◌+◌, ◌<◌, ◌≤◌, if◌then◌else◌, List, [], ◌∷◌, ◌++◌, length, get_or, slice_get, drop, Option, Some, None, refl, sym, ap, ◌∙◌, subst, arith, append_assoc, append-nil}
use Rattle.std.specs.Prelude.{is_some}
use Rattle.std.proofs.lemmas.Bool.{and_parts}
use Rattle.std.proofs.lemmas.Option.{slice_get-get_or, slice_get_past}
use Rattle.dw_base.specs.Cells.{CellSection}
use Rattle.dw_base.specs.DebugSections.{debug_section, name_of}
use Rattle.dw_base.specs.FileViews.{View, ViewSection, first_filled, is_filled, kind_at, name_in, section_after, section_named, sections_named, view_cells}
use Rattle.dw_base.specs.MacroOffsets.{UnitsRefuse}
use Rattle.dw_base.specs.Refusals.{Blames}
use Rattle.dw_base.specs.RelocationRows.{macro_fields, moving_sections}
use Rattle.dw_base.specs.ViewData.{debug_data}
use Rattle.dw_base.specs.declared.debug_sections.DebugSection.{DebugSection}
use Rattle.dw_base.specs.declared.debug_sections.DebugSection.TheVariants.{Macro}
use Rattle.dw_base.specs.declared.fault.Fault.{Fault}
use Rattle.dw_base.specs.declared.fault.Fault.TheVariants.{NoMemory, Refused}
use Rattle.dw_base.specs.declared.fault.Refusal.{Refusal}
use Rattle.dw_base.proofs.DebugSectionLaws.{debug_section-name}
use Rattle.dw_base.proofs.FileViewLaws.{first-named, next-named, section_after-within}
use Rattle.dw_base.proofs.TextLaws.{same_text-true}
use Rattle.dw_meaning.specs.RelocationFails.LeftRelocationsFail.{macros as macros_left}
use Rattle.dw_meaning.proofs.MacroFirstLaws.{macros-all, macros-none, macros-some, macros_above, section_cells}
use Rattle.dw_relocs.specs.FieldRefusals.{FieldsRefuse, MacroSectionRefuses, MacroSectionsHold, left, left_macros, macros, unread_macros}
use Rattle.dw_relocs.specs.FieldWalks.{HasNone}
use Rattle.dw_relocs.specs.MacroFields.{MacrosFail, MacrosHold}
use Rattle.dw_relocs.proofs.QuietLaws.{quiet-reads}

-- a section
pub macros-quiet : (v : View) (i : ℕ) → HasNone (view_cells v i) 0 → MacrosHold v.order (view_cells v i) (moving_sections v)
macros-quiet v i h = record { macros = λ xs reads. quiet-reads v.order (view_cells v i) (moving_sections v) (macro_fields xs) h }

pub units-unread : (v : View) (i : ℕ) (f : Fault) → Blames (UnitsRefuse v i) f → Blames (MacroSectionRefuses v i) f
units-unread v i NoMemory b = tt
units-unread v i (Refused r) b = unread_macros b

pub units-left : (v : View) (i : ℕ) (r : Refusal) → MacrosFail v.order i (view_cells v i) (moving_sections v) r → MacroSectionRefuses v i r
units-left v i r f = left_macros f

pub ruleset section_rules = (macros-quiet, units-unread, units-left)

-- a section that was found by its name is one that is read
record IsNamed (name : List ℕ) (first : ℕ) (ss : List ViewSection) (i : ℕ) : Type 0 where
  back : ℕ
  number : first + back ≡ i
  name_is : name_in ss back ≡ name

named-first : (name : List ℕ) (first i : ℕ) (ss : List ViewSection) → first_filled name first ss ≡ Some i → IsNamed name first ss i
named-first name first i [] e = absurd cc
named-first name first i (s ∷ ss) e = by_test (is_filled name s) refl e (λ f. named-first name (suc first) i ss f)
  where
    by_test : (b : Bool) → is_filled name s ≡ b → (if b then Some first else first_filled name (suc first) ss) ≡ Some i
        → (first_filled name (suc first) ss ≡ Some i → IsNamed name (suc first) ss i) → IsNamed name first (s ∷ ss) i
    by_test true t e rest =
        let same : first ≡ i = cc in
        record { back = 0; number = omega (arith, same); name_is = same_text-true s.name name (and_parts s.has_bytes _ t).1 }
    by_test false t e rest =
        let more : IsNamed name (suc first) ss i = rest e in
        let number = more.number in
        record { back = suc more.back; number = omega (arith, number); name_is = more.name_is }

name-drop : (k : ℕ) (ss : List ViewSection) (i : ℕ) → name_in (drop k ss) i ≡ name_in ss (k + i)
name-drop zero ss i =
    let same : i ≡ 0 + i = omega arith in
    ap (name_in ss) same
name-drop (suc k) [] i = refl
name-drop (suc k) (s ∷ ss) i =
    let next : suc (k + i) ≡ suc k + i = omega arith in
    name-drop k ss i ∙ ap (name_in (s ∷ ss)) next

kind-after : (v : View) (d : DebugSection) (n i : ℕ) → section_after v (name_of d) n ≡ Some i → kind_at v i ≡ Some d
unfolding section_after kind_at
kind-after v d n i e =
    let is : IsNamed (name_of d) (suc n) (drop (suc n) v.sections) i = named-first (name_of d) (suc n) i (drop (suc n) v.sections) e in
    ap (λ (k : ℕ). debug_section (name_in v.sections k)) (sym is.number)
    ∙ ap debug_section (sym (name-drop (suc n) v.sections is.back) ∙ is.name_is) ∙ debug_section-name d

-- so many have been looked at, and the next one comes behind
pub record MacrosSo (v : View) (next : Option ℕ) : Type 0 where
  pub last : ℕ
  pub done : List CellSection
  pub split : (debug_data v).found Macro ≡ done ++ macros_above v last
  pub next_is : next ≡ section_after v (name_of Macro) last
  pub hold : MacroSectionsHold v done

macros-start : (v : View) (next : Option ℕ) → next ≡ section_named v (name_of Macro) → MacrosSo v next
unfolding debug_data section_named
macros-start v next is = record { last = 0; done = []; split = macros-all v; next_is = is; hold = tt }

hold-append : (v : View) (zs : List CellSection) (z : CellSection) → MacroSectionsHold v zs → MacrosHold v.order z.contents (moving_sections v)
    → MacroSectionsHold v (zs ++ z ∷ [])
hold-append v [] z h own = (own, tt)
hold-append v (y ∷ ys) z h own = (h.0, hold-append v ys z h.1 own)

macros-more : (v : View) (next after : Option ℕ) (i : ℕ) → MacrosSo v next → next ≡ Some i → MacrosHold v.order (view_cells v i) (moving_sections v)
    → after ≡ section_after v (name_of Macro) i → MacrosSo v after
macros-more v next after i so some own is =
    let step = macros-some v so.last i (sym so.next_is ∙ some) in
    record {
      last = i;
      done = so.done ++ section_cells v i ∷ [];
      split = so.split ∙ ap (λ (zs : List CellSection). so.done ++ zs) step ∙ sym (append_assoc so.done (section_cells v i ∷ []) (macros_above v i));
      next_is = is;
      hold = hold-append v so.done (section_cells v i) so.hold own;
    }

macros-end : (v : View) (next : Option ℕ) → MacrosSo v next → next ≡ None → MacroSectionsHold v ((debug_data v).found Macro)
macros-end v next so none =
    let over = macros-none v so.last (sym so.next_is ∙ none) in
    let all : (debug_data v).found Macro ≡ so.done = so.split ∙ ap (λ (zs : List CellSection). so.done ++ zs) over ∙ append-nil so.done in
    subst (MacroSectionsHold v) (sym all) so.hold

-- one that is refused
macros-fault : (v : View) (next : Option ℕ) (i : ℕ) (f : Fault) → MacrosSo v next → next ≡ Some i → Blames (MacroSectionRefuses v i) f → Blames (FieldsRefuse v) f
unfolding debug_data
macros-fault v next i NoMemory so some b = tt
macros-fault v next i (Refused r) so some b =
    by_row (so.split ∙ ap (λ (zs : List CellSection). so.done ++ zs) (macros-some v so.last i (sym so.next_is ∙ some))) b
  where
    by_row : (debug_data v).found Macro ≡ so.done ++ section_cells v i ∷ macros_above v i → MacroSectionRefuses v i r → FieldsRefuse v r
    by_row split (unread_macros f) = macros so.done (macros_above v i) (section_cells v i) split f
    by_row split (left_macros f) = left (macros_left so.done (macros_above v i) (section_cells v i) f.pieces split f.reads f.fails)

-- the next one is a section of the view, and is read
macro-there : (v : View) (next : Option ℕ) (i : ℕ) → MacrosSo v next → next ≡ Some i → i < length v.sections
macro-there v next i so some = (section_after-within v (name_of Macro) so.last i (sym so.next_is ∙ some)).1

macro-read : (v : View) (next : Option ℕ) (i : ℕ) → MacrosSo v next → next ≡ Some i → is_some (kind_at v i) ≡ true
macro-read v next i so some = ap (λ (k : Option DebugSection). is_some k) (kind-after v Macro so.last i (sym so.next_is ∙ some))

-- where a pass over the list of these sections stands
abbrev pub ListSo : View → ℕ → Type 0
ListSo v place = MacrosSo v (slice_get (sections_named v (name_of Macro)) place)

pub list-start : (v : View) → ListSo v 0
list-start v = macros-start v (slice_get (sections_named v (name_of Macro)) 0) (first-named v (name_of Macro))

item-at : (list all : List ℕ) (place i d : ℕ) → list ≡ all → place < length list → i ≡ get_or list place d → slice_get all place ≡ Some i
item-at list all place i d are lt is =
    ap (λ (l : List ℕ). slice_get l place) (sym are) ∙ slice_get-get_or list place d lt ∙ ap (λ (n : ℕ). Some n) (sym is)

pub list-more : (v : View) (list : List ℕ) (place i d : ℕ) → ListSo v place → list ≡ sections_named v (name_of Macro) → place < length list → i ≡ get_or list place d
    → MacrosHold v.order (view_cells v i) (moving_sections v) → ListSo v (place + 1)
list-more v list place i d so list_is lt is own =
    let next : suc place ≡ place + 1 = omega arith in
    let item = item-at list (sections_named v (name_of Macro)) place i d list_is lt is in
    macros-more v (slice_get (sections_named v (name_of Macro)) place) (slice_get (sections_named v (name_of Macro)) (place + 1)) i so item own
    (ap (slice_get (sections_named v (name_of Macro))) (sym next) ∙ next-named v (name_of Macro) place i item)

pub list-end : (v : View) (list : List ℕ) (place : ℕ) → ListSo v place → list ≡ sections_named v (name_of Macro) → length list ≤ place
    → MacroSectionsHold v ((debug_data v).found Macro)
list-end v list place so list_is le =
    macros-end v (slice_get (sections_named v (name_of Macro)) place) so (ap (λ (l : List ℕ). slice_get l place) (sym list_is) ∙ slice_get_past list place le)

pub list-fault : (v : View) (list : List ℕ) (place i d : ℕ) (f : Fault) → ListSo v place → list ≡ sections_named v (name_of Macro) → place < length list
    → i ≡ get_or list place d → Blames (MacroSectionRefuses v i) f → Blames (FieldsRefuse v) f
list-fault v list place i d f so list_is lt is b =
    macros-fault v (slice_get (sections_named v (name_of Macro)) place) i f so (item-at list (sections_named v (name_of Macro)) place i d list_is lt is) b

pub list-there : (v : View) (list : List ℕ) (place i d : ℕ) → ListSo v place → list ≡ sections_named v (name_of Macro) → place < length list → i ≡ get_or list place d
    → i < length v.sections
list-there v list place i d so list_is lt is =
    macro-there v (slice_get (sections_named v (name_of Macro)) place) i so (item-at list (sections_named v (name_of Macro)) place i d list_is lt is)

pub list-read : (v : View) (list : List ℕ) (place i d : ℕ) → ListSo v place → list ≡ sections_named v (name_of Macro) → place < length list → i ≡ get_or list place d
    → is_some (kind_at v i) ≡ true
list-read v list place i d so list_is lt is =
    macro-read v (slice_get (sections_named v (name_of Macro)) place) i so (item-at list (sections_named v (name_of Macro)) place i d list_is lt is)

pub ruleset all_rules = (list-start, list-more, list-end, list-fault, list-there, list-read)
