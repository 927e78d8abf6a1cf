-- What all unit sections of a view say of paths is put together section by section.
use Rattle.std.proofs.Common.{◌≡◌, ℕ, ◌+◌, ◌≤◌, ◌<◌, List, [], ◌∷◌, ◌++◌, map, length, take, get_or, sym, ap, ◌∙◌, subst, append_assoc, append-nil}
use Rattle.dw_base.specs.DebugData.{DebugData}
use Rattle.dw_base.specs.FileViews.{View}
use Rattle.dw_base.specs.UnitHeaders.{UnitSection}
use Rattle.dw_base.specs.ViewData.{debug_data}
use Rattle.dw_base.specs.declared.debug_sections.DebugSection.TheVariants.{Info}
use Rattle.dw_entries.specs.SectionOrder.{AreSections}
use Rattle.dw_entries.specs.ViewUnits.{unit_section_at}
use Rattle.dw_entries.proofs.SectionListLaws.{sections-next, sections-whole}
use Rattle.dw_unit_fields.specs.NamedSlots.{Slots, TakesUnits}
use Rattle.dw_unit_fields.specs.TextPlaces.{UnitSays, base_source}
use Rattle.dw_unit_fields.specs.SectionFields.{SectionFields}
use Rattle.dw_unit_fields.specs.UnitTexts.{SectionTaken, SectionIndexed, AllTaken, AllIndexed, units_taken}
use Rattle.dw_unit_fields.proofs.SlotRunLaws.{units-none, units-more}

taken-append : (d : DebugData) (zs : List UnitSection) (us : List SectionFields) (z : UnitSection) (u : SectionFields) → AllTaken d zs us → SectionTaken d z u
    → AllTaken d (zs ++ z ∷ []) (us ++ u ∷ [])
taken-append d [] [] z u all one = (one, tt)
taken-append d [] (y ∷ us) z u all one = absurd all
taken-append d (x ∷ zs) [] z u all one = absurd all
taken-append d (x ∷ zs) (y ∷ us) z u all one = (all.0, taken-append d zs us z u all.1 one)

units_taken-append : (d : DebugData) (zs : List UnitSection) (us : List SectionFields) (z : UnitSection) (u : SectionFields) → (all : AllTaken d zs us) → (one : SectionTaken d z u)
    → units_taken d (zs ++ z ∷ []) (us ++ u ∷ []) (taken-append d zs us z u all one) ≡ units_taken d zs us all ++ one.says.section.units
unfolding taken-append
units_taken-append d [] [] z u all one = append-nil one.says.section.units
units_taken-append d [] (y ∷ us) z u all one = absurd all
units_taken-append d (x ∷ zs) [] z u all one = absurd all
units_taken-append d (x ∷ zs) (y ∷ us) z u all one =
    ap (λ (ws : List UnitSays). all.0.says.section.units ++ ws) (units_taken-append d zs us z u all.1 one)
    ∙ sym (append_assoc all.0.says.section.units (units_taken d zs us all.1) one.says.section.units)

indexed-append : (d : DebugData) (zs : List UnitSection) (us : List SectionFields) (z : UnitSection) (u : SectionFields) (first now next_slots : Slots) → AllIndexed d zs us first now
    → SectionIndexed d z u now next_slots → AllIndexed d (zs ++ z ∷ []) (us ++ u ∷ []) first next_slots
indexed-append d zs us z u first now next_slots all one = record {
  taken = taken-append d zs us z u all.taken one.taken;
  slots = subst (λ (ws : List UnitSays). TakesUnits (base_source d) ws first next_slots) (sym (units_taken-append d zs us z u all.taken one.taken))
      (units-more (base_source d) (units_taken d zs us all.taken) one.taken.says.section.units first now next_slots all.slots one.slots);
}

-- where the pass over the sections of these numbers stands: those up to one are done
abbrev pub SectionsPass : View → List ℕ → ℕ → List SectionFields → Slots → Slots → Type 0
SectionsPass v numbers i found first now = AllIndexed (debug_data v) (map (unit_section_at v) (take i numbers)) found first now

pub pass-none : (v : View) (numbers : List ℕ) (found : List SectionFields) (first : Slots) → found ≡ [] → SectionsPass v numbers 0 found first first
pass-none v numbers found first none =
    subst (λ (us : List SectionFields). AllIndexed (debug_data v) [] us first first) (sym none) (record { taken = tt; slots = units-none (base_source (debug_data v)) first })

pub pass-more : (v : View) (numbers : List ℕ) (i n : ℕ) (found : List SectionFields) (first now next_slots : Slots) (u : SectionFields) → i < length numbers → n ≡ get_or numbers i n
    → SectionsPass v numbers i found first now → SectionIndexed (debug_data v) (unit_section_at v n) u now next_slots → SectionsPass v numbers (i + 1) (found ++ u ∷ []) first next_slots
pass-more v numbers i n found first now next_slots u lt is p one =
    subst (λ (zs : List UnitSection). AllIndexed (debug_data v) zs (found ++ u ∷ []) first next_slots) (sym (sections-next v numbers i n lt is))
    (indexed-append (debug_data v) (map (unit_section_at v) (take i numbers)) found (unit_section_at v n) u first now next_slots p one)

pub pass-ends : (v : View) (numbers : List ℕ) (i : ℕ) (found : List SectionFields) (first now : Slots) → AreSections v numbers → length numbers ≤ i → SectionsPass v numbers i found first now
    → AllIndexed (debug_data v) ((debug_data v).found Info) found first now
pass-ends v numbers i found first now are past p =
    subst (λ (zs : List UnitSection). AllIndexed (debug_data v) zs found first now) (sections-whole v numbers i are past) p

pub ruleset all_rules = (pass-none, pass-ends)
