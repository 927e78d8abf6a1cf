-- A value by index names a slot exactly where it names a place, and the place lies in the section.
use Rattle.std.proofs.Common.{◌≡◌, ℕ, List, Option, Some, None, IsTrue, refl, sym, ◌∙◌}
use Rattle.dw_base.specs.Slots.{slot_number}
use Rattle.dw_base.specs.StringOffsets.{slot_place}
use Rattle.dw_base.specs.TextIndexes.{Indexing, IndexUse, base_of, slot_by, slot_of, is_slot, NamesSlot}
use Rattle.dw_base.specs.declared.string_offsets.Contribution.{Contribution}
use Rattle.dw_offsets.proofs.SlotNumberLaws.{slot-stands, slot-absent}
use Rattle.dw_offsets.specs.NamedPlaces.{place_by, use_place}

-- where there is no number there is no place, and where there is a place there is a number
clash : {X : Type 0} (x : X) → None ≡ Some x → ⊥
clash x e = absurd cc

number-is_slot : (o p : Option ℕ) (place : ℕ) → (o ≡ None → p ≡ None) → p ≡ Some place → IsTrue (is_slot o)
number-is_slot None p place none e = absurd (clash place (sym (none refl) ∙ e))
number-is_slot (Some n) p place none e = refl

by-base : (b : Option ℕ) (list : List Contribution) (index place : ℕ) → place_by b list index ≡ Some place → IsTrue (is_slot (slot_by b list index))
by-base None list index place e = absurd (clash place e)
by-base (Some base) list index place e =
    number-is_slot (slot_number 0 list base index) (slot_place list base index) place (slot-absent list 0 base index) e

-- a value that names a place names a slot
pub named-slot : (g : Indexing) (u : IndexUse) (place : ℕ) → use_place g u ≡ Some place → NamesSlot g u
unfolding slot_of
named-slot g u place e = by-base (base_of g.bases u.unit) g.contributions u.index place e

none-number : (o p : Option ℕ) → ((n : ℕ) → o ≡ Some n → p ≡ None → ⊥) → p ≡ None → o ≡ None
none-number None p some e = refl
none-number (Some n) p some e = absurd (some n refl e)

no-number : (b : Option ℕ) (list : List Contribution) (index : ℕ) → place_by b list index ≡ None → slot_by b list index ≡ None
no-number None list index e = refl
no-number (Some base) list index e =
    none-number (slot_number 0 list base index) (slot_place list base index)
    (λ n is none. clash _ (sym none ∙ (slot-stands list 0 base index n is).place)) e

-- and one that names no place names none
pub no-slot : (g : Indexing) (u : IndexUse) → use_place g u ≡ None → slot_of g u.unit u.index ≡ None
unfolding slot_of
no-slot g u e = no-number (base_of g.bases u.unit) g.contributions u.index e
