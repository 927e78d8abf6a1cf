-- Each unit of those that were read is one in the view.
use Rattle.std.proofs.Common.{inl, inr, ◌≡◌, ℕ, ◌+◌, ◌<◌, List, [], ◌∷◌, ◌++◌, length, get_or, sym, ap, ◌∙◌, subst, arith}
use Rattle.std.proofs.lemmas.Bool.{cases_lt}
use Rattle.std.proofs.lemmas.List.{get_or_append_left, get_or-append-add, length-append}
use Rattle.dw_base.specs.FileViews.{View, section_bytes}
use Rattle.dw_macros.specs.MacroEvents.{IsUnitIn}
use Rattle.dw_base.specs.MacroOffsets.{AreReadUnits, IsReadUnit, ReadsFrom, UnitsReadUpTo, no_unit, more_unit, over_there}
use Rattle.dw_base.specs.MacroUnits.{IsMacroUnit}
use Rattle.dw_base.specs.declared.macro_units.MacroOperation.TheVariants.{End}
use Rattle.dw_base.specs.declared.macro_units.MacroUnit.{MacroUnit}
use Rattle.dw_base.specs.declared.shared.Width.{Width}
use Rattle.dw_macros.proofs.EventLaws.{operation-there, reads-front}
use Rattle.dw_macros.proofs.UnitLaws.{read-unit as unit-read}

-- the operations of a unit that was read
pub unit-reads : (v : View) (section start : ℕ) (u : MacroUnit) → (is : IsReadUnit v section start u) → ReadsFrom v section is.header.width is.header.first
unit-reads v section start u is =
    reads-front v section start is.header.width is.header.first is.last is.operations
    (over_there is.last is.end (operation-there v section start is.last is.end is.header.width End is.ends))

-- a unit that was read
pub read-unit : (v : View) (section start : ℕ) (u : MacroUnit) → section < length v.sections → IsReadUnit v section start u → IsUnitIn v u
read-unit v section start u there is =
    let own : section ≡ u.section = sym (ap (λ (x : MacroUnit). x.section) is.is) in
    let width : is.header.width ≡ u.width = sym (ap (λ (x : MacroUnit). x.width) is.is) in
    let first : is.header.first ≡ u.first = sym (ap (λ (x : MacroUnit). x.first) is.is) in
    let reads : ReadsFrom v section is.header.width is.header.first = unit-reads v section start u is in
    record {
      start = start;
      there = subst (λ (n : ℕ). n < length v.sections) own there;
      is = subst (λ (n : ℕ). IsMacroUnit v n start u) own (unit-read v section start u is);
      reads = subst (λ (n : ℕ). ReadsFrom v n u.width u.first) own
          (subst (ReadsFrom v section u.width) first (subst (λ (w : Width). ReadsFrom v section w is.header.first) width reads));
    }

units-up_to : (v : View) (section place i : ℕ) (list : List MacroUnit) (d : MacroUnit) → section < length v.sections → UnitsReadUpTo v section list place
    → i < length list → IsUnitIn v (get_or list i d)
units-up_to v section place i list d there no_unit lt = absurd (omega (arith, lt))
units-up_to v section place i list d there (more_unit before u start so is) lt = elim (cases_lt i (length before)) [
  | inl front ↦
      subst (IsUnitIn v) (sym (get_or_append_left before (u ∷ []) d i front)) (units-up_to v section start i before d there so front)
  | inr last ↦
      let size = length-append before (u ∷ []) in
      let here : i ≡ length before + 0 = omega (arith, lt, last, size) in
      subst (IsUnitIn v) (sym (ap (λ (k : ℕ). get_or (before ++ u ∷ []) k d) here ∙ get_or-append-add before (u ∷ []) 0 d))
      (read-unit v section start u there is)
]

pub unit-in : (v : View) (section i : ℕ) (list : List MacroUnit) (d : MacroUnit) → section < length v.sections → AreReadUnits v section list → i < length list
    → IsUnitIn v (get_or list i d)
unit-in v section i list d there are lt = units-up_to v section (length (section_bytes v section)) i list d there are lt

pub ruleset caller_laws = (unit-in)
