-- The base of the texts by index of a unit, as its first entry says it.
use Rattle.std.proofs.Common.{Bool, true, false, suc, ◌≡◌, ℕ, ◌+◌, ◌<◌, ◌≤◌, List, [], ◌∷◌, ◌++◌, length, drop, drop-cons, get_or, Option, Some, None, refl, sym, ap, ◌∙◌, subst, arith, if◌then◌else◌}
use Rattle.std.proofs.lemmas.List.{drop_all}
use Rattle.dw_base.specs.AbbreviationTables.{Abbreviation}
use Rattle.dw_base.specs.FileViews.{View}
use Rattle.dw_base.specs.Values.{value_at}
use Rattle.dw_base.specs.declared.units.Scanned.{Scanned}
use Rattle.dw_base.specs.declared.units.UnitHeader.{UnitHeader}
use Rattle.dw_base.specs.declared.values.Spec.{Spec}
use Rattle.dw_base.specs.declared.values.Value.{Value}
use Rattle.dw_entries.specs.ScanStates.{ScanState, GivesEntry, GivesNothing, scan_start}
use Rattle.dw_forms.proofs.InsideLaws.{value_at-inside}
use Rattle.dw_attrs.specs.UnitValues.{base_behind, base_number, says_base, values_base, entry_base, first_base, unit_bytes, unit_entries}
use Rattle.dw_attrs.proofs.EntryListLaws.{Fronts, PassAt, pass-starts, pass-front, pass-ends}
use Rattle.dw_attrs.proofs.EntryPassLaws.{bytes-short}
use Rattle.dw_base.specs.TableStarts.{own_form}

base-one : (v : View) (h : UnitHeader) (bytes : List ℕ) (xs : List Spec) (i place : ℕ) (d : Spec) → i < length xs
    → values_base v h bytes (drop i xs) place
    ≡ base_behind (λ p. values_base v h bytes (drop (i + 1) xs) p) v h bytes (get_or xs i d) place (value_at h.params (get_or xs i d) bytes place)
base-one v h bytes xs i place d lt =
    let next : suc i ≡ i + 1 = omega arith in
    ap (λ (ys : List Spec). values_base v h bytes ys place) (drop-cons xs i d lt)
    ∙ ap (λ (n : ℕ). base_behind (λ p. values_base v h bytes (drop n xs) p) v h bytes (get_or xs i d) place (value_at h.params (get_or xs i d) bytes place)) next

-- where a walk over the values stands: the base is among those that are left
pub record BaseLeft (v : View) (h : UnitHeader) (bytes : List ℕ) (xs : List Spec) (from i place : ℕ) : Type 0 where
  pub same : values_base v h bytes xs from ≡ values_base v h bytes (drop i xs) place
  pub inside : place ≤ length bytes

pub base-starts : (v : View) (h : UnitHeader) (bytes : List ℕ) (xs : List Spec) (from : ℕ) → from ≤ length bytes → BaseLeft v h bytes xs from 0 from
base-starts v h bytes xs from le = record { same = refl; inside = le }

pub base-stops : (v : View) (h : UnitHeader) (bytes : List ℕ) (xs : List Spec) (from i place : ℕ) (d : Spec) → BaseLeft v h bytes xs from i place → i < length xs
    → None ≡ value_at h.params (get_or xs i d) bytes place → None ≡ values_base v h bytes xs from
base-stops v h bytes xs from i place d b lt is =
    sym (b.same ∙ base-one v h bytes xs i place d lt ∙ ap (base_behind (λ p. values_base v h bytes (drop (i + 1) xs) p) v h bytes (get_or xs i d) place) (sym is))

pub base-takes : (v : View) (h : UnitHeader) (bytes : List ℕ) (xs : List Spec) (from i place : ℕ) (d : Spec) (y : Value) → BaseLeft v h bytes xs from i place → i < length xs
    → Some y ≡ value_at h.params (get_or xs i d) bytes place → says_base (get_or xs i d) y.class ≡ true → Some (base_number v h bytes (own_form (get_or xs i d) bytes place) y) ≡ values_base v h bytes xs from
base-takes v h bytes xs from i place d y b lt is says =
    sym (b.same ∙ base-one v h bytes xs i place d lt ∙ ap (base_behind (λ p. values_base v h bytes (drop (i + 1) xs) p) v h bytes (get_or xs i d) place) (sym is)
    ∙ ap (λ (t : Bool). if t then Some (base_number v h bytes (own_form (get_or xs i d) bytes place) y) else values_base v h bytes (drop (i + 1) xs) (place + y.size)) says)

pub base-passes : (v : View) (h : UnitHeader) (bytes : List ℕ) (xs : List Spec) (from i place : ℕ) (d : Spec) (y : Value) → BaseLeft v h bytes xs from i place → i < length xs
    → Some y ≡ value_at h.params (get_or xs i d) bytes place → says_base (get_or xs i d) y.class ≡ false → BaseLeft v h bytes xs from (i + 1) (place + y.size)
base-passes v h bytes xs from i place d y b lt is says = record {
  same = b.same ∙ base-one v h bytes xs i place d lt ∙ ap (base_behind (λ p. values_base v h bytes (drop (i + 1) xs) p) v h bytes (get_or xs i d) place) (sym is)
      ∙ ap (λ (t : Bool). if t then Some (base_number v h bytes (own_form (get_or xs i d) bytes place) y) else values_base v h bytes (drop (i + 1) xs) (place + y.size)) says;
  inside = value_at-inside h.params (get_or xs i d) bytes place y (sym is);
}

pub base-ends : (v : View) (h : UnitHeader) (bytes : List ℕ) (xs : List Spec) (from i place : ℕ) → BaseLeft v h bytes xs from i place → length xs ≤ i → None ≡ values_base v h bytes xs from
base-ends v h bytes xs from i place b le = sym (b.same ∙ ap (λ (ys : List Spec). values_base v h bytes ys place) (drop_all i xs le))

pub ruleset base_laws = (base-starts, base-stops, base-takes, base-passes, base-ends)

-- the first entry of a unit
none-yet : (h : UnitHeader) (table : List Abbreviation) (bytes : List ℕ) (s : ScanState) → (p : PassAt h table bytes s 0) → p.items ≡ []
none-yet h table bytes s p = none p.items p.count
  where
    none : (xs : List Scanned) → 0 ≡ length xs → xs ≡ []
    none [] e = refl
    none (x ∷ xs) e = absurd (omega (arith, e))

pub first-starts : (v : View) (h : UnitHeader) (table : List Abbreviation) (s : ScanState) → s ≡ scan_start h table (unit_bytes v h) → PassAt h table (unit_bytes v h) s 0
first-starts v h table s e = pass-starts h table (unit_bytes v h) s e

pub first-there : (v : View) (h : UnitHeader) (table : List Abbreviation) (s t : ScanState) (e : Scanned) (b : Option ℕ) (bs : List ℕ) → PassAt h table (unit_bytes v h) s 0
    → GivesEntry s e t → bs ≡ unit_bytes v h → b ≡ entry_base v h table bs e → b ≡ first_base v h table bs (unit_entries h table bs)
first-there v h table s t e b bs p g same is =
    let f : Fronts h table (unit_bytes v h) (p.items ++ e ∷ []) = pass-front h table (unit_bytes v h) s t 0 e p g in
    let all : unit_entries h table (unit_bytes v h) ≡ e ∷ f.rest = f.is ∙ ap (λ (xs : List Scanned). (xs ++ e ∷ []) ++ f.rest) (none-yet h table (unit_bytes v h) s p) in
    is ∙ sym (subst (λ (x : List ℕ). first_base v h table x (unit_entries h table x) ≡ entry_base v h table x e) (sym same)
    (ap (first_base v h table (unit_bytes v h)) all))

pub first-none : (v : View) (h : UnitHeader) (table : List Abbreviation) (s t : ScanState) (bs : List ℕ) → PassAt h table (unit_bytes v h) s 0
    → GivesNothing s t → bs ≡ unit_bytes v h → None ≡ first_base v h table bs (unit_entries h table bs)
first-none v h table s t bs p g same =
    sym (subst (λ (x : List ℕ). first_base v h table x (unit_entries h table x) ≡ None) (sym same)
    (ap (first_base v h table (unit_bytes v h)) (pass-ends h table (unit_bytes v h) s t 0 p g (bytes-short v h) ∙ none-yet h table (unit_bytes v h) s p)))

pub ruleset unit_laws = (first-starts, first-there, first-none)
