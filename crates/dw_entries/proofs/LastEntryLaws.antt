-- The last of entries that were read, and what room entries take.
use Rattle.std.proofs.Common.{◌≡◌, ℕ, ◌+◌, ◌≤◌, ◌<◌, List, [], ◌∷◌, ◌++◌, length, refl, ap, ◌∙◌, subst, arith}
use Rattle.std.proofs.lemmas.List.{length-append}
use Rattle.dw_base.specs.AbbreviationTables.{Abbreviation}
use Rattle.dw_base.specs.EntryScans.{SpellsValues, no_values, more_values, IsEntry, scanned, Scans, starts, null, entry as an_entry}
use Rattle.dw_base.specs.declared.shared.Params.{Params}
use Rattle.dw_base.specs.declared.units.Scanned.{Scanned}
use Rattle.dw_base.specs.declared.units.UnitHeader.{UnitHeader}
use Rattle.dw_base.specs.declared.values.Spec.{Spec}
use Rattle.dw_base.proofs.LebLaws.{uleb-inside, uleb-some}
use Rattle.dw_forms.proofs.InsideLaws.{value_at-inside}

-- the last of entries that were read, and those before it
pub record LastEntry (h : UnitHeader) (table : List Abbreviation) (bytes : List ℕ) (items : List Scanned) (e : Scanned) : Type 0 where
  pub abbreviation : Abbreviation
  pub depth : ℕ
  pub scans : Scans h table bytes items e.offset depth
  pub is : IsEntry h.params table bytes e.offset abbreviation e.after

last-same : (xs ys : List Scanned) (x y : Scanned) → xs ++ x ∷ [] ≡ ys ++ y ∷ [] → (xs ≡ ys) × (x ≡ y)
last-same [] [] x y e = (refl, head-is x y e)
  where
    head-is : (x y : Scanned) → x ∷ [] ≡ y ∷ [] → x ≡ y
    head-is x y e = cc
last-same [] (z ∷ zs) x y e = absurd (omega (arith, ap length e, length-append zs (y ∷ [])))
last-same (z ∷ zs) [] x y e = absurd (omega (arith, ap length e, length-append zs (x ∷ [])))
last-same (w ∷ ws) (z ∷ zs) x y e =
    let rest = last-same ws zs x y (tail-is w z (ws ++ x ∷ []) (zs ++ y ∷ []) e) in
    (ap (λ (v : Scanned). v ∷ ws) (head-is w z (ws ++ x ∷ []) (zs ++ y ∷ []) e) ∙ ap (λ (vs : List Scanned). z ∷ vs) rest.0, rest.1)
  where
    head-is : (x y : Scanned) (xs ys : List Scanned) → x ∷ xs ≡ y ∷ ys → x ≡ y
    head-is x y xs ys e = cc

    tail-is : (x y : Scanned) (xs ys : List Scanned) → x ∷ xs ≡ y ∷ ys → xs ≡ ys
    tail-is x y xs ys e = cc

no-last : (xs : List Scanned) (x : Scanned) → [] ≡ xs ++ x ∷ [] → ⊥
no-last xs x e = omega (arith, ap length e, length-append xs (x ∷ []))

pub last-entry : (h : UnitHeader) (table : List Abbreviation) (bytes : List ℕ) (all items : List Scanned) (e : Scanned) (place depth : ℕ)
    → Scans h table bytes all place depth → all ≡ items ++ e ∷ [] → LastEntry h table bytes items e
last-entry h table bytes all items e place depth starts same = absurd (no-last items e same)
last-entry h table bytes all items e z d (null its place depth size s is) same = last-entry h table bytes all items e place depth s same
last-entry h table bytes all items e z d (an_entry its place depth after a s is root) same =
    let both = last-same its items (scanned place depth a after) e same in
    let offset : place ≡ e.offset = ap (λ (x : Scanned). x.offset) both.1 in
    let behind : after ≡ e.after = ap (λ (x : Scanned). x.after) both.1 in
    record {
      abbreviation = a;
      depth = depth;
      scans = subst (λ (p : ℕ). Scans h table bytes items p depth) offset (subst (λ (xs : List Scanned). Scans h table bytes xs place depth) both.0 s);
      is = subst (λ (p : ℕ). IsEntry h.params table bytes p a e.after) offset (subst (IsEntry h.params table bytes place a) behind is);
    }

-- values end behind where they begin, in the bytes
values-room : (params : Params) (bytes : List ℕ) (start : ℕ) (xs : List Spec) (place : ℕ) → SpellsValues params bytes start xs place → start ≤ length bytes
    → (start ≤ place) × (place ≤ length bytes)
values-room params bytes start xs place no_values le = (omega arith, le)
values-room params bytes start xs z (more_values ys y place v s is) le =
    let before = values-room params bytes start ys place s le in
    (omega (arith, before.0), value_at-inside params y bytes place v is)

-- entries take place
pub scans-room : (h : UnitHeader) (table : List Abbreviation) (bytes : List ℕ) (items : List Scanned) (place depth : ℕ) → Scans h table bytes items place depth
    → h.first ≤ length bytes → (length items ≤ place) × (place ≤ length bytes)
scans-room h table bytes items place depth starts le = (omega arith, le)
scans-room h table bytes items z d (null its place depth size s is) le =
    let before = scans-room h table bytes items place depth s le in
    (omega (arith, before.0), uleb-inside bytes place 0 size is)
scans-room h table bytes all z d (an_entry items place depth after a s is root) le =
    let before = scans-room h table bytes items place depth s le in
    let room : place + is.size ≤ length bytes = uleb-inside bytes place is.code is.size is.spells in
    let some : 0 < is.size = uleb-some bytes place is.code is.size is.spells in
    let values = values-room h.params bytes (place + is.size) a.specs after is.values room in
    (omega (arith, before.0, some, values.0, length-append items (scanned place depth a after ∷ [])), values.1)
