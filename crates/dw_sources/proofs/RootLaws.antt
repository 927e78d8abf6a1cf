-- The first entry of a unit: its code behind padding, and its values one after another.
use Rattle.std.proofs.Common.{◌≡◌, ℕ, zero, suc, ◌+◌, ◌≤◌, ◌<◌, List, ◌∷◌, length, take, drop, get_or, Option, Some, None, refl, sym, ap, ◌∙◌, arith}
use Rattle.std.proofs.Math.Seq.{drop-cons}
use Rattle.std.proofs.lemmas.List.{drop_all, take_all}
use Rattle.dw_base.specs.AbbreviationTables.{Abbreviation}
use Rattle.dw_base.specs.Lebs.{uleb_at}
use Rattle.dw_base.specs.Values.{value_at}
use Rattle.dw_base.specs.declared.shared.Params.{Params}
use Rattle.dw_base.specs.declared.values.Spec.{Spec}
use Rattle.dw_base.specs.declared.values.Value.{Value}
use Rattle.dw_meaning.proofs.EntryRowLaws.{past-number}
use Rattle.dw_entries.proofs.ValueLaws.{value-whole, value-inside}
use Rattle.dw_sources.specs.RootValues.{code_read, code_from, first_code, no_root, root_behind, with_next, with_value, with_values}
use Rattle.dw_sources.specs.declared.roots.Root.{Root}
use Rattle.dw_base.proofs.LebLaws.{uleb-some}

-- enough fuel is as good as more
fuel-more : (fuel : ℕ) (bytes : List ℕ) (place : ℕ) → length bytes < fuel + place → code_from (suc fuel) bytes place ≡ code_from fuel bytes place
fuel-more zero bytes place lt =
    ap (code_read (λ p. code_from zero bytes p) place) (past-number bytes place (omega (arith, lt)))
fuel-more (suc fuel) bytes place lt = by_code (λ p less. fuel-more fuel bytes p less) (uleb_at bytes place) refl
  where
    by_code : ((p : ℕ) → length bytes < fuel + p → code_from (suc fuel) bytes p ≡ code_from fuel bytes p) → (o : Option (ℕ × ℕ)) → uleb_at bytes place ≡ o
        → code_read (λ p. code_from (suc fuel) bytes p) place o ≡ code_read (λ p. code_from fuel bytes p) place o
    by_code further None is = refl
    by_code further (Some (suc code, size)) is = refl
    by_code further (Some (zero, size)) is = further (place + size) (omega (arith, lt, uleb-some bytes place 0 size is))

-- behind a code of 0 the first is the same
pub code-skipped : (bytes : List ℕ) (place size : ℕ) → uleb_at bytes place ≡ Some (0, size) → first_code bytes place ≡ first_code bytes (place + size)
unfolding first_code
code-skipped bytes place size is =
    ap (code_read (λ p. code_from (length bytes) bytes p) place) is
    ∙ sym (fuel-more (length bytes) bytes (place + size) (omega (arith, uleb-some bytes place 0 size is)))

pub code-none : (bytes : List ℕ) (place : ℕ) → uleb_at bytes place ≡ None → None ≡ first_code bytes place
unfolding first_code
code-none bytes place is = sym (ap (code_read (λ p. code_from (length bytes) bytes p) place) is)

pub code-here : (bytes : List ℕ) (place code size : ℕ) → uleb_at bytes place ≡ Some (code, size) → (code ≡ 0 → ⊥)
    → Some (record { code = code; behind = place + size }) ≡ first_code bytes place
unfolding first_code
code-here bytes place zero size is other = absurd (other refl)
code-here bytes place (suc code) size is other = sym (ap (code_read (λ p. code_from (length bytes) bytes p) place) is)

-- where the search stands
pub record CodePass (bytes : List ℕ) (from place : ℕ) : Type 0 where
  pub same : first_code bytes from ≡ first_code bytes place

pub pass-code : (bytes : List ℕ) (from : ℕ) → CodePass bytes from from
pass-code bytes from = record { same = refl }

pub pass-skip : (bytes : List ℕ) (from place size : ℕ) → CodePass bytes from place → uleb_at bytes place ≡ Some (0, size) → CodePass bytes from (place + size)
pass-skip bytes from place size p is = record { same = p.same ∙ code-skipped bytes place size is }

pub pass-none : (bytes : List ℕ) (from place : ℕ) → CodePass bytes from place → uleb_at bytes place ≡ None → None ≡ first_code bytes from
pass-none bytes from place p is = code-none bytes place is ∙ sym p.same

pub pass-here : (bytes : List ℕ) (from place code size : ℕ) → CodePass bytes from place → uleb_at bytes place ≡ Some (code, size) → (code ≡ 0 → ⊥)
    → Some (record { code = code; behind = place + size }) ≡ first_code bytes from
pass-here bytes from place code size p is other = code-here bytes place code size is other ∙ sym p.same

pub ruleset code_rules = (pass-code, pass-skip, pass-none, pass-here)

-- the bytes up to their end are all
pub value-none : (params : Params) (x : Spec) (bytes : List ℕ) (place end : ℕ) → value_at params x (take end bytes) place ≡ None → end ≡ length bytes
    → None ≡ value_at params x bytes place
value-none params x bytes place end e is = sym (ap (λ (bs : List ℕ). value_at params x bs place) (sym (take_all end bytes (omega (arith, is)))) ∙ e)

pub value-some : (params : Params) (x : Spec) (bytes : List ℕ) (place end : ℕ) (v : Value) → value_at params x (take end bytes) place ≡ Some v → end ≡ length bytes
    → Some v ≡ value_at params x bytes place
value-some params x bytes place end v e is = sym (value-whole params x bytes place end v e is)

pub ruleset value_rules = (value-none, value-some, value-inside)

-- where a pass over the values of an entry stands: the others lead from what was found to what all say
pub record ValuesPass (params : Params) (bytes : List ℕ) (tag : ℕ) (specs : List Spec) (from i place : ℕ) (root : Root) : Type 0 where
  pub same : with_values params bytes tag (drop i specs) root place ≡ with_values params bytes tag specs no_root from

pub values-start : (params : Params) (bytes : List ℕ) (tag : ℕ) (specs : List Spec) (from : ℕ) (root : Root) → root ≡ no_root
    → ValuesPass params bytes tag specs from 0 from root
values-start params bytes tag specs from root is = record { same = ap (λ (r : Root). with_values params bytes tag specs r from) is }

front : (specs : List Spec) (x : Spec) (i : ℕ) → i < length specs → x ≡ get_or specs i x → drop i specs ≡ x ∷ drop (i + 1) specs
front specs x i lt is =
    let next : suc i ≡ i + 1 = omega arith in
    drop-cons specs i x lt ∙ ap (λ (n : ℕ). get_or specs i x ∷ drop n specs) next ∙ ap (λ (y : Spec). y ∷ drop (i + 1) specs) (sym is)

pub values-more : (params : Params) (bytes : List ℕ) (tag : ℕ) (specs : List Spec) (from i place : ℕ) (x : Spec) (v : Value) (root next : Root)
    → i < length specs → x ≡ get_or specs i x → ValuesPass params bytes tag specs from i place root → Some v ≡ value_at params x bytes place
    → next ≡ with_value tag root x.name v → ValuesPass params bytes tag specs from (i + 1) (place + v.size) next
values-more params bytes tag specs from i place x v root next lt here p is more = record {
  same =
      ap (λ (r : Root). with_values params bytes tag (drop (i + 1) specs) r (place + v.size)) more
      ∙ ap (with_next (λ s q. with_values params bytes tag (drop (i + 1) specs) s q) tag root x.name place) is
      ∙ ap (λ (xs : List Spec). with_values params bytes tag xs root place) (sym (front specs x i lt here)) ∙ p.same;
}

pub values-stop : (params : Params) (bytes : List ℕ) (tag : ℕ) (specs : List Spec) (from i place : ℕ) (x : Spec) (root : Root)
    → i < length specs → x ≡ get_or specs i x → ValuesPass params bytes tag specs from i place root → None ≡ value_at params x bytes place
    → root ≡ with_values params bytes tag specs no_root from
values-stop params bytes tag specs from i place x root lt here p is =
    ap (with_next (λ s q. with_values params bytes tag (drop (i + 1) specs) s q) tag root x.name place) is
    ∙ ap (λ (xs : List Spec). with_values params bytes tag xs root place) (sym (front specs x i lt here)) ∙ p.same

pub values-end : (params : Params) (bytes : List ℕ) (tag : ℕ) (specs : List Spec) (from i place : ℕ) (root : Root) → length specs ≤ i
    → ValuesPass params bytes tag specs from i place root → root ≡ with_values params bytes tag specs no_root from
values-end params bytes tag specs from i place root end p =
    ap (λ (xs : List Spec). with_values params bytes tag xs root place) (sym (drop_all i specs end)) ∙ p.same

pub ruleset values_rules = (values-start, values-more, values-stop, values-end)

-- an entry by its abbreviation
pub behind-none : (params : Params) (bytes : List ℕ) (place : ℕ) (o : Option Abbreviation) → None ≡ o → no_root ≡ root_behind params bytes place o
behind-none params bytes place o is = ap (root_behind params bytes place) is

pub behind-some : (params : Params) (bytes : List ℕ) (place : ℕ) (a : Abbreviation) (o : Option Abbreviation) → Some a ≡ o
    → with_values params bytes a.tag a.specs no_root place ≡ root_behind params bytes place o
behind-some params bytes place a o is = ap (root_behind params bytes place) is

pub ruleset behind_rules = (behind-none, behind-some)
