-- The values of an entry, one after another.
use Rattle.std.proofs.Common.{◌≡◌, ℕ, ◌+◌, ◌≤◌, ◌<◌, List, [], ◌∷◌, ◌++◌, length, take, drop, get_or, Option, Some, None, refl, sym, ap, ◌∙◌, subst, arith}
use Rattle.std.proofs.lemmas.List.{take_more, take_all, take-append-drop, drop_more}
use Rattle.dw_base.specs.EntryScans.{SpellsValues, no_values, more_values, ValuesFail, value}
use Rattle.dw_base.specs.FormFails.{FormFails}
use Rattle.dw_base.specs.Values.{value_at, value_size}
use Rattle.dw_base.specs.declared.fault.Refusal.{Refusal}
use Rattle.dw_base.specs.declared.shared.Params.{Params}
use Rattle.dw_base.specs.declared.values.Spec.{Spec}
use Rattle.dw_base.specs.declared.values.Value.{Value}
use Rattle.dw_entries.specs.Passes.{HasSize}
use Rattle.dw_forms.proofs.InsideLaws.{value_at-inside}

pub size-of : (params : Params) (x : Spec) (bytes : List ℕ) (place size : ℕ) (o : Option Value) → value_at params x bytes place ≡ o → value_size o ≡ Some size
    → HasSize params x bytes place size
size-of params x bytes place size None is e = absurd cc
size-of params x bytes place size (Some v) is e = record { value = v; is = is; size_is = cc }

-- a size that was found of the bytes up to their end
pub has-size : (params : Params) (x : Spec) (bytes : List ℕ) (place size end : ℕ) → value_size (value_at params x (take end bytes) place) ≡ Some size → end ≡ length bytes
    → HasSize params x bytes place size
has-size params x bytes place size end e is =
    size-of params x bytes place size (value_at params x bytes place) refl
    (ap (λ (bs : List ℕ). value_size (value_at params x bs place)) (sym (take_all end bytes (omega (arith, is)))) ∙ e)

pub size-inside : (params : Params) (x : Spec) (bytes : List ℕ) (place size end : ℕ) → value_size (value_at params x (take end bytes) place) ≡ Some size → end ≡ length bytes
    → place + size ≤ length bytes
size-inside params x bytes place size end e is =
    let has = has-size params x bytes place size end e is in
    let inside = value_at-inside params x bytes place has.value has.is in
    let same = has.size_is in
    omega (arith, inside, same)

pub fails-whole : (params : Params) (x : Spec) (bytes : List ℕ) (section place end : ℕ) (r : Refusal) → FormFails params x (take end bytes) section place r → end ≡ length bytes
    → FormFails params x bytes section place r
fails-whole params x bytes section place end r f is = subst (λ (bs : List ℕ). FormFails params x bs section place r) (take_all end bytes (omega (arith, is))) f

-- a value that was found of the bytes up to their end
pub value-whole : (params : Params) (x : Spec) (bytes : List ℕ) (place end : ℕ) (v : Value) → value_at params x (take end bytes) place ≡ Some v → end ≡ length bytes
    → value_at params x bytes place ≡ Some v
value-whole params x bytes place end v e is = ap (λ (bs : List ℕ). value_at params x bs place) (sym (take_all end bytes (omega (arith, is)))) ∙ e

pub value-inside : (params : Params) (x : Spec) (bytes : List ℕ) (place end : ℕ) (v : Value) → value_at params x (take end bytes) place ≡ Some v → end ≡ length bytes
    → place + v.size ≤ length bytes
value-inside params x bytes place end v e is = value_at-inside params x bytes place v (value-whole params x bytes place end v e is)

pub ruleset read_rules = (value-whole, value-inside, fails-whole)

pub ruleset size_rules = (has-size, size-inside, fails-whole)

-- one more value behind those so far
pub values-more : (params : Params) (bytes : List ℕ) (from place size i : ℕ) (specs : List Spec) (d : Spec) → HasSize params (get_or specs i d) bytes place size
    → SpellsValues params bytes from (take i specs) place → i < length specs → SpellsValues params bytes from (take (i + 1) specs) (place + size)
values-more params bytes from place size i specs d has s lt =
    let x : Spec = get_or specs i d in
    let more : SpellsValues params bytes from (take i specs ++ get_or specs i d ∷ []) (place + has.value.size) =
    more_values (take i specs) (get_or specs i d) place has.value s has.is in
    let ends : SpellsValues params bytes from (take i specs ++ get_or specs i d ∷ []) (place + size) =
    subst (λ (n : ℕ). SpellsValues params bytes from (take i specs ++ get_or specs i d ∷ []) (place + n)) has.size_is more in
    subst (λ (xs : List Spec). SpellsValues params bytes from xs (place + size)) (sym (take_more specs i d lt)) ends

-- the value of the next attribute fails
pub values-fail : (params : Params) (bytes : List ℕ) (section from place i : ℕ) (specs : List Spec) (d : Spec) (r : Refusal)
    → FormFails params (get_or specs i d) bytes section place r → SpellsValues params bytes from (take i specs) place → i < length specs
    → ValuesFail params bytes section from specs r
values-fail params bytes section from place i specs d r f s lt =
    value (take i specs) (drop (i + 1) specs) (get_or specs i d) place (split_here specs i d lt) s f
  where
    split_here : (xs : List Spec) (k : ℕ) (d : Spec) → k < length xs → xs ≡ take k xs ++ get_or xs k d ∷ drop (k + 1) xs
    split_here xs k d lt = sym (take-append-drop k xs) ∙ ap (λ (ys : List Spec). take k xs ++ ys) (drop_more xs k d lt)

pub ruleset value_rules = (no_values, values-more)
