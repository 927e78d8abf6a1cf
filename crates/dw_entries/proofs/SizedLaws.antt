-- The values of attributes whose forms say their sizes stand one after another wherever so many bytes are left.
use Rattle.std.proofs.Common.{◌≡◌, ℕ, ◌+◌, ◌≤◌, ◌<◌, Bool, true, false, if◌then◌else◌, List, [], ◌∷◌, ◌++◌, length, Option, Some, None, option_and_then, refl, sym, ap, ◌∙◌, subst, arith}
use Rattle.std.proofs.lemmas.Bool.{le-leb, lt-leb}
use Rattle.std.proofs.lemmas.List.{append_assoc, append-nil}
use Rattle.dw_base.specs.EntryScans.{SpellsValues, no_values, more_values}
use Rattle.dw_base.specs.Forms.{kind_in}
use Rattle.dw_base.specs.Values.{value_at}
use Rattle.dw_base.specs.declared.shared.Params.{Params}
use Rattle.dw_base.specs.declared.values.Spec.{Spec}
use Rattle.dw_entries.specs.Passes.{plain_len, HasSize}
use Rattle.dw_entries.proofs.ValueLaws.{size-of}
use Rattle.dw_forms.specs.Fixed.{added, fixed_size, is_plain_form, plain_size, values_size}
use Rattle.dw_forms.specs.Reads.{room_size}
use Rattle.dw_forms.proofs.FixedLaws.{fixed-is}

-- both parts of a sum that is known
record IsSum (a b : Option ℕ) (n : ℕ) : Type 0 where
  one : ℕ
  others : ℕ
  one_is : a ≡ Some one
  others_are : b ≡ Some others
  sum : one + others ≡ n

sum-of : (a b : Option ℕ) (n : ℕ) → added a b ≡ Some n → IsSum a b n
sum-of None b n e = absurd cc
sum-of (Some m) None n e = absurd cc
sum-of (Some m) (Some k) n e = record { one = m; others = k; one_is = refl; others_are = refl; sum = cc }

some-room : (bytes : List ℕ) (place n : ℕ) → place + n ≤ length bytes → room_size bytes place n ≡ Some n
some-room bytes place n le = rw (le-leb (place + n) (length bytes) le) refl

no-room : (bytes : List ℕ) (place n : ℕ) → length bytes < place + n → room_size bytes place n ≡ None
no-room bytes place n lt = rw (lt-leb (place + n) (length bytes) lt) refl

-- one value of a known size
sized-value : (params : Params) (x : Spec) (bytes : List ℕ) (place n : ℕ) → fixed_size (kind_in params x.form) ≡ Some n → place + n ≤ length bytes
    → HasSize params x bytes place n
sized-value params x bytes place n e le =
    let fixed = fixed-is params x n e in
    size-of params x bytes place n (value_at params x bytes place) refl (fixed.size bytes place ∙ some-room bytes place n le)

-- the values of some attributes, and of those behind them
values-from : (params : Params) (bytes : List ℕ) (from place n : ℕ) (before specs : List Spec) → SpellsValues params bytes from before place
    → values_size params specs ≡ Some n → place + n ≤ length bytes → SpellsValues params bytes from (before ++ specs) (place + n)
values-from params bytes from place n before [] s e le =
    let none : 0 ≡ n = cc in
    let here : place ≡ place + n = omega (arith, none) in
    subst (λ (xs : List Spec). SpellsValues params bytes from xs (place + n)) (sym (append-nil before))
    (subst (λ (k : ℕ). SpellsValues params bytes from before k) here s)
values-from params bytes from place n before (x ∷ xs) s e le =
    let parts = sum-of (fixed_size (kind_in params x.form)) (values_size params xs) n e in
    let sum = parts.sum in
    let has = sized-value params x bytes place parts.one parts.one_is (omega (arith, sum, le)) in
    let more : SpellsValues params bytes from (before ++ x ∷ []) (place + parts.one) =
    subst (λ (k : ℕ). SpellsValues params bytes from (before ++ x ∷ []) (place + k)) has.size_is (more_values before x place has.value s has.is) in
    let rest = values-from params bytes from (place + parts.one) parts.others (before ++ x ∷ []) xs more parts.others_are (omega (arith, sum, le)) in
    let ends : place + parts.one + parts.others ≡ place + n = omega (arith, sum) in
    subst (λ (ys : List Spec). SpellsValues params bytes from ys (place + n)) (append_assoc before (x ∷ []) xs)
    (subst (λ (k : ℕ). SpellsValues params bytes from ((before ++ x ∷ []) ++ xs) k) ends rest)

pub sized-values : (params : Params) (bytes : List ℕ) (from n : ℕ) (specs : List Spec) → values_size params specs ≡ Some n → from + n ≤ length bytes
    → SpellsValues params bytes from specs (from + n)
sized-values params bytes from n specs e le = values-from params bytes from from n [] specs no_values e le

pub ruleset sized_rules = (sized-values)

-- a form of most values says the size of its values
plain-by : (params : Params) (form n : ℕ) (b : Bool) → Some n ≡ (if b then fixed_size (kind_in params form) else None) → fixed_size (kind_in params form) ≡ Some n
plain-by params form n true e = sym e
plain-by params form n false e = absurd cc

pub plain-value : (params : Params) (x : Spec) (bytes : List ℕ) (place n : ℕ) → Some n ≡ plain_size params x.form → place + n ≤ length bytes
    → HasSize params x bytes place n
plain-value params x bytes place n e le = sized-value params x bytes place n (plain-by params x.form n (is_plain_form x.form) e) le

-- what is given of it: nothing of another form, and nothing where it would pass the bytes
pub plain-other : (params : Params) (x : Spec) (bytes : List ℕ) (place : ℕ) → None ≡ plain_size params x.form → None ≡ plain_len params x bytes place
plain-other params x bytes place e = ap (option_and_then (room_size bytes place)) e

pub plain-passes : (params : Params) (x : Spec) (bytes : List ℕ) (place n : ℕ) → Some n ≡ plain_size params x.form → length bytes < place + n
    → None ≡ plain_len params x bytes place
plain-passes params x bytes place n e lt = sym (no-room bytes place n lt) ∙ ap (option_and_then (room_size bytes place)) e

pub plain-given : (params : Params) (x : Spec) (bytes : List ℕ) (place n : ℕ) → Some n ≡ plain_size params x.form → place + n ≤ length bytes
    → Some n ≡ plain_len params x bytes place
plain-given params x bytes place n e le = sym (some-room bytes place n le) ∙ ap (option_and_then (room_size bytes place)) e

pub ruleset plain_rules = (plain-value, plain-other, plain-passes, plain-given)
