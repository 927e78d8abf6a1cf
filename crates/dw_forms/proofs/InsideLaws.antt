-- A value that stands at a place lies within the bytes.
use Rattle.std.proofs.Common.{◌≡◌, ℕ, ℤ, ◌+◌, ◌≤◌, Bool, true, false, if◌then◌else◌, List, length, drop, Option, Some, None, IfSome, refl, ap, subst, arith}
use Rattle.std.specs.Prelude.{nat_le}
use Rattle.std.proofs.lemmas.Bool.{leb-true}
use Rattle.std.proofs.lemmas.List.{length-drop}
use Rattle.dw_base.specs.Forms.{ValueKind, number_of, leb_number, signed_leb, block_of, counted, counted_leb, inline_text, text_offset, present, in_abbreviation, form_in_front, supplementary, unlisted, kind_in}
use Rattle.dw_base.specs.Lebs.{uleb_at, sleb_at, IsSized}
use Rattle.dw_base.specs.Numbers.{number_at, spelled}
use Rattle.dw_base.specs.Texts.{text_in, ends_in}
use Rattle.dw_base.specs.Values.{number_value, leb_value_at, signed_value_at, block_value, counted_value, counted_leb_value, text_value, bare_value, offset_class, value_of, chosen_value, behind, indirect_value, value_by, value_at}
use Rattle.dw_base.specs.declared.shared.Order.{Order}
use Rattle.dw_base.specs.declared.shared.Params.{Params}
use Rattle.dw_base.specs.declared.values.Spec.{Spec}
use Rattle.dw_base.specs.declared.values.Value.{Value}
use Rattle.dw_base.specs.declared.values.ValueClass.{ValueClass}
use Rattle.dw_base.specs.declared.values.ValueClass.TheVariants.{Bytes, InlineText}
use Rattle.dw_base.proofs.LebLaws.{uleb_at-size, sleb_at-size}
use Rattle.dw_base.proofs.TextLaws.{length-text}

some-size : (u v : Value) → Some u ≡ Some v → u.size ≡ v.size
some-size u v e = ap size_in e
  where
    size_in : Option Value → ℕ
    size_in None = 0
    size_in (Some w) = w.size

number-inside : (class : ValueClass) (order : Order) (bytes : List ℕ) (place n : ℕ) (v : Value) → number_value class place n (number_at order bytes place n) ≡ Some v
    → place + v.size ≤ length bytes
unfolding number_at
number-inside class order bytes place n v e = by_room (nat_le (place + n) (length bytes)) refl e
  where
    by_room : (test : Bool) → nat_le (place + n) (length bytes) ≡ test
        → number_value class place n (if test then Some (spelled order bytes place n) else None) ≡ Some v → place + v.size ≤ length bytes
    by_room true is e = let size = some-size (record { class = class; number = spelled order bytes place n; at = place; len = n; size = n }) v e in let room = leb-true _ _ is in omega (arith, size, room)
    by_room false is e = absurd cc

-- a LEB128 number that was read lies within the bytes
uleb-inside : (bytes : List ℕ) (place : ℕ) (p : ℕ × ℕ) → uleb_at bytes place ≡ Some p → place + p.1 ≤ length bytes
unfolding uleb_at
uleb-inside bytes place p e = let s : IsSized (length (drop place bytes)) p = subst (λ o. IfSome o (IsSized (length (drop place bytes)))) e (uleb_at-size (drop place bytes)) in let some = s.some in let within = s.within in omega (arith, some, within, length-drop place bytes)

sleb-inside : (bytes : List ℕ) (place : ℕ) (p : ℤ × ℕ) → sleb_at bytes place ≡ Some p → place + p.1 ≤ length bytes
unfolding sleb_at
sleb-inside bytes place p e = let s : IsSized (length (drop place bytes)) p = subst (λ o. IfSome o (IsSized (length (drop place bytes)))) e (sleb_at-size (drop place bytes)) in let some = s.some in let within = s.within in omega (arith, some, within, length-drop place bytes)

leb-inside : (class : ValueClass) (bytes : List ℕ) (place : ℕ) (v : Value) (o : Option (ℕ × ℕ)) → uleb_at bytes place ≡ o → leb_value_at class place o ≡ Some v
    → place + v.size ≤ length bytes
leb-inside class bytes place v None is e = absurd cc
leb-inside class bytes place v (Some p) is e =
    let size = some-size (record { class = class; number = p.0; at = place; len = p.1; size = p.1 }) v e in
    let inside = uleb-inside bytes place p is in omega (arith, size, inside)

signed-inside : (bytes : List ℕ) (place : ℕ) (v : Value) (o : Option (ℤ × ℕ)) → sleb_at bytes place ≡ o → signed_value_at place o ≡ Some v
    → place + v.size ≤ length bytes
signed-inside bytes place v None is e = absurd cc
signed-inside bytes place v (Some p) is e =
    let inside = sleb-inside bytes place p is in let size : p.1 ≡ v.size = some-size _ v e in omega (arith, size, inside)

block-inside : (bytes : List ℕ) (place front n : ℕ) (v : Value) → block_value bytes place front n ≡ Some v → place + v.size ≤ length bytes
block-inside bytes place front n v e = by_room (nat_le (place + front + n) (length bytes)) refl e
  where
    by_room : (test : Bool) → nat_le (place + front + n) (length bytes) ≡ test → (if test then Some (record { class = Bytes; number = 0; at = place + front; len = n; size = front + n }) else None) ≡ Some v
        → place + v.size ≤ length bytes
    by_room true is e = let size : front + n ≡ v.size = some-size _ v e in let room = leb-true _ _ is in omega (arith, size, room)
    by_room false is e = absurd cc

counted-inside : (bytes : List ℕ) (place front : ℕ) (v : Value) (o : Option ℕ) → counted_value bytes place front o ≡ Some v → place + v.size ≤ length bytes
counted-inside bytes place front v None e = absurd cc
counted-inside bytes place front v (Some n) e = block-inside bytes place front n v e

counted_leb-inside : (bytes : List ℕ) (place : ℕ) (v : Value) (o : Option (ℕ × ℕ)) → counted_leb_value bytes place o ≡ Some v → place + v.size ≤ length bytes
counted_leb-inside bytes place v None e = absurd cc
counted_leb-inside bytes place v (Some n) e = block-inside bytes place n.1 n.0 v e

text-ends : (bytes : List ℕ) (place : ℕ) → ends_in bytes place ≡ true → place + (length (text_in bytes place) + 1) ≤ length bytes
unfolding ends_in text_in
text-ends bytes place is = let shorter = length-text (drop place bytes) is in omega (arith, shorter, length-drop place bytes)

text-inside : (bytes : List ℕ) (place : ℕ) (v : Value) → text_value bytes place ≡ Some v → place + v.size ≤ length bytes
text-inside bytes place v e = by_nul (ends_in bytes place) refl e
  where
    by_nul : (test : Bool) → ends_in bytes place ≡ test
        → (if test then Some (record { class = InlineText; number = 0; at = place; len = length (text_in bytes place); size = length (text_in bytes place) + 1 }) else None) ≡ Some v
        → place + v.size ≤ length bytes
    by_nul true is e = let size : length (text_in bytes place) + 1 ≡ v.size = some-size _ v e in let room = text-ends bytes place is in omega (arith, size, room)
    by_nul false is e = absurd cc

bare-inside : (bytes : List ℕ) (place : ℕ) (class : ValueClass) (n : ℕ) (v : Value) → bare_value bytes place class n ≡ Some v → place + v.size ≤ length bytes
bare-inside bytes place class n v e = by_room (nat_le place (length bytes)) refl e
  where
    by_room : (test : Bool) → nat_le place (length bytes) ≡ test → (if test then Some (record { class = class; number = n; at = place; len = 0; size = 0 }) else None) ≡ Some v
        → place + v.size ≤ length bytes
    by_room true is e = let size : 0 ≡ v.size = some-size _ v e in let room = leb-true _ _ is in omega (arith, size, room)
    by_room false is e = absurd cc

pub value_of-inside : (k : ValueKind) (order : Order) (bytes : List ℕ) (place : ℕ) (implicit : ℤ) (v : Value) → value_of k order bytes place implicit ≡ Some v
    → place + v.size ≤ length bytes
unfolding value_of
value_of-inside (number_of class n) order bytes place implicit v e = number-inside class order bytes place n v e
value_of-inside (leb_number class) order bytes place implicit v e = leb-inside class bytes place v (uleb_at bytes place) refl e
value_of-inside signed_leb order bytes place implicit v e = signed-inside bytes place v (sleb_at bytes place) refl e
value_of-inside (block_of n) order bytes place implicit v e = block-inside bytes place 0 n v e
value_of-inside (counted n) order bytes place implicit v e = counted-inside bytes place n v (number_at order bytes place n) e
value_of-inside counted_leb order bytes place implicit v e = counted_leb-inside bytes place v (uleb_at bytes place) e
value_of-inside inline_text order bytes place implicit v e = text-inside bytes place v e
value_of-inside (text_offset table n) order bytes place implicit v e = number-inside (offset_class table) order bytes place n v e
value_of-inside present order bytes place implicit v e = bare-inside bytes place _ 1 v e
value_of-inside in_abbreviation order bytes place implicit v e = bare-inside bytes place _ _ v e
value_of-inside form_in_front order bytes place implicit v e = absurd cc
value_of-inside supplementary order bytes place implicit v e = absurd cc
value_of-inside unlisted order bytes place implicit v e = absurd cc

chosen-inside : (k : ValueKind) (order : Order) (bytes : List ℕ) (place : ℕ) (implicit : ℤ) (v : Value) → chosen_value k order bytes place implicit ≡ Some v
    → place + v.size ≤ length bytes
chosen-inside (number_of class n) order bytes place implicit v e = value_of-inside (number_of class n) order bytes place implicit v e
chosen-inside (leb_number class) order bytes place implicit v e = value_of-inside (leb_number class) order bytes place implicit v e
chosen-inside signed_leb order bytes place implicit v e = value_of-inside signed_leb order bytes place implicit v e
chosen-inside (block_of n) order bytes place implicit v e = value_of-inside (block_of n) order bytes place implicit v e
chosen-inside (counted n) order bytes place implicit v e = value_of-inside (counted n) order bytes place implicit v e
chosen-inside counted_leb order bytes place implicit v e = value_of-inside counted_leb order bytes place implicit v e
chosen-inside inline_text order bytes place implicit v e = value_of-inside inline_text order bytes place implicit v e
chosen-inside (text_offset table n) order bytes place implicit v e = value_of-inside (text_offset table n) order bytes place implicit v e
chosen-inside present order bytes place implicit v e = value_of-inside present order bytes place implicit v e
chosen-inside in_abbreviation order bytes place implicit v e = absurd cc
chosen-inside form_in_front order bytes place implicit v e = value_of-inside form_in_front order bytes place implicit v e
chosen-inside supplementary order bytes place implicit v e = value_of-inside supplementary order bytes place implicit v e
chosen-inside unlisted order bytes place implicit v e = value_of-inside unlisted order bytes place implicit v e

behind-inside : (front place n : ℕ) (o : Option Value) (v : Value) → ((u : Value) → o ≡ Some u → place + front + u.size ≤ n) → behind front o ≡ Some v → place + v.size ≤ n
behind-inside front place n None v h e = absurd cc
behind-inside front place n (Some u) v h e = let size : front + u.size ≡ v.size = some-size _ v e in let room = h u refl in omega (arith, size, room)

indirect-inside : (params : Params) (x : Spec) (bytes : List ℕ) (place : ℕ) (v : Value) (o : Option (ℕ × ℕ)) → indirect_value params x bytes place o ≡ Some v
    → place + v.size ≤ length bytes
indirect-inside params x bytes place v None e = absurd cc
indirect-inside params x bytes place v (Some form) e =
    behind-inside form.1 place (length bytes) (chosen_value (kind_in params form.0) params.order bytes (place + form.1) x.implicit) v
    (λ u h. chosen-inside (kind_in params form.0) params.order bytes (place + form.1) x.implicit u h) e

value_by-inside : (k : ValueKind) (params : Params) (x : Spec) (bytes : List ℕ) (place : ℕ) (v : Value) → value_by k params x bytes place ≡ Some v
    → place + v.size ≤ length bytes
value_by-inside (number_of class n) params x bytes place v e = value_of-inside (number_of class n) params.order bytes place x.implicit v e
value_by-inside (leb_number class) params x bytes place v e = value_of-inside (leb_number class) params.order bytes place x.implicit v e
value_by-inside signed_leb params x bytes place v e = value_of-inside signed_leb params.order bytes place x.implicit v e
value_by-inside (block_of n) params x bytes place v e = value_of-inside (block_of n) params.order bytes place x.implicit v e
value_by-inside (counted n) params x bytes place v e = value_of-inside (counted n) params.order bytes place x.implicit v e
value_by-inside counted_leb params x bytes place v e = value_of-inside counted_leb params.order bytes place x.implicit v e
value_by-inside inline_text params x bytes place v e = value_of-inside inline_text params.order bytes place x.implicit v e
value_by-inside (text_offset table n) params x bytes place v e = value_of-inside (text_offset table n) params.order bytes place x.implicit v e
value_by-inside present params x bytes place v e = value_of-inside present params.order bytes place x.implicit v e
value_by-inside in_abbreviation params x bytes place v e = value_of-inside in_abbreviation params.order bytes place x.implicit v e
value_by-inside form_in_front params x bytes place v e = indirect-inside params x bytes place v (uleb_at bytes place) e
value_by-inside supplementary params x bytes place v e = value_of-inside supplementary params.order bytes place x.implicit v e
value_by-inside unlisted params x bytes place v e = value_of-inside unlisted params.order bytes place x.implicit v e

-- a value that stands at a place ends within the bytes
pub value_at-inside : (params : Params) (x : Spec) (bytes : List ℕ) (place : ℕ) (v : Value) → value_at params x bytes place ≡ Some v → place + v.size ≤ length bytes
unfolding value_at
value_at-inside params x bytes place v e = value_by-inside (kind_in params x.form) params x bytes place v e
