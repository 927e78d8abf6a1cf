-- What follows a value doesn't change it.
use Rattle.std.proofs.Common.{Bool, true, false, ◌≡◌, ℕ, ℤ, ◌+◌, List, ◌++◌, length, Option, Some, None, refl, arith, if◌then◌else◌}
use Rattle.std.specs.Prelude.{nat_le}
use Rattle.std.proofs.lemmas.List.{length-append}
use Rattle.std.proofs.lemmas.Bool.{leb-true, le-leb}
use Rattle.dw_base.specs.Forms.{ValueKind, number_of, leb_number, signed_leb, block_of, counted, counted_leb, inline_text, text_offset, present, in_abbreviation, form_in_front, supplementary, unlisted}
use Rattle.dw_base.specs.Texts.{ends_in, text_in}
use Rattle.dw_base.specs.Values.{value_of, number_value, leb_value_at, signed_value_at, block_value, counted_value, counted_leb_value, text_value, offset_class}
use Rattle.dw_base.specs.declared.shared.Order.{Order}
use Rattle.dw_base.specs.declared.values.Value.{Value}
use Rattle.dw_base.specs.declared.values.ValueClass.{ValueClass}
use Rattle.dw_base.specs.declared.values.ValueClass.TheVariants.{Bytes, InlineText}
use Rattle.dw_base.proofs.LebLaws.{uleb_at-append, sleb_at-append}
use Rattle.dw_base.proofs.TextLaws.{ends_in-append, text_in-append}
use Rattle.dw_base.proofs.UnitHeaderLaws.{number_at-append}

number-kept : (class : ValueClass) (n : ℕ) (o more : Option ℕ) (v : Value) → ((x : ℕ) → o ≡ Some x → more ≡ Some x)
    → number_value class 0 n o ≡ Some v → number_value class 0 n more ≡ Some v
number-kept class n None more v h e = absurd cc
number-kept class n (Some x) more v h e = rw (h x refl) e

leb-kept : (class : ValueClass) (o more : Option (ℕ × ℕ)) (v : Value) → ((x : ℕ × ℕ) → o ≡ Some x → more ≡ Some x)
    → leb_value_at class 0 o ≡ Some v → leb_value_at class 0 more ≡ Some v
leb-kept class None more v h e = absurd cc
leb-kept class (Some x) more v h e = rw (h x refl) e

signed-kept : (o more : Option (ℤ × ℕ)) (v : Value) → ((x : ℤ × ℕ) → o ≡ Some x → more ≡ Some x) → signed_value_at 0 o ≡ Some v → signed_value_at 0 more ≡ Some v
signed-kept None more v h e = absurd cc
signed-kept (Some x) more v h e = rw (h x refl) e

-- what lies in bytes lies in more of them
room-kept : (xs ys : List ℕ) (n : ℕ) (w v : Value) → (if nat_le n (length xs) then Some w else None) ≡ Some v
    → (if nat_le n (length (xs ++ ys)) then Some w else None) ≡ Some v
room-kept xs ys n w v e = by_room (nat_le n (length xs)) refl e
  where
    by_room : (b : Bool) → nat_le n (length xs) ≡ b → (if b then Some w else None) ≡ Some v → (if nat_le n (length (xs ++ ys)) then Some w else None) ≡ Some v
    by_room true is e = rw (le-leb n (length (xs ++ ys)) (omega (arith, leb-true _ _ is, length-append xs ys))) e
    by_room false is e = absurd cc

block-kept : (xs ys : List ℕ) (front n : ℕ) (v : Value) → block_value xs 0 front n ≡ Some v → block_value (xs ++ ys) 0 front n ≡ Some v
block-kept xs ys front n v e =
    room-kept xs ys (0 + front + n) (record { class = Bytes; number = 0; at = 0 + front; len = n; size = front + n }) v e

counted-kept : (xs ys : List ℕ) (front : ℕ) (o more : Option ℕ) (v : Value) → ((x : ℕ) → o ≡ Some x → more ≡ Some x)
    → counted_value xs 0 front o ≡ Some v → counted_value (xs ++ ys) 0 front more ≡ Some v
counted-kept xs ys front None more v h e = absurd cc
counted-kept xs ys front (Some x) more v h e = rw (h x refl) (block-kept xs ys front x v e)

counted_leb-kept : (xs ys : List ℕ) (o more : Option (ℕ × ℕ)) (v : Value) → ((x : ℕ × ℕ) → o ≡ Some x → more ≡ Some x)
    → counted_leb_value xs 0 o ≡ Some v → counted_leb_value (xs ++ ys) 0 more ≡ Some v
counted_leb-kept xs ys None more v h e = absurd cc
counted_leb-kept xs ys (Some x) more v h e = rw (h x refl) (block-kept xs ys x.1 x.0 v e)

text-kept : (xs ys : List ℕ) (v : Value) → text_value xs 0 ≡ Some v → text_value (xs ++ ys) 0 ≡ Some v
text-kept xs ys v e = by_end (ends_in xs 0) refl e
  where
    text_size : ℕ → Value
    text_size n = record { class = InlineText; number = 0; at = 0; len = n; size = n + 1 }

    by_end : (b : Bool) → ends_in xs 0 ≡ b → (if b then Some (text_size (length (text_in xs 0))) else None) ≡ Some v → text_value (xs ++ ys) 0 ≡ Some v
    by_end true is e = rw (ends_in-append xs ys 0 (omega arith) is, text_in-append xs ys 0 (omega arith) is) e
    by_end false is e = absurd cc

-- a value is read with more behind it
pub value_of-append : (k : ValueKind) (o : Order) (xs ys : List ℕ) (implicit : ℤ) (v : Value) → value_of k o xs 0 implicit ≡ Some v
    → value_of k o (xs ++ ys) 0 implicit ≡ Some v
unfolding value_of
value_of-append (number_of class n) o xs ys i v e = number-kept class n _ _ v (λ x f. number_at-append o xs ys 0 n x f) e
value_of-append (leb_number class) o xs ys i v e = leb-kept class _ _ v (λ x f. uleb_at-append xs ys 0 x (omega arith) f) e
value_of-append signed_leb o xs ys i v e = signed-kept _ _ v (λ x f. sleb_at-append xs ys 0 x (omega arith) f) e
value_of-append (block_of n) o xs ys i v e = block-kept xs ys 0 n v e
value_of-append (counted n) o xs ys i v e = counted-kept xs ys n _ _ v (λ x f. number_at-append o xs ys 0 n x f) e
value_of-append counted_leb o xs ys i v e = counted_leb-kept xs ys _ _ v (λ x f. uleb_at-append xs ys 0 x (omega arith) f) e
value_of-append inline_text o xs ys i v e = text-kept xs ys v e
value_of-append (text_offset table n) o xs ys i v e = number-kept (offset_class table) n _ _ v (λ x f. number_at-append o xs ys 0 n x f) e
value_of-append present o xs ys i v e = room-kept xs ys 0 _ v e
value_of-append in_abbreviation o xs ys i v e = room-kept xs ys 0 _ v e
value_of-append form_in_front o xs ys i v e = absurd cc
value_of-append supplementary o xs ys i v e = absurd cc
value_of-append unlisted o xs ys i v e = absurd cc
