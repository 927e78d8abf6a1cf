-- A value that stands at a place is the value of its own bytes.
use Rattle.std.proofs.Common.{Bool, true, false, ◌≡◌, ℕ, ℤ, ◌+◌, ◌<◌, ◌≤◌, List, [], ◌∷◌, ◌++◌, length, take, drop, Option, Some, None, IfSome, refl, sym, ap, ◌∙◌, subst, arith, if◌then◌else◌, append_assoc}
use Rattle.std.specs.Prelude.{nat_le}
use Rattle.std.proofs.lemmas.Bool.{leb-true, le-leb}
use Rattle.std.proofs.lemmas.List.{length-append, length-drop, length-take-le, take-append-drop, take-take}
use Rattle.std.proofs.Math.Seq.{take-append_seam}
use Rattle.dw_base.specs.Forms.{ValueKind, number_of, leb_number, signed_leb, block_of, counted, counted_leb, inline_text, text_offset, present, in_abbreviation, form_in_front, supplementary, unlisted}
use Rattle.dw_base.specs.Lebs.{uleb_at, sleb, sleb_within, sleb_at, IsSized}
use Rattle.dw_base.specs.Numbers.{number_at, spelled}
use Rattle.dw_base.specs.Texts.{text, has_nul, ends_in, text_in}
use Rattle.dw_base.specs.Values.{value_of, number_value, leb_value_at, signed_value_at, block_value, counted_value, counted_leb_value, text_value, bare_value, offset_class, signed_bits}
use Rattle.dw_base.specs.declared.shared.Order.{Order}
use Rattle.dw_base.specs.declared.values.Value.{Value}
use Rattle.dw_base.specs.declared.values.ValueClass.{ValueClass}
use Rattle.dw_base.specs.declared.values.ValueClass.TheVariants.{Flag, Bytes, InlineText, Signed}
use Rattle.dw_base.proofs.LebLaws.{sleb_at-size, uleb-inside, uleb_at-append}
use Rattle.dw_base.proofs.NumberBytes.{number-cut, signed-cut}
use Rattle.dw_base.proofs.NumberLaws.{spelled-take, spelled-drop}
use Rattle.dw_base.proofs.TextLaws.{has_nul-append, text-append_nul, has_nul-text, text-split, length-text}

-- a value of a kind lies in bytes at a place, and its own bytes are such a value by themselves
pub record IsCut (k : ValueKind) (o : Order) (bytes : List ℕ) (place : ℕ) (implicit : ℤ) (size : ℕ) : Type 0 where
  pub inside : place + size ≤ length bytes
  pub value : Value
  pub is : value_of k o (take size (drop place bytes)) 0 implicit ≡ Some value
  pub same : value.size ≡ size

abbrev own : ℕ → List ℕ → ℕ → List ℕ
own size bytes place = take size (drop place bytes)

own-length : (size : ℕ) (bytes : List ℕ) (place : ℕ) → place + size ≤ length bytes → length (own size bytes place) ≡ size
own-length size bytes place h = length-take-le size (drop place bytes) (omega (arith, h, length-drop place bytes))

-- a number of so many bytes
record NumberCut (class : ValueClass) (n : ℕ) (o : Order) (bytes : List ℕ) (place size : ℕ) : Type 0 where
  inside : place + size ≤ length bytes
  value : Value
  is : number_value class 0 n (number_at o (take size (drop place bytes)) 0 n) ≡ Some value
  same : value.size ≡ size

number-own : (class : ValueClass) (n : ℕ) (o : Order) (bytes : List ℕ) (place : ℕ) (v : Value) → number_value class place n (number_at o bytes place n) ≡ Some v
    → NumberCut class n o bytes place v.size
unfolding number_at
number-own class n o bytes place v e = by_room (nat_le (place + n) (length bytes)) refl e
  where
    by_room : (b : Bool) → nat_le (place + n) (length bytes) ≡ b → number_value class place n (if b then Some (spelled o bytes place n) else None) ≡ Some v
        → NumberCut class n o bytes place v.size
    by_room true is e =
        let room : place + n ≤ length bytes = leb-true _ _ is in
        let size : n ≡ v.size = cc in
        let whole : length (own n bytes place) ≡ n = own-length n bytes place room in
        let there : number_value class 0 n (if nat_le (0 + n) (length (own n bytes place)) then Some (spelled o (own n bytes place) 0 n) else None)
        ≡ Some (record { class = class; number = spelled o (own n bytes place) 0 n; at = 0; len = n; size = n }) =
        rw (le-leb (0 + n) (length (own n bytes place)) (omega (arith, whole))) refl in
        subst (λ (m : ℕ). NumberCut class n o bytes place m) size
        (record { inside = room; value = record { class = class; number = spelled o (own n bytes place) 0 n; at = 0; len = n; size = n }; is = there; same = refl })
    by_room false is e = absurd cc

-- a number of LEB128 has a byte at least
sleb-some : (bytes : List ℕ) (place : ℕ) (v : ℤ) (n : ℕ) → sleb_at bytes place ≡ Some (v, n) → 0 < n
unfolding sleb_at
sleb-some bytes place v n e = by_read (sleb_within (sleb (drop place bytes))) (sleb_at-size (drop place bytes)) e
  where
    by_read : (o : Option (ℤ × ℕ)) → IfSome o (IsSized (length (drop place bytes))) → o ≡ Some (v, n) → 0 < n
    by_read None s e = absurd cc
    by_read (Some x) s e =
        let some : 0 < x.1 = s.some in
        let same : x ≡ (v, n) = cc in
        subst (λ (y : ℤ × ℕ). 0 < y.1) same some

pub sleb-inside : (bytes : List ℕ) (place : ℕ) (v : ℤ) (n : ℕ) → sleb_at bytes place ≡ Some (v, n) → place + n ≤ length bytes
sleb-inside bytes place v n e =
    let within : n ≤ length (drop place bytes) = (signed-cut bytes place v n e).1 in
    omega (arith, within, sleb-some bytes place v n e, length-drop place bytes)

leb-own : (class : ValueClass) (o : Order) (bytes : List ℕ) (place : ℕ) (implicit : ℤ) (v : Value) → leb_value_at class place (uleb_at bytes place) ≡ Some v
    → IsCut (leb_number class) o bytes place implicit v.size
unfolding value_of
leb-own class o bytes place implicit v e = by_read (uleb_at bytes place) refl e
  where
    by_read : (r : Option (ℕ × ℕ)) → uleb_at bytes place ≡ r → leb_value_at class place r ≡ Some v → IsCut (leb_number class) o bytes place implicit v.size
    by_read None is e = absurd cc
    by_read (Some (x, n)) is e =
        let size : n ≡ v.size = cc in
        subst (λ (m : ℕ). IsCut (leb_number class) o bytes place implicit m) size
        (record {
          inside = uleb-inside bytes place x n is;
          value = record { class = class; number = x; at = 0; len = n; size = n };
          is = ap (leb_value_at class 0) (number-cut bytes place x n is).0;
          same = refl;
        })

signed-own : (o : Order) (bytes : List ℕ) (place : ℕ) (implicit : ℤ) (v : Value) → signed_value_at place (sleb_at bytes place) ≡ Some v
    → IsCut signed_leb o bytes place implicit v.size
unfolding value_of
signed-own o bytes place implicit v e = by_read (sleb_at bytes place) refl e
  where
    by_read : (r : Option (ℤ × ℕ)) → sleb_at bytes place ≡ r → signed_value_at place r ≡ Some v → IsCut signed_leb o bytes place implicit v.size
    by_read None is e = absurd cc
    by_read (Some (x, n)) is e =
        let size : n ≡ v.size = cc in
        subst (λ (m : ℕ). IsCut signed_leb o bytes place implicit m) size
        (record {
          inside = sleb-inside bytes place x n is;
          value = record { class = Signed; number = signed_bits x; at = 0; len = n; size = n };
          is = ap (signed_value_at 0) (signed-cut bytes place x n is).0;
          same = refl;
        })

-- a block behind its count
block-inside : (bytes : List ℕ) (place front n : ℕ) (v : Value) → block_value bytes place front n ≡ Some v → (place + (front + n) ≤ length bytes) × (v.size ≡ front + n)
block-inside bytes place front n v e = by_room (nat_le (place + front + n) (length bytes)) refl e
  where
    by_room : (b : Bool) → nat_le (place + front + n) (length bytes) ≡ b
        → (if b then Some (record { class = Bytes; number = 0; at = place + front; len = n; size = front + n }) else None) ≡ Some v
        → (place + (front + n) ≤ length bytes) × (v.size ≡ front + n)
    by_room true is e = (omega (arith, leb-true _ _ is), cc)
    by_room false is e = absurd cc

block-stands : (bs : List ℕ) (front n : ℕ) → length bs ≡ front + n
    → block_value bs 0 front n ≡ Some (record { class = Bytes; number = 0; at = 0 + front; len = n; size = front + n })
block-stands bs front n h = rw (le-leb (0 + front + n) (length bs) (omega (arith, h))) refl

block-own : (n : ℕ) (o : Order) (bytes : List ℕ) (place : ℕ) (implicit : ℤ) (v : Value) → block_value bytes place 0 n ≡ Some v
    → IsCut (block_of n) o bytes place implicit v.size
unfolding value_of
block-own n o bytes place implicit v e =
    let b = block-inside bytes place 0 n v e in
    let whole : length (own (0 + n) bytes place) ≡ 0 + n = own-length (0 + n) bytes place b.0 in
    subst (λ (m : ℕ). IsCut (block_of n) o bytes place implicit m) (sym b.1)
    (record { inside = b.0; value = record { class = Bytes; number = 0; at = 0 + 0; len = n; size = 0 + n }; is = block-stands (own (0 + n) bytes place) 0 n whole; same = refl })

counted-own : (n : ℕ) (o : Order) (bytes : List ℕ) (place : ℕ) (implicit : ℤ) (v : Value) → counted_value bytes place n (number_at o bytes place n) ≡ Some v
    → IsCut (counted n) o bytes place implicit v.size
unfolding value_of number_at
counted-own n o bytes place implicit v e = by_room (nat_le (place + n) (length bytes)) e
  where
    by_room : (b : Bool) → counted_value bytes place n (if b then Some (spelled o bytes place n) else None) ≡ Some v → IsCut (counted n) o bytes place implicit v.size
    by_room true e =
        let c : ℕ = spelled o bytes place n in
        let b = block-inside bytes place n (spelled o bytes place n) v e in
        let p : List ℕ = own (n + spelled o bytes place n) bytes place in
        let whole : length (own (n + spelled o bytes place n) bytes place) ≡ n + spelled o bytes place n = own-length (n + spelled o bytes place n) bytes place b.0 in
        let count : spelled o (own (n + spelled o bytes place n) bytes place) 0 n ≡ spelled o bytes place n =
        spelled-take o (drop place bytes) (n + spelled o bytes place n) 0 n (omega arith) ∙ spelled-drop o bytes place 0 n ∙ ap (λ (k : ℕ). spelled o bytes k n) (omega arith) in
        let value : Value = record { class = Bytes; number = 0; at = 0 + n; len = spelled o bytes place n; size = n + spelled o bytes place n } in
        let there : counted_value (own (n + spelled o bytes place n) bytes place) 0 n
        (if nat_le (0 + n) (length (own (n + spelled o bytes place n) bytes place)) then Some (spelled o (own (n + spelled o bytes place n) bytes place) 0 n) else None)
        ≡ Some (record { class = Bytes; number = 0; at = 0 + n; len = spelled o bytes place n; size = n + spelled o bytes place n }) =
        rw (le-leb (0 + n) (length (own (n + spelled o bytes place n) bytes place)) (omega (arith, whole)), count)
        (block-stands (own (n + spelled o bytes place n) bytes place) n (spelled o bytes place n) whole) in
        subst (λ (m : ℕ). IsCut (counted n) o bytes place implicit m) (sym b.1)
        (record { inside = b.0; value = value; is = there; same = refl })
    by_room false e = absurd cc

counted_leb-own : (o : Order) (bytes : List ℕ) (place : ℕ) (implicit : ℤ) (v : Value) → counted_leb_value bytes place (uleb_at bytes place) ≡ Some v
    → IsCut counted_leb o bytes place implicit v.size
unfolding value_of
counted_leb-own o bytes place implicit v e = by_read (uleb_at bytes place) refl e
  where
    by_read : (r : Option (ℕ × ℕ)) → uleb_at bytes place ≡ r → counted_leb_value bytes place r ≡ Some v → IsCut counted_leb o bytes place implicit v.size
    by_read None is e = absurd cc
    by_read (Some (c, n)) is e =
        let b = block-inside bytes place n c v e in
        let p : List ℕ = own (n + c) bytes place in
        let whole : length (own (n + c) bytes place) ≡ n + c = own-length (n + c) bytes place b.0 in
        let front : take n (own (n + c) bytes place) ≡ take n (drop place bytes) = take-take n (n + c) (drop place bytes) (omega arith) in
        let split : own (n + c) bytes place ≡ take n (drop place bytes) ++ drop n (own (n + c) bytes place) =
        sym (take-append-drop n (own (n + c) bytes place)) ∙ ap (λ (t : List ℕ). t ++ drop n (own (n + c) bytes place)) front in
        let count : uleb_at (own (n + c) bytes place) 0 ≡ Some (c, n) =
        ap (λ (t : List ℕ). uleb_at t 0) split
        ∙ uleb_at-append (take n (drop place bytes)) (drop n (own (n + c) bytes place)) 0 (c, n) (omega arith) (number-cut bytes place c n is).0 in
        subst (λ (m : ℕ). IsCut counted_leb o bytes place implicit m) (sym b.1)
        (record {
          inside = b.0;
          value = record { class = Bytes; number = 0; at = 0 + n; len = c; size = n + c };
          is = ap (counted_leb_value (own (n + c) bytes place) 0) count ∙ block-stands (own (n + c) bytes place) n c whole;
          same = refl;
        })

-- a text and its NUL
text-own : (o : Order) (bytes : List ℕ) (place : ℕ) (implicit : ℤ) (v : Value) → text_value bytes place ≡ Some v → IsCut inline_text o bytes place implicit v.size
unfolding value_of ends_in text_in
text-own o bytes place implicit v e = by_end (has_nul (drop place bytes)) refl e
  where
    text_size : ℕ → ℕ → Value
    text_size at n = record { class = InlineText; number = 0; at = at; len = n; size = n + 1 }

    by_end : (b : Bool) → has_nul (drop place bytes) ≡ b → (if b then Some (text_size place (length (text (drop place bytes)))) else None) ≡ Some v
        → IsCut inline_text o bytes place implicit v.size
    by_end true is e =
        let t : List ℕ = text (drop place bytes) in
        let split = text-split (drop place bytes) is in
        let shorter : length (text (drop place bytes)) < length (drop place bytes) = length-text (drop place bytes) is in
        let room : place + (length (text (drop place bytes)) + 1) ≤ length bytes = omega (arith, shorter, length-drop place bytes) in
        let size : length (text (drop place bytes)) + 1 ≡ v.size = cc in
        let front : length (text (drop place bytes) ++ 0 ∷ []) ≡ length (text (drop place bytes)) + 1 = length-append (text (drop place bytes)) (0 ∷ []) in
        let cut : own (length (text (drop place bytes)) + 1) bytes place ≡ text (drop place bytes) ++ 0 ∷ [] =
        ap (take (length (text (drop place bytes)) + 1)) (split.1 ∙ sym (append_assoc (text (drop place bytes)) (0 ∷ []) split.0))
        ∙ ap (λ (n : ℕ). take n ((text (drop place bytes) ++ 0 ∷ []) ++ split.0)) (sym front)
        ∙ take-append_seam (text (drop place bytes) ++ 0 ∷ []) split.0 in
        let nul : has_nul (text (drop place bytes) ++ 0 ∷ []) ≡ true =
        has_nul-append (text (drop place bytes)) (0 ∷ []) ∙ rw (has_nul-text (drop place bytes)) refl in
        let same : text (text (drop place bytes) ++ 0 ∷ []) ≡ text (drop place bytes) = text-append_nul (text (drop place bytes)) [] (has_nul-text (drop place bytes)) in
        let there : (if has_nul (own (length (text (drop place bytes)) + 1) bytes place)
        then Some (text_size 0 (length (text (own (length (text (drop place bytes)) + 1) bytes place)))) else None)
        ≡ Some (text_size 0 (length (text (drop place bytes)))) =
        rw (cut, nul, same) refl in
        subst (λ (m : ℕ). IsCut inline_text o bytes place implicit m) size
        (record { inside = room; value = text_size 0 (length (text (drop place bytes))); is = there; same = refl })
    by_end false is e = absurd cc

bare-inside : (bytes : List ℕ) (place : ℕ) (class : ValueClass) (n : ℕ) (v : Value) → bare_value bytes place class n ≡ Some v
    → (place + 0 ≤ length bytes) × (v.size ≡ 0)
bare-inside bytes place class n v e = by_room (nat_le place (length bytes)) refl e
  where
    by_room : (b : Bool) → nat_le place (length bytes) ≡ b
        → (if b then Some (record { class = class; number = n; at = place; len = 0; size = 0 }) else None) ≡ Some v → (place + 0 ≤ length bytes) × (v.size ≡ 0)
    by_room true is e = (omega (arith, leb-true _ _ is), cc)
    by_room false is e = absurd cc

bare-own : (k : ValueKind) (o : Order) (bytes : List ℕ) (place : ℕ) (implicit : ℤ) (class : ValueClass) (n : ℕ) (v : Value)
    → bare_value bytes place class n ≡ Some v
    → value_of k o [] 0 implicit ≡ Some (record { class = class; number = n; at = 0; len = 0; size = 0 })
    → IsCut k o bytes place implicit v.size
bare-own k o bytes place implicit class n v e there =
    let b = bare-inside bytes place class n v e in
    subst (λ (m : ℕ). IsCut k o bytes place implicit m) (sym b.1)
    (record { inside = b.0; value = record { class = class; number = n; at = 0; len = 0; size = 0 }; is = there; same = refl })

-- a value of a kind is the value of its own bytes
pub value_of-own : (k : ValueKind) (o : Order) (bytes : List ℕ) (place : ℕ) (implicit : ℤ) (v : Value) → value_of k o bytes place implicit ≡ Some v
    → IsCut k o bytes place implicit v.size
unfolding value_of
value_of-own (number_of class n) o bytes place i v e =
    let c = number-own class n o bytes place v e in record { inside = c.inside; value = c.value; is = c.is; same = c.same }
value_of-own (text_offset table n) o bytes place i v e =
    let c = number-own (offset_class table) n o bytes place v e in record { inside = c.inside; value = c.value; is = c.is; same = c.same }
value_of-own (leb_number class) o bytes place i v e = leb-own class o bytes place i v e
value_of-own signed_leb o bytes place i v e = signed-own o bytes place i v e
value_of-own (block_of n) o bytes place i v e = block-own n o bytes place i v e
value_of-own (counted n) o bytes place i v e = counted-own n o bytes place i v e
value_of-own counted_leb o bytes place i v e = counted_leb-own o bytes place i v e
value_of-own inline_text o bytes place i v e = text-own o bytes place i v e
value_of-own present o bytes place i v e = bare-own present o bytes place i Flag 1 v e refl
value_of-own in_abbreviation o bytes place i v e = bare-own in_abbreviation o bytes place i Signed (signed_bits i) v e refl
value_of-own form_in_front o bytes place i v e = absurd cc
value_of-own supplementary o bytes place i v e = absurd cc
value_of-own unlisted o bytes place i v e = absurd cc
