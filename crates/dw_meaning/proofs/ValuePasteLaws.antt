-- A value that fills a piece stands at the piece's place in its unit.
use Rattle.std.proofs.Common.{Bool, true, false, ◌≡◌, ℕ, ℤ, ◌+◌, ◌-◌, ◌<◌, ◌≤◌, List, ◌++◌, length, take, drop, Option, Some, None, refl, sym, ap, ◌∙◌, arith, if◌then◌else◌}
use Rattle.std.specs.Prelude.{nat_le}
use Rattle.std.proofs.lemmas.Bool.{leb-true, leb-false, le-leb}
use Rattle.std.proofs.lemmas.List.{length-drop, length-take, drop-take}
use Rattle.std.proofs.Math.Seq.{take-append-add}
use Rattle.dw_base.specs.declared.values.ValueClass.TheVariants.{Bytes, InlineText, Flag, Signed}
use Rattle.dw_base.specs.Cells.{Cell, bytes_of}
use Rattle.dw_base.specs.Forms.{ValueKind, number_of, leb_number, signed_leb, block_of, counted, counted_leb, inline_text, text_offset, present, in_abbreviation, form_in_front, supplementary, unlisted}
use Rattle.dw_base.specs.Lebs.{uleb_at, sleb_at}
use Rattle.dw_base.specs.Numbers.{number_at, spelled}
use Rattle.dw_base.specs.Texts.{text, has_nul, ends_in, text_in}
use Rattle.dw_base.specs.Values.{value_of, number_value, leb_value_at, signed_value_at, block_value, counted_value, counted_leb_value, text_value, bare_value, offset_class, signed_bits}
use Rattle.dw_base.specs.declared.shared.Order.{Order}
use Rattle.dw_base.specs.declared.values.Value.{Value}
use Rattle.dw_base.specs.declared.values.ValueClass.{ValueClass}
use Rattle.dw_base.proofs.LebLaws.{uleb_at-append, uleb_at-drop, sleb_at-drop}
use Rattle.dw_base.proofs.NumberLaws.{spelled-drop}
use Rattle.dw_meaning.proofs.ScanPieceLaws.{bytes_of-drop}
use Rattle.dw_base.proofs.UnitEditLaws.{length-bytes_of}
use Rattle.dw_base.proofs.UnitHeaderLaws.{bytes_of-append}
use Rattle.dw_base.proofs.ValueLaws.{value_of-append}

-- a value of this size stands at a place
pub record Stands (k : ValueKind) (o : Order) (bytes : List ℕ) (place : ℕ) (implicit : ℤ) (size : ℕ) : Type 0 where
  pub value : Value
  pub is : value_of k o bytes place implicit ≡ Some value
  pub same : value.size ≡ size

abbrev size_read : Option Value → ℕ
size_read None = 0
size_read (Some v) = v.size

abbrev is_read : Option Value → Bool
is_read None = false
is_read (Some v) = true

-- two values that are read or not together, of one size
record Together (a b : Option Value) : Type 0 where
  read : is_read a ≡ is_read b
  size : size_read a ≡ size_read b

together-some : (a b : Option Value) (v : Value) → Together a b → a ≡ Some v → (w : Value) × (b ≡ Some w) × (w.size ≡ v.size)
together-some a None v t e =
    let yes : is_read a ≡ true = ap is_read e in
    absurd (clash (sym yes ∙ t.read))
  where
    clash : true ≡ false → ⊥
    clash f = cc
together-some a (Some w) v t e = (w, refl, sym t.size ∙ ap size_read e)

not_le : (m n : ℕ) → n < m → nat_le m n ≡ false
not_le m n lt = grind (arith, lt)

-- what lies behind a place is read at the place
number-same : (o : Order) (bytes : List ℕ) (place n : ℕ) → place ≤ length bytes → number_at o (drop place bytes) 0 n ≡ number_at o bytes place n
unfolding number_at
number-same o bytes place n h = by_room (nat_le (0 + n) (length (drop place bytes))) refl
  where
    by_room : (b : Bool) → nat_le (0 + n) (length (drop place bytes)) ≡ b
        → (if b then Some (spelled o (drop place bytes) 0 n) else None) ≡ (if nat_le (place + n) (length bytes) then Some (spelled o bytes place n) else None)
    by_room true is =
        let zero_ : place + 0 ≡ place = omega arith in
        rw (le-leb (place + n) (length bytes) (omega (arith, h, leb-true _ _ is, length-drop place bytes)))
        (ap (λ (x : ℕ). Some x) (spelled-drop o bytes place 0 n ∙ ap (λ (k : ℕ). spelled o bytes k n) zero_))
    by_room false is = rw (not_le (place + n) (length bytes) (omega (arith, h, leb-false _ _ is, length-drop place bytes))) refl

uleb-same : (bytes : List ℕ) (place : ℕ) → uleb_at (drop place bytes) 0 ≡ uleb_at bytes place
uleb-same bytes place = uleb_at-drop bytes place 0 ∙ ap (uleb_at bytes) (omega arith)

sleb-same : (bytes : List ℕ) (place : ℕ) → sleb_at (drop place bytes) 0 ≡ sleb_at bytes place
sleb-same bytes place = sleb_at-drop bytes place 0 ∙ ap (sleb_at bytes) (omega arith)

number-together : (class : ValueClass) (n place : ℕ) (a b : Option ℕ) → a ≡ b → Together (number_value class 0 n a) (number_value class place n b)
number-together class n place None b e = rw (sym e) (record { read = refl; size = refl })
number-together class n place (Some v) b e = rw (sym e) (record { read = refl; size = refl })

leb-together : (class : ValueClass) (place : ℕ) (a b : Option (ℕ × ℕ)) → a ≡ b → Together (leb_value_at class 0 a) (leb_value_at class place b)
leb-together class place None b e = rw (sym e) (record { read = refl; size = refl })
leb-together class place (Some v) b e = rw (sym e) (record { read = refl; size = refl })

signed-together : (place : ℕ) (a b : Option (ℤ × ℕ)) → a ≡ b → Together (signed_value_at 0 a) (signed_value_at place b)
signed-together place None b e = rw (sym e) (record { read = refl; size = refl })
signed-together place (Some v) b e = rw (sym e) (record { read = refl; size = refl })

block-together : (bytes : List ℕ) (place front n : ℕ) → place ≤ length bytes → Together (block_value (drop place bytes) 0 front n) (block_value bytes place front n)
block-together bytes place front n h = by_room (nat_le (0 + front + n) (length (drop place bytes))) refl
  where
    by_room : (b : Bool) → nat_le (0 + front + n) (length (drop place bytes)) ≡ b
        → Together (if b then Some (record { class = Bytes; number = 0; at = 0 + front; len = n; size = front + n }) else None) (block_value bytes place front n)
    by_room true is =
        rw (le-leb (place + front + n) (length bytes) (omega (arith, h, leb-true _ _ is, length-drop place bytes))) (record { read = refl; size = refl })
    by_room false is = rw (not_le (place + front + n) (length bytes) (omega (arith, h, leb-false _ _ is, length-drop place bytes))) (record { read = refl; size = refl })

counted-together : (bytes : List ℕ) (place n : ℕ) (a b : Option ℕ) → place ≤ length bytes → a ≡ b
    → Together (counted_value (drop place bytes) 0 n a) (counted_value bytes place n b)
counted-together bytes place n None b h e = rw (sym e) (record { read = refl; size = refl })
counted-together bytes place n (Some v) b h e = rw (sym e) (block-together bytes place n v h)

counted_leb-together : (bytes : List ℕ) (place : ℕ) (a b : Option (ℕ × ℕ)) → place ≤ length bytes → a ≡ b
    → Together (counted_leb_value (drop place bytes) 0 a) (counted_leb_value bytes place b)
counted_leb-together bytes place None b h e = rw (sym e) (record { read = refl; size = refl })
counted_leb-together bytes place (Some v) b h e = rw (sym e) (block-together bytes place v.1 v.0 h)

text-together : (bytes : List ℕ) (place : ℕ) → Together (text_value (drop place bytes) 0) (text_value bytes place)
unfolding ends_in text_in
text-together bytes place = by_nul (has_nul (drop place bytes))
  where
    by_nul : (b : Bool) → Together
        (if b then Some (record { class = InlineText; number = 0; at = 0; len = length (text (drop place bytes)); size = length (text (drop place bytes)) + 1 }) else None)
        (if b then Some (record { class = InlineText; number = 0; at = place; len = length (text (drop place bytes)); size = length (text (drop place bytes)) + 1 }) else None)
    by_nul true = record { read = refl; size = refl }
    by_nul false = record { read = refl; size = refl }

bare-together : (bytes : List ℕ) (place : ℕ) (class : ValueClass) (n : ℕ) → place ≤ length bytes → Together (bare_value (drop place bytes) 0 class n) (bare_value bytes place class n)
bare-together bytes place class n h =
    rw (le-leb place (length bytes) h, le-leb 0 (length (drop place bytes)) (omega arith)) (record { read = refl; size = refl })

both : (k : ValueKind) (o : Order) (bytes : List ℕ) (place : ℕ) (i : ℤ) → place ≤ length bytes
    → Together (value_of k o (drop place bytes) 0 i) (value_of k o bytes place i)
unfolding value_of
both (number_of class n) o bytes place i h = number-together class n place _ _ (number-same o bytes place n h)
both (text_offset table n) o bytes place i h = number-together (offset_class table) n place _ _ (number-same o bytes place n h)
both (leb_number class) o bytes place i h = leb-together class place _ _ (uleb-same bytes place)
both signed_leb o bytes place i h = signed-together place _ _ (sleb-same bytes place)
both (block_of n) o bytes place i h = block-together bytes place 0 n h
both (counted n) o bytes place i h = counted-together bytes place n _ _ h (number-same o bytes place n h)
both counted_leb o bytes place i h = counted_leb-together bytes place _ _ h (uleb-same bytes place)
both inline_text o bytes place i h = text-together bytes place
both present o bytes place i h = bare-together bytes place Flag 1 h
both in_abbreviation o bytes place i h = bare-together bytes place Signed (signed_bits i) h
both form_in_front o bytes place i h = record { read = refl; size = refl }
both supplementary o bytes place i h = record { read = refl; size = refl }
both unlisted o bytes place i h = record { read = refl; size = refl }

-- where a piece stands: its cells and others behind it are those from a place of the section on, in the unit
pub record Placed (cells p rest : List Cell) (place end : ℕ) : Type 0 where
  pub stands : p ++ rest ≡ drop place cells
  pub before : place + length p ≤ end
  pub within : end ≤ length cells

-- the bytes of the unit from there on begin with the piece's
pub unit-front : (cells p rest : List Cell) (place end : ℕ) → Placed cells p rest place end
    → drop place (take end (bytes_of cells)) ≡ bytes_of p ++ take (end - place - length p) (bytes_of rest)
unit-front cells p rest place end h =
    let before : place + length p ≤ end = h.before in
    let split : end ≡ place + (end - place) = omega (arith, h.before) in
    let bytes : drop place (bytes_of cells) ≡ bytes_of p ++ bytes_of rest =
    sym (bytes_of-drop place cells) ∙ ap bytes_of (sym h.stands) ∙ bytes_of-append p rest in
    let size : length (bytes_of p) ≡ length p = length-bytes_of p in
    let rest_size : end - place ≡ length (bytes_of p) + (end - place - length p) = omega (arith, h.before, size) in
    ap (λ (n : ℕ). drop place (take n (bytes_of cells))) split ∙ drop-take place (end - place) (bytes_of cells)
    ∙ ap (take (end - place)) bytes ∙ ap (λ (n : ℕ). take n (bytes_of p ++ bytes_of rest)) rest_size
    ∙ take-append-add (bytes_of p) (bytes_of rest) (end - place - length p)

place-inside : (cells p rest : List Cell) (place end : ℕ) → Placed cells p rest place end → place ≤ length (take end (bytes_of cells))
place-inside cells p rest place end h = omega (arith, h.before, h.within, length-take end (bytes_of cells), length-bytes_of cells)

-- so a number that fills the piece stands there
pub number-paste : (cells p rest : List Cell) (place end v n : ℕ) → Placed cells p rest place end → uleb_at (bytes_of p) 0 ≡ Some (v, n)
    → uleb_at (take end (bytes_of cells)) place ≡ Some (v, n)
number-paste cells p rest place end v n h e =
    sym (uleb-same (take end (bytes_of cells)) place) ∙ ap (λ (bs : List ℕ). uleb_at bs 0) (unit-front cells p rest place end h)
    ∙ uleb_at-append (bytes_of p) (take (end - place - length p) (bytes_of rest)) 0 (v, n) (omega arith) e

-- and so does a value
pub value-paste : (k : ValueKind) (o : Order) (cells p rest : List Cell) (place end : ℕ) (i : ℤ) (v : Value) → Placed cells p rest place end
    → value_of k o (bytes_of p) 0 i ≡ Some v → Stands k o (take end (bytes_of cells)) place i v.size
value-paste k o cells p rest place end i v h e =
    let front : value_of k o (drop place (take end (bytes_of cells))) 0 i ≡ Some v =
    ap (λ (bs : List ℕ). value_of k o bs 0 i) (unit-front cells p rest place end h)
    ∙ value_of-append k o (bytes_of p) (take (end - place - length p) (bytes_of rest)) i v e in
    let there = together-some (value_of k o (drop place (take end (bytes_of cells))) 0 i) (value_of k o (take end (bytes_of cells)) place i) v
    (both k o (take end (bytes_of cells)) place i (place-inside cells p rest place end h)) front in
    record { value = there.0; is = there.1; same = there.2 }
