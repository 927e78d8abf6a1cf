-- An offset that is put into a field reads back, with a relocation and without one.
use Rattle.std.proofs.Common.{◌≡◌, ℕ, ℤ, zero, suc, pos, negsuc, ◌+◌, ◌-◌, ◌*◌, ◌/◌, ◌%◌, ◌^◌, ◌<◌, ◌≤◌, Bool, true, false, ◌==◌, nat_lt, if◌then◌else◌, List, [], ◌∷◌, length, Option, Some, None, refl, sym, ap, ◌∙◌, arith}
use Rattle.std.specs.Prelude.{◌+ℤ◌, ◌-ℤ◌, ⊤}
use Rattle.std.proofs.lemmas.Bool.{eqb-true, eq-eqb, ltb-true, ltb-false}
use Rattle.std.proofs.lemmas.List.{append-nil}
use native.Mathlib.Nat.{add-mod-mod, add-mod_right, add-mul-mod_self_right, div-add-mod', mod-eq_of_lt, mod-lt}
use Rattle.dw_base.specs.Cells.{Cell, Relocation, Located, addend_of, bytes_of, field_by, field_of, first_relocation, offset_into, offset_of, with_bytes, wrapped}
use Rattle.dw_base.specs.Numbers.{number_bytes, spelled}
use Rattle.dw_base.specs.NewOffsets.{by_addend, moved_addend, moved_relocation, symbol_value, with_offset, with_offset_by, with_relocation}
use Rattle.dw_base.specs.declared.shared.Order.{Order}
use Rattle.dw_base.specs.declared.view_fields.Field.TheVariants.{Into}
use Rattle.dw_base.proofs.NumberLaws.{length-number_bytes, spelled-number_bytes}
use Rattle.dw_base.proofs.RelocationFieldLaws.{field_by-into}

-- numbers modulo m: what is added to v so that it gives n, whether n is less or not
back-pos : (m n v : ℕ) → v ≤ n → n < m → (v + (n - v) % m) % m ≡ n
back-pos m n v le lt =
    let sum : v + (n - v) ≡ n = omega arith in
    add-mod-mod v (n - v) m ∙ ap (λ (k : ℕ). k % m) sum ∙ mod-eq_of_lt lt

back-neg : (m n v : ℕ) → n < v → n < m → (v + (m - 1 - (v - suc n) % m)) % m ≡ n
back-neg m n v below lt =
    let k : ℕ = v - suc n in
    let parts : (v - suc n) / m * m + (v - suc n) % m ≡ v - suc n = div-add-mod' (v - suc n) m in
    let some : 0 < m = omega arith in
    let small : (v - suc n) % m < m = mod-lt (v - suc n) some in
    let sum : v + (m - 1 - (v - suc n) % m) ≡ n + m + (v - suc n) / m * m = omega (arith, parts, small) in
    ap (λ (x : ℕ). x % m) sum ∙ add-mul-mod_self_right (n + m) ((v - suc n) / m) m ∙ add-mod_right n m ∙ mod-eq_of_lt lt

-- the number in a field without an addend in its record
pub wrapped-back : (n v size : ℕ) → n < 256 ^ size → wrapped (pos v +ℤ pos (wrapped (pos n -ℤ pos v) size)) size ≡ n
wrapped-back n zero size lt =
    let none : n + 0 ≡ n - 0 = omega arith in
    ap (λ (k : ℕ). (0 + k % 256 ^ size) % 256 ^ size) none ∙ back-pos (256 ^ size) n 0 (omega arith) lt
wrapped-back n (suc v) size lt = by_test (nat_lt n (suc v)) refl
  where
    by_test : (t : Bool) → nat_lt n (suc v) ≡ t → wrapped (pos (suc v) +ℤ pos (wrapped (if t then negsuc (suc v - suc n) else pos (n - suc v)) size)) size ≡ n
    by_test true t_is = back-neg (256 ^ size) n (suc v) (ltb-true n (suc v) t_is) lt
    by_test false t_is = back-pos (256 ^ size) n (suc v) (ltb-false n (suc v) t_is) lt

-- cells with other bytes, as many
pub bytes_of-with_bytes : (p : List Cell) (bs : List ℕ) → length bs ≡ length p → bytes_of (with_bytes p bs) ≡ bs
bytes_of-with_bytes [] [] e = refl
bytes_of-with_bytes [] (b ∷ bs) e = absurd (omega (arith, e))
bytes_of-with_bytes (c ∷ cs) [] e = absurd (omega (arith, e))
bytes_of-with_bytes (c ∷ cs) (b ∷ bs) e = ap (λ (l : List ℕ). b ∷ l) (bytes_of-with_bytes cs bs (omega (arith, e)))

pub length-with_bytes : (p : List Cell) (bs : List ℕ) → length (with_bytes p bs) ≡ length p
length-with_bytes [] bs = refl
length-with_bytes (c ∷ cs) [] = refl
length-with_bytes (c ∷ cs) (b ∷ bs) = ap suc (length-with_bytes cs bs)

pub first-with_bytes : (p : List Cell) (bs : List ℕ) → first_relocation (with_bytes p bs) ≡ first_relocation p
first-with_bytes [] bs = refl
first-with_bytes (c ∷ cs) [] = refl
first-with_bytes (c ∷ cs) (b ∷ bs) = refl

-- the field of cells with a number in them
put-field : (o : Order) (p : List Cell) (x : ℕ) → x < 256 ^ length p
    → field_of o (with_bytes p (number_bytes o (length p) x)) ≡ field_by (first_relocation p) (length p) x
unfolding field_of
put-field o p x fits =
    let bs : List ℕ = number_bytes o (length p) x in
    let whole : length (number_bytes o (length p) x) ≡ length p = length-number_bytes o (length p) x in
    let bytes : bytes_of (with_bytes p (number_bytes o (length p) x)) ≡ number_bytes o (length p) x = bytes_of-with_bytes p (number_bytes o (length p) x) whole in
    let size : length (with_bytes p (number_bytes o (length p) x)) ≡ length p = length-with_bytes p (number_bytes o (length p) x) in
    let back : spelled o (number_bytes o (length p) x) 0 (length p) ≡ x =
    ap (λ (l : List ℕ). spelled o l 0 (length p)) (sym (append-nil (number_bytes o (length p) x))) ∙ spelled-number_bytes o (length p) x [] fits in
    rw (first-with_bytes p (number_bytes o (length p) x), size, bytes, back) refl

-- what an offset needs to be put into a field: its relocation is of the field's size, and its symbol in the section; and it fits the
-- field, and the record's addend can make it
abbrev pub AddendFits : Option ℤ → Relocation → ℕ → ℕ → ℕ → Type 0
AddendFits None r v size n = ⊤
AddendFits (Some a) r v size n = wrapped (pos v +ℤ moved_addend r n) size ≡ n

pub record TakesOffset (z : Located) (r : Relocation) (size n : ℕ) : Type 0 where
  pub value : ℕ
  pub own : r.size ≡ Some size
  pub target : r.target ≡ Some (z.number, value)
  pub addend : AddendFits r.addend r value size n

abbrev pub PutsBy : Option Relocation → Located → ℕ → ℕ → Type 0
PutsBy None z size n = ⊤
PutsBy (Some r) z size n = TakesOffset z r size n

pub record CanPut (z : Located) (p : List Cell) (n : ℕ) : Type 0 where
  pub some : 0 < length p
  pub fits : n < 256 ^ length p
  pub by_relocation : PutsBy (first_relocation p) z (length p) n

-- a place in the section reads as its offset
into-own : (z : Located) (n : ℕ) → offset_into z (Into z.number n) ≡ n
into-own z n = own (z.number == z.number) (eq-eqb z.number z.number refl)
  where
    own : (b : Bool) → b ≡ true → (if b then n else length z.bytes) ≡ n
    own true e = refl
    own false e = absurd cc

-- a field by its relocation, with the number in it
into-field : (z : Located) (r : Relocation) (v size x n : ℕ) → r.size ≡ Some size → r.target ≡ Some (z.number, v)
    → wrapped (pos v +ℤ addend_of r.addend x) size ≡ n → offset_into z (field_by (Some r) size x) ≡ n
into-field z r v size x n own target is = ap (offset_into z) (field_by-into r (z.number, v) size x own target) ∙ into-own z (wrapped (pos v +ℤ addend_of r.addend x) size) ∙ is

wrapped-lt : (z : ℤ) (size : ℕ) → 0 < 256 ^ size → wrapped z size < 256 ^ size
wrapped-lt (pos n) size some = mod-lt n some
wrapped-lt (negsuc n) size some = omega arith

moved-first : (p : List Cell) (r q : Relocation) → first_relocation p ≡ Some r → first_relocation (with_relocation p q) ≡ Some q
moved-first [] r q e = absurd cc
moved-first (c ∷ cs) r q e = refl

moved-length : (p : List Cell) (q : Relocation) → length (with_relocation p q) ≡ length p
moved-length [] q = refl
moved-length (c ∷ cs) q = refl

-- the field of cells by their first relocation
field-by-first : (o : Order) (p : List Cell) (f : Option Relocation) → first_relocation p ≡ f → field_of o p ≡ field_by f (length p) (spelled o (bytes_of p) 0 (length p))
unfolding field_of
field-by-first o p f e = ap (λ (r : Option Relocation). field_by r (length p) (spelled o (bytes_of p) 0 (length p))) e

-- without an addend in the record
rel-put : (o : Order) (z : Located) (p : List Cell) (n v : ℕ) (r : Relocation) → first_relocation p ≡ Some r → r.addend ≡ None → r.size ≡ Some (length p)
    → r.target ≡ Some (z.number, v) → n < 256 ^ length p → offset_into z (field_of o (by_addend None o r p n)) ≡ n
rel-put o z p n v r e a_is own target fits =
    let x : ℕ = wrapped (pos n -ℤ pos (symbol_value r.target)) (length p) in
    let small : wrapped (pos n -ℤ pos (symbol_value r.target)) (length p) < 256 ^ length p =
    wrapped-lt (pos n -ℤ pos (symbol_value r.target)) (length p) (omega (arith, fits)) in
    ap (offset_into z)
    (put-field o p (wrapped (pos n -ℤ pos (symbol_value r.target)) (length p)) small
    ∙ ap (λ (f : Option Relocation). field_by f (length p) (wrapped (pos n -ℤ pos (symbol_value r.target)) (length p))) e)
    ∙ into-field z r v (length p) (wrapped (pos n -ℤ pos (symbol_value r.target)) (length p)) n own target
    (ap (λ (a : Option ℤ). wrapped (pos v +ℤ addend_of a (wrapped (pos n -ℤ pos (symbol_value r.target)) (length p))) (length p)) a_is
    ∙ ap (λ (t : Option (ℕ × ℕ)). wrapped (pos v +ℤ pos (wrapped (pos n -ℤ pos (symbol_value t)) (length p))) (length p)) target
    ∙ wrapped-back n v (length p) fits)

-- with one
rela-put : (o : Order) (z : Located) (p : List Cell) (n v : ℕ) (r : Relocation) (a : ℤ) → first_relocation p ≡ Some r → r.addend ≡ Some a → r.size ≡ Some (length p)
    → r.target ≡ Some (z.number, v) → wrapped (pos v +ℤ moved_addend r n) (length p) ≡ n → offset_into z (field_of o (by_addend (Some a) o r p n)) ≡ n
rela-put o z p n v r a e a_is own target makes = by_test (wrapped (pos (symbol_value r.target) +ℤ a) (length p) == n) refl
  where
    by_test : (t : Bool) → (wrapped (pos (symbol_value r.target) +ℤ a) (length p) == n) ≡ t
        → offset_into z (field_of o (if t then p else with_relocation p (moved_relocation r n))) ≡ n
    by_test true t_is =
        let x : ℕ = spelled o (bytes_of p) 0 (length p) in
        ap (offset_into z) (field-by-first o p (Some r) e)
        ∙ into-field z r v (length p) (spelled o (bytes_of p) 0 (length p)) n own target
        (ap (λ (b : Option ℤ). wrapped (pos v +ℤ addend_of b (spelled o (bytes_of p) 0 (length p))) (length p)) a_is
        ∙ ap (λ (t : Option (ℕ × ℕ)). wrapped (pos (symbol_value t) +ℤ a) (length p)) (sym target)
        ∙ eqb-true (wrapped (pos (symbol_value r.target) +ℤ a) (length p)) n t_is)
    by_test false t_is =
        let q : List Cell = with_relocation p (moved_relocation r n) in
        let size : length (with_relocation p (moved_relocation r n)) ≡ length p = moved-length p (moved_relocation r n) in
        ap (offset_into z)
        (field-by-first o (with_relocation p (moved_relocation r n)) (Some (moved_relocation r n)) (moved-first p r (moved_relocation r n) e)
        ∙ ap (λ (k : ℕ). field_by (Some (moved_relocation r n)) k (spelled o (bytes_of (with_relocation p (moved_relocation r n))) 0 k)) size)
        ∙ into-field z (moved_relocation r n) v (length p) (spelled o (bytes_of (with_relocation p (moved_relocation r n))) 0 (length p)) n own target makes

-- an offset that was put is read back
pub offset-put-any : (o : Order) (z : Located) (p : List Cell) (n : ℕ) → CanPut z p n → offset_of o z (with_offset o p n) ≡ n
unfolding offset_of with_offset
offset-put-any o z p n h = by_first (first_relocation p) refl h.by_relocation
  where
    by_record : (r : Relocation) (a : Option ℤ) → r.addend ≡ a → first_relocation p ≡ Some r → (t : TakesOffset z r (length p) n) → AddendFits a r t.value (length p) n
        → offset_into z (field_of o (by_addend a o r p n)) ≡ n
    by_record r None a_is e t fits = rel-put o z p n t.value r e a_is t.own t.target h.fits
    by_record r (Some a) a_is e t fits = rela-put o z p n t.value r a e a_is t.own t.target fits

    by_first : (f : Option Relocation) → first_relocation p ≡ f → PutsBy f z (length p) n → offset_into z (field_of o (with_offset_by f o p n)) ≡ n
    by_first None e t = ap (offset_into z) (put-field o p n h.fits ∙ ap (λ (f : Option Relocation). field_by f (length p) n) e)
    by_first (Some r) e t = by_record r r.addend refl e t t.addend
