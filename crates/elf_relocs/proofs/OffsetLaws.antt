-- Laws of offsets that fields say by their relocations: what is computed modulo 2^64 is what the field holds.
use Rattle.std.proofs.Common.{◌≡◌, ◌≢◌, ◌⊎◌, inl, inr, ℕ, ℤ, zero, suc, pos, negsuc, ◌+◌, ◌-◌, ◌%◌, ◌^◌, ◌<◌, Bool, true, false, ◌==◌, nat_lt, if◌then◌else◌, List, [], ◌∷◌, length, take, slice_index, Option, Some, None, refl, sym, ap, ◌∙◌, arith}
use Rattle.std.specs.Bool.{⊤}
use Rattle.std.specs.Prelude.{◌+ℤ◌, ◌-ℤ◌}
use Rattle.std.specs.Int.{w64, cast_signed, cast_unsigned}
use Rattle.std.specs.Int.RustNames.{FitsSigned}
use Rattle.std.proofs.lemmas.Bool.{ltb-true, ltb-false}
use Rattle.dw_base.specs.Cells.{Cell, Relocation, bytes_of, first_relocation, with_bytes, wrapped}
use Rattle.dw_base.specs.Elf.{word_size}
use Rattle.dw_base.specs.Numbers.{number_bytes, spelled}
use Rattle.dw_base.specs.Relocs.{word_width}
use Rattle.dw_base.specs.SectionRelocations.{RelocationSource, relocation_of, target_of}
use Rattle.dw_base.specs.Symbols.{symbol_at}
use Rattle.dw_base.specs.NewOffsets.{by_addend, moved_relocation, symbol_value, with_offset, with_offset_by, with_relocation}
use Rattle.dw_base.specs.declared.relocations.Reloc.{Reloc}
use Rattle.dw_base.specs.declared.shared.Order.{Order}
use Rattle.dw_base.proofs.NumberLaws.{length-number_bytes, number_bytes-spelled}
use Rattle.dw_base.proofs.OffsetPutLaws.{bytes_of-with_bytes, first-with_bytes}
use Rattle.elf_relocs.specs.FieldOffsets.{addend_by, field_number, number_by, offset_addend}

-- by the record's relocation
pub number-is : (g : RelocationSource) (r : Reloc) (size x n y value : ℕ) → value ≡ symbol_value (target_of (symbol_at g.class g.order g.symbols g.extended r.symbol))
    → y ≡ number_by r.addend value size x n → y ≡ field_number (relocation_of g r) size x n
unfolding relocation_of
number-is g r size x n y value value_is is = is ∙ ap (λ (v : ℕ). number_by r.addend v size x n) value_is

pub ruleset number_rules = (number-is)

pub addend-is : (g : RelocationSource) (r : Reloc) (size n value : ℕ) (o : Option ℤ) → value ≡ symbol_value (target_of (symbol_at g.class g.order g.symbols g.extended r.symbol))
    → o ≡ addend_by g.class r.addend value size n → o ≡ offset_addend (relocation_of g r) size n
unfolding relocation_of
addend-is g r size n value o value_is is = is ∙ ap (λ (v : ℕ). addend_by g.class r.addend v size n) value_is

pub ruleset addend_rules = (addend-is)

-- a difference modulo 2^64 is one modulo less
less-eight : (n v : ℕ) → n < 2 ^ 64 → v < 2 ^ 64 → (n + (2 ^ 64 - v)) % 2 ^ 64 ≡ wrapped (pos n -ℤ pos v) 8
less-eight n zero n_lt v_lt = omega (arith, n_lt)
less-eight n (suc v) n_lt v_lt = own (nat_lt n (suc v)) refl
  where
    own : (t : Bool) → nat_lt n (suc v) ≡ t → (n + (2 ^ 64 - suc v)) % 2 ^ 64 ≡ wrapped (if t then negsuc (suc v - suc n) else pos (n - suc v)) 8
    own true e = let lt = ltb-true n (suc v) e in omega (arith, lt, n_lt, v_lt)
    own false e = let le = ltb-false n (suc v) e in omega (arith, le, n_lt, v_lt)

less-four : (n v : ℕ) → n < 2 ^ 64 → v < 2 ^ 64 → (n + (2 ^ 64 - v)) % 2 ^ 64 % 2 ^ 32 ≡ wrapped (pos n -ℤ pos v) 4
less-four n zero n_lt v_lt = omega (arith, n_lt)
less-four n (suc v) n_lt v_lt = own (nat_lt n (suc v)) refl
  where
    own : (t : Bool) → nat_lt n (suc v) ≡ t → (n + (2 ^ 64 - suc v)) % 2 ^ 64 % 2 ^ 32 ≡ wrapped (if t then negsuc (suc v - suc n) else pos (n - suc v)) 4
    own true e = let lt = ltb-true n (suc v) e in omega (arith, lt, n_lt, v_lt)
    own false e = let le = ltb-false n (suc v) e in omega (arith, le, n_lt, v_lt)

pub difference-four : (n v size x : ℕ) → n < 2 ^ 64 → v < 2 ^ 64 → size ≡ 4 → x ≡ (n + (2 ^ 64 - v)) % 2 ^ 64 → x % 4294967296 ≡ wrapped (pos n -ℤ pos v) size
difference-four n v size x n_lt v_lt four is = rw (four, is) (less-four n v n_lt v_lt)

pub difference-whole : (n v size x : ℕ) → n < 2 ^ 64 → v < 2 ^ 64 → (size ≡ 4) ⊎ (size ≡ 8) → size ≢ 4 → x ≡ (n + (2 ^ 64 - v)) % 2 ^ 64
    → x ≡ wrapped (pos n -ℤ pos v) size
difference-whole n v size x n_lt v_lt (inl four) other is = absurd (other four)
difference-whole n v size x n_lt v_lt (inr eight) other is = rw eight (is ∙ less-eight n v n_lt v_lt)

pub ruleset difference_rules = (difference-four, difference-whole)

-- and so is a sum
more-eight : (v : ℕ) (a : ℤ) → v < 2 ^ 64 → FitsSigned w64 a → (v + cast_unsigned w64 a) % 2 ^ 64 ≡ wrapped (pos v +ℤ a) 8
more-eight v (pos n) v_lt fits = refl
more-eight v (negsuc k) v_lt fits = own (nat_lt v (suc k)) refl
  where
    own : (t : Bool) → nat_lt v (suc k) ≡ t → (v + (2 ^ 64 - suc k)) % 2 ^ 64 ≡ wrapped (if t then negsuc (suc k - suc v) else pos (v - suc k)) 8
    own true e = let lt = ltb-true v (suc k) e in let low = fits.sfits in omega (arith, lt, low, v_lt)
    own false e = let le = ltb-false v (suc k) e in let low = fits.sfits in omega (arith, le, low, v_lt)

more-four : (v : ℕ) (a : ℤ) → v < 2 ^ 64 → FitsSigned w64 a → (v + cast_unsigned w64 a) % 2 ^ 64 % 2 ^ 32 ≡ wrapped (pos v +ℤ a) 4
more-four v (pos n) v_lt fits = omega arith
more-four v (negsuc k) v_lt fits = own (nat_lt v (suc k)) refl
  where
    own : (t : Bool) → nat_lt v (suc k) ≡ t → (v + (2 ^ 64 - suc k)) % 2 ^ 64 % 2 ^ 32 ≡ wrapped (if t then negsuc (suc k - suc v) else pos (v - suc k)) 4
    own true e = let lt = ltb-true v (suc k) e in let low = fits.sfits in omega (arith, lt, low, v_lt)
    own false e = let le = ltb-false v (suc k) e in let low = fits.sfits in omega (arith, le, low, v_lt)

pub sum-four : (v size x : ℕ) (a : ℤ) → v < 2 ^ 64 → FitsSigned w64 a → size ≡ 4 → x ≡ (v + cast_unsigned w64 a) % 2 ^ 64 → x % 4294967296 ≡ wrapped (pos v +ℤ a) size
sum-four v size x a v_lt fits four is = rw (four, is) (more-four v a v_lt fits)

pub sum-whole : (v size x : ℕ) (a : ℤ) → v < 2 ^ 64 → FitsSigned w64 a → (size ≡ 4) ⊎ (size ≡ 8) → size ≢ 4 → x ≡ (v + cast_unsigned w64 a) % 2 ^ 64
    → x ≡ wrapped (pos v +ℤ a) size
sum-whole v size x a v_lt fits (inl four) other is = absurd (other four)
sum-whole v size x a v_lt fits (inr eight) other is = rw eight (is ∙ more-eight v a v_lt fits)

pub ruleset sum_rules = (sum-four, sum-whole)

-- the bytes of a field that says another offset
moved-bytes : (p : List Cell) (q : Relocation) → bytes_of (with_relocation p q) ≡ bytes_of p
moved-bytes [] q = refl
moved-bytes (c ∷ cs) q = refl

length-bytes : (p : List Cell) → length (bytes_of p) ≡ length p
length-bytes [] = refl
length-bytes (c ∷ cs) = ap suc (length-bytes cs)

-- its bytes spell the number,
pub bytes_of-put : (o : Order) (p : List Cell) (r : Relocation) (n : ℕ) → first_relocation p ≡ Some r → ((k : ℕ) → slice_index (bytes_of p) k < 256)
    → bytes_of (with_offset o p n) ≡ number_bytes o (length p) (field_number r (length p) (spelled o (bytes_of p) 0 (length p)) n)
unfolding with_offset
bytes_of-put o p r n first small = ap (λ (f : Option Relocation). bytes_of (with_offset_by f o p n)) first ∙ by_record r.addend
  where
    kept : bytes_of p ≡ number_bytes o (length p) (spelled o (bytes_of p) 0 (length p))
    kept = sym (number_bytes-spelled o (bytes_of p) 0 (length p) small (omega (arith, length-bytes p)) ∙ whole p)
      where
        whole : (q : List Cell) → take (length q) (bytes_of q) ≡ bytes_of q
        whole [] = refl
        whole (c ∷ cs) = ap (λ (l : List ℕ). c.byte ∷ l) (whole cs)

    by_same : (b : Bool) → bytes_of (if b then p else with_relocation p (moved_relocation r n)) ≡ bytes_of p
    by_same true = refl
    by_same false = moved-bytes p (moved_relocation r n)

    by_record : (a : Option ℤ) → bytes_of (by_addend a o r p n)
        ≡ number_bytes o (length p) (number_by a (symbol_value r.target) (length p) (spelled o (bytes_of p) 0 (length p)) n)
    by_record None =
        bytes_of-with_bytes p (number_bytes o (length p) (wrapped (pos n -ℤ pos (symbol_value r.target)) (length p)))
        (length-number_bytes o (length p) (wrapped (pos n -ℤ pos (symbol_value r.target)) (length p)))
    by_record (Some a) = by_same (wrapped (pos (symbol_value r.target) +ℤ a) (length p) == n) ∙ kept

-- and the relocation that begins at it has the addend
moved-first : (p : List Cell) (r q : Relocation) → first_relocation p ≡ Some r → first_relocation (with_relocation p q) ≡ Some q
moved-first [] r q e = absurd cc
moved-first (c ∷ cs) r q e = refl

own-addend : (r : Relocation) (a : Option ℤ) → r.addend ≡ a → r ≡ record r { addend = a }
own-addend r a e = ap (λ (b : Option ℤ). record r { addend = b }) e

pub first-put : (o : Order) (p : List Cell) (r : Relocation) (n : ℕ) → first_relocation p ≡ Some r
    → first_relocation (with_offset o p n) ≡ Some (record r { addend = offset_addend r (length p) n })
unfolding with_offset
first-put o p r n first = ap (λ (f : Option Relocation). first_relocation (with_offset_by f o p n)) first ∙ by_record r.addend refl
  where
    by_same : (a : ℤ) (b : Bool) → r.addend ≡ Some a
        → first_relocation (if b then p else with_relocation p (moved_relocation r n))
        ≡ Some (record r { addend = if b then Some a else Some (cast_signed (word_width r.class) (wrapped (pos n -ℤ pos (symbol_value r.target)) (word_size r.class))) })
    by_same a true own = first ∙ ap Some (own-addend r (Some a) own)
    by_same a false own = moved-first p r (moved_relocation r n) first

    by_record : (a : Option ℤ) → r.addend ≡ a → first_relocation (by_addend a o r p n)
        ≡ Some (record r { addend = addend_by r.class a (symbol_value r.target) (length p) n })
    by_record None own =
        first-with_bytes p (number_bytes o (length p) (wrapped (pos n -ℤ pos (symbol_value r.target)) (length p))) ∙ first ∙ ap Some (own-addend r None own)
    by_record (Some a) own = by_same a (wrapped (pos (symbol_value r.target) +ℤ a) (length p) == n) own

-- Behind the first cell nothing begins anew.
abbrev pub SameRelocations : List Cell → List Cell → Type 0
SameRelocations [] [] = ⊤
SameRelocations [] (d ∷ ds) = ⊥
SameRelocations (c ∷ cs) [] = ⊥
SameRelocations (c ∷ cs) (d ∷ ds) = (d.relocation ≡ c.relocation) × SameRelocations cs ds

pub same-self : (p : List Cell) → SameRelocations p p
same-self [] = tt
same-self (c ∷ cs) = (refl, same-self cs)

pub same-bytes : (p : List Cell) (bs : List ℕ) → SameRelocations p (with_bytes p bs)
same-bytes [] bs = tt
same-bytes (c ∷ cs) [] = same-self (c ∷ cs)
same-bytes (c ∷ cs) (b ∷ bs) = (refl, same-bytes cs bs)

-- cells of which the first may have another relocation
pub record SameBehind (c : Cell) (cs q : List Cell) : Type 0 where
  pub first : Cell
  pub rest : List Cell
  pub is : q ≡ first ∷ rest
  pub same : SameRelocations cs rest

behind-self : (c : Cell) (cs : List Cell) → SameBehind c cs (c ∷ cs)
behind-self c cs = record { first = c; rest = cs; is = refl; same = same-self cs }

behind-bytes : (c : Cell) (cs : List Cell) (bs : List ℕ) → SameBehind c cs (with_bytes (c ∷ cs) bs)
behind-bytes c cs [] = behind-self c cs
behind-bytes c cs (b ∷ bs) = record { first = record c { byte = b }; rest = with_bytes cs bs; is = refl; same = same-bytes cs bs }

pub behind-put : (o : Order) (c : Cell) (cs : List Cell) (n : ℕ) → SameBehind c cs (with_offset o (c ∷ cs) n)
unfolding with_offset
behind-put o c cs n = by_first c.relocation
  where
    by_same : (r : Relocation) (b : Bool) → SameBehind c cs (if b then c ∷ cs else with_relocation (c ∷ cs) (moved_relocation r n))
    by_same r true = behind-self c cs
    by_same r false = record { first = record c { relocation = Some (moved_relocation r n) }; rest = cs; is = refl; same = same-self cs }

    by_record : (r : Relocation) (a : Option ℤ) → SameBehind c cs (by_addend a o r (c ∷ cs) n)
    by_record r None = behind-bytes c cs (number_bytes o (length (c ∷ cs)) (wrapped (pos n -ℤ pos (symbol_value r.target)) (length (c ∷ cs))))
    by_record r (Some a) = by_same r (wrapped (pos (symbol_value r.target) +ℤ a) (length (c ∷ cs)) == n)

    by_first : (f : Option Relocation) → SameBehind c cs (with_offset_by f o (c ∷ cs) n)
    by_first None = behind-bytes c cs (number_bytes o (length (c ∷ cs)) n)
    by_first (Some r) = by_record r r.addend

-- nor does one begin where none began
pub none-put : (o : Order) (p : List Cell) (n : ℕ) → first_relocation p ≡ None → first_relocation (with_offset o p n) ≡ None
unfolding with_offset
none-put o p n none =
    ap (λ (f : Option Relocation). first_relocation (with_offset_by f o p n)) none ∙ first-with_bytes p (number_bytes o (length p) n) ∙ none
