-- Laws of relocations that are written: they read back, and the others read as before.
use Rattle.std.proofs.Common.{Bool, true, false, ◌≡◌, ◌≢◌, ℕ, ℤ, pos, negsuc, ◌+◌, ◌*◌, ◌^◌, ◌<◌, ◌≤◌, ◌⊎◌, inl, inr, List, length, Option, Some, None, refl, ap, ◌∙◌, arith, if◌then◌else◌, nat_le}
use Rattle.std.specs.Prelude.{option_map, IfSome}
use Rattle.std.specs.Int.{w32, w64, cast_signed, cast_unsigned}
use Rattle.std.specs.Int.RustNames.{FitsSigned}
use Rattle.std.proofs.lemmas.Int.{to_z-of_z}
use Rattle.std.proofs.lemmas.Bool.{cases_lt, leb-true}
use Rattle.dw_base.specs.declared.shared.Order.{Order}
use Rattle.dw_base.specs.declared.shared.Class.{Class}
use Rattle.dw_base.specs.declared.shared.Class.TheVariants.{C32, C64}
use Rattle.dw_base.specs.Elf.{word_size}
use Rattle.dw_base.specs.Numbers.{spelled, with_number}
use Rattle.dw_base.proofs.NumberLaws.{length-with_number, spelled-with_number, spelled-other}
use Rattle.dw_base.specs.declared.relocations.Reloc.{Reloc}
use Rattle.dw_base.specs.Relocs.{reloc_size, word_width, reloc_of, reloc_in, reloc_at}
use Rattle.dw_base.specs.RelocChanges.{written, RelocFits, with_both, with_reloc, moved}

-- a signed number of 4 or 8 bytes, in two's complement, is one of as many bytes
word-lt : (z : ℤ) → FitsSigned w32 z → cast_unsigned w32 z < 256 ^ 4
word-lt (pos n) fits = let low = fits.sfits in omega arith
word-lt (negsuc n) fits = omega arith

long-lt : (z : ℤ) → FitsSigned w64 z → cast_unsigned w64 z < 256 ^ 8
long-lt (pos n) fits = let low = fits.sfits in omega arith
long-lt (negsuc n) fits = omega arith

-- what lies outside of a range lies outside of a part of it
outside_part : (k m p n q s : ℕ) → p ≤ q → q + s ≤ p + n → (k + m ≤ p) ⊎ (p + n ≤ k) → (k + m ≤ q) ⊎ (q + s ≤ k)
outside_part k m p n q s low high (inl before) = inl (omega arith)
outside_part k m p n q s low high (inr behind) = inr (omega arith)

-- and so does a part of it
part_outside : (r t k m p n : ℕ) → r ≤ k → k + m ≤ r + t → (r + t ≤ p) ⊎ (p + n ≤ r) → (k + m ≤ p) ⊎ (p + n ≤ k)
part_outside r t k m p n low high (inl before) = inl (omega arith)
part_outside r t k m p n low high (inr behind) = inr (omega arith)

-- a table keeps its length where a relocation is written
length-with_both : (c : Class) (o : Order) (rela : Bool) (b : List ℕ) (place offset : ℕ) (addend : Option ℤ) → place + reloc_size c rela ≤ length b
    → length (with_both c o b place offset (written rela addend)) ≡ length b
length-with_both C32 o false b place offset addend inside = length-with_number o b place 4 offset (omega arith)
length-with_both C64 o false b place offset addend inside = length-with_number o b place 8 offset (omega arith)
length-with_both C32 o true b place offset None inside = length-with_number o b place 4 offset (omega arith)
length-with_both C64 o true b place offset None inside = length-with_number o b place 8 offset (omega arith)
length-with_both C32 o true b place offset (Some a) inside =
    let first = length-with_number o b place 4 offset (omega arith) in
    length-with_number o (with_number o b place 4 offset) (place + 8) 4 (cast_unsigned w32 a) (omega arith) ∙ first
length-with_both C64 o true b place offset (Some a) inside =
    let first = length-with_number o b place 8 offset (omega arith) in
    length-with_number o (with_number o b place 8 offset) (place + 16) 8 (cast_unsigned w64 a) (omega arith) ∙ first

-- and so it does where one of a number is
pub length-with_reloc : (c : Class) (o : Order) (rela : Bool) (b : List ℕ) (index offset : ℕ) (addend : Option ℤ) → RelocFits c rela b index offset addend
    → length (with_reloc c o rela b index offset addend) ≡ length b
unfolding with_reloc
length-with_reloc c o rela b index offset addend fits =
    length-with_both c o rela b (index * reloc_size c rela) offset addend (leb-true _ _ fits.inside)

-- a number outside of the relocation that is written stays
spelled-with_both : (c : Class) (o : Order) (rela : Bool) (b : List ℕ) (place offset : ℕ) (addend : Option ℤ) (k m : ℕ)
    → place + reloc_size c rela ≤ length b → (k + m ≤ place) ⊎ (place + reloc_size c rela ≤ k)
    → spelled o (with_both c o b place offset (written rela addend)) k m ≡ spelled o b k m
spelled-with_both C32 o false b place offset addend k m inside out =
    spelled-other o b place 4 offset k m (omega arith) (outside_part k m place 8 place 4 (omega arith) (omega arith) out)
spelled-with_both C64 o false b place offset addend k m inside out =
    spelled-other o b place 8 offset k m (omega arith) (outside_part k m place 16 place 8 (omega arith) (omega arith) out)
spelled-with_both C32 o true b place offset None k m inside out =
    spelled-other o b place 4 offset k m (omega arith) (outside_part k m place 12 place 4 (omega arith) (omega arith) out)
spelled-with_both C64 o true b place offset None k m inside out =
    spelled-other o b place 8 offset k m (omega arith) (outside_part k m place 24 place 8 (omega arith) (omega arith) out)
spelled-with_both C32 o true b place offset (Some a) k m inside out =
    let first = length-with_number o b place 4 offset (omega arith) in
    spelled-other o (with_number o b place 4 offset) (place + 8) 4 (cast_unsigned w32 a) k m (omega arith)
    (outside_part k m place 12 (place + 8) 4 (omega arith) (omega arith) out)
    ∙ spelled-other o b place 4 offset k m (omega arith) (outside_part k m place 12 place 4 (omega arith) (omega arith) out)
spelled-with_both C64 o true b place offset (Some a) k m inside out =
    let first = length-with_number o b place 8 offset (omega arith) in
    spelled-other o (with_number o b place 8 offset) (place + 16) 8 (cast_unsigned w64 a) k m (omega arith)
    (outside_part k m place 24 (place + 16) 8 (omega arith) (omega arith) out)
    ∙ spelled-other o b place 8 offset k m (omega arith) (outside_part k m place 24 place 8 (omega arith) (omega arith) out)

-- relocations of equal words are equal
reloc_of-same : (c : Class) (x y i j : ℕ) (a b : Option ℤ) → x ≡ y → i ≡ j → a ≡ b → reloc_of c x i a ≡ reloc_of c y j b
reloc_of-same c x y i j a b e f g = rw (e, f, g) refl

-- a relocation elsewhere reads as before
reloc_in-other : (c : Class) (o : Order) (rela : Bool) (b : List ℕ) (place offset : ℕ) (addend : Option ℤ) (r : ℕ)
    → place + reloc_size c rela ≤ length b → (r + reloc_size c rela ≤ place) ⊎ (place + reloc_size c rela ≤ r)
    → reloc_in c o rela (with_both c o b place offset (written rela addend)) r ≡ reloc_in c o rela b r
reloc_in-other C32 o false b place offset addend r inside out =
    reloc_of-same C32 _ _ _ _ None None
    (spelled-with_both C32 o false b place offset addend r 4 inside (part_outside r 8 r 4 place 8 (omega arith) (omega arith) out))
    (spelled-with_both C32 o false b place offset addend (r + 4) 4 inside (part_outside r 8 (r + 4) 4 place 8 (omega arith) (omega arith) out))
    refl
reloc_in-other C64 o false b place offset addend r inside out =
    reloc_of-same C64 _ _ _ _ None None
    (spelled-with_both C64 o false b place offset addend r 8 inside (part_outside r 16 r 8 place 16 (omega arith) (omega arith) out))
    (spelled-with_both C64 o false b place offset addend (r + 8) 8 inside (part_outside r 16 (r + 8) 8 place 16 (omega arith) (omega arith) out))
    refl
reloc_in-other C32 o true b place offset addend r inside out =
    reloc_of-same C32 _ _ _ _ _ _
    (spelled-with_both C32 o true b place offset addend r 4 inside (part_outside r 12 r 4 place 12 (omega arith) (omega arith) out))
    (spelled-with_both C32 o true b place offset addend (r + 4) 4 inside (part_outside r 12 (r + 4) 4 place 12 (omega arith) (omega arith) out))
    (ap (λ (n : ℕ). Some (cast_signed w32 n))
    (spelled-with_both C32 o true b place offset addend (r + 8) 4 inside (part_outside r 12 (r + 8) 4 place 12 (omega arith) (omega arith) out)))
reloc_in-other C64 o true b place offset addend r inside out =
    reloc_of-same C64 _ _ _ _ _ _
    (spelled-with_both C64 o true b place offset addend r 8 inside (part_outside r 24 r 8 place 24 (omega arith) (omega arith) out))
    (spelled-with_both C64 o true b place offset addend (r + 8) 8 inside (part_outside r 24 (r + 8) 8 place 24 (omega arith) (omega arith) out))
    (ap (λ (n : ℕ). Some (cast_signed w64 n))
    (spelled-with_both C64 o true b place offset addend (r + 16) 8 inside (part_outside r 24 (r + 16) 8 place 24 (omega arith) (omega arith) out)))

-- a relocation that was written reads back
reloc_in-back : (c : Class) (o : Order) (rela : Bool) (b : List ℕ) (place offset : ℕ) (addend : Option ℤ)
    → place + reloc_size c rela ≤ length b → offset < 256 ^ word_size c → IfSome (written rela addend) (FitsSigned (word_width c))
    → reloc_in c o rela (with_both c o b place offset (written rela addend)) place ≡ moved offset addend (reloc_in c o rela b place)
reloc_in-back C32 o false b place offset addend inside low fits =
    reloc_of-same C32 _ _ _ _ None None (spelled-with_number o b place 4 offset (omega arith) low)
    (spelled-other o b place 4 offset (place + 4) 4 (omega arith) (inr (omega arith))) refl
reloc_in-back C64 o false b place offset addend inside low fits =
    reloc_of-same C64 _ _ _ _ None None (spelled-with_number o b place 8 offset (omega arith) low)
    (spelled-other o b place 8 offset (place + 8) 8 (omega arith) (inr (omega arith))) refl
reloc_in-back C32 o true b place offset None inside low fits =
    reloc_of-same C32 _ _ _ _ _ _ (spelled-with_number o b place 4 offset (omega arith) low)
    (spelled-other o b place 4 offset (place + 4) 4 (omega arith) (inr (omega arith)))
    (ap (λ (n : ℕ). Some (cast_signed w32 n)) (spelled-other o b place 4 offset (place + 8) 4 (omega arith) (inr (omega arith))))
reloc_in-back C64 o true b place offset None inside low fits =
    reloc_of-same C64 _ _ _ _ _ _ (spelled-with_number o b place 8 offset (omega arith) low)
    (spelled-other o b place 8 offset (place + 8) 8 (omega arith) (inr (omega arith)))
    (ap (λ (n : ℕ). Some (cast_signed w64 n)) (spelled-other o b place 8 offset (place + 16) 8 (omega arith) (inr (omega arith))))
reloc_in-back C32 o true b place offset (Some a) inside low fits =
    let now : List ℕ = with_number o b place 4 offset in
    let n : ℕ = cast_unsigned w32 a in
    let first = length-with_number o b place 4 offset (omega arith) in
    reloc_of-same C32 _ _ _ _ _ _
    (spelled-other o now (place + 8) 4 n place 4 (omega arith) (inl (omega arith)) ∙ spelled-with_number o b place 4 offset (omega arith) low)
    (spelled-other o now (place + 8) 4 n (place + 4) 4 (omega arith) (inl (omega arith))
    ∙ spelled-other o b place 4 offset (place + 4) 4 (omega arith) (inr (omega arith)))
    (ap (λ (n : ℕ). Some (cast_signed w32 n)) (spelled-with_number o now (place + 8) 4 n (omega arith) (word-lt a fits))
    ∙ ap (λ (z : ℤ). Some z) (to_z-of_z w32 a fits))
reloc_in-back C64 o true b place offset (Some a) inside low fits =
    let now : List ℕ = with_number o b place 8 offset in
    let n : ℕ = cast_unsigned w64 a in
    let first = length-with_number o b place 8 offset (omega arith) in
    reloc_of-same C64 _ _ _ _ _ _
    (spelled-other o now (place + 16) 8 n place 8 (omega arith) (inl (omega arith)) ∙ spelled-with_number o b place 8 offset (omega arith) low)
    (spelled-other o now (place + 16) 8 n (place + 8) 8 (omega arith) (inl (omega arith))
    ∙ spelled-other o b place 8 offset (place + 8) 8 (omega arith) (inr (omega arith)))
    (ap (λ (n : ℕ). Some (cast_signed w64 n)) (spelled-with_number o now (place + 16) 8 n (omega arith) (long-lt a fits))
    ∙ ap (λ (z : ℤ). Some z) (to_z-of_z w64 a fits))

-- two records of a table lie apart
apart : (c : Class) (rela : Bool) (k i : ℕ) → k ≢ i
    → (k * reloc_size c rela + reloc_size c rela ≤ i * reloc_size c rela) ⊎ (i * reloc_size c rela + reloc_size c rela ≤ k * reloc_size c rela)
apart C32 false k i other = elim (cases_lt k i) [ inl below ↦ inl (omega arith) | inr above ↦ inr (omega arith) ]
apart C32 true k i other = elim (cases_lt k i) [ inl below ↦ inl (omega arith) | inr above ↦ inr (omega arith) ]
apart C64 false k i other = elim (cases_lt k i) [ inl below ↦ inl (omega arith) | inr above ↦ inr (omega arith) ]
apart C64 true k i other = elim (cases_lt k i) [ inl below ↦ inl (omega arith) | inr above ↦ inr (omega arith) ]

-- one and the same test before equal values
same_if : (s t : Bool) (x y : Reloc) → s ≡ t → x ≡ y → (if s then Some x else None) ≡ (if t then Some y else None)
same_if s t x y e f = rw (e, f) refl

-- a relocation that was written reads back
pub reads_back : (c : Class) (o : Order) (rela : Bool) (b : List ℕ) (index offset : ℕ) (addend : Option ℤ) → RelocFits c rela b index offset addend
    → reloc_at c o rela (with_reloc c o rela b index offset addend) index ≡ option_map (moved offset addend) (reloc_at c o rela b index)
unfolding reloc_at with_reloc
reads_back c o rela b index offset addend fits =
    let inside : index * reloc_size c rela + reloc_size c rela ≤ length b = leb-true _ _ fits.inside in
    let long = length-with_both c o rela b (index * reloc_size c rela) offset addend inside in
    let there = ap (λ (n : ℕ). nat_le (index * reloc_size c rela + reloc_size c rela) n) long ∙ fits.inside in
    rw (there, fits.inside)
    (ap (λ (r : Reloc). Some r) (reloc_in-back c o rela b (index * reloc_size c rela) offset addend inside fits.offset_fits fits.addend_fits))

-- the other relocations read as before
pub others_stay : (c : Class) (o : Order) (rela : Bool) (b : List ℕ) (index offset : ℕ) (addend : Option ℤ) → RelocFits c rela b index offset addend
    → (k : ℕ) → k ≢ index → reloc_at c o rela (with_reloc c o rela b index offset addend) k ≡ reloc_at c o rela b k
unfolding reloc_at with_reloc
others_stay c o rela b index offset addend fits k other =
    let inside : index * reloc_size c rela + reloc_size c rela ≤ length b = leb-true _ _ fits.inside in
    let long = length-with_both c o rela b (index * reloc_size c rela) offset addend inside in
    same_if _ _ _ _ (ap (λ (n : ℕ). nat_le (k * reloc_size c rela + reloc_size c rela) n) long)
    (reloc_in-other c o rela b (index * reloc_size c rela) offset addend (k * reloc_size c rela) inside (apart c rela k index other))

-- the same of a table that is known by an equation
pub back_now : (c : Class) (o : Order) (rela : Bool) (b now : List ℕ) (index offset : ℕ) (addend : Option ℤ) → now ≡ with_reloc c o rela b index offset addend
    → RelocFits c rela b index offset addend → reloc_at c o rela now index ≡ option_map (moved offset addend) (reloc_at c o rela b index)
back_now c o rela b now index offset addend e fits = rw e (reads_back c o rela b index offset addend fits)

pub others_now : (c : Class) (o : Order) (rela : Bool) (b now : List ℕ) (index offset : ℕ) (addend : Option ℤ) (k : ℕ) → now ≡ with_reloc c o rela b index offset addend
    → RelocFits c rela b index offset addend → k ≢ index → reloc_at c o rela now k ≡ reloc_at c o rela b k
others_now c o rela b now index offset addend k e fits other = rw e (others_stay c o rela b index offset addend fits k other)

pub ruleset set_rules = (back_now, others_now)
