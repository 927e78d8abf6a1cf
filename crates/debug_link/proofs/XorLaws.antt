-- Laws of sums over the field of two elements, and of a remainder times x: it adds up term by term.
use Rattle.std.proofs.Common.{◌≡◌, ℕ, zero, suc, ◌+◌, ◌*◌, ◌/◌, ◌%◌, ◌^◌, ◌<◌, ◌==◌, if◌then◌else◌, refl, sym, ap, ◌∙◌, arith, bit_xor}
use Rattle.std.proofs.Math.Nat.{pow-suc, mul_assoc}
use Rattle.std.proofs.lemmas.Nat.{xor_comm, xor_shr, xor_mod, xor_block, shr_split, mod_below, pow_pos}
use Rattle.std.specs.Int.Bits.{xor_assoc, xor_self, xor_zero_r}
use Rattle.debug_link.specs.Sums.{divisor, times_x, with_bits}
use Rattle.debug_link.specs.Tables.{times}

-- the order of four terms
xor-middle : (a b c d : ℕ) → bit_xor (bit_xor a b) (bit_xor c d) ≡ bit_xor (bit_xor a c) (bit_xor b d)
xor-middle a b c d =
    let inner : bit_xor b (bit_xor c d) ≡ bit_xor c (bit_xor b d) =
    sym (xor_assoc b c d) ∙ ap (λ (x : ℕ). bit_xor x d) (xor_comm b c) ∙ xor_assoc c b d in
    xor_assoc a b (bit_xor c d) ∙ ap (bit_xor a) inner ∙ sym (xor_assoc a c (bit_xor b d))

-- a number is the sum of its low digits and the others
pub digits-xor : (k q r : ℕ) → r < 2 ^ k → q * 2 ^ k + r ≡ bit_xor r (q * 2 ^ k)
digits-xor k q r small =
    let low : 0 * 2 ^ k + r ≡ r = omega arith in
    let high : q * 2 ^ k + 0 ≡ q * 2 ^ k = omega arith in
    let both : bit_xor (0 * 2 ^ k + r) (q * 2 ^ k + 0) ≡ bit_xor 0 q * 2 ^ k + bit_xor r 0 = xor_block k 0 q r 0 small (pow_pos k) in
    sym (sym (ap (λ (x : ℕ). bit_xor x (q * 2 ^ k)) low) ∙ sym (ap (bit_xor (0 * 2 ^ k + r)) high) ∙ both ∙ ap (λ (x : ℕ). q * 2 ^ k + x) (xor_zero_r r))

pub number-xor : (k n : ℕ) → n ≡ bit_xor (n % 2 ^ k) (n / 2 ^ k * 2 ^ k)
number-xor k n = sym (shr_split n k) ∙ digits-xor k (n / 2 ^ k) (n % 2 ^ k) (mod_below n (2 ^ k) (pow_pos k))

-- times x, by the two lowest terms
times_x-cases : (x y da db : ℕ) → da < 2 → db < 2
    → (if bit_xor da db == 1 then bit_xor (bit_xor x y) divisor else bit_xor x y)
    ≡ bit_xor (if da == 1 then bit_xor x divisor else x) (if db == 1 then bit_xor y divisor else y)
times_x-cases x y zero zero p q = refl
times_x-cases x y zero (suc zero) p q = xor_assoc x y divisor
times_x-cases x y (suc zero) zero p q = xor_assoc x y divisor ∙ ap (bit_xor x) (xor_comm y divisor) ∙ sym (xor_assoc x divisor y)
times_x-cases x y (suc zero) (suc zero) p q =
    sym (xor-middle x divisor y divisor ∙ ap (bit_xor (bit_xor x y)) (xor_self divisor) ∙ xor_zero_r (bit_xor x y))
times_x-cases x y (suc (suc n)) db p q = absurd (omega arith)
times_x-cases x y zero (suc (suc n)) p q = absurd (omega arith)
times_x-cases x y (suc zero) (suc (suc n)) p q = absurd (omega arith)

pub times_x-xor : (a b : ℕ) → times_x (bit_xor a b) ≡ bit_xor (times_x a) (times_x b)
times_x-xor a b =
    let low : bit_xor a b % 2 ≡ bit_xor (a % 2) (b % 2) = xor_mod a b 1 in
    let high : bit_xor a b / 2 ≡ bit_xor (a / 2) (b / 2) = xor_shr a b 1 in
    rw (low, high) (times_x-cases (a / 2) (b / 2) (a % 2) (b % 2) (mod_below a 2 (omega arith)) (mod_below b 2 (omega arith)))

pub times-xor : (n a b : ℕ) → times n (bit_xor a b) ≡ bit_xor (times n a) (times n b)
times-xor zero a b = refl
times-xor (suc n) a b = ap (times n) (times_x-xor a b) ∙ times-xor n (times_x a) (times_x b)

-- times x so many times, and then so many times more
pub times-add : (m n r : ℕ) → times (m + n) r ≡ times n (times m r)
times-add zero n r = let e : 0 + n ≡ n = omega arith in ap (λ (k : ℕ). times k r) e
times-add (suc m) n r = let e : suc m + n ≡ suc (m + n) = omega arith in ap (λ (k : ℕ). times k r) e ∙ times-add m n (times_x r)

pub times-more : (n r : ℕ) → times (n + 1) r ≡ times_x (times n r)
times-more n r = times-add n 1 r

-- where there are no low terms, times x is a shift
times_x-shift : (q : ℕ) → times_x (q * 2) ≡ q
times_x-shift q =
    let low : q * 2 % 2 ≡ 0 = omega arith in
    let high : q * 2 / 2 ≡ q = omega arith in
    rw (low, high) refl

pub times-shift : (n q : ℕ) → times n (q * 2 ^ n) ≡ q
times-shift zero q = omega arith
times-shift (suc n) q =
    let e : q * 2 ^ suc n ≡ q * 2 ^ n * 2 = ap (λ (x : ℕ). q * x) (pow-suc 2 n) ∙ sym (mul_assoc q (2 ^ n) 2) in
    ap (times (suc n)) e ∙ ap (times n) (times_x-shift (q * 2 ^ n)) ∙ times-shift n q

-- a remainder times x to the power of n, by its low n digits and the others
pub times-split : (n r : ℕ) → times n r ≡ bit_xor (times n (r % 2 ^ n)) (r / 2 ^ n)
times-split n r =
    ap (times n) (number-xor n r) ∙ times-xor n (r % 2 ^ n) (r / 2 ^ n * 2 ^ n) ∙ ap (bit_xor (times n (r % 2 ^ n))) (times-shift n (r / 2 ^ n))

-- bit by bit, or all bits added first
pub with_bits-times : (n byte r : ℕ) → byte < 2 ^ n → with_bits n byte r ≡ times n (bit_xor r byte)
with_bits-times zero byte r small = let e : byte ≡ 0 = omega arith in sym (ap (bit_xor r) e ∙ xor_zero_r r)
with_bits-times (suc n) byte r small =
    let half : byte / 2 < 2 ^ n = omega (arith, small, pow-suc 2 n) in
    let whole : byte ≡ bit_xor (byte % 2) (byte / 2 * 2) = number-xor 1 byte in
    let added : bit_xor r byte ≡ bit_xor (bit_xor r (byte % 2)) (byte / 2 * 2) =
    ap (bit_xor r) whole ∙ sym (xor_assoc r (byte % 2) (byte / 2 * 2)) in
    let next : times_x (bit_xor r byte) ≡ bit_xor (times_x (bit_xor r (byte % 2))) (byte / 2) =
    ap times_x added ∙ times_x-xor (bit_xor r (byte % 2)) (byte / 2 * 2) ∙ ap (bit_xor (times_x (bit_xor r (byte % 2)))) (times_x-shift (byte / 2)) in
    with_bits-times n (byte / 2) (times_x (bit_xor r (byte % 2))) half ∙ ap (times n) (sym next)
