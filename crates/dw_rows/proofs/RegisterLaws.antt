-- Laws of operations within instructions, and of addresses of 64 bits.
use Rattle.std.proofs.Common.{◌≡◌, ℕ, ◌+◌, ◌*◌, ◌/◌, ◌%◌, ◌^◌, ◌<◌, sym, ap, ◌∙◌, arith}
use Rattle.std.proofs.lemmas.Nat.{div-mul-add, mod-mul-add, mod_below, div-add-mod'}
use Rattle.std.proofs.Math.Nat.{add-mul, mul_comm, mod-add-mod, add_comm}
use Rattle.std.proofs.lemmas.Nat.{mul-mod_first}

whole-sum : (ax bx ab vm sm v i : ℕ) → ab ≡ ax + bx → ax + vm ≡ v → bx + sm ≡ i + vm → ab + sm ≡ i + v
whole-sum ax bx ab vm sm v i s a b = omega (arith, s, a, b)

-- operations from the start of the open instruction on, as whole instructions and what is left
split-sum : (i v x : ℕ) → (v / x + (i + v % x) / x) * x + (i + v % x) % x ≡ i + v
split-sum i v x =
    whole-sum (v / x * x) ((i + v % x) / x * x) ((v / x + (i + v % x) / x) * x) (v % x) ((i + v % x) % x) v i
    (add-mul (v / x) ((i + v % x) / x) x) (div-add-mod' v x) (div-add-mod' (i + v % x) x)

pub open-div : (i v x : ℕ) → 0 < x → v / x + (i + v % x) / x ≡ (i + v) / x
open-div i v x some =
    sym (div-mul-add (v / x + (i + v % x) / x) x ((i + v % x) % x) (mod_below (i + v % x) x some)) ∙ ap (λ (n : ℕ). n / x) (split-sum i v x)

pub open-mod : (i v x : ℕ) → 0 < x → (i + v % x) % x ≡ (i + v) % x
open-mod i v x some =
    sym (mod-mul-add (v / x + (i + v % x) / x) x ((i + v % x) % x) (mod_below (i + v % x) x some)) ∙ ap (λ (n : ℕ). n % x) (split-sum i v x)

pub open-count : (i v x : ℕ) → 0 < x → (v / x + (i + v % x) / x) % 2 ^ 64 ≡ (i + v) / x % 2 ^ 64
open-count i v x some = ap (λ (n : ℕ). n % 2 ^ 64) (open-div i v x some)

pub ruleset advance_laws = (open-count, open-mod, mod_below)

add-mod : (a b w : ℕ) → (a + b % w) % w ≡ (a + b) % w
add-mod a b w = ap (λ (n : ℕ). n % w) (add_comm a (b % w)) ∙ mod-add-mod b w a ∙ ap (λ (n : ℕ). n % w) (add_comm b a)

mul-mod : (a b w : ℕ) → (a * (b % w)) % w ≡ (a * b) % w
mul-mod a b w = ap (λ (n : ℕ). n % w) (mul_comm a (b % w)) ∙ mul-mod_first b a w ∙ ap (λ (n : ℕ). n % w) (mul_comm b a)

wrapped-sum : (a m n w : ℕ) → (a + (m * (n % w)) % w) % w ≡ (a + m * n) % w
wrapped-sum a m n w = ap (λ (k : ℕ). (a + k) % w) (mul-mod m n w) ∙ add-mod a (m * n) w

pub address-behind : (a m n count : ℕ) → count ≡ n % 2 ^ 64 → (a + (m * count) % 2 ^ 64) % 2 ^ 64 ≡ (a + m * n) % 2 ^ 64
address-behind a m n count e = ap (λ (k : ℕ). (a + (m * k) % 2 ^ 64) % 2 ^ 64) e ∙ wrapped-sum a m n (2 ^ 64)

pub ruleset address_laws = (address-behind)
