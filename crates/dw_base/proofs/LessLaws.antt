-- The order of numbers, as a test.
use Rattle.std.proofs.Common.{◌≡◌, ℕ, ◌<◌, ◌≤◌, true, false, nat_lt, sym, ◌∙◌, arith, inl, inr}
use Rattle.std.proofs.lemmas.Bool.{cases_lt, lt-ltb, ltb-true}

-- a number that isn't less is so much at least
pub not-less : (a b : ℕ) → nat_lt a b ≡ false → b ≤ a
not-less a b d = elim (cases_lt a b) [
  | inl lt ↦
      let never : false ≡ true = sym d ∙ lt-ltb a b lt in
      absurd cc
  | inr le ↦ le
]

-- what is less than a number that is less than a third is less than that
pub less-on : (a b c : ℕ) → nat_lt a b ≡ true → nat_lt b c ≡ true → nat_lt a c ≡ true
less-on a b c d e = let x : a < b = ltb-true a b d in let y : b < c = ltb-true b c e in lt-ltb a c (omega (arith, x, y))

-- and where neither is less the first isn't less than the third
pub less-back : (a b c : ℕ) → nat_lt a b ≡ false → nat_lt b c ≡ false → nat_lt a c ≡ true → false ≡ true
less-back a b c d e f =
    let x : b ≤ a = not-less a b d in
    let y : a < c = ltb-true a c f in
    let z : b < c = omega (arith, x, y) in
    sym e ∙ lt-ltb b c z
