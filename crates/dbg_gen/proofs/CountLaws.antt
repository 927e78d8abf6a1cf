-- The steps of the generator.
use Rattle.std.proofs.Common.{◌≡◌, ℕ, ◌+◌, ◌*◌, ◌%◌}
use native.Mathlib.Nat.{mod-add-mod}

pub step-wrapped : (x a c m : ℕ) → ((x * a) % m + c) % m ≡ (x * a + c) % m
step-wrapped x a c m = mod-add-mod (x * a) m c

pub ruleset step_laws = (step-wrapped)
