-- How many variables each unit of a generated file has: by a linear congruential generator modulo 2^64, whose state begins
-- as the seed. This project's profile.
use Rattle.std.specs.Prelude.{ℕ, zero, suc, ◌+◌, ◌*◌, ◌%◌, ◌/◌, ◌^◌, List}
use Rattle.dw_base.specs.Lists.{tabulate}

-- the state after one step
abbrev pub stepped : ℕ → ℕ
stepped x = (x * 6364136223846793005 + 1442695040888963407) % 2 ^ 64

-- the state after so many steps
abbrev pub state_after : ℕ → ℕ → ℕ
state_after seed zero = seed
state_after seed (suc n) = stepped (state_after seed n)

-- how many variables a unit has: 1 and the highest four bits of the state, after one step for each unit up to this one
abbrev pub variable_count : ℕ → ℕ → ℕ
variable_count seed unit = 1 + state_after seed (suc unit) / 2 ^ 60

-- how many each of so many units has
unfoldable pub variable_counts : ℕ → ℕ → List ℕ
variable_counts seed units = tabulate (variable_count seed) units
