-- No unit of a generated file has more variables than 16.
use Rattle.std.proofs.Common.{◌≡◌, ℕ, ◌+◌, ◌*◌, ◌/◌, ◌%◌, ◌^◌, ◌≤◌, inl, inr, length, slice_index, arith}
use Rattle.std.proofs.lemmas.Bool.{cases_lt}
use Rattle.std.proofs.lemmas.List.{get_or_past}
use Rattle.dw_base.specs.Lists.{tabulate}
use Rattle.dw_base.proofs.ListLaws.{get_or-tabulate, length-tabulate}
use Rattle.dbg_gen.specs.Asked.{AreFew}
use Rattle.dbg_gen.specs.VariableCounts.{state_after, variable_count, variable_counts}

four-bits : (x : ℕ) → 1 + x % 2 ^ 64 / 2 ^ 60 ≤ 16
four-bits x = omega arith

count-few : (seed unit : ℕ) → variable_count seed unit ≤ 16
count-few seed unit = four-bits (state_after seed unit * 6364136223846793005 + 1442695040888963407)

pub counts-few : (seed units : ℕ) → AreFew (variable_counts seed units)
unfolding variable_counts
counts-few seed units = record { each = λ i. one i }
  where
    one : (i : ℕ) → slice_index (tabulate (variable_count seed) units) i ≤ 16
    one i =
        elim (cases_lt i units) [
          | inl inside ↦
              let few = count-few seed i in
              omega (arith, few, get_or-tabulate (variable_count seed) units i 0 inside)
          | inr outside ↦ omega (arith, get_or_past (tabulate (variable_count seed) units) i 0 (omega (arith, outside, length-tabulate (variable_count seed) units)))
        ]

pub length-counts : (seed units : ℕ) → length (variable_counts seed units) ≡ units
unfolding variable_counts
length-counts seed units = length-tabulate (variable_count seed) units
