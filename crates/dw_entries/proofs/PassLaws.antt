-- The parts of a step make the step.
use Rattle.std.proofs.Common.{◌≡◌, ℕ, ◌+◌, ◌-◌, ◌≤◌, List, length, Some, None, ap, subst}
use Rattle.dw_base.specs.Lebs.{uleb_at, uleb, uleb_within}
use Rattle.std.proofs.lemmas.List.{drop_all}
use Rattle.dw_entries.specs.Passes.{Nulls, no_nulls, more_nulls, IsCode}

-- one more code of 0
pub null-more : (bytes : List ℕ) (from depth place open_lists code size : ℕ) → Nulls bytes from depth place open_lists
    → uleb_at bytes place ≡ Some (code, size) → code ≡ 0 → Nulls bytes from depth (place + size) (open_lists - 1)
null-more bytes from depth place open_lists code size n e zero_code =
    more_nulls place open_lists size n (subst (λ (k : ℕ). uleb_at bytes place ≡ Some (k, size)) zero_code e)

-- no code stands at the end
pub code-end : (bytes : List ℕ) (place : ℕ) → length bytes ≤ place → uleb_at bytes place ≡ None
unfolding uleb_at
code-end bytes place le = ap (λ (bs : List ℕ). uleb_within (uleb bs)) (drop_all place bytes le)

pub ruleset null_rules = (no_nulls, null-more, code-end)
