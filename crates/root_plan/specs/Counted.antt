-- How often each build-id came so far, as a program counts it.
use Rattle.std.specs.Prelude.{◌≡◌, ◌≢◌, ℕ, ◌+◌, if◌then◌else◌, List, length, Vec}
use Rattle.std.specs.declared.alloc.Global.{Global}
use Rattle.std.specs.Option.{unwrap_or}
use Rattle.std.specs.Map.{lookup}
use Rattle.std.specs.Str.{bytes_eq}
use Rattle.dw_base.specs.Texts.{same_text}
use Rattle.work_texts.specs.declared.plan.JobLine.{JobLine}
use Rattle.root_plan.specs.Tallies.{count_of_id}

-- the count of a build-id: 0 where it isn't counted yet
abbrev pub count_in : List (Vec ℕ Global × ℕ) → List ℕ → ℕ
count_in entries id = unwrap_or (lookup (λ k. bytes_eq id k.items) entries) 0

-- each build-id that isn't empty is counted as often as jobs have it
pub record AreCounted (entries : List (Vec ℕ Global × ℕ)) (jobs : List JobLine) : Type 0 where
  pub counted : (id : List ℕ) → length id ≢ 0 → count_in entries id ≡ count_of_id jobs id

-- one file more with this build-id is counted
pub record CountsOneMore (old new : List (Vec ℕ Global × ℕ)) (id : List ℕ) : Type 0 where
  pub counts : (q : List ℕ) → length q ≢ 0 → count_in new q ≡ count_in old q + (if same_text q id then 1 else 0)
