-- A walk by steps comes to something or breaks, where each step goes on behind its place and before a limit.
use Rattle.std.proofs.Common.{◌≡◌, ℕ, zero, suc, ◌+◌, ◌<◌, ◌≤◌, Option, Some, None, refl, arith}
use Rattle.dw_base.specs.Walks.{Breaks, ComesTo, Step, Walks, ends, goes, no_step, one_more}

pub data WalkIs {S X : Type 0} (step : S → Option (Step S X)) (start : S) : Type 0 where
  comes : (x : X) → ComesTo step start x → WalkIs step start
  breaks : Breaks step start → WalkIs step start

-- the steps go forward
pub record Forward {S X : Type 0} (step : S → Option (Step S X)) (place : S → ℕ) (limit : ℕ) : Type 0 where
  pub behind : (s t : S) → step s ≡ Some (goes t) → place s < place t
  pub there : (s t : S) → step s ≡ Some (goes t) → place s < limit

-- from a state on, with as many steps as lie before the limit
walk-from : {S X : Type 0} (step : S → Option (Step S X)) (place : S → ℕ) (limit : ℕ) → Forward step place limit → (start : S) (steps : ℕ) (s : S) → limit ≤ place s + steps
    → Walks step start s → WalkIs step start
walk-from {S} {X} step place limit f start zero s enough w = by (step s) refl
  where
    by : (o : Option (Step S X)) → step s ≡ o → WalkIs step start
    by None e = breaks (record { last = s; walks = w; none = e })
    by (Some (ends x)) e = comes x (record { last = s; walks = w; over = e })
    by (Some (goes t)) e = let there : place s < limit = f.there s t e in absurd (omega (arith, enough, there))
walk-from {S} {X} step place limit f start (suc steps) s enough w =
    by (step s) refl
    (λ (t : S) (e : step s ≡ Some (goes t)).
    let behind : place s < place t = f.behind s t e in walk-from step place limit f start steps t (omega (arith, enough, behind)) (one_more s t w e))
  where
    by : (o : Option (Step S X)) → step s ≡ o → ((t : S) → step s ≡ Some (goes t) → WalkIs step start) → WalkIs step start
    by None e go = breaks (record { last = s; walks = w; none = e })
    by (Some (ends x)) e go = comes x (record { last = s; walks = w; over = e })
    by (Some (goes t)) e go = go t e

pub walk-decided : {S X : Type 0} (step : S → Option (Step S X)) (place : S → ℕ) (limit : ℕ) → Forward step place limit → (start : S) → WalkIs step start
walk-decided step place limit f start = walk-from step place limit f start limit start (omega arith) no_step
