-- Walks by steps, each of which is a function of the state: to a state, or to what the walk comes to.
use Rattle.std.specs.Prelude.{◌≡◌, ℕ, zero, suc, Option, Some, None, option_and_then, Result, Ok, Err}
use Rattle.dw_base.specs.declared.fault.Refusal.{Refusal}

-- a step: to a further state, or to the end
pub data Step (S X : Type 0) : Type 0 where
  goes : S → Step S X
  ends : X → Step S X

-- the states that steps from a state lead to
pub data Walks {S X : Type 0} (step : S → Option (Step S X)) (start : S) : S → Type 0 where
  no_step : Walks step start start
  one_more : (s t : S) → Walks step start s → step s ≡ Some (goes t) → Walks step start t

-- a walk from a state comes to this
pub record ComesTo {S X : Type 0} (step : S → Option (Step S X)) (start : S) (x : X) : Type 0 where
  pub last : S
  pub walks : Walks step start last
  pub over : step last ≡ Some (ends x)

-- a walk from a state leads to one from which no step can be made
pub record Breaks {S X : Type 0} (step : S → Option (Step S X)) (start : S) : Type 0 where
  pub last : S
  pub walks : Walks step start last
  pub none : step last ≡ None

-- what comes of so many steps from a state
abbrev pub steps : {S : Type 0} → (S → Option S) → ℕ → S → Option S
steps step zero s = Some s
steps step (suc n) s = option_and_then (steps step n) (step s)

abbrev pub or_refused : {S T E : Type 0} → (S → Result T E) → Result S E → Result T E
or_refused f (Ok s) = f s
or_refused f (Err r) = Err r

-- the same where a step may be refused
abbrev pub fallible_steps : {S E : Type 0} → (S → Result S E) → ℕ → S → Result S E
fallible_steps step zero s = Ok s
fallible_steps step (suc n) s = or_refused (fallible_steps step n) (step s)

-- a refusal is this one, since something holds
pub record Since (refusal : Refusal) (P : Type 0) (r : Refusal) : Type 0 where
  pub same : r ≡ refusal
  pub why : P
