-- Where the first bad field of a text stands. This project's profile: fields are good where some text of
-- the kind begins with them, and a field is bad where the fields before it are good and it isn't good
-- behind them. Where the text ends too early, the field that isn't whole or isn't there is bad.
use Rattle.std.specs.Prelude.{ℕ, ◌≡◌, ◌≤◌, ◌<◌, List, [], ◌∷◌, ◌++◌, length, ◌⊎◌}
use Rattle.work_texts.specs.declared.journal_err.JournalErr.{JournalErr}
use Rattle.work_texts.specs.declared.journal_err.JournalErr.TheVariants as err
use Rattle.work_texts.specs.declared.journal_err.WorkFile.TheVariants as file
use Rattle.work_texts.specs.Fields.{Field, text_of, plan_text_fields, finished_fields}
use Rattle.work_texts.specs.Rules.{IsVersionedPlan, IsFinished, text_limit}

-- some text of a kind begins with these fields; a kind is the fields of each value, and which values fit
abbrev pub Begins : {X : Type 0} → (X → List Field) → (X → Type 0) → List Field → Type 0
Begins {X} fields Fits good = (x : X) × (more : List Field) × Fits x × (fields x ≡ good ++ more)

-- the first bad field begins at the place
pub record FirstBad {X : Type 0} (fields : X → List Field) (Fits : X → Type 0) (bytes : List ℕ) (at : ℕ) : Type 0 where
  -- the fields before it, and the bytes from its place on
  pub good : List Field
  pub bad : List ℕ
  pub parts : bytes ≡ text_of good ++ bad
  pub place : at ≡ length (text_of good)
  -- the fields before it begin a text of the kind, and the bytes aren't the whole of one
  pub begins : Begins fields Fits good
  pub unwhole : (x : X) → Fits x → (bytes ≡ text_of (fields x)) → ⊥
  -- with the field that stands at the place they begin none
  pub no_field : (f : Field) (behind : List ℕ) → (bad ≡ f ++ 0 ∷ behind) → Begins fields Fits (good ++ f ∷ []) → ⊥

-- the place of the first bad field; a text over the limit is bad at the limit
abbrev pub IsBadAt : {X : Type 0} → (X → List Field) → (X → Type 0) → List ℕ → ℕ → Type 0
IsBadAt fields Fits bytes at =
    ((text_limit < length bytes) × (at ≡ text_limit)) ⊎ ((length bytes ≤ text_limit) × FirstBad fields Fits bytes at)

-- why bytes aren't read as the text `plan`
abbrev pub PlanBlames : List ℕ → JournalErr → Type 0
PlanBlames bytes (err.PlanText file.Plan at) = IsBadAt plan_text_fields IsVersionedPlan bytes at
PlanBlames bytes (err.PlanText file.Finished at) = ⊥
PlanBlames bytes err.NoMemory = Unit {0}
PlanBlames bytes (err.OtherRun field kept given) = ⊥
PlanBlames bytes (err.Changed path planned found) = ⊥
PlanBlames bytes (err.Refused path refusal) = ⊥
PlanBlames bytes err.Tree = ⊥

-- why bytes aren't read as the text `finished`
abbrev pub FinishedBlames : List ℕ → JournalErr → Type 0
FinishedBlames bytes (err.PlanText file.Finished at) = IsBadAt finished_fields IsFinished bytes at
FinishedBlames bytes (err.PlanText file.Plan at) = ⊥
FinishedBlames bytes err.NoMemory = Unit {0}
FinishedBlames bytes (err.OtherRun field kept given) = ⊥
FinishedBlames bytes (err.Changed path planned found) = ⊥
FinishedBlames bytes (err.Refused path refusal) = ⊥
FinishedBlames bytes err.Tree = ⊥
