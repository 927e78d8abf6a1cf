-- A text as a whole, as the readers inside answer it: by how many bytes are left at the first bad field.
use Rattle.std.specs.Prelude.{ℕ, ◌≡◌, ◌≤◌, ◌-◌, List, length, Result}
use Rattle.work_texts.specs.declared.stop.Stop.{Stop}
use Rattle.work_texts.specs.declared.stop.Stop.TheVariants as stop
use Rattle.work_texts.specs.Fields.{Field, text_of}
use Rattle.work_texts.specs.BadFields.{FirstBad}
use Rattle.work_texts.specs.Reading.{Reading, ◌>>=◌, ended}

-- the bytes are the text of a value that fits
pub record IsWhole {X : Type 0} (fields : X → List Field) (Fits : X → Type 0) (bytes : List ℕ) (x : X) : Type 0 where
  pub fits : Fits x
  pub text : bytes ≡ text_of (fields x)

-- so many bytes are left at the first bad field
pub record Stopped {X : Type 0} (fields : X → List Field) (Fits : X → Type 0) (bytes : List ℕ) (left : ℕ) : Type 0 where
  pub within : left ≤ length bytes
  pub bad : FirstBad fields Fits bytes (length bytes - left)

abbrev pub StopBlames : {X : Type 0} → (X → List Field) → (X → Type 0) → List ℕ → Stop → Type 0
StopBlames fields Fits bytes stop.NoMemory = Unit {0}
StopBlames fields Fits bytes (stop.Field left) = Stopped fields Fits bytes left

-- the whole of what a reader reads: nothing stands behind it
abbrev pub all_of : {X : Type 0} → Reading X → Result X ℕ
all_of reading = reading >>= ended
