-- A field, and the rest that goes by its value.
use Rattle.std.proofs.Common.{◌≡◌, ℕ, List, [], ◌∷◌, Option}
use Rattle.work_texts.specs.Fields.{Field}
use Rattle.work_texts.specs.Reading.{Reading, ◌>>=◌, value_at}
use Rattle.work_texts.proofs.Formats.{IsReader, then_reader}
use Rattle.work_texts.proofs.OneField.{IsSpelling, value_reader}

-- a field, and the reader of the rest that goes by its value
pub then_value : {A X : Type 0} (parse : Field → Option A) (spell : A → Field) (FA : A → Type 0) → IsSpelling parse spell FA
    → (first : X → A) (rest : X → List Field) (Fits : X → Type 0) (k : A → List ℕ → Reading X)
    → ((x : X) → Fits x → FA (first x)) → ((a : A) → FA a → IsReader rest (λ x. Fits x × (first x ≡ a)) (k a))
    → IsReader (λ x. spell (first x) ∷ rest x) Fits (λ bytes. value_at parse bytes >>= λ a. k a.0 a.1)
then_value parse spell FA s first rest Fits k has next =
    then_reader (λ a. spell a ∷ []) FA first rest Fits (value_at parse) k (record { reader = value_reader parse spell FA s; has = has; next = next })
