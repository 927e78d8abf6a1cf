-- Two keys: the first of their seven parts that differs, counted from 0.
use Rattle.std.specs.Prelude.{ℕ, ◌≡◌, ◌≢◌, ◌<◌, List, [], ◌∷◌, ◌++◌, get_or, map}
use Rattle.work_texts.specs.declared.key.RunKey.{RunKey}
use Rattle.work_texts.specs.declared.journal_err.JournalErr.{JournalErr}
use Rattle.work_texts.specs.declared.journal_err.JournalErr.TheVariants as err
use Rattle.work_texts.specs.Fields.{Field, key_fields, more_pairs, pair_fields, text_of}

-- the parts of a key: each of its six fields, and the fields of those pairs
abbrev pub key_part : RunKey → ℕ → List Field
key_part k n = get_or (map (λ f. f ∷ []) (key_fields k) ++ pair_fields (more_pairs k) ∷ []) n []

-- a part as it is written: a field alone, and the text of those pairs
abbrev pub key_value : RunKey → ℕ → Field
key_value k n = get_or (key_fields k ++ text_of (pair_fields (more_pairs k)) ∷ []) n []

-- the part differs, and each before it is the same
pub record DiffersAt (kept given : RunKey) (n : ℕ) : Type 0 where
  pub within : n < 7
  pub here : key_part kept n ≢ key_part given n
  pub before : (i : ℕ) → i < n → key_part kept i ≡ key_part given i

-- the answer that names these two values of a part, or want of memory
abbrev pub IsOtherRun : ℕ → Field → Field → JournalErr → Type 0
IsOtherRun n a b (err.OtherRun field kept given) = (field ≡ n) × (kept ≡ a) × (given ≡ b)
IsOtherRun n a b err.NoMemory = Unit {0}
IsOtherRun n a b (err.PlanText file at) = ⊥
IsOtherRun n a b (err.Changed path planned found) = ⊥
IsOtherRun n a b (err.Refused path refusal) = ⊥
IsOtherRun n a b err.Tree = ⊥

-- why a kept key isn't the one that was given
abbrev pub KeyBlames : RunKey → RunKey → JournalErr → Type 0
KeyBlames kept given e = (n : ℕ) × DiffersAt kept given n × IsOtherRun n (key_value kept n) (key_value given n) e
