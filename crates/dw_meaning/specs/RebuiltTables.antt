-- A string table that is built from the fields that name its texts (this project's profile): each text that some field names after mapping, once,
-- in order of first mention, each with its NUL, and nothing else.
use Rattle.std.specs.Prelude.{true, false, ◌≡◌, ℕ, ◌==◌, if◌then◌else◌, List, [], ◌∷◌, ⊤}
use Rattle.dw_base.specs.Paths.{PathMap}
use Rattle.dw_base.specs.StringTables.{Mention, new_text, with_text}
use Rattle.dw_base.specs.Texts.{has_nul, is_in, laid_texts}

-- a list of texts with more behind it, each once
abbrev pub first_texts : List (List ℕ) → List (List ℕ) → List (List ℕ)
first_texts ts [] = ts
first_texts ts (u ∷ us) = first_texts (with_text ts u) us

-- the mention that a field makes once its text is mapped
abbrev pub after_map : PathMap → Mention → Mention
after_map m x = record { path = x.path; text = new_text m x }

abbrev pub all_after : PathMap → List Mention → List Mention
all_after m [] = []
all_after m (x ∷ xs) = after_map m x ∷ all_after m xs

-- the texts of mentions
abbrev pub texts_said : List Mention → List (List ℕ)
texts_said [] = []
texts_said (x ∷ xs) = x.text ∷ texts_said xs

-- no text stands twice in a list
abbrev pub AreOnce : List (List ℕ) → Type 0
AreOnce [] = ⊤
AreOnce (t ∷ ts) = (is_in ts t ≡ false) × AreOnce ts

-- no text of a list has a NUL
abbrev pub AreBare : List (List ℕ) → Type 0
AreBare [] = ⊤
AreBare (t ∷ ts) = (has_nul t ≡ false) × AreBare ts

-- the texts that bytes are, each up to its NUL: what stands behind the last NUL is a text without one. A text is built from its last byte on.
abbrev pub with_byte : ℕ → List (List ℕ) → List (List ℕ)
with_byte b [] = (b ∷ []) ∷ []
with_byte b (t ∷ ts) = (b ∷ t) ∷ ts

abbrev pub cut_texts : List ℕ → List (List ℕ)
cut_texts [] = []
cut_texts (b ∷ bs) = if b == 0 then [] ∷ cut_texts bs else with_byte b (cut_texts bs)

-- a table holds exactly the texts that these mentions name, each once, in order of first mention
pub record IsRebuilt (bytes : List ℕ) (mentions : List Mention) : Type 0 where
  pub is : bytes ≡ laid_texts (first_texts [] (texts_said mentions))
  -- each text of it is named by some field: nothing is left that none names
  pub named : (t : List ℕ) → is_in (cut_texts bytes) t ≡ true → is_in (texts_said mentions) t ≡ true
  -- each text that a field names is there
  pub there : (t : List ℕ) → is_in (texts_said mentions) t ≡ true → is_in (cut_texts bytes) t ≡ true
  pub once : AreOnce (cut_texts bytes)
