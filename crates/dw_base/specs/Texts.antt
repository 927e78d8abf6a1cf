-- Texts: bytes before a NUL (DWARF 5, 7.5.5, class string; gABI ch. 4 "String Table").
use Rattle.std.specs.Prelude.{Bool, ℕ, ◌≡◌, ◌==◌, nat_lt, if◌then◌else◌, List, [], ◌∷◌, ◌++◌, drop, true, false}
use Rattle.std.specs.List.{list_any}
use Rattle.std.specs.Str.{bytes_eq}

-- the bytes before the first NUL, all of them where there is none
abbrev pub text : List ℕ → List ℕ
text [] = []
text (b ∷ bs) = if b == 0 then [] else b ∷ text bs

-- a NUL stands somewhere in the bytes
abbrev pub has_nul : List ℕ → Bool
has_nul bytes = list_any (λ b. b == 0) bytes

-- the text that begins at a place of a string table; it is one only where a NUL follows
unfoldable pub text_in : List ℕ → ℕ → List ℕ
text_in table at = text (drop at table)

-- a NUL follows the place, so that a text begins there
unfoldable pub ends_in : List ℕ → ℕ → Bool
ends_in table at = has_nul (drop at table)

-- a NUL follows a place of the table exactly where the place is before `end`
pub record IsNulEnd (table : List ℕ) (end : ℕ) : Type 0 where
  pub ends : (place : ℕ) → ends_in table place ≡ nat_lt place end

-- two texts have the same bytes
abbrev pub same_text : List ℕ → List ℕ → Bool
same_text t u = bytes_eq t u

-- the text is in the list
abbrev pub is_in : List (List ℕ) → List ℕ → Bool
is_in [] t = false
is_in (u ∷ us) t = if same_text u t then true else is_in us t

-- texts one after another, each with its NUL
abbrev pub laid_texts : List (List ℕ) → List ℕ
laid_texts [] = []
laid_texts (t ∷ ts) = t ++ 0 ∷ laid_texts ts
