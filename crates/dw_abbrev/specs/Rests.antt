-- The rest of a table of abbreviations from one of them on is the table at its place (DWARF 5, 7.5.3), so tables that end alike can share what
-- they have in common.
use Rattle.std.specs.Prelude.{false, ◌≡◌, ℕ, List, [], ◌∷◌, ◌++◌, ⊤, drop, length, slice_get, is_some, Some}
use Rattle.dw_base.specs.AbbreviationTables.{Abbreviation, abbreviation_of, Declares, IsTable}

-- at each of these places stand the abbreviations from the one of the same number on, up to another place
pub record RestsDeclare (bytes : List ℕ) (places : List ℕ) (list : List Abbreviation) (last : ℕ) : Type 0 where
  pub as_many : length places ≡ length list
  pub each : (i o : ℕ) → slice_get places i ≡ Some o → Declares bytes o (drop i list) last

-- at each of these places stands the table of the abbreviations from the one of the same number on, and of others behind them
pub record AreTails (bytes : List ℕ) (places : List ℕ) (list behind : List Abbreviation) : Type 0 where
  pub as_many : length places ≡ length list
  pub each : (i o : ℕ) → slice_get places i ≡ Some o → IsTable bytes o (drop i list ++ behind)

-- the abbreviations of all of these
abbrev pub all_of : List (List Abbreviation) → List Abbreviation
all_of [] = []
all_of (list ∷ more) = list ++ all_of more

-- no code of these is one of those
abbrev pub AreApart : List Abbreviation → List Abbreviation → Type 0
AreApart [] others = ⊤
AreApart (a ∷ more) others = (is_some (abbreviation_of others a.code) ≡ false) × AreApart more others
