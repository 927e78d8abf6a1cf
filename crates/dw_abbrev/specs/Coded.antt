-- How a table of abbreviations finds a code: its codes in order, each once.
use Rattle.std.specs.Prelude.{◌≡◌, ℕ, ◌==◌, List, map, slice_get, Option, Some}
use Rattle.std.specs.List.{position}
use Rattle.dw_base.specs.AbbreviationTables.{Abbreviation}

-- where the first abbreviation of a code stands in a list
abbrev pub index_of_code : List Abbreviation → ℕ → Option ℕ
index_of_code list code = position (λ a. code == a.code) list

-- these are the codes of the list, and each abbreviation is the first of its code
pub record IsCoded (codes : List ℕ) (list : List Abbreviation) : Type 0 where
  pub codes_are : codes ≡ map (λ a. a.code) list
  pub first : (i : ℕ) (a : Abbreviation) → slice_get list i ≡ Some a → index_of_code list a.code ≡ Some i
