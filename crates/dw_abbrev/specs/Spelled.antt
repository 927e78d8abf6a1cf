-- What one step through a table of abbreviations finds (DWARF 5, 7.5.3), in the words of `dw_base`.
use Rattle.std.specs.Prelude.{◌≡◌, false, ℕ, List, [], ◌∷◌, ◌++◌, is_some, ⊤}
use Rattle.dw_base.specs.AbbreviationTables.{Abbreviation, abbreviation_of, Declares, SpellsAbbreviation, SpellsPair, SpellsSpecs}
use Rattle.dw_base.specs.AbbreviationFails.{DeclarationFails, SpecFails}
use Rattle.dw_base.specs.declared.values.Spec.{Spec}
use Rattle.dw_abbrev.specs.declared.stopped.Stopped.{Stopped}
use Rattle.dw_abbrev.specs.declared.stopped.Stopped.TheVariants.{Unspelled, NoMemory}

-- a step stopped for want of memory, or since this holds
abbrev pub StopsFor : Type 0 → Stopped → Type 0
StopsFor fails Unspelled = fails
StopsFor fails NoMemory = ⊤

-- the attributes of an abbreviation from a place on, up to behind the pair that ends them
pub record SpecsEnd (bytes : List ℕ) (at : ℕ) (specs : List Spec) (next : ℕ) : Type 0 where
  pub last : ℕ
  pub spelled : SpellsSpecs bytes at specs last
  pub ends : SpellsPair bytes last 0 0 next

-- behind some attributes from a place on stands none, and not their end
pub record SpecsFail (bytes : List ℕ) (at : ℕ) : Type 0 where
  pub specs : List Spec
  pub last : ℕ
  pub spelled : SpellsSpecs bytes at specs last
  pub fails : SpecFails bytes last

-- one abbreviation more, of a new code, stands at a place
pub record DeclaresOne (bytes : List ℕ) (at : ℕ) (old new : List Abbreviation) (next : ℕ) : Type 0 where
  pub one : Abbreviation
  pub spelled : SpellsAbbreviation bytes at one next
  pub fresh : is_some (abbreviation_of old one.code) ≡ false
  pub appended : new ≡ old ++ one ∷ []

-- behind some abbreviations from a place on stands none of a new code, and not the end of the table
pub record TableFails (bytes : List ℕ) (at : ℕ) : Type 0 where
  pub list : List Abbreviation
  pub last : ℕ
  pub declares : Declares bytes at list last
  pub fails : DeclarationFails bytes list last
