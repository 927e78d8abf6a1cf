-- How far the values of an entry are looked at: behind the last attribute that may say something of texts, line tables and macros none is, in
-- every entry but a unit's first.
use Rattle.std.specs.Prelude.{◌≡◌, ◌≢◌, ℕ, List, [], ◌++◌, Some}
use Rattle.dw_abbrev.specs.QuietSpecs.{AllQuiet}
use Rattle.dw_base.specs.AbbreviationTables.{Abbreviation, abbreviation_of}
use Rattle.dw_base.specs.declared.values.Spec.{Spec}

-- what is left of the attributes of entry `number` of a unit says nothing
pub data SaysNothing (number : ℕ) : List Spec → Type 0 where
  none_left : SaysNothing number []
  quiet_left : {rest : List Spec} → number ≢ 0 → AllQuiet rest → SaysNothing number rest

-- the attributes of entry `number`, of a code, whose values are looked at, and its tag
pub record AreLooked (table : List Abbreviation) (code number tag : ℕ) (specs : List Spec) : Type 0 where
  pub abbreviation : Abbreviation
  pub listed : abbreviation_of table code ≡ Some abbreviation
  pub tag_is : tag ≡ abbreviation.tag
  pub rest : List Spec
  pub specs_are : abbreviation.specs ≡ specs ++ rest
  pub left : SaysNothing number rest
