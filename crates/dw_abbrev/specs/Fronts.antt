-- The front of a table of abbreviations, behind which it goes on as others do (DWARF 5, 7.5.3).
use Rattle.std.specs.Prelude.{ℕ, List}
use Rattle.dw_base.specs.AbbreviationTables.{Abbreviation, Declares, IsTable}
use Rattle.dw_abbrev.specs.Rests.{RestsDeclare}

-- from a place on these abbreviations stand at these places, and behind them stands the table of those
pub record GoesOn (bytes : List ℕ) (at : ℕ) (places : List ℕ) (front behind : List Abbreviation) : Type 0 where
  pub last : ℕ
  pub declares : Declares bytes at front last
  pub rests : RestsDeclare bytes places front last
  pub table : IsTable bytes last behind
