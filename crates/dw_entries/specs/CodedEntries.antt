-- What a pass over the entries of a unit knows of each beside its place: where its abbreviation stands in the table, and where its values begin
-- (DWARF 5, 7.5.2 and 7.5.3).
use Rattle.std.specs.Prelude.{◌≡◌, ℕ, ◌+◌, List, Option, Some, None, Result, Ok, Err}
use Rattle.dw_abbrev.specs.Coded.{index_of_code}
use Rattle.dw_base.specs.AbbreviationTables.{Abbreviation}
use Rattle.dw_base.specs.Lebs.{uleb_at}
use Rattle.dw_base.specs.declared.fault.Refusal.{Refusal}
use Rattle.dw_base.specs.declared.units.Scanned.{Scanned}
use Rattle.dw_entries.specs.ScanStates.{GivesEntry, GivesNothing, GivesRefusal, ScanState}
use Rattle.dw_entries.specs.declared.scan.Coded.{Coded}

-- the code of an entry stands where it starts, its values begin behind it, and the abbreviation of that code has this number in the table
pub record HasCode (table : List Abbreviation) (bytes : List ℕ) (e : Scanned) (index from : ℕ) : Type 0 where
  pub size : ℕ
  pub spells : uleb_at bytes e.offset ≡ Some (e.code, size)
  pub from_is : from ≡ e.offset + size
  pub listed : index_of_code table e.code ≡ Some index

-- the pass gives an entry, the next one, with its code
pub record GivesCode (s : ScanState) (c : Coded) (t : ScanState) : Type 0 where
  pub gives : GivesEntry s c.entry t
  pub has : HasCode s.table s.bytes c.entry c.index c.from

-- what a step gives, and where the pass stands then
abbrev pub GivesCoded : ScanState → Option (Result Coded Refusal) → ScanState → Type 0
GivesCoded s None t = GivesNothing s t
GivesCoded s (Some (Ok c)) t = GivesCode s c t
GivesCoded s (Some (Err r)) t = GivesRefusal s r t
