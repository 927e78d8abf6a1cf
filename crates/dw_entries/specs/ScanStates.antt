-- Where a pass over the entries of a unit stands (DWARF 5, 7.5.2 and 7.5.3), and what a step of it gives, in the words of
-- the entries up to a place.
use Rattle.std.specs.Prelude.{Bool, true, false, ◌≡◌, ℕ, ◌+◌, ◌-◌, ◌≤◌, ◌^◌, if◌then◌else◌, List, [], ◌∷◌, ◌++◌, length, Option, Some, None, Result, Ok, Err, IsTrue}
use Rattle.dw_base.specs.AbbreviationTables.{Abbreviation}
use Rattle.dw_base.specs.EntryScans.{Scans, AreEntries, EntryFails}
use Rattle.dw_base.specs.UnitHeaders.{is_address_size}
use Rattle.dw_base.specs.declared.fault.Refusal.{Refusal}
use Rattle.dw_base.specs.declared.units.Scanned.{Scanned}
use Rattle.dw_base.specs.declared.units.UnitHeader.{UnitHeader}

-- a pass over a unit with a table of abbreviations and the bytes of its section up to the unit's end: the place that was
-- reached, how many lists of children are open there, how many entries were given, and whether the pass is over
pub record ScanState : Type 0 where
  pub unit : UnitHeader
  pub table : List Abbreviation
  pub bytes : List ℕ
  pub place : ℕ
  pub depth : ℕ
  pub number : ℕ
  pub over : Bool

-- before the first entry
abbrev pub scan_start : UnitHeader → List Abbreviation → List ℕ → ScanState
scan_start h table bytes = record { unit = h; table = table; bytes = bytes; place = h.first; depth = 0; number = 0; over = false }

-- these are the entries from the unit's first place up to the one that was reached
pub record HasGiven (s : ScanState) (items : List Scanned) : Type 0 where
  pub scans : Scans s.unit s.table s.bytes items s.place s.depth
  pub count : length items ≡ s.number

-- the pass gives an entry, the next one
pub record GivesEntry (s : ScanState) (e : Scanned) (t : ScanState) : Type 0 where
  pub running : s.over ≡ false
  pub same : t ≡ record s { place = e.after; depth = t.depth; number = s.number + 1 }
  pub more : (items : List Scanned) → HasGiven s items → HasGiven t (items ++ e ∷ [])

-- the pass gives a refusal, for which a reason holds, and is over
pub record GivesRefusal (s : ScanState) (r : Refusal) (t : ScanState) : Type 0 where
  pub running : s.over ≡ false
  pub same : t ≡ record s { over = true }
  pub fails : (items : List Scanned) → HasGiven s items → EntryFails s.unit s.table s.bytes r

-- the pass gives nothing: it was over, or the entries that were given are those of the whole unit
pub record GivesNothing (s t : ScanState) : Type 0 where
  pub same : t ≡ record s { over = true }
  pub whole : s.over ≡ false → (items : List Scanned) → HasGiven s items → AreEntries s.unit s.table s.bytes items

-- what a step gives, and where the pass stands then
abbrev pub Gives : ScanState → Option (Result Scanned Refusal) → ScanState → Type 0
Gives s None t = GivesNothing s t
Gives s (Some (Ok e)) t = GivesEntry s e t
Gives s (Some (Err r)) t = GivesRefusal s r t

-- a pass that isn't over gives no more than this
abbrev pub steps_left : ScanState → ℕ
steps_left s = if s.over then 0 else length s.bytes - s.place + 1

-- what holds of every pass
pub record ScanFits (s : ScanState) : Type 0 where
  pub end : s.unit.end ≡ length s.bytes
  pub small : length s.bytes ≤ 2 ^ 31
  pub address : IsTrue (is_address_size s.unit.params.address)
  pub inside : s.place ≤ length s.bytes
  pub depth : s.depth ≤ s.place
  pub number : s.number ≤ s.place
