-- What was read of an entry's code: its abbreviation's number in the table, and where its values begin.
use Rattle.std.proofs.Common.{Bool, true, false, ◌≡◌, ℕ, ◌+◌, ◌<◌, ◌==◌, if◌then◌else◌, List, [], ◌∷◌, length, get_or, Option, Some, refl, sym, ap, ◌∙◌, subst}
use Rattle.std.proofs.lemmas.Bool.{eqb-true}
use Rattle.dw_abbrev.specs.Coded.{index_of_code}
use Rattle.dw_abbrev.proofs.CodedLaws.{get-here, get-none}
use Rattle.dw_base.specs.AbbreviationTables.{Abbreviation, abbreviation_of}
use Rattle.dw_base.specs.EntryScans.{SpellsValues, is_split_root, depth_behind}
use Rattle.dw_base.specs.declared.units.UnitHeader.{UnitHeader}
use Rattle.dw_entries.specs.CodedEntries.{GivesCode, HasCode}
use Rattle.dw_entries.specs.Passes.{IsCode, StandsHere}
use Rattle.dw_entries.specs.ScanStates.{GivesEntry, ScanState}
use Rattle.dw_entries.specs.declared.scan.Coded.{Coded}
use Rattle.dw_entries.proofs.StepLaws.{stands-here}

-- the abbreviation of a code has it
found-cases : (x a : Abbreviation) (test : Bool) (code : ℕ) (o : Option Abbreviation) → (x.code == code) ≡ test → (if test then Some x else o) ≡ Some a
    → (o ≡ Some a → a.code ≡ code) → a.code ≡ code
found-cases x a true code o e is rest = let same : x ≡ a = cc in ap (λ (y : Abbreviation). y.code) (sym same) ∙ eqb-true x.code code e
found-cases x a false code o e is rest = rest is

pub code-found : (list : List Abbreviation) (code : ℕ) (a : Abbreviation) → abbreviation_of list code ≡ Some a → a.code ≡ code
code-found [] code a is = cc
code-found (x ∷ rest) code a is = found-cases x a (x.code == code) code (abbreviation_of rest code) refl is (code-found rest code a)

-- the abbreviation at the number of a code
pub listed-here : (list : List Abbreviation) (code i : ℕ) (a : Abbreviation) → Some i ≡ index_of_code list code → i < length list → a ≡ get_or list i a
    → Some a ≡ abbreviation_of list code
listed-here list code i a at lt is = get-here list code i a at lt is

pub ruleset listed_rules = (listed-here, get-none)

-- an entry, of its parts
pub stands-coded : (h : UnitHeader) (table : List Abbreviation) (bytes : List ℕ) (number place depth after behind code size : ℕ) (a : Abbreviation) (test : Bool)
    → IsCode bytes place (code, size) → Some a ≡ abbreviation_of table code → test ≡ is_split_root number a → test ≡ false
    → SpellsValues h.params bytes (place + size) a.specs after → behind ≡ depth_behind a depth
    → StandsHere h table bytes number (record { offset = place; depth = depth; code = code; after = after }) behind
stands-coded h table bytes number place depth after behind code size a test c listed t not_split s b =
    subst (λ (k : ℕ). StandsHere h table bytes number (record { offset = place; depth = depth; code = k; after = after }) behind)
    (code-found table code a (sym listed)) (stands-here h table bytes number place depth after behind code size a test c listed t not_split s b)

-- its code
pub has-code : (table : List Abbreviation) (bytes : List ℕ) (place depth after code size index : ℕ) → IsCode bytes place (code, size)
    → index_of_code table code ≡ Some index
    → HasCode table bytes (record { offset = place; depth = depth; code = code; after = after }) index (place + size)
has-code table bytes place depth after code size index c listed = record { size = size; spells = c.spells; from_is = refl; listed = listed }

pub ruleset entry_rules = (stands-coded, has-code)

-- what a step gives
pub gives-code : (s : ScanState) (c : Coded) (t : ScanState) → GivesEntry s c.entry t → HasCode s.table s.bytes c.entry c.index c.from → GivesCode s c t
gives-code s c t g has = record { gives = g; has = has }

pub gave-entry : (s : ScanState) (c : Coded) (t : ScanState) → GivesCode s c t → GivesEntry s c.entry t
gave-entry s c t g = g.gives

pub ruleset scan_rules = (gives-code)

pub ruleset alone_rules = (gave-entry)
