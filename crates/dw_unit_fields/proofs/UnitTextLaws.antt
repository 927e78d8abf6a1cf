-- A pass over the entries of a unit, entry by entry.
use Rattle.std.proofs.Common.{◌≡◌, ℕ, ◌+◌, ◌≤◌, List, length, Some, sym, ap, ◌∙◌, subst}
use Rattle.dw_abbrev.specs.Coded.{index_of_code}
use Rattle.dw_base.proofs.LebLaws.{uleb-inside}
use Rattle.dw_base.specs.AbbreviationTables.{Abbreviation, abbreviation_of}
use Rattle.dw_base.specs.Lebs.{uleb_at}
use Rattle.dw_base.specs.Refusals.{Blames}
use Rattle.dw_base.specs.declared.fault.Fault.{Fault}
use Rattle.dw_base.specs.declared.fault.Fault.TheVariants.{NoMemory, Refused}
use Rattle.dw_base.specs.declared.shared.Params.{Params}
use Rattle.dw_base.specs.declared.units.Scanned.{Scanned}
use Rattle.dw_base.specs.declared.values.Spec.{Spec}
use Rattle.dw_entries.specs.CodedEntries.{HasCode}
use Rattle.dw_unit_fields.specs.EntryTexts.{Tables, AreTaken, ValuesRefuse}
use Rattle.dw_unit_fields.specs.QuietValues.{AreLooked}
use Rattle.dw_unit_fields.specs.TextPlaces.{values_places, entry_places, of_entry, of_value}
use Rattle.dw_unit_fields.specs.UnitTexts.{TakenOf, TakenBy, EntryTaken, EntryRefuses, values}
use Rattle.dw_unit_fields.proofs.QuietLaws.{places-left, taken-left, refuses-left}
use Rattle.dw_meaning.specs.PieceRuns.{listed_out, coded_out}

-- the values of an entry begin in the bytes
pub values-inside : (table : List Abbreviation) (bytes : List ℕ) (e : Scanned) (index from : ℕ) → HasCode table bytes e index from → from ≤ length bytes
values-inside table bytes e index from h = subst (λ (k : ℕ). k ≤ length bytes) (sym h.from_is) (uleb-inside bytes e.offset e.code h.size h.spells)

pub code-listed : (table : List Abbreviation) (bytes : List ℕ) (e : Scanned) (index from : ℕ) → HasCode table bytes e index from
    → index_of_code table e.code ≡ Some index
code-listed table bytes e index from h = h.listed

-- the places of an entry are those of its values
pub places-listed : (params : Params) (table : List Abbreviation) (bytes : List ℕ) (number : ℕ) (e : Scanned) (a : Abbreviation) (code size : ℕ)
    → uleb_at bytes e.offset ≡ Some (code, size) → abbreviation_of table code ≡ Some a
    → values_places params bytes number a.tag a.specs (e.offset + size) ≡ entry_places params table bytes number e
unfolding entry_places
places-listed params table bytes number e a code size is listed =
    sym (ap (coded_out of_entry (of_value bytes) params table bytes number e) is ∙ ap (listed_out of_entry (of_value bytes) params bytes number e (e.offset + size)) listed)

-- and of those that are looked at
pub places-given : (params : Params) (table : List Abbreviation) (bytes : List ℕ) (number : ℕ) (e : Scanned) (index from tag : ℕ) (specs : List Spec)
    → HasCode table bytes e index from → AreLooked table e.code number tag specs
    → values_places params bytes number tag specs from ≡ entry_places params table bytes number e
places-given params table bytes number e index from tag specs h l =
    ap (λ (p : ℕ). values_places params bytes number tag specs p) h.from_is
    ∙ ap (λ (n : ℕ). values_places params bytes number n specs (e.offset + h.size)) l.tag_is
    ∙ places-left params bytes number l.abbreviation.tag specs l.rest (e.offset + h.size) l.left
    ∙ ap (λ (xs : List Spec). values_places params bytes number l.abbreviation.tag xs (e.offset + h.size)) (sym l.specs_are)
    ∙ places-listed params table bytes number e l.abbreviation e.code h.size h.spells l.listed

pub taken-given : (t : Tables) (params : Params) (table : List Abbreviation) (bytes : List ℕ) (number : ℕ) (e : Scanned) (index from tag : ℕ) (specs : List Spec)
    → HasCode table bytes e index from → AreLooked table e.code number tag specs
    → AreTaken t params bytes specs from → EntryTaken t params table bytes e
unfolding EntryTaken
taken-given t params table bytes number e index from tag specs h l taken =
    subst (TakenBy t params table bytes e.offset) (sym h.spells) (subst (TakenOf t params bytes (e.offset + h.size)) (sym l.listed)
    (subst (λ (xs : List Spec). AreTaken t params bytes xs (e.offset + h.size)) (sym l.specs_are)
    (taken-left t params bytes number specs l.rest (e.offset + h.size) l.left
    (subst (λ (p : ℕ). AreTaken t params bytes specs p) h.from_is taken))))

pub refused-given : (t : Tables) (params : Params) (table : List Abbreviation) (bytes : List ℕ) (section number : ℕ) (e : Scanned) (index from tag : ℕ) (specs : List Spec)
    (f : Fault) → HasCode table bytes e index from → AreLooked table e.code number tag specs
    → Blames (ValuesRefuse t params bytes section from specs) f → Blames (EntryRefuses t params table bytes section e) f
refused-given t params table bytes section number e index from tag specs NoMemory h l b = tt
refused-given t params table bytes section number e index from tag specs (Refused r) h l b =
    values l.abbreviation e.code h.size h.spells l.listed
    (subst (λ (xs : List Spec). ValuesRefuse t params bytes section (e.offset + h.size) xs r) (sym l.specs_are)
    (refuses-left t params bytes section (e.offset + h.size) specs l.rest r
    (subst (λ (p : ℕ). ValuesRefuse t params bytes section p specs r) h.from_is b)))

pub ruleset given_rules = (values-inside, code-listed, places-given, taken-given, refused-given)
