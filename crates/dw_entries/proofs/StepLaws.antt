-- The parts of a step through the entries of a unit.
use Rattle.std.proofs.Common.{Bool, true, false, ◌≡◌, ◌≢◌, ℕ, ◌+◌, List, [], ◌∷◌, ◌++◌, Some, None, refl, sym, ap, ◌∙◌, subst}
use Rattle.dw_base.specs.AbbreviationTables.{Abbreviation, abbreviation_of}
use Rattle.dw_base.specs.EntryScans.{SpellsValues, ValuesFail, is_split_root, depth_behind, scanned, Scans, null, entry, EntryFails, code_passes, no_code, split, values, open_list}
use Rattle.dw_base.specs.Lebs.{uleb_at}
use Rattle.dw_base.specs.Refusals.{at}
use Rattle.dw_base.specs.declared.fault.Kind.TheVariants.{Entry, SplitDwarf}
use Rattle.dw_base.specs.declared.fault.Refusal.{Refusal}
use Rattle.dw_base.specs.declared.units.Scanned.{Scanned}
use Rattle.dw_base.specs.declared.units.UnitHeader.{UnitHeader}
use Rattle.dw_base.specs.declared.values.Spec.{Spec}
use Rattle.dw_entries.specs.Passes.{Nulls, no_nulls, more_nulls, IsCode, StandsHere, ComesNext, StopsHere, IsWhole}

-- entries up to a place, and the codes of 0 behind it
pub scans-nulls : (h : UnitHeader) (table : List Abbreviation) (bytes : List ℕ) (items : List Scanned) (from depth place lists : ℕ)
    → Nulls bytes from depth place lists → Scans h table bytes items from depth → Scans h table bytes items place lists
scans-nulls h table bytes items from depth place lists no_nulls s = s
scans-nulls h table bytes items from depth place lists (more_nulls p d size n e) s =
    null items p d size (scans-nulls h table bytes items from depth p d n s) e

-- an entry, of its parts
pub stands-here : (h : UnitHeader) (table : List Abbreviation) (bytes : List ℕ) (number place depth after behind code size : ℕ) (a : Abbreviation) (test : Bool)
    → IsCode bytes place (code, size) → Some a ≡ abbreviation_of table code → test ≡ is_split_root number a → test ≡ false
    → SpellsValues h.params bytes (place + size) a.specs after → behind ≡ depth_behind a depth
    → StandsHere h table bytes number (record { offset = place; depth = depth; code = a.code; after = after }) behind
stands-here h table bytes number place depth after behind code size a test c listed t not_split s b = record {
  abbreviation = a;
  entry = record { code = code; size = size; spells = c.spells; some = c.some; listed = sym listed; values = s };
  root = sym t ∙ not_split;
  item = refl;
  behind = b;
}

-- a code that the table hasn't
pub no_code-stops : (h : UnitHeader) (table : List Abbreviation) (bytes : List ℕ) (place depth number code size : ℕ) (r : Refusal)
    → r ≡ at Entry h.section place → IsCode bytes place (code, size) → None ≡ abbreviation_of table code → StopsHere h table bytes place depth number r
no_code-stops h table bytes place depth number code size r is c none =
    record { fails = λ items s n. subst (EntryFails h table bytes) (sym is) (no_code items place depth code size s c.spells c.some (sym none)) }

-- a first entry that stands for one in another file
pub split-stops : (h : UnitHeader) (table : List Abbreviation) (bytes : List ℕ) (place depth number code size : ℕ) (a : Abbreviation) (test : Bool) (r : Refusal)
    → r ≡ at SplitDwarf h.section place → IsCode bytes place (code, size) → Some a ≡ abbreviation_of table code → test ≡ is_split_root number a → test ≡ true
    → StopsHere h table bytes place depth number r
split-stops h table bytes place depth number code size a test r is c listed t yes_ = record {
  fails = λ items s n. subst (EntryFails h table bytes) (sym is)
      (split items place depth code size a s c.spells c.some (sym listed) (ap (λ (k : ℕ). is_split_root k a) n ∙ sym t ∙ yes_));
}

-- values that can't be read
pub values-stop : (h : UnitHeader) (table : List Abbreviation) (bytes : List ℕ) (place depth number code size : ℕ) (a : Abbreviation) (specs : List Spec) (r : Refusal)
    → IsCode bytes place (code, size) → Some a ≡ abbreviation_of table code → specs ≡ a.specs → ValuesFail h.params bytes h.section (place + size) specs r
    → StopsHere h table bytes place depth number r
values-stop h table bytes place depth number code size a specs r c listed same f = record {
  fails = λ items s n. values items place depth code size a s c.spells c.some (sym listed)
      (subst (λ (xs : List Spec). ValuesFail h.params bytes h.section (place + size) xs r) same f);
}

-- behind codes of 0 stands an entry
pub comes-next : (h : UnitHeader) (table : List Abbreviation) (bytes : List ℕ) (from depth number place lists behind : ℕ) (e : Scanned)
    → Nulls bytes from depth place lists → StandsHere h table bytes number e behind → e.offset ≡ place → e.depth ≡ lists
    → ComesNext h table bytes from depth number e behind
comes-next h table bytes from depth number place lists behind e n s o d = record {
  more = λ items before count.
      (let there : Scans h table bytes items e.offset e.depth =
      subst (λ (k : ℕ). Scans h table bytes items k e.depth) (sym o)
      (subst (λ (k : ℕ). Scans h table bytes items place k) (sym d) (scans-nulls h table bytes items from depth place lists n before)) in
      let one : Scans h table bytes (items ++ scanned e.offset e.depth s.abbreviation e.after ∷ []) e.after (depth_behind s.abbreviation e.depth) =
      entry items e.offset e.depth e.after s.abbreviation there s.entry (ap (λ (k : ℕ). is_split_root k s.abbreviation) count ∙ s.root) in
      subst (λ (k : ℕ). Scans h table bytes (items ++ e ∷ []) e.after k) (sym s.behind)
      (subst (λ (x : Scanned). Scans h table bytes (items ++ x ∷ []) e.after (depth_behind s.abbreviation e.depth)) (sym s.item) one));
}

-- what stops behind codes of 0 stops in front of them
pub stops-nulls : (h : UnitHeader) (table : List Abbreviation) (bytes : List ℕ) (from depth number place lists : ℕ) (r : Refusal)
    → Nulls bytes from depth place lists → StopsHere h table bytes place lists number r → StopsHere h table bytes from depth number r
stops-nulls h table bytes from depth number place lists r n f =
    record { fails = λ items s count. f.fails items (scans-nulls h table bytes items from depth place lists n s) count }

-- no code ends in the unit
pub cut-stops : (h : UnitHeader) (table : List Abbreviation) (bytes : List ℕ) (from depth number place lists : ℕ) (r : Refusal)
    → r ≡ at Entry h.section place → Nulls bytes from depth place lists → uleb_at bytes place ≡ None → place ≢ h.end → StopsHere h table bytes from depth number r
cut-stops h table bytes from depth number place lists r is n none other = record {
  fails = λ items s count. subst (EntryFails h table bytes) (sym is)
      (code_passes items place lists (scans-nulls h table bytes items from depth place lists n s) other none);
}

-- a list of children is open at the unit's end
pub open-stops : (h : UnitHeader) (table : List Abbreviation) (bytes : List ℕ) (from depth number place lists : ℕ) (r : Refusal)
    → r ≡ at Entry h.section place → Nulls bytes from depth place lists → place ≡ h.end → lists ≢ 0 → StopsHere h table bytes from depth number r
open-stops h table bytes from depth number place lists r is n there some = record {
  fails = λ items s count. subst (EntryFails h table bytes) (sym (is ∙ ap (λ (k : ℕ). at Entry h.section k) there))
      (open_list items lists (subst (λ (k : ℕ). Scans h table bytes items k lists) there (scans-nulls h table bytes items from depth place lists n s)) some);
}

-- the unit ends, and no list is open
pub is-whole : (h : UnitHeader) (table : List Abbreviation) (bytes : List ℕ) (from depth place lists : ℕ)
    → Nulls bytes from depth place lists → place ≡ h.end → lists ≡ 0 → IsWhole h table bytes from depth
is-whole h table bytes from depth place lists n there none = record {
  whole = λ items s. subst (λ (k : ℕ). Scans h table bytes items k 0) there
      (subst (λ (k : ℕ). Scans h table bytes items place k) none (scans-nulls h table bytes items from depth place lists n s));
}

pub ruleset step_rules = (comes-next, cut-stops, open-stops, is-whole)
