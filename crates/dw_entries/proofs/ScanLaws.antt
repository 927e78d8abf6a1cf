-- A step of the pass over a unit, as the iterator gives it.
use Rattle.std.proofs.Common.{Bool, true, false, ◌≡◌, ℕ, ◌+◌, List, [], ◌∷◌, refl, sym, ap, ◌∙◌, arith}
use Rattle.std.proofs.lemmas.List.{length-append}
use Rattle.dw_base.specs.AbbreviationTables.{Abbreviation}
use Rattle.dw_base.specs.declared.fault.Refusal.{Refusal}
use Rattle.dw_base.specs.declared.units.Scanned.{Scanned}
use Rattle.dw_base.specs.declared.units.UnitHeader.{UnitHeader}
use Rattle.dw_entries.specs.Passes.{ComesNext, StopsHere, IsWhole}
use Rattle.dw_entries.specs.ScanStates.{ScanState, GivesEntry, GivesRefusal, GivesNothing}

abbrev state_of : UnitHeader → List Abbreviation → List ℕ → ℕ → ℕ → ℕ → Bool → ScanState
state_of h table bytes place depth number over =
    record { unit = h; table = table; bytes = bytes; place = place; depth = depth; number = number; over = over }

pub gives-entry : (h : UnitHeader) (table : List Abbreviation) (bytes : List ℕ) (place depth number behind : ℕ) (e : Scanned) (over : Bool)
    → over ≡ false → ComesNext h table bytes place depth number e behind
    → GivesEntry (state_of h table bytes place depth number over) e (state_of h table bytes e.after behind (number + 1) over)
gives-entry h table bytes place depth number behind e over run c = record {
  running = run;
  same = refl;
  more = λ items g. record {
    scans = c.more items g.scans g.count;
    count = (let before = g.count in omega (arith, before, length-append items (e ∷ [])));
  };
}

pub gives-refusal : (h : UnitHeader) (table : List Abbreviation) (bytes : List ℕ) (place depth number : ℕ) (r : Refusal) (over : Bool)
    → over ≡ false → StopsHere h table bytes place depth number r
    → GivesRefusal (state_of h table bytes place depth number over) r (state_of h table bytes place depth number true)
gives-refusal h table bytes place depth number r over run c =
    record { running = run; same = refl; fails = λ items g. c.fails items g.scans g.count }

pub gives-end : (h : UnitHeader) (table : List Abbreviation) (bytes : List ℕ) (place depth number : ℕ) (over : Bool)
    → IsWhole h table bytes place depth
    → GivesNothing (state_of h table bytes place depth number over) (state_of h table bytes place depth number true)
gives-end h table bytes place depth number over w = record { same = refl; whole = λ run items g. w.whole items g.scans }

-- nothing more once the pass is over
pub gives-nothing : (s : ScanState) → s.over ≡ true → GivesNothing s s
gives-nothing s over = record {
  same = ap (λ (b : Bool). record s { over = b }) over;
  whole = λ run items g. absurd (true-false (sym over ∙ run));
}
  where
    true-false : true ≡ false → ⊥
    true-false e = cc

pub ruleset scan_rules = (gives-entry, gives-refusal, gives-end, gives-nothing)
