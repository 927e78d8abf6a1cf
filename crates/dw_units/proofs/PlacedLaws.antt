-- Tables by their places: one that is kept, or one that is read again.
use Rattle.std.proofs.Common.{◌≡◌, ℕ, zero, suc, ◌<◌, List, [], ◌∷◌, length, get_or, Some, None, sym, ap, ◌∙◌, subst, arith}
use Rattle.dw_base.specs.AbbreviationBytes.{abbreviations_at}
use Rattle.dw_base.specs.AbbreviationFails.{AbbreviationFails}
use Rattle.dw_base.specs.AbbreviationTables.{Abbreviation, IsTable}
use Rattle.dw_base.specs.LineMeanings.{item_at}
use Rattle.dw_base.specs.Refusals.{Blames}
use Rattle.dw_base.specs.declared.fault.Fault.{Fault}
use Rattle.dw_base.specs.declared.fault.Fault.TheVariants.{Refused}
use Rattle.dw_base.specs.declared.fault.Refusal.{Refusal}
use Rattle.dw_base.proofs.AbbreviationLaws.{table-found}
use Rattle.dw_base.proofs.AbbreviationRowLaws.{table-excludes}
use Rattle.dw_units.specs.PlacedTables.{AllNumbered, AllPlaced, IsPlaced, UnitsFit, tables_of}
use Rattle.dw_units.specs.UnitLists.{IsTableOf, Units}
use Rattle.dw_units.specs.declared.listed_unit.ListedUnit.{ListedUnit}
use Rattle.dw_units.specs.declared.placed_table.PlacedTable.{PlacedTable}

-- a table that was read is the one that is found at its place
pub stands-read : (bytes : List ℕ) (at : ℕ) (t : List Abbreviation) → IsTable bytes at t → IsTable bytes at (abbreviations_at bytes at)
stands-read bytes at t is = subst (IsTable bytes at) (sym (table-found bytes at t is)) is

pub ruleset check_rules = (stands-read)

pub placed-kept : (bytes : List ℕ) (at : ℕ) (t : List Abbreviation) → IsTable bytes at t → IsPlaced bytes (record { at = at; kept = Some t })
placed-kept bytes at t is = record {
  stands = stands-read bytes at t is;
  kept = λ table e. own table e;
}
  where
    own : (table : List Abbreviation) → Some t ≡ Some table → table ≡ abbreviations_at bytes at
    own table e =
        let same : t ≡ table = cc in
        sym same ∙ sym (table-found bytes at t is)

pub placed-again : (bytes : List ℕ) (at : ℕ) → IsTable bytes at (abbreviations_at bytes at) → IsPlaced bytes (record { at = at; kept = None })
placed-again bytes at is = record { stands = is; kept = λ table e. gone table e }
  where
    gone : (table : List Abbreviation) → None ≡ Some table → table ≡ abbreviations_at bytes at
    gone table e = absurd cc

-- one that can be read again isn't refused
pub never-refused : (bytes : List ℕ) (section at : ℕ) (f : Fault) (r : Refusal) → Blames (AbbreviationFails bytes section at) f → f ≡ Refused r
    → IsTable bytes at (abbreviations_at bytes at) → ⊥
never-refused bytes section at f r b is stands =
    table-excludes bytes section at (abbreviations_at bytes at) r stands (subst (Blames (AbbreviationFails bytes section at)) is b)

pub read-again : (bytes : List ℕ) (at : ℕ) (t : List Abbreviation) → IsTable bytes at t → t ≡ abbreviations_at bytes at
read-again bytes at t is = sym (table-found bytes at t is)

pub ruleset again_rules = (read-again)

pub placed-stands : (bytes : List ℕ) (p : PlacedTable) → IsPlaced bytes p → IsTable bytes p.at (abbreviations_at bytes p.at)
placed-stands bytes p placed = placed.stands

pub placed-own : (bytes : List ℕ) (p : PlacedTable) (t : List Abbreviation) → IsPlaced bytes p → Some t ≡ p.kept → t ≡ abbreviations_at bytes p.at
placed-own bytes p t placed is = placed.kept t (sym is)

pub ruleset table_rules = (placed-stands, placed-own)

-- the table of a number
placed-there : (bytes : List ℕ) (ps : List PlacedTable) (i : ℕ) (d : PlacedTable) → AllPlaced bytes ps → i < length ps → IsPlaced bytes (get_or ps i d)
placed-there bytes [] i d all lt = absurd (omega (arith, lt))
placed-there bytes (p ∷ ps) zero d all lt = all.0
placed-there bytes (p ∷ ps) (suc i) d all lt = placed-there bytes ps i d all.1 (omega (arith, lt))

pub placed-item : (bytes : List ℕ) (ps : List PlacedTable) (i : ℕ) (p : PlacedTable) → AllPlaced bytes ps → i < length ps → p ≡ get_or ps i p → IsPlaced bytes p
placed-item bytes ps i p all lt is = subst (IsPlaced bytes) (sym is) (placed-there bytes ps i p all lt)

pub nth-table : (bytes : List ℕ) (ps : List PlacedTable) (i : ℕ) (d : PlacedTable) (t : List Abbreviation) → i < length ps → t ≡ abbreviations_at bytes (get_or ps i d).at
    → item_at (tables_of bytes ps) i ≡ Some t
nth-table bytes [] i d t lt e = absurd (omega (arith, lt))
nth-table bytes (p ∷ ps) zero d t lt e = ap (λ (x : List Abbreviation). Some x) (sym e)
nth-table bytes (p ∷ ps) (suc i) d t lt e = nth-table bytes ps i d t (omega (arith, lt)) e

pub ruleset nth_rules = (placed-item, nth-table)

-- a unit's number of its table
pub numbered-there : (n : ℕ) (us : List ListedUnit) (i : ℕ) (d : ListedUnit) → AllNumbered n us → i < length us → (get_or us i d).table < n
numbered-there n [] i d all lt = absurd (omega (arith, lt))
numbered-there n (u ∷ us) zero d all lt = all.0
numbered-there n (u ∷ us) (suc i) d all lt = numbered-there n us i d all.1 (omega (arith, lt))

pub item-there : (us : List ListedUnit) (i : ℕ) (d u : ListedUnit) → item_at us i ≡ Some u → get_or us i d ≡ u
item-there [] i d u e = absurd cc
item-there (x ∷ us) zero d u e = cc
item-there (x ∷ us) (suc i) d u e = item-there us i d u e

pub unit-given : (us : Units) (n number : ℕ) (d : ListedUnit) (t : List Abbreviation) → number ≡ (get_or us.units n d).table → item_at us.tables number ≡ Some t → IsTableOf us n t
unit-given us n number d t same e = record {
  each = λ u there.
      ap (λ (x : ListedUnit). item_at us.tables x.table) (sym (item-there us.units n d u there)) ∙ ap (item_at us.tables) (sym same) ∙ e;
}

pub units-numbered : (bytes : List ℕ) (list : List ListedUnit) (ps : List PlacedTable) (i number : ℕ) (d : ListedUnit) → UnitsFit bytes list ps → i < length list
    → number ≡ (get_or list i d).table → number < length ps
units-numbered bytes list ps i number d fit lt same =
    let below = numbered-there (length ps) list i d fit.numbered lt in
    omega (arith, below, same)

pub units-placed : (bytes : List ℕ) (list : List ListedUnit) (ps qs : List PlacedTable) → UnitsFit bytes list ps → qs ≡ ps → AllPlaced bytes qs
units-placed bytes list ps qs fit same = subst (AllPlaced bytes) (sym same) fit.placed

pub ruleset unit_rules = (unit-given, units-numbered, units-placed)
