-- What a caller needs: the table that is given of a unit is the one of its number.
use Rattle.std.proofs.Common.{◌≡◌, ℕ, zero, suc, ◌<◌, List, [], ◌∷◌, length, get_or, Some, refl, sym, ap, ◌∙◌, arith}
use Rattle.dw_base.specs.AbbreviationTables.{Abbreviation}
use Rattle.dw_base.specs.LineMeanings.{item_at}
use Rattle.dw_units.specs.UnitLists.{IsTableOf, Units}
use Rattle.dw_units.specs.declared.listed_unit.ListedUnit.{ListedUnit}

pub item-inside : {X : Type 0} (xs : List X) (i : ℕ) (x : X) → item_at xs i ≡ Some x → i < length xs
item-inside [] i x e = absurd cc
item-inside (y ∷ xs) zero x e = omega arith
item-inside (y ∷ xs) (suc i) x e =
    let rest = item-inside xs i x e in
    omega (arith, rest)

pub unit-table : (us : Units) (n : ℕ) (u : ListedUnit) (t s : List Abbreviation) → IsTableOf us n t → item_at us.units n ≡ Some u → s ≡ t → item_at us.tables u.table ≡ Some s
unit-table us n u t s of there same = of.each u there ∙ ap (λ (x : List Abbreviation). Some x) (sym same)

-- the unit of a number
pub unit-listed : (us : List ListedUnit) (i : ℕ) (d : ListedUnit) → i < length us → item_at us i ≡ Some (get_or us i d)
unit-listed [] i d lt = absurd (omega (arith, lt))
unit-listed (u ∷ us) zero d lt = refl
unit-listed (u ∷ us) (suc i) d lt = unit-listed us i d (omega (arith, lt))
