-- Entries of an arena, by their numbers.
use Rattle.std.proofs.Common.{◌≡◌, ℕ, zero, suc, ◌-◌, ◌<◌, List, [], ◌∷◌, length, get_or, refl, ap, arith}
use Rattle.dw_base.specs.AbbreviationTables.{Abbreviation}
use Rattle.dw_base.specs.declared.units.Scanned.{Scanned}
use Rattle.entry_arena.specs.Shapes.{node_at}
use Rattle.entry_arena.specs.UnitArenas.{AreOf}
use Rattle.entry_arena.specs.declared.arena.EntryNode.{EntryNode}

pub offset-of : (table : List Abbreviation) (ns : List EntryNode) (es : List Scanned) (k : ℕ) (x : Scanned) → AreOf table ns es → k < length ns → (node_at ns k).offset ≡ (get_or es k x).offset
offset-of table [] es k x are lt = absurd (omega (arith, lt))
offset-of table (n ∷ ns) [] k x are lt = absurd are
offset-of table (n ∷ ns) (e ∷ es) zero x are lt = are.0
offset-of table (n ∷ ns) (e ∷ es) (suc k) x are lt = offset-of table ns es k x are.3 (omega (arith, lt))

pub count-of : (table : List Abbreviation) (ns : List EntryNode) (es : List Scanned) → AreOf table ns es → length ns ≡ length es
count-of table [] [] are = refl
count-of table [] (e ∷ es) are = absurd are
count-of table (n ∷ ns) [] are = absurd are
count-of table (n ∷ ns) (e ∷ es) are = ap suc (count-of table ns es are.3)
