-- Laws of tables that are kept.
use Rattle.std.proofs.Common.{◌≡◌, ℕ, List, [], ◌∷◌, ◌++◌, sym, subst}
use Rattle.dw_base.specs.AbbreviationTables.{Abbreviation, IsTable}
use Rattle.dw_abbrev.specs.Kept.{AllKept}
use Rattle.dw_abbrev.specs.declared.keeping.KeptTable.{KeptTable}

-- none is kept at first, and one more
kept-push : (bytes : List ℕ) (list : List KeptTable) (k : KeptTable) → AllKept bytes list → IsTable bytes k.at k.table → AllKept bytes (list ++ k ∷ [])
kept-push bytes [] k all one = (one, tt)
kept-push bytes (x ∷ xs) k all one = (all.0, kept-push bytes xs k all.1 one)

pub kept-pushed : (bytes : List ℕ) (list new : List KeptTable) (at : ℕ) (table : List Abbreviation) → AllKept bytes list → IsTable bytes at table
    → new ≡ list ++ record { at = at; table = table } ∷ [] → AllKept bytes new
kept-pushed bytes list new at table all one is = subst (AllKept bytes) (sym is) (kept-push bytes list (record { at = at; table = table }) all one)

pub ruleset kept_rules = (kept-pushed)

pub kept-none : (bytes : List ℕ) (new : List KeptTable) → new ≡ [] → AllKept bytes new
kept-none bytes new is = subst (AllKept bytes) (sym is) tt

pub ruleset all_rules = (kept-none)
