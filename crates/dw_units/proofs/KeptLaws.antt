-- Tables of abbreviations that were read at their places, taken one by one.
use Rattle.std.proofs.Common.{◌≡◌, ℕ, List, [], ◌∷◌, ◌++◌, subst}
use Rattle.dw_abbrev.specs.Kept.{AllKept}
use Rattle.dw_abbrev.specs.declared.keeping.KeptTable.{KeptTable}
use Rattle.dw_base.specs.AbbreviationTables.{IsTable}
use Rattle.dw_base.specs.FileViews.{View}
use Rattle.dw_base.specs.ViewData.{debug_data, located}
use Rattle.dw_base.specs.declared.debug_sections.DebugSection.TheVariants.{Abbrev}

-- the bytes of the section of abbreviations
pub abbrevs-are : (v : View) (bs : List ℕ) → bs ≡ (located v Abbrev).bytes → bs ≡ (debug_data v).base.abbrevs.bytes
unfolding debug_data
abbrevs-are v bs is = is

pub ruleset bytes_rules = (abbrevs-are)

-- tables of the same bytes
pub kept-of : (bytes own : List ℕ) (list : List KeptTable) → own ≡ bytes → AllKept own list → AllKept bytes list
kept-of bytes own list same k = subst (λ (bs : List ℕ). AllKept bs list) same k

pub ruleset kept_rules = (kept-of)

-- the last of some tables, and those in front
last-kept : (bytes : List ℕ) (xs : List KeptTable) (k : KeptTable) → AllKept bytes (xs ++ k ∷ []) → IsTable bytes k.at k.table
last-kept bytes [] k all = all.0
last-kept bytes (x ∷ xs) k all = last-kept bytes xs k all.1

front-kept : (bytes : List ℕ) (xs : List KeptTable) (k : KeptTable) → AllKept bytes (xs ++ k ∷ []) → AllKept bytes xs
front-kept bytes [] k all = tt
front-kept bytes (x ∷ xs) k all = (all.0, front-kept bytes xs k all.1)

pub popped-table : (bytes : List ℕ) (old new : List KeptTable) (k : KeptTable) → AllKept bytes old → old ≡ new ++ k ∷ [] → IsTable bytes k.at k.table
popped-table bytes old new k all is = last-kept bytes new k (subst (AllKept bytes) is all)

pub popped-left : (bytes : List ℕ) (old new : List KeptTable) (k : KeptTable) → AllKept bytes old → old ≡ new ++ k ∷ [] → AllKept bytes new
popped-left bytes old new k all is = front-kept bytes new k (subst (AllKept bytes) is all)

pub ruleset popped_rules = (popped-table, popped-left)
