-- The tables that were read so far, and their numbers by offsets.
use Rattle.std.proofs.Common.{Bool, true, false, zero, suc, ◌≡◌, ℕ, ◌==◌, List, [], ◌∷◌, ◌++◌, length, Option, Some, None, refl, sym, ap, ◌∙◌, subst, arith, if◌then◌else◌, append_assoc, append-nil}
use Rattle.std.proofs.lemmas.Bool.Decides.{nat_tests}
use Rattle.dw_base.specs.AbbreviationBytes.{abbreviations_at}
use Rattle.dw_base.specs.AbbreviationTables.{Abbreviation, IsTable}
use Rattle.dw_base.specs.DebugData.{DebugData}
use Rattle.dw_base.specs.LineMeanings.{item_at}
use Rattle.dw_units.specs.PlacedTables.{AllPlaced, AreKnown, IsPlaced, tables_of}
use Rattle.dw_units.specs.UnitLists.{Grows, HasTableAt, KeepsNumber}
use Rattle.dw_units.specs.declared.placed_table.PlacedTable.{PlacedTable}
use Rattle.dw_units.proofs.PlacedLaws.{placed-again, placed-kept}

-- what stands in a list stands in a longer one
item-append : {X : Type 0} (xs ys : List X) (i : ℕ) (x : X) → item_at xs i ≡ Some x → item_at (xs ++ ys) i ≡ Some x
item-append [] ys i x e = absurd cc
item-append (y ∷ xs) ys zero x e = e
item-append (y ∷ xs) ys (suc i) x e = item-append xs ys i x e

item-last : {X : Type 0} (xs : List X) (x : X) → item_at (xs ++ x ∷ []) (length xs) ≡ Some x
item-last [] x = refl
item-last (y ∷ xs) x = item-last xs x

pub grows-none : (tables : List (List Abbreviation)) → Grows tables tables
grows-none tables = record { more = []; is = sym (append-nil tables) }

pub grows-twice : (old mid new : List (List Abbreviation)) → Grows old mid → Grows mid new → Grows old new
grows-twice old mid new a b = record {
  more = a.more ++ b.more;
  is = b.is ∙ ap (λ (x : List (List Abbreviation)). x ++ b.more) a.is ∙ append_assoc old a.more b.more;
}

pub table-kept : (d : DebugData) (old new : List (List Abbreviation)) (at number : ℕ) → Grows old new → HasTableAt d old at number → HasTableAt d new at number
table-kept d old new at number g h = record {
  table = h.table;
  there = ap (λ (x : List (List Abbreviation)). item_at x number) g.is ∙ item-append old g.more number h.table h.there;
  declares = h.declares;
}

-- one table more
tables-more : (bytes : List ℕ) (ps : List PlacedTable) (p : PlacedTable) → tables_of bytes (ps ++ p ∷ []) ≡ tables_of bytes ps ++ abbreviations_at bytes p.at ∷ []
tables-more bytes [] p = refl
tables-more bytes (x ∷ ps) p = ap (λ (ts : List (List Abbreviation)). abbreviations_at bytes x.at ∷ ts) (tables-more bytes ps p)

pub tables-length : (bytes : List ℕ) (ps : List PlacedTable) → length (tables_of bytes ps) ≡ length ps
tables-length bytes [] = refl
tables-length bytes (p ∷ ps) = ap suc (tables-length bytes ps)

placed-more : (bytes : List ℕ) (ps : List PlacedTable) (p : PlacedTable) → AllPlaced bytes ps → IsPlaced bytes p → AllPlaced bytes (ps ++ p ∷ [])
placed-more bytes [] p all one = (one, tt)
placed-more bytes (x ∷ ps) p all one = (all.0, placed-more bytes ps p all.1 one)

pub grows-one : (bytes : List ℕ) (old new : List PlacedTable) (at : ℕ) (kept : Option (List Abbreviation)) → new ≡ old ++ record { at = at; kept = kept } ∷ []
    → Grows (tables_of bytes old) (tables_of bytes new)
grows-one bytes old new at kept e = record {
  more = abbreviations_at bytes at ∷ [];
  is = ap (tables_of bytes) e ∙ tables-more bytes old (record { at = at; kept = kept });
}

-- known tables
pub known-none : (d : DebugData) (numbers : ℕ → Option ℕ) (tables : List PlacedTable) → ((at : ℕ) → numbers at ≡ None) → tables ≡ [] → AreKnown d numbers tables
known-none d numbers tables none empty = record {
  placed = subst (AllPlaced d.base.abbrevs.bytes) (sym empty) tt;
  each = λ at number e. (let gone : None ≡ Some number = sym (none at) ∙ e in absurd cc);
}

pub known-there : (d : DebugData) (numbers : ℕ → Option ℕ) (tables : List PlacedTable) (at number : ℕ) → AreKnown d numbers tables → Some number ≡ numbers at
    → HasTableAt d (tables_of d.base.abbrevs.bytes tables) at number
known-there d numbers tables at number k e = k.each at number (sym e)

pub table-new : (d : DebugData) (old new : List PlacedTable) (at number : ℕ) (kept : Option (List Abbreviation)) → number ≡ length old
    → new ≡ old ++ record { at = at; kept = kept } ∷ [] → IsTable d.base.abbrevs.bytes at (abbreviations_at d.base.abbrevs.bytes at)
    → HasTableAt d (tables_of d.base.abbrevs.bytes new) at number
table-new d old new at number kept n e is = record {
  table = abbreviations_at d.base.abbrevs.bytes at;
  there = ap (λ (x : List PlacedTable). item_at (tables_of d.base.abbrevs.bytes x) number) e
      ∙ ap (λ (x : List (List Abbreviation)). item_at x number) (tables-more d.base.abbrevs.bytes old (record { at = at; kept = kept }))
      ∙ ap (item_at (tables_of d.base.abbrevs.bytes old ++ abbreviations_at d.base.abbrevs.bytes at ∷ [])) (n ∙ sym (tables-length d.base.abbrevs.bytes old))
      ∙ item-last (tables_of d.base.abbrevs.bytes old) (abbreviations_at d.base.abbrevs.bytes at);
  declares = is;
}

known-more : (d : DebugData) (before now : ℕ → Option ℕ) (old new : List PlacedTable) (at number : ℕ) (kept : Option (List Abbreviation)) → AreKnown d before old
    → number ≡ length old → new ≡ old ++ record { at = at; kept = kept } ∷ [] → IsPlaced d.base.abbrevs.bytes (record { at = at; kept = kept })
    → KeepsNumber before now at number → AreKnown d now new
known-more d before now old new at number kept k n e placed more = record {
  placed = subst (AllPlaced d.base.abbrevs.bytes) (sym e) (placed-more d.base.abbrevs.bytes old (record { at = at; kept = kept }) k.placed placed);
  each = λ o m f. by_offset o m (o == at) refl (sym (more.each o) ∙ f);
}
  where
    by_offset : (o m : ℕ) (b : Bool) → (o == at) ≡ b → (if b then Some number else before o) ≡ Some m → HasTableAt d (tables_of d.base.abbrevs.bytes new) o m
    by_offset o m true test f =
        let same : o ≡ at = grind (arith, nat_tests) in
        let own : number ≡ m = once number m f in
        subst (λ (x : ℕ). HasTableAt d (tables_of d.base.abbrevs.bytes new) x m) (sym same)
        (subst (HasTableAt d (tables_of d.base.abbrevs.bytes new) at) own (table-new d old new at number kept n e placed.stands))
      where
        once : (x y : ℕ) → Some x ≡ Some y → x ≡ y
        once x y e = cc
    by_offset o m false test f =
        table-kept d (tables_of d.base.abbrevs.bytes old) (tables_of d.base.abbrevs.bytes new) o m (grows-one d.base.abbrevs.bytes old new at kept e) (k.each o m f)

-- with a table that is kept, and with one that isn't
pub known-kept : (d : DebugData) (before now : ℕ → Option ℕ) (old new : List PlacedTable) (at number : ℕ) (t : List Abbreviation) → AreKnown d before old
    → number ≡ length old → new ≡ old ++ record { at = at; kept = Some t } ∷ [] → IsTable d.base.abbrevs.bytes at t → KeepsNumber before now at number → AreKnown d now new
known-kept d before now old new at number t k n e is more =
    known-more d before now old new at number (Some t) k n e (placed-kept d.base.abbrevs.bytes at t is) more

pub known-again : (d : DebugData) (before now : ℕ → Option ℕ) (old new : List PlacedTable) (at number : ℕ) → AreKnown d before old
    → number ≡ length old → new ≡ old ++ record { at = at; kept = None } ∷ [] → IsTable d.base.abbrevs.bytes at (abbreviations_at d.base.abbrevs.bytes at)
    → KeepsNumber before now at number → AreKnown d now new
known-again d before now old new at number k n e is more =
    known-more d before now old new at number None k n e (placed-again d.base.abbrevs.bytes at is) more

pub ruleset number_rules = (known-there, table-new, known-kept, known-again, grows-none, grows-one)
