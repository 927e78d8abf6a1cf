-- A reference into the unit that is printed names the entry that its arena has at the place.
use Rattle.std.proofs.Common.{◌≡◌, ◌≢◌, ℕ, zero, suc, ◌+◌, ◌<◌, ◌≤◌, List, [], ◌∷◌, length, get_or, Bool, true, Option, Some, None, refl, sym, ap, ◌∙◌, subst, arith, if◌then◌else◌}
use Rattle.std.specs.Prelude.{IfSome}
use Rattle.std.proofs.lemmas.Bool.{eq-eqb, ne_eqb}
use Rattle.dw_base.specs.AbbreviationTables.{Abbreviation}
use Rattle.dw_base.specs.FileViews.{View}
use Rattle.dw_base.specs.LineMeanings.{item_at}
use Rattle.dw_base.specs.declared.units.Scanned.{Scanned}
use Rattle.dw_base.specs.declared.units.UnitHeader.{UnitHeader}
use Rattle.entry_arena.specs.UnitArenas.{AreOf, StartsAt}
use Rattle.entry_arena.specs.declared.arena.EntryNode.{EntryNode}
use Rattle.dw_attrs.specs.ArenaEntries.{HasArena}
use Rattle.dw_attrs.specs.EntryIndexes.{AreApart, end_key, start_key, unit_starts}
use Rattle.dw_attrs.specs.UnitValues.{SaidUnit, entry_number, lies_in, named_in, number_in, or_behind, unit_entries}
use Rattle.dw_attrs.specs.UnitReads.{SourceFits}
use Rattle.dw_units.specs.declared.listed_unit.ListedUnit.{ListedUnit}
use Rattle.dw_attrs.proofs.ArenaCountLaws.{count-of, offset-of}
use Rattle.dw_attrs.proofs.EntryListLaws.{entries-are}
use Rattle.dw_attrs.proofs.SaidUnitLaws.{own-short}
use Rattle.dw_attrs.proofs.IndexUnitLaws.{climbs-from, here_at, key-lies, only-unit, starts-climb, unit_here}

abbrev no_entry : Scanned
no_entry = record { offset = 0; depth = 0; code = 0; after = 0 }

-- a unit as it was read from its fields
pub own-arena : (u w : SaidUnit) (nodes : List EntryNode) → w ≡ u → HasArena w nodes → HasArena u nodes
own-arena u w nodes same has = subst (λ (x : SaidUnit). HasArena x nodes) same has

-- the unit of a number, among where units start
own-unit : (x u : ListedUnit) → Some x ≡ Some u → x ≡ u
own-unit x u e = cc

own-inside : (us : List ListedUnit) (k : ℕ) (u : ListedUnit) → item_at us k ≡ Some u → k < length (unit_starts us)
own-inside [] k u e = absurd cc
own-inside (x ∷ us) zero u e = omega arith
own-inside (x ∷ us) (suc k) u e =
    let rest = own-inside us k u e in
    omega (arith, rest)

own-starts : (us : List ListedUnit) (k : ℕ) (u : ListedUnit) → item_at us k ≡ Some u → get_or (unit_starts us) k 0 ≡ start_key u.header
own-starts [] k u e = absurd cc
own-starts (x ∷ us) zero u e = ap (λ (y : ListedUnit). start_key y.header) (own-unit x u e)
own-starts (x ∷ us) (suc k) u e = own-starts us k u e

own-here : (v : View) (tables : List (List Abbreviation)) (us : List ListedUnit) (k : ℕ) (u : ListedUnit) (section place : ℕ) → item_at us k ≡ Some u
    → here_at v tables us k section place ≡ unit_here v tables u section place
own-here v tables [] k u section place e = absurd cc
own-here v tables (x ∷ us) zero u section place e = ap (λ (y : ListedUnit). unit_here v tables y section place) (own-unit x u e)
own-here v tables (x ∷ us) (suc k) u section place e = own-here v tables us k u section place e

own-behind : (p : ℕ) (us : List ListedUnit) (q k j : ℕ) (u : ListedUnit) → AreApart p us q → item_at us k ≡ Some u → k < j → j < length (unit_starts us)
    → end_key u.header ≤ get_or (unit_starts us) j 0
own-behind p [] q k j u a e above lt = absurd cc
own-behind p (x ∷ us) q k zero u a e above lt = absurd (omega (arith, above))
own-behind p (x ∷ us) q zero (suc j) u a e above lt =
    let last : end_key x.header ≤ get_or (unit_starts us) j 0 = climbs-from (end_key x.header) (unit_starts us) j (starts-climb (end_key x.header) us q a.2) (omega (arith, lt)) in
    subst (λ (y : ListedUnit). end_key y.header ≤ get_or (unit_starts us) j 0) (own-unit x u e) last
own-behind p (x ∷ us) q (suc k) (suc j) u a e above lt = own-behind (end_key x.header) us q k j u a.2 e (omega (arith, above)) (omega (arith, lt))

-- a place in it names an entry of it
named-own : (v : View) (tables : List (List Abbreviation)) (us : List ListedUnit) (q k : ℕ) (u : ListedUnit) (section place : ℕ) → AreApart 0 us q → item_at us k ≡ Some u
    → lies_in u.header section place ≡ true → named_in v tables 0 us section place ≡ or_behind k (number_in v u.header place (item_at tables u.table)) None
named-own v tables us q k u section place a e lies =
    let at = key-lies u.header section place lies in
    let from = at.0 in
    let to = at.1 in
    let starts = own-starts us k u e in
    let same : 0 + k ≡ k = omega arith in
    only-unit v tables 0 0 us q k section place a (own-inside us k u e) (omega (arith, starts, from))
    (λ j above lt. (let behind = own-behind 0 us q k j u a e above lt in omega (arith, behind, to)))
    ∙ ap (λ (m : ℕ). or_behind m (here_at v tables us k section place) None) same
    ∙ ap (λ (o : Option ℕ). or_behind k o None)
    (own-here v tables us k u section place e ∙ ap (λ (b : Bool). if b then number_in v u.header place (item_at tables u.table) else None) lies)

-- the number of a place among entries
entry-found : (es : List Scanned) (n place k : ℕ) → k < length es → (get_or es k no_entry).offset ≡ place → ((i : ℕ) → i < k → (get_or es i no_entry).offset ≢ place)
    → entry_number n place es ≡ Some (n + k)
entry-found [] n place k lt is others = absurd (omega (arith, lt))
entry-found (e ∷ es) n place zero lt is others =
    let same : n ≡ n + 0 = omega arith in
    ap (λ (b : Bool). if b then Some n else entry_number (n + 1) place es) (eq-eqb e.offset place is) ∙ ap (λ (m : ℕ). Some m) same
entry-found (e ∷ es) n place (suc k) lt is others =
    let same : n + 1 + k ≡ n + suc k = omega arith in
    ap (λ (b : Bool). if b then Some n else entry_number (n + 1) place es) (ne_eqb e.offset place (others 0 (omega arith)))
    ∙ entry-found es (n + 1) place k (omega (arith, lt)) is (λ i below. others (suc i) (omega (arith, below))) ∙ ap (λ (m : ℕ). Some m) same

entry-absent : (es : List Scanned) (n place : ℕ) → ((k : ℕ) → k < length es → (get_or es k no_entry).offset ≢ place) → entry_number n place es ≡ None
entry-absent [] n place others = refl
entry-absent (e ∷ es) n place others =
    ap (λ (b : Bool). if b then Some n else entry_number (n + 1) place es) (ne_eqb e.offset place (others 0 (omega arith)))
    ∙ entry-absent es (n + 1) place (λ k lt. others (suc k) (omega (arith, lt)))

-- so it is that of the node that starts there
node-starts : (table : List Abbreviation) (nodes : List EntryNode) (es : List Scanned) (place k : ℕ) → AreOf table nodes es → k < length es → (get_or es k no_entry).offset ≡ place
    → StartsAt nodes place k
node-starts table nodes es place k are lt is =
    let count = count-of table nodes es are in
    let inside : k < length nodes = omega (arith, lt, count) in
    record { inside = inside; is = offset-of table nodes es k no_entry are inside ∙ is }

nodes-number : (table : List Abbreviation) (nodes : List EntryNode) (es : List Scanned) (place : ℕ) (o : Option ℕ) → AreOf table nodes es → IfSome o (StartsAt nodes place)
    → ((k : ℕ) → StartsAt nodes place k → o ≡ Some k) → entry_number 0 place es ≡ o
nodes-number table nodes es place None are found inverse =
    entry-absent es 0 place (λ k lt is. (let none : None ≡ Some k = inverse k (node-starts table nodes es place k are lt is) in absurd cc))
nodes-number table nodes es place (Some k) are found inverse =
    let count = count-of table nodes es are in
    let inside = found.inside in
    let lt : k < length es = omega (arith, inside, count) in
    let same : 0 + k ≡ k = omega arith in
    entry-found es 0 place k lt (sym (offset-of table nodes es k no_entry are inside) ∙ found.is) (λ i below is. omega (arith, below, one i below is))
    ∙ ap (λ (m : ℕ). Some m) same
  where
    some-same : (p q : ℕ) → Some p ≡ Some q → p ≡ q
    some-same p q e = cc

    one : (i : ℕ) → i < k → (get_or es i no_entry).offset ≡ place → k ≡ i
    one i below is =
        let count = count-of table nodes es are in
        let inside = found.inside in
        some-same k i (inverse i (node-starts table nodes es place i are (omega (arith, below, inside, count)) is))

pub number-own : (u w : SaidUnit) (nodes : List EntryNode) (place : ℕ) (o : Option ℕ) → w ≡ u → HasArena w nodes → IfSome o (StartsAt nodes place)
    → ((k : ℕ) → StartsAt nodes place k → o ≡ Some k) → o ≡ entry_number 0 place (unit_entries u.header u.table u.bytes)
number-own u w nodes place o same has found inverse =
    let a = (own-arena u w nodes same has).arena in
    sym (nodes-number u.table nodes a.entries place o a.nodes_are found inverse)
    ∙ ap (entry_number 0 place) (sym (entries-are u.header u.table u.bytes a.entries (own-short u (own-arena u w nodes same has).bytes_are) a.are))

-- a place in the unit names an entry of it
pub place-named : (u w : SaidUnit) (nodes : List EntryNode) (place : ℕ) (o : Option ℕ) → w ≡ u → HasArena w nodes → SourceFits u.source
    → lies_in w.header w.header.section place ≡ true → o ≡ entry_number 0 place (unit_entries u.header u.table u.bytes)
    → or_behind w.number o None ≡ named_in u.source.view u.source.tables 0 u.source.units u.header.section place
place-named u w nodes place o same has fits lies is =
    let own = own-arena u w nodes same has in
    let n = own.numbered in
    let inside : lies_in u.header u.header.section place ≡ true = subst (λ (x : SaidUnit). lies_in x.header x.header.section place ≡ true) same lies in
    let at : lies_in n.unit.header u.header.section place ≡ true = subst (λ (h : UnitHeader). lies_in h u.header.section place ≡ true) (sym n.header_is) inside in
    ap (λ (x : SaidUnit). or_behind x.number o None) same
    ∙ ap (λ (x : Option ℕ). or_behind u.number x None)
    (is ∙ ap (λ (bs : List ℕ). entry_number 0 place (unit_entries u.header u.table bs)) own.bytes_are
    ∙ ap (λ (h : UnitHeader). number_in u.source.view h place (Some u.table)) (sym n.header_is)
    ∙ ap (number_in u.source.view n.unit.header place) (sym n.table_is))
    ∙ sym (named-own u.source.view u.source.tables u.source.units fits.apart.end u.number n.unit u.header.section place fits.apart.apart n.there at)
