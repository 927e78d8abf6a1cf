-- Counting one after another: what was counted, and what is left.
use Rattle.std.proofs.Common.{◌≡◌, ℕ, ◌+◌, ◌<◌, ◌≤◌, ◌^◌, List, [], ◌∷◌, ◌++◌, length, drop, get_or, Some, sym, ap, ◌∙◌, subst, arith, length-append}
use Rattle.std.proofs.lemmas.List.{drop_all}
use Rattle.dw_base.specs.AbbreviationTables.{Abbreviation}
use Rattle.dw_base.specs.FileViews.{View}
use Rattle.dw_base.specs.LineMeanings.{item_at}
use Rattle.dw_base.specs.LineTables.{LineTable}
use Rattle.dw_base.specs.declared.line_rows.Row.{Row}
use Rattle.dw_base.specs.declared.units.Scanned.{Scanned}
use Rattle.dw_base.specs.declared.units.UnitHeader.{UnitHeader}
use Rattle.dw_entries.specs.ScanStates.{ScanState, GivesEntry, GivesNothing}
use Rattle.dw_rows.specs.TableRows.{IsTableIn, table_rows}
use Rattle.dw_units.specs.UnitLists.{IsTableOf, Units}
use Rattle.dw_units.specs.declared.listed_unit.ListedUnit.{ListedUnit}
use Rattle.dw_units.proofs.UnitTableLaws.{unit-table}
use Rattle.dbg_show.proofs.LoopLaws.{drop-front}
use Rattle.dbg_show.specs.ReadTables.{AllIn}
use Rattle.dw_attrs.specs.UnitValues.{unit_bytes, unit_entries}
use Rattle.dw_attrs.proofs.EntryListLaws.{Fronts, PassAt, pass-ends, pass-front}
use Rattle.dw_attrs.proofs.EntryPassLaws.{bytes-short}
use Rattle.dbg_show.proofs.ReadLaws.{table-in}
use Rattle.dbg_exercise.specs.ViewCounts.{entries_listed, rows_listed, tabled_count}

-- a pass over a unit has given no more entries than the unit has
pub pass-fits : (v : View) (h : UnitHeader) (table : List Abbreviation) (s u : ScanState) (number : ℕ) (e : Scanned) → PassAt h table (unit_bytes v h) s number → GivesEntry s e u
    → number + 1 ≤ length (unit_entries h table (unit_bytes v h))
pass-fits v h table s u number e p g =
    let f : Fronts h table (unit_bytes v h) (p.items ++ e ∷ []) = pass-front h table (unit_bytes v h) s u number e p g in
    let whole = ap length f.is in
    let parts = length-append (p.items ++ e ∷ []) f.rest in
    let front = length-append p.items (e ∷ []) in
    let count = p.count in
    omega (arith, whole, parts, front, count)

-- and at its end it has given all
pub pass-counted : (v : View) (h : UnitHeader) (table : List Abbreviation) (s u : ScanState) (number : ℕ) → PassAt h table (unit_bytes v h) s number → GivesNothing s u
    → number ≡ length (unit_entries h table (unit_bytes v h))
pass-counted v h table s u number p g = p.count ∙ ap length (sym (pass-ends h table (unit_bytes v h) s u number p g (bytes-short v h)))

-- the entries of a unit of a number are those with its table
pub listed-counted : (v : View) (us : Units) (n : ℕ) (u : ListedUnit) (t s : List Abbreviation) → IsTableOf us n t → item_at us.units n ≡ Some u → s ≡ t
    → length (unit_entries u.header s (unit_bytes v u.header)) ≡ tabled_count v u.header (item_at us.tables u.table)
listed-counted v us n u t s of there same = ap (tabled_count v u.header) (sym (unit-table us n u t s of there same))

-- units one after another
pub entries-one : (v : View) (tables : List (List Abbreviation)) (us : List ListedUnit) (i : ℕ) (d : ListedUnit) → i < length us
    → entries_listed v tables (drop i us) ≡ tabled_count v (get_or us i d).header (item_at tables (get_or us i d).table) + entries_listed v tables (drop (i + 1) us)
entries-one v tables us i d lt = ap (entries_listed v tables) (drop-front us i d lt)

pub entries-start : (v : View) (tables : List (List Abbreviation)) (us : List ListedUnit) → 0 + entries_listed v tables (drop 0 us) ≡ entries_listed v tables us
entries-start v tables us = omega arith

pub entries-more : (v : View) (tables : List (List Abbreviation)) (us : List ListedUnit) (i count one total : ℕ) (d : ListedUnit)
    → count + entries_listed v tables (drop i us) ≡ total → i < length us → one ≡ tabled_count v (get_or us i d).header (item_at tables (get_or us i d).table)
    → count + one + entries_listed v tables (drop (i + 1) us) ≡ total
entries-more v tables us i count one total d left lt is = omega (arith, left, is, entries-one v tables us i d lt)

pub entries-over : (v : View) (tables : List (List Abbreviation)) (us : List ListedUnit) (i count total : ℕ) → count + entries_listed v tables (drop i us) ≡ total → length us ≤ i
    → count ≡ total
entries-over v tables us i count total left past =
    let none : entries_listed v tables (drop i us) ≡ 0 = ap (entries_listed v tables) (drop_all i us past) in
    omega (arith, left, none)

pub entries-few : (v : View) (tables : List (List Abbreviation)) (us : List ListedUnit) (i count total : ℕ) (d : ListedUnit)
    → count + entries_listed v tables (drop i us) ≡ total → i < length us
    → count + tabled_count v (get_or us i d).header (item_at tables (get_or us i d).table) ≤ total
entries-few v tables us i count total d left lt = omega (arith, left, entries-one v tables us i d lt)

pub entries-fit : (v : View) (tables : List (List Abbreviation)) (us : List ListedUnit) (i count total : ℕ) (d : ListedUnit)
    → count + entries_listed v tables (drop i us) ≡ total → i < length us → total < 2 ^ 64
    → tabled_count v (get_or us i d).header (item_at tables (get_or us i d).table) < 2 ^ 64
entries-fit v tables us i count total d left lt small = omega (arith, entries-few v tables us i count total d left lt, small)

pub ruleset entry_laws = (entries-start, entries-more, entries-over)

-- rows one after another
pub rows-start : (rows all : List Row) → rows ≡ all → 0 + length rows ≡ length all
rows-start rows all is = (let same = ap length is in omega (arith, same))

pub rows-more : (left rest : List Row) (row : Row) (count total : ℕ) → count + length left ≡ total → left ≡ row ∷ rest → count + 1 + length rest ≡ total
rows-more left rest row count total is first = (let same = ap length first in omega (arith, is, same))

pub rows-few : (left rest : List Row) (row : Row) (count total : ℕ) → count + length left ≡ total → left ≡ row ∷ rest → count + 1 ≤ total
rows-few left rest row count total is first = (let same = ap length first in omega (arith, is, same))

pub rows-over : (left : List Row) (count total : ℕ) → count + length left ≡ total → left ≡ [] → count ≡ total
rows-over left count total is none = (let same = ap length none in omega (arith, is, same))

pub ruleset row_laws = (rows-start, rows-more, rows-few, rows-over)

-- tables one after another
tables-one : (v : View) (ts : List LineTable) (i : ℕ) (d : LineTable) → i < length ts
    → rows_listed v (drop i ts) ≡ length (table_rows v (get_or ts i d)) + rows_listed v (drop (i + 1) ts)
tables-one v ts i d lt = ap (rows_listed v) (drop-front ts i d lt)

pub tables-start : (v : View) (ts : List LineTable) → 0 + rows_listed v (drop 0 ts) ≡ rows_listed v ts
tables-start v ts = omega arith

pub tables-more : (v : View) (ts : List LineTable) (i count one total : ℕ) (d : LineTable) → count + rows_listed v (drop i ts) ≡ total → i < length ts
    → one ≡ length (table_rows v (get_or ts i d)) → count + one + rows_listed v (drop (i + 1) ts) ≡ total
tables-more v ts i count one total d left lt is = omega (arith, left, is, tables-one v ts i d lt)

pub tables-over : (v : View) (ts : List LineTable) (i count total : ℕ) → count + rows_listed v (drop i ts) ≡ total → length ts ≤ i → count ≡ total
tables-over v ts i count total left past =
    let none : rows_listed v (drop i ts) ≡ 0 = ap (rows_listed v) (drop_all i ts past) in
    omega (arith, left, none)

pub table-there : (v : View) (ts : List LineTable) (i : ℕ) (d t : LineTable) → AllIn v ts → i < length ts → t ≡ get_or ts i d → IsTableIn v t
table-there v ts i d t all lt is = subst (IsTableIn v) (sym is) (table-in v ts i d all lt)

pub ruleset table_laws = (tables-start, tables-more, tables-over)
