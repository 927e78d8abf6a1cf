-- Laws of the name tables of a section: each is read in one way, and what refuses one excludes that all are read.
use Rattle.std.proofs.Common.{true, ◌≡◌, ℕ, ◌+◌, ◌<◌, ◌≤◌, List, [], ◌∷◌, ◌++◌, length, Option, Some, refl, sym, ap, ◌∙◌, subst, arith}
use Rattle.dw_base.specs.FileViews.{View}
use Rattle.dw_base.specs.Lebs.{initial_length_at}
use Rattle.dw_base.specs.Numbers.{spelled}
use Rattle.dw_base.specs.declared.fault.Refusal.{Refusal}
use Rattle.dw_base.specs.declared.shared.Order.{Order}
use Rattle.dw_base.specs.declared.shared.Width.{Width}
use Rattle.dw_base.proofs.ReachLaws.{Reaches, here, reach-more, Determined, Stops, stops-one}
use Rattle.dw_base.specs.NameTables.{table_from, IsNameTable, IsNamedTable, TablesUpTo, no_tables, more_tables, names_text}
use Rattle.dw_base.specs.NameHeaders.{name_counts, before_strings, from_strings}
use Rattle.dw_base.specs.NameTableFails.{TableFails, no_length, passes, no_counts, other_version, no_room, TextFails, no_text, NamedFails, table, texts, TablesFail, one}
use Rattle.dw_base.specs.declared.name_tables.NameTable.{NameTable}

-- tables that were read, up to a place
record TablesRead : Type 0 where
  list : List NameTable
  place : ℕ

abbrev read_to : List NameTable → ℕ → TablesRead
read_to list place = record { list = list; place = place }

-- one more
record NextTable (v : View) (section : ℕ) (bytes : List ℕ) (s t : TablesRead) : Type 0 where
  next_one : NameTable
  is : IsNamedTable v section bytes s.place next_one
  next : t ≡ read_to (s.list ++ next_one ∷ []) next_one.end

lengths-same : (l m : Width × ℕ × ℕ) (o : Option (Width × ℕ × ℕ)) → o ≡ Some l → o ≡ Some m → l ≡ m
lengths-same l m o e f = some-once l m (sym e ∙ f)
  where
    some-once : (l m : Width × ℕ × ℕ) → Some l ≡ Some m → l ≡ m
    some-once l m e = cc

-- the table at a place is one
table-same : (order : Order) (bytes : List ℕ) (start : ℕ) (t u : NameTable) → IsNameTable order bytes start t → IsNameTable order bytes start u → t ≡ u
table-same order bytes start t u m n =
    m.is ∙ ap (table_from order bytes start) (lengths-same m.lengths n.lengths (initial_length_at order bytes start) m.length_is n.length_is) ∙ sym n.is

next-determined : (v : View) (section : ℕ) (bytes : List ℕ) → Determined (NextTable v section bytes)
next-determined v section bytes s t u m n =
    let same : m.next_one ≡ n.next_one = table-same v.order bytes s.place m.next_one n.next_one m.is.table n.is.table in
    m.next ∙ ap (λ (x : NameTable). read_to (s.list ++ x ∷ []) x.end) same ∙ sym n.next

tables-reach : (v : View) (section : ℕ) (bytes : List ℕ) (list : List NameTable) (place : ℕ) → TablesUpTo v section bytes list place
    → Reaches (NextTable v section bytes) (read_to [] 0) (read_to list place)
tables-reach v section bytes list place no_tables = here (read_to [] 0)
tables-reach v section bytes list place (more_tables before t start u is) =
    reach-more (NextTable v section bytes) (read_to [] 0) (read_to before start) (read_to (before ++ t ∷ []) t.end) (tables-reach v section bytes before start u)
    (record { next_one = t; is = is; next = refl })

-- a table has a byte at least, so none starts at the section's end
end-stops : (v : View) (section : ℕ) (bytes : List ℕ) (list : List NameTable) → Stops (NextTable v section bytes) (read_to list (length bytes))
end-stops v section bytes list t n = omega (arith, n.is.table.header, n.is.table.within)

-- where a table is refused, none can be read
table-stops : (order : Order) (bytes : List ℕ) (section start : ℕ) (t : NameTable) (r : Refusal) → IsNameTable order bytes start t → TableFails order bytes section start r → ⊥
table-stops order bytes section start t r is (no_length e) =
    let some = is.length_is in
    cc
table-stops order bytes section start t r is (passes l e far) =
    let same : is.lengths ≡ l = lengths-same is.lengths l (initial_length_at order bytes start) is.length_is e in
    let end : t.end ≡ start + l.2 + l.1 = ap (λ (x : NameTable). x.end) is.is ∙ ap (λ (x : Width × ℕ × ℕ). start + x.2 + x.1) same in
    omega (arith, end, far, is.within)
table-stops order bytes section start t r is (no_counts l e short) =
    let same : is.lengths ≡ l = lengths-same is.lengths l (initial_length_at order bytes start) is.length_is e in
    let end : t.end ≡ start + l.2 + l.1 = ap (λ (x : NameTable). x.end) is.is ∙ ap (λ (x : Width × ℕ × ℕ). start + x.2 + x.1) same in
    let size : is.lengths.2 ≡ l.2 = ap (λ (x : Width × ℕ × ℕ). x.2) same in
    omega (arith, end, size, short, is.header)
table-stops order bytes section start t r is (other_version l e there other) =
    let same : is.lengths ≡ l = lengths-same is.lengths l (initial_length_at order bytes start) is.length_is e in
    other (ap (λ (x : Width × ℕ × ℕ). spelled order bytes (start + x.2) 2) (sym same) ∙ is.version)
table-stops order bytes section start t r is (no_room l e there short) =
    let same : is.lengths ≡ l = lengths-same is.lengths l (initial_length_at order bytes start) is.length_is e in
    let table_is : t ≡ table_from order bytes start l = is.is ∙ ap (table_from order bytes start) same in
    let end : t.end ≡ start + l.2 + l.1 = ap (λ (x : NameTable). x.end) table_is in
    let strings : t.strings ≡ start + l.2 + 32 + before_strings l.0 (name_counts order bytes (start + l.2)) = ap (λ (x : NameTable). x.strings) table_is in
    let parts : t.strings + from_strings l.0 (name_counts order bytes (start + l.2)) ≤ t.end =
    subst (λ (x : Width × ℕ × ℕ). t.strings + from_strings x.0 (name_counts order bytes (start + x.2)) ≤ t.end) same is.parts in
    omega (arith, end, strings, parts, short)

texts-stop : (v : View) (section : ℕ) (t : NameTable) (r : Refusal) → ((i : ℕ) → i < t.names → names_text v section t i ≡ true) → TextFails v section t r → ⊥
texts-stop v section t r all (no_text i lt before placed none) =
    let some : names_text v section t i ≡ true = all i lt in
    cc

named-stops : (v : View) (section : ℕ) (bytes : List ℕ) (start : ℕ) (t : NameTable) (r : Refusal) → IsNamedTable v section bytes start t → NamedFails v section bytes start r → ⊥
named-stops v section bytes start t r is (table f) = table-stops v.order bytes section start t r is.table f
named-stops v section bytes start t r is (texts u other f) =
    let same : t ≡ u = table-same v.order bytes start t u is.table other in
    texts-stop v section t r is.texts.all (subst (λ (x : NameTable). TextFails v section x r) (sym same) f)

-- the tables of a section exclude its refusals
pub tables-exclude : (v : View) (section : ℕ) (bytes : List ℕ) (list : List NameTable) (r : Refusal) → TablesUpTo v section bytes list (length bytes)
    → TablesFail v section bytes r → ⊥
tables-exclude v section bytes list r u (one before start some before_end f) =
    let stop : Stops (NextTable v section bytes) (read_to before start) = λ t n. named-stops v section bytes start n.next_one r n.is f in
    let same : read_to list (length bytes) ≡ read_to before start =
    stops-one (NextTable v section bytes) (next-determined v section bytes) (read_to [] 0) (read_to list (length bytes)) (read_to before start)
    (tables-reach v section bytes list (length bytes) u) (tables-reach v section bytes before start some) (end-stops v section bytes list) stop in
    let place : length bytes ≡ start = ap (λ (s : TablesRead). s.place) same in
    omega (arith, place, before_end)
