-- Name tables whose string offsets can be read exclude what refuses them.
use Rattle.std.proofs.Common.{◌≡◌, ℕ, List, [], ◌∷◌, ◌++◌, length, Option, Some, refl, sym, ap, ◌∙◌, subst, arith}
use Rattle.std.specs.Prelude.{Result, Ok, Err}
use Rattle.dw_base.specs.FileViews.{View, field_at}
use Rattle.dw_base.specs.Forms.{width_size}
use Rattle.dw_base.specs.Lebs.{initial_length_at}
use Rattle.dw_base.specs.NameTables.{table_from, IsNameTable, IsNamedTable, string_place}
use Rattle.dw_base.specs.declared.fault.Refusal.{Refusal}
use Rattle.dw_base.specs.declared.name_tables.NameTable.{NameTable}
use Rattle.dw_base.specs.declared.shared.Order.{Order}
use Rattle.dw_base.specs.declared.shared.Width.{Width}
use Rattle.dw_base.specs.declared.view_fields.Field.{Field}
use Rattle.dw_base.proofs.NameRowLaws.{tables-exclude}
use Rattle.dw_base.proofs.ReachLaws.{Reaches, here, reach-more, Determined, Stops, stops-one}
use Rattle.dw_base.specs.NameOffsets.{OffsetsRead, ReadUpTo, none_read, more_read, OffsetRefuses, no_offset, TablesRefuse, tables, offsets}
use Rattle.dw_base.specs.ViewOffsets.{offset_read}
use Rattle.dw_offsets.proofs.NameListLaws.{read-tables}

-- tables that were read, up to a place, and one more
record TablesRead : Type 0 where
  list : List NameTable
  place : ℕ

abbrev read_to : List NameTable → ℕ → TablesRead
read_to list place = record { list = list; place = place }

record NextRead (v : View) (section : ℕ) (bytes : List ℕ) (s t : TablesRead) : Type 0 where
  next_one : NameTable
  is : IsNamedTable v section bytes s.place next_one
  reads : OffsetsRead v section next_one next_one.names
  next : t ≡ read_to (s.list ++ next_one ∷ []) next_one.end

lengths-same : (l m : Width × ℕ × ℕ) (o : Option (Width × ℕ × ℕ)) → o ≡ Some l → o ≡ Some m → l ≡ m
lengths-same l m o e f = some-once l m (sym e ∙ f)
  where
    some-once : (l m : Width × ℕ × ℕ) → Some l ≡ Some m → l ≡ m
    some-once l m e = cc

-- the table at a place is one
table-same : (order : Order) (bytes : List ℕ) (start : ℕ) (t u : NameTable) → IsNameTable order bytes start t → IsNameTable order bytes start u → t ≡ u
table-same order bytes start t u m n =
    m.is ∙ ap (table_from order bytes start) (lengths-same m.lengths n.lengths (initial_length_at order bytes start) m.length_is n.length_is) ∙ sym n.is

next-determined : (v : View) (section : ℕ) (bytes : List ℕ) → Determined (NextRead v section bytes)
next-determined v section bytes s t u m n =
    let same : m.next_one ≡ n.next_one = table-same v.order bytes s.place m.next_one n.next_one m.is.table n.is.table in
    m.next ∙ ap (λ (x : NameTable). read_to (s.list ++ x ∷ []) x.end) same ∙ sym n.next

tables-reach : (v : View) (section : ℕ) (bytes : List ℕ) (list : List NameTable) (place : ℕ) → ReadUpTo v section bytes list place
    → Reaches (NextRead v section bytes) (read_to [] 0) (read_to list place)
tables-reach v section bytes list place none_read = here (read_to [] 0)
tables-reach v section bytes list place (more_read before t start u is reads) =
    reach-more (NextRead v section bytes) (read_to [] 0) (read_to before start) (read_to (before ++ t ∷ []) t.end) (tables-reach v section bytes before start u)
    (record { next_one = t; is = is; reads = reads; next = refl })

-- a table has a byte at least, so none starts at the section's end
end-stops : (v : View) (section : ℕ) (bytes : List ℕ) (list : List NameTable) → Stops (NextRead v section bytes) (read_to list (length bytes))
end-stops v section bytes list t n = omega (arith, n.is.table.header, n.is.table.within)

-- where a string offset is refused, not all of them can be read
ok-err : (f : Field) (r : Refusal) (x : Result Field Refusal) → x ≡ Ok f → x ≡ Err r → ⊥
ok-err f r x e g = by_kind (sym e ∙ g)
  where
    by_kind : ◌≡◌ {A = Result Field Refusal} (Ok f) (Err r) → ⊥
    by_kind h = cc

offset-stops : (v : View) (section : ℕ) (t : NameTable) (r : Refusal) → OffsetsRead v section t t.names → OffsetRefuses v section t r → ⊥
offset-stops v section t r reads (no_offset i lt texts before e) =
    ok-err (field_at v section (string_place t i) (width_size t.width)) r (offset_read v section (string_place t i) (width_size t.width)) (reads.all i lt) e

pub tables-exclude-all : (v : View) (section : ℕ) (bytes : List ℕ) (list : List NameTable) (r : Refusal) → ReadUpTo v section bytes list (length bytes)
    → TablesRefuse v section bytes r → ⊥
tables-exclude-all v section bytes list r u (tables f) = tables-exclude v section bytes list r (read-tables v section bytes list (length bytes) u) f
tables-exclude-all v section bytes list r u (offsets before start t some before_end is f) =
    let stop : Stops (NextRead v section bytes) (read_to before start) =
    λ s n. offset-stops v section n.next_one r n.reads
    (subst (λ (x : NameTable). OffsetRefuses v section x r) (table-same v.order bytes start t n.next_one is n.is.table) f) in
    let same : read_to list (length bytes) ≡ read_to before start =
    stops-one (NextRead v section bytes) (next-determined v section bytes) (read_to [] 0) (read_to list (length bytes)) (read_to before start)
    (tables-reach v section bytes list (length bytes) u) (tables-reach v section bytes before start some) (end-stops v section bytes list) stop in
    let place : length bytes ≡ start = ap (λ (s : TablesRead). s.place) same in
    omega (arith, place, before_end)
