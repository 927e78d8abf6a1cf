-- The name tables of a view can be read, with their string offsets, or a condition holds (DWARF 5, 6.1.1.4).
use Rattle.std.specs.Prelude.{Result, Ok, Err}
use Rattle.std.proofs.Common.{true, false, ◌≡◌, ◌≢◌, ◌⊎◌, inl, inr, ℕ, zero, suc, ◌+◌, ◌<◌, ◌≤◌, List, [], ◌∷◌, ◌++◌, length, Some, refl, subst, arith}
use Rattle.std.proofs.lemmas.Bool.{cases_Bool, cases_eq, cases_lt}
use Rattle.dw_base.specs.FileViews.{View, field_at}
use Rattle.dw_base.specs.Forms.{width_size}
use Rattle.dw_base.specs.Lebs.{initial_length_at}
use Rattle.dw_base.specs.NameHeaders.{before_strings, from_strings, name_counts}
use Rattle.dw_base.specs.NameOffsets.{NamesRefuse, OffsetsRead, ReadUpTo, TableRefuses, TablesRefuse, TextRefuses, more_read, names_none, no_offset, none_read, reads_none}
use Rattle.dw_base.specs.NameOffsets.TableRefuses.{offset_fails, table_fails}
use Rattle.dw_base.specs.NameOffsets.TablesRefuse.{offsets, tables}
use Rattle.dw_base.specs.NameTableFails.{TableFails, no_counts, no_length, no_room, no_text, one, other_version, passes}
use Rattle.dw_base.specs.NameTableFails.NamedFails.{table, texts}
use Rattle.dw_base.specs.NameTables.{IsNameTable, NamesTexts, names_of, names_text, string_place, table_from}
use Rattle.dw_base.specs.Numbers.{spelled}
use Rattle.dw_base.specs.Refusals.{at}
use Rattle.dw_base.specs.ViewOffsets.{offset_read}
use Rattle.dw_base.specs.declared.fault.Kind.TheVariants.{NameTable as NameTableKind, StringOffset}
use Rattle.dw_base.specs.declared.fault.Refusal.{Refusal}
use Rattle.dw_base.specs.declared.name_tables.NameTable.{NameTable}
use Rattle.dw_base.specs.declared.shared.Order.{Order}
use Rattle.dw_base.specs.declared.shared.Width.{Width}
use Rattle.dw_base.specs.declared.view_fields.Field.{Field}
use Rattle.dw_base.proofs.ViewOffsetLaws.{OffsetIs, offset-is}
use Rattle.dw_offsets.proofs.NameListLaws.{read-tables}
use Rattle.refusal_laws.proofs.Decisions.{length-decided}
use Rattle.refusal_laws.specs.Decided.{Both, Decided, refused, taken}
use Rattle.refusal_laws.specs.Readable.{HasNameTables}

-- ### A table

-- a table that can be read starts at a place, and has bytes
record HasTableThere (order : Order) (bytes : List ℕ) (start : ℕ) : Type 0 where
  table : NameTable
  is : IsNameTable order bytes start table
  some : start < table.end

parts-known : (order : Order) (bytes : List ℕ) (section start : ℕ) (l : Width × ℕ × ℕ) → initial_length_at order bytes start ≡ Some l → start + l.2 + l.1 ≤ length bytes → 32 ≤ l.1
    → Decided (HasTableThere order bytes start) (TableFails order bytes section start)
parts-known order bytes section start l e within room =
    by (cases_eq (spelled order bytes (start + l.2) 2) 5)
    (cases_lt l.1 (32 + before_strings l.0 (name_counts order bytes (start + l.2)) + from_strings l.0 (name_counts order bytes (start + l.2))))
  where
    by : (spelled order bytes (start + l.2) 2 ≡ 5) ⊎ (spelled order bytes (start + l.2) 2 ≢ 5)
        → (l.1 < 32 + before_strings l.0 (name_counts order bytes (start + l.2)) + from_strings l.0 (name_counts order bytes (start + l.2)))
        ⊎ (32 + before_strings l.0 (name_counts order bytes (start + l.2)) + from_strings l.0 (name_counts order bytes (start + l.2)) ≤ l.1)
        → Decided (HasTableThere order bytes start) (TableFails order bytes section start)
    by (inr other) p = refused (at NameTableKind section start) (other_version l e (omega (arith, within, room)) other)
    by (inl five) (inl short) = refused (at NameTableKind section start) (no_room l e (omega (arith, within, room)) short)
    by (inl five) (inr fits) =
        taken (record {
          table = table_from order bytes start l;
          is = record {
            lengths = l;
            length_is = e;
            is = refl;
            within = within;
            header = omega (arith, room);
            version = five;
            parts = omega (arith, fits);
          };
          some = omega (arith, room);
        })

table-known : (order : Order) (bytes : List ℕ) (section start : ℕ) → Decided (HasTableThere order bytes start) (TableFails order bytes section start)
table-known order bytes section start =
    length-decided order bytes start 32 (at NameTableKind section start) (λ e. no_length e) (λ l e far. passes l e far) (λ l e short. no_counts l e short)
    (λ l e within room. parts-known order bytes section start l e within room)

-- ### Its string offsets

abbrev TextsRead : View → ℕ → NameTable → ℕ → Type 0
TextsRead v section t n = Both (NamesTexts v section t n) (OffsetsRead v section t n)

-- one more
one-more : (v : View) (section : ℕ) (t : NameTable) (i : ℕ) → NamesTexts v section t i → OffsetsRead v section t i → names_text v section t i ≡ true
    → offset_read v section (string_place t i) (width_size t.width) ≡ Ok (field_at v section (string_place t i) (width_size t.width)) → TextsRead v section t (suc i)
one-more v section t i names reads own field = record {
  first = record {
    all = λ (j : ℕ) (lt : j < suc i). elim (cases_lt j i) [
      | inl below ↦ names.all j below
      | inr past ↦ let same : i ≡ j = omega (arith, lt, past) in subst (λ (k : ℕ). names_text v section t k ≡ true) same own
    ];
  };
  second = record {
    all = λ (j : ℕ) (lt : j < suc i). elim (cases_lt j i) [
      | inl below ↦ reads.all j below
      | inr past ↦ let same : i ≡ j = omega (arith, lt, past) in
          subst (λ (k : ℕ). offset_read v section (string_place t k) (width_size t.width) ≡ Ok (field_at v section (string_place t k) (width_size t.width))) same field
    ];
  };
}

-- from one on, with as many as are left
texts-from : (v : View) (section : ℕ) (t : NameTable) (left i : ℕ) → i + left ≡ t.names → NamesTexts v section t i → OffsetsRead v section t i
    → Decided (TextsRead v section t t.names) (TextRefuses v section t)
texts-from v section t zero i count names reads =
    let all : i ≡ t.names = omega (arith, count) in
    taken (subst (TextsRead v section t) all (record { first = names; second = reads }))
texts-from v section t (suc left) i count names reads =
    by (offset_read v section (string_place t i) (width_size t.width)) refl
    (λ n. texts-from v section t left (suc i) (omega (arith, count)) n.first n.second)
  where
    by_name : (f : Field) → offset_read v section (string_place t i) (width_size t.width) ≡ Ok f → (TextsRead v section t (suc i) → Decided (TextsRead v section t t.names) (TextRefuses v section t))
        → (names_text v section t i ≡ true) ⊎ (names_text v section t i ≡ false) → Decided (TextsRead v section t t.names) (TextRefuses v section t)
    by_name f e go (inr none) =
        let is : OffsetIs v section (string_place t i) (width_size t.width) f = offset-is v section (string_place t i) (width_size t.width) f e in
        refused (at StringOffset section (string_place t i)) (names_none (no_text i (omega (arith, count)) names is.placed none))
    by_name f e go (inl own) =
        let is : OffsetIs v section (string_place t i) (width_size t.width) f = offset-is v section (string_place t i) (width_size t.width) f e in
        go (one-more v section t i names reads own
        (subst (λ (g : Field). offset_read v section (string_place t i) (width_size t.width) ≡ Ok g) is.same e))

    by : (x : Result Field Refusal) → offset_read v section (string_place t i) (width_size t.width) ≡ x
        → (TextsRead v section t (suc i) → Decided (TextsRead v section t t.names) (TextRefuses v section t)) → Decided (TextsRead v section t t.names) (TextRefuses v section t)
    by (Err r) e go = refused r (reads_none (no_offset i (omega (arith, count)) names reads e))
    by (Ok f) e go = by_name f e go (cases_Bool (names_text v section t i))

texts-known : (v : View) (section : ℕ) (t : NameTable) → Decided (TextsRead v section t t.names) (TextRefuses v section t)
texts-known v section t =
    texts-from v section t t.names 0 (omega arith) (record { all = λ (i : ℕ) (lt : i < 0). absurd (omega (arith, lt)) }) (record { all = λ (i : ℕ) (lt : i < 0). absurd (omega (arith, lt)) })

-- ### All tables

-- a table with its string offsets
record HasReadTable (v : View) (section : ℕ) (bytes : List ℕ) (start : ℕ) : Type 0 where
  own : HasTableThere v.order bytes start
  read : TextsRead v section own.table own.table.names

texts-fail : (v : View) (section : ℕ) (bytes : List ℕ) (start : ℕ) (t : NameTable) (r : Refusal) → IsNameTable v.order bytes start t → TextRefuses v section t r
    → TableRefuses v section bytes start r
texts-fail v section bytes start t r is (names_none f) = table_fails (texts t is f)
texts-fail v section bytes start t r is (reads_none f) = offset_fails t is f

read-known : (v : View) (section : ℕ) (bytes : List ℕ) (start : ℕ) → Decided (HasReadTable v section bytes start) (TableRefuses v section bytes start)
read-known v section bytes start = by (table-known v.order bytes section start)
  where
    by_texts : (t : HasTableThere v.order bytes start) → Decided (TextsRead v section t.table t.table.names) (TextRefuses v section t.table)
        → Decided (HasReadTable v section bytes start) (TableRefuses v section bytes start)
    by_texts t (refused r f) = refused r (texts-fail v section bytes start t.table r t.is f)
    by_texts t (taken read) = taken (record { own = t; read = read })

    by : Decided (HasTableThere v.order bytes start) (TableFails v.order bytes section start) → Decided (HasReadTable v section bytes start) (TableRefuses v section bytes start)
    by (refused r f) = refused r (table_fails (table f))
    by (taken t) = by_texts t (texts-known v section t.table)

table-refuses : (v : View) (section : ℕ) (bytes : List ℕ) (list : List NameTable) (start : ℕ) (r : Refusal) → ReadUpTo v section bytes list start → start < length bytes
    → TableRefuses v section bytes start r → TablesRefuse v section bytes r
table-refuses v section bytes list start r u before (table_fails f) = tables (one list start (read-tables v section bytes list start u) before f)
table-refuses v section bytes list start r u before (offset_fails t is f) = offsets list start t u before is f

-- tables fill the bytes of a section
record Fill (v : View) (section : ℕ) (bytes : List ℕ) : Type 0 where
  list : List NameTable
  are : ReadUpTo v section bytes list (length bytes)

-- from a place on, with as many steps as there are bytes
tables-from : (v : View) (section : ℕ) (bytes : List ℕ) (steps : ℕ) (list : List NameTable) (start : ℕ) → length bytes ≤ start + steps → start ≤ length bytes
    → ReadUpTo v section bytes list start → Decided (Fill v section bytes) (TablesRefuse v section bytes)
tables-from v section bytes zero list start enough within u =
    let same : start ≡ length bytes = omega (arith, enough, within) in
    taken (record { list = list; are = subst (ReadUpTo v section bytes list) same u })
tables-from v section bytes (suc steps) list start enough within u =
    by (cases_lt start (length bytes)) (read-known v section bytes start)
    (λ (t : HasReadTable v section bytes start).
    let some = t.own.some in
    tables-from v section bytes steps (list ++ t.own.table ∷ []) t.own.table.end (omega (arith, enough, some)) t.own.is.within
    (more_read list t.own.table start u (record { table = t.own.is; texts = t.read.first }) t.read.second))
  where
    by : (start < length bytes) ⊎ (length bytes ≤ start) → Decided (HasReadTable v section bytes start) (TableRefuses v section bytes start)
        → (HasReadTable v section bytes start → Decided (Fill v section bytes) (TablesRefuse v section bytes)) → Decided (Fill v section bytes) (TablesRefuse v section bytes)
    by (inl before) (refused r f) go = refused r (table-refuses v section bytes list start r u before f)
    by (inl before) (taken t) go = go t
    by (inr over) known go =
        let same : start ≡ length bytes = omega (arith, over, within) in
        taken (record { list = list; are = subst (ReadUpTo v section bytes list) same u })

pub names-decided : (v : View) → Decided (HasNameTables v) (NamesRefuse v)
names-decided v = by (tables-from v (names_of v).number (names_of v).bytes (length (names_of v).bytes) [] 0 (omega arith) (omega arith) none_read)
  where
    by : Decided (Fill v (names_of v).number (names_of v).bytes) (NamesRefuse v) → Decided (HasNameTables v) (NamesRefuse v)
    by (refused r f) = refused r f
    by (taken n) = taken (record { list = n.list; are = n.are })
