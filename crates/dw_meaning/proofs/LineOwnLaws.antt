-- Where the headers of line tables are clear, the fields of their lists read, and each relocation in a header begins at one of them: so what reads
-- of the relocations of a table follows from its reading and from where none begins.
use Rattle.std.proofs.Common.{inl, inr, Bool, true, false, ◌≡◌, ℕ, zero, suc, ◌+◌, ◌<◌, ◌≤◌, ◌==◌, if◌then◌else◌, List, [], ◌∷◌, ◌++◌, length, drop, Option, None, Some, refl, sym, ap, ◌∙◌, subst, arith, ◌&&◌, ◌||◌, ◌-◌}
use Rattle.std.specs.Prelude.{⊤, Result, Ok}
use Rattle.std.proofs.lemmas.Bool.{cases_lt, eq-eqb, ne_eqb}
use Rattle.std.proofs.lemmas.List.{take-append-drop}
use Rattle.dw_base.specs.Cells.{Cell, Located, Relocation, bytes_of, cells_at, field_of, is_placed, offset_into, offset_of}
use Rattle.dw_base.specs.Forms.{width_size}
use Rattle.dw_base.specs.LineEntries.{columns, entries_at, with_column, list_end, place_behind}
use Rattle.dw_base.specs.LineFields.{column_field, entries_fields, entry_fields, fields_behind, fields_counted, fields_formed, fields_there, line_fields, list_fields, table_fields}
use Rattle.dw_base.specs.LineReadings.{LineReading, ReadsTable, TablesTo}
use Rattle.dw_base.specs.LineSources.{LineSource}
use Rattle.dw_base.specs.LineTexts.{named_text, text_of}
use Rattle.dw_base.specs.LineTables.{HasLists, new_lists, old_lists, table_bytes}
use Rattle.dw_base.specs.RelocationFields.{relocation_at}
use Rattle.dw_base.specs.RelocationRows.{FieldPlace, FieldsRead, HeaderReads, IsField, OffsetReads, field_place, has_offset_at, is_offset_use, lies_in, offset_field, plain_field}
use Rattle.dw_base.specs.Texts.{ends_in, text_in}
use Rattle.dw_base.specs.declared.dwarf_numbers.TheConstants.{DW_FORM_line_strp, DW_FORM_strp}
use Rattle.dw_base.specs.declared.fault.Refusal.{Refusal}
use Rattle.dw_base.specs.declared.line_tables.Column.{Column}
use Rattle.dw_base.specs.declared.line_tables.Entry.{Entry}
use Rattle.dw_base.specs.declared.line_tables.FilePlace.{FilePlace}
use Rattle.dw_base.specs.declared.line_tables.LineHeader.{LineHeader}
use Rattle.dw_base.specs.declared.line_tables.TextPlace.{TextPlace}
use Rattle.dw_base.specs.declared.values.Spec.{Spec}
use Rattle.dw_base.specs.declared.view_fields.Field.{Field}
use Rattle.dw_base.specs.declared.view_fields.Field.TheVariants.{Into, Num, Sym}
use Rattle.dw_base.proofs.RelocationFieldLaws.{partly-none}
use Rattle.dw_base.proofs.TextLaws.{ends_in-inside}
use Rattle.dw_meaning.proofs.ClearLaws.{Clear, ColumnsClear, EntriesClear, ListClear, clear_from}
use Rattle.dw_meaning.proofs.FieldCellLaws.{FieldNames, field-names}
use Rattle.dw_meaning.proofs.FieldPutLaws.{width-some}
use Rattle.dw_meaning.proofs.LineClearLaws.{EachClear, FieldsBelow, FieldsFrom, TableClear, below-append, below-behind, below-further, dirs-behind, from-append, from-further, from-none, header-start, inline-unnamed, list-behind, list-below, list-fields-from, offset-named, old-behind}
use Rattle.dw_meaning.proofs.LineColumnLaws.{ColumnIs, Grows, column-is, inline_is, offset_is, texts_in, value_is}
use Rattle.dw_meaning.proofs.LineEntryLaws.{column-step, entry-same}
use Rattle.dw_meaning.proofs.LineListLaws.{entry-is, list-is}
use Rattle.dw_meaning.proofs.LineMoveLaws.{room-cells}
use Rattle.dw_meaning.proofs.LineOneLaws.{table-one, tables-one}
use Rattle.dw_meaning.proofs.LineSectionLaws.{TailsStay, some-bytes}
use Rattle.dw_meaning.proofs.LineMeaningLaws.{TailStays}
use Rattle.dw_meaning.proofs.LineHeaderLaws.{header-is}
use Rattle.dw_meaning.proofs.LineTableLaws.{header-places}
use Rattle.dw_meaning.proofs.LineWalkLaws.{NewFiles, dirs-of, files-of}

-- each field of a list
abbrev pub EachField : (FieldPlace → Type 0) → List FieldPlace → Type 0
EachField P [] = ⊤
EachField P (f ∷ fs) = P f × EachField P fs

each-append : (P : FieldPlace → Type 0) (xs ys : List FieldPlace) → EachField P xs → EachField P ys → EachField P (xs ++ ys)
each-append P [] ys h k = k
each-append P (x ∷ xs) ys h k = (h.0, each-append P xs ys h.1 k)

each-among : (P : FieldPlace → Type 0) (before behind : List FieldPlace) (f : FieldPlace) → EachField P (before ++ f ∷ behind) → P f
each-among P [] behind f h = h.0
each-among P (x ∷ before) behind f h = each-among P before behind f h.1

pub each-there : (P : FieldPlace → Type 0) (fs : List FieldPlace) (f : FieldPlace) → EachField P fs → IsField fs f → P f
each-there P fs f h is = each-among P is.before is.behind f (subst (EachField P) is.is h)

-- a field at a place is one of more fields
has-front : (xs ys : List FieldPlace) (p : ℕ) → has_offset_at xs p ≡ true → has_offset_at (xs ++ ys) p ≡ true
has-front [] ys p h = absurd cc
has-front (x ∷ xs) ys p h = by_here (is_offset_use x.use_is && x.place == p) (has-front xs ys p) h
  where
    by_here : (b : Bool) → (has_offset_at xs p ≡ true → has_offset_at (xs ++ ys) p ≡ true) → (if b then true else has_offset_at xs p) ≡ true
        → (if b then true else has_offset_at (xs ++ ys) p) ≡ true
    by_here true more e = refl
    by_here false more e = more e

has-behind : (xs ys : List FieldPlace) (p : ℕ) → has_offset_at ys p ≡ true → has_offset_at (xs ++ ys) p ≡ true
has-behind [] ys p h = h
has-behind (x ∷ xs) ys p h = by_here (is_offset_use x.use_is && x.place == p) (has-behind xs ys p h)
  where
    by_here : (b : Bool) → has_offset_at (xs ++ ys) p ≡ true → (if b then true else has_offset_at (xs ++ ys) p) ≡ true
    by_here true more = refl
    by_here false more = more

-- a field of a table reads
pub record FieldHolds (g : LineSource) (f : FieldPlace) : Type 0 where
  pub is_offset : f.use_is ≡ offset_field
  pub reads : OffsetReads g.order g.cells f

-- these fields read, and each relocation from a place up to another begins at one of them
pub record Holds (g : LineSource) (fs : List FieldPlace) (a b : ℕ) : Type 0 where
  pub own : (p : ℕ) (r : Relocation) → relocation_at g.cells p ≡ Some r → a ≤ p → p < b → has_offset_at fs p ≡ true
  pub each : EachField (FieldHolds g) fs

holds-append : (g : LineSource) (xs ys : List FieldPlace) (a b c : ℕ) → Holds g xs a b → Holds g ys b c → Holds g (xs ++ ys) a c
holds-append g xs ys a b c h k = record {
  own = λ p r e at lt. elim (cases_lt p b) [
    | inl below ↦ has-front xs ys p (h.own p r e at below)
    | inr behind ↦ has-behind xs ys p (k.own p r e behind lt)
  ];
  each = each-append (FieldHolds g) xs ys h.each k.each;
}

none-there : (o : Option Relocation) (r : Relocation) → o ≡ Some r → o ≡ None → ⊥
none-there o r e none = cc

holds-none : (g : LineSource) (a b : ℕ) → Clear g.cells a b → Holds g [] a b
holds-none g a b h = record {
  own = λ p r e at lt. absurd (none-there (relocation_at g.cells p) r e (h.none p at lt));
  each = tt;
}

nothing-between : (cells : List Cell) (a : ℕ) → Clear cells a a
nothing-between cells a = record { none = λ p at lt. absurd (omega (arith, at, lt)) }

-- what is asked of a section: it is one that is read, its bytes are those of its cells, and the table is the front of it
pub record SourceReads (g : LineSource) (table : List ℕ) : Type 0 where
  pub read : g.is_read ≡ true
  pub own : bytes_of g.cells ≡ g.bytes
  pub front : Grows table g.bytes

-- a column
abbrev field_if : Bool → LineHeader → ℕ → List FieldPlace
field_if b h p = if b then field_place p (width_size h.width) offset_field ∷ [] else []

abbrev clear_if : Bool → ℕ → ℕ
clear_if b p = if b then suc p else p

unnamed-value : (spec : Spec) → (spec.form == DW_FORM_strp) ≡ false → (spec.form == DW_FORM_line_strp) ≡ false → (spec.form == DW_FORM_strp || spec.form == DW_FORM_line_strp) ≡ false
unnamed-value spec a b = rw (a, b) refl

placed-there : (z : Located) (f : Field) → offset_into z f < length z.bytes → is_placed f ≡ true
placed-there z (Num n) lt = refl
placed-there z (Into s n) lt = refl
placed-there z (Sym s k a) lt = absurd (omega (arith, lt))

named-reads : (g : LineSource) (table : List ℕ) (h : LineHeader) (z : Located) (p n : ℕ) → SourceReads g table → p + width_size h.width ≤ length table
    → named_text g z p (width_size h.width) ≡ Ok (text_of z n p) → ends_in z.bytes n ≡ true → OffsetReads g.order g.cells (field_place p (width_size h.width) offset_field)
unfolding offset_of
named-reads g table h z p n s room reads ends =
    let f : FieldNames g z p (width_size h.width) n =
    field-names g z p (width_size h.width) n s.read s.own (width-some h.width) (room-cells g.cells g.bytes table (p + width_size h.width) s.own s.front room) reads in
    let offset : offset_into z (field_of g.order (cells_at g.cells p (width_size h.width))) ≡ n = f.offset in
    record {
      whole = λ q lies. partly-none g.cells p (width_size h.width) q f.whole lies;
      placed = placed-there z (field_of g.order (cells_at g.cells p (width_size h.width))) (subst (λ (i : ℕ). i < length z.bytes) (sym offset) (ends_in-inside z.bytes n ends));
    }

offset-holds : (g : LineSource) (table : List ℕ) (h : LineHeader) (z : Located) (p n : ℕ) → SourceReads g table → p + width_size h.width ≤ length table
    → named_text g z p (width_size h.width) ≡ Ok (text_of z n p) → ends_in z.bytes n ≡ true → Clear g.cells (suc p) (p + width_size h.width)
    → Holds g (field_place p (width_size h.width) offset_field ∷ []) p (p + width_size h.width)
offset-holds g table h z p n s room reads ends clear = record {
  own = λ q r e at lt. elim (cases_lt p q) [
    | inl behind ↦ absurd (none-there (relocation_at g.cells q) r e (clear.none q (omega (arith, behind)) lt))
    | inr here ↦ (let same : p ≡ q = omega (arith, here, at) in at-place q same)
  ];
  each = (record { is_offset = refl; reads = named-reads g table h z p n s room reads ends }, tt);
}
  where
    at-place : (q : ℕ) → p ≡ q → has_offset_at (field_place p (width_size h.width) offset_field ∷ []) q ≡ true
    at-place q same = rw (eq-eqb p q same) refl

column-holds : (g : LineSource) (table : List ℕ) (h : LineHeader) (spec : Spec) (p : ℕ) (c : Column) → SourceReads g table → ColumnIs g h table spec p c
    → Clear g.cells (clear_from spec p) c.next → Holds g (column_field h spec p) p c.next
column-holds g table h spec p c s (inline_is form ends) clear =
    let none = inline-unnamed spec form in
    subst (λ (b : Bool). Holds g (field_if b h p) p (p + length (text_in table p) + 1)) (sym none)
    (holds-none g p (p + length (text_in table p) + 1)
    (subst (λ (b : Bool). Clear g.cells (clear_if b p) (p + length (text_in table p) + 1)) none clear))
column-holds g table h spec p c s (offset_is z n form room reads ends) clear =
    let named = offset-named spec z form in
    subst (λ (b : Bool). Holds g (field_if b h p) p (p + width_size h.width)) (sym named)
    (offset-holds g table h (texts_in g z) p n s room reads ends (subst (λ (b : Bool). Clear g.cells (clear_if b p) (p + width_size h.width)) named clear))
column-holds g table h spec p c s (value_is x y d v is) clear =
    let none = unnamed-value spec y d in
    subst (λ (b : Bool). Holds g (field_if b h p) p (p + v.size)) (sym none)
    (holds-none g p (p + v.size) (subst (λ (b : Bool). Clear g.cells (clear_if b p) (p + v.size)) none clear))

-- the columns of an entry, entries, and a list
columns-hold : (g : LineSource) (table : List ℕ) (h : LineHeader) (specs : List Spec) (e last : Entry) → SourceReads g table → columns g h table specs e ≡ Ok last
    → ColumnsClear g h table specs e.next → Holds g (entry_fields g h table specs e.next) e.next last.next
columns-hold g table h [] e last s is clear =
    subst (λ (x : Entry). Holds g [] e.next x.next) (entry-same e last is) (holds-none g e.next e.next (nothing-between g.cells e.next))
columns-hold g table h (spec ∷ specs) e last s is clear =
    let step = column-step g h table spec specs e last is in
    let here = clear step.column step.is in
    subst (λ (o : Result Column Refusal). Holds g (column_field h spec e.next ++ fields_behind (λ q. entry_fields g h table specs q) o) e.next last.next) (sym step.is)
    (holds-append g (column_field h spec e.next) (entry_fields g h table specs step.column.next) e.next step.column.next last.next
    (column-holds g table h spec e.next step.column s (column-is g h table spec e.next step.column step.is) here.0)
    (columns-hold g table h specs (with_column spec e step.column) last s step.rest here.1))

entries-hold : (g : LineSource) (table : List ℕ) (h : LineHeader) (specs : List Spec) (p e : ℕ) (fs : List FilePlace) → SourceReads g table → NewFiles g h table specs p fs e
    → EntriesClear g h table specs (length fs) p → Holds g (entries_fields g h table specs (length fs) p) p e
entries-hold g table h specs p e [] s are clear = subst (Holds g [] p) are (holds-none g p p (nothing-between g.cells p))
entries-hold g table h specs p e (f ∷ fs) s are clear =
    let x = entry-is g h table specs p f are.0.next are.0.entry in
    let front : Holds g (entry_fields g h table specs p) p are.0.next =
    subst (Holds g (entry_fields g h table specs p) p) x.behind
    (columns-hold g table h specs (record { text = None; dir = None; next = p }) x.last s x.columns_are clear.0) in
    subst (λ (o : Result (FilePlace × ℕ) Refusal). Holds g (entry_fields g h table specs p ++ fields_there (λ q. entries_fields g h table specs (length fs) q) o) p e) (sym are.0.entry)
    (holds-append g (entry_fields g h table specs p) (entries_fields g h table specs (length fs) are.0.next) p are.0.next e front
    (entries-hold g table h specs are.0.next e fs s are.1 (clear.1 f are.0.next are.0.entry)))

list-holds : (g : LineSource) (table : List ℕ) (h : LineHeader) (p e : ℕ) (fs : List FilePlace) → SourceReads g table → entries_at g h table p ≡ Ok (fs, e) → ListClear g h table p
    → Holds g (list_fields g h table p) p e
list-holds g table h p e fs s is clear =
    let x = list-is g h table p fs e is in
    let fields : list_fields g h table p ≡ entries_fields g h table x.format.0 x.count.0 (x.format.1 + x.count.1) =
    ap (fields_formed g h table) x.format_is ∙ ap (fields_counted g h table x.format.0 x.format.1) x.count_is in
    let entries : EntriesClear g h table x.format.0 (length fs) (x.format.1 + x.count.1) =
    subst (λ (n : ℕ). EntriesClear g h table x.format.0 n (x.format.1 + x.count.1)) (sym x.number) (clear.entries x.format x.count x.format_is x.count_is) in
    let there : Holds g (entries_fields g h table x.format.0 x.count.0 (x.format.1 + x.count.1)) (x.format.1 + x.count.1) e =
    subst (λ (n : ℕ). Holds g (entries_fields g h table x.format.0 n (x.format.1 + x.count.1)) (x.format.1 + x.count.1) e) x.number
    (entries-hold g table h x.format.0 (x.format.1 + x.count.1) e fs s x.are entries) in
    subst (λ (l : List FieldPlace). Holds g l p e) (sym fields)
    (holds-append g [] (entries_fields g h table x.format.0 x.count.0 (x.format.1 + x.count.1)) p (x.format.1 + x.count.1) e
    (holds-none g p (x.format.1 + x.count.1) (clear.front x.format x.count x.format_is x.count_is)) there)

-- a table
table-holds : (g : LineSource) (p : ℕ) (r : LineReading) → SourceReads g (table_bytes g r.header) → ReadsTable g p r → TableClear g r
    → Holds g (table_fields g r) r.header.start r.behind
table-holds g p r s reads clear = by_lists r.dirs r.files r.behind refl reads.lists
  where
    front : Holds g [] r.header.start r.header.lists
    front = holds-none g r.header.start r.header.lists clear.front

    by_lists : (ds : List TextPlace) (fs : List FilePlace) (e : ℕ) → e ≡ r.behind → HasLists g r.header (table_bytes g r.header) ds fs e
        → Holds g (table_fields g r) r.header.start r.behind
    by_lists ds fs e same (old_lists dirs files place behind other d f) =
        let fields : table_fields g r ≡ [] = rw (ne_eqb r.header.version 5 other) refl in
        subst (λ (l : List FieldPlace). Holds g l r.header.start r.behind) (sym fields)
        (holds-append g [] [] r.header.start r.header.lists r.behind front (holds-none g r.header.lists r.behind (clear.lists.old other)))
    by_lists ds fs e same (new_lists dirs files place behind five d f) =
        let end : list_end g r.header (table_bytes g r.header) r.header.lists ≡ place = ap (place_behind r.header.lists) d in
        let fields : table_fields g r ≡ list_fields g r.header (table_bytes g r.header) r.header.lists ++ list_fields g r.header (table_bytes g r.header) place =
        rw (eq-eqb r.header.version 5 five) (ap (λ (i : ℕ). list_fields g r.header (table_bytes g r.header) r.header.lists ++ list_fields g r.header (table_bytes g r.header) i) end) in
        let first : Holds g (list_fields g r.header (table_bytes g r.header) r.header.lists) r.header.lists place =
        list-holds g (table_bytes g r.header) r.header r.header.lists place dirs s d (clear.lists.dirs five) in
        let second : Holds g (list_fields g r.header (table_bytes g r.header) place) place r.behind =
        subst (Holds g (list_fields g r.header (table_bytes g r.header) place) place) same
        (list-holds g (table_bytes g r.header) r.header place e files s f
        (subst (ListClear g r.header (table_bytes g r.header)) end (clear.lists.files five))) in
        subst (λ (l : List FieldPlace). Holds g l r.header.start r.behind) (sym fields)
        (holds-append g [] (list_fields g r.header (table_bytes g r.header) r.header.lists ++ list_fields g r.header (table_bytes g r.header) place) r.header.start r.header.lists r.behind front
        (holds-append g (list_fields g r.header (table_bytes g r.header) r.header.lists) (list_fields g r.header (table_bytes g r.header) place) r.header.lists place r.behind first second))

table-front : (g : LineSource) (h : LineHeader) → g.is_read ≡ true → bytes_of g.cells ≡ g.bytes → SourceReads g (table_bytes g h)
table-front g h read own = record { read = read; own = own; front = record { more = drop h.end g.bytes; is = sym (take-append-drop h.end g.bytes) } }

-- what reads of the relocations of its header
pub header-reads : (g : LineSource) (p : ℕ) (r : LineReading) → g.is_read ≡ true → bytes_of g.cells ≡ g.bytes → ReadsTable g p r → TableClear g r
    → HeaderReads r.header.start r.behind g.cells (table_fields g r)
header-reads g p r read own reads clear = record {
  own = (table-holds g p r (table-front g r.header read own) reads clear).own;
  apart = clear.apart.ends;
}

tables-hold : (g : LineSource) (p e : ℕ) (rs : List LineReading) → g.is_read ≡ true → bytes_of g.cells ≡ g.bytes → TablesTo g p rs e → EachClear g rs
    → EachField (FieldHolds g) (line_fields g rs)
tables-hold g p e [] read own tables clear = tt
tables-hold g p e (r ∷ rs) read own tables clear =
    each-append (FieldHolds g) (table_fields g r) (line_fields g rs) (table-holds g p r (table-front g r.header read own) tables.0 clear.0).each
    (tables-hold g r.header.end e rs read own tables.1 clear.1)

-- and of all tables, where a relocation of a place in a section whose places change begins at one of their fields
pub lines-read : (g : LineSource) (p e : ℕ) (rs : List LineReading) (moving : List ℕ) → g.is_read ≡ true → bytes_of g.cells ≡ g.bytes → TablesTo g p rs e → EachClear g rs
    → ((q : ℕ) (r : Relocation) → relocation_at g.cells q ≡ Some r → lies_in moving r.target ≡ true → has_offset_at (line_fields g rs) q ≡ true)
    → FieldsRead g.order g.cells moving (line_fields g rs)
lines-read g p e rs moving read own tables clear kept = record {
  offsets = λ f is field. (each-there (FieldHolds g) (line_fields g rs) f (tables-hold g p e rs read own tables clear) is).reads;
  numbers = λ f q r is plain begins before behind.
      let offset : f.use_is ≡ offset_field = (each-there (FieldHolds g) (line_fields g rs) f (tables-hold g p e rs read own tables clear) is).is_offset in
      absurd (no-plain f offset plain);
  kept = kept;
}
  where
    no-plain : (f : FieldPlace) → f.use_is ≡ offset_field → f.use_is ≡ plain_field → ⊥
    no-plain f a b = cc

-- a table that stands behind others of its section is one of those that fill it
pub clear-there : (g : LineSource) (p start : ℕ) (rs before : List LineReading) (t : LineReading) → TablesTo g p rs (length g.bytes) → EachClear g rs → TablesTo g p before start
    → ReadsTable g start t → TableClear g t
clear-there g p start [] [] t tables clear up reads =
    let some = some-bytes g start t reads in
    let here = some.0 in
    let inside = some.1 in
    absurd (omega (arith, tables, up, here, inside))
clear-there g p start [] (b ∷ before) t tables clear up reads =
    let some = some-bytes g p b up.0 in
    let here = some.0 in
    let inside = some.1 in
    absurd (omega (arith, tables, here, inside))
clear-there g p start (r ∷ rs) [] t tables clear up reads =
    subst (TableClear g) (table-one g p r t tables.0 (subst (λ (i : ℕ). ReadsTable g i t) (sym up) reads)) clear.0
clear-there g p start (r ∷ rs) (b ∷ before) t tables clear up reads =
    let same : r ≡ b = table-one g p r b tables.0 up.0 in
    clear-there g r.header.end start rs before t tables.1 clear.1 (subst (λ (x : LineReading). TablesTo g x.header.end before start) (sym same) up.1) reads

-- so it is said of whatever reads
pub any-headers : (g : LineSource) (rs before : List LineReading) (start : ℕ) (t : LineReading) → g.is_read ≡ true → bytes_of g.cells ≡ g.bytes → TablesTo g 0 rs (length g.bytes)
    → EachClear g rs → TablesTo g 0 before start → ReadsTable g start t → HeaderReads t.header.start t.behind g.cells (table_fields g t)
any-headers g rs before start t read own tables clear up reads = header-reads g start t read own reads (clear-there g 0 start rs before t tables clear up reads)

pub any-lines : (g : LineSource) (rs ts : List LineReading) (moving : List ℕ) → g.is_read ≡ true → bytes_of g.cells ≡ g.bytes → TablesTo g 0 rs (length g.bytes) → EachClear g rs
    → ((q : ℕ) (r : Relocation) → relocation_at g.cells q ≡ Some r → lies_in moving r.target ≡ true → has_offset_at (line_fields g rs) q ≡ true)
    → TablesTo g 0 ts (length g.bytes) → FieldsRead g.order g.cells moving (line_fields g ts)
any-lines g rs ts moving read own tables clear kept are =
    subst (λ (xs : List LineReading). FieldsRead g.order g.cells moving (line_fields g xs)) (tables-one g 0 (length g.bytes) rs ts tables are)
    (lines-read g 0 (length g.bytes) rs moving read own tables clear kept)

-- a relocation of a table begins at a field of its lists, or behind them
record BehindLists (g : LineSource) (rs : List LineReading) (q : ℕ) : Type 0 where
  before : List LineReading
  behind : List LineReading
  table : LineReading
  is : rs ≡ before ++ table ∷ behind
  at : table.behind ≤ q
  lt : q < table.header.end

data InTables (g : LineSource) (rs : List LineReading) (q : ℕ) : Type 0 where
  at_field : has_offset_at (line_fields g rs) q ≡ true → InTables g rs q
  in_tail : BehindLists g rs q → InTables g rs q

in-tables : (g : LineSource) (p e : ℕ) (rs : List LineReading) (q : ℕ) (x : Relocation) → g.is_read ≡ true → bytes_of g.cells ≡ g.bytes → TablesTo g p rs e → EachClear g rs
    → relocation_at g.cells q ≡ Some x → p ≤ q → q < e → InTables g rs q
in-tables g p e [] q x read own tables clear begins at lt = absurd (omega (arith, tables, at, lt))
in-tables g p e (r ∷ rs) q x read own tables clear begins at lt =
    let begin : r.header.start ≡ p = (header-places g p r.header (header-is g.order g.bytes p r.header tables.0.header)).0 in
    elim (cases_lt q r.behind) [
      | inl front ↦ at_field (has-front (table_fields g r) (line_fields g rs) q
          ((table-holds g p r (table-front g r.header read own) tables.0 clear.0).own q x begins (omega (arith, begin, at)) front))
      | inr behind ↦ elim (cases_lt q r.header.end) [
        | inl inside ↦ in_tail (record { before = []; behind = rs; table = r; is = refl; at = behind; lt = inside })
        | inr after ↦ further (in-tables g r.header.end e rs q x read own tables.1 clear.1 begins after lt)
      ]
    ]
  where
    further : InTables g rs q → InTables g (r ∷ rs) q
    further (at_field h) = at_field (has-behind (table_fields g r) (line_fields g rs) q h)
    further (in_tail t) = in_tail (record { before = r ∷ t.before; behind = t.behind; table = t.table; is = ap (λ (l : List LineReading). r ∷ l) t.is; at = t.at; lt = t.lt })

-- where the fields of a table stand
table-from : (g : LineSource) (p : ℕ) (r : LineReading) → ReadsTable g p r → FieldsFrom p (table_fields g r)
table-from g p r reads = by_lists r.dirs r.files r.behind reads.lists
  where
    start : p ≤ r.header.lists
    start =
        let begin : r.header.start ≡ p = (header-places g p r.header (header-is g.order g.bytes p r.header reads.header)).0 in
        let le = header-start g p r reads in
        omega (arith, begin, le)

    by_lists : (ds : List TextPlace) (fs : List FilePlace) (e : ℕ) → HasLists g r.header (table_bytes g r.header) ds fs e → FieldsFrom p (table_fields g r)
    by_lists ds fs e (old_lists dirs files place behind other d f) =
        let fields : table_fields g r ≡ [] = rw (ne_eqb r.header.version 5 other) refl in
        subst (FieldsFrom p) (sym fields) tt
    by_lists ds fs e (new_lists dirs files place behind five d f) =
        let end : list_end g r.header (table_bytes g r.header) r.header.lists ≡ place = ap (place_behind r.header.lists) d in
        let first = list-behind g r.header (table_bytes g r.header) r.header.lists place dirs d in
        let fields : table_fields g r ≡ list_fields g r.header (table_bytes g r.header) r.header.lists ++ list_fields g r.header (table_bytes g r.header) place =
        rw (eq-eqb r.header.version 5 five) (ap (λ (i : ℕ). list_fields g r.header (table_bytes g r.header) r.header.lists ++ list_fields g r.header (table_bytes g r.header) i) end) in
        subst (FieldsFrom p) (sym fields)
        (from-append p (list_fields g r.header (table_bytes g r.header) r.header.lists) (list_fields g r.header (table_bytes g r.header) place)
        (from-further p r.header.lists (list_fields g r.header (table_bytes g r.header) r.header.lists) start (list-fields-from g r.header (table_bytes g r.header) r.header.lists))
        (from-further p place (list_fields g r.header (table_bytes g r.header) place) (omega (arith, start, first)) (list-fields-from g r.header (table_bytes g r.header) place)))

table-below : (g : LineSource) (p : ℕ) (r : LineReading) → ReadsTable g p r → FieldsBelow r.behind (table_fields g r)
table-below g p r reads = by_lists r.dirs r.files r.behind refl reads.lists
  where
    by_lists : (ds : List TextPlace) (fs : List FilePlace) (e : ℕ) → e ≡ r.behind → HasLists g r.header (table_bytes g r.header) ds fs e → FieldsBelow r.behind (table_fields g r)
    by_lists ds fs e same (old_lists dirs files place behind other d f) =
        let fields : table_fields g r ≡ [] = rw (ne_eqb r.header.version 5 other) refl in
        subst (FieldsBelow r.behind) (sym fields) tt
    by_lists ds fs e same (new_lists dirs files place behind five d f) =
        let end : list_end g r.header (table_bytes g r.header) r.header.lists ≡ place = ap (place_behind r.header.lists) d in
        let second = list-behind g r.header (table_bytes g r.header) place e files f in
        let fields : table_fields g r ≡ list_fields g r.header (table_bytes g r.header) r.header.lists ++ list_fields g r.header (table_bytes g r.header) place =
        rw (eq-eqb r.header.version 5 five) (ap (λ (i : ℕ). list_fields g r.header (table_bytes g r.header) r.header.lists ++ list_fields g r.header (table_bytes g r.header) i) end) in
        subst (FieldsBelow r.behind) (sym fields)
        (below-append r.behind (list_fields g r.header (table_bytes g r.header) r.header.lists) (list_fields g r.header (table_bytes g r.header) place)
        (below-further place r.behind (list_fields g r.header (table_bytes g r.header) r.header.lists) (omega (arith, second, same))
        (list-below g r.header (table_bytes g r.header) r.header.lists place dirs d))
        (below-further e r.behind (list_fields g r.header (table_bytes g r.header) place) (omega (arith, same))
        (list-below g r.header (table_bytes g r.header) place e files f)))

lines-from : (g : LineSource) (p e : ℕ) (rs : List LineReading) → TablesTo g p rs e → FieldsFrom p (line_fields g rs)
lines-from g p e [] tables = tt
lines-from g p e (r ∷ rs) tables =
    let some = (some-bytes g p r tables.0).0 in
    from-append p (table_fields g r) (line_fields g rs) (table-from g p r tables.0)
    (from-further p r.header.end (line_fields g rs) (omega (arith, some)) (lines-from g r.header.end e rs tables.1))

-- where a table among others starts and ends
record TablePlaced (g : LineSource) (p : ℕ) (r : LineReading) : Type 0 where
  place : ℕ
  reads : ReadsTable g place r
  after : p ≤ place
  front : place ≤ r.behind
  last : r.behind ≤ r.header.end

behind-start : (g : LineSource) (p : ℕ) (r : LineReading) → ReadsTable g p r → TablePlaced g p r
behind-start g p r reads =
    let places = header-places g p r.header (header-is g.order g.bytes p r.header reads.header) in
    let begin = places.0 in
    let program = places.1.program in
    let before = reads.before in
    let start = header-start g p r reads in
    record {
      place = p;
      reads = reads;
      after = omega arith;
      front = by_lists r.dirs r.files r.behind refl reads.lists (omega (arith, begin, start));
      last = omega (arith, program, before);
    }
  where
    by_lists : (ds : List TextPlace) (fs : List FilePlace) (e : ℕ) → e ≡ r.behind → HasLists g r.header (table_bytes g r.header) ds fs e → p ≤ r.header.lists → p ≤ r.behind
    by_lists ds fs e same (old_lists dirs files place behind other d f) le =
        let a = dirs-behind g.number (table_bytes g r.header) r.header.lists place dirs (dirs-of g.number (table_bytes g r.header) r.header.lists place dirs d) in
        let b = old-behind g (table_bytes g r.header) place e files (files-of g.number (table_bytes g r.header) place e files f) in
        omega (arith, a, b, same, le)
    by_lists ds fs e same (new_lists dirs files place behind five d f) le =
        let a = list-behind g r.header (table_bytes g r.header) r.header.lists place dirs d in
        let b = list-behind g r.header (table_bytes g r.header) place e files f in
        omega (arith, a, b, same, le)

table-placed : (g : LineSource) (p e : ℕ) (before behind : List LineReading) (r : LineReading) → TablesTo g p (before ++ r ∷ behind) e → TablePlaced g p r
table-placed g p e [] behind r tables = behind-start g p r tables.0
table-placed g p e (b ∷ before) behind r tables =
    let some = (some-bytes g p b tables.0).0 in
    let t = table-placed g b.header.end e before behind r tables.1 in
    let after = t.after in
    record { place = t.place; reads = t.reads; after = omega (arith, some, after); front = t.front; last = t.last }

-- no field stands behind the lists of a table
none-in-tail : (g : LineSource) (p e : ℕ) (before behind : List LineReading) (r : LineReading) (q : ℕ) → TablesTo g p (before ++ r ∷ behind) e → r.behind ≤ q → q < r.header.end
    → has_offset_at (line_fields g (before ++ r ∷ behind)) q ≡ false
none-in-tail g p e [] behind r q tables at lt =
    below-behind r.behind (table_fields g r) (line_fields g behind) q (table-below g p r tables.0) at
    ∙ from-none r.header.end (line_fields g behind) q (lines-from g r.header.end e behind tables.1) lt
none-in-tail g p e (b ∷ before) behind r q tables at lt =
    let t = table-placed g b.header.end e before behind r tables.1 in
    let own = behind-start g p b tables.0 in
    let last = own.last in
    let after = t.after in
    let front = t.front in
    below-behind b.behind (table_fields g b) (line_fields g (before ++ r ∷ behind)) q (table-below g p b tables.0) (omega (arith, last, after, front, at))
    ∙ none-in-tail g b.header.end e before behind r q tables.1 at lt

-- the old table of a new one
record OldTable (g k : LineSource) (rs : List LineReading) (t : LineReading) : Type 0 where
  before : List LineReading
  behind : List LineReading
  table : LineReading
  is : rs ≡ before ++ table ∷ behind
  tail : TailStays g k table t

old-table : (g k : LineSource) (rs before behind : List LineReading) (t : LineReading) → TailsStay g k rs (before ++ t ∷ behind) → OldTable g k rs t
old-table g k [] [] behind t tails = absurd tails
old-table g k [] (b ∷ before) behind t tails = absurd tails
old-table g k (r ∷ rs) [] behind t tails = record { before = []; behind = rs; table = r; is = refl; tail = tails.0 }
old-table g k (r ∷ rs) (b ∷ before) behind t tails =
    let o = old-table g k rs before behind t tails.1 in
    record { before = r ∷ o.before; behind = o.behind; table = o.table; is = ap (λ (l : List LineReading). r ∷ l) o.is; tail = o.tail }

relocation-inside : (cells : List Cell) (q : ℕ) (x : Relocation) → relocation_at cells q ≡ Some x → q < length cells
relocation-inside [] zero x e = absurd cc
relocation-inside [] (suc q) x e = absurd cc
relocation-inside (c ∷ cs) zero x e = omega arith
relocation-inside (c ∷ cs) (suc q) x e =
    let more = relocation-inside cs q x e in
    omega (arith, more)

-- relocations of places in sections whose places change begin at fields after the edit where they did before it
pub lines-keep : (g k : LineSource) (e f : ℕ) (rs ts : List LineReading) (moving : List ℕ) → TablesTo g 0 rs e → TailsStay g k rs ts → k.is_read ≡ true → bytes_of k.cells ≡ k.bytes
    → TablesTo k 0 ts f → length k.cells ≤ f → EachClear k ts
    → ((q : ℕ) (x : Relocation) → relocation_at g.cells q ≡ Some x → lies_in moving x.target ≡ true → has_offset_at (line_fields g rs) q ≡ true)
    → (q : ℕ) (x : Relocation) → relocation_at k.cells q ≡ Some x → lies_in moving x.target ≡ true → has_offset_at (line_fields k ts) q ≡ true
lines-keep g k e f rs ts moving tables tails read own are whole clear kept q x begins lies =
    let inside = relocation-inside k.cells q x begins in
    by_place (in-tables k 0 f ts q x read own are clear begins (omega arith) (omega (arith, inside, whole)))
  where
    clash : (b : Bool) → b ≡ true → b ≡ false → ⊥
    clash b h n = cc

    by_place : InTables k ts q → has_offset_at (line_fields k ts) q ≡ true
    by_place (at_field h) = h
    by_place (in_tail t) =
        let o = old-table g k rs t.before t.behind t.table (subst (TailsStay g k rs) t.is tails) in
        let at = t.at in
        let there : relocation_at g.cells (o.table.behind + (q - t.table.behind)) ≡ Some x = sym (o.tail.same q t.at t.lt) ∙ begins in
        let none = none-in-tail g 0 e o.before o.behind o.table (o.table.behind + (q - t.table.behind)) (subst (λ (l : List LineReading). TablesTo g 0 l e) o.is tables) (omega arith)
        (o.tail.within q t.at t.lt) in
        let some = kept (o.table.behind + (q - t.table.behind)) x there lies in
        absurd (clash (has_offset_at (line_fields g rs) (o.table.behind + (q - t.table.behind))) some
        (ap (λ (l : List LineReading). has_offset_at (line_fields g l) (o.table.behind + (q - t.table.behind))) o.is ∙ none))
