-- The offsets in the lists of a line table's header stand one behind another, from the table's start up to where its lists end (DWARF 5, 6.2.4).
use Rattle.std.proofs.Common.{Bool, false, ◌≡◌, ℕ, ◌+◌, ◌<◌, ◌≤◌, ◌==◌, ◌||◌, List, [], ◌∷◌, ◌++◌, length, None, refl, sym, ap, ◌∙◌, subst, arith, if◌then◌else◌}
use Rattle.std.specs.Prelude.{Result, Ok}
use Rattle.std.proofs.lemmas.Bool.{eq-eqb, ne_eqb}
use Rattle.dw_base.specs.Forms.{width_size}
use Rattle.dw_base.specs.LineEntries.{columns, entries_at, entry_at, with_column, list_end, place_behind}
use Rattle.dw_base.specs.LineFields.{column_field, entries_fields, entry_fields, fields_behind, fields_counted, fields_formed, fields_there, list_fields, table_fields}
use Rattle.dw_base.specs.LineReadings.{LineReading, ReadsTable}
use Rattle.dw_base.specs.LineSources.{LineSource}
use Rattle.dw_base.specs.LineTables.{HasLists, LineTable, new_lists, old_lists, table_bytes}
use Rattle.dw_base.specs.RelocationRows.{FieldPlace, field_place, offset_field}
use Rattle.dw_base.specs.Texts.{text_in}
use Rattle.dw_base.specs.WrittenLines.{length_size}
use Rattle.dw_base.specs.declared.dwarf_numbers.TheConstants.{DW_FORM_line_strp, DW_FORM_strp}
use Rattle.dw_base.specs.declared.fault.Refusal.{Refusal}
use Rattle.dw_base.specs.declared.line_tables.Column.{Column}
use Rattle.dw_base.specs.declared.line_tables.Entry.{Entry}
use Rattle.dw_base.specs.declared.line_tables.FilePlace.{FilePlace}
use Rattle.dw_base.specs.declared.line_tables.LineHeader.{LineHeader}
use Rattle.dw_base.specs.declared.line_tables.TextPlace.{TextPlace}
use Rattle.dw_base.specs.declared.shared.Width.{Width}
use Rattle.dw_base.specs.declared.values.Spec.{Spec}
use Rattle.dw_relocs.specs.HeaderChecks.{Rises}
use Rattle.dw_lines.specs.HeaderFields.{AreHeaderFields, offsets_at}
use Rattle.dw_meaning.proofs.FieldPutLaws.{width-some}
use Rattle.dw_meaning.proofs.LineClearLaws.{dirs-behind, header-lists, inline-unnamed, offset-named, old-behind}
use Rattle.dw_meaning.proofs.LineColumnLaws.{ColumnIs, column-is, inline_is, offset_is, value_is}
use Rattle.dw_meaning.proofs.LineEntryLaws.{column-step, entry-same}
use Rattle.dw_meaning.proofs.LineHeaderLaws.{header-is, length-place}
use Rattle.dw_meaning.proofs.LineListLaws.{entry-is, format-place, list-is}
use Rattle.dw_meaning.proofs.LineTableLaws.{header-places}
use Rattle.dw_meaning.proofs.LineWalkLaws.{NewFiles, dirs-of, files-of}

-- fields one behind another, from a place up to another
abbrev FieldsRise : ℕ → List FieldPlace → ℕ → Type 0
FieldsRise a [] b = a ≤ b
FieldsRise a (f ∷ fs) b = (a ≤ f.place) × FieldsRise (f.place + f.size) fs b

rise-further : (a b c : ℕ) (fs : List FieldPlace) → a ≤ b → FieldsRise b fs c → FieldsRise a fs c
rise-further a b c [] le h = omega (arith, le, h)
rise-further a b c (f ∷ fs) le h =
    let here = h.0 in
    (omega (arith, le, here), h.1)

rise-append : (a b c : ℕ) (xs ys : List FieldPlace) → FieldsRise a xs b → FieldsRise b ys c → FieldsRise a (xs ++ ys) c
rise-append a b c [] ys h k = rise-further a b c ys h k
rise-append a b c (x ∷ xs) ys h k = (h.0, rise-append (x.place + x.size) b c xs ys h.1 k)

-- the field of a column
value-unnamed : (spec : Spec) → (spec.form == DW_FORM_strp) ≡ false → (spec.form == DW_FORM_line_strp) ≡ false → (spec.form == DW_FORM_strp || spec.form == DW_FORM_line_strp) ≡ false
value-unnamed spec a b = rw (a, b) refl

column-rise : (g : LineSource) (h : LineHeader) (table : List ℕ) (spec : Spec) (p : ℕ) (c : Column) → ColumnIs g h table spec p c → FieldsRise p (column_field h spec p) c.next
column-rise g h table spec p c (inline_is form ends) =
    subst (λ (b : Bool). FieldsRise p (if b then field_place p (width_size h.width) offset_field ∷ [] else []) (p + length (text_in table p) + 1)) (sym (inline-unnamed spec form)) (omega arith)
column-rise g h table spec p c (offset_is z n form room reads ends) =
    subst (λ (b : Bool). FieldsRise p (if b then field_place p (width_size h.width) offset_field ∷ [] else []) (p + width_size h.width)) (sym (offset-named spec z form))
    (omega arith, omega arith)
column-rise g h table spec p c (value_is x y d v is) =
    subst (λ (b : Bool). FieldsRise p (if b then field_place p (width_size h.width) offset_field ∷ [] else []) (p + v.size)) (sym (value-unnamed spec y d)) (omega arith)

-- those of an entry
columns-rise : (g : LineSource) (h : LineHeader) (table : List ℕ) (specs : List Spec) (e last : Entry) → columns g h table specs e ≡ Ok last
    → FieldsRise e.next (entry_fields g h table specs e.next) last.next
columns-rise g h table [] e last is =
    let next : e.next ≡ last.next = ap (λ (x : Entry). x.next) (entry-same e last is) in
    omega (arith, next)
columns-rise g h table (spec ∷ specs) e last is =
    let step = column-step g h table spec specs e last is in
    subst (λ (o : Result Column Refusal). FieldsRise e.next (column_field h spec e.next ++ fields_behind (λ q. entry_fields g h table specs q) o) last.next) (sym step.is)
    (rise-append e.next step.column.next last.next (column_field h spec e.next) (entry_fields g h table specs step.column.next)
    (column-rise g h table spec e.next step.column (column-is g h table spec e.next step.column step.is))
    (columns-rise g h table specs (with_column spec e step.column) last step.rest))

entry-rise : (g : LineSource) (h : LineHeader) (table : List ℕ) (specs : List Spec) (p : ℕ) (f : FilePlace) (next : ℕ) → entry_at g h table specs p ≡ Ok (f, next)
    → FieldsRise p (entry_fields g h table specs p) next
entry-rise g h table specs p f next e =
    let x = entry-is g h table specs p f next e in
    subst (λ (i : ℕ). FieldsRise p (entry_fields g h table specs p) i) x.behind
    (columns-rise g h table specs (record { text = None; dir = None; next = p }) x.last x.columns_are)

-- of entries, and of a list
entries-rise : (g : LineSource) (h : LineHeader) (table : List ℕ) (specs : List Spec) (p e : ℕ) (fs : List FilePlace) → NewFiles g h table specs p fs e
    → FieldsRise p (entries_fields g h table specs (length fs) p) e
entries-rise g h table specs p e [] are = omega (arith, are)
entries-rise g h table specs p e (f ∷ fs) are =
    subst (λ (o : Result (FilePlace × ℕ) Refusal). FieldsRise p (entry_fields g h table specs p ++ fields_there (λ q. entries_fields g h table specs (length fs) q) o) e) (sym are.0.entry)
    (rise-append p are.0.next e (entry_fields g h table specs p) (entries_fields g h table specs (length fs) are.0.next) (entry-rise g h table specs p f are.0.next are.0.entry)
    (entries-rise g h table specs are.0.next e fs are.1))

list-rise : (g : LineSource) (h : LineHeader) (table : List ℕ) (p e : ℕ) (fs : List FilePlace) → entries_at g h table p ≡ Ok (fs, e) → FieldsRise p (list_fields g h table p) e
list-rise g h table p e fs is =
    let x = list-is g h table p fs e is in
    let front = (format-place table p x.format x.format_is).0 in
    let fields : list_fields g h table p ≡ entries_fields g h table x.format.0 (length fs) (x.format.1 + x.count.1) =
    ap (fields_formed g h table) x.format_is ∙ ap (fields_counted g h table x.format.0 x.format.1) x.count_is
    ∙ ap (λ (n : ℕ). entries_fields g h table x.format.0 n (x.format.1 + x.count.1)) (sym x.number) in
    subst (λ (l : List FieldPlace). FieldsRise p l e) (sym fields)
    (rise-further p (x.format.1 + x.count.1) e (entries_fields g h table x.format.0 (length fs) (x.format.1 + x.count.1)) (omega (arith, front))
    (entries-rise g h table x.format.0 (x.format.1 + x.count.1) e fs x.are))

-- of a table
header-start : (g : LineSource) (p : ℕ) (r : LineReading) → ReadsTable g p r → r.header.start ≤ r.header.lists
header-start g p r reads =
    let first = header-lists g p r reads in
    let place = length-place r.header.version (r.header.start + length_size r.header.width) in
    omega (arith, first, place)

table-rise : (g : LineSource) (p : ℕ) (r : LineReading) → ReadsTable g p r → FieldsRise r.header.start (table_fields g r) r.behind
table-rise g p r reads = by_lists r.dirs r.files r.behind reads.lists
  where
    start : r.header.start ≤ r.header.lists
    start = header-start g p r reads

    by_lists : (ds : List TextPlace) (fs : List FilePlace) (e : ℕ) → HasLists g r.header (table_bytes g r.header) ds fs e → FieldsRise r.header.start (table_fields g r) e
    by_lists ds fs e (old_lists dirs files place behind other d f) =
        let a = dirs-behind g.number (table_bytes g r.header) r.header.lists place dirs (dirs-of g.number (table_bytes g r.header) r.header.lists place dirs d) in
        let b = old-behind g (table_bytes g r.header) place behind files (files-of g.number (table_bytes g r.header) place behind files f) in
        let none : table_fields g r ≡ [] = rw (ne_eqb r.header.version 5 other) refl in
        subst (λ (l : List FieldPlace). FieldsRise r.header.start l behind) (sym none) (omega (arith, start, a, b))
    by_lists ds fs e (new_lists dirs files place behind five d f) =
        let end : place ≡ list_end g r.header (table_bytes g r.header) r.header.lists = ap (place_behind r.header.lists) (sym d) in
        let both : table_fields g r ≡ list_fields g r.header (table_bytes g r.header) r.header.lists
        ++ list_fields g r.header (table_bytes g r.header) (list_end g r.header (table_bytes g r.header) r.header.lists) = rw (eq-eqb r.header.version 5 five) refl in
        let fields : list_fields g r.header (table_bytes g r.header) r.header.lists ++ list_fields g r.header (table_bytes g r.header) place ≡ table_fields g r =
        ap (λ (k : ℕ). list_fields g r.header (table_bytes g r.header) r.header.lists ++ list_fields g r.header (table_bytes g r.header) k) end
        ∙ sym both in
        subst (λ (l : List FieldPlace). FieldsRise r.header.start l behind) fields
        (rise-further r.header.start r.header.lists behind
        (list_fields g r.header (table_bytes g r.header) r.header.lists ++ list_fields g r.header (table_bytes g r.header) place) start
        (rise-append r.header.lists place behind (list_fields g r.header (table_bytes g r.header) r.header.lists) (list_fields g r.header (table_bytes g r.header) place)
        (list-rise g r.header (table_bytes g r.header) r.header.lists place dirs d) (list-rise g r.header (table_bytes g r.header) place behind files f)))

-- so do their places
places-rise : (w : Width) (a b : ℕ) (places : List ℕ) → FieldsRise a (offsets_at w places) b → Rises a (width_size w) places b
places-rise w a b [] h = h
places-rise w a b (p ∷ ps) h = (h.0, places-rise w (p + width_size w) b ps h.1)

pub header-rises : (g : LineSource) (t : LineTable) (places : List ℕ) (behind : ℕ) → AreHeaderFields g t places behind → Rises t.start (width_size t.width) places behind
header-rises g t places behind are =
    let start : are.reading.header.start ≡ t.start = sym (ap (λ (x : LineTable). x.start) are.is) in
    places-rise t.width t.start behind places
    (subst (λ (e : ℕ). FieldsRise t.start (offsets_at t.width places) e) (sym are.end)
    (subst (λ (l : List FieldPlace). FieldsRise t.start l are.reading.behind) (sym are.fields)
    (subst (λ (a : ℕ). FieldsRise a (table_fields g are.reading) are.reading.behind) start (table-rise g t.start are.reading are.reads))))

-- the lists end in the table, and the table in its section
pub header-within : (g : LineSource) (t : LineTable) (places : List ℕ) (behind : ℕ) → AreHeaderFields g t places behind → behind ≤ t.end
header-within g t places behind are =
    let end : are.reading.header.end ≡ t.end = sym (ap (λ (x : LineTable). x.end) are.is) in
    let places = header-places g t.start are.reading.header (header-is g.order g.bytes t.start are.reading.header are.reads.header) in
    let program = places.1.program in
    let before = are.reads.before in
    let own = are.end in
    omega (arith, end, program, before, own)

pub header-inside : (g : LineSource) (t : LineTable) (places : List ℕ) (behind : ℕ) → AreHeaderFields g t places behind → t.end ≤ length g.bytes
header-inside g t places behind are =
    let end : are.reading.header.end ≡ t.end = sym (ap (λ (x : LineTable). x.end) are.is) in
    let x = header-is g.order g.bytes t.start are.reading.header are.reads.header in
    let within = x.within in
    let own = x.end_is in
    omega (arith, end, within, own)

pub header-some : (g : LineSource) (t : LineTable) (places : List ℕ) (behind : ℕ) → AreHeaderFields g t places behind → t.start < t.end
header-some g t places behind are =
    let end : are.reading.header.end ≡ t.end = sym (ap (λ (x : LineTable). x.end) are.is) in
    let start : are.reading.header.start ≡ t.start = sym (ap (λ (x : LineTable). x.start) are.is) in
    let places = header-places g t.start are.reading.header (header-is g.order g.bytes t.start are.reading.header are.reads.header) in
    let inside = places.1.inside in
    let first = header-lists g t.start are.reading are.reads in
    let place = length-place are.reading.header.version (are.reading.header.start + length_size are.reading.header.width) in
    let some = width-some are.reading.header.width in
    omega (arith, end, start, inside, first, place, some)
