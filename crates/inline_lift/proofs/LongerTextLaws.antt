-- Line tables with more texts behind those of .debug_str: each text of one is as it was, and each column that is read is read as it was.
use Rattle.std.proofs.Common.{Bool, true, false, ◌≡◌, ◌≢◌, ℕ, ◌+◌, ◌<◌, ◌==◌, List, [], ◌∷◌, ◌++◌, length, drop, take, slice_index, Option, Some, None, refl, sym, ap, ◌∙◌, subst, arith, if◌then◌else◌}
use Rattle.std.specs.Prelude.{◌&&◌, ◌-◌, nat_le, not, ⊤, option_map, Result, Ok, Err}
use Rattle.std.proofs.lemmas.Bool.{eq-eqb, ne_eqb}
use Rattle.dw_base.specs.Cells.{Located, offset_into}
use Rattle.dw_base.specs.Forms.{width_size}
use Rattle.dw_base.specs.Lebs.{uleb_at}
use Rattle.dw_base.specs.LineEntries.{bad_table, column_at, column_params, columns, inline_column, offset_column, text_column, value_column, with_column}
use Rattle.dw_base.specs.LineMeanings.{column_there, column_value, further_columns, is_there, place_text, LineColumn}
use Rattle.dw_base.specs.LinePrograms.{defined_file, extended_at, extended_by, extended_in, extended_operands, file_behind, if_ranged, opcode_at, plain_opcode, standard_end}
use Rattle.dw_base.specs.LineSources.{LineSource, line_field}
use Rattle.dw_base.specs.LineTables.{texts_of}
use Rattle.dw_base.specs.LineTexts.{file_numbers, inline_text, named_text, text_by, text_of}
use Rattle.dw_base.specs.Refusals.{at}
use Rattle.dw_base.specs.Texts.{ends_in, text_in}
use Rattle.dw_base.specs.UnitHeaders.{is_address_size}
use Rattle.dw_base.specs.Values.{value_at}
use Rattle.dw_base.specs.Walks.{or_refused}
use Rattle.dw_base.specs.WrittenLines.{part}
use Rattle.dw_base.specs.declared.dwarf_numbers.TheConstants.{DW_FORM_line_strp, DW_FORM_string, DW_FORM_strp}
use Rattle.dw_base.specs.declared.fault.Kind.TheVariants.{StringOffset}
use Rattle.dw_base.specs.declared.fault.Refusal.{Refusal}
use Rattle.dw_base.specs.declared.line_numbers.TheConstants.{DW_LNCT_path, DW_LNE_define_file, DW_LNE_set_address, DW_LNE_set_discriminator}
use Rattle.dw_base.specs.declared.line_tables.Column.{Column}
use Rattle.dw_base.specs.declared.line_tables.Entry.{Entry}
use Rattle.dw_base.specs.declared.line_tables.FilePlace.{FilePlace}
use Rattle.dw_base.specs.declared.line_tables.LineHeader.{LineHeader}
use Rattle.dw_base.specs.declared.line_tables.Opcode.{Opcode}
use Rattle.dw_base.specs.declared.line_tables.TextPlace.{TextPlace}
use Rattle.dw_base.specs.declared.texts.TextSection.TheVariants.{InStr, InLineStr}
use Rattle.dw_base.specs.declared.values.Spec.{Spec}
use Rattle.dw_base.specs.declared.view_fields.Field.{Field}
use Rattle.dw_base.specs.declared.view_fields.Field.TheVariants.{Num, Into, Sym}
use Rattle.dw_base.proofs.TextLaws.{ends_in-append, ends_in-inside, take-text, text_in-append}
use Rattle.dw_meaning.proofs.LineColumnLaws.{column-is}
use Rattle.dw_meaning.proofs.LineEntryLaws.{column-step}
use Rattle.dw_meaning.proofs.LinePathLaws.{AnyPath, EachPath, PathIs, column-path, named_there, stands_there}
use Rattle.dw_meaning.proofs.LineReadLaws.{bound, inline-inside, made}
use Rattle.dw_meaning.proofs.LineWalkLaws.{Opcodes, file_first, one_opcode, program_over}
use Rattle.inline_lift.proofs.SurroundingLaws.{into-longer}

-- what line tables are read from, with more texts behind
abbrev pub longer_source : LineSource → List ℕ → LineSource
longer_source g more = record g { str = record { number = g.str.number; bytes = g.str.bytes ++ more } }

-- no text of one table of texts is taken for one of the other
abbrev pub TextsApart : LineSource → Type 0
TextsApart g = (at : ℕ) → ends_in g.line_str.bytes at ≡ true → g.line_str.number ≢ g.str.number

-- a text that ends in a table is the same with more bytes behind
placed-in : (bytes : List ℕ) (at : ℕ) → ends_in bytes at ≡ true → take (length (text_in bytes at)) (drop at bytes) ≡ text_in bytes at
unfolding ends_in text_in
placed-in bytes at e = take-text (drop at bytes) e

text-same : (bytes more : List ℕ) (at : ℕ) → ends_in bytes at ≡ true → text_in (bytes ++ more) at ≡ text_in bytes at
text-same bytes more at e = let below : at < length bytes = ends_in-inside bytes at e in text_in-append bytes more at (omega (arith, below)) e

ends-same : (bytes more : List ℕ) (at : ℕ) → ends_in bytes at ≡ true → ends_in (bytes ++ more) at ≡ true
ends-same bytes more at e = let below : at < length bytes = ends_in-inside bytes at e in ends_in-append bytes more at (omega (arith, below)) e

taken : (bytes more : List ℕ) (at : ℕ) → ends_in bytes at ≡ true → take (length (text_in bytes at)) (drop at (bytes ++ more)) ≡ take (length (text_in bytes at)) (drop at bytes)
taken bytes more at e =
    ap (λ (t : List ℕ). take (length t) (drop at (bytes ++ more))) (sym (text-same bytes more at e)) ∙ placed-in (bytes ++ more) at (ends-same bytes more at e)
    ∙ text-same bytes more at e ∙ sym (placed-in bytes at e)

abbrev taken_by : Bool → Bool → List ℕ → List ℕ → List ℕ → ℕ → ℕ → List ℕ
taken_by own str bytes texts lines at len = take len (drop at (if own then bytes else (if str then texts else lines)))

own-longer : (g : LineSource) (more : List ℕ) (x : TextPlace) → x.section ≡ g.number → place_text (longer_source g more) x ≡ place_text g x
own-longer g more x is =
    ap (λ (b : Bool). taken_by b (x.section == g.str.number) g.bytes (g.str.bytes ++ more) g.line_str.bytes x.at x.len) (eq-eqb x.section g.number is)
    ∙ sym (ap (λ (b : Bool). taken_by b (x.section == g.str.number) g.bytes g.str.bytes g.line_str.bytes x.at x.len) (eq-eqb x.section g.number is))

str-longer : (g : LineSource) (more : List ℕ) (at field : ℕ) → ends_in g.str.bytes at ≡ true → place_text (longer_source g more) (text_of g.str at field) ≡ place_text g (text_of g.str at field)
str-longer g more at field e = by_own (g.str.number == g.number)
  where
    by_own : (b : Bool) → taken_by b (g.str.number == g.str.number) g.bytes (g.str.bytes ++ more) g.line_str.bytes at (length (text_in g.str.bytes at))
        ≡ taken_by b (g.str.number == g.str.number) g.bytes g.str.bytes g.line_str.bytes at (length (text_in g.str.bytes at))
    by_own true = refl
    by_own false =
        ap (λ (b : Bool). taken_by false b g.bytes (g.str.bytes ++ more) g.line_str.bytes at (length (text_in g.str.bytes at))) (eq-eqb g.str.number g.str.number refl)
        ∙ taken g.str.bytes more at e
        ∙ sym (ap (λ (b : Bool). taken_by false b g.bytes g.str.bytes g.line_str.bytes at (length (text_in g.str.bytes at))) (eq-eqb g.str.number g.str.number refl))

line-longer : (g : LineSource) (more : List ℕ) (at field : ℕ) → g.line_str.number ≢ g.str.number
    → place_text (longer_source g more) (text_of g.line_str at field) ≡ place_text g (text_of g.line_str at field)
line-longer g more at field other =
    ap (λ (b : Bool). taken_by (g.line_str.number == g.number) b g.bytes (g.str.bytes ++ more) g.line_str.bytes at (length (text_in g.line_str.bytes at))) (ne_eqb g.line_str.number g.str.number other)
    ∙ sym (ap (λ (b : Bool). taken_by (g.line_str.number == g.number) b g.bytes g.str.bytes g.line_str.bytes at (length (text_in g.line_str.bytes at))) (ne_eqb g.line_str.number g.str.number other))

pub place-longer : (g : LineSource) (more : List ℕ) (x : TextPlace) → TextsApart g → PathIs g x → place_text (longer_source g more) x ≡ place_text g x
place-longer g more x apart (stands_there y is) = own-longer g more x is
place-longer g more x apart (named_there InStr at field e) = str-longer g more at field e
place-longer g more x apart (named_there InLineStr at field e) = line-longer g more at field (apart at e)

-- an offset that names a text names it with more texts behind
field-longer : (g : LineSource) (more : List ℕ) (p size : ℕ) → line_field (longer_source g more) p size ≡ line_field g p size
unfolding line_field
field-longer g more p size = refl

ok-same : {Y E : Type 0} (a b : Y) → ◌≡◌ {A = Result Y E} (Ok a) (Ok b) → a ≡ b
ok-same a b e = cc

err-ok : {Y E : Type 0} (r : E) (y : Y) → ◌≡◌ {A = Result Y E} (Err r) (Ok y) → ⊥
err-ok r y e = cc

abbrev text_test : Bool → Located → ℕ → ℕ → ℕ → Result TextPlace Refusal
text_test b z section p n = if b then Ok (text_of z n p) else Err (at StringOffset section p)

abbrev more_texts : Located → List ℕ → Located
more_texts z more = record { number = z.number; bytes = z.bytes ++ more }

offset-longer_text : (z : Located) (more : List ℕ) (section p n : ℕ) (t : TextPlace) (b : Bool) → ends_in z.bytes n ≡ b → text_test b z section p n ≡ Ok t
    → text_test (ends_in (z.bytes ++ more) n) (more_texts z more) section p n ≡ Ok t
offset-longer_text z more section p n t true is e =
    ap (λ (b : Bool). text_test b (more_texts z more) section p n) (ends-same z.bytes more n is)
    ∙ ap (λ (u : List ℕ). Ok (record { section = z.number; at = n; len = length u; field = p })) (text-same z.bytes more n is) ∙ e
offset-longer_text z more section p n t false is e = absurd (err-ok _ t e)

text-offset_ends : (z : Located) (section p n : ℕ) (t : TextPlace) (b : Bool) → text_test b z section p n ≡ Ok t → b ≡ true
text-offset_ends z section p n t true e = refl
text-offset_ends z section p n t false e = absurd (err-ok _ t e)

named-by : (z : Located) (more : List ℕ) (section p : ℕ) (t : TextPlace) (f : Result Field Refusal) → or_refused (text_by z section p) f ≡ Ok t
    → or_refused (text_by (more_texts z more) section p) f ≡ Ok t
named-by z more section p t (Ok (Num n)) e = offset-longer_text z more section p n t (ends_in z.bytes n) refl e
named-by z more section p t (Ok (Into s n)) e =
    let ends : ends_in z.bytes (offset_into z (Into s n)) ≡ true = text-offset_ends z section p (offset_into z (Into s n)) t (ends_in z.bytes (offset_into z (Into s n))) e in
    ap (λ (k : ℕ). text_test (ends_in (z.bytes ++ more) k) (more_texts z more) section p k) (into-longer z.number z.bytes more (Into s n) ends)
    ∙ offset-longer_text z more section p (offset_into z (Into s n)) t (ends_in z.bytes (offset_into z (Into s n))) refl e
named-by z more section p t (Ok (Sym s k a)) e = absurd (err-ok _ t e)
named-by z more section p t (Err r) e = absurd (err-ok r t e)

named-longer : (g : LineSource) (more : List ℕ) (p size : ℕ) (t : TextPlace) → named_text g g.str p size ≡ Ok t → named_text (longer_source g more) (more_texts g.str more) p size ≡ Ok t
unfolding named_text
named-longer g more p size t e =
    ap (or_refused (text_by (more_texts g.str more) g.number p)) (field-longer g more p size) ∙ named-by g.str more g.number p t (line_field g p size) e

lines-longer : (g : LineSource) (more : List ℕ) (p size : ℕ) → named_text (longer_source g more) g.line_str p size ≡ named_text g g.line_str p size
unfolding named_text
lines-longer g more p size = ap (or_refused (text_by g.line_str g.number p)) (field-longer g more p size)

-- so each column is read as it was
ok-text : (next : ℕ) (x y : Result TextPlace Refusal) (c : Column) → text_column next x ≡ Ok c → ((t : TextPlace) → x ≡ Ok t → y ≡ Ok t) → text_column next y ≡ Ok c
ok-text next (Err r) y c e same = absurd (err-ok r c e)
ok-text next (Ok t) y c e same = ap (text_column next) (same t refl) ∙ e

str-column : (g : LineSource) (more : List ℕ) (h : LineHeader) (table : List ℕ) (p : ℕ) (c : Column) → offset_column g h table g.str p ≡ Ok c
    → offset_column (longer_source g more) h table (more_texts g.str more) p ≡ Ok c
unfolding offset_column
str-column g more h table p c e = by_room (nat_le (p + width_size h.width) (length table)) e
  where
    by_room : (b : Bool) → (if b then text_column (p + width_size h.width) (named_text g g.str p (width_size h.width)) else Err (bad_table g.number h)) ≡ Ok c
        → (if b then text_column (p + width_size h.width) (named_text (longer_source g more) (more_texts g.str more) p (width_size h.width)) else Err (bad_table g.number h)) ≡ Ok c
    by_room true f =
        ok-text (p + width_size h.width) (named_text g g.str p (width_size h.width)) (named_text (longer_source g more) (more_texts g.str more) p (width_size h.width)) c f
        (λ t is. named-longer g more p (width_size h.width) t is)
    by_room false f = f

line-column : (g : LineSource) (more : List ℕ) (h : LineHeader) (table : List ℕ) (p : ℕ) → offset_column (longer_source g more) h table g.line_str p ≡ offset_column g h table g.line_str p
unfolding offset_column
line-column g more h table p =
    ap (λ (x : Result TextPlace Refusal). if nat_le (p + width_size h.width) (length table) then text_column (p + width_size h.width) x else Err (bad_table g.number h)) (lines-longer g more p (width_size h.width))

pub column-longer : (g : LineSource) (more : List ℕ) (h : LineHeader) (table : List ℕ) (spec : Spec) (p : ℕ) (c : Column) → column_at g h table spec p ≡ Ok c
    → column_at (longer_source g more) h table spec p ≡ Ok c
unfolding column_at
column-longer g more h table spec p c e = by_form (spec.form == DW_FORM_string) (spec.form == DW_FORM_strp) (spec.form == DW_FORM_line_strp) e
  where
    by_form : (a b d : Bool)
        → (if a then inline_column g.number h p (inline_text g.number table p)
        else (if b then offset_column g h table g.str p
        else (if d then offset_column g h table g.line_str p
        else value_column g.number h p (value_at (column_params g.order h) spec table p)))) ≡ Ok c
        → (if a then inline_column g.number h p (inline_text g.number table p)
        else (if b then offset_column (longer_source g more) h table (more_texts g.str more) p
        else (if d then offset_column (longer_source g more) h table g.line_str p
        else value_column g.number h p (value_at (column_params g.order h) spec table p)))) ≡ Ok c
    by_form true b d f = f
    by_form false true d f = str-column g more h table p c f
    by_form false false true f = line-column g more h table p ∙ f
    by_form false false false f = f

pub columns-longer : (g : LineSource) (more : List ℕ) (h : LineHeader) (table : List ℕ) (specs : List Spec) (e last : Entry) → columns g h table specs e ≡ Ok last
    → columns (longer_source g more) h table specs e ≡ Ok last
columns-longer g more h table [] e last is = is
columns-longer g more h table (spec ∷ specs) e last is =
    let s = column-step g h table spec specs e last is in
    ap (λ (x : Result Column Refusal). or_refused (columns (longer_source g more) h table specs) (Rattle.dw_base.specs.LineEntries.result_with (with_column spec e) x))
    (column-longer g more h table spec e.next s.column s.is)
    ∙ columns-longer g more h table specs (with_column spec e s.column) last s.rest

-- and says what it said
text-value : (g : LineSource) (more : List ℕ) (form number : ℕ) (own : List ℕ) (o : Option TextPlace) → TextsApart g → AnyPath g o
    → column_value (longer_source g more) form o number own ≡ column_value g form o number own
text-value g more form number own None apart path = refl
text-value g more form number own (Some t) apart path = ap Rattle.dw_base.specs.LineMeanings.text_column (place-longer g more t apart path)

abbrev column_made : LineSource → List ℕ → Spec → ℕ → Column → Bool → List LineColumn → List LineColumn → List LineColumn
column_made g table spec p c b first rest = if b then first else record { name = spec.name; value = column_value g spec.form c.text c.number (part table p c.next) } ∷ rest

made-longer : (g : LineSource) (more table : List ℕ) (spec : Spec) (p : ℕ) (c : Column) (b : Bool) (first new rest behind : List LineColumn) → TextsApart g → AnyPath g c.text → new ≡ first
    → behind ≡ rest → column_made (longer_source g more) table spec p c b new behind ≡ column_made g table spec p c b first rest
made-longer g more table spec p c true first new rest behind apart path e f = e
made-longer g more table spec p c false first new rest behind apart path e f =
    ap (λ (v : Rattle.dw_base.specs.LineMeanings.ColumnValue). record { name = spec.name; value = v } ∷ behind) (text-value g more spec.form c.number (part table p c.next) c.text apart path)
    ∙ ap (λ (cs_ : List LineColumn). record { name = spec.name; value = column_value g spec.form c.text c.number (part table p c.next) } ∷ cs_) f

pub further-longer : (g : LineSource) (more : List ℕ) (h : LineHeader) (table : List ℕ) (specs : List Spec) (path : Bool) (e last : Entry) → TextsApart g → columns g h table specs e ≡ Ok last
    → further_columns (longer_source g more) h table specs path e.next ≡ further_columns g h table specs path e.next
further-longer g more h table [] path e last apart is = refl
further-longer g more h table (spec ∷ specs) path e last apart is =
    let s = column-step g h table spec specs e last is in
    ap (column_there (longer_source g more) table spec path e.next (λ t p. further_columns (longer_source g more) h table specs t p)) (column-longer g more h table spec e.next s.column s.is)
    ∙ made-longer g more table spec e.next s.column (not path && spec.name == DW_LNCT_path && is_there s.column.text)
    (further_columns g h table specs true s.column.next) (further_columns (longer_source g more) h table specs true s.column.next)
    (further_columns g h table specs path s.column.next) (further_columns (longer_source g more) h table specs path s.column.next) apart
    (column-path g h table spec e.next s.column (column-is g h table spec e.next s.column s.is))
    (further-longer g more h table specs true (with_column spec e s.column) last apart s.rest)
    (further-longer g more h table specs path (with_column spec e s.column) last apart s.rest)
    ∙ sym (ap (column_there g table spec path e.next (λ t p. further_columns g h table specs t p)) s.is)

-- the files that a program defines stand in the section
abbrev FileIn : ℕ → Option FilePlace → Type 0
FileIn section None = ⊤
FileIn section (Some f) = f.text.section ≡ section

defined-in : (section : ℕ) (body : List ℕ) (p : ℕ) (f : FilePlace) → defined_file section body p ≡ Some f → f.text.section ≡ section
unfolding defined_file
defined-in section body p f e =
    let b = bound (file_behind body p) (inline_text section body p) f e in
    let m = made (λ (n : ℕ × ℕ). record { text = b.first; dir = n.0 }) (file_numbers body (p + b.first.len + 1)) f b.rest in
    ap (λ (x : FilePlace). x.text.section) (sym m.same) ∙ ap (λ (t : TextPlace). t.section) (inline-inside section body p b.first b.is).1

some-none : (x : Option FilePlace) → Some None ≡ Some x → None ≡ x
some-none x e = cc

none-in : (section : ℕ) (x : Option FilePlace) → None ≡ x → FileIn section x
none-in section x e = subst (FileIn section) e tt

operands-in : (section : ℕ) (body : List ℕ) (code p : ℕ) (x : Option FilePlace) → extended_operands section body code p ≡ Some x → FileIn section x
unfolding extended_operands
operands-in section body code p x e = by_code (code == DW_LNE_set_address) (code == DW_LNE_define_file) (code == DW_LNE_set_discriminator) e
  where
    by_size : (b : Bool) → (if b then Some None else None) ≡ Some x → FileIn section x
    by_size true f = none-in section x (some-none x f)
    by_size false f = absurd cc

    by_code : (a b c : Bool)
        → (if a then (if is_address_size (length body - p) then Some None else None)
        else (if b then option_map (λ f. Some f) (defined_file section body p)
        else (if c then option_map (λ n. None) (uleb_at body p)
        else Some None))) ≡ Some x → FileIn section x
    by_code true b c f = by_size (is_address_size (length body - p)) f
    by_code false true c f =
        let m = made (λ (y : FilePlace). Some y) (defined_file section body p) x f in
        subst (FileIn section) m.same (defined-in section body p m.first m.is)
    by_code false false true f =
        let m = made (λ (n : ℕ × ℕ). None) (uleb_at body p) x f in
        none-in section x m.same
    by_code false false false f = none-in section x (some-none x f)

by-operands : (section next : ℕ) (x : Option (Option FilePlace)) (o : Opcode) → ((y : Option FilePlace) → x ≡ Some y → FileIn section y) → extended_by next x ≡ Some o → FileIn section o.file
by-operands section next None o own e = absurd cc
by-operands section next (Some y) o own e = let same : record { next = next; file = y } ≡ o = opcode-same _ o e in subst (λ (q : Opcode). FileIn section q.file) same (own y refl)
  where
    opcode-same : (a b : Opcode) → Some a ≡ Some b → a ≡ b
    opcode-same a b e = cc

extended-in : (section : ℕ) (table : List ℕ) (first size : ℕ) (o : Opcode) → extended_in section table first size ≡ Some o → FileIn section o.file
unfolding extended_in
extended-in section table first size o e = by_size (size == 0) (nat_le (first + size) (length table)) e
  where
    by_size : (a b : Bool)
        → (if a then None
        else (if b then extended_by (first + size) (extended_operands section (take (first + size) table) (slice_index table first) (first + 1)) else None)) ≡ Some o
        → FileIn section o.file
    by_size true b f = absurd cc
    by_size false true f =
        by-operands section (first + size) (extended_operands section (take (first + size) table) (slice_index table first) (first + 1)) o
        (λ y is. operands-in section (take (first + size) table) (slice_index table first) (first + 1) y is) f
    by_size false false f = absurd cc

extended-at : (section : ℕ) (table : List ℕ) (p : ℕ) (o : Opcode) → extended_at section table p ≡ Some o → FileIn section o.file
unfolding extended_at
extended-at section table p o e =
    let b = bound (λ (size : ℕ × ℕ). extended_in section table (p + size.1) size.0) (uleb_at table p) o e in
    extended-in section table (p + b.first.1) b.first.0 o b.rest

plain-in : (section : ℕ) (x : Option ℕ) (o : Opcode) → plain_opcode x ≡ Some o → FileIn section o.file
plain-in section None o e = absurd cc
plain-in section (Some n) o e = let same : record { next = n; file = None } ≡ o = opcode-same _ o e in subst (λ (q : Opcode). FileIn section q.file) same tt
  where
    opcode-same : (a b : Opcode) → Some a ≡ Some b → a ≡ b
    opcode-same a b e = cc

opcode-in : (section : ℕ) (h : LineHeader) (table : List ℕ) (p : ℕ) (o : Opcode) → opcode_at section h table p ≡ Some o → FileIn section o.file
unfolding opcode_at
opcode-in section h table p o e = by_kind (nat_le h.opcode_base (slice_index table p)) (slice_index table p == 0) e
  where
    by_kind : (a b : Bool)
        → (if a then plain_opcode (if_ranged h (p + 1))
        else (if b then extended_at section table (p + 1) else plain_opcode (standard_end h table (slice_index table p) (p + 1)))) ≡ Some o
        → FileIn section o.file
    by_kind true b f = plain-in section (if_ranged h (p + 1)) o f
    by_kind false true f = extended-at section table (p + 1) o f
    by_kind false false f = plain-in section (standard_end h table (slice_index table p) (p + 1)) o f

pub opcodes-paths : (g : LineSource) (h : LineHeader) (table : List ℕ) (p : ℕ) (fs : List FilePlace) → Opcodes g.number h table p fs → EachPath g (texts_of fs)
opcodes-paths g h table p fs (program_over q over) = tt
opcodes-paths g h table p fs (one_opcode q o us is at_it rest) = by_file o.file (opcode-in g.number h table q o at_it) (opcodes-paths g h table o.next us rest)
  where
    by_file : (x : Option FilePlace) → FileIn g.number x → EachPath g (texts_of us) → EachPath g (texts_of (file_first x us))
    by_file None own behind = behind
    by_file (Some f) own behind = (stands_there f.text own, behind)
