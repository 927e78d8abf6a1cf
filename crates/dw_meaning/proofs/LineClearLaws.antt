-- In a line table that isn't refused for its relocations, none begins in its header but at offsets of texts: neither in its lengths nor in the
-- paths that stand in it.
use Rattle.std.proofs.Common.{Bool, true, false, ◌≡◌, ◌≢◌, ℕ, zero, suc, ◌+◌, ◌<◌, ◌≤◌, ◌==◌, ◌||◌, List, [], ◌∷◌, ◌++◌, length, Option, Some, None, refl, sym, ap, ◌∙◌, subst, arith, if◌then◌else◌, ◌&&◌}
use Rattle.std.specs.Prelude.{⊤, Result, Ok, Err}
use Rattle.std.proofs.lemmas.Bool.{eq-eqb, ne_eqb}
use Rattle.dw_base.specs.Cells.{Cell, Relocation}
use Rattle.dw_base.specs.Forms.{width_size}
use Rattle.dw_base.specs.Lebs.{uleb_at}
use Rattle.dw_base.specs.LineEntries.{column_at, columns, entry_at, entries_at, with_column, list_end, place_behind}
use Rattle.dw_base.specs.LineFields.{column_field, entries_fields, entry_fields, fields_behind, fields_counted, fields_formed, fields_there, list_fields, table_fields}
use Rattle.dw_base.specs.LineFormats.{format_at, is_column}
use Rattle.dw_base.specs.LineReadings.{LineReading, ReadsTable, TablesTo}
use Rattle.dw_base.specs.LineSources.{LineSource}
use Rattle.dw_base.specs.LineTables.{HasLists, new_lists, old_lists, table_bytes}
use Rattle.dw_base.specs.RelocationFields.{relocation_at}
use Rattle.dw_base.specs.RelocationRows.{FieldPlace, HeaderReads, field_place, has_offset_at, is_offset_use, offset_field}
use Rattle.dw_base.specs.Texts.{text_in}
use Rattle.dw_base.specs.WrittenLines.{length_size}
use Rattle.dw_base.specs.declared.dwarf_numbers.TheConstants.{DW_FORM_line_strp, DW_FORM_string, DW_FORM_strp}
use Rattle.dw_base.specs.declared.fault.Refusal.{Refusal}
use Rattle.dw_base.specs.declared.line_tables.Column.{Column}
use Rattle.dw_base.specs.declared.line_tables.Entry.{Entry}
use Rattle.dw_base.specs.declared.line_tables.FilePlace.{FilePlace}
use Rattle.dw_base.specs.declared.line_tables.LineHeader.{LineHeader}
use Rattle.dw_base.specs.declared.line_tables.TextPlace.{TextPlace}
use Rattle.dw_base.specs.declared.texts.TextSection.{TextSection}
use Rattle.dw_base.specs.declared.texts.TextSection.TheVariants.{InStr, InLineStr}
use Rattle.dw_base.specs.declared.values.Spec.{Spec}
use Rattle.dw_meaning.proofs.ClearLaws.{Clear, ColumnsClear, EntriesClear, ListClear, ListsClear, NoneOver, clear-part, clear_from}
use Rattle.dw_meaning.proofs.FieldPutLaws.{width-some}
use Rattle.dw_meaning.proofs.LineColumnLaws.{ColumnIs, column-is, inline_is, offset_form, offset_is, value_is}
use Rattle.dw_meaning.proofs.LineEntryLaws.{AreColumns, column-step, entry-same}
use Rattle.dw_meaning.proofs.LineHeaderLaws.{first_place, flags-place, header-is, length-place}
use Rattle.dw_meaning.proofs.LineListLaws.{entry-is, format-place, list-is}
use Rattle.dw_meaning.proofs.LineMoveLaws.{column-place}
use Rattle.dw_meaning.proofs.LineOldLaws.{file-place}
use Rattle.dw_meaning.proofs.LineTableLaws.{header-places}
use Rattle.dw_meaning.proofs.LineWalkLaws.{NewFiles, OldDirs, OldFiles, dirs-of, files-of}

-- those that begin there begin at offsets of these fields
pub record Owned (cells : List Cell) (fs : List FieldPlace) (a b : ℕ) : Type 0 where
  pub own : (p : ℕ) (r : Relocation) → relocation_at cells p ≡ Some r → a ≤ p → p < b → has_offset_at fs p ≡ true

clear-owned : (cells : List Cell) (fs : List FieldPlace) (a b : ℕ) → Owned cells fs a b → ((p : ℕ) → a ≤ p → p < b → has_offset_at fs p ≡ false) → Clear cells a b
clear-owned cells fs a b h other = record { none = λ p le lt. by_there p le lt (relocation_at cells p) refl }
  where
    by_there : (p : ℕ) → a ≤ p → p < b → (o : Option Relocation) → relocation_at cells p ≡ o → o ≡ None
    by_there p le lt None e = refl
    by_there p le lt (Some r) e =
        let is = h.own p r e le lt in
        let none = other p le lt in
        absurd cc

-- fields behind a place, and in front of one
abbrev pub FieldsFrom : ℕ → List FieldPlace → Type 0
FieldsFrom a [] = ⊤
FieldsFrom a (f ∷ fs) = (a ≤ f.place) × FieldsFrom a fs

abbrev pub FieldsBelow : ℕ → List FieldPlace → Type 0
FieldsBelow a [] = ⊤
FieldsBelow a (f ∷ fs) = (f.place < a) × FieldsBelow a fs

pub from-further : (a b : ℕ) (fs : List FieldPlace) → a ≤ b → FieldsFrom b fs → FieldsFrom a fs
from-further a b [] le h = tt
from-further a b (f ∷ fs) le h =
    let here = h.0 in
    (omega (arith, le, here), from-further a b fs le h.1)

pub from-append : (a : ℕ) (xs ys : List FieldPlace) → FieldsFrom a xs → FieldsFrom a ys → FieldsFrom a (xs ++ ys)
from-append a [] ys h k = k
from-append a (x ∷ xs) ys h k = (h.0, from-append a xs ys h.1 k)

other-place : (f : FieldPlace) (fs : List FieldPlace) (p : ℕ) → f.place ≢ p → has_offset_at (f ∷ fs) p ≡ has_offset_at fs p
other-place f fs p other = by_use (is_offset_use f.use_is) (ne_eqb f.place p other)
  where
    by_use : (b : Bool) → (f.place == p) ≡ false → (if b && f.place == p then true else has_offset_at fs p) ≡ has_offset_at fs p
    by_use true e = rw e refl
    by_use false e = refl

pub from-none : (a : ℕ) (fs : List FieldPlace) (p : ℕ) → FieldsFrom a fs → p < a → has_offset_at fs p ≡ false
from-none a [] p h lt = refl
from-none a (f ∷ fs) p h lt =
    let here = h.0 in
    other-place f fs p (λ e. omega (arith, e, here, lt)) ∙ from-none a fs p h.1 lt

from-front : (a : ℕ) (xs ys : List FieldPlace) (p : ℕ) → FieldsFrom a ys → p < a → has_offset_at (xs ++ ys) p ≡ has_offset_at xs p
from-front a [] ys p h lt = from-none a ys p h lt
from-front a (x ∷ xs) ys p h lt = ap (λ (b : Bool). if is_offset_use x.use_is && x.place == p then true else b) (from-front a xs ys p h lt)

pub below-behind : (a : ℕ) (xs ys : List FieldPlace) (p : ℕ) → FieldsBelow a xs → a ≤ p → has_offset_at (xs ++ ys) p ≡ has_offset_at ys p
below-behind a [] ys p h le = refl
below-behind a (x ∷ xs) ys p h le =
    let here = h.0 in
    other-place x (xs ++ ys) p (λ e. omega (arith, e, here, le)) ∙ below-behind a xs ys p h.1 le

owned-front : (cells : List Cell) (xs ys : List FieldPlace) (a b c : ℕ) → Owned cells (xs ++ ys) a c → FieldsFrom b ys → b ≤ c → Owned cells xs a b
owned-front cells xs ys a b c h from le =
    record { own = λ p r e at lt. sym (from-front b xs ys p from lt) ∙ h.own p r e at (omega (arith, lt, le)) }

owned-behind : (cells : List Cell) (xs ys : List FieldPlace) (a b c : ℕ) → Owned cells (xs ++ ys) a c → FieldsBelow b xs → a ≤ b → Owned cells ys b c
owned-behind cells xs ys a b c h below le =
    record { own = λ p r e at lt. sym (below-behind b xs ys p below at) ∙ h.own p r e (omega (arith, le, at)) lt }

-- the field of a column
abbrev is_named : Spec → Bool
is_named spec = spec.form == DW_FORM_strp || spec.form == DW_FORM_line_strp

column-next : (g : LineSource) (h : LineHeader) (table : List ℕ) (spec : Spec) (p : ℕ) (c : Column) → is_column spec ≡ true → ColumnIs g h table spec p c → p ≤ c.next
column-next g h table spec p c plain is = (column-place g h table spec p c plain is).0

field-from : (h : LineHeader) (spec : Spec) (p : ℕ) → FieldsFrom p (column_field h spec p)
field-from h spec p = by_form (is_named spec)
  where
    by_form : (b : Bool) → FieldsFrom p (if b then field_place p (width_size h.width) offset_field ∷ [] else [])
    by_form true = (omega arith, tt)
    by_form false = tt

pub offset-named : (spec : Spec) (z : TextSection) → spec.form ≡ offset_form z → is_named spec ≡ true
offset-named spec InStr e = rw e refl
offset-named spec InLineStr e = rw e refl

pub inline-unnamed : (spec : Spec) → spec.form ≡ DW_FORM_string → is_named spec ≡ false
inline-unnamed spec e = rw e refl

value-unnamed : (spec : Spec) → (spec.form == DW_FORM_strp) ≡ false → (spec.form == DW_FORM_line_strp) ≡ false → is_named spec ≡ false
value-unnamed spec a b = rw (a, b) refl

field-below : (g : LineSource) (h : LineHeader) (table : List ℕ) (spec : Spec) (p : ℕ) (c : Column) → ColumnIs g h table spec p c → FieldsBelow c.next (column_field h spec p)
field-below g h table spec p c (inline_is form ends) =
    subst (λ (b : Bool). FieldsBelow (p + length (text_in table p) + 1) (if b then field_place p (width_size h.width) offset_field ∷ [] else [])) (sym (inline-unnamed spec form)) tt
field-below g h table spec p c (offset_is z n form room reads ends) =
    let some = width-some h.width in
    subst (λ (b : Bool). FieldsBelow (p + width_size h.width) (if b then field_place p (width_size h.width) offset_field ∷ [] else [])) (sym (offset-named spec z form))
    (omega (arith, some), tt)
field-below g h table spec p c (value_is x y d v is) =
    subst (λ (b : Bool). FieldsBelow (p + v.size) (if b then field_place p (width_size h.width) offset_field ∷ [] else [])) (sym (value-unnamed spec y d)) tt

-- and none of it stands in what is clear
field-other : (h : LineHeader) (spec : Spec) (p q : ℕ) → clear_from spec p ≤ q → has_offset_at (column_field h spec p) q ≡ false
field-other h spec p q = by_form (is_named spec)
  where
    by_form : (b : Bool) → (if b then suc p else p) ≤ q → has_offset_at (if b then field_place p (width_size h.width) offset_field ∷ [] else []) q ≡ false
    by_form true le = other-place (field_place p (width_size h.width) offset_field) [] q (λ e. omega (arith, e, le))
    by_form false le = refl

-- a column in which no relocation begins, but where it is an offset
column-clear : (g : LineSource) (h : LineHeader) (spec : Spec) (p next end : ℕ) (fs : List FieldPlace) → Owned g.cells (column_field h spec p ++ fs) p end → FieldsFrom next fs
    → next ≤ end → Clear g.cells (clear_from spec p) next
column-clear g h spec p next end fs own from le =
    clear-owned g.cells (column_field h spec p ++ fs) (clear_from spec p) next
    (record { own = λ q r e at lt. own.own q r e (omega (arith, at, behind)) (omega (arith, lt, le)) })
    (λ q at lt. from-front next (column_field h spec p) fs q from lt ∙ field-other h spec p q at)
  where
    behind : p ≤ clear_from spec p
    behind = by_form (is_named spec)
      where
        by_form : (b : Bool) → p ≤ (if b then suc p else p)
        by_form true = omega arith
        by_form false = omega arith

fields-from : (g : LineSource) (h : LineHeader) (table : List ℕ) (specs : List Spec) (p : ℕ) → AreColumns specs → FieldsFrom p (entry_fields g h table specs p)
fields-from g h table [] p plain = tt
fields-from g h table (spec ∷ specs) p plain =
    from-append p (column_field h spec p) (fields_behind (λ q. entry_fields g h table specs q) (column_at g h table spec p)) (field-from h spec p)
    (by_read (column_at g h table spec p) refl (λ q. fields-from g h table specs q plain.1))
  where
    by_read : (o : Result Column Refusal) → column_at g h table spec p ≡ o → ((q : ℕ) → FieldsFrom q (entry_fields g h table specs q))
        → FieldsFrom p (fields_behind (λ q. entry_fields g h table specs q) o)
    by_read (Err r) e more = tt
    by_read (Ok c) e more =
        from-further p c.next (entry_fields g h table specs c.next) (column-next g h table spec p c plain.0 (column-is g h table spec p c e)) (more c.next)

columns-behind : (g : LineSource) (h : LineHeader) (table : List ℕ) (specs : List Spec) (e last : Entry) → AreColumns specs → columns g h table specs e ≡ Ok last → e.next ≤ last.next
columns-behind g h table [] e last plain is =
    let next : e.next ≡ last.next = ap (λ (x : Entry). x.next) (entry-same e last is) in
    omega (arith, next)
columns-behind g h table (spec ∷ specs) e last plain is =
    let step = column-step g h table spec specs e last is in
    let here = column-next g h table spec e.next step.column plain.0 (column-is g h table spec e.next step.column step.is) in
    let more = columns-behind g h table specs (with_column spec e step.column) last plain.1 step.rest in
    omega (arith, here, more)

ok-column : (a b : Column) → ◌≡◌ {A = Result Column Refusal} (Ok a) (Ok b) → a ≡ b
ok-column a b e = cc

pub below-further : (a b : ℕ) (fs : List FieldPlace) → a ≤ b → FieldsBelow a fs → FieldsBelow b fs
below-further a b [] le h = tt
below-further a b (f ∷ fs) le h =
    let here = h.0 in
    (omega (arith, here, le), below-further a b fs le h.1)

pub below-append : (a : ℕ) (xs ys : List FieldPlace) → FieldsBelow a xs → FieldsBelow a ys → FieldsBelow a (xs ++ ys)
below-append a [] ys h k = k
below-append a (x ∷ xs) ys h k = (h.0, below-append a xs ys h.1 k)

columns-below : (g : LineSource) (h : LineHeader) (table : List ℕ) (specs : List Spec) (e last : Entry) → AreColumns specs → columns g h table specs e ≡ Ok last
    → FieldsBelow last.next (entry_fields g h table specs e.next)
columns-below g h table [] e last plain is = tt
columns-below g h table (spec ∷ specs) e last plain is =
    let step = column-step g h table spec specs e last is in
    let what = column-is g h table spec e.next step.column step.is in
    let more = columns-behind g h table specs (with_column spec e step.column) last plain.1 step.rest in
    below-append last.next (column_field h spec e.next) (fields_behind (λ q. entry_fields g h table specs q) (column_at g h table spec e.next))
    (below-further step.column.next last.next (column_field h spec e.next) more (field-below g h table spec e.next step.column what))
    (subst (λ (o : Result Column Refusal). FieldsBelow last.next (fields_behind (λ q. entry_fields g h table specs q) o)) (sym step.is)
    (columns-below g h table specs (with_column spec e step.column) last plain.1 step.rest))

columns-clear : (g : LineSource) (h : LineHeader) (table : List ℕ) (specs : List Spec) (e last : Entry) → AreColumns specs → columns g h table specs e ≡ Ok last
    → Owned g.cells (entry_fields g h table specs e.next) e.next last.next → ColumnsClear g h table specs e.next
columns-clear g h table [] e last plain is own = tt
columns-clear g h table (spec ∷ specs) e last plain is own =
    let step = column-step g h table spec specs e last is in
    let what = column-is g h table spec e.next step.column step.is in
    let own_at : Owned g.cells (column_field h spec e.next ++ entry_fields g h table specs step.column.next) e.next last.next =
    subst (λ (o : Result Column Refusal). Owned g.cells (column_field h spec e.next ++ fields_behind (λ q. entry_fields g h table specs q) o) e.next last.next) step.is own in
    let more = columns-behind g h table specs (with_column spec e step.column) last plain.1 step.rest in
    λ c read.
    subst (λ (x : Column). Clear g.cells (clear_from spec e.next) x.next × ColumnsClear g h table specs x.next) (ok-column step.column c (sym step.is ∙ read)) (
      column-clear g h spec e.next step.column.next last.next (entry_fields g h table specs step.column.next) own_at
          (fields-from g h table specs step.column.next plain.1) more,
      columns-clear g h table specs (with_column spec e step.column) last plain.1 step.rest
          (owned-behind g.cells (column_field h spec e.next) (entry_fields g h table specs step.column.next) e.next step.column.next last.next own_at
          (field-below g h table spec e.next step.column what) (column-next g h table spec e.next step.column plain.0 what)),
    )

entry-behind : (g : LineSource) (h : LineHeader) (table : List ℕ) (specs : List Spec) (p : ℕ) (f : FilePlace) (next : ℕ) → AreColumns specs
    → entry_at g h table specs p ≡ Ok (f, next) → p ≤ next
entry-behind g h table specs p f next plain e =
    let x = entry-is g h table specs p f next e in
    subst (λ (i : ℕ). p ≤ i) x.behind (columns-behind g h table specs (record { text = None; dir = None; next = p }) x.last plain x.columns_are)

entries-from : (g : LineSource) (h : LineHeader) (table : List ℕ) (specs : List Spec) (n p : ℕ) → AreColumns specs → FieldsFrom p (entries_fields g h table specs n p)
entries-from g h table specs zero p plain = tt
entries-from g h table specs (suc n) p plain =
    from-append p (entry_fields g h table specs p) (fields_there (λ q. entries_fields g h table specs n q) (entry_at g h table specs p)) (fields-from g h table specs p plain)
    (by_read (entry_at g h table specs p) refl (λ q. entries-from g h table specs n q plain))
  where
    by_read : (o : Result (FilePlace × ℕ) Refusal) → entry_at g h table specs p ≡ o → ((q : ℕ) → FieldsFrom q (entries_fields g h table specs n q))
        → FieldsFrom p (fields_there (λ q. entries_fields g h table specs n q) o)
    by_read (Err r) e more = tt
    by_read (Ok (f, next)) e more =
        from-further p next (entries_fields g h table specs n next) (entry-behind g h table specs p f next plain e) (more next)

files-behind : (g : LineSource) (h : LineHeader) (table : List ℕ) (specs : List Spec) (p e : ℕ) (fs : List FilePlace) → AreColumns specs → NewFiles g h table specs p fs e → p ≤ e
files-behind g h table specs p e [] plain are = omega (arith, are)
files-behind g h table specs p e (f ∷ fs) plain are =
    let here = entry-behind g h table specs p f are.0.next plain are.0.entry in
    let more = files-behind g h table specs are.0.next e fs plain are.1 in
    omega (arith, here, more)

ok-next : (f d : FilePlace) (i j : ℕ) → ◌≡◌ {A = Result (FilePlace × ℕ) Refusal} (Ok (f, i)) (Ok (d, j)) → i ≡ j
ok-next f d i j e = ap (λ (o : Result (FilePlace × ℕ) Refusal). next_or o) e
  where
    next_or : Result (FilePlace × ℕ) Refusal → ℕ
    next_or (Ok x) = x.1
    next_or (Err r) = i

entries-clear : (g : LineSource) (h : LineHeader) (table : List ℕ) (specs : List Spec) (p e : ℕ) (fs : List FilePlace) → AreColumns specs → NewFiles g h table specs p fs e
    → Owned g.cells (entries_fields g h table specs (length fs) p) p e → EntriesClear g h table specs (length fs) p
entries-clear g h table specs p e [] plain are own = tt
entries-clear g h table specs p e (f ∷ fs) plain are own =
    let x = entry-is g h table specs p f are.0.next are.0.entry in
    let own_at : Owned g.cells (entry_fields g h table specs p ++ entries_fields g h table specs (length fs) are.0.next) p e =
    subst (λ (o : Result (FilePlace × ℕ) Refusal). Owned g.cells (entry_fields g h table specs p ++ fields_there (λ q. entries_fields g h table specs (length fs) q) o) p e) are.0.entry own in
    let more = files-behind g h table specs are.0.next e fs plain are.1 in
    let front : Owned g.cells (entry_fields g h table specs p) p are.0.next =
    owned-front g.cells (entry_fields g h table specs p) (entries_fields g h table specs (length fs) are.0.next) p are.0.next e own_at
    (entries-from g h table specs (length fs) are.0.next plain) more in
    let below : FieldsBelow are.0.next (entry_fields g h table specs p) =
    subst (λ (i : ℕ). FieldsBelow i (entry_fields g h table specs p)) x.behind
    (columns-below g h table specs (record { text = None; dir = None; next = p }) x.last plain x.columns_are) in
    let rest : EntriesClear g h table specs (length fs) are.0.next =
    entries-clear g h table specs are.0.next e fs plain are.1
    (owned-behind g.cells (entry_fields g h table specs p) (entries_fields g h table specs (length fs) are.0.next) p are.0.next e own_at below
    (entry-behind g h table specs p f are.0.next plain are.0.entry)) in (
      columns-clear g h table specs (record { text = None; dir = None; next = p }) x.last plain x.columns_are
          (subst (λ (i : ℕ). Owned g.cells (entry_fields g h table specs p) p i) (sym x.behind) front),
      λ d next read. subst (EntriesClear g h table specs (length fs)) (ok-next f d are.0.next next (sym are.0.entry ∙ read)) rest,
    )

entries-below : (g : LineSource) (h : LineHeader) (table : List ℕ) (specs : List Spec) (p e : ℕ) (fs : List FilePlace) → AreColumns specs → NewFiles g h table specs p fs e
    → FieldsBelow e (entries_fields g h table specs (length fs) p)
entries-below g h table specs p e [] plain are = tt
entries-below g h table specs p e (f ∷ fs) plain are =
    let x = entry-is g h table specs p f are.0.next are.0.entry in
    let more = files-behind g h table specs are.0.next e fs plain are.1 in
    let here : FieldsBelow are.0.next (entry_fields g h table specs p) =
    subst (λ (i : ℕ). FieldsBelow i (entry_fields g h table specs p)) x.behind
    (columns-below g h table specs (record { text = None; dir = None; next = p }) x.last plain x.columns_are) in
    below-append e (entry_fields g h table specs p) (fields_there (λ q. entries_fields g h table specs (length fs) q) (entry_at g h table specs p))
    (below-further are.0.next e (entry_fields g h table specs p) more here)
    (subst (λ (o : Result (FilePlace × ℕ) Refusal). FieldsBelow e (fields_there (λ q. entries_fields g h table specs (length fs) q) o)) (sym are.0.entry)
    (entries-below g h table specs are.0.next e fs plain are.1))

-- what the fields of a list are
list-fields : (g : LineSource) (h : LineHeader) (table : List ℕ) (p : ℕ) (format : List Spec × ℕ) (count : ℕ × ℕ) → format_at table p ≡ Some format
    → uleb_at table format.1 ≡ Some count → list_fields g h table p ≡ entries_fields g h table format.0 count.0 (format.1 + count.1)
list-fields g h table p format count at is = ap (fields_formed g h table) at ∙ ap (fields_counted g h table format.0 format.1) is

pub list-fields-from : (g : LineSource) (h : LineHeader) (table : List ℕ) (p : ℕ) → FieldsFrom p (list_fields g h table p)
list-fields-from g h table p = by_format (format_at table p) refl
  where
    by_count : (f : List Spec × ℕ) → format_at table p ≡ Some f → (o : Option (ℕ × ℕ)) → FieldsFrom p (fields_counted g h table f.0 f.1 o)
    by_count f at None = tt
    by_count f at (Some n) =
        let place = format-place table p f at in
        let front = place.0 in
        from-further p (f.1 + n.1) (entries_fields g h table f.0 n.0 (f.1 + n.1)) (omega (arith, front)) (entries-from g h table f.0 n.0 (f.1 + n.1) place.2)

    by_format : (o : Option (List Spec × ℕ)) → format_at table p ≡ o → FieldsFrom p (fields_formed g h table o)
    by_format None at = tt
    by_format (Some f) at = by_count f at (uleb_at table f.1)

pub list-below : (g : LineSource) (h : LineHeader) (table : List ℕ) (p e : ℕ) (fs : List FilePlace) → entries_at g h table p ≡ Ok (fs, e) → FieldsBelow e (list_fields g h table p)
list-below g h table p e fs is =
    let x = list-is g h table p fs e is in
    let place = format-place table p x.format x.format_is in
    subst (FieldsBelow e) (sym (list-fields g h table p x.format x.count x.format_is x.count_is))
    (subst (λ (n : ℕ). FieldsBelow e (entries_fields g h table x.format.0 n (x.format.1 + x.count.1))) x.number
    (entries-below g h table x.format.0 (x.format.1 + x.count.1) e fs place.2 x.are))

pub list-behind : (g : LineSource) (h : LineHeader) (table : List ℕ) (p e : ℕ) (fs : List FilePlace) → entries_at g h table p ≡ Ok (fs, e) → p ≤ e
list-behind g h table p e fs is =
    let x = list-is g h table p fs e is in
    let place = format-place table p x.format x.format_is in
    let front = place.0 in
    let more = files-behind g h table x.format.0 (x.format.1 + x.count.1) e fs place.2 x.are in
    omega (arith, front, more)

some-format : (a b : List Spec × ℕ) → Some a ≡ Some b → a ≡ b
some-format a b e = cc

some-count : (a b : ℕ × ℕ) → Some a ≡ Some b → a ≡ b
some-count a b e = cc

list-clear : (g : LineSource) (h : LineHeader) (table : List ℕ) (p e : ℕ) (fs : List FilePlace) → entries_at g h table p ≡ Ok (fs, e)
    → Owned g.cells (list_fields g h table p) p e → ListClear g h table p
list-clear g h table p e fs is own =
    let x = list-is g h table p fs e is in
    let place = format-place table p x.format x.format_is in
    let front = place.0 in
    let more = files-behind g h table x.format.0 (x.format.1 + x.count.1) e fs place.2 x.are in
    let own_at : Owned g.cells (entries_fields g h table x.format.0 x.count.0 (x.format.1 + x.count.1)) p e =
    subst (λ (l : List FieldPlace). Owned g.cells l p e) (list-fields g h table p x.format x.count x.format_is x.count_is) own in
    let clear : Clear g.cells p (x.format.1 + x.count.1) =
    clear-owned g.cells (entries_fields g h table x.format.0 x.count.0 (x.format.1 + x.count.1)) p (x.format.1 + x.count.1)
    (record { own = λ q r e_ at lt. own_at.own q r e_ at (omega (arith, lt, more)) })
    (λ q at lt. from-none (x.format.1 + x.count.1) (entries_fields g h table x.format.0 x.count.0 (x.format.1 + x.count.1)) q
    (entries-from g h table x.format.0 x.count.0 (x.format.1 + x.count.1) place.2) lt) in
    let entries : EntriesClear g h table x.format.0 x.count.0 (x.format.1 + x.count.1) =
    subst (λ (n : ℕ). EntriesClear g h table x.format.0 n (x.format.1 + x.count.1)) x.number
    (entries-clear g h table x.format.0 (x.format.1 + x.count.1) e fs place.2 x.are
    (record {
      own = λ q r e_ at lt. subst (λ (n : ℕ). has_offset_at (entries_fields g h table x.format.0 n (x.format.1 + x.count.1)) q ≡ true) (sym x.number)
          (own_at.own q r e_ (omega (arith, at, front)) lt);
    })) in
    record {
      front = λ format count at count_at.
          let same = some-format x.format format (sym x.format_is ∙ at) in
          let number = some-count x.count count (sym x.count_is ∙ ap (λ (f : List Spec × ℕ). uleb_at table f.1) same ∙ count_at) in
          subst (λ (n : ℕ × ℕ). Clear g.cells p (format.1 + n.1)) number (subst (λ (f : List Spec × ℕ). Clear g.cells p (f.1 + x.count.1)) same clear);
      entries = λ format count at count_at.
          let same = some-format x.format format (sym x.format_is ∙ at) in
          let number = some-count x.count count (sym x.count_is ∙ ap (λ (f : List Spec × ℕ). uleb_at table f.1) same ∙ count_at) in
          subst (λ (n : ℕ × ℕ). EntriesClear g h table format.0 n.0 (format.1 + n.1)) number
          (subst (λ (f : List Spec × ℕ). EntriesClear g h table f.0 x.count.0 (f.1 + x.count.1)) same entries);
    }

-- the header of a table: none begins in front of its lists, which are clear; and none reaches over its start
pub record TableClear (g : LineSource) (r : LineReading) : Type 0 where
  pub front : Clear g.cells r.header.start r.header.lists
  pub lists : ListsClear g r.header (table_bytes g r.header) r.behind
  pub apart : NoneOver g.cells r.header.start

new-clear : (g : LineSource) (r : LineReading) (dirs files : List FilePlace) (place : ℕ) → r.header.version ≡ 5 → r.header.start ≤ r.header.lists
    → entries_at g r.header (table_bytes g r.header) r.header.lists ≡ Ok (dirs, place) → entries_at g r.header (table_bytes g r.header) place ≡ Ok (files, r.behind)
    → HeaderReads r.header.start r.behind g.cells (table_fields g r) → TableClear g r
new-clear g r dirs files place five start d f h =
    let t : List ℕ = table_bytes g r.header in
    let end : list_end g r.header (table_bytes g r.header) r.header.lists ≡ place = ap (place_behind r.header.lists) d in
    let first = list-behind g r.header (table_bytes g r.header) r.header.lists place dirs d in
    let second = list-behind g r.header (table_bytes g r.header) place r.behind files f in
    let fields : table_fields g r ≡ list_fields g r.header (table_bytes g r.header) r.header.lists ++ list_fields g r.header (table_bytes g r.header) place =
    rw (eq-eqb r.header.version 5 five) (ap (λ (p : ℕ). list_fields g r.header (table_bytes g r.header) r.header.lists ++ list_fields g r.header (table_bytes g r.header) p) end) in
    let own : Owned g.cells (list_fields g r.header (table_bytes g r.header) r.header.lists ++ list_fields g r.header (table_bytes g r.header) place) r.header.start r.behind =
    record { own = λ p q e at lt. subst (λ (l : List FieldPlace). has_offset_at l p ≡ true) fields (h.own p q e at lt) } in
    let lists_own : Owned g.cells (list_fields g r.header (table_bytes g r.header) r.header.lists ++ list_fields g r.header (table_bytes g r.header) place) r.header.lists r.behind =
    record { own = λ p q e at lt. own.own p q e (omega (arith, at, start)) lt } in
    let dirs_clear = list-clear g r.header (table_bytes g r.header) r.header.lists place dirs d
    (owned-front g.cells (list_fields g r.header (table_bytes g r.header) r.header.lists) (list_fields g r.header (table_bytes g r.header) place) r.header.lists place r.behind
    lists_own (list-fields-from g r.header (table_bytes g r.header) place) second) in
    let files_clear = list-clear g r.header (table_bytes g r.header) place r.behind files f
    (owned-behind g.cells (list_fields g r.header (table_bytes g r.header) r.header.lists) (list_fields g r.header (table_bytes g r.header) place) r.header.lists place r.behind
    lists_own (list-below g r.header (table_bytes g r.header) r.header.lists place dirs d) first) in
    record {
      front = clear-owned g.cells (list_fields g r.header (table_bytes g r.header) r.header.lists ++ list_fields g r.header (table_bytes g r.header) place) r.header.start r.header.lists
          (record { own = λ p q e at lt. own.own p q e at (omega (arith, lt, first, second)) })
          (λ p at lt. from-none r.header.lists (list_fields g r.header (table_bytes g r.header) r.header.lists ++ list_fields g r.header (table_bytes g r.header) place) p
          (from-append r.header.lists (list_fields g r.header (table_bytes g r.header) r.header.lists) (list_fields g r.header (table_bytes g r.header) place)
          (list-fields-from g r.header (table_bytes g r.header) r.header.lists)
          (from-further r.header.lists place (list_fields g r.header (table_bytes g r.header) place) first (list-fields-from g r.header (table_bytes g r.header) place))) lt);
      lists = record {
        old = λ other. absurd (other five);
        dirs = λ is. dirs_clear;
        files = λ is. subst (λ (p : ℕ). ListClear g r.header (table_bytes g r.header) p) (sym end) files_clear;
      };
      apart = record { ends = h.apart };
    }

old-clear : (g : LineSource) (r : LineReading) → r.header.version ≢ 5 → r.header.start ≤ r.header.lists → r.header.lists ≤ r.behind
    → HeaderReads r.header.start r.behind g.cells (table_fields g r) → TableClear g r
old-clear g r other start le h =
    let fields : table_fields g r ≡ [] = rw (ne_eqb r.header.version 5 other) refl in
    let whole : Clear g.cells r.header.start r.behind =
    clear-owned g.cells [] r.header.start r.behind
    (record { own = λ p q e at lt. subst (λ (l : List FieldPlace). has_offset_at l p ≡ true) fields (h.own p q e at lt) }) (λ p at lt. refl) in
    record {
      front = clear-part g.cells r.header.start r.behind r.header.start r.header.lists whole (omega arith) le;
      lists = record {
        old = λ is. clear-part g.cells r.header.start r.behind r.header.lists r.behind whole start (omega arith);
        dirs = λ five. absurd (other five);
        files = λ five. absurd (other five);
      };
      apart = record { ends = h.apart };
    }

-- where the lists start
pub header-lists : (g : LineSource) (p : ℕ) (r : LineReading) → ReadsTable g p r
    → first_place r.header.version (r.header.start + length_size r.header.width) r.header.width ≤ r.header.lists
header-lists g p r reads =
    let x = header-places g p r.header (header-is g.order g.bytes p r.header reads.header) in
    let operands = x.1.operands in
    let lists = x.1.lists in
    let flags = flags-place r.header.version (first_place r.header.version (r.header.start + length_size r.header.width) r.header.width) in
    omega (arith, operands, lists, flags)

pub header-start : (g : LineSource) (p : ℕ) (r : LineReading) → ReadsTable g p r → r.header.start ≤ r.header.lists
header-start g p r reads =
    let first = header-lists g p r reads in
    let place = length-place r.header.version (r.header.start + length_size r.header.width) in
    omega (arith, first, place)

pub dirs-behind : (section : ℕ) (table : List ℕ) (p e : ℕ) (ts : List TextPlace) → OldDirs section table p ts e → p ≤ e
dirs-behind section table p e [] d =
    let last = d.3 in
    omega (arith, last)
dirs-behind section table p e (t ∷ ts) d =
    let more = dirs-behind section table (p + t.len + 1) e ts d.2 in
    omega (arith, more)

pub old-behind : (g : LineSource) (table : List ℕ) (p e : ℕ) (fs : List FilePlace) → OldFiles g.number table p fs e → p ≤ e
old-behind g table p e [] d =
    let last = d.3 in
    omega (arith, last)
old-behind g table p e (f ∷ fs) d =
    let here = (file-place g table p f d.0).1 in
    let more = old-behind g table d.0.next e fs d.1 in
    omega (arith, here, more)

pub table-clear : (g : LineSource) (p : ℕ) (r : LineReading) → ReadsTable g p r → HeaderReads r.header.start r.behind g.cells (table_fields g r) → TableClear g r
table-clear g p r reads h = by_lists r.dirs r.files r.behind refl reads.lists
  where
    by_lists : (ds : List TextPlace) (fs : List FilePlace) (e : ℕ) → e ≡ r.behind → HasLists g r.header (table_bytes g r.header) ds fs e → TableClear g r
    by_lists ds fs e same (old_lists dirs files place behind other d f) =
        let a = dirs-behind g.number (table_bytes g r.header) r.header.lists place dirs (dirs-of g.number (table_bytes g r.header) r.header.lists place dirs d) in
        let b = old-behind g (table_bytes g r.header) place behind files (files-of g.number (table_bytes g r.header) place behind files f) in
        old-clear g r other (header-start g p r reads) (omega (arith, a, b, same)) h
    by_lists ds fs e same (new_lists dirs files place behind five d f) =
        new-clear g r dirs files place five (header-start g p r reads) d (f ∙ ap (λ (i : ℕ). Ok (files, i)) same) h

-- each header of tables one after another is clear
abbrev pub EachClear : LineSource → List LineReading → Type 0
EachClear g [] = ⊤
EachClear g (r ∷ rs) = TableClear g r × EachClear g rs

-- what is asked of each header holds of all tables
tables-append : (g : LineSource) (p q e : ℕ) (xs ys : List LineReading) → TablesTo g p xs q → TablesTo g q ys e → TablesTo g p (xs ++ ys) e
tables-append g p q e [] ys h k = subst (λ (i : ℕ). TablesTo g i ys e) (sym h) k
tables-append g p q e (x ∷ xs) ys h k = (h.0, tables-append g x.header.end q e xs ys h.1 k)

each-behind : (g : LineSource) (p e : ℕ) (before rs : List LineReading)
    → ((xs : List LineReading) (start : ℕ) (t : LineReading) → TablesTo g 0 xs start → ReadsTable g start t → HeaderReads t.header.start t.behind g.cells (table_fields g t))
    → TablesTo g 0 before p → TablesTo g p rs e → EachClear g rs
each-behind g p e before [] h front tables = tt
each-behind g p e before (r ∷ rs) h front tables = (
  table-clear g p r tables.0 (h before p r front tables.0),
  each-behind g r.header.end e (before ++ r ∷ []) rs h (tables-append g 0 p r.header.end before (r ∷ []) front (tables.0, refl)) tables.1,
)

pub each-clear : (g : LineSource) (e : ℕ) (rs : List LineReading)
    → ((xs : List LineReading) (start : ℕ) (t : LineReading) → TablesTo g 0 xs start → ReadsTable g start t → HeaderReads t.header.start t.behind g.cells (table_fields g t))
    → TablesTo g 0 rs e → EachClear g rs
each-clear g e rs h tables = each-behind g 0 e [] rs h refl tables
