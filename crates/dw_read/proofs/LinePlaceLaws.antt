-- The texts of line tables that were read: each stands in the section, or a field of the section holds its offset into a table of texts,
-- in which it ends.
use Rattle.std.proofs.Common.{Bool, true, ◌≡◌, ℕ, ◌+◌, ◌≤◌, List, [], ◌∷◌, ◌++◌, length, if◌then◌else◌, Option, Some, None, refl, sym, ap, subst, arith}
use Rattle.std.specs.Prelude.{⊤, Ok, Result}
use Rattle.std.proofs.lemmas.Bool.{eq-eqb, ne_eqb}
use Rattle.std.proofs.lemmas.List.{length-take}
use Rattle.dw_base.specs.Forms.{width_size}
use Rattle.dw_base.specs.LineEntries.{columns, entries_at, list_end, place_behind, with_column}
use Rattle.dw_base.specs.LineReadings.{LineReading, ReadsTable, table_read}
use Rattle.dw_base.specs.LineSources.{LineSource}
use Rattle.dw_base.specs.LineTables.{HasLists, old_lists, new_lists, table_bytes, texts_of}
use Rattle.dw_base.specs.LineTexts.{inline_text, named_text, text_of}
use Rattle.dw_base.specs.TableTexts.{as_path, as_paths, column_text, entries_texts, entry_texts, list_texts, texts_by, texts_then}
use Rattle.dw_base.specs.Texts.{ends_in}
use Rattle.dw_base.specs.declared.fault.Refusal.{Refusal}
use Rattle.dw_base.specs.declared.line_tables.Column.{Column}
use Rattle.dw_base.specs.declared.line_tables.Entry.{Entry}
use Rattle.dw_base.specs.declared.line_tables.FilePlace.{FilePlace}
use Rattle.dw_base.specs.declared.line_tables.LineHeader.{LineHeader}
use Rattle.dw_base.specs.declared.line_tables.LineText.{LineText}
use Rattle.dw_base.specs.declared.line_tables.TextPlace.{TextPlace}
use Rattle.dw_base.specs.declared.shared.Width.{Width}
use Rattle.dw_base.specs.declared.texts.TextSection.{TextSection}
use Rattle.dw_base.specs.declared.values.Spec.{Spec}
use Rattle.dw_meaning.proofs.LineColumnLaws.{texts_in, ColumnIs, inline_is, offset_is, value_is, column-is}
use Rattle.dw_meaning.proofs.LineEntryLaws.{column-step, texts-step}
use Rattle.dw_meaning.proofs.LineListLaws.{entry-is, list-is, list-texts-are}
use Rattle.dw_meaning.proofs.LineReadLaws.{inline-inside}
use Rattle.dw_meaning.proofs.LineWalkLaws.{OldDirs, OldFiles, NewFiles, dirs-of, files-of}

-- a text that stands in the section of line tables, or that an offset names
pub data TextReads (g : LineSource) (w : Width) : TextPlace → Type 0 where
  stands_there : (x : TextPlace) → x.section ≡ g.number → TextReads g w x
  named_there : (z : TextSection) (n field : ℕ) → field + width_size w ≤ length g.bytes
      → named_text g (texts_in g z) field (width_size w) ≡ Ok (text_of (texts_in g z) n field) → ends_in (texts_in g z).bytes n ≡ true
      → TextReads g w (text_of (texts_in g z) n field)

abbrev pub EachReads : LineSource → Width → List LineText → Type 0
EachReads g w [] = ⊤
EachReads g w (x ∷ xs) = TextReads g w x.place × EachReads g w xs

each-append : (g : LineSource) (w : Width) (xs ys : List LineText) → EachReads g w xs → EachReads g w ys → EachReads g w (xs ++ ys)
each-append g w [] ys h k = k
each-append g w (x ∷ xs) ys h k = (h.0, each-append g w xs ys h.1 k)

inline-path : (g : LineSource) (w : Width) (table : List ℕ) (p : ℕ) (t : TextPlace) → inline_text g.number table p ≡ Some t → TextReads g w t
inline-path g w table p t e = stands_there t (ap (λ (x : TextPlace). x.section) (inline-inside g.number table p t e).1)

dirs-paths : (g : LineSource) (w : Width) (table : List ℕ) (p : ℕ) (ts : List TextPlace) (e : ℕ) → OldDirs g.number table p ts e → EachReads g w (as_paths ts)
dirs-paths g w table p [] e d = tt
dirs-paths g w table p (t ∷ ts) e d = (inline-path g w table p t d.0, dirs-paths g w table (p + t.len + 1) ts e d.2)

old-paths : (g : LineSource) (w : Width) (table : List ℕ) (p : ℕ) (fs : List FilePlace) (e : ℕ) → OldFiles g.number table p fs e → EachReads g w (as_paths (texts_of fs))
old-paths g w table p [] e d = tt
old-paths g w table p (f ∷ fs) e d = (inline-path g w table p f.text d.0.text, old-paths g w table d.0.next fs e d.1)

-- of entries of a format
abbrev AnyReads : LineSource → Width → Option TextPlace → Type 0
AnyReads g w None = ⊤
AnyReads g w (Some t) = TextReads g w t

column-path : (g : LineSource) (h : LineHeader) (table : List ℕ) (spec : Spec) (p : ℕ) (c : Column) → length table ≤ length g.bytes → ColumnIs g h table spec p c → AnyReads g h.width c.text
column-path g h table spec p c cut (inline_is form e) = stands_there _ refl
column-path g h table spec p c cut (offset_is z n form room reads e) = named_there z n p (omega (arith, cut, room)) reads e
column-path g h table spec p c cut (value_is a b d v e) = tt

column-texts : (g : LineSource) (w : Width) (spec : Spec) (e : Entry) (o : Option TextPlace) → AnyReads g w o → EachReads g w (column_text spec e o)
column-texts g w spec e None h = tt
column-texts g w spec e (Some t) h = (h, tt)

columns-texts : (g : LineSource) (h : LineHeader) (table : List ℕ) (specs : List Spec) (e last : Entry) → length table ≤ length g.bytes → columns g h table specs e ≡ Ok last
    → EachReads g h.width (entry_texts g h table specs e)
columns-texts g h table [] e last cut is = tt
columns-texts g h table (spec ∷ specs) e last cut is =
    let s = column-step g h table spec specs e last is in
    subst (EachReads g h.width) (sym (texts-step g h table spec specs e s.column s.is))
    (each-append g h.width (column_text spec e s.column.text) (entry_texts g h table specs (with_column spec e s.column))
    (column-texts g h.width spec e s.column.text (column-path g h table spec e.next s.column cut (column-is g h table spec e.next s.column s.is)))
    (columns-texts g h table specs (with_column spec e s.column) last cut s.rest))

entries-texts : (g : LineSource) (h : LineHeader) (table : List ℕ) (specs : List Spec) (p : ℕ) (fs : List FilePlace) (e : ℕ) → length table ≤ length g.bytes
    → NewFiles g h table specs p fs e → EachReads g h.width (entries_texts g h table specs (length fs) p)
entries-texts g h table specs p [] e cut d = tt
entries-texts g h table specs p (f ∷ fs) e cut d =
    let x = entry-is g h table specs p f d.0.next d.0.entry in
    subst (λ (r : Result (FilePlace × ℕ) Refusal). EachReads g h.width (entry_texts g h table specs (record { text = None; dir = None; next = p })
    ++ texts_then (λ k. entries_texts g h table specs (length fs) k.1) r)) (sym d.0.entry)
    (each-append g h.width (entry_texts g h table specs (record { text = None; dir = None; next = p })) (entries_texts g h table specs (length fs) d.0.next)
    (columns-texts g h table specs (record { text = None; dir = None; next = p }) x.last cut x.columns_are) (entries-texts g h table specs d.0.next fs e cut d.1))

-- of a list that was read
list-texts : (g : LineSource) (h : LineHeader) (table : List ℕ) (p : ℕ) (files : List FilePlace) (e : ℕ) → length table ≤ length g.bytes → entries_at g h table p ≡ Ok (files, e)
    → EachReads g h.width (list_texts g h table p)
list-texts g h table p files e cut is =
    let r = list-is g h table p files e is in
    subst (EachReads g h.width) (sym (list-texts-are g h table p files e r)) (entries-texts g h table r.format.0 (r.format.1 + r.count.1) files e cut r.are)

paths-append : (xs ys : List TextPlace) → as_paths (xs ++ ys) ≡ as_paths xs ++ as_paths ys
paths-append [] ys = refl
paths-append (x ∷ xs) ys = ap (λ (ts : List LineText). as_path x ∷ ts) (paths-append xs ys)

lists-texts : (g : LineSource) (h : LineHeader) (table : List ℕ) (dirs : List TextPlace) (files : List FilePlace) (behind : ℕ) → length table ≤ length g.bytes
    → HasLists g h table dirs files behind → EachReads g h.width (texts_by g h table (dirs ++ texts_of files))
lists-texts g h table dirs files behind cut (old_lists ds fs place e other d f) =
    subst (λ (b : Bool). EachReads g h.width (if b then list_texts g h table h.lists ++ list_texts g h table (list_end g h table h.lists) else as_paths (dirs ++ texts_of files)))
    (sym (ne_eqb h.version 5 other))
    (subst (EachReads g h.width) (sym (paths-append dirs (texts_of files)))
    (each-append g h.width (as_paths dirs) (as_paths (texts_of files)) (dirs-paths g h.width table h.lists dirs place (dirs-of g.number table h.lists place dirs d))
    (old-paths g h.width table place files behind (files-of g.number table place behind files f))))
lists-texts g h table dirs files behind cut (new_lists ds fs place e five d f) =
    subst (λ (b : Bool). EachReads g h.width (if b then list_texts g h table h.lists ++ list_texts g h table (list_end g h table h.lists) else as_paths (texts_of ds ++ texts_of files)))
    (sym (eq-eqb h.version 5 five))
    (each-append g h.width (list_texts g h table h.lists) (list_texts g h table (list_end g h table h.lists)) (list-texts g h table h.lists ds place cut d)
    (subst (λ (n : ℕ). EachReads g h.width (list_texts g h table n)) (sym (ap (place_behind h.lists) d)) (list-texts g h table place files behind cut f)))

-- those of a table that was read
pub table-texts : (g : LineSource) (p : ℕ) (r : LineReading) → ReadsTable g p r → EachReads g r.header.width (table_read g r).texts
table-texts g p r reads =
    let cut : length (table_bytes g r.header) ≤ length g.bytes = omega (arith, length-take r.header.end g.bytes) in
    lists-texts g r.header (table_bytes g r.header) r.dirs r.files r.behind cut reads.lists
