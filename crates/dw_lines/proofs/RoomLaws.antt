-- The offsets of the texts of a table that was read lie in its section.
use Rattle.std.proofs.Common.{Bool, true, false, ◌≡◌, ◌≢◌, ℕ, zero, suc, ◌+◌, ◌≤◌, ◌==◌, nat_le, if◌then◌else◌, List, [], ◌∷◌, ◌++◌, length, Option, Some, None, refl, sym, ap, subst, arith}
use Rattle.std.specs.Prelude.{⊤, Result, Ok, Err, option_and_then, option_map}
use Rattle.std.proofs.lemmas.Bool.{eq-eqb, ne_eqb}
use Rattle.std.proofs.lemmas.Bool.Decides.{nat_tests}
use Rattle.std.proofs.lemmas.List.{length-take, map-append}
use Rattle.dw_base.specs.Cells.{Located, offset_into}
use Rattle.dw_base.specs.Forms.{width_size}
use Rattle.dw_base.specs.Lebs.{uleb_at}
use Rattle.dw_base.specs.LineEntries.{bad_table, column_at, column_params, entry_at, inline_column, list_end, offset_column, result_with, text_column, value_column, with_column}
use Rattle.dw_base.specs.LineFormats.{format_at}
use Rattle.dw_base.specs.LineSources.{LineSource, line_field}
use Rattle.dw_base.specs.LineTables.{HasLists, IsLineTable, LineTable, new_lists, old_lists, table_bytes, texts_of}
use Rattle.dw_base.specs.LineTexts.{file_numbers, inline_text, named_text, text_by, text_if, text_of}
use Rattle.dw_base.specs.OldLineLists.{dir_step, file_step, next_dir, next_file}
use Rattle.dw_base.specs.Refusals.{at as refused_at}
use Rattle.dw_base.specs.TableTexts.{as_paths, column_text, column_texts, entries_texts, entry_texts, list_texts, texts_by, texts_counted, texts_formed, texts_then}
use Rattle.dw_base.specs.Texts.{ends_in, text_in}
use Rattle.dw_base.specs.Values.{value_at}
use Rattle.dw_base.specs.Walks.{ComesTo, Step, Walks, ends, goes, no_step, one_more, or_refused}
use Rattle.dw_base.specs.declared.dwarf_numbers.TheConstants.{DW_FORM_line_strp, DW_FORM_string, DW_FORM_strp}
use Rattle.dw_base.specs.declared.fault.Kind.TheVariants.{StringOffset}
use Rattle.dw_base.specs.declared.fault.Refusal.{Refusal}
use Rattle.dw_base.specs.declared.line_tables.Column.{Column}
use Rattle.dw_base.specs.declared.line_tables.Entry.{Entry}
use Rattle.dw_base.specs.declared.line_tables.FilePlace.{FilePlace}
use Rattle.dw_base.specs.declared.line_tables.LineHeader.{LineHeader}
use Rattle.dw_base.specs.declared.line_tables.LineText.{LineText}
use Rattle.dw_base.specs.declared.line_tables.TextPlace.{TextPlace}
use Rattle.dw_base.specs.declared.shared.Width.{Width}
use Rattle.dw_base.specs.declared.values.Spec.{Spec}
use Rattle.dw_base.specs.declared.values.Value.{Value}
use Rattle.dw_base.specs.declared.view_fields.Field.{Field}
use Rattle.dw_base.specs.declared.view_fields.Field.TheVariants.{Num, Into, Sym}
use Rattle.dw_lines.specs.OffsetRooms.{AllHaveRoom, HasRoom}

abbrev EachRoom : ℕ → Width → ℕ → List TextPlace → Type 0
EachRoom section width size [] = ⊤
EachRoom section width size (x ∷ xs) = HasRoom section width size x × EachRoom section width size xs

abbrev AnyRoom : ℕ → Width → ℕ → Option TextPlace → Type 0
AnyRoom section width size None = ⊤
AnyRoom section width size (Some x) = HasRoom section width size x

each-append : (section : ℕ) (width : Width) (size : ℕ) (xs ys : List TextPlace) → EachRoom section width size xs → EachRoom section width size ys → EachRoom section width size (xs ++ ys)
each-append section width size [] ys h k = k
each-append section width size (x ∷ xs) ys h k = (h.0, each-append section width size xs ys h.1 k)

-- so it is with texts
abbrev EachTextRoom : ℕ → Width → ℕ → List LineText → Type 0
EachTextRoom section width size [] = ⊤
EachTextRoom section width size (x ∷ xs) = HasRoom section width size x.place × EachTextRoom section width size xs

texts-append : (section : ℕ) (width : Width) (size : ℕ) (xs ys : List LineText) → EachTextRoom section width size xs → EachTextRoom section width size ys
    → EachTextRoom section width size (xs ++ ys)
texts-append section width size [] ys h k = k
texts-append section width size (x ∷ xs) ys h k = (h.0, texts-append section width size xs ys h.1 k)

paths-room : (section : ℕ) (width : Width) (size : ℕ) (xs : List TextPlace) → EachRoom section width size xs → EachTextRoom section width size (as_paths xs)
paths-room section width size [] h = tt
paths-room section width size (x ∷ xs) h = (h.0, paths-room section width size xs h.1)

each-all : (section : ℕ) (width : Width) (size large : ℕ) (xs : List LineText) → size ≤ large → EachTextRoom section width size xs → AllHaveRoom section width large xs
each-all section width size large [] le h i d lt = absurd (omega (arith, lt))
each-all section width size large (x ∷ xs) le h zero d lt =
    record { inside = λ (other : x.place.section ≢ section). (let room = h.0.inside other in omega (arith, room, le)) }
each-all section width size large (x ∷ xs) le h (suc i) d lt = each-all section width size large xs le h.1 i d (omega (arith, lt))

-- a text that stands in the section
room-own : (section : ℕ) (width : Width) (size : ℕ) (x : TextPlace) → x.section ≡ section → HasRoom section width size x
room-own section width size x is = record { inside = λ (other : x.section ≢ section). absurd (other is) }

inline-own : (section : ℕ) (table : List ℕ) (place : ℕ) (t : TextPlace) → inline_text section table place ≡ Some t → t.section ≡ section
unfolding inline_text
inline-own section table place t e = by_end (ends_in table place) e
  where
    by_end : (b : Bool) → (if b then Some (record { section = section; at = place; len = length (text_in table place); field = place }) else None) ≡ Some t → t.section ≡ section
    by_end true f = sym (ap (λ (x : TextPlace). x.section) (the-same f))
      where
        the-same : {x y : TextPlace} → Some x ≡ Some y → x ≡ y
        the-same g = cc
    by_end false f = absurd cc

-- a text that an offset names is at its field
ok-same : {Y E : Type 0} {a b : Y} → ◌≡◌ {A = Result Y E} (Ok a) (Ok b) → a ≡ b
ok-same e = cc

if-field : (z : Located) (section place offset : ℕ) (t : TextPlace) → text_if z section place offset ≡ Ok t → t.field ≡ place
if-field z section place offset t e = by_end (ends_in z.bytes offset) e
  where
    by_end : (b : Bool) → (if b then Ok (text_of z offset place) else Err (refused_at StringOffset section place)) ≡ Ok t → t.field ≡ place
    by_end true f = sym (ap (λ (x : TextPlace). x.field) (ok-same f))
    by_end false f = absurd cc

by-field : (z : Located) (section place : ℕ) (f : Field) (t : TextPlace) → text_by z section place f ≡ Ok t → t.field ≡ place
by-field z section place (Num n) t e = if-field z section place n t e
by-field z section place (Into s n) t e = if-field z section place (offset_into z (Into s n)) t e
by-field z section place (Sym s k a) t e = absurd cc

named-field : (g : LineSource) (z : Located) (place size : ℕ) (t : TextPlace) → named_text g z place size ≡ Ok t → t.field ≡ place
unfolding named_text
named-field g z place size t e = by_read (line_field g place size) e
  where
    by_read : (x : Result Field Refusal) → or_refused (text_by z g.number place) x ≡ Ok t → t.field ≡ place
    by_read (Ok f) is = by-field z g.number place f t is
    by_read (Err r) is = absurd cc

-- the text of a column
inline-room : (g : LineSource) (h : LineHeader) (table : List ℕ) (place : ℕ) (c : Column) (x : Option TextPlace) → inline_text g.number table place ≡ x
    → inline_column g.number h place x ≡ Ok c → AnyRoom g.number h.width (length table) c.text
inline-room g h table place c None is e = absurd cc
inline-room g h table place c (Some t) is e =
    subst (λ (y : Column). AnyRoom g.number h.width (length table) y.text) (ok-same e) (room-own g.number h.width (length table) t (inline-own g.number table place t is))

true-le : (m n : ℕ) → nat_le m n ≡ true → m ≤ n
true-le m n e = grind (arith, nat_tests)

offset-room : (g : LineSource) (h : LineHeader) (table : List ℕ) (z : Located) (place : ℕ) (c : Column) → offset_column g h table z place ≡ Ok c
    → AnyRoom g.number h.width (length table) c.text
unfolding offset_column
offset-room g h table z place c e = by_end (nat_le (place + width_size h.width) (length table)) refl e
  where
    by_text : (x : Result TextPlace Refusal) → named_text g z place (width_size h.width) ≡ x → place + width_size h.width ≤ length table
        → text_column (place + width_size h.width) x ≡ Ok c → AnyRoom g.number h.width (length table) c.text
    by_text (Err r) is le f = absurd cc
    by_text (Ok t) is le f =
        let field : t.field ≡ place = named-field g z place (width_size h.width) t is in
        subst (λ (y : Column). AnyRoom g.number h.width (length table) y.text) (ok-same f)
        (record { inside = λ (other : t.section ≢ g.number). omega (arith, field, le) })

    by_end : (b : Bool) → nat_le (place + width_size h.width) (length table) ≡ b
        → (if b then text_column (place + width_size h.width) (named_text g z place (width_size h.width)) else Err (bad_table g.number h)) ≡ Ok c
        → AnyRoom g.number h.width (length table) c.text
    by_end true test f = by_text (named_text g z place (width_size h.width)) refl (true-le (place + width_size h.width) (length table) test) f
    by_end false test f = absurd cc

value-room : (g : LineSource) (h : LineHeader) (table : List ℕ) (place : ℕ) (c : Column) (x : Option Value) → value_column g.number h place x ≡ Ok c
    → AnyRoom g.number h.width (length table) c.text
value-room g h table place c None e = absurd cc
value-room g h table place c (Some value) e = subst (λ (y : Column). AnyRoom g.number h.width (length table) y.text) (ok-same e) tt

column-room : (g : LineSource) (h : LineHeader) (table : List ℕ) (spec : Spec) (place : ℕ) (c : Column) → column_at g h table spec place ≡ Ok c
    → AnyRoom g.number h.width (length table) c.text
unfolding column_at
column-room g h table spec place c e = by_form (spec.form == DW_FORM_string) (spec.form == DW_FORM_strp) (spec.form == DW_FORM_line_strp) e
  where
    by_form : (i s l : Bool) → (if i then inline_column g.number h place (inline_text g.number table place)
        else (if s then offset_column g h table g.str place
        else (if l then offset_column g h table g.line_str place
        else value_column g.number h place (value_at (column_params g.order h) spec table place)))) ≡ Ok c → AnyRoom g.number h.width (length table) c.text
    by_form true s l f = inline-room g h table place c (inline_text g.number table place) refl f
    by_form false true l f = offset-room g h table g.str place c f
    by_form false false true f = offset-room g h table g.line_str place c f
    by_form false false false f = value-room g h table place c (value_at (column_params g.order h) spec table place) f

-- the texts of the columns of an entry
column-texts-room : (g : LineSource) (h : LineHeader) (table : List ℕ) (spec : Spec) (e : Entry) (o : Option TextPlace) → AnyRoom g.number h.width (length table) o
    → EachTextRoom g.number h.width (length table) (column_text spec e o)
column-texts-room g h table spec e None room = tt
column-texts-room g h table spec e (Some t) room = (room, tt)

entry-texts-room : (g : LineSource) (h : LineHeader) (table : List ℕ) (specs : List Spec) (e : Entry) → EachTextRoom g.number h.width (length table) (entry_texts g h table specs e)
entry-texts-room g h table [] e = tt
entry-texts-room g h table (spec ∷ specs) e =
    by_column (column_at g h table spec e.next) refl (λ (n : Entry). entry-texts-room g h table specs n)
  where
    by_column : (x : Result Column Refusal) → column_at g h table spec e.next ≡ x
        → ((n : Entry) → EachTextRoom g.number h.width (length table) (entry_texts g h table specs n))
        → EachTextRoom g.number h.width (length table) (column_texts spec e x ++ texts_then (λ n. entry_texts g h table specs n) (result_with (with_column spec e) x))
    by_column (Err r) at rest = tt
    by_column (Ok c) at rest =
        texts-append g.number h.width (length table) (column_text spec e c.text) (entry_texts g h table specs (with_column spec e c))
        (column-texts-room g h table spec e c.text (column-room g h table spec e.next c at)) (rest (with_column spec e c))

-- of entries one after another, and of a list
entries-texts-room : (g : LineSource) (h : LineHeader) (table : List ℕ) (specs : List Spec) (n place : ℕ)
    → EachTextRoom g.number h.width (length table) (entries_texts g h table specs n place)
entries-texts-room g h table specs zero place = tt
entries-texts-room g h table specs (suc n) place =
    texts-append g.number h.width (length table) (entry_texts g h table specs (record { text = None; dir = None; next = place }))
    (texts_then (λ f. entries_texts g h table specs n f.1) (entry_at g h table specs place))
    (entry-texts-room g h table specs (record { text = None; dir = None; next = place }))
    (by_entry (entry_at g h table specs place) (λ (p : ℕ). entries-texts-room g h table specs n p))
  where
    by_entry : (x : Result (FilePlace × ℕ) Refusal) → ((p : ℕ) → EachTextRoom g.number h.width (length table) (entries_texts g h table specs n p))
        → EachTextRoom g.number h.width (length table) (texts_then (λ f. entries_texts g h table specs n f.1) x)
    by_entry (Err r) rest = tt
    by_entry (Ok f) rest = rest f.1

list-texts-room : (g : LineSource) (h : LineHeader) (table : List ℕ) (place : ℕ) → EachTextRoom g.number h.width (length table) (list_texts g h table place)
list-texts-room g h table place = by_format (format_at table place)
  where
    by_count : (specs : List Spec) (behind : ℕ) (x : Option (ℕ × ℕ)) → EachTextRoom g.number h.width (length table) (texts_counted g h table specs behind x)
    by_count specs behind None = tt
    by_count specs behind (Some n) = entries-texts-room g h table specs n.0 (behind + n.1)

    by_format : (x : Option (List Spec × ℕ)) → EachTextRoom g.number h.width (length table) (texts_formed g h table x)
    by_format None = tt
    by_format (Some f) = by_count f.0 f.1 (uleb_at table f.1)

-- the lists before version 5, whose texts stand in the section
one-more-room : (section : ℕ) (width : Width) (size : ℕ) (files : List FilePlace) (f : FilePlace) → EachRoom section width size (texts_of files) → HasRoom section width size f.text
    → EachRoom section width size (texts_of (files ++ f ∷ []))
one-more-room section width size files f h room =
    subst (EachRoom section width size) (sym (map-append (λ (x : FilePlace). x.text) files (f ∷ []))) (each-append section width size (texts_of files) (f.text ∷ []) h (room, tt))

walk-keeps : {S X : Type 0} (step : S → Option (Step S X)) (P : S → Type 0) → ((s t : S) → step s ≡ Some (goes t) → P s → P t) → (s t : S) → Walks step s t → P s → P t
walk-keeps step P keeps s t no_step p = p
walk-keeps step P keeps s t (one_more a b w e) p = keeps a b e (walk-keeps step P keeps s a w p)

goes-same : {S X : Type 0} {s t : S} → ◌≡◌ {A = Option (Step S X)} (Some (goes s)) (Some (goes t)) → s ≡ t
goes-same e = cc

ends-same : {S X : Type 0} {x y : X} → ◌≡◌ {A = Option (Step S X)} (Some (ends x)) (Some (ends y)) → x ≡ y
ends-same e = cc

ends-goes : {S X : Type 0} {x : X} {t : S} → ◌≡◌ {A = Option (Step S X)} (Some (ends x)) (Some (goes t)) → ⊥
ends-goes e = cc

goes-ends : {S X : Type 0} {x : X} {t : S} → ◌≡◌ {A = Option (Step S X)} (Some (goes t)) (Some (ends x)) → ⊥
goes-ends e = cc

abbrev DirStep : Type 0
DirStep = Step (List TextPlace × ℕ) (List TextPlace × ℕ)

abbrev dir_by : List TextPlace × ℕ → TextPlace → Bool → DirStep
dir_by s text b = if b then ends (s.0, s.1 + 1) else goes (s.0 ++ text ∷ [], s.1 + text.len + 1)

dirs-room : (section : ℕ) (table : List ℕ) (width : Width) (size : ℕ) (place : ℕ) (x : List TextPlace × ℕ) → ComesTo (next_dir section table) ([], place) x
    → EachRoom section width size x.0
unfolding next_dir
dirs-room section table width size place x w =
    by_last (inline_text section table w.last.1) w.over
    (walk-keeps (next_dir section table) (λ s. EachRoom section width size s.0) (λ s t e room. keeps s t (inline_text section table s.1) refl e room) ([], place) w.last w.walks tt)
  where
    by_len : (s t : List TextPlace × ℕ) (text : TextPlace) (b : Bool) → text.section ≡ section → Some (dir_by s text b) ≡ Some (goes t)
        → EachRoom section width size s.0 → EachRoom section width size t.0
    by_len s t text true own e room = absurd (ends-goes e)
    by_len s t text false own e room =
        subst (λ (u : List TextPlace × ℕ). EachRoom section width size u.0) (goes-same e)
        (each-append section width size s.0 (text ∷ []) room (room-own section width size text own, tt))

    keeps : (s t : List TextPlace × ℕ) (o : Option TextPlace) → inline_text section table s.1 ≡ o → option_map (dir_step s) o ≡ Some (goes t)
        → EachRoom section width size s.0 → EachRoom section width size t.0
    keeps s t None is e room = absurd cc
    keeps s t (Some text) is e room = by_len s t text (text.len == 0) (inline-own section table s.1 text is) e room

    end_len : (s : List TextPlace × ℕ) (text : TextPlace) (b : Bool) → Some (dir_by s text b) ≡ Some (ends x) → EachRoom section width size s.0 → EachRoom section width size x.0
    end_len s text true e room = subst (λ (u : List TextPlace × ℕ). EachRoom section width size u.0) (ends-same e) room
    end_len s text false e room = absurd (goes-ends e)

    by_last : (o : Option TextPlace) → option_map (dir_step w.last) o ≡ Some (ends x) → EachRoom section width size w.last.0 → EachRoom section width size x.0
    by_last None e room = absurd cc
    by_last (Some text) e room = end_len w.last text (text.len == 0) e room

abbrev FileStep : Type 0
FileStep = Step (List FilePlace × ℕ) (List FilePlace × ℕ)

abbrev file_by : List FilePlace × ℕ → TextPlace → Option (ℕ × ℕ) → Option FileStep
file_by s text o = option_map (λ n. goes (s.0 ++ record { text = text; dir = n.0 } ∷ [], n.1)) o

abbrev file_if : List ℕ → List FilePlace × ℕ → TextPlace → Bool → Option FileStep
file_if table s text b = if b then Some (ends (s.0, s.1 + 1)) else file_by s text (file_numbers table (s.1 + text.len + 1))

files-room : (section : ℕ) (table : List ℕ) (width : Width) (size : ℕ) (place : ℕ) (x : List FilePlace × ℕ) → ComesTo (next_file section table) ([], place) x
    → EachRoom section width size (texts_of x.0)
unfolding next_file
files-room section table width size place x w =
    by_last (inline_text section table w.last.1) w.over
    (walk-keeps (next_file section table) (λ s. EachRoom section width size (texts_of s.0)) (λ s t e room. keeps s t (inline_text section table s.1) refl e room) ([], place) w.last w.walks tt)
  where
    by_numbers : (s t : List FilePlace × ℕ) (text : TextPlace) (o : Option (ℕ × ℕ)) → text.section ≡ section → file_by s text o ≡ Some (goes t)
        → EachRoom section width size (texts_of s.0) → EachRoom section width size (texts_of t.0)
    by_numbers s t text None own e room = absurd cc
    by_numbers s t text (Some n) own e room =
        subst (λ (u : List FilePlace × ℕ). EachRoom section width size (texts_of u.0)) (goes-same e)
        (one-more-room section width size s.0 (record { text = text; dir = n.0 }) room (room-own section width size text own))

    by_len : (s t : List FilePlace × ℕ) (text : TextPlace) (b : Bool) → text.section ≡ section → file_if table s text b ≡ Some (goes t)
        → EachRoom section width size (texts_of s.0) → EachRoom section width size (texts_of t.0)
    by_len s t text true own e room = absurd (ends-goes e)
    by_len s t text false own e room = by_numbers s t text (file_numbers table (s.1 + text.len + 1)) own e room

    keeps : (s t : List FilePlace × ℕ) (o : Option TextPlace) → inline_text section table s.1 ≡ o → option_and_then (file_step table s) o ≡ Some (goes t)
        → EachRoom section width size (texts_of s.0) → EachRoom section width size (texts_of t.0)
    keeps s t None is e room = absurd cc
    keeps s t (Some text) is e room = by_len s t text (text.len == 0) (inline-own section table s.1 text is) e room

    end_numbers : (s : List FilePlace × ℕ) (text : TextPlace) (o : Option (ℕ × ℕ)) → file_by s text o ≡ Some (ends x) → EachRoom section width size (texts_of x.0)
    end_numbers s text None e = absurd cc
    end_numbers s text (Some n) e = absurd (goes-ends e)

    end_len : (s : List FilePlace × ℕ) (text : TextPlace) (b : Bool) → file_if table s text b ≡ Some (ends x) → EachRoom section width size (texts_of s.0)
        → EachRoom section width size (texts_of x.0)
    end_len s text true e room = subst (λ (u : List FilePlace × ℕ). EachRoom section width size (texts_of u.0)) (ends-same e) room
    end_len s text false e room = end_numbers s text (file_numbers table (s.1 + text.len + 1)) e

    by_last : (o : Option TextPlace) → option_and_then (file_step table w.last) o ≡ Some (ends x) → EachRoom section width size (texts_of w.last.0)
        → EachRoom section width size (texts_of x.0)
    by_last None e room = absurd cc
    by_last (Some text) e room = end_len w.last text (text.len == 0) e room

-- all texts of a table
lists-room : (g : LineSource) (h : LineHeader) (table : List ℕ) (dirs : List TextPlace) (files : List FilePlace) (behind : ℕ) → HasLists g h table dirs files behind
    → EachTextRoom g.number h.width (length table) (texts_by g h table (dirs ++ texts_of files))
lists-room g h table dirs files behind (old_lists ds fs place e other d f) =
    subst (λ (b : Bool). EachTextRoom g.number h.width (length table)
    (if b then list_texts g h table h.lists ++ list_texts g h table (list_end g h table h.lists) else as_paths (dirs ++ texts_of files))) (sym (ne_eqb h.version 5 other))
    (paths-room g.number h.width (length table) (dirs ++ texts_of files)
    (each-append g.number h.width (length table) dirs (texts_of files) (dirs-room g.number table h.width (length table) h.lists (dirs, place) d)
    (files-room g.number table h.width (length table) place (files, behind) f)))
lists-room g h table dirs files behind (new_lists ds fs place e five d f) =
    subst (λ (b : Bool). EachTextRoom g.number h.width (length table)
    (if b then list_texts g h table h.lists ++ list_texts g h table (list_end g h table h.lists) else as_paths (texts_of ds ++ texts_of files))) (sym (eq-eqb h.version 5 five))
    (texts-append g.number h.width (length table) (list_texts g h table h.lists) (list_texts g h table (list_end g h table h.lists))
    (list-texts-room g h table h.lists) (list-texts-room g h table (list_end g h table h.lists)))

pub table-room : (g : LineSource) (start : ℕ) (t : LineTable) → IsLineTable g start t → AllHaveRoom g.number t.width (length g.bytes) t.texts
table-room g start t is =
    let size = length-take is.header.end g.bytes in
    subst (λ (x : LineTable). AllHaveRoom g.number x.width (length g.bytes) x.texts) (sym is.is)
    (each-all g.number is.header.width (length (table_bytes g is.header)) (length g.bytes) (texts_by g is.header (table_bytes g is.header) (is.dirs ++ texts_of is.files)) (omega (arith, size))
    (lists-room g is.header (table_bytes g is.header) is.dirs is.files is.behind is.lists))
