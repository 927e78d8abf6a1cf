-- What is printed of a table that was read is the text of what it means.
use Rattle.std.proofs.Common.{Bool, true, false, ◌≡◌, ◌||◌, ◌⊎◌, inl, inr, ℕ, zero, suc, ◌+◌, ◌==◌, List, [], ◌∷◌, ◌++◌, length, map, Option, Some, None, refl, sym, ap, ◌∙◌, subst, if◌then◌else◌}
use Rattle.std.specs.Prelude.{unwrap_or, ⊤, not, ◌&&◌, nat_lt, slice_index, option_map, Result, Ok}
use Rattle.std.proofs.lemmas.Bool.{eqb-true, eq-eqb, ne_eqb}
use Rattle.dw_base.specs.Lebs.{uleb_at}
use Rattle.dw_base.specs.LineEntries.{column_at, columns, entries_at, entry_at, file_of, first_of, with_column, list_end, place_behind}
use Rattle.dw_base.specs.LineFormats.{format_at, is_column, is_index_form, is_column_form, is_text_form, next_spec, spec_at, with_spec}
use Rattle.dw_base.specs.LineMeanings.{LineColumn, FileText, column_value, column_there, columns_there, columns_counted, columns_formed, dir_columns, dir_texts, entries_columns, entries_with, file_columns, file_path, file_text, file_texts, further_columns, is_there, listed_columns, old_columns}
use Rattle.dw_base.specs.LineReadings.{LineReading, ReadsTable}
use Rattle.dw_base.specs.LineSources.{LineSource}
use Rattle.dw_base.specs.LineTables.{table_bytes, HasLists, old_lists, new_lists}
use Rattle.dw_base.specs.LineTexts.{file_numbers, inline_text, skip_lebs}
use Rattle.dw_base.specs.Texts.{ends_in, text_in}
use Rattle.dw_base.specs.UnitStates.{read_value}
use Rattle.dw_base.specs.Walks.{steps}
use Rattle.dw_base.specs.WrittenLines.{part}
use Rattle.dw_base.specs.declared.dwarf_numbers.TheConstants.{DW_FORM_string, DW_FORM_strp, DW_FORM_line_strp, DW_FORM_udata, DW_FORM_data1, DW_FORM_data2, DW_FORM_data4, DW_FORM_data8, DW_FORM_data16, DW_FORM_block}
use Rattle.dw_base.specs.declared.fault.Refusal.{Refusal}
use Rattle.dw_base.specs.declared.line_numbers.TheConstants.{DW_LNCT_path, DW_LNCT_directory_index}
use Rattle.dw_base.specs.declared.line_tables.Column.{Column}
use Rattle.dw_base.specs.declared.line_tables.Entry.{Entry}
use Rattle.dw_base.specs.declared.line_tables.FilePlace.{FilePlace}
use Rattle.dw_base.specs.declared.line_tables.LineHeader.{LineHeader}
use Rattle.dw_base.specs.declared.line_tables.TextPlace.{TextPlace}
use Rattle.dw_base.specs.declared.values.Spec.{Spec}
use Rattle.dw_meaning.proofs.LineColumnLaws.{ColumnIs, inline_is, offset_is, value_is, column-is}
use Rattle.dw_meaning.proofs.LineEntryLaws.{AreColumns, column-step, entry-same}
use Rattle.dw_meaning.proofs.LineListLaws.{list-is}
use Rattle.dw_meaning.proofs.LineReadLaws.{bound, made, if-some, some-same}
use Rattle.dw_meaning.proofs.LineWalkLaws.{NewFiles, OldFiles, bound-ok, files-of}
use Rattle.dbg_show.specs.LineTexts.{dir_in, entry_file, entry_path, number_of}
use Rattle.dw_base.specs.declared.texts.TextSection.TheVariants.{InStr, InLineStr}

ok-same : {Y E : Type 0} (a b : Y) → ◌≡◌ {A = Result Y E} (Ok a) (Ok b) → a ≡ b
ok-same a b e = cc

never-both : (b : Bool) → b ≡ true → b ≡ false → ⊥
never-both b t f = absurd (clash (sym t ∙ f))
  where
    clash : true ≡ false → ⊥
    clash e = cc

-- each file has the number of its directory among its columns
abbrev DirsSaid : List FilePlace → List (List LineColumn) → Type 0
DirsSaid [] cs = ⊤
DirsSaid (f ∷ fs) [] = ⊥
DirsSaid (f ∷ fs) (c ∷ cs) = (f.dir ≡ dir_in c) × DirsSaid fs cs

files-said : (g : LineSource) (fs : List FilePlace) (cs : List (List LineColumn)) → DirsSaid fs cs
    → map entry_file (entries_with (map file_path (file_texts g fs)) cs) ≡ file_texts g fs
files-said g [] cs d = refl
files-said g (f ∷ fs) [] d = absurd d
files-said g (f ∷ fs) (c ∷ cs) d =
    ap (λ (n : ℕ). record { path = (file_text g f).path; dir = n } ∷ map entry_file (entries_with (map file_path (file_texts g fs)) cs)) (sym d.0)
    ∙ ap (λ (xs : List FileText). file_text g f ∷ xs) (files-said g fs cs d.1)

-- the paths of entries
pub paths-said : (ts : List (List ℕ)) (cs : List (List LineColumn)) → map entry_path (entries_with ts cs) ≡ ts
paths-said [] cs = refl
paths-said (t ∷ ts) [] = ap (λ (xs : List (List ℕ)). t ∷ xs) (paths-said ts [])
paths-said (t ∷ ts) (c ∷ cs) = ap (λ (xs : List (List ℕ)). t ∷ xs) (paths-said ts cs)

-- the first column says it, or one behind it
dir-here : (c : LineColumn) (cs : List LineColumn) → (c.name == DW_LNCT_directory_index) ≡ true → dir_in (c ∷ cs) ≡ number_of c.value
dir-here c cs e = rw e refl

dir-behind : (c : LineColumn) (cs : List LineColumn) → (c.name == DW_LNCT_directory_index) ≡ false → dir_in (c ∷ cs) ≡ dir_in cs
dir-behind c cs e = rw e refl

-- before version 5: a text that was read stands where it was read
inline-at : (section : ℕ) (table : List ℕ) (p : ℕ) (t : TextPlace) → inline_text section table p ≡ Some t → t.at ≡ p
unfolding inline_text
inline-at section table p t e =
    let both = if-some (ends_in table p) (Some (record { section = section; at = p; len = length (text_in table p); field = p })) t e in
    ap (λ (x : TextPlace). x.at) (sym (some-same _ t both.1))

-- the first number behind its name is that of its directory
first-number : (table : List ℕ) (p : ℕ) (d : ℕ × ℕ) → file_numbers table p ≡ Some d → read_value (uleb_at table p) ≡ d.0
unfolding file_numbers uleb_at
first-number table p d e =
    let first = bound (λ dir. option_map (λ next. (dir.0, next)) (skip_lebs 2 table (p + dir.1))) (uleb_at table p) d e in
    let rest = made (λ (next : ℕ). (first.first.0, next)) (skip_lebs 2 table (p + first.first.1)) d first.rest in
    ap read_value first.is ∙ ap (λ (x : ℕ × ℕ). x.0) rest.same

old-said : (section : ℕ) (table : List ℕ) (p e : ℕ) (fs : List FilePlace) → OldFiles section table p fs e → DirsSaid fs (map (old_columns table) fs)
old-said section table p e [] d = tt
old-said section table p e (f ∷ fs) d =
    let at : f.text.at ≡ p = inline-at section table p f.text d.0.text in
    let number : read_value (uleb_at table (f.text.at + f.text.len + 1)) ≡ f.dir =
    ap (λ (n : ℕ). read_value (uleb_at table (n + f.text.len + 1))) at ∙ first-number table (p + f.text.len + 1) (f.dir, d.0.next) d.0.numbers in
    (sym number, old-said section table d.0.next e fs d.1)

-- version 5: the form of a number of a directory is that of a number
record IndexForm (form : ℕ) : Type 0 where
  string : (form == DW_FORM_string) ≡ false
  strp : (form == DW_FORM_strp) ≡ false
  line_strp : (form == DW_FORM_line_strp) ≡ false
  data16 : (form == DW_FORM_data16) ≡ false
  block : (form == DW_FORM_block) ≡ false

form-is : (form k : ℕ) → (form == k) ≡ true → IndexForm k → IndexForm form
form-is form k e x = subst IndexForm (sym (eqb-true form k e)) x

or-split : (a b : Bool) → (a || b) ≡ true → (a ≡ true) ⊎ (b ≡ true)
or-split true b e = inl refl
or-split false b e = inr e

index-form : (form : ℕ) → is_index_form form ≡ true → IndexForm form
index-form form e = elim (or-split _ (form == DW_FORM_data8) e) [
  | inr f ↦ form-is form DW_FORM_data8 f (record { string = refl; strp = refl; line_strp = refl; data16 = refl; block = refl })
  | inl e1 ↦ elim (or-split _ (form == DW_FORM_data4) e1) [
    | inr f ↦ form-is form DW_FORM_data4 f (record { string = refl; strp = refl; line_strp = refl; data16 = refl; block = refl })
    | inl e2 ↦ elim (or-split _ (form == DW_FORM_data2) e2) [
      | inr f ↦ form-is form DW_FORM_data2 f (record { string = refl; strp = refl; line_strp = refl; data16 = refl; block = refl })
      | inl e3 ↦ elim (or-split (form == DW_FORM_udata) (form == DW_FORM_data1) e3) [
        | inr f ↦ form-is form DW_FORM_data1 f (record { string = refl; strp = refl; line_strp = refl; data16 = refl; block = refl })
        | inl f ↦ form-is form DW_FORM_udata f (record { string = refl; strp = refl; line_strp = refl; data16 = refl; block = refl })
      ]
    ]
  ]
]

column-form : (spec : Spec) → is_column spec ≡ true → (spec.name == DW_LNCT_directory_index) ≡ true → is_index_form spec.form ≡ true
unfolding is_column
column-form spec e name =
    let is : spec.name ≡ DW_LNCT_directory_index = eqb-true spec.name DW_LNCT_directory_index name in
    let other : (spec.name == DW_LNCT_path) ≡ false = ap (λ (n : ℕ). n == DW_LNCT_path) is in
    by_tests (spec.name == DW_LNCT_path) (spec.name == DW_LNCT_directory_index) other name e
  where
    by_tests : (a b : Bool) → a ≡ false → b ≡ true → (if a then is_text_form spec.form else (if b then is_index_form spec.form else is_column_form spec.form)) ≡ true
        → is_index_form spec.form ≡ true
    by_tests true b n y x = absurd cc
    by_tests false true n y x = x
    by_tests false false n y x = absurd cc

-- its number is what the column says
number-said : (g : LineSource) (h : LineHeader) (table : List ℕ) (spec : Spec) (p : ℕ) (c : Column) (own : List ℕ) → IndexForm spec.form → ColumnIs g h table spec p c
    → number_of (column_value g spec.form c.text c.number own) ≡ c.number
number-said g h table spec p c own x (inline_is form ends) = absurd (never-both (spec.form == DW_FORM_string) (eq-eqb spec.form DW_FORM_string form) x.string)
number-said g h table spec p c own x (offset_is InStr n form room reads ends) = absurd (never-both (spec.form == DW_FORM_strp) (eq-eqb spec.form DW_FORM_strp form) x.strp)
number-said g h table spec p c own x (offset_is InLineStr n form room reads ends) =
    absurd (never-both (spec.form == DW_FORM_line_strp) (eq-eqb spec.form DW_FORM_line_strp form) x.line_strp)
number-said g h table spec p c own x (value_is a b d v is) = rw (x.data16, x.block) refl

-- the number that was read so far, or that further columns say
abbrev dir_or : Option ℕ → ℕ → ℕ
dir_or None n = n
dir_or (Some d) n = d

dir-first : (d : Option ℕ) (n m : ℕ) → dir_or (first_of d (Some n)) m ≡ dir_or d n
dir-first None n m = refl
dir-first (Some d) n m = refl

dir-last : (d : Option ℕ) → unwrap_or d 0 ≡ dir_or d 0
dir-last None = refl
dir-last (Some d) = refl

-- further columns, where the first of them was read
there-is : (g : LineSource) (table : List ℕ) (spec : Spec) (taken : Bool) (p : ℕ) (rest : Bool → ℕ → List LineColumn) (c : Column) (n : ℕ)
    → (spec.name == DW_LNCT_directory_index) ≡ false → ((t : Bool) → dir_in (rest t c.next) ≡ n) → dir_in (column_there g table spec taken p rest (Ok c)) ≡ n
there-is g table spec taken p rest c n other e = by_path (not taken && spec.name == DW_LNCT_path && is_there c.text)
  where
    by_path : (b : Bool) → dir_in (if b then rest true c.next
        else record { name = spec.name; value = column_value g spec.form c.text c.number (part table p c.next) } ∷ rest taken c.next) ≡ n
    by_path true = e true
    by_path false = dir-behind (record { name = spec.name; value = column_value g spec.form c.text c.number (part table p c.next) }) (rest taken c.next) other ∙ e taken

there-dir : (g : LineSource) (table : List ℕ) (spec : Spec) (taken : Bool) (p : ℕ) (rest : Bool → ℕ → List LineColumn) (c : Column)
    → (spec.name == DW_LNCT_directory_index) ≡ true
    → dir_in (column_there g table spec taken p rest (Ok c)) ≡ number_of (column_value g spec.form c.text c.number (part table p c.next))
there-dir g table spec taken p rest c name =
    let is : spec.name ≡ DW_LNCT_directory_index = eqb-true spec.name DW_LNCT_directory_index name in
    let other : (spec.name == DW_LNCT_path) ≡ false = ap (λ (n : ℕ). n == DW_LNCT_path) is in
    by_tests taken (spec.name == DW_LNCT_path) other
  where
    by_tests : (t b : Bool) → b ≡ false → dir_in (if not t && b && is_there c.text then rest true c.next
        else record { name = spec.name; value = column_value g spec.form c.text c.number (part table p c.next) } ∷ rest taken c.next)
        ≡ number_of (column_value g spec.form c.text c.number (part table p c.next))
    by_tests t true ne = absurd cc
    by_tests true false ne = dir-here (record { name = spec.name; value = column_value g spec.form c.text c.number (part table p c.next) }) (rest taken c.next) name
    by_tests false false ne = dir-here (record { name = spec.name; value = column_value g spec.form c.text c.number (part table p c.next) }) (rest taken c.next) name

columns-said : (g : LineSource) (h : LineHeader) (table : List ℕ) (specs : List Spec) (e last : Entry) (taken : Bool) → AreColumns specs → columns g h table specs e ≡ Ok last
    → unwrap_or last.dir 0 ≡ dir_or e.dir (dir_in (further_columns g h table specs taken e.next))
columns-said g h table [] e last taken a is = ap (λ (x : Entry). unwrap_or x.dir 0) (sym (entry-same e last is)) ∙ dir-last e.dir
columns-said g h table (spec ∷ specs) e last taken a is =
    let one = column-step g h table spec specs e last is in
    by_name e.dir (spec.name == DW_LNCT_directory_index) refl one.column one.is
    (λ t. columns-said g h table specs (with_column spec e one.column) last t a.1 one.rest)
  where
    by_name : (d : Option ℕ) (b : Bool) → (spec.name == DW_LNCT_directory_index) ≡ b → (c : Column) → column_at g h table spec e.next ≡ Ok c
        → ((t : Bool) → unwrap_or last.dir 0 ≡ dir_or (if b then first_of d (Some c.number) else d) (dir_in (further_columns g h table specs t c.next)))
        → unwrap_or last.dir 0 ≡ dir_or d (dir_in (column_there g table spec taken e.next (λ t p. further_columns g h table specs t p) (column_at g h table spec e.next)))
    by_name d true name c at rest =
        rest true ∙ dir-first d c.number (dir_in (further_columns g h table specs true c.next))
        ∙ ap (dir_or d) (sym (ap (λ (r : Result Column Refusal). dir_in (column_there g table spec taken e.next (λ t p. further_columns g h table specs t p) r)) at
        ∙ there-dir g table spec taken e.next (λ t p. further_columns g h table specs t p) c name
        ∙ number-said g h table spec e.next c (part table e.next c.next) (index-form spec.form (column-form spec a.0 name)) (column-is g h table spec e.next c at)))
    by_name None false name c at rest =
        sym (ap (λ (r : Result Column Refusal). dir_in (column_there g table spec taken e.next (λ t p. further_columns g h table specs t p) r)) at
        ∙ there-is g table spec taken e.next (λ t p. further_columns g h table specs t p) c (unwrap_or last.dir 0) name (λ t. sym (rest t)))
    by_name (Some d) false name c at rest = rest true

-- an entry
entry-said : (g : LineSource) (h : LineHeader) (table : List ℕ) (specs : List Spec) (p next : ℕ) (f : FilePlace) → AreColumns specs → entry_at g h table specs p ≡ Ok (f, next)
    → f.dir ≡ dir_in (further_columns g h table specs false p)
unfolding entry_at
entry-said g h table specs p next f a is =
    let first = bound-ok (λ e. file_of g.number h e e.text) (columns g h table specs (record { text = None; dir = None; next = p })) (f, next) is in
    file-dir first.first first.first.text first.rest ∙ columns-said g h table specs (record { text = None; dir = None; next = p }) first.first false a first.is
  where
    ok-dir : (x : FilePlace × ℕ) → ◌≡◌ {A = Result (FilePlace × ℕ) Refusal} (Ok x) (Ok (f, next)) → f.dir ≡ x.0.dir
    ok-dir x e = ap (λ (y : FilePlace × ℕ). y.0.dir) (sym (ok-same x (f, next) e))

    file-dir : (e : Entry) (t : Option TextPlace) → file_of g.number h e t ≡ Ok (f, next) → f.dir ≡ unwrap_or e.dir 0
    file-dir e None is = absurd cc
    file-dir e (Some t) is = ok-dir (record { text = t; dir = unwrap_or e.dir 0 }, e.next) is

new-said : (g : LineSource) (h : LineHeader) (table : List ℕ) (specs : List Spec) (p e : ℕ) (fs : List FilePlace) → AreColumns specs → NewFiles g h table specs p fs e
    → DirsSaid fs (entries_columns g h table specs (length fs) p)
new-said g h table specs p e [] a d = tt
new-said g h table specs p e (f ∷ fs) a d =
    subst (λ (r : Result (FilePlace × ℕ) Refusal). DirsSaid (f ∷ fs) (columns_there (further_columns g h table specs false p) (λ q. entries_columns g h table specs (length fs) q) r))
    (sym d.0.entry) (entry-said g h table specs p d.0.next f a d.0.entry, new-said g h table specs d.0.next e fs a d.1)

-- the format of entries that were read
columns-append : (xs : List Spec) (x : Spec) → AreColumns xs → is_column x ≡ true → AreColumns (xs ++ x ∷ [])
columns-append [] x h e = (e, tt)
columns-append (y ∷ ys) x h e = (h.0, columns-append ys x h.1 e)

step-fits : (table : List ℕ) (s t : List Spec × ℕ) → next_spec table s ≡ Some t → AreColumns s.0 → AreColumns t.0
step-fits table s t e h =
    let first = bound (with_spec s.0) (spec_at table s.1) t e in
    let both = if-some (is_column first.first.0) (Some (s.0 ++ first.first.0 ∷ [], first.first.1)) t first.rest in
    subst (λ (x : List Spec × ℕ). AreColumns x.0) (some-same (s.0 ++ first.first.0 ∷ [], first.first.1) t both.1) (columns-append s.0 first.first.0 h both.0)

steps-fit : (table : List ℕ) (n : ℕ) (s t : List Spec × ℕ) → steps (next_spec table) n s ≡ Some t → AreColumns s.0 → AreColumns t.0
steps-fit table zero s t e h = subst (λ (x : List Spec × ℕ). AreColumns x.0) (some-same s t e) h
steps-fit table (suc n) s t e h =
    let first = bound (steps (next_spec table) n) (next_spec table s) t e in
    steps-fit table n first.first t first.rest (step-fits table s first.first first.is h)

format-fits : (table : List ℕ) (p : ℕ) (f : List Spec × ℕ) → format_at table p ≡ Some f → AreColumns f.0
unfolding format_at
format-fits table p f e =
    let both = if-some (nat_lt p (length table)) (steps (next_spec table) (slice_index table p) ([], p + 1)) f e in
    steps-fit table (slice_index table p) ([], p + 1) f both.1 tt

listed-said : (g : LineSource) (h : LineHeader) (table : List ℕ) (p e : ℕ) (fs : List FilePlace) → entries_at g h table p ≡ Ok (fs, e) → DirsSaid fs (listed_columns g h table p)
listed-said g h table p e fs is =
    let l = list-is g h table p fs e is in
    let said = new-said g h table l.format.0 (l.format.1 + l.count.1) e fs (format-fits table p l.format l.format_is) l.are in
    subst (λ (o : Option (List Spec × ℕ)). DirsSaid fs (columns_formed g h table o)) (sym l.format_is)
    (subst (λ (o : Option (ℕ × ℕ)). DirsSaid fs (columns_counted g h table l.format.0 l.format.1 o)) (sym l.count_is)
    (subst (λ (n : ℕ). DirsSaid fs (entries_columns g h table l.format.0 n (l.format.1 + l.count.1))) l.number said))

-- files of either version
lists-said : (g : LineSource) (h : LineHeader) (table : List ℕ) (dirs : List TextPlace) (fs : List FilePlace) (behind : ℕ) → HasLists g h table dirs fs behind
    → DirsSaid fs (if h.version == 5 then listed_columns g h table (list_end g h table h.lists) else map (old_columns table) fs)
lists-said g h table dirs fs behind (old_lists ds us p e other d f) =
    subst (λ (b : Bool). DirsSaid fs (if b then listed_columns g h table (list_end g h table h.lists) else map (old_columns table) fs)) (sym (ne_eqb h.version 5 other))
    (old-said g.number table p behind fs (files-of g.number table p behind fs f))
lists-said g h table dirs fs behind (new_lists ds us p e five d f) =
    let end : list_end g h table h.lists ≡ p = ap (place_behind h.lists) d in
    subst (λ (b : Bool). DirsSaid fs (if b then listed_columns g h table (list_end g h table h.lists) else map (old_columns table) fs)) (sym (eq-eqb h.version 5 five))
    (subst (λ (n : ℕ). DirsSaid fs (listed_columns g h table n)) (sym end) (listed-said g h table p behind fs f))

pub files-meant : (g : LineSource) (start : ℕ) (r : LineReading) → ReadsTable g start r
    → map entry_file (entries_with (map file_path (file_texts g r.files)) (file_columns g r)) ≡ file_texts g r.files
files-meant g start r reads = files-said g r.files (file_columns g r) (lists-said g r.header (table_bytes g r.header) r.dirs r.files r.behind reads.lists)

pub dirs-meant : (g : LineSource) (r : LineReading) → map entry_path (entries_with (dir_texts g r.dirs) (dir_columns g r)) ≡ dir_texts g r.dirs
dirs-meant g r = paths-said (dir_texts g r.dirs) (dir_columns g r)
