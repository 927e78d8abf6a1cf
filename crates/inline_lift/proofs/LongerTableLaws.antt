-- Line tables with more texts behind those of .debug_str: they are read as they were, and mean the same.
use Rattle.std.proofs.Common.{Bool, false, ◌≡◌, ℕ, ◌+◌, ◌==◌, List, [], ◌∷◌, ◌++◌, length, drop, map, Option, None, refl, sym, ap, ◌∙◌, if◌then◌else◌}
use Rattle.std.specs.Prelude.{Ok}
use Rattle.std.proofs.lemmas.Bool.{ne_eqb}
use Rattle.dw_base.specs.LineEntries.{columns, counted_entries, entries_at, entries_behind, entry_at, file_of, list_end, next_entry, place_behind}
use Rattle.dw_base.specs.LineMeanings.{LineColumn, LineMeaning, columns_counted, columns_formed, columns_there, dir_columns, dir_texts, entries_columns, entries_with, file_columns, file_path, file_text, file_texts, FileText, further_columns, line_meaning, line_meanings, line_params, listed_columns, old_columns, place_text, program_rows, shown_rows}
use Rattle.dw_base.specs.LineReadings.{AreTables, LineReading, ReadsTable, TablesTo}
use Rattle.dw_base.specs.LineSources.{LineSource}
use Rattle.dw_base.specs.LineTables.{HasLists, new_lists, old_lists, table_bytes, table_cells, texts_of}
use Rattle.dw_base.specs.Walks.{fallible_steps, or_refused}
use Rattle.dw_base.specs.WrittenLines.{behind_lengths, cells_part, header_length_place, length_size, part}
use Rattle.dw_base.specs.declared.line_tables.Entry.{Entry}
use Rattle.dw_base.specs.declared.line_tables.FilePlace.{FilePlace}
use Rattle.dw_base.specs.declared.line_tables.LineHeader.{LineHeader}
use Rattle.dw_base.specs.declared.line_tables.TextPlace.{TextPlace}
use Rattle.dw_base.specs.declared.values.Spec.{Spec}
use Rattle.dw_meaning.proofs.LineListLaws.{ListIs, entry-is, list-is}
use Rattle.dw_meaning.proofs.LinePathLaws.{EachPath, lists-paths}
use Rattle.dw_meaning.proofs.LineWalkLaws.{NewFiles, bound-ok, entries-run, opcodes-of}
use Rattle.inline_lift.proofs.LongerTextLaws.{TextsApart, columns-longer, further-longer, longer_source, opcodes-paths, place-longer}

-- an entry, and the entries of a list
entry-longer : (g : LineSource) (more : List ℕ) (h : LineHeader) (table : List ℕ) (specs : List Spec) (p : ℕ) (f : FilePlace) (next : ℕ) → entry_at g h table specs p ≡ Ok (f, next)
    → entry_at (longer_source g more) h table specs p ≡ Ok (f, next)
unfolding entry_at
entry-longer g more h table specs p f next e =
    let first = bound-ok (λ (x : Entry). file_of g.number h x x.text) (columns g h table specs (record { text = None; dir = None; next = p })) (f, next) e in
    ap (or_refused (λ (x : Entry). file_of g.number h x x.text)) (columns-longer g more h table specs (record { text = None; dir = None; next = p }) first.first first.is) ∙ first.rest

files-longer : (g : LineSource) (more : List ℕ) (h : LineHeader) (table : List ℕ) (specs : List Spec) (p : ℕ) (fs : List FilePlace) (e : ℕ) → NewFiles g h table specs p fs e
    → NewFiles (longer_source g more) h table specs p fs e
files-longer g more h table specs p [] e d = d
files-longer g more h table specs p (f ∷ fs) e d = (
  record { next = d.0.next; entry = entry-longer g more h table specs p f d.0.next d.0.entry },
  files-longer g more h table specs d.0.next fs e d.1,
)

list-longer : (g : LineSource) (more : List ℕ) (h : LineHeader) (table : List ℕ) (p : ℕ) (fs : List FilePlace) (e : ℕ) → ListIs g h table p fs e → ListIs (longer_source g more) h table p fs e
list-longer g more h table p fs e x = record {
  format = x.format;
  format_is = x.format_is;
  count = x.count;
  count_is = x.count_is;
  are = files-longer g more h table x.format.0 (x.format.1 + x.count.1) fs e x.are;
  number = x.number;
}

list-there : (g : LineSource) (h : LineHeader) (table : List ℕ) (p : ℕ) (fs : List FilePlace) (e : ℕ) → ListIs g h table p fs e → entries_at g h table p ≡ Ok (fs, e)
unfolding entries_at
list-there g h table p fs e x =
    ap (entries_behind g h table) x.format_is
    ∙ ap (counted_entries g h table x.format.0 x.format.1) x.count_is
    ∙ ap (λ (n : ℕ). fallible_steps (next_entry g h table x.format.0) n ([], x.format.1 + x.count.1)) (sym x.number)
    ∙ entries-run g h table x.format.0 (x.format.1 + x.count.1) e [] fs x.are

entries-longer : (g : LineSource) (more : List ℕ) (h : LineHeader) (table : List ℕ) (p : ℕ) (fs : List FilePlace) (e : ℕ) → entries_at g h table p ≡ Ok (fs, e)
    → entries_at (longer_source g more) h table p ≡ Ok (fs, e)
entries-longer g more h table p fs e is =
    list-there (longer_source g more) h table p fs e (list-longer g more h table p fs e (list-is g h table p fs e is))

-- so tables are read
lists-longer : (g : LineSource) (more : List ℕ) (h : LineHeader) (table : List ℕ) (dirs : List TextPlace) (files : List FilePlace) (behind : ℕ) → HasLists g h table dirs files behind
    → HasLists (longer_source g more) h table dirs files behind
lists-longer g more h table dirs files behind (old_lists ds fs place e other d f) = old_lists ds fs place e other d f
lists-longer g more h table dirs files behind (new_lists ds fs place e five d f) =
    new_lists ds fs place e five (entries-longer g more h table h.lists ds place d) (entries-longer g more h table place fs e f)

table-longer : (g : LineSource) (more : List ℕ) (p : ℕ) (r : LineReading) → ReadsTable g p r → ReadsTable (longer_source g more) p r
table-longer g more p r x = record {
  header = x.header;
  lists = lists-longer g more r.header (table_bytes g r.header) r.dirs r.files r.behind x.lists;
  before = x.before;
  program = x.program;
}

tables-to : (g : LineSource) (more : List ℕ) (p : ℕ) (rs : List LineReading) (e : ℕ) → TablesTo g p rs e → TablesTo (longer_source g more) p rs e
tables-to g more p [] e h = h
tables-to g more p (r ∷ rs) e h = (table-longer g more p r h.0, tables-to g more r.header.end rs e h.1)

pub tables-longer : (g : LineSource) (more : List ℕ) (rs : List LineReading) → AreTables g rs → AreTables (longer_source g more) rs
tables-longer g more rs are = tables-to g more 0 rs (length g.bytes) are

-- the columns of a list
entries-columns : (g : LineSource) (more : List ℕ) (h : LineHeader) (table : List ℕ) (specs : List Spec) (p : ℕ) (fs : List FilePlace) (e : ℕ) → TextsApart g → NewFiles g h table specs p fs e
    → entries_columns (longer_source g more) h table specs (length fs) p ≡ entries_columns g h table specs (length fs) p
entries-columns g more h table specs p [] e apart d = refl
entries-columns g more h table specs p (f ∷ fs) e apart d =
    let x = entry-is g h table specs p f d.0.next d.0.entry in
    ap (columns_there (further_columns (longer_source g more) h table specs false p) (λ q. entries_columns (longer_source g more) h table specs (length fs) q))
    (entry-longer g more h table specs p f d.0.next d.0.entry)
    ∙ ap (λ (c : List LineColumn). c ∷ entries_columns (longer_source g more) h table specs (length fs) d.0.next)
    (further-longer g more h table specs false (record { text = None; dir = None; next = p }) x.last apart x.columns_are)
    ∙ ap (λ (cs_ : List (List LineColumn)). further_columns g h table specs false p ∷ cs_) (entries-columns g more h table specs d.0.next fs e apart d.1)
    ∙ sym (ap (columns_there (further_columns g h table specs false p) (λ q. entries_columns g h table specs (length fs) q)) d.0.entry)

listed-by : (g : LineSource) (h : LineHeader) (table : List ℕ) (p : ℕ) (fs : List FilePlace) (e : ℕ) → (x : ListIs g h table p fs e)
    → listed_columns g h table p ≡ entries_columns g h table x.format.0 (length fs) (x.format.1 + x.count.1)
listed-by g h table p fs e x =
    ap (λ (o : Option (List Spec × ℕ)). columns_formed g h table o) x.format_is
    ∙ ap (λ (o : Option (ℕ × ℕ)). columns_counted g h table x.format.0 x.format.1 o) x.count_is
    ∙ ap (λ (n : ℕ). entries_columns g h table x.format.0 n (x.format.1 + x.count.1)) (sym x.number)

listed-longer : (g : LineSource) (more : List ℕ) (h : LineHeader) (table : List ℕ) (p : ℕ) (fs : List FilePlace) (e : ℕ) → TextsApart g → entries_at g h table p ≡ Ok (fs, e)
    → listed_columns (longer_source g more) h table p ≡ listed_columns g h table p
unfolding list-longer
listed-longer g more h table p fs e apart is =
    let x = list-is g h table p fs e is in
    listed-by (longer_source g more) h table p fs e (list-longer g more h table p fs e x)
    ∙ entries-columns g more h table x.format.0 (x.format.1 + x.count.1) fs e apart x.are
    ∙ sym (listed-by g h table p fs e x)

abbrev dirs_by : LineSource → LineHeader → List ℕ → List (List LineColumn)
dirs_by g h table = if h.version == 5 then listed_columns g h table h.lists else []

abbrev files_by : LineSource → LineHeader → List ℕ → List FilePlace → List (List LineColumn)
files_by g h table files = if h.version == 5 then listed_columns g h table (list_end g h table h.lists) else map (old_columns table) files

dirs-longer : (g : LineSource) (more : List ℕ) (h : LineHeader) (table : List ℕ) (dirs : List TextPlace) (files : List FilePlace) (behind : ℕ) → TextsApart g → HasLists g h table dirs files behind
    → dirs_by (longer_source g more) h table ≡ dirs_by g h table
dirs-longer g more h table dirs files behind apart (old_lists ds fs place e other d f) =
    ap (λ (b : Bool). if b then listed_columns (longer_source g more) h table h.lists else []) (ne_eqb h.version 5 other)
    ∙ sym (ap (λ (b : Bool). if b then listed_columns g h table h.lists else []) (ne_eqb h.version 5 other))
dirs-longer g more h table dirs files behind apart (new_lists ds fs place e five d f) =
    ap (λ (cs_ : List (List LineColumn)). if h.version == 5 then cs_ else []) (listed-longer g more h table h.lists ds place apart d)

end-is : (g : LineSource) (h : LineHeader) (table : List ℕ) (ds : List FilePlace) (place : ℕ) → entries_at g h table h.lists ≡ Ok (ds, place) → list_end g h table h.lists ≡ place
end-is g h table ds place d = ap (place_behind h.lists) d

file-columns : (g : LineSource) (more : List ℕ) (h : LineHeader) (table : List ℕ) (dirs : List TextPlace) (files all : List FilePlace) (behind : ℕ) → TextsApart g → HasLists g h table dirs files behind
    → files_by (longer_source g more) h table all ≡ files_by g h table all
file-columns g more h table dirs files all behind apart (old_lists ds fs place e other d f) =
    ap (λ (b : Bool). if b then listed_columns (longer_source g more) h table (list_end (longer_source g more) h table h.lists) else map (old_columns table) all) (ne_eqb h.version 5 other)
    ∙ sym (ap (λ (b : Bool). if b then listed_columns g h table (list_end g h table h.lists) else map (old_columns table) all) (ne_eqb h.version 5 other))
file-columns g more h table dirs files all behind apart (new_lists ds fs place e five d f) =
    ap (λ (cs_ : List (List LineColumn)). if h.version == 5 then cs_ else map (old_columns table) all)
    (ap (listed_columns (longer_source g more) h table) (end-is (longer_source g more) h table ds place (entries-longer g more h table h.lists ds place d))
    ∙ listed-longer g more h table place fs e apart f
    ∙ sym (ap (listed_columns g h table) (end-is g h table ds place d)))

-- their texts
paths-parts : (g : LineSource) (xs ys : List TextPlace) → EachPath g (xs ++ ys) → EachPath g xs × EachPath g ys
paths-parts g [] ys h = (tt, h)
paths-parts g (x ∷ xs) ys h = let p = paths-parts g xs ys h.1 in ((h.0, p.0), p.1)

dir-texts : (g : LineSource) (more : List ℕ) (xs : List TextPlace) → TextsApart g → EachPath g xs → dir_texts (longer_source g more) xs ≡ dir_texts g xs
dir-texts g more [] apart h = refl
dir-texts g more (x ∷ xs) apart h =
    ap (λ (t : List ℕ). t ∷ dir_texts (longer_source g more) xs) (place-longer g more x apart h.0) ∙ ap (λ (ts : List (List ℕ)). place_text g x ∷ ts) (dir-texts g more xs apart h.1)

file-texts : (g : LineSource) (more : List ℕ) (fs : List FilePlace) → TextsApart g → EachPath g (texts_of fs) → file_texts (longer_source g more) fs ≡ file_texts g fs
file-texts g more [] apart h = refl
file-texts g more (f ∷ fs) apart h =
    ap (λ (t : List ℕ). record { path = t; dir = f.dir } ∷ file_texts (longer_source g more) fs) (place-longer g more f.text apart h.0)
    ∙ ap (λ (ts : List FileText). file_text g f ∷ ts) (file-texts g more fs apart h.1)

-- so a table means what it did
abbrev meaning_by : LineSource → LineReading → List (List ℕ) → List (List LineColumn) → List FileText → List (List LineColumn) → List FileText → LineMeaning
meaning_by g r dirs dir_cols files file_cols defined = record {
  version = r.header.version;
  width = r.header.width;
  sizes = part (table_bytes g r.header) (r.header.start + length_size r.header.width) (header_length_place r.header.start r.header.width r.header.version);
  numbers = part (table_bytes g r.header) (behind_lengths r.header.start r.header.width r.header.version) r.header.lists;
  dirs = entries_with dirs dir_cols;
  files = entries_with (map file_path files) file_cols;
  gap = cells_part (table_cells g r.header) r.behind r.header.program;
  program = drop r.header.program (table_cells g r.header);
  rows = shown_rows r.header.version dirs (files ++ defined)
      (program_rows (line_params g.order r.header) (part (table_bytes g r.header) r.header.operands r.header.lists) (drop r.header.program (table_cells g r.header)));
}

line-longer : (g : LineSource) (more : List ℕ) (p : ℕ) (r : LineReading) → TextsApart g → ReadsTable g p r → line_meaning (longer_source g more) r ≡ line_meaning g r
line-longer g more p r apart reads =
    let paths = paths-parts g r.dirs (texts_of r.files) (lists-paths g r.header (table_bytes g r.header) r.dirs r.files r.behind reads.lists) in
    let defined : EachPath g (texts_of r.defined) =
    opcodes-paths g r.header (table_bytes g r.header) r.header.program r.defined (opcodes-of g.number r.header (table_bytes g r.header) r.header.program r.defined reads.program) in
    ap (λ (ts : List (List ℕ)). meaning_by g r ts (dir_columns (longer_source g more) r) (file_texts (longer_source g more) r.files) (file_columns (longer_source g more) r)
    (file_texts (longer_source g more) r.defined)) (dir-texts g more r.dirs apart paths.0)
    ∙ ap (λ (cs_ : List (List LineColumn)). meaning_by g r (dir_texts g r.dirs) cs_ (file_texts (longer_source g more) r.files) (file_columns (longer_source g more) r)
    (file_texts (longer_source g more) r.defined)) (dirs-longer g more r.header (table_bytes g r.header) r.dirs r.files r.behind apart reads.lists)
    ∙ ap (λ (ts : List FileText). meaning_by g r (dir_texts g r.dirs) (dir_columns g r) ts (file_columns (longer_source g more) r)
    (file_texts (longer_source g more) r.defined)) (file-texts g more r.files apart paths.1)
    ∙ ap (λ (cs_ : List (List LineColumn)). meaning_by g r (dir_texts g r.dirs) (dir_columns g r) (file_texts g r.files) cs_ (file_texts (longer_source g more) r.defined))
    (file-columns g more r.header (table_bytes g r.header) r.dirs r.files r.files r.behind apart reads.lists)
    ∙ ap (λ (ts : List FileText). meaning_by g r (dir_texts g r.dirs) (dir_columns g r) (file_texts g r.files) (file_columns g r) ts) (file-texts g more r.defined apart defined)

lines-to : (g : LineSource) (more : List ℕ) (p : ℕ) (rs : List LineReading) (e : ℕ) → TextsApart g → TablesTo g p rs e → line_meanings (longer_source g more) rs ≡ line_meanings g rs
lines-to g more p [] e apart h = refl
lines-to g more p (r ∷ rs) e apart h =
    ap (λ (x : LineMeaning). x ∷ line_meanings (longer_source g more) rs) (line-longer g more p r apart h.0)
    ∙ ap (λ (xs : List LineMeaning). line_meaning g r ∷ xs) (lines-to g more r.header.end rs e apart h.1)

pub lines-longer : (g : LineSource) (more : List ℕ) (rs : List LineReading) → TextsApart g → AreTables g rs → line_meanings (longer_source g more) rs ≡ line_meanings g rs
lines-longer g more rs apart are = lines-to g more 0 rs (length g.bytes) apart are
