-- Line tables that agree part by part agree with their rows.
use Rattle.std.proofs.Common.{Bool, true, false, ◌≡◌, ◌==◌, not, nat_le, if◌then◌else◌, ℕ, zero, suc, ◌+◌, ◌-◌, ◌<◌, ◌≤◌, List, [], ◌∷◌, ◌++◌, map, take, drop, slice_index, Option, Some, None, refl, ap, sym, subst, ◌∙◌, append-nil, arith}
use Rattle.std.proofs.lemmas.List.{drop-drop, drop-take, get_or-drop, get_or-take}
use Rattle.std.specs.Int.{w8, cast_signed}
use Rattle.dw_base.specs.Cells.{Cell}
use Rattle.dw_base.specs.Forms.{width_size}
use Rattle.dw_base.specs.LineHeaders.{header_with, length_place, line_header}
use Rattle.dw_base.specs.LineMeanings.{FileText, LineColumn, ShownRow, dir_columns, dir_numbered, dir_texts, entries_with, file_columns, file_numbered, file_path, file_texts, item_at, line_meaning, line_params, mapped_entry, mapped_row, mapped_shown, program_rows, shown_as, shown_file, shown_in, shown_rows}
use Rattle.dw_base.specs.LineReadings.{LineReading, ReadsTable}
use Rattle.dw_base.specs.LineSources.{LineSource}
use Rattle.dw_base.specs.LineTables.{table_bytes, table_cells}
use Rattle.dw_base.specs.Numbers.{spelled}
use Rattle.dw_base.specs.Paths.{PathMap, IsPathMap, mapped_path}
use Rattle.dw_base.proofs.PathLaws.{mapped_path-none}
use Rattle.dw_base.specs.WrittenLines.{behind_lengths, part}
use Rattle.dw_base.specs.declared.line_rows.LineParams.{LineParams}
use Rattle.dw_base.specs.declared.line_rows.Row.{Row}
use Rattle.dw_base.specs.declared.line_tables.FilePlace.{FilePlace}
use Rattle.dw_base.specs.declared.line_tables.LineHeader.{LineHeader}
use Rattle.dw_base.specs.declared.shared.Order.{Order}
use Rattle.dw_base.specs.declared.shared.Width.{Width}
use Rattle.dw_meaning.proofs.LineHeaderLaws.{HeaderIs, first_place, flags-place, flags_at, header-is, length-size, ops_size}
use Rattle.dbg_check.specs.Parts.{AgreeAll, LineAgrees}
use Rattle.dbg_check.specs.Tables.{FileAgrees, PathAgrees, TablesAgree}

-- ### Lists, by their items

-- items of two lists, where both have one; no list has one that the other lacks
abbrev pub ItemsAgree : {A : Type 0} → (A → A → Type 0) → Option A → Option A → Type 0
ItemsAgree R None None = Unit {0}
ItemsAgree R None (Some y) = ⊥
ItemsAgree R (Some x) None = ⊥
ItemsAgree R (Some x) (Some y) = R x y

items-agree : {A : Type 0} (R : A → A → Type 0) (xs ys : List A) (i : ℕ) → AgreeAll R xs ys → ItemsAgree R (item_at xs i) (item_at ys i)
items-agree R [] [] i all = tt
items-agree R [] (y ∷ ys) i all = absurd all
items-agree R (x ∷ xs) [] i all = absurd all
items-agree R (x ∷ xs) (y ∷ ys) zero all = all.0
items-agree R (x ∷ xs) (y ∷ ys) (suc i) all = items-agree R xs ys i all.1

-- ### Rows

dirs-agree : (m : PathMap) (version : ℕ) (ds es : List (List ℕ)) (i : ℕ) → mapped_path m [] ≡ [] → AgreeAll (PathAgrees m) ds es
    → ItemsAgree (PathAgrees m) (dir_numbered version ds i) (dir_numbered version es i)
dirs-agree m version ds es i none all = by (version == 5) (i == 0)
  where
    by : (b c : Bool) → ItemsAgree (PathAgrees m) (if b then item_at ds i else (if c then Some [] else item_at ds (i - 1))) (if b then item_at es i else (if c then Some [] else item_at es (i - 1)))
    by true c = items-agree (PathAgrees m) ds es i all
    by false true = none
    by false false = items-agree (PathAgrees m) ds es (i - 1) all

files-agree : (m : PathMap) (version : ℕ) (fs gs : List FileText) (i : ℕ) → AgreeAll (FileAgrees m) fs gs → ItemsAgree (FileAgrees m) (file_numbered version fs i) (file_numbered version gs i)
files-agree m version fs gs i all = by (version == 5) (i == 0)
  where
    by : (b c : Bool) → ItemsAgree (FileAgrees m) (if b then item_at fs i else (if c then None else item_at fs (i - 1))) (if b then item_at gs i else (if c then None else item_at gs (i - 1)))
    by true c = items-agree (FileAgrees m) fs gs i all
    by false true = tt
    by false false = items-agree (FileAgrees m) fs gs (i - 1) all

-- a file is shown by texts that agree
shown-agree : (m : PathMap) (version : ℕ) (ds es : List (List ℕ)) (fs gs : List FileText) (i : ℕ) → mapped_path m [] ≡ [] → AgreeAll (PathAgrees m) ds es → AgreeAll (FileAgrees m) fs gs
    → mapped_shown m (shown_file version ds fs i) ≡ shown_file version es gs i
shown-agree m version ds es fs gs i none dirs files = by_file (file_numbered version fs i) (file_numbered version gs i) (files-agree m version fs gs i files)
  where
    by_dir : (path other : List ℕ) → PathAgrees m path other → (o p : Option (List ℕ)) → ItemsAgree (PathAgrees m) o p → mapped_shown m (shown_in i path o) ≡ shown_in i other p
    by_dir path other same None None agree = refl
    by_dir path other same None (Some e) agree = absurd agree
    by_dir path other same (Some d) None agree = absurd agree
    by_dir path other same (Some d) (Some e) agree = λ j. shown_in i (same j) (Some (agree j))

    by_file : (o p : Option FileText) → ItemsAgree (FileAgrees m) o p → mapped_shown m (shown_as version ds i o) ≡ shown_as version es i p
    by_file None None agree = refl
    by_file None (Some h) agree = absurd agree
    by_file (Some f) None agree = absurd agree
    by_file (Some f) (Some h) agree =
        by_dir f.path h.path agree.path (dir_numbered version ds f.dir) (dir_numbered version es f.dir) (dirs-agree m version ds es f.dir none dirs)
        ∙ ap (λ (n : ℕ). shown_in i h.path (dir_numbered version es n)) agree.dir

rows-agree : (m : PathMap) (version : ℕ) (ds es : List (List ℕ)) (fs gs : List FileText) (rows : List Row) → mapped_path m [] ≡ [] → AgreeAll (PathAgrees m) ds es → AgreeAll (FileAgrees m) fs gs
    → map (mapped_row m) (shown_rows version ds fs rows) ≡ shown_rows version es gs rows
rows-agree m version ds es fs gs [] none dirs files = refl
rows-agree m version ds es fs gs (r ∷ rs) none dirs files = λ j.
    record { registers = record r { file = 0 }; file = shown-agree m version ds es fs gs r.file none dirs files j } ∷ rows-agree m version ds es fs gs rs none dirs files j

-- ### Directories and files with their columns

entries-agree : (m : PathMap) (ts us : List (List ℕ)) (cs : List (List LineColumn)) → AgreeAll (PathAgrees m) ts us → map (mapped_entry m) (entries_with ts cs) ≡ entries_with us cs
entries-agree m [] [] cs all = refl
entries-agree m [] (u ∷ us) cs all = absurd all
entries-agree m (t ∷ ts) [] cs all = absurd all
entries-agree m (t ∷ ts) (u ∷ us) [] all = λ j. record { path = all.0 j; columns = [] } ∷ entries-agree m ts us [] all.1 j
entries-agree m (t ∷ ts) (u ∷ us) (c ∷ cs) all = λ j. record { path = all.0 j; columns = c } ∷ entries-agree m ts us cs all.1 j

file-paths : (m : PathMap) (fs gs : List FileText) → AgreeAll (FileAgrees m) fs gs → AgreeAll (PathAgrees m) (map file_path fs) (map file_path gs)
file-paths m [] [] all = tt
file-paths m [] (h ∷ gs) all = absurd all
file-paths m (f ∷ fs) [] all = absurd all
file-paths m (f ∷ fs) (h ∷ gs) all = (all.0.path, file-paths m fs gs all.1)

-- ### The numbers on which rows depend

-- those of a version, off the numbers behind the length of a header
abbrev pub params_of : Order → ℕ → List ℕ → LineParams
params_of order version numbers = record {
  order = order;
  min_length = slice_index numbers 0;
  max_ops = if nat_le 4 version then slice_index numbers 1 else 1;
  default_stmt = not (slice_index numbers (ops_size version) == 0);
  line_base = cast_signed w8 (slice_index numbers (ops_size version + 1));
  line_range = slice_index numbers (ops_size version + 2);
  opcode_base = slice_index numbers (ops_size version + 3);
}

-- a byte of a part, and a part of one
part-byte : (xs : List ℕ) (from end k : ℕ) → k < end - from → slice_index (part xs from end) k ≡ slice_index xs (from + k)
part-byte xs from end k lt = get_or-take (end - from) (drop from xs) k 0 lt ∙ get_or-drop from xs k 0

part-behind : (xs : List ℕ) (from n end : ℕ) → from + n ≤ end → drop n (part xs from end) ≡ part xs (from + n) end
part-behind xs from n end within =
    let size : end - from ≡ n + (end - (from + n)) = omega (arith, within) in
    ap (λ (k : ℕ). drop n (take k (drop from xs))) size ∙ drop-take n (end - (from + n)) (drop from xs) ∙ ap (take (end - (from + n))) (drop-drop n from xs)

-- what is read off a header, and off its numbers
pub record ReadOff (order : Order) (table : List ℕ) (h : LineHeader) : Type 0 where
  pub params : line_params order h ≡ params_of order h.version (part table (behind_lengths h.start h.width h.version) h.lists)
  pub counts : part table h.operands h.lists ≡ drop (ops_size h.version + 4) (part table (behind_lengths h.start h.width h.version) h.lists)

-- of a header of which the place behind its lengths and that of its flags are known
off-header : (order : Order) (table : List ℕ) (start : ℕ) (width : Width) (version at first flags size : ℕ) → flags ≡ first + ops_size version → first ≡ behind_lengths start width version
    → ReadOff order table (header_with table start width version at first flags size)
unfolding header_with
off-header order table start width version at first flags size flags_is first_is = record {
  params = λ j. record {
    order = order;
    min_length = (ap (slice_index table) first_zero ∙ sym (byte 0 (omega arith))) j;
    max_ops = ap (λ (n : ℕ). if nat_le 4 version then n else 1) (ap (λ (i : ℕ). slice_index table (i + 1)) first_is ∙ sym (byte 1 (omega arith))) j;
    default_stmt = ap (λ (n : ℕ). not (n == 0)) (ap (slice_index table) flag_zero ∙ sym (byte (ops_size version) (omega arith))) j;
    line_base = ap (λ (n : ℕ). cast_signed w8 n) (flag 1 (omega arith)) j;
    line_range = flag 2 (omega arith) j;
    opcode_base = flag 3 (omega arith) j;
  };
  counts = ap (λ (i : ℕ). part table i lists) operands ∙ sym (part-behind table there (ops_size version + 4) lists (omega (arith, flags_is, first_is)));
}
  where
    there : ℕ
    there = behind_lengths start width version

    lists : ℕ
    lists = flags + 4 + (slice_index table (flags + 3) - 1)

    byte : (k : ℕ) → k < ops_size version + 4 → slice_index (part table there lists) k ≡ slice_index table (there + k)
    byte k lt = part-byte table there lists k (omega (arith, lt, flags_is, first_is))

    first_zero : first ≡ there + 0
    first_zero = first_is ∙ omega arith

    flag_zero : flags ≡ there + ops_size version
    flag_zero = flags_is ∙ ap (λ (i : ℕ). i + ops_size version) first_is

    operands : flags + 4 ≡ there + (ops_size version + 4)
    operands = ap (λ (i : ℕ). i + 4) flag_zero ∙ omega arith

    flag : (k : ℕ) → k < 4 → slice_index table (flags + k) ≡ slice_index (part table there lists) (ops_size version + k)
    flag k lt =
        let place : flags + k ≡ there + (ops_size version + k) = ap (λ (i : ℕ). i + k) flag_zero ∙ omega arith in
        ap (slice_index table) place ∙ sym (byte (ops_size version + k) (omega (arith, lt)))

-- of a header that was read
pub read-off : (order : Order) (bytes : List ℕ) (start : ℕ) (h : LineHeader) → line_header order bytes start ≡ Some h → ReadOff order (take h.end bytes) h
read-off order bytes start h e =
    let x : HeaderIs order bytes start h = header-is order bytes start h e in
    subst (λ (y : LineHeader). ReadOff order (take h.end bytes) y) (sym x.is)
    (off-header order (take h.end bytes) start h.width h.version (start + x.size) (first_place h.version (start + x.size) h.width) (flags_at h.version (start + x.size) h.width)
    (spelled order (take h.end bytes) (length_place h.version (start + x.size)) (width_size h.width))
    (flags-place h.version (first_place h.version (start + x.size) h.width))
    (ap (λ (n : ℕ). first_place h.version (start + n) h.width) (length-size order bytes start h.width x.count x.size x.length_is)))

-- ### The whole

-- the rows of a table whose program defines no file, by its numbers
abbrev rows_by : ℕ → List (List ℕ) → List FileText → Order → List ℕ → List Cell → List ShownRow
rows_by version dirs files order numbers program = shown_rows version dirs files (program_rows (params_of order version numbers) (drop (ops_size version + 4) numbers) program)

rows-by : (g : LineSource) (start : ℕ) (r : LineReading) → ReadsTable g start r → r.defined ≡ []
    → (line_meaning g r).rows ≡ rows_by r.header.version (dir_texts g r.dirs) (file_texts g r.files) g.order (line_meaning g r).numbers (line_meaning g r).program
rows-by g start r reads none =
    let off = read-off g.order g.bytes start r.header reads.header in
    ap (λ (ds : List FilePlace). shown_rows r.header.version (dir_texts g r.dirs) (file_texts g r.files ++ file_texts g ds)
    (program_rows (line_params g.order r.header) (part (table_bytes g r.header) r.header.operands r.header.lists) (drop r.header.program (table_cells g r.header)))) none
    ∙ ap (λ (fs : List FileText). shown_rows r.header.version (dir_texts g r.dirs) fs
    (program_rows (line_params g.order r.header) (part (table_bytes g r.header) r.header.operands r.header.lists) (drop r.header.program (table_cells g r.header)))) (append-nil (file_texts g r.files))
    ∙ ap (λ (p : LineParams). shown_rows r.header.version (dir_texts g r.dirs) (file_texts g r.files)
    (program_rows p (part (table_bytes g r.header) r.header.operands r.header.lists) (drop r.header.program (table_cells g r.header)))) off.params
    ∙ ap (λ (cs : List ℕ). shown_rows r.header.version (dir_texts g r.dirs) (file_texts g r.files)
    (program_rows (params_of g.order r.header.version (part (table_bytes g r.header) (behind_lengths r.header.start r.header.width r.header.version) r.header.lists)) cs
    (drop r.header.program (table_cells g r.header)))) off.counts

-- tables that agree part by part agree with their rows
pub tables-agree : (m : PathMap) (g k : LineSource) (start there : ℕ) (r q : LineReading) → IsPathMap m → ReadsTable g start r → ReadsTable k there q → TablesAgree m g k r q
    → LineAgrees m (line_meaning g r) (line_meaning k q)
tables-agree m g k start there r q is_map reads other a = λ j. record {
  version = a.version j;
  width = a.width j;
  sizes = a.sizes j;
  numbers = a.numbers j;
  dirs = dirs j;
  files = files j;
  gap = a.gap j;
  program = a.program j;
  rows = rows j;
}
  where
    dirs : map (mapped_entry m) (line_meaning g r).dirs ≡ (line_meaning k q).dirs
    dirs = entries-agree m (dir_texts g r.dirs) (dir_texts k q.dirs) (dir_columns g r) a.dirs ∙ ap (entries_with (dir_texts k q.dirs)) a.dir_columns

    files : map (mapped_entry m) (line_meaning g r).files ≡ (line_meaning k q).files
    files =
        entries-agree m (map file_path (file_texts g r.files)) (map file_path (file_texts k q.files)) (file_columns g r) (file-paths m (file_texts g r.files) (file_texts k q.files) a.files)
        ∙ ap (entries_with (map file_path (file_texts k q.files))) a.file_columns

    rows : map (mapped_row m) (line_meaning g r).rows ≡ (line_meaning k q).rows
    rows =
        ap (map (mapped_row m)) (rows-by g start r reads a.none)
        ∙ rows-agree m r.header.version (dir_texts g r.dirs) (dir_texts k q.dirs) (file_texts g r.files) (file_texts k q.files)
        (program_rows (params_of g.order r.header.version (line_meaning g r).numbers) (drop (ops_size r.header.version + 4) (line_meaning g r).numbers) (line_meaning g r).program)
        (mapped_path-none m is_map) a.dirs a.files
        ∙ (λ j. rows_by (a.version j) (dir_texts k q.dirs) (file_texts k q.files) (a.order j) (a.numbers j) (a.program j))
        ∙ sym (rows-by k there q other a.none_there)
