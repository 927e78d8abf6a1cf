-- Laws of a whole line table: what was read is the table, and what refuses it; one excludes the other.
use Rattle.std.proofs.Common.{Bool, false, ◌≡◌, ◌≢◌, ◌==◌, if◌then◌else◌, ℕ, ◌+◌, ◌<◌, ◌≤◌, List, [], ◌∷◌, ◌++◌, length, take, get_or, Option, Some, None, sym, ap, ◌∙◌, subst, arith}
use Rattle.std.specs.Prelude.{Result, Ok, Err}
use Rattle.std.proofs.lemmas.Bool.{ne_eqb}
use Rattle.std.proofs.lemmas.List.{take_more, take_all, map-append}
use Rattle.dw_base.specs.FileViews.{View, section_bytes}
use Rattle.dw_base.specs.LineSources.{LineSource}
use Rattle.dw_lines.specs.ViewSources.{view_source}
use Rattle.dw_base.specs.Refusals.{at, Blames}
use Rattle.dw_base.specs.declared.fault.Fault.{Fault}
use Rattle.dw_base.specs.declared.fault.Fault.TheVariants.{NoMemory, Refused}
use Rattle.dw_base.specs.declared.fault.Kind.TheVariants.{Line}
use Rattle.dw_base.specs.declared.fault.Refusal.{Refusal}
use Rattle.dw_base.specs.declared.shared.Order.{Order}
use Rattle.dw_base.specs.declared.line_tables.TextPlace.{TextPlace}
use Rattle.dw_base.specs.LineEntries.{bad_table, entries_at, list_end}
use Rattle.dw_base.specs.LineFails.{ListsFail, old_dirs, old_files, new_dirs, new_files, LineFails, no_header, lists, passes, program}
use Rattle.dw_base.specs.LineHeaders.{line_header}
use Rattle.dw_base.specs.LineTables.{LineTable, table_made, table_bytes, texts_of, HasLists, old_lists, new_lists, IsLineTable}
use Rattle.dw_base.specs.TableTexts.{as_path, as_paths, list_texts, texts_by}
use Rattle.dw_base.specs.OldLineLists.{next_dir, next_file}
use Rattle.dw_base.specs.LinePrograms.{next_opcode}
use Rattle.dw_base.specs.Walks.{ComesTo, Breaks, Since}
use Rattle.dw_base.specs.declared.line_tables.LineHeader.{LineHeader}
use Rattle.dw_base.specs.declared.line_tables.LineText.{LineText}
use Rattle.dw_base.specs.declared.line_tables.FilePlace.{FilePlace}
use Rattle.dw_lines.proofs.EntryTextLaws.{texts-new}
use Rattle.dw_lines.proofs.WalkLaws.{comes-one, comes-whole}

-- the texts of entries, one after another
pub texts-more : (files : List FilePlace) (i : ℕ) (d : FilePlace) (texts more : List TextPlace) → texts ≡ texts_of (take i files) → i < length files
    → more ≡ texts ++ (get_or files i d).text ∷ [] → more ≡ texts_of (take (i + 1) files)
texts-more files i d texts more t lt m =
    m ∙ ap (λ (ts : List TextPlace). ts ++ (get_or files i d).text ∷ []) t
    ∙ sym (ap texts_of (take_more files i d lt) ∙ map-append (λ (f : FilePlace). f.text) (take i files) (get_or files i d ∷ []))

pub texts-over : (files : List FilePlace) (i : ℕ) (texts : List TextPlace) → texts ≡ texts_of (take i files) → length files ≤ i → texts ≡ texts_of files
texts-over files i texts t le = t ∙ ap texts_of (take_all i files le)

-- and paths as texts
pub paths-more : (paths : List TextPlace) (i : ℕ) (d : TextPlace) (texts more : List LineText) → texts ≡ as_paths (take i paths) → i < length paths
    → more ≡ texts ++ as_path (get_or paths i d) ∷ [] → more ≡ as_paths (take (i + 1) paths)
paths-more paths i d texts more t lt m =
    m ∙ ap (λ (ts : List LineText). ts ++ as_path (get_or paths i d) ∷ []) t
    ∙ sym (ap as_paths (take_more paths i d lt) ∙ map-append as_path (take i paths) (get_or paths i d ∷ []))

pub paths-over : (paths : List TextPlace) (i : ℕ) (texts : List LineText) → texts ≡ as_paths (take i paths) → length paths ≤ i → texts ≡ as_paths paths
paths-over paths i texts t le = t ∙ ap as_paths (take_all i paths le)

-- version 5
pub new-read : (g : LineSource) (h : LineHeader) (table : List ℕ) (dirs files : List FilePlace) (texts : List TextPlace) (place behind : ℕ) → h.version ≡ 5
    → entries_at g h table h.lists ≡ Ok (dirs, place) → entries_at g h table place ≡ Ok (files, behind) → texts ≡ texts_of dirs
    → HasLists g h table texts files behind
new-read g h table dirs files texts place behind five d f t = rw t (new_lists dirs files place behind five d f)

pub new-dirs-fault : (g : LineSource) (h : LineHeader) (table : List ℕ) (f : Fault) → h.version ≡ 5
    → Blames (λ r. entries_at g h table h.lists ≡ Err r) f → Blames (ListsFail g h table) f
new-dirs-fault g h table NoMemory five b = tt
new-dirs-fault g h table (Refused r) five b = new_dirs five b

pub new-files-fault : (g : LineSource) (h : LineHeader) (table : List ℕ) (dirs : List FilePlace) (place : ℕ) (f : Fault) → h.version ≡ 5
    → entries_at g h table h.lists ≡ Ok (dirs, place) → Blames (λ r. entries_at g h table place ≡ Err r) f → Blames (ListsFail g h table) f
new-files-fault g h table dirs place NoMemory five d b = tt
new-files-fault g h table dirs place (Refused r) five d b = new_files dirs place five d b

pub ruleset new_laws = (new-read, texts-new, new-dirs-fault, new-files-fault)

-- before version 5
pub old-read : (v : View) (section : ℕ) (h : LineHeader) (table : List ℕ) (dirs : List TextPlace) (files : List FilePlace) (place behind : ℕ) → h.version ≢ 5
    → ComesTo (next_dir section table) ([], h.lists) (dirs, place) → ComesTo (next_file section table) ([], place) (files, behind)
    → HasLists (view_source v section) h table dirs files behind
old-read v section h table dirs files place behind other d f = old_lists dirs files place behind other d f

pub old-dirs-fault : (v : View) (section : ℕ) (h : LineHeader) (table : List ℕ) (f : Fault) → h.version ≢ 5
    → Blames (Since (bad_table section h) (Breaks (next_dir section table) ([], h.lists))) f → Blames (ListsFail (view_source v section) h table) f
old-dirs-fault v section h table NoMemory other b = tt
old-dirs-fault v section h table (Refused r) other b = rw b.same (old_dirs other b.why)

pub old-files-fault : (v : View) (section : ℕ) (h : LineHeader) (table : List ℕ) (dirs : List TextPlace) (place : ℕ) (f : Fault) → h.version ≢ 5
    → ComesTo (next_dir section table) ([], h.lists) (dirs, place) → Blames (Since (bad_table section h) (Breaks (next_file section table) ([], place))) f
    → Blames (ListsFail (view_source v section) h table) f
old-files-fault v section h table dirs place NoMemory other d b = tt
old-files-fault v section h table dirs place (Refused r) other d b = rw b.same (old_files dirs place other d b.why)

pub old-texts : (g : LineSource) (h : LineHeader) (table : List ℕ) (dirs paths : List TextPlace) (files : List FilePlace) (texts : List LineText) → h.version ≢ 5
    → paths ≡ dirs ++ texts_of files → texts ≡ as_paths paths → texts ≡ texts_by g h table (dirs ++ texts_of files)
old-texts g h table dirs paths files texts other p t =
    let test : (h.version == 5) ≡ false = ne_eqb h.version 5 other in
    t ∙ ap as_paths p
    ∙ sym (ap (λ (b : Bool). if b then list_texts g h table h.lists ++ list_texts g h table (list_end g h table h.lists) else as_paths (dirs ++ texts_of files)) test)

pub ruleset old_laws = (old-read, old-texts, old-dirs-fault, old-files-fault)

-- lists are one thing, and what refuses them excludes them
some-pair : {X : Type 0} (a b : X) (p q : ℕ) → ◌≡◌ {A = X × ℕ} (a, p) (b, q) → p ≡ q
some-pair {X} a b p q e = ap (λ (x : X × ℕ). x.1) e

read-once : {E : Type 0} (a b : List FilePlace) (p q : ℕ) (x : Result (List FilePlace × ℕ) E) → x ≡ Ok (a, p) → x ≡ Ok (b, q) → ◌≡◌ {A = List FilePlace × ℕ} (a, p) (b, q)
read-once {E} a b p q x e f = ap (read_or (a, p)) (sym e ∙ f)
  where
    read_or : List FilePlace × ℕ → Result (List FilePlace × ℕ) E → List FilePlace × ℕ
    read_or d (Ok y) = y
    read_or d (Err r) = d

pub lists-end : (g : LineSource) (h : LineHeader) (table : List ℕ) (dirs es : List TextPlace) (files fs : List FilePlace) (p q : ℕ)
    → HasLists g h table dirs files p → HasLists g h table es fs q → p ≡ q
lists-end g h table dirs es files fs p q (old_lists a1 a2 m n other d f) (old_lists b1 b2 k l o e u) =
    let place : m ≡ k = some-pair a1 b1 m k (comes-one (next_dir g.number table) ([], h.lists) (a1, m) (b1, k) d e) in
    some-pair a2 b2 n l (comes-one (next_file g.number table) ([], k) (a2, n) (b2, l)
    (subst (λ (x : ℕ). ComesTo (next_file g.number table) ([], x) (a2, n)) place f) u)
lists-end g h table dirs es files fs p q (old_lists a1 a2 m n other d f) (new_lists b1 b2 k l five e u) = absurd (other five)
lists-end g h table dirs es files fs p q (new_lists a1 a2 m n five d f) (old_lists b1 b2 k l other e u) = absurd (other five)
lists-end g h table dirs es files fs p q (new_lists a1 a2 m n five d f) (new_lists b1 b2 k l o e u) =
    let place : m ≡ k = some-pair a1 b1 m k (read-once a1 b1 m k (entries_at g h table h.lists) d e) in
    some-pair a2 b2 n l (read-once a2 b2 n l (entries_at g h table k)
    (subst (λ (x : ℕ). entries_at g h table x ≡ Ok (a2, n)) place f) u)

ok-err : {Y E : Type 0} (y : Y) (r : E) (x : Result Y E) → x ≡ Ok y → x ≡ Err r → ⊥
ok-err y r x e f = by_kind (sym e ∙ f)
  where
    by_kind : Ok y ≡ Err r → ⊥
    by_kind g = cc

pub lists-exclude : (g : LineSource) (h : LineHeader) (table : List ℕ) (dirs : List TextPlace) (files : List FilePlace) (p : ℕ) (r : Refusal)
    → HasLists g h table dirs files p → ListsFail g h table r → ⊥
lists-exclude g h table dirs files p r (old_lists a1 a2 m n other d f) (old_dirs o b) = comes-whole (next_dir g.number table) ([], h.lists) (a1, m) d b
lists-exclude g h table dirs files p r (old_lists a1 a2 m n other d f) (old_files b1 k o e b) =
    let place : m ≡ k = some-pair a1 b1 m k (comes-one (next_dir g.number table) ([], h.lists) (a1, m) (b1, k) d e) in
    comes-whole (next_file g.number table) ([], k) (a2, n) (subst (λ (x : ℕ). ComesTo (next_file g.number table) ([], x) (a2, n)) place f) b
lists-exclude g h table dirs files p r (old_lists a1 a2 m n other d f) (new_dirs five b) = other five
lists-exclude g h table dirs files p r (old_lists a1 a2 m n other d f) (new_files b1 k five e b) = other five
lists-exclude g h table dirs files p r (new_lists a1 a2 m n five d f) (old_dirs other b) = other five
lists-exclude g h table dirs files p r (new_lists a1 a2 m n five d f) (old_files b1 k other e b) = other five
lists-exclude g h table dirs files p r (new_lists a1 a2 m n five d f) (new_dirs o b) = ok-err (a1, m) r (entries_at g h table h.lists) d b
lists-exclude g h table dirs files p r (new_lists a1 a2 m n five d f) (new_files b1 k o e b) =
    let place : m ≡ k = some-pair a1 b1 m k (read-once a1 b1 m k (entries_at g h table h.lists) d e) in
    ok-err (a2, n) r (entries_at g h table k) (subst (λ (x : ℕ). entries_at g h table x ≡ Ok (a2, n)) place f) b

-- the whole table
pub header-once : (a b : LineHeader) (x : Option LineHeader) → x ≡ Some a → x ≡ Some b → a ≡ b
header-once a b x e f = ap (header_or a) (sym e ∙ f)
  where
    header_or : LineHeader → Option LineHeader → LineHeader
    header_or d None = d
    header_or d (Some h) = h

none-some : (a : LineHeader) (x : Option LineHeader) → x ≡ None → x ≡ Some a → ⊥
none-some a x e f = by_kind (sym e ∙ f)
  where
    by_kind : None ≡ Some a → ⊥
    by_kind g = cc

pub table-excludes : (g : LineSource) (start : ℕ) (t : LineTable) (r : Refusal) → IsLineTable g start t → LineFails g start r → ⊥
table-excludes g start t r is (no_header e) = none-some is.header (line_header g.order g.bytes start) e is.header_is
table-excludes g start t r is (lists h e f) =
    let same : h ≡ is.header = header-once h is.header (line_header g.order g.bytes start) e is.header_is in
    lists-exclude g is.header (table_bytes g is.header) is.dirs is.files is.behind r is.lists
    (subst (λ (x : LineHeader). ListsFail g x (table_bytes g x) r) same f)
table-excludes g start t r is (passes h dirs files behind e l far) =
    let same : h ≡ is.header = header-once h is.header (line_header g.order g.bytes start) e is.header_is in
    let ends : behind ≡ is.behind = lists-end g is.header (table_bytes g is.header) dirs is.dirs files is.files behind is.behind
    (subst (λ (x : LineHeader). HasLists g x (table_bytes g x) dirs files behind) same l) is.lists in
    let place : h.program ≡ is.header.program = ap (λ (x : LineHeader). x.program) same in
    let before = is.before in
    absurd (omega (arith, far, ends, place, before))
table-excludes g start t r is (program h dirs files behind e l b) =
    let same : h ≡ is.header = header-once h is.header (line_header g.order g.bytes start) e is.header_is in
    comes-whole (next_opcode g.number is.header (table_bytes g is.header)) ([], is.header.program) is.defined is.program
    (subst (λ (x : LineHeader). Breaks (next_opcode g.number x (table_bytes g x)) ([], x.program)) same b)

-- what was read
pub table-read : (v : View) (section start behind : ℕ) (order : Order) (bytes table : List ℕ) (h : LineHeader) (dirs : List TextPlace) (files defined : List FilePlace)
    (texts : List LineText) (t : LineTable) → order ≡ v.order → bytes ≡ section_bytes v section → Some h ≡ line_header order bytes start → table ≡ take h.end bytes
    → HasLists (view_source v section) h table dirs files behind → texts ≡ texts_by (view_source v section) h table (dirs ++ texts_of files) → behind ≤ h.program
    → ComesTo (next_opcode section h table) ([], h.program) defined → t ≡ table_made section h dirs files defined texts → IsLineTable (view_source v section) start t
table-read v section start behind order bytes table h dirs files defined texts t o b e tb l x le p is =
    let same : table ≡ table_bytes (view_source v section) h = tb ∙ ap (take h.end) b in
    record {
      header = h;
      dirs = dirs;
      files = files;
      defined = defined;
      behind = behind;
      is =
          is ∙ ap (table_made section h dirs files defined)
          (x ∙ ap (λ (bs : List ℕ). texts_by (view_source v section) h bs (dirs ++ texts_of files)) same);
      header_is = sym (e ∙ ap (λ (x : Order). line_header x bytes start) o ∙ ap (λ (bs : List ℕ). line_header v.order bs start) b);
      lists = subst (λ (x : List ℕ). HasLists (view_source v section) h x dirs files behind) same l;
      before = le;
      program = subst (λ (x : List ℕ). ComesTo (next_opcode section h x) ([], h.program) defined) same p;
    }

header-here : (v : View) (section start : ℕ) (order : Order) (bytes : List ℕ) (x : Option LineHeader) → order ≡ v.order → bytes ≡ section_bytes v section
    → x ≡ line_header order bytes start → line_header v.order (section_bytes v section) start ≡ x
header-here v section start order bytes x o b e =
    sym (e ∙ ap (λ (y : Order). line_header y bytes start) o ∙ ap (λ (bs : List ℕ). line_header v.order bs start) b)

pub header-refused : (v : View) (section start : ℕ) (order : Order) (bytes : List ℕ) → order ≡ v.order → bytes ≡ section_bytes v section
    → None ≡ line_header order bytes start → LineFails (view_source v section) start (at Line section start)
header-refused v section start order bytes o b e = no_header (header-here v section start order bytes None o b e)

pub lists-refused : (v : View) (section start : ℕ) (order : Order) (bytes table : List ℕ) (h : LineHeader) (f : Fault) → order ≡ v.order → bytes ≡ section_bytes v section
    → Some h ≡ line_header order bytes start → table ≡ take h.end bytes → Blames (ListsFail (view_source v section) h table) f → Blames (LineFails (view_source v section) start) f
lists-refused v section start order bytes table h NoMemory o b e t l = tt
lists-refused v section start order bytes table h (Refused r) o b e t l =
    let same : table ≡ table_bytes (view_source v section) h = t ∙ ap (take h.end) b in
    lists h (header-here v section start order bytes (Some h) o b e) (subst (λ (x : List ℕ). ListsFail (view_source v section) h x r) same l)

pub lists-pass : (v : View) (section start behind : ℕ) (order : Order) (bytes table : List ℕ) (h : LineHeader) (dirs : List TextPlace) (files : List FilePlace)
    → order ≡ v.order → bytes ≡ section_bytes v section → Some h ≡ line_header order bytes start → table ≡ take h.end bytes
    → HasLists (view_source v section) h table dirs files behind → h.program < behind → LineFails (view_source v section) start (at Line section start)
lists-pass v section start behind order bytes table h dirs files o b e t l far =
    let same : table ≡ table_bytes (view_source v section) h = t ∙ ap (take h.end) b in
    passes h dirs files behind (header-here v section start order bytes (Some h) o b e) (subst (λ (x : List ℕ). HasLists (view_source v section) h x dirs files behind) same l) far

pub program-refused : (v : View) (section start behind : ℕ) (order : Order) (bytes table : List ℕ) (h : LineHeader) (dirs : List TextPlace) (files : List FilePlace) (refusal : Refusal) (f : Fault)
    → order ≡ v.order → bytes ≡ section_bytes v section → Some h ≡ line_header order bytes start → table ≡ take h.end bytes
    → HasLists (view_source v section) h table dirs files behind → refusal ≡ at Line section start
    → Blames (Since refusal (Breaks (next_opcode section h table) ([], h.program))) f → Blames (LineFails (view_source v section) start) f
program-refused v section start behind order bytes table h dirs files refusal NoMemory o b e t l is p = tt
program-refused v section start behind order bytes table h dirs files refusal (Refused r) o b e t l is p =
    let same : table ≡ table_bytes (view_source v section) h = t ∙ ap (take h.end) b in
    subst (λ (x : Refusal). LineFails (view_source v section) start x) (sym (p.same ∙ is))
    (program h dirs files behind (header-here v section start order bytes (Some h) o b e) (subst (λ (x : List ℕ). HasLists (view_source v section) h x dirs files behind) same l)
    (subst (λ (x : List ℕ). Breaks (next_opcode section h x) ([], h.program)) same p.why))

pub ruleset table_laws = (table-read, header-refused, lists-refused, lists-pass, program-refused)
