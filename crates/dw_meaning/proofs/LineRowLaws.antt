-- Line tables that can be read and written exclude the refusals of line tables, and of values that say where they start.
use Rattle.std.proofs.Common.{true, false, ◌≡◌, ℕ, ◌<◌, List, [], ◌∷◌, ◌++◌, length, take, Option, Some, None, sym, ap, ◌∙◌, subst, arith}
use Rattle.std.specs.Prelude.{Result, Ok, Err}
use Rattle.dw_base.specs.DebugData.{DebugData, line_source}
use Rattle.dw_base.specs.LineEntries.{entries_at}
use Rattle.dw_base.specs.LineFails.{ListsFail, old_dirs, old_files, new_dirs, new_files, LineFails, no_header, lists, passes, program}
use Rattle.dw_base.specs.LinePrograms.{opcode_at, next_opcode}
use Rattle.dw_base.specs.LineReadings.{AreTables, LineReading, ReadsTable, TablesTo, table_read}
use Rattle.dw_base.specs.LineSources.{LineSource}
use Rattle.dw_base.specs.LineTables.{table_bytes, HasLists, old_lists, new_lists}
use Rattle.dw_base.specs.LineWriteFails.{changes_path, changes_file, ProgramFails, defined, DefinedStay}
use Rattle.dw_base.specs.OldLineLists.{next_dir, next_file}
use Rattle.dw_base.specs.Paths.{PathMap}
use Rattle.dw_base.specs.Walks.{Step, goes, ends, Walks, no_step, one_more, ComesTo, Breaks}
use Rattle.dw_base.specs.WrittenLines.{bytes_at}
use Rattle.dw_base.specs.TextWriteFails.{CanWriteTexts, TextWriteFails, text_header, text_offset, text_program, text_table, wide_text}
use Rattle.dw_base.specs.declared.fault.Refusal.{Refusal}
use Rattle.dw_base.specs.declared.line_tables.FilePlace.{FilePlace}
use Rattle.dw_base.specs.declared.line_tables.LineHeader.{LineHeader}
use Rattle.dw_base.specs.declared.line_tables.LineText.{LineText}
use Rattle.dw_base.specs.declared.line_tables.Opcode.{Opcode}
use Rattle.dw_base.specs.declared.line_tables.TextPlace.{TextPlace}
use Rattle.dw_meaning.specs.DataFails.{LinesFail, line_table as line_table_row}
use Rattle.dw_meaning.proofs.LineHeaderLaws.{header-is}
use Rattle.dw_meaning.proofs.LineOneLaws.{comes-one, lists-one, table-one, tables-behind}
use Rattle.dw_meaning.proofs.LineReadLaws.{some-same}
use Rattle.dw_meaning.proofs.LineTableLaws.{header-places}
use Rattle.dw_meaning.proofs.LineWalkLaws.{Runs, at_end, further, runs-of, file_first, Opcodes, program_over, one_opcode, opcodes-read}
use Rattle.std.proofs.lemmas.Bool.{lt-ltb}

-- a walk that breaks comes to nothing
data Broken {S X : Type 0} (step : S → Option (Step S X)) : S → Type 0 where
  broken_here : (s : S) → step s ≡ None → Broken step s
  broken_further : (s t : S) → step s ≡ Some (goes t) → Broken step t → Broken step s

broken-behind : {S X : Type 0} (step : S → Option (Step S X)) (s t : S) → Walks step s t → Broken step t → Broken step s
broken-behind step s t no_step b = b
broken-behind step s t (one_more a c w e) b = broken-behind step s a w (broken_further a c e b)

some-none : {X : Type 0} (x : X) → ◌≡◌ {A = Option X} (Some x) None → ⊥
some-none x e = cc

goes-ends : {S X : Type 0} (s : S) (x : X) → ◌≡◌ {A = Step S X} (goes s) (ends x) → ⊥
goes-ends s x e = cc

goes-one : {S X : Type 0} (a b : S) → ◌≡◌ {A = Step S X} (goes a) (goes b) → a ≡ b
goes-one a b e = cc

runs-whole : {S X : Type 0} (step : S → Option (Step S X)) (s : S) (x : X) → Runs step s x → Broken step s → ⊥
runs-whole step s x (at_end s1 x1 e) (broken_here s2 n) = some-none (ends x) (sym e ∙ n)
runs-whole step s x (at_end s1 x1 e) (broken_further s2 t f b) = goes-ends t x (some-same (goes t) (ends x) (sym f ∙ e))
runs-whole step s x (further s1 t x1 e r) (broken_here s2 n) = some-none (goes t) (sym e ∙ n)
runs-whole step s x (further s1 t x1 e r) (broken_further s2 u f b) =
    runs-whole step t x r (subst (Broken step) (goes-one u t (some-same (goes u) (goes t) (sym f ∙ e))) b)

comes-whole : {S X : Type 0} (step : S → Option (Step S X)) (s : S) (x : X) → ComesTo step s x → Breaks step s → ⊥
comes-whole step s x c b = runs-whole step s x (runs-of step s x c) (broken-behind step s b.last b.walks (broken_here b.last b.none))

-- a walk goes on from each state that it leads to
runs-next : {S X : Type 0} (step : S → Option (Step S X)) (s t : S) (x : X) → step s ≡ Some (goes t) → Runs step s x → Runs step t x
runs-next {S} {X} step s t x e (at_end s1 x1 f) = absurd (goes-ends t x (some-same (goes t) (ends x) (sym e ∙ f)))
runs-next {S} {X} step s t x e (further s1 u x1 f r) = subst (λ (a : S). Runs step a x) (goes-one u t (some-same (goes u) (goes t) (sym f ∙ e))) r

runs-from : {S X : Type 0} (step : S → Option (Step S X)) (s t : S) (x : X) → Walks step s t → Runs step s x → Runs step t x
runs-from step s t x no_step r = r
runs-from step s t x (one_more a b w e) r = runs-next step a b x e (runs-from step s a x w r)

-- lists that were read exclude what refuses them
ok-err : {Y E : Type 0} (y : Y) (r : E) (x : Result Y E) → x ≡ Ok y → x ≡ Err r → ⊥
ok-err y r x e f = by_kind (sym e ∙ f)
  where
    by_kind : Ok y ≡ Err r → ⊥
    by_kind g = cc

ok-place : (a b : List FilePlace × ℕ) → ◌≡◌ {A = Result (List FilePlace × ℕ) Refusal} (Ok a) (Ok b) → a.1 ≡ b.1
ok-place a b e = cc

lists-exclude : (g : LineSource) (h : LineHeader) (table : List ℕ) (dirs : List TextPlace) (files : List FilePlace) (p : ℕ) (r : Refusal)
    → HasLists g h table dirs files p → ListsFail g h table r → ⊥
lists-exclude g h table dirs files p r (old_lists a1 a2 m n other d f) (old_dirs o b) = comes-whole (next_dir g.number table) ([], h.lists) (a1, m) d b
lists-exclude g h table dirs files p r (old_lists a1 a2 m n other d f) (old_files b1 k o e b) =
    let place : m ≡ k = ap (λ (x : List TextPlace × ℕ). x.1) (comes-one (next_dir g.number table) ([], h.lists) (a1, m) (b1, k) d e) in
    comes-whole (next_file g.number table) ([], k) (a2, n) (subst (λ (x : ℕ). ComesTo (next_file g.number table) ([], x) (a2, n)) place f) b
lists-exclude g h table dirs files p r (old_lists a1 a2 m n other d f) (new_dirs five b) = other five
lists-exclude g h table dirs files p r (old_lists a1 a2 m n other d f) (new_files b1 k five e b) = other five
lists-exclude g h table dirs files p r (new_lists a1 a2 m n five d f) (old_dirs other b) = other five
lists-exclude g h table dirs files p r (new_lists a1 a2 m n five d f) (old_files b1 k other e b) = other five
lists-exclude g h table dirs files p r (new_lists a1 a2 m n five d f) (new_dirs o b) = ok-err (a1, m) r (entries_at g h table h.lists) d b
lists-exclude g h table dirs files p r (new_lists a1 a2 m n five d f) (new_files b1 k o e b) =
    let place : m ≡ k = ok-place (a1, m) (b1, k) (sym d ∙ e) in
    ok-err (a2, n) r (entries_at g h table k) (subst (λ (x : ℕ). entries_at g h table x ≡ Ok (a2, n)) place f) b

-- and so does a table
table-excludes : (g : LineSource) (start : ℕ) (t : LineReading) (r : Refusal) → ReadsTable g start t → LineFails g start r → ⊥
table-excludes g start t r is (no_header e) = some-none t.header (sym is.header ∙ e)
table-excludes g start t r is (lists h e f) =
    let same : h ≡ t.header = some-same h t.header (sym e ∙ is.header) in
    lists-exclude g t.header (table_bytes g t.header) t.dirs t.files t.behind r is.lists (subst (λ (x : LineHeader). ListsFail g x (table_bytes g x) r) same f)
table-excludes g start t r is (passes h dirs files behind e l far) =
    let same : h ≡ t.header = some-same h t.header (sym e ∙ is.header) in
    let ends : behind ≡ t.behind =
    (lists-one g t.header (table_bytes g t.header) dirs t.dirs files t.files behind t.behind (subst (λ (x : LineHeader). HasLists g x (table_bytes g x) dirs files behind) same l) is.lists).behind in
    let place : h.program ≡ t.header.program = ap (λ (x : LineHeader). x.program) same in
    let before = is.before in
    absurd (omega (arith, far, ends, place, before))
table-excludes g start t r is (program h dirs files behind e l b) =
    let same : h ≡ t.header = some-same h t.header (sym e ∙ is.header) in
    comes-whole (next_opcode g.number t.header (table_bytes g t.header)) ([], t.header.program) t.defined is.program
    (subst (λ (x : LineHeader). Breaks (next_opcode g.number x (table_bytes g x)) ([], x.program)) same b)

-- where tables that fill their section and others stand from one place on, one of the first begins behind the others
begins-behind : (g : LineSource) (p e start : ℕ) (all before : List LineReading) (r : Refusal) → TablesTo g p all e → TablesTo g p before start → start < e → LineFails g start r → ⊥
begins-behind g p e start [] [] r a b lt f = absurd (omega (arith, a, b, lt))
begins-behind g p e start [] (y ∷ ys) r a b lt f =
    let far = tables-behind g p start (y ∷ ys) b in
    absurd (omega (arith, a, far, lt))
begins-behind g p e start (x ∷ xs) [] r a b lt f = table-excludes g start x r (subst (λ (i : ℕ). ReadsTable g i x) b a.0) f
begins-behind g p e start (x ∷ xs) (y ∷ ys) r a b lt f =
    let same : y ≡ x = table-one g p y x b.0 a.0 in
    begins-behind g x.header.end e start xs ys r a.1 (subst (λ (t : LineReading). TablesTo g t.header.end ys start) same b.1) lt f

pub lines-exclude : (d : DebugData) (tables : List LineReading) (r : Refusal) → AreTables (line_source d) tables → LinesFail d r → ⊥
lines-exclude d tables r a (line_table_row before start reads lt f) =
    begins-behind (line_source d) 0 (length (line_source d).bytes) start tables before r a reads lt f

-- a defined file that stays
stays-among : (m : PathMap) (table : List ℕ) (before behind : List FilePlace) (f : FilePlace) → DefinedStay m table (before ++ f ∷ behind)
    → changes_path m (bytes_at table f.text.at f.text.len) ≡ false
stays-among m table [] behind f h = h.0
stays-among m table (x ∷ xs) behind f h = stays-among m table xs behind f h.1

first-opcode : (section : ℕ) (h : LineHeader) (table : List ℕ) (m : PathMap) (p : ℕ) (o : Opcode) (before files : List FilePlace) → Opcodes section h table p files
    → p < length table → opcode_at section h table p ≡ Some o → DefinedStay m table (before ++ files) → changes_file m table o.file ≡ true → ⊥
first-opcode section h table m p o before files (program_over p1 over) lt at stay changes = clash (sym (lt-ltb p (length table) lt) ∙ over)
  where
    clash : true ≡ false → ⊥
    clash e = cc
first-opcode section h table m p o before files (one_opcode p1 u fs here is rest) lt at stay changes =
    let same : u ≡ o = some-same u o (sym is ∙ at) in
    by_file u.file stay (subst (λ (x : Opcode). changes_file m table x.file ≡ true) (sym same) changes)
  where
    clash : false ≡ true → ⊥
    clash e = cc

    by_file : (f : Option FilePlace) → DefinedStay m table (before ++ file_first f fs) → changes_file m table f ≡ true → ⊥
    by_file None s c = clash c
    by_file (Some f) s c = clash (sym (stays-among m table before fs f s) ∙ c)

program-excludes : (g : LineSource) (m : PathMap) (t : LineReading) (r : Refusal) → ComesTo (next_opcode g.number t.header (table_bytes g t.header)) ([], t.header.program) t.defined
    → DefinedStay m (take t.header.end g.bytes) t.defined → ProgramFails m g.number t.header (table_bytes g t.header) r → ⊥
program-excludes g m t r comes stay (defined files place o walks lt at changes) =
    let run : Runs (next_opcode g.number t.header (table_bytes g t.header)) (files, place) t.defined =
    runs-from (next_opcode g.number t.header (table_bytes g t.header)) ([], t.header.program) (files, place) t.defined walks
    (runs-of (next_opcode g.number t.header (table_bytes g t.header)) ([], t.header.program) t.defined comes) in
    let read = opcodes-read g.number t.header (table_bytes g t.header) (files, place) t.defined run in
    first-opcode g.number t.header (table_bytes g t.header) m place o files read.files read.are lt at (subst (DefinedStay m (table_bytes g t.header)) read.all stay) changes

-- a table that can be written
pub write-excludes : (g : LineSource) (m : PathMap) (places : LineText → Option ℕ) (start : ℕ) (t : LineReading) (r : Refusal) → ReadsTable g start t
    → CanWriteTexts g m places (table_read g t) → TextWriteFails g m places (table_read g t) r → ⊥
write-excludes g m places start t r reads can (text_table far) =
    let below = can.table in
    omega (arith, below, far)
write-excludes g m places start t r reads can (text_header far) =
    let below = can.header in
    omega (arith, below, far)
write-excludes g m places start t r reads can (text_offset (wide_text x place here apart is far)) =
    let below = can.offsets x place here apart is in
    omega (arith, below, far)
write-excludes g m places start t r reads can (text_program h e f) =
    let begins : t.header.start ≡ start = (header-places g start t.header (header-is g.order g.bytes start t.header reads.header)).0 in
    let same : h ≡ t.header = some-same h t.header (sym e ∙ ap (Rattle.dw_base.specs.LineHeaders.line_header g.order g.bytes) begins ∙ reads.header) in
    program-excludes g m t r reads.program can.defined (subst (λ (x : LineHeader). ProgramFails m g.number x (table_bytes g x) r) same f)

-- one of tables that fill a section
pub record TableAmong (g : LineSource) (t : LineReading) : Type 0 where
  pub start : ℕ
  pub reads : ReadsTable g start t

pub table-among : (g : LineSource) (p e : ℕ) (before behind : List LineReading) (t : LineReading) → TablesTo g p (before ++ t ∷ behind) e → TableAmong g t
table-among g p e [] behind t h = record { start = p; reads = h.0 }
table-among g p e (x ∷ xs) behind t h = table-among g x.header.end e xs behind t h.1
