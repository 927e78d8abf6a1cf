-- The walks of a line table, step after step from their start: its directories and files, and the opcodes of its program.
use Rattle.std.proofs.Common.{Bool, true, false, ◌≡◌, ◌≢◌, ℕ, zero, suc, ◌+◌, ◌==◌, List, [], ◌∷◌, ◌++◌, length, Option, Some, None, refl, sym, ap, ◌∙◌, subst, if◌then◌else◌, append_assoc}
use Rattle.std.specs.Prelude.{nat_lt, option_map, Result, Ok, Err}
use Rattle.std.proofs.lemmas.Bool.{eqb-true, eqb-false, eq-eqb, ne_eqb}
use Rattle.std.proofs.lemmas.List.{append-nil}
use Rattle.dw_base.specs.LineEntries.{result_with, entry_at, next_entry}
use Rattle.dw_base.specs.LinePrograms.{with_file, opcode_at, next_opcode}
use Rattle.dw_base.specs.LineSources.{LineSource}
use Rattle.dw_base.specs.LineTexts.{inline_text, file_numbers}
use Rattle.dw_base.specs.OldLineLists.{dir_step, next_dir, file_step, next_file}
use Rattle.dw_base.specs.Walks.{Step, goes, ends, Walks, no_step, one_more, ComesTo, or_refused, fallible_steps}
use Rattle.dw_base.specs.declared.fault.Refusal.{Refusal}
use Rattle.dw_base.specs.declared.line_tables.FilePlace.{FilePlace}
use Rattle.dw_base.specs.declared.line_tables.LineHeader.{LineHeader}
use Rattle.dw_base.specs.declared.line_tables.Opcode.{Opcode}
use Rattle.dw_base.specs.declared.line_tables.TextPlace.{TextPlace}
use Rattle.dw_base.specs.declared.values.Spec.{Spec}
use Rattle.dw_meaning.proofs.LineReadLaws.{bound, made, some-same}

-- a walk from its start to what it comes to
pub data Runs {S X : Type 0} (step : S → Option (Step S X)) : S → X → Type 0 where
  at_end : (s : S) (x : X) → step s ≡ Some (ends x) → Runs step s x
  further : (s t : S) (x : X) → step s ≡ Some (goes t) → Runs step t x → Runs step s x

runs-behind : {S X : Type 0} (step : S → Option (Step S X)) (s t : S) (x : X) → Walks step s t → Runs step t x → Runs step s x
runs-behind step s t x no_step r = r
runs-behind step s t x (one_more a b w e) r = runs-behind step s a x w (further a b x e r)

pub runs-of : {S X : Type 0} (step : S → Option (Step S X)) (s : S) (x : X) → ComesTo step s x → Runs step s x
runs-of step s x c = runs-behind step s c.last x c.walks (at_end c.last x c.over)

walks-front : {S X : Type 0} (step : S → Option (Step S X)) (s t u : S) → step s ≡ Some (goes t) → Walks step t u → Walks step s u
walks-front step s t u e no_step = one_more s t no_step e
walks-front step s t u e (one_more a b w f) = one_more a b (walks-front step s t a e w) f

pub comes-of : {S X : Type 0} (step : S → Option (Step S X)) (s : S) (x : X) → Runs step s x → ComesTo step s x
comes-of step s x (at_end a y e) = record { last = s; walks = no_step; over = e }
comes-of step s x (further a t y e r) =
    let c = comes-of step t x r in
    record { last = c.last; walks = walks-front step s t c.last e c.walks; over = c.over }

-- directories before version 5 from a place on, and the place behind them
abbrev pub OldDirs : ℕ → List ℕ → ℕ → List TextPlace → ℕ → Type 0
OldDirs section table p [] e = (t : TextPlace) × (inline_text section table p ≡ Some t) × (t.len ≡ 0) × (e ≡ p + 1)
OldDirs section table p (t ∷ ts) e = (inline_text section table p ≡ Some t) × (t.len ≢ 0) × OldDirs section table (p + t.len + 1) ts e

-- files before version 5
pub record OldFile (section : ℕ) (table : List ℕ) (p : ℕ) (f : FilePlace) : Type 0 where
  pub text : inline_text section table p ≡ Some f.text
  pub some : f.text.len ≢ 0
  pub next : ℕ
  pub numbers : file_numbers table (p + f.text.len + 1) ≡ Some (f.dir, next)

abbrev pub OldFiles : ℕ → List ℕ → ℕ → List FilePlace → ℕ → Type 0
OldFiles section table p [] e = (t : TextPlace) × (inline_text section table p ≡ Some t) × (t.len ≡ 0) × (e ≡ p + 1)
OldFiles section table p (f ∷ fs) e = (one : OldFile section table p f) × OldFiles section table one.next fs e

-- entries of a format
pub record NewFile (g : LineSource) (h : LineHeader) (table : List ℕ) (specs : List Spec) (p : ℕ) (f : FilePlace) : Type 0 where
  pub next : ℕ
  pub entry : entry_at g h table specs p ≡ Ok (f, next)

abbrev pub NewFiles : LineSource → LineHeader → List ℕ → List Spec → ℕ → List FilePlace → ℕ → Type 0
NewFiles g h table specs p [] e = p ≡ e
NewFiles g h table specs p (f ∷ fs) e = (one : NewFile g h table specs p f) × NewFiles g h table specs one.next fs e

-- the opcodes of a program from a place on, and the files that they define
abbrev pub file_first : Option FilePlace → List FilePlace → List FilePlace
file_first None fs = fs
file_first (Some f) fs = f ∷ fs

pub data Opcodes (section : ℕ) (h : LineHeader) (table : List ℕ) : ℕ → List FilePlace → Type 0 where
  program_over : (p : ℕ) → nat_lt p (length table) ≡ false → Opcodes section h table p []
  one_opcode : (p : ℕ) (o : Opcode) (fs : List FilePlace) → nat_lt p (length table) ≡ true → opcode_at section h table p ≡ Some o
      → Opcodes section h table o.next fs → Opcodes section h table p (file_first o.file fs)

-- what a step of directories is
ends-same : {S X : Type 0} (x y : X) → ◌≡◌ {A = Step S X} (ends x) (ends y) → x ≡ y
ends-same {S} {X} x y e = ap (ended x) e
  where
    ended : X → Step S X → X
    ended d (ends z) = z
    ended d (goes s) = d

goes-same : {S X : Type 0} (s t : S) → ◌≡◌ {A = Step S X} (goes s) (goes t) → s ≡ t
goes-same {S} {X} s t e = ap (went s) e
  where
    went : S → Step S X → S
    went d (ends z) = d
    went d (goes u) = u

goes-ends : {S X : Type 0} (s : S) (x : X) → ◌≡◌ {A = Step S X} (goes s) (ends x) → ⊥
goes-ends s x e = cc

ends-goes : {S X : Type 0} (s : S) (x : X) → ◌≡◌ {A = Step S X} (ends x) (goes s) → ⊥
ends-goes s x e = cc

abbrev dir_by : List TextPlace × ℕ → TextPlace → Bool → Step (List TextPlace × ℕ) (List TextPlace × ℕ)
dir_by s t b = if b then ends (s.0, s.1 + 1) else goes (s.0 ++ t ∷ [], s.1 + t.len + 1)

abbrev file_by : List ℕ → List FilePlace × ℕ → TextPlace → Bool → Option (Step (List FilePlace × ℕ) (List FilePlace × ℕ))
file_by table s t b =
    if b then Some (ends (s.0, s.1 + 1))
    else option_map (λ n. goes (s.0 ++ record { text = t; dir = n.0 } ∷ [], n.1)) (file_numbers table (s.1 + t.len + 1))

abbrev file_made : List FilePlace × ℕ → TextPlace → ℕ × ℕ → Step (List FilePlace × ℕ) (List FilePlace × ℕ)
file_made s t n = goes (s.0 ++ record { text = t; dir = n.0 } ∷ [], n.1)

-- directories by a walk
pub record DirsRead (section : ℕ) (table : List ℕ) (s : List TextPlace × ℕ) (x : List TextPlace × ℕ) : Type 0 where
  pub texts : List TextPlace
  pub all : x.0 ≡ s.0 ++ texts
  pub are : OldDirs section table s.1 texts x.1

dirs-end : (section : ℕ) (table : List ℕ) (s x : List TextPlace × ℕ) (t : TextPlace) → inline_text section table s.1 ≡ Some t → dir_step s t ≡ ends x → DirsRead section table s x
dirs-end section table s x t e f = by_len (t.len == 0) refl f
  where
    by_len : (b : Bool) → (t.len == 0) ≡ b → dir_by s t b ≡ ends x → DirsRead section table s x
    by_len true is f =
        let same : ◌≡◌ {A = List TextPlace × ℕ} (s.0, s.1 + 1) x = ends-same (s.0, s.1 + 1) x f in
        record {
          texts = [];
          all = sym (ap (λ (y : List TextPlace × ℕ). y.0) same) ∙ sym (append-nil s.0);
          are = (t, e, eqb-true t.len 0 is, sym (ap (λ (y : List TextPlace × ℕ). y.1) same));
        }
    by_len false is f = absurd (goes-ends (s.0 ++ t ∷ [], s.1 + t.len + 1) x f)

dirs-more : (section : ℕ) (table : List ℕ) (s u x : List TextPlace × ℕ) (t : TextPlace) → inline_text section table s.1 ≡ Some t → dir_step s t ≡ goes u
    → DirsRead section table u x → DirsRead section table s x
dirs-more section table s u x t e f r = by_len (t.len == 0) refl f
  where
    by_len : (b : Bool) → (t.len == 0) ≡ b → dir_by s t b ≡ goes u → DirsRead section table s x
    by_len true is f = absurd (ends-goes u (s.0, s.1 + 1) f)
    by_len false is f =
        let same : ◌≡◌ {A = List TextPlace × ℕ} (s.0 ++ t ∷ [], s.1 + t.len + 1) u = goes-same (s.0 ++ t ∷ [], s.1 + t.len + 1) u f in
        record {
          texts = t ∷ r.texts;
          all = r.all ∙ ap (λ (y : List TextPlace × ℕ). y.0 ++ r.texts) (sym same) ∙ append_assoc s.0 (t ∷ []) r.texts;
          are = (e, eqb-false t.len 0 is, subst (λ (n : ℕ). OldDirs section table n r.texts x.1) (sym (ap (λ (y : List TextPlace × ℕ). y.1) same)) r.are);
        }

dirs-read : (section : ℕ) (table : List ℕ) (s x : List TextPlace × ℕ) → Runs (next_dir section table) s x → DirsRead section table s x
unfolding next_dir
dirs-read section table s x (at_end a y e) =
    let first = made (dir_step s) (inline_text section table s.1) (ends x) e in
    dirs-end section table s x first.first first.is first.same
dirs-read section table s x (further a u y e r) =
    let first = made (dir_step s) (inline_text section table s.1) (goes u) e in
    dirs-more section table s u x first.first first.is first.same (dirs-read section table u x r)

pub dirs-of : (section : ℕ) (table : List ℕ) (p e : ℕ) (dirs : List TextPlace) → ComesTo (next_dir section table) ([], p) (dirs, e) → OldDirs section table p dirs e
dirs-of section table p e dirs c =
    let r = dirs-read section table ([], p) (dirs, e) (runs-of (next_dir section table) ([], p) (dirs, e) c) in
    subst (λ (ts : List TextPlace). OldDirs section table p ts e) (sym r.all) r.are

-- and back
dirs-run : (section : ℕ) (table : List ℕ) (p e : ℕ) (before dirs : List TextPlace) → OldDirs section table p dirs e → Runs (next_dir section table) (before, p) (before ++ dirs, e)
unfolding next_dir
dirs-run section table p e before [] d =
    at_end (before, p) (before ++ [], e)
    (rw (d.1, eq-eqb d.0.len 0 d.2) (ap (λ (y : List TextPlace × ℕ). Some (ends y)) (ap (λ (ts : List TextPlace). (ts, p + 1)) (sym (append-nil before)) ∙ ap (λ (n : ℕ). (before ++ [], n)) (sym d.3))))
dirs-run section table p e before (t ∷ ts) d =
    further (before, p) (before ++ t ∷ [], p + t.len + 1) (before ++ t ∷ ts, e) (rw (d.0, ne_eqb t.len 0 d.1) refl)
    (subst (λ (us : List TextPlace). Runs (next_dir section table) (before ++ t ∷ [], p + t.len + 1) (us, e)) (append_assoc before (t ∷ []) ts)
    (dirs-run section table (p + t.len + 1) e (before ++ t ∷ []) ts d.2))

pub dirs-walk : (section : ℕ) (table : List ℕ) (p e : ℕ) (dirs : List TextPlace) → OldDirs section table p dirs e → ComesTo (next_dir section table) ([], p) (dirs, e)
dirs-walk section table p e dirs d = comes-of (next_dir section table) ([], p) (dirs, e) (dirs-run section table p e [] dirs d)

-- files by a walk
pub record FilesRead (section : ℕ) (table : List ℕ) (s : List FilePlace × ℕ) (x : List FilePlace × ℕ) : Type 0 where
  pub files : List FilePlace
  pub all : x.0 ≡ s.0 ++ files
  pub are : OldFiles section table s.1 files x.1

files-end : (section : ℕ) (table : List ℕ) (s x : List FilePlace × ℕ) (t : TextPlace) → inline_text section table s.1 ≡ Some t → file_step table s t ≡ Some (ends x)
    → FilesRead section table s x
files-end section table s x t e f = by_len (t.len == 0) refl f
  where
    by_len : (b : Bool) → (t.len == 0) ≡ b
        → file_by table s t b ≡ Some (ends x)
        → FilesRead section table s x
    by_len true is f =
        let same : ◌≡◌ {A = List FilePlace × ℕ} (s.0, s.1 + 1) x = ends-same (s.0, s.1 + 1) x (some-same _ _ f) in
        record {
          files = [];
          all = sym (ap (λ (y : List FilePlace × ℕ). y.0) same) ∙ sym (append-nil s.0);
          are = (t, e, eqb-true t.len 0 is, sym (ap (λ (y : List FilePlace × ℕ). y.1) same));
        }
    by_len false is f =
        let first = made (file_made s t) (file_numbers table (s.1 + t.len + 1)) (ends x) f in
        absurd (goes-ends (s.0 ++ record { text = t; dir = first.first.0 } ∷ [], first.first.1) x first.same)

files-more : (section : ℕ) (table : List ℕ) (s u x : List FilePlace × ℕ) (t : TextPlace) → inline_text section table s.1 ≡ Some t → file_step table s t ≡ Some (goes u)
    → FilesRead section table u x → FilesRead section table s x
files-more section table s u x t e f r = by_len (t.len == 0) refl f
  where
    by_len : (b : Bool) → (t.len == 0) ≡ b
        → file_by table s t b ≡ Some (goes u)
        → FilesRead section table s x
    by_len true is f = absurd (ends-goes u (s.0, s.1 + 1) (some-same _ _ f))
    by_len false is f =
        let first = made (file_made s t) (file_numbers table (s.1 + t.len + 1)) (goes u) f in
        let file : FilePlace = record { text = t; dir = first.first.0 } in
        let same : ◌≡◌ {A = List FilePlace × ℕ} (s.0 ++ record { text = t; dir = first.first.0 } ∷ [], first.first.1) u =
        goes-same (s.0 ++ record { text = t; dir = first.first.0 } ∷ [], first.first.1) u first.same in
        record {
          files = record { text = t; dir = first.first.0 } ∷ r.files;
          all = r.all ∙ ap (λ (y : List FilePlace × ℕ). y.0 ++ r.files) (sym same) ∙ append_assoc s.0 (record { text = t; dir = first.first.0 } ∷ []) r.files;
          are = (
            record { text = e; some = eqb-false t.len 0 is; next = first.first.1; numbers = first.is },
            subst (λ (n : ℕ). OldFiles section table n r.files x.1) (sym (ap (λ (y : List FilePlace × ℕ). y.1) same)) r.are,
          );
        }

files-read : (section : ℕ) (table : List ℕ) (s x : List FilePlace × ℕ) → Runs (next_file section table) s x → FilesRead section table s x
unfolding next_file
files-read section table s x (at_end a y e) =
    let first = bound (file_step table s) (inline_text section table s.1) (ends x) e in
    files-end section table s x first.first first.is first.rest
files-read section table s x (further a u y e r) =
    let first = bound (file_step table s) (inline_text section table s.1) (goes u) e in
    files-more section table s u x first.first first.is first.rest (files-read section table u x r)

pub files-of : (section : ℕ) (table : List ℕ) (p e : ℕ) (files : List FilePlace) → ComesTo (next_file section table) ([], p) (files, e) → OldFiles section table p files e
files-of section table p e files c =
    let r = files-read section table ([], p) (files, e) (runs-of (next_file section table) ([], p) (files, e) c) in
    subst (λ (ts : List FilePlace). OldFiles section table p ts e) (sym r.all) r.are

files-run : (section : ℕ) (table : List ℕ) (p e : ℕ) (before files : List FilePlace) → OldFiles section table p files e → Runs (next_file section table) (before, p) (before ++ files, e)
unfolding next_file
files-run section table p e before [] d =
    at_end (before, p) (before ++ [], e)
    (rw (d.1, eq-eqb d.0.len 0 d.2) (ap (λ (y : List FilePlace × ℕ). Some (ends y)) (ap (λ (ts : List FilePlace). (ts, p + 1)) (sym (append-nil before)) ∙ ap (λ (n : ℕ). (before ++ [], n)) (sym d.3))))
files-run section table p e before (f ∷ fs) d =
    further (before, p) (before ++ f ∷ [], d.0.next) (before ++ f ∷ fs, e) (rw (d.0.text, ne_eqb f.text.len 0 d.0.some, d.0.numbers) refl)
    (subst (λ (us : List FilePlace). Runs (next_file section table) (before ++ f ∷ [], d.0.next) (us, e)) (append_assoc before (f ∷ []) fs)
    (files-run section table d.0.next e (before ++ f ∷ []) fs d.1))

pub files-walk : (section : ℕ) (table : List ℕ) (p e : ℕ) (files : List FilePlace) → OldFiles section table p files e → ComesTo (next_file section table) ([], p) (files, e)
files-walk section table p e files d = comes-of (next_file section table) ([], p) (files, e) (files-run section table p e [] files d)

-- entries of a format, by their count
pub record EntriesRead (g : LineSource) (h : LineHeader) (table : List ℕ) (specs : List Spec) (n : ℕ) (s x : List FilePlace × ℕ) : Type 0 where
  pub files : List FilePlace
  pub all : x.0 ≡ s.0 ++ files
  pub count : length files ≡ n
  pub are : NewFiles g h table specs s.1 files x.1

-- of what was read step by step, or refused
pub record BoundOk {X Y E : Type 0} (f : X → Result Y E) (o : Result X E) (y : Y) : Type 0 where
  pub first : X
  pub is : o ≡ Ok first
  pub rest : f first ≡ Ok y

pub bound-ok : {X Y E : Type 0} (f : X → Result Y E) (o : Result X E) (y : Y) → or_refused f o ≡ Ok y → BoundOk f o y
bound-ok f (Err r) y e = absurd cc
bound-ok f (Ok x) y e = record { first = x; is = refl; rest = e }

pub record MadeOk {X Y E : Type 0} (f : X → Y) (o : Result X E) (y : Y) : Type 0 where
  pub first : X
  pub is : o ≡ Ok first
  pub same : f first ≡ y

pub made-ok : {X Y E : Type 0} (f : X → Y) (o : Result X E) (y : Y) → result_with f o ≡ Ok y → MadeOk f o y
made-ok f (Err r) y e = absurd cc
made-ok f (Ok x) y e = record { first = x; is = refl; same = ok-same (f x) y e }
  where
    ok-same : {Y E : Type 0} (a b : Y) → ◌≡◌ {A = Result Y E} (Ok a) (Ok b) → a ≡ b
    ok-same a b e = cc

abbrev file_put : List FilePlace × ℕ → FilePlace × ℕ → List FilePlace × ℕ
file_put s f = (s.0 ++ f.0 ∷ [], f.1)

pub entries-read : (g : LineSource) (h : LineHeader) (table : List ℕ) (specs : List Spec) (n : ℕ) (s x : List FilePlace × ℕ)
    → fallible_steps (next_entry g h table specs) n s ≡ Ok x → EntriesRead g h table specs n s x
entries-read g h table specs zero s x e =
    let same : s ≡ x = ok-same s x e in
    record {
      files = [];
      all = ap (λ (y : List FilePlace × ℕ). y.0) (sym same) ∙ sym (append-nil s.0);
      count = refl;
      are = ap (λ (y : List FilePlace × ℕ). y.1) same;
    }
  where
    ok-same : (a b : List FilePlace × ℕ) → ◌≡◌ {A = Result (List FilePlace × ℕ) Refusal} (Ok a) (Ok b) → a ≡ b
    ok-same a b e = ap (read_or a) e
      where
        read_or : List FilePlace × ℕ → Result (List FilePlace × ℕ) Refusal → List FilePlace × ℕ
        read_or d (Ok y) = y
        read_or d (Err r) = d
entries-read g h table specs (suc n) s x e =
    let first = bound-ok (fallible_steps (next_entry g h table specs) n) (next_entry g h table specs s) x e in
    let one = made-ok (file_put s) (entry_at g h table specs s.1) first.first first.is in
    let rest = entries-read g h table specs n first.first x first.rest in
    let file : FilePlace = one.first.0 in
    record {
      files = one.first.0 ∷ rest.files;
      all = rest.all ∙ ap (λ (y : List FilePlace × ℕ). y.0 ++ rest.files) (sym one.same) ∙ append_assoc s.0 (one.first.0 ∷ []) rest.files;
      count = ap suc rest.count;
      are = (
        record { next = one.first.1; entry = one.is },
        subst (λ (k : ℕ). NewFiles g h table specs k rest.files x.1) (sym (ap (λ (y : List FilePlace × ℕ). y.1) one.same)) rest.are,
      );
    }

pub entries-run : (g : LineSource) (h : LineHeader) (table : List ℕ) (specs : List Spec) (p e : ℕ) (before files : List FilePlace) → NewFiles g h table specs p files e
    → fallible_steps (next_entry g h table specs) (length files) (before, p) ≡ Ok (before ++ files, e)
entries-run g h table specs p e before [] d =
    ap (λ (fs : List FilePlace). Ok (fs, p)) (sym (append-nil before)) ∙ ap (λ (n : ℕ). Ok (before ++ [], n)) d
entries-run g h table specs p e before (f ∷ fs) d =
    rw d.0.entry (entries-run g h table specs d.0.next e (before ++ f ∷ []) fs d.1
    ∙ ap (λ (us : List FilePlace). Ok (us, e)) (append_assoc before (f ∷ []) fs))

-- the opcodes of a program
pub record OpcodesRead (section : ℕ) (h : LineHeader) (table : List ℕ) (s : List FilePlace × ℕ) (x : List FilePlace) : Type 0 where
  pub files : List FilePlace
  pub all : x ≡ s.0 ++ files
  pub are : Opcodes section h table s.1 files

abbrev opcode_made : List FilePlace × ℕ → Opcode → Step (List FilePlace × ℕ) (List FilePlace)
opcode_made s o = goes (with_file s.0 o.file, o.next)

with-first : (files fs : List FilePlace) (f : Option FilePlace) → with_file files f ++ fs ≡ files ++ file_first f fs
with-first files fs None = refl
with-first files fs (Some f) = append_assoc files (f ∷ []) fs

abbrev next_by : ℕ → LineHeader → List ℕ → List FilePlace × ℕ → Bool → Option (Step (List FilePlace × ℕ) (List FilePlace))
next_by section h table s b = if b then option_map (λ o. goes (with_file s.0 o.file, o.next)) (opcode_at section h table s.1) else Some (ends s.0)

opcodes-end : (section : ℕ) (h : LineHeader) (table : List ℕ) (s : List FilePlace × ℕ) (x : List FilePlace) → next_opcode section h table s ≡ Some (ends x)
    → OpcodesRead section h table s x
unfolding next_opcode
opcodes-end section h table s x e = by_room (nat_lt s.1 (length table)) refl e
  where
    by_room : (b : Bool) → nat_lt s.1 (length table) ≡ b → next_by section h table s b ≡ Some (ends x) → OpcodesRead section h table s x
    by_room true is e =
        let first = made (opcode_made s) (opcode_at section h table s.1) (ends x) e in
        absurd (goes-ends (with_file s.0 first.first.file, first.first.next) x first.same)
    by_room false is e = record { files = []; all = sym (ends-same s.0 x (some-same _ _ e)) ∙ sym (append-nil s.0); are = program_over s.1 is }

opcodes-more : (section : ℕ) (h : LineHeader) (table : List ℕ) (s u : List FilePlace × ℕ) (x : List FilePlace) → next_opcode section h table s ≡ Some (goes u)
    → OpcodesRead section h table u x → OpcodesRead section h table s x
unfolding next_opcode
opcodes-more section h table s u x e r = by_room (nat_lt s.1 (length table)) refl e
  where
    by_room : (b : Bool) → nat_lt s.1 (length table) ≡ b → next_by section h table s b ≡ Some (goes u) → OpcodesRead section h table s x
    by_room true is e =
        let first = made (opcode_made s) (opcode_at section h table s.1) (goes u) e in
        let same : ◌≡◌ {A = List FilePlace × ℕ} (with_file s.0 first.first.file, first.first.next) u =
        goes-same (with_file s.0 first.first.file, first.first.next) u first.same in
        record {
          files = file_first first.first.file r.files;
          all = r.all ∙ ap (λ (y : List FilePlace × ℕ). y.0 ++ r.files) (sym same) ∙ with-first s.0 r.files first.first.file;
          are = one_opcode s.1 first.first r.files is first.is
              (subst (λ (n : ℕ). Opcodes section h table n r.files) (sym (ap (λ (y : List FilePlace × ℕ). y.1) same)) r.are);
        }
    by_room false is e = absurd (ends-goes u s.0 (some-same _ _ e))

pub opcodes-read : (section : ℕ) (h : LineHeader) (table : List ℕ) (s : List FilePlace × ℕ) (x : List FilePlace) → Runs (next_opcode section h table) s x → OpcodesRead section h table s x
opcodes-read section h table s x (at_end a y e) = opcodes-end section h table s x e
opcodes-read section h table s x (further a u y e r) = opcodes-more section h table s u x e (opcodes-read section h table u x r)

pub opcodes-of : (section : ℕ) (h : LineHeader) (table : List ℕ) (p : ℕ) (files : List FilePlace) → ComesTo (next_opcode section h table) ([], p) files → Opcodes section h table p files
opcodes-of section h table p files c =
    let r = opcodes-read section h table ([], p) files (runs-of (next_opcode section h table) ([], p) files c) in
    subst (λ (fs : List FilePlace). Opcodes section h table p fs) (sym r.all) r.are

opcodes-run : (section : ℕ) (h : LineHeader) (table : List ℕ) (p : ℕ) (before files : List FilePlace) → Opcodes section h table p files
    → Runs (next_opcode section h table) (before, p) (before ++ files)
unfolding next_opcode
opcodes-run section h table p before files (program_over q is) = at_end (before, p) (before ++ []) (rw is (ap (λ (fs : List FilePlace). Some (ends fs)) (sym (append-nil before))))
opcodes-run section h table p before files (one_opcode q o fs is at rest) =
    further (before, p) (with_file before o.file, o.next) (before ++ file_first o.file fs) (rw (is, at) refl)
    (subst (λ (us : List FilePlace). Runs (next_opcode section h table) (with_file before o.file, o.next) us) (with-first before fs o.file)
    (opcodes-run section h table o.next (with_file before o.file) fs rest))

pub opcodes-walk : (section : ℕ) (h : LineHeader) (table : List ℕ) (p : ℕ) (files : List FilePlace) → Opcodes section h table p files → ComesTo (next_opcode section h table) ([], p) files
opcodes-walk section h table p files d = comes-of (next_opcode section h table) ([], p) files (opcodes-run section h table p [] files d)
