-- Laws of the files that a program defines: of a walk on which no opcode defines a file whose path changes, none does.
use Rattle.std.proofs.Common.{Bool, true, false, ◌≡◌, ℕ, ◌<◌, ◌≤◌, nat_lt, List, [], ◌∷◌, length, Option, Some, None, refl, sym, ap, ◌∙◌, subst, inl, inr, ◌⊎◌, arith}
use Rattle.std.specs.Prelude.{option_map, if◌then◌else◌}
use Rattle.std.proofs.lemmas.List.{length-append}
use Rattle.dw_base.proofs.ReachLaws.{Reaches, here, on, reach-more, Determined, Stops, reach-total}
use Rattle.dw_base.proofs.TextLaws.{same_text-from}
use Rattle.dw_base.proofs.SectionLaws.{same_text-other}
use Rattle.dw_base.specs.Paths.{PathMap}
use Rattle.dw_base.specs.Refusals.{at}
use Rattle.dw_base.specs.Texts.{same_text}
use Rattle.dw_base.specs.declared.fault.Kind.TheVariants.{DefinedPath}
use Rattle.dw_base.specs.declared.fault.Refusal.{Refusal}
use Rattle.dw_base.specs.LinePrograms.{next_opcode, opcode_at, with_file}
use Rattle.dw_base.specs.Walks.{Step, goes, ends, Walks, no_step, one_more, ComesTo}
use Rattle.dw_base.specs.LineWriteFails.{ProgramFails, defined, changes_file}
use Rattle.dw_base.specs.declared.line_tables.LineHeader.{LineHeader}
use Rattle.dw_base.specs.declared.line_tables.Opcode.{Opcode}
use Rattle.dw_base.specs.declared.line_tables.FilePlace.{FilePlace}
use Rattle.dw_lines.proofs.ProgramLaws.{opcode-more, opcode-none, opcode-over}
use Rattle.dw_lines.proofs.WalkLaws.{Next, determined, over-stops, none-stops, reached}

-- a test of two texts
pub texts-same : (t u : List ℕ) (same : Bool) → (same ≡ true → t ≡ u) → (t ≡ u → same ≡ true) → same ≡ same_text t u
texts-same t u true f g = sym (same_text-from t u (f refl))
texts-same t u false f g = sym (same_text-other t u (λ e. absurd (other (g e))))
  where
    other : false ≡ true → ⊥
    other e = cc

pub ruleset same_laws = (texts-same)

-- steps of which something holds
abbrev Both : {S : Type 0} → (S → S → Type 0) → (S → Type 0) → S → S → Type 0
Both N C s t = N s t × C s

stopped : {S : Type 0} (N : S → S → Type 0) (a b : S) → Stops N a → Reaches N a b → a ≡ b
stopped N a b stop (here r) = refl
stopped N a b stop (on p t c n f) = absurd (stop t n)

-- where something holds of each state up to the last, which stops, it holds of each that is reached and goes on
all-on : {S : Type 0} (N : S → S → Type 0) (C : S → Type 0) → Determined N → (a s t last : S) → Reaches (Both N C) a last → Reaches N a s → N s t → Stops N last → C s
all-on N C one a s t last (here r) f n stop =
    let same : a ≡ s = stopped N a s stop f in
    absurd (stop t (subst (λ x. N x t) (sym same) n))
all-on N C one a s t last (on p q r c rest) (here u) n stop = c.1
all-on N C one a s t last (on p q r c rest) (on x y z m f) n stop =
    let same : y ≡ q = one a y q m c.0 in
    all-on N C one q s t last rest (subst (λ w. Reaches N w s) same f) n stop

-- the opcode at a state's place, if it has one, defines no file whose path changes
abbrev pub Plain : PathMap → ℕ → LineHeader → List ℕ → List FilePlace × ℕ → Type 0
Plain m section h table s = (o : Opcode) → opcode_at section h table s.1 ≡ Some o → changes_file m table o.file ≡ false

-- no opcode up to a place does
pub record PlainUpTo (m : PathMap) (section : ℕ) (h : LineHeader) (table : List ℕ) (place : ℕ) : Type 0 where
  pub files : List FilePlace
  pub walks : Walks (next_opcode section h table) ([], h.program) (files, place)
  pub plain : Reaches (Both (Next (next_opcode section h table)) (Plain m section h table)) ([], h.program) (files, place)

pub plain-start : (m : PathMap) (section : ℕ) (h : LineHeader) (table : List ℕ) → PlainUpTo m section h table h.program
plain-start m section h table = record { files = []; walks = no_step; plain = here ([], h.program) }

opcode-once : (a b : Opcode) (x : Option Opcode) → x ≡ Some a → x ≡ Some b → a ≡ b
opcode-once a b x e f = ap (opcode_or a) (sym e ∙ f)
  where
    opcode_or : Opcode → Option Opcode → Opcode
    opcode_or d None = d
    opcode_or d (Some o) = o

pub plain-more : (m : PathMap) (section : ℕ) (h : LineHeader) (table : List ℕ) (place : ℕ) (o : Opcode) → PlainUpTo m section h table place → place < length table
    → Some o ≡ opcode_at section h table place → false ≡ changes_file m table o.file → PlainUpTo m section h table o.next
plain-more m section h table place o p lt e c =
    let step = opcode-more section h table p.files place o lt e in
    record {
      files = with_file p.files o.file;
      walks = one_more (p.files, place) (with_file p.files o.file, o.next) p.walks step;
      plain = reach-more (Both (Next (next_opcode section h table)) (Plain m section h table)) ([], h.program) (p.files, place) (with_file p.files o.file, o.next) p.plain
          (step, λ q f. ap (λ (x : Opcode). changes_file m table x.file) (opcode-once q o (opcode_at section h table place) f (sym e)) ∙ sym c);
    }

pub plain-not : (m : PathMap) (section : ℕ) (h : LineHeader) (table : List ℕ) (place : ℕ) (o : Opcode) (r : Refusal) → PlainUpTo m section h table place → place < length table
    → Some o ≡ opcode_at section h table place → true ≡ changes_file m table o.file → r ≡ at DefinedPath section place → ProgramFails m section h table r
plain-not m section h table place o r p lt e c is = rw is (defined p.files place o p.walks lt (sym e) (sym c))

true-false : true ≡ false → ⊥
true-false e = cc

plain-stops : (m : PathMap) (section : ℕ) (h : LineHeader) (table : List ℕ) (place : ℕ) (r : Refusal) (p : PlainUpTo m section h table place)
    → Stops (Next (next_opcode section h table)) (p.files, place) → ProgramFails m section h table r → ⊥
plain-stops m section h table place r p stop (defined files at o w lt e c) =
    true-false (sym c ∙ all-on (Next (next_opcode section h table)) (Plain m section h table) (determined (next_opcode section h table)) ([], h.program) (files, at)
    (with_file files o.file, o.next) (p.files, place) p.plain (reached (next_opcode section h table) ([], h.program) (files, at) w)
    (opcode-more section h table files at o lt (sym e)) stop o e)

pub plain-over : (m : PathMap) (section : ℕ) (h : LineHeader) (table : List ℕ) (place : ℕ) (r : Refusal) → PlainUpTo m section h table place → length table ≤ place
    → ProgramFails m section h table r → ⊥
plain-over m section h table place r p le f =
    plain-stops m section h table place r p
    (over-stops (next_opcode section h table) (p.files, place) p.files (opcode-over section h table p.files place le)) f

pub plain-none : (m : PathMap) (section : ℕ) (h : LineHeader) (table : List ℕ) (place : ℕ) (r : Refusal) → PlainUpTo m section h table place → place < length table
    → None ≡ opcode_at section h table place → ProgramFails m section h table r → ⊥
plain-none m section h table place r p lt e f =
    plain-stops m section h table place r p
    (none-stops (next_opcode section h table) (p.files, place) (opcode-none section h table p.files place lt e)) f

pub ruleset defined_laws = (plain-start, plain-more, plain-not)

-- files are only added
with_file-longer : (files : List FilePlace) (file : Option FilePlace) → length files ≤ length (with_file files file)
with_file-longer files None = omega arith
with_file-longer files (Some f) = omega (arith, length-append files (f ∷ []))

-- the state behind an opcode
abbrev stepped : List FilePlace → Option Opcode → Option (Step (List FilePlace × ℕ) (List FilePlace))
stepped files x = option_map (λ o. goes (with_file files o.file, o.next)) x

goes-longer : (files : List FilePlace) (x : Option Opcode) (t : List FilePlace × ℕ) → stepped files x ≡ Some (goes t)
    → length files ≤ length t.0
goes-longer files None t e = absurd cc
goes-longer files (Some o) t e =
    let same : (with_file files o.file, o.next) ≡ t = ap (gone (with_file files o.file, o.next)) e in
    subst (λ (s : List FilePlace × ℕ). length files ≤ length s.0) same (with_file-longer files o.file)
  where
    gone : List FilePlace × ℕ → Option (Step (List FilePlace × ℕ) (List FilePlace)) → List FilePlace × ℕ
    gone d None = d
    gone d (Some (goes s)) = s
    gone d (Some (ends x)) = d

step-longer : (section : ℕ) (h : LineHeader) (table : List ℕ) (s t : List FilePlace × ℕ) → Next (next_opcode section h table) s t → length s.0 ≤ length t.0
unfolding next_opcode
step-longer section h table s t e = by_test (nat_lt s.1 (length table)) e
  where
    by_test : (b : Bool) → (if b then stepped s.0 (opcode_at section h table s.1) else Some (ends s.0)) ≡ Some (goes t)
        → length s.0 ≤ length t.0
    by_test true e = goes-longer s.0 (opcode_at section h table s.1) t e
    by_test false e = absurd cc

reach-longer : (section : ℕ) (h : LineHeader) (table : List ℕ) (s t : List FilePlace × ℕ) → Reaches (Next (next_opcode section h table)) s t → length s.0 ≤ length t.0
reach-longer section h table s t (here r) = omega arith
reach-longer section h table s t (on p q r n rest) = omega (arith, step-longer section h table p q n, reach-longer section h table q r rest)

-- a program that comes to no files defines none
pub over-files : (section : ℕ) (h : LineHeader) (table : List ℕ) (s : List FilePlace × ℕ) (files : List FilePlace) → next_opcode section h table s ≡ Some (ends files) → s.0 ≡ files
unfolding next_opcode
over-files section h table s files e = by_test (nat_lt s.1 (length table)) e
  where
    ended : List FilePlace → Option (Step (List FilePlace × ℕ) (List FilePlace)) → List FilePlace
    ended d None = d
    ended d (Some (goes t)) = d
    ended d (Some (ends x)) = x

    no_end : (x : Option Opcode) → stepped s.0 x ≡ Some (ends files) → ⊥
    no_end None f = cc
    no_end (Some o) f = cc

    by_test : (b : Bool) → (if b then stepped s.0 (opcode_at section h table s.1) else Some (ends s.0)) ≡ Some (ends files) → s.0 ≡ files
    by_test true e = absurd (no_end (opcode_at section h table s.1) e)
    by_test false e = ap (ended s.0) e

changed-file : (m : PathMap) (table : List ℕ) (files : List FilePlace) (file : Option FilePlace) → changes_file m table file ≡ true → 0 < length (with_file files file)
changed-file m table files None c = absurd (true-false (sym c))
changed-file m table files (Some f) c = omega (arith, length-append files (f ∷ []))

pub none-defined : (m : PathMap) (section : ℕ) (h : LineHeader) (table : List ℕ) (files : List FilePlace) (r : Refusal) → ComesTo (next_opcode section h table) ([], h.program) files
    → length files ≡ 0 → ProgramFails m section h table r → ⊥
none-defined m section h table files r c none (defined so place o w lt e changes) =
    let step = opcode-more section h table so place o lt (sym e) in
    let there = reach-more (Next (next_opcode section h table)) ([], h.program) (so, place) (with_file so o.file, o.next)
    (reached (next_opcode section h table) ([], h.program) (so, place) w) step in
    let end = reached (next_opcode section h table) ([], h.program) c.last c.walks in
    let last : c.last.0 ≡ files = over-files section h table c.last files c.over in
    let some = changed-file m table so o.file changes in
    let size = ap length last in
    by_order size some (reach-total (Next (next_opcode section h table)) (determined (next_opcode section h table)) ([], h.program) (with_file so o.file, o.next) c.last there end)
  where
    by_order : length c.last.0 ≡ length files → 0 < length (with_file so o.file)
        → Reaches (Next (next_opcode section h table)) (with_file so o.file, o.next) c.last ⊎ Reaches (Next (next_opcode section h table)) c.last (with_file so o.file, o.next) → ⊥
    by_order size some (inl f) = absurd (omega (arith, reach-longer section h table (with_file so o.file, o.next) c.last f, some, size, none))
    by_order size some (inr f) =
        let same : c.last ≡ (with_file so o.file, o.next) =
        stopped (Next (next_opcode section h table)) c.last (with_file so o.file, o.next) (over-stops (next_opcode section h table) c.last files c.over) f in
        let long = ap (λ (s : List FilePlace × ℕ). length s.0) same in
        absurd (omega (arith, long, some, size, none))

pub ruleset empty_laws = (none-defined)
