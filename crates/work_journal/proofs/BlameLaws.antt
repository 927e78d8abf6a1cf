-- Why a run of jobs ends with an error, from the calls that were made last.
use Rattle.std.proofs.Common.{◌≡◌, ℕ, ◌<◌, ◌⊎◌, inl, inr, List, length, refl, sym, ◌∙◌, ap, subst, IsTrue}
use Rattle.std.proofs.lemmas.Result.{err_from_is_err_and}
use Rattle.file_tree.specs.declared.node.TreeErr.{TreeErr}
use Rattle.file_tree.specs.declared.node.TreeErr.TheVariants as tree
use Rattle.std.specs.Prelude.{Result, Ok, Err, OnOk, IfErr, IsErrAnd, IsOkUnless}
use Rattle.dw_base.specs.declared.fault.Refusal.{Refusal}
use Rattle.file_tree.specs.declared.node.Node.{Node}
use Rattle.file_tree.specs.Seen.{Past, Seen}
use Rattle.journal_core.specs.Calls.{is_uncommitted}
use Rattle.journal_core.specs.Table.{CoreState, state_of}
use Rattle.work_journal.specs.Wanted.{Wanted}
use Rattle.work_journal.specs.Runs.{Goes, Came}
use Rattle.work_journal.proofs.GoesLaws.{came_failed}
use Rattle.work_texts.specs.declared.journal_err.JournalErr.{JournalErr}
use Rattle.work_texts.specs.declared.journal_err.JournalErr.TheVariants as run
use Rattle.work_journal.specs.declared.job_err.JobErr.{JobErr}
use Rattle.work_journal.specs.declared.job_err.JobErr.TheVariants as job
use Rattle.work_journal.specs.declared.maker.MakeErr.{MakeErr}
use Rattle.work_journal.specs.declared.maker.MakeErr.TheVariants as make
use Rattle.work_journal.specs.Views.{MakerView, Makes, IsChange}
use Rattle.work_journal.specs.Files.{FileStands, tree_stops, make_stops}
use Rattle.work_journal.specs.Blames.{JobBlames, JobStood, IsOfJob, MakeBlames, RunBlames, OfJob, run_stops, is_mild, is_mild_run, other_file}
use Rattle.work_journal.proofs.JobErrLaws.{make_is_no_fault}

-- ### A maker's error

-- an answer that is Ok, or this error, isn't another one
unless_mild : {A : Type 0} (j : ℕ) (x : MakeErr) (r : Result A MakeErr) → r ≡ Err x → IsOkUnless r make.NoMemory → IsTrue (is_mild (make_stops j x))
unless_mild j x r is w = by_it x (rw is at w)
  where
    by_it : (y : MakeErr) → y ≡ make.NoMemory → IsTrue (is_mild (make_stops j y))
    by_it y e = rw e refl

blamed : {A : Type 0} (v : MakerView) (refuses : ℕ → List ℕ → Refusal → Type 0) (j : ℕ) (bytes : List ℕ) (mode : ℕ) (seen : Seen) (r : Result A MakeErr) (x : MakeErr) → j < length v.steps → r ≡ Err x
    → ((p f : List ℕ) → r ≡ Err (make.Changed p f) → IsChange v j bytes p f)
    → ((q : Refusal) → r ≡ Err (make.Refused q) → refuses j bytes q)
    → ((q : Refusal) → r ≡ Err (make.Refused q) → v.digest bytes ≡ v.planned j)
    → FileStands seen (v.source j) bytes mode → JobBlames v refuses seen (make_stops j x)
blamed v refuses j bytes mode seen r (make.Changed p f) l is changed refused planned stands = (l, other_file bytes mode stands (changed p f is))
blamed v refuses j bytes mode seen r (make.Refused q) l is changed refused planned stands = (l, record { bytes = bytes; mode = mode; stands = stands; refused = refused q is; planned = planned q is })
blamed v refuses j bytes mode seen r make.NoMemory l is changed refused planned stands = tt

make_is_of_job : (j : ℕ) (x : MakeErr) → IsOfJob j (make_stops j x)
make_is_of_job j (make.Changed p f) = refl
make_is_of_job j (make.Refused q) = refl
make_is_of_job j make.NoMemory = tt

pub make_blames : {A : Type 0} (v : MakerView) (makes : Makes) (refuses : ℕ → List ℕ → Refusal → Type 0) (j : ℕ) (bytes : List ℕ) (mode : ℕ) (r : Result A MakeErr) (x : MakeErr) (y : JobErr) → j < length v.steps → r ≡ Err x → y ≡ make_stops j x
    → ((p f : List ℕ) → r ≡ Err (make.Changed p f) → IsChange v j bytes p f)
    → ((q : Refusal) → r ≡ Err (make.Refused q) → refuses j bytes q)
    → ((q : Refusal) → r ≡ Err (make.Refused q) → v.digest bytes ≡ v.planned j)
    → ((ns : List Node) → makes j bytes mode ns → IsOkUnless r make.NoMemory)
    → MakeBlames v makes refuses j bytes mode y
make_blames v makes refuses j bytes mode r x y l is of changed refused planned whole = subst (λ (e : JobErr). MakeBlames v makes refuses j bytes mode e) (sym of) (record {
  blames = λ seen stands. blamed v refuses j bytes mode seen r x l is changed refused planned stands;
  mild = λ ns made. unless_mild j x r is (whole ns made);
  no_fault = make_is_no_fault j x;
  of_job = make_is_of_job j x;
})

-- ### An error that is passed on

at_err : {A E : Type 0} (r : Result A E) (x : E) (P : E → Type 0) → r ≡ Err x → IfErr r P → P x
at_err r x P is h = rw is at h

pub err_passed : {A B E : Type 0} (r : Result A E) (s : Result B E) (x : E) (P : E → Type 0) → r ≡ Err x → IsErrAnd s (λ y. y ≡ x) → IfErr r P → IfErr s P
err_passed r s x P is e h =
    let p = err_from_is_err_and s e in
    let now : s ≡ Err x = rw p.2 at p.1 in
    rw now (at_err r x P is h)

-- a fault of the tree, or want of memory, as an error of a job
pub tree_mild : {B : Type 0} (s : Result B JobErr) (x : TreeErr) → IsErrAnd s (λ y. y ≡ tree_stops x) → IfErr s (λ e. IsTrue (is_mild e))
tree_mild s x e =
    let p = err_from_is_err_and s e in
    let now : s ≡ Err (tree_stops x) = rw p.2 at p.1 in
    rw now (mild x)
  where
    mild : (y : TreeErr) → IsTrue (is_mild (tree_stops y))
    mild tree.Failed = refl
    mild tree.NoMemory = refl

pub tree_blames : {B : Type 0} (v : MakerView) (refuses : ℕ → List ℕ → Refusal → Type 0) (seen : Seen) (s : Result B JobErr) (x : TreeErr) → IsErrAnd s (λ y. y ≡ tree_stops x) → IfErr s (JobBlames v refuses seen)
tree_blames v refuses seen s x e =
    let p = err_from_is_err_and s e in
    let now : s ≡ Err (tree_stops x) = rw p.2 at p.1 in
    rw now (blames x)
  where
    blames : (y : TreeErr) → JobBlames v refuses seen (tree_stops y)
    blames tree.Failed = tt
    blames tree.NoMemory = tt

pub memory_mild : {B : Type 0} (s : Result B JobErr) → IsErrAnd s (λ y. y ≡ job.NoMemory) → IfErr s (λ e. IsTrue (is_mild e))
memory_mild s e =
    let p = err_from_is_err_and s e in
    let now : s ≡ Err job.NoMemory = rw p.2 at p.1 in
    rw now refl

pub memory_blames : {B : Type 0} (v : MakerView) (refuses : ℕ → List ℕ → Refusal → Type 0) (seen : Seen) (s : Result B JobErr) → IsErrAnd s (λ y. y ≡ job.NoMemory) → IfErr s (JobBlames v refuses seen)
memory_blames v refuses seen s e =
    let p = err_from_is_err_and s e in
    let now : s ≡ Err job.NoMemory = rw p.2 at p.1 in
    rw now tt

-- such an error is of no job, and of nothing that stood
pub tree_of_job : {B : Type 0} (n : ℕ) (s : Result B JobErr) (x : TreeErr) → IsErrAnd s (λ y. y ≡ tree_stops x) → IfErr s (IsOfJob n)
tree_of_job n s x e =
    let p = err_from_is_err_and s e in
    let now : s ≡ Err (tree_stops x) = rw p.2 at p.1 in
    rw now (of x)
  where
    of : (y : TreeErr) → IsOfJob n (tree_stops y)
    of tree.Failed = tt
    of tree.NoMemory = tt

pub memory_of_job : {B : Type 0} (n : ℕ) (s : Result B JobErr) → IsErrAnd s (λ y. y ≡ job.NoMemory) → IfErr s (IsOfJob n)
memory_of_job n s e =
    let p = err_from_is_err_and s e in
    let now : s ≡ Err job.NoMemory = rw p.2 at p.1 in
    rw now tt

pub tree_stood : {B : Type 0} (v : MakerView) (refuses : ℕ → List ℕ → Refusal → Type 0) (c : CoreState) (seen : Seen) (s : Result B JobErr) (x : TreeErr) → IsErrAnd s (λ y. y ≡ tree_stops x) → IfErr s (JobStood v refuses c seen)
tree_stood v refuses c seen s x e =
    let p = err_from_is_err_and s e in
    let now : s ≡ Err (tree_stops x) = rw p.2 at p.1 in
    rw now (of x)
  where
    of : (y : TreeErr) → JobStood v refuses c seen (tree_stops y)
    of tree.Failed = tt
    of tree.NoMemory = tt

-- the job that is taken isn't committed
stood_by : (v : MakerView) (refuses : ℕ → List ℕ → Refusal → Type 0) (c : CoreState) (seen : Seen) (n : ℕ) (x : JobErr) → IsTrue (is_uncommitted (state_of c n)) → IsOfJob n x → JobBlames v refuses seen x → JobStood v refuses c seen x
stood_by v refuses c seen n (job.Changed j p f) free of h = (h.0, subst (λ (i : ℕ). IsTrue (is_uncommitted (state_of c i))) (sym of) free, h.1)
stood_by v refuses c seen n (job.Refused j q) free of h = (h.0, subst (λ (i : ℕ). IsTrue (is_uncommitted (state_of c i))) (sym of) free, h.1)
stood_by v refuses c seen n job.Tree free of h = tt
stood_by v refuses c seen n job.NoMemory free of h = tt

pub job_stood : {A : Type 0} (v : MakerView) (refuses : ℕ → List ℕ → Refusal → Type 0) (c : CoreState) (seen : Seen) (n : ℕ) (r : Result A JobErr) → IsTrue (is_uncommitted (state_of c n)) → IfErr r (IsOfJob n) → IfErr r (JobBlames v refuses seen) → IfErr r (JobStood v refuses c seen)
job_stood v refuses c seen n (Ok a) free of h = tt
job_stood v refuses c seen n (Err x) free of h = stood_by v refuses c seen n x free of h

stood_blamed : (v : MakerView) (refuses : ℕ → List ℕ → Refusal → Type 0) (c : CoreState) (seen : Seen) (x : JobErr) → JobStood v refuses c seen x → JobBlames v refuses seen x
stood_blamed v refuses c seen (job.Changed j p f) h = (h.0, h.2)
stood_blamed v refuses c seen (job.Refused j q) h = (h.0, h.2)
stood_blamed v refuses c seen job.Tree h = tt
stood_blamed v refuses c seen job.NoMemory h = tt

pub stood_blames : {A : Type 0} (v : MakerView) (refuses : ℕ → List ℕ → Refusal → Type 0) (c : CoreState) (seen : Seen) (r : Result A JobErr) → IfErr r (JobStood v refuses c seen) → IfErr r (JobBlames v refuses seen)
stood_blames v refuses c seen (Ok a) h = tt
stood_blames v refuses c seen (Err x) h = stood_blamed v refuses c seen x h

-- ### The error of a run

pub of_job : {A : Type 0} (v : MakerView) (refuses : ℕ → List ℕ → Refusal → Type 0) (seen : Seen) (r : Result A JobErr) (x : JobErr) → r ≡ Err x → IfErr r (JobBlames v refuses seen) → OfJob v x
of_job v refuses seen r x is h = by_it x (at_err r x (JobBlames v refuses seen) is h)
  where
    by_it : (y : JobErr) → JobBlames v refuses seen y → OfJob v y
    by_it (job.Changed j p f) b = b.0
    by_it (job.Refused j q) b = b.0
    by_it job.Tree b = tt
    by_it job.NoMemory b = tt

run_blamed : (v : MakerView) (refuses : ℕ → List ℕ → Refusal → Type 0) (seen : Seen) (x : JobErr) → JobBlames v refuses seen x → RunBlames v refuses seen (run_stops v x)
run_blamed v refuses seen (job.Changed j p f) b = (j, b.0, refl, b.1)
run_blamed v refuses seen (job.Refused j q) b = (j, b.0, refl, b.1)
run_blamed v refuses seen job.Tree b = tt
run_blamed v refuses seen job.NoMemory b = tt

pub named_since : (u v : MakerView) (x : JobErr) (y : JournalErr) → u ≡ v → (y ≡ run_stops u x) ⊎ (y ≡ run.NoMemory) → (y ≡ run_stops v x) ⊎ (y ≡ run.NoMemory)
named_since u v x y same h = subst (λ (z : MakerView). (y ≡ run_stops z x) ⊎ (y ≡ run.NoMemory)) same h

pub named_blames : {A : Type 0} (v : MakerView) (refuses : ℕ → List ℕ → Refusal → Type 0) (seen : Seen) (r : Result A JobErr) (x : JobErr) (y : JournalErr) → r ≡ Err x → (y ≡ run_stops v x) ⊎ (y ≡ run.NoMemory) → IfErr r (JobBlames v refuses seen) → RunBlames v refuses seen y
named_blames v refuses seen r x y is (inl e) h = subst (λ (z : JournalErr). RunBlames v refuses seen z) (sym e) (run_blamed v refuses seen x (at_err r x (JobBlames v refuses seen) is h))
named_blames v refuses seen r x y is (inr e) h = subst (λ (z : JournalErr). RunBlames v refuses seen z) (sym e) tt

run_mild : (v : MakerView) (x : JobErr) → IsTrue (is_mild x) → IsTrue (is_mild_run (run_stops v x))
run_mild v (job.Changed j p f) h = cc
run_mild v (job.Refused j q) h = cc
run_mild v job.Tree h = refl
run_mild v job.NoMemory h = refl

pub named_mild : {A : Type 0} (v : MakerView) (r : Result A JobErr) (x : JobErr) (y : JournalErr) → r ≡ Err x → (y ≡ run_stops v x) ⊎ (y ≡ run.NoMemory) → IfErr r (λ e. IsTrue (is_mild e)) → IsTrue (is_mild_run y)
named_mild v r x y is (inl e) h = subst (λ (z : JournalErr). IsTrue (is_mild_run z)) (sym e) (run_mild v x (at_err r x (λ z. IsTrue (is_mild z)) is h))
named_mild v r x y is (inr e) h = subst (λ (z : JournalErr). IsTrue (is_mild_run z)) (sym e) refl

stops_fault : (v : MakerView) (x : JobErr) → run_stops v x ≡ run.Tree → x ≡ job.Tree
stops_fault v (job.Changed j p f) e = let d : run.Changed (v.source j) p f ≡ run.Tree = e in cc
stops_fault v (job.Refused j q) e = let d : run.Refused (v.source j) q ≡ run.Tree = e in cc
stops_fault v job.Tree e = refl
stops_fault v job.NoMemory e = let d : run.NoMemory ≡ run.Tree = e in cc

-- a fault of the tree is one of the job
pub named_fault : {A : Type 0} (v : MakerView) (r : Result A JobErr) (x : JobErr) (y : JournalErr) → r ≡ Err x → (y ≡ run_stops v x) ⊎ (y ≡ run.NoMemory) → y ≡ run.Tree → r ≡ Err job.Tree
named_fault v r x y is (inl e) h = is ∙ ap (λ (z : JobErr). Err z) (stops_fault v x (sym e ∙ h))
named_fault v r x y is (inr e) h = let d : run.NoMemory ≡ run.Tree = sym e ∙ h in cc

-- ### A maker that has made more nodes

more_blames : (v : MakerView) (now first : ℕ → List ℕ → Refusal → Type 0) (seen : Seen) (x : JobErr) → ((j : ℕ) (b : List ℕ) (q : Refusal) → now j b q → first j b q) → JobBlames v now seen x → JobBlames v first seen x
more_blames v now first seen (job.Changed j p f) less h = h
more_blames v now first seen (job.Refused j q) less h = (h.0, record { bytes = h.1.bytes; mode = h.1.mode; stands = h.1.stands; refused = less j h.1.bytes q h.1.refused; planned = h.1.planned })
more_blames v now first seen job.Tree less h = tt
more_blames v now first seen job.NoMemory less h = tt

pub blames_since : {A : Type 0} (v u : MakerView) (now first : ℕ → List ℕ → Refusal → Type 0) (seen : Seen) (r : Result A JobErr) → u ≡ v → ((j : ℕ) (b : List ℕ) (q : Refusal) → now j b q → first j b q) → IfErr r (JobBlames u now seen) → IfErr r (JobBlames v first seen)
blames_since v u now first seen (Ok a) same less h = tt
blames_since v u now first seen (Err x) same less h = more_blames v now first seen x less (subst (λ (y : MakerView). JobBlames y now seen x) same h)

more_stood : (v : MakerView) (now first : ℕ → List ℕ → Refusal → Type 0) (c : CoreState) (seen : Seen) (x : JobErr) → ((j : ℕ) (b : List ℕ) (q : Refusal) → now j b q → first j b q) → JobStood v now c seen x → JobStood v first c seen x
more_stood v now first c seen (job.Changed j p f) less h = h
more_stood v now first c seen (job.Refused j q) less h = (h.0, h.1, record { bytes = h.2.bytes; mode = h.2.mode; stands = h.2.stands; refused = less j h.2.bytes q h.2.refused; planned = h.2.planned })
more_stood v now first c seen job.Tree less h = tt
more_stood v now first c seen job.NoMemory less h = tt

pub stood_since : {A : Type 0} (v u : MakerView) (now first : ℕ → List ℕ → Refusal → Type 0) (c : CoreState) (seen : Seen) (r : Result A JobErr) → u ≡ v → ((j : ℕ) (b : List ℕ) (q : Refusal) → now j b q → first j b q) → IfErr r (JobStood u now c seen) → IfErr r (JobStood v first c seen)
stood_since v u now first c seen (Ok a) same less h = tt
stood_since v u now first c seen (Err x) same less h = more_stood v now first c seen x less (subst (λ (y : MakerView). JobStood y now c seen x) same h)

-- ### Calls of jobs as calls of a run

-- the answer where all went well
abbrev run_well : Result (Unit {0}) JournalErr
run_well = Ok tt

goes_well : {A : Type 0} (work : List ℕ) (may : Wanted → Type 0) (c d : CoreState) (old new : Past) (r : Result A JobErr) (x : A) → r ≡ Ok x → Goes work may c old d new r → Goes work may c old d new run_well
goes_well work may c d old new r x is a = record {
  ran = record { rest = a.ran.rest; last = a.ran.last; first = a.ran.first; log = a.ran.log; runs = a.ran.runs; ends = at_ok r x _ is a.ran.ends };
  moments = a.moments;
  keeps = λ w given m k. at_ok r x _ is (a.keeps w given m k);
}
  where
    at_ok : {A : Type 0} (r : Result A JobErr) (x : A) (P : Type 0) → r ≡ Ok x → OnOk r P → P
    at_ok r x P e h = rw e at h

pub came_done : {hits : List ℕ → Type 0} {n : ℕ} {A : Type 0} (work : List ℕ) (may : Wanted → Type 0) (c d : CoreState) (old new : Seen) (r : Result A JobErr) (x : A) → r ≡ Ok x → Came job.Tree hits n work may c old d new r → Came run.Tree hits n work may c old d new run_well
came_done work may c d old new r x is a = record {
  tells = a.tells;
  later = a.later;
  failed = λ h. absurd (let e : run_well ≡ Err run.Tree = h in cc);
  spares = a.spares;
  goes = λ tells. goes_well work may c d old.past new.past r x is (a.goes tells);
}

abbrev run_err : {B : Type 0} → JournalErr → Result B JournalErr
run_err y = Err y

pub came_named : {hits : List ℕ → Type 0} {n : ℕ} {A B : Type 0} (v : MakerView) (work : List ℕ) (may : Wanted → Type 0) (c d : CoreState) (old new : Seen) (r : Result A JobErr) (x : JobErr) (y : JournalErr) → r ≡ Err x → (y ≡ run_stops v x) ⊎ (y ≡ run.NoMemory)
    → Came job.Tree hits n work may c old d new r → Came run.Tree hits n work may c old d new (run_err {B = B} y)
came_named {B = B} v work may c d old new r x y is named a =
    came_failed job.Tree run.Tree work may c d d old new r (run_err {B = B} y) refl (λ h. named_fault v r x y is named (same y run.Tree h)) a
  where
    same : (a b : JournalErr) → run_err {B = B} a ≡ Err b → a ≡ b
    same a b h = cc
