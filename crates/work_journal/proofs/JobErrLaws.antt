-- A job that isn't taken: which of its errors are faults of the tree.
use Rattle.std.proofs.Common.{true, ◌+◌, ◌≡◌, ◌≢◌, ℕ, List, refl, ap, ◌∙◌}
use Rattle.std.specs.Prelude.{Result, Ok, Err, IsErrAnd, IsOk, OnOk}
use Rattle.std.proofs.lemmas.Result.{err_from_is_err_and}
use Rattle.file_tree.specs.declared.node.TreeErr.{TreeErr}
use Rattle.file_tree.specs.declared.node.TreeErr.TheVariants as tree
use Rattle.file_tree.specs.Seen.{Past, Seen}
use Rattle.journal_core.specs.Table.{CoreState}
use Rattle.work_journal.specs.declared.job_err.JobErr.{JobErr}
use Rattle.work_journal.specs.declared.job_err.JobErr.TheVariants as job
use Rattle.work_journal.specs.declared.maker.MakeErr.{MakeErr}
use Rattle.work_journal.specs.declared.maker.MakeErr.TheVariants as make
use Rattle.work_journal.specs.Wanted.{Wanted}
use Rattle.file_tree.specs.Images.{state_of}
use Rattle.work_journal.specs.Keeps.{Keeps}
use Rattle.work_journal.specs.Runs.{Goes, Came, IsGiven}
use Rattle.work_journal.specs.Files.{tree_stops, make_stops}
use Rattle.work_journal.proofs.GoesLaws.{came_still, came_failed, came_well, well, err_is, came_then, came_given}

-- the answer of a loop over jobs so far
abbrev pub taken : Result (Unit {0}) JobErr
taken = Ok tt

tree_is_fault : (x : TreeErr) → tree_stops x ≡ job.Tree → x ≡ tree.Failed
tree_is_fault tree.Failed e = refl
tree_is_fault tree.NoMemory e = let d : job.NoMemory ≡ job.Tree = e in cc

pub make_is_no_fault : (j : ℕ) (x : MakeErr) → make_stops j x ≢ job.Tree
make_is_no_fault j (make.Changed p f) e = cc
make_is_no_fault j (make.Refused r) e = cc
make_is_no_fault j make.NoMemory e = cc

err_same : {B : Type 0} (s : Result B JobErr) (x y : JobErr) → s ≡ Err x → s ≡ Err y → x ≡ y
err_same s x y a b = cc

-- a fault of the tree is passed on as one of the job
pub came_turned : {hits : List ℕ → Type 0} {n : ℕ} {A B : Type 0} (work : List ℕ) (may : Wanted → Type 0) (c d e : CoreState) (old new : Seen) (r : Result A TreeErr) (s : Result B JobErr) (x : TreeErr)
    → r ≡ Err x → IsErrAnd s (λ y. y ≡ tree_stops x) → Came tree.Failed hits n work may c old d new r → Came job.Tree hits n work may c old e new s
came_turned work may c d e old new r s x was is a =
    let p = err_from_is_err_and s is in
    let now : s ≡ Err (tree_stops x) = rw p.2 at p.1 in
    came_failed tree.Failed job.Tree work may c d e old new r s (err_is s (tree_stops x) now)
    (λ h. was ∙ ap (λ (y : TreeErr). Err y) (tree_is_fault x (err_same s (tree_stops x) job.Tree now h))) a

no_fault : {B : Type 0} (s : Result B JobErr) → s ≡ Err job.NoMemory → s ≡ Err job.Tree → ⊥
no_fault s a b = let d : job.NoMemory ≡ job.Tree = err_same s job.NoMemory job.Tree a b in cc

pub came_no_room : {hits : List ℕ → Type 0} {n : ℕ} {B : Type 0} (work : List ℕ) (may : Wanted → Type 0) (c : CoreState) (seen : Seen) (s : Result B JobErr)
    → IsErrAnd s (λ y. y ≡ job.NoMemory) → Came job.Tree hits n work may c seen c seen s
came_no_room work may c seen s is =
    let p = err_from_is_err_and s is in
    came_still job.Tree work may c seen s (no_fault s (rw p.2 at p.1))

abbrev ok_of : {B : Type 0} → B → Result B JobErr
ok_of y = Ok y

abbrev err_of : {B : Type 0} → JobErr → Result B JobErr
err_of y = Err y

-- another value of calls that went well
pub came_fine : {hits : List ℕ → Type 0} {n : ℕ} {A B : Type 0} (work : List ℕ) (may : Wanted → Type 0) (c d : CoreState) (old new : Seen) (r : Result A TreeErr) (x : A) (y : B)
    → r ≡ Ok x → Came tree.Failed hits n work may c old d new r → Came job.Tree hits n work may c old d new (ok_of y)
came_fine {hits = hits} {n = n} work may c d old new r x y is a = record {
  tells = b.tells;
  later = b.later;
  spares = a.spares;
  failed = λ h. absurd (let e : ok_of y ≡ Err job.Tree = h in cc);
  goes = λ tells. goes_as work may c d old.past new.past y (b.goes tells);
}
  where
    b : Came tree.Failed hits n work may c old d new well
    b = came_well work may c d old new r x is a

    goes_as : {B : Type 0} (work : List ℕ) (may : Wanted → Type 0) (c d : CoreState) (old new : Past) (y : B) → Goes work may c old d new well → Goes work may c old d new (ok_of y)
    goes_as work may c d old new y a = record {
      ran = record { rest = a.ran.rest; last = a.ran.last; first = a.ran.first; log = a.ran.log; runs = a.ran.runs; ends = a.ran.ends };
      moments = a.moments;
      keeps = a.keeps;
    }

-- an answer of the job itself, after calls that went well
pub came_answered : {hits : List ℕ → Type 0} {n : ℕ} {A B : Type 0} (work : List ℕ) (may : Wanted → Type 0) (c d e : CoreState) (old new : Seen) (r : Result A TreeErr) (x : A) (y : JobErr)
    → r ≡ Ok x → (y ≡ job.Tree → ⊥) → Came tree.Failed hits n work may c old d new r → Came job.Tree hits n work may c old e new (err_of {B = B} y)
came_answered {B = B} work may c d e old new r x y is none a =
    came_failed tree.Failed job.Tree work may c d e old new r (err_of {B = B} y) refl (λ h. absurd (none (err_same (err_of {B = B} y) y job.Tree refl h))) a

pub ok_by : {A E : Type 0} (r : Result A E) (x : A) → r ≡ Ok x → IsOk r
ok_by r x e = rw e refl

-- another value after jobs that went well
pub came_took : {hits : List ℕ → Type 0} {n : ℕ} {A B : Type 0} (work : List ℕ) (may : Wanted → Type 0) (c d : CoreState) (old new : Seen) (r : Result A JobErr) (x : A) (y : B)
    → r ≡ Ok x → Came job.Tree hits n work may c old d new r → Came job.Tree hits n work may c old d new (ok_of y)
came_took work may c d old new r x y is a = record {
  tells = a.tells;
  later = a.later;
  failed = λ h. absurd (let e : ok_of y ≡ Err job.Tree = h in cc);
  spares = a.spares;
  goes = λ tells. goes_on work may c d old.past new.past r x y is (a.goes tells);
}
  where
    at_ok : {A : Type 0} (r : Result A JobErr) (x : A) (P : Type 0) → r ≡ Ok x → OnOk r P → P
    at_ok r x P e h = rw e at h

    goes_on : {A B : Type 0} (work : List ℕ) (may : Wanted → Type 0) (c d : CoreState) (old new : Past) (r : Result A JobErr) (x : A) (y : B) → r ≡ Ok x → Goes work may c old d new r → Goes work may c old d new (ok_of y)
    goes_on work may c d old new r x y is a = record {
      ran = record { rest = a.ran.rest; last = a.ran.last; first = a.ran.first; log = a.ran.log; runs = a.ran.runs; ends = at_ok r x _ is a.ran.ends };
      moments = a.moments;
      keeps = λ w given m k. at_ok r x _ is (a.keeps w given m k);
    }

-- a job more after those that went well
pub came_then_job : {hits : List ℕ → Type 0} {n m : ℕ} {A : Type 0} (work : List ℕ) (may one : Wanted → Type 0) (c d e : CoreState) (old mid new : Seen) (r : Result A JobErr) → ((w : Wanted) → may w → one w)
    → Came job.Tree hits n work may c old d mid taken → Came job.Tree hits m work one d mid e new r → Came job.Tree hits (n + m) work may c old e new r
came_then_job work may one c d e old mid new r all a b =
    came_then job.Tree job.Tree work may c d e old mid new taken r refl a (came_given job.Tree work one may d e mid new r (λ w given tells m k. all w m) b)

-- calls of the tree first
pub came_first : {hits : List ℕ → Type 0} {n : ℕ} {A : Type 0} (work : List ℕ) (may : Wanted → Type 0) (c d : CoreState) (old new : Seen) (r : Result A TreeErr) (x : A)
    → r ≡ Ok x → Came tree.Failed hits n work may c old d new r → Came job.Tree hits n work may c old d new taken
came_first work may c d old new r x is a = came_fine work may c d old new r x tt is a

-- what holds at the end of calls that went well
pub keeps_then : {hits : List ℕ → Type 0} {n : ℕ} {A E : Type 0} (f : E) (work : List ℕ) (may : Wanted → Type 0) (c d : CoreState) (old new : Seen) (r : Result A E) (x : A) (w : Wanted) → r ≡ Ok x → IsGiven w work → old.tells ≡ true → may w
    → Keeps w c (state_of old.past) → Came f hits n work may c old d new r → Keeps w d (state_of new.past)
keeps_then f work may c d old new r x w is given tells m k a = at_ok r x _ is ((a.goes tells).keeps w given m k)
  where
    at_ok : {A E : Type 0} (r : Result A E) (x : A) (P : Type 0) → r ≡ Ok x → OnOk r P → P
    at_ok r x P e h = rw e at h
