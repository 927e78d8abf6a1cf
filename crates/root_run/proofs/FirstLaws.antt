-- Until a start changes the tree: it is settled and looked at, and where that ends the start, it ends early.
use Rattle.std.proofs.Common.{◌≡◌, ◌≤◌, Bool, true, false, List, refl, sym, ap, subst, ◌∙◌, arith, Result, Ok, Err}
use Rattle.std.specs.Prelude.{ℕ, Option, Some, None, OnOk, IfErr, IsErrOf}
use Rattle.std.specs.Prelude.{IsErrAnd}
use Rattle.std.proofs.lemmas.Result.{err_from_is_err_and}
use Rattle.file_tree.specs.declared.call.Call.TheVariants as call
use Rattle.file_tree.specs.declared.call.Effect.TheVariants as effect
use Rattle.file_tree.specs.declared.node.TreeErr.{TreeErr}
use Rattle.file_tree.specs.declared.node.TreeErr.TheVariants as tree
use Rattle.file_tree.specs.Causes.{HasCause}
use Rattle.file_tree.specs.Images.{State}
use Rattle.file_tree.specs.Moments.{LooksOnly}
use Rattle.file_tree.specs.Seen.{Seen, adds, map_now, now_of}
use Rattle.file_tree.specs.Trees.{TreeMap}
use Rattle.file_tree.proofs.ImageLaws.{state_now}
use Rattle.file_tree.proofs.MomentLaws.{look_calms}
use Rattle.job_types.specs.Settings.{Settings}
use Rattle.work_texts.specs.declared.journal_err.JournalErr.{JournalErr}
use Rattle.work_texts.specs.declared.journal_err.JournalErr.TheVariants as journal
use Rattle.work_texts.specs.declared.key.RunKey.{RunKey}
use Rattle.work_journal.specs.declared.opening.Opened.{Opened}
use Rattle.work_journal.specs.Opening.{Opens}
use Rattle.work_journal.specs.Opening.{Looked as JournalLooked}
use Rattle.root_plan.specs.declared.plan_err.PlanErr.{PlanErr}
use Rattle.root_plan.specs.Looks.{Looked}
use Rattle.root_plan.specs.Plans.{key_of}
use Rattle.root_plan.specs.Roots.{work_folder}
use Rattle.root_plan.specs.Walks.{AreWalked, WalkEnds}
use Rattle.root_plan.proofs.LookLaws.{looked_none, looked_then}
use Rattle.root_run.specs.declared.run_err.RunErr.{RunErr}
use Rattle.root_run.specs.declared.run_err.RunErr.TheVariants as run
use Rattle.root_run.specs.Begun.{Begun as begun}
use Rattle.root_run.specs.RunEnds.{tree_run}
use Rattle.root_run.specs.Starts.{SettledFirst, IsEarly, EndsEarly, HasOpened, FolderLooked, FolderEnds}
use Rattle.root_run.specs.Starts.{FolderEnds as folder}
use Rattle.root_run.specs.Starts.{EarlyEnds as early}

-- the answer of an exit
pub err-row : {A E : Type 0} (s : Result A E) (y : E) (P : E → Type 0) → IsErrAnd s (λ z. z ≡ y) → P y → IfErr s P
err-row {A} {E} s y P e h =
    let p = err_from_is_err_and s e in
    subst (λ (r : Result A E). IfErr r P) (sym p.1) (subst P (sym p.2) h)

pub err-is : {A E : Type 0} (s : Result A E) (y : E) → IsErrAnd s (λ z. z ≡ y) → s ≡ Err y
err-is {A} {E} s y e =
    let p = err_from_is_err_and s e in
    subst (λ (x : E). s ≡ Err x) p.2 p.1

-- ### What a tree that tells holds

pub now-tells : (seen : Seen) → seen.tells ≡ true → now_of seen ≡ Some (map_now seen.past)
now-tells seen tells = rw tells refl

same-some : (t u : TreeMap) → Some t ≡ Some u → t ≡ u
same-some t u e = cc

pub maps-same : (a b : Seen) → a.tells ≡ true → b.tells ≡ true → now_of a ≡ now_of b → map_now a.past ≡ map_now b.past
maps-same a b here there same = same-some (map_now a.past) (map_now b.past) (sym (now-tells a here) ∙ same ∙ now-tells b there)

pub none-tells : (seen : Seen) → seen.tells ≡ false → now_of seen ≡ None
none-tells seen tells = rw tells refl

-- looks leave what it holds
looks-now : (old new : Seen) → new.tells ≡ old.tells → (old.tells ≡ true → LooksOnly old.past new.past) → (b : Bool) → old.tells ≡ b → now_of new ≡ now_of old
looks-now old new tells looks true e =
    let same : map_now new.past ≡ map_now old.past =
    sym (state_now new.past) ∙ ap (λ (s : State). s.now) (look_calms old.past new.past (looks e)) ∙ state_now old.past in
    now-tells new (tells ∙ e) ∙ ap (λ (t : TreeMap). Some t) same ∙ sym (now-tells old e)
looks-now old new tells looks false e = none-tells new (tells ∙ e) ∙ sym (none-tells old e)

pub journal-looked : {A : Type 0} (old new : Seen) (r : Result A JournalErr) → JournalLooked old new r → Looked old new
journal-looked old new r l = record { now = looks-now old new l.tells l.looks old.tells refl; later = l.later; tells = l.tells; looks = l.looks }

-- ### The first settle

settle-failed : (root : List ℕ) (s : Settings) (old new : Seen) (e : TreeErr)
    → (old.tells ≡ true → e ≡ tree.Failed → new.past ≡ adds old.past call.Settle effect.Same) → now_of new ≡ now_of old → new.tells ≡ old.tells
    → HasCause {T = Unit {0}} old new (Err e) → EndsEarly root s old new (tree_run e)
settle-failed root s old new tree.Failed failed now tells cause = record {
  early = record { tells = tells; later = cause.later; now = now; begun = λ t. begun.settling_failed (failed t refl) };
  ends = early.failed (cause.failed refl);
}
settle-failed root s old new tree.NoMemory failed now tells cause = record {
  early = record { tells = tells; later = cause.later; now = now; begun = λ t. begun.not_yet (ap (λ (x : Seen). x.past) (cause.no_memory refl)) };
  ends = early.no_memory;
}

pub err-failed : (r : Result (Unit {0}) TreeErr) (e : TreeErr) → r ≡ Err e → e ≡ tree.Failed → IsErrOf r tree.Failed
err-failed r e is same = is ∙ ap (λ (x : TreeErr). Err x) same

pub settle-early : (root : List ℕ) (s : Settings) (old new : Seen) (r : Result (Unit {0}) TreeErr) (e : TreeErr) → r ≡ Err e
    → (old.tells ≡ true → IsErrOf r tree.Failed → new.past ≡ adds old.past call.Settle effect.Same) → now_of new ≡ now_of old → new.tells ≡ old.tells → HasCause old new r
    → EndsEarly root s old new (tree_run e)
settle-early root s old new r e is failed now tells cause =
    settle-failed root s old new e (λ t same. failed t (err-failed r e is same)) now tells (subst (λ (x : Result (Unit {0}) TreeErr). HasCause old new x) is cause)

pub settled-first : (old new : Seen) (r : Result (Unit {0}) TreeErr) (a : Unit {0}) → r ≡ Ok a → (old.tells ≡ true → OnOk r (new.past ≡ adds old.past call.Settle effect.Settled))
    → now_of new ≡ now_of old → new.tells ≡ old.tells → HasCause old new r → SettledFirst old new
settled-first old new r a is done now tells cause = record {
  mid = new;
  tells = tells;
  later = cause.later;
  now = now;
  settled = λ t. subst (λ (x : Result (Unit {0}) TreeErr). OnOk x (new.past ≡ adds old.past call.Settle effect.Settled)) is (done t);
  looked = looked_none new;
}

-- and looks behind it
pub looked-first : (old mid new : Seen) → SettledFirst old mid → Looked mid new → SettledFirst old new
looked-first old mid new f l = record { mid = f.mid; tells = f.tells; later = f.later; now = f.now; settled = f.settled; looked = looked_then f.mid mid new f.looked l }

pub first-now : (old new : Seen) → SettledFirst old new → now_of new ≡ now_of old
first-now old new f = f.looked.now ∙ f.now

pub first-tells : (old new : Seen) → SettledFirst old new → new.tells ≡ old.tells
first-tells old new f = f.looked.tells ∙ f.tells

pub first-later : (old new : Seen) → SettledFirst old new → old.faults ≤ new.faults
first-later old new f = omega (arith, f.later, f.looked.later)

pub first-early : (old new : Seen) → SettledFirst old new → IsEarly old new
first-early old new f = record {
  tells = first-tells old new f;
  later = first-later old new f;
  now = first-now old new f;
  begun = λ t. begun.settled_first {mid = f.mid.past} (f.settled t) (f.looked.looks (f.tells ∙ t));
}

-- ### Early ends

pub walk-early : (root : List ℕ) (s : Settings) (old mid new : Seen) (e : PlanErr) → SettledFirst old mid → Looked mid new → WalkEnds mid new root e
    → EndsEarly root s old new (run.Plan e)
walk-early root s old mid new e f l ends = record {
  early = first-early old new (looked-first old mid new f l);
  ends = early.walking mid (first-now old mid f) (first-later old mid f) ends;
}

pub memory-early : (root : List ℕ) (s : Settings) (old new : Seen) → SettledFirst old new → EndsEarly root s old new (run.Journal journal.NoMemory)
memory-early root s old new f = record { early = first-early old new f; ends = early.no_memory }

-- ### The work folder

-- it was looked at by its name and the key of these words
pub folder-looked : (root work : List ℕ) (s : Settings) (key : RunKey) (paths : List (List ℕ)) (old new : Seen) (result : Result Opened JournalErr) → work ≡ work_folder root → key ≡ key_of s
    → Opens work paths key old result → JournalLooked old new result → FolderLooked root s paths old new result
folder-looked root work s key paths old new result work_is key_is opens looked = record {
  opens = subst (λ (k : RunKey). Opens (work_folder root) paths k old result) key_is (subst (λ (w : List ℕ). Opens w paths key old result) work_is opens);
  looked = looked;
}

pub folder-is : (root : List ℕ) (s : Settings) (paths : List (List ℕ)) (old new : Seen) (r q : Result Opened JournalErr) → r ≡ q
    → FolderLooked root s paths old new r → FolderLooked root s paths old new q
folder-is root s paths old new r q is l = subst (λ (x : Result Opened JournalErr). FolderLooked root s paths old new x) is l

-- of the same paths
pub looked-of : (root : List ℕ) (s : Settings) (given paths : List (List ℕ)) (old new : Seen) (r : Result Opened JournalErr) → given ≡ paths
    → FolderLooked root s given old new r → FolderLooked root s paths old new r
looked-of root s given paths old new r same l = subst (λ (ps : List (List ℕ)). FolderLooked root s ps old new r) same l

pub ends-of : (root : List ℕ) (s : Settings) (given paths : List (List ℕ)) (old new : Seen) (e : RunErr) → given ≡ paths
    → FolderEnds root s given old new e → FolderEnds root s paths old new e
ends-of root s given paths old new e same l = subst (λ (ps : List (List ℕ)). FolderEnds root s ps old new e) same l

module _ (root : List ℕ) (s : Settings) (paths : List (List ℕ)) (old first_ mid new : Seen) (f : SettledFirst old first_)
    (walk : Looked first_ mid) (walked : AreWalked (now_of first_) root paths) where
  at-mid : SettledFirst old mid
  at-mid = looked-first old first_ mid f walk

  walked-here : AreWalked (now_of old) root paths
  walked-here = subst (λ (m : Option TreeMap). AreWalked m root paths) (first-now old first_ f) walked

  first-new : (r : Result Opened JournalErr) → JournalLooked mid new r → SettledFirst old new
  first-new r looked = looked-first old mid new at-mid (journal-looked mid new r looked)

  pub folder-early : (e : RunErr) → FolderEnds root s paths mid new e → EndsEarly root s old new e
  folder-early e (folder.no_memory same) = memory-early root s old new (subst (λ (x : Seen). SettledFirst old x) (sym same) at-mid)
  folder-early e (folder.opening {e = j} l) = record {
    early = first-early old new (first-new (Err j) l.looked);
    ends = early.opening mid paths (first-tells old mid at-mid) (first-now old mid at-mid) walked-here l.opens
        (λ same. let more = l.looked.failed (ap (λ (x : JournalErr). Err x) same) in omega (arith, more, first-later old mid at-mid));
  }

  pub folder-found : (o : Opened) → FolderLooked root s paths mid new (Ok o) → HasOpened root s paths o old new
  folder-found o l = record {
    first = first-new (Ok o) l.looked;
    walked = walked-here;
    at = mid;
    at_tells = first-tells old mid at-mid;
    at_now = first-now old mid at-mid;
    opens = l.opens;
  }
