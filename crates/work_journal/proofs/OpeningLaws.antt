-- A work folder is only looked at, and each answer of its texts has its row.
use Rattle.std.specs.Str.{bytes_eq}
use Rattle.std.proofs.lemmas.Bool.{cases_Bool}
use Rattle.std.proofs.lemmas.List.Folds.{list_any_more}
use Rattle.work_journal.specs.Work.{has_path}
use Rattle.std.proofs.Common.{◌≡◌, ◌≢◌, ℕ, zero, suc, ◌+◌, ◌<◌, Bool, ◌||◌, inl, inr, get_or, length, take, true, false, List, [], ◌∷◌, ◌++◌, refl, sym, ◌∙◌, ap, subst, arith}
use Rattle.std.specs.Prelude.{Result, Ok, Err, OnOk, IsErrOf, IsErrAnd, Some, IfOk, IfErr}
use Rattle.std.proofs.lemmas.Result.{err_from_is_err_and}
use Rattle.file_tree.specs.declared.node.Found.{Found}
use Rattle.file_tree.specs.declared.node.Found.TheVariants as found
use Rattle.file_tree.specs.declared.node.TreeErr.{TreeErr}
use Rattle.file_tree.specs.declared.node.TreeErr.TheVariants as tree
use Rattle.file_tree.specs.declared.call.Call.TheVariants as call
use Rattle.file_tree.specs.declared.call.Effect.TheVariants as effect
use Rattle.file_tree.specs.Causes.{HasCause, Stood}
use Rattle.file_tree.specs.Moments.{LooksOnly}
use Rattle.file_tree.specs.Seen.{Past, Happened, Seen, adds, now_of, map_now}
use Rattle.work_texts.specs.declared.journal_err.JournalErr.{JournalErr}
use Rattle.work_texts.specs.declared.journal_err.JournalErr.TheVariants as run
use Rattle.work_texts.specs.declared.journal_err.WorkFile.{WorkFile}
use Rattle.work_texts.specs.declared.key.RunKey.{RunKey}
use Rattle.work_texts.specs.Rules.{text_limit}
use Rattle.work_journal.specs.declared.opening.Opened.{Opened}
use Rattle.work_journal.specs.Blames.{run_fault}
use Rattle.file_tree.specs.declared.text.Blob.{Blob}
use Rattle.work_texts.specs.BadFields.{PlanBlames, FinishedBlames}
use Rattle.work_texts.specs.Keys.{KeyBlames}
use Rattle.work_journal.specs.Opening.{IsFileOf, IsBadFound, TextStands, bad_place, NoText, TextBlames, no_text, text_fault, text_memory, Looked}

abbrev run_err : {B : Type 0} → JournalErr → Result B JournalErr
run_err y = Err y

abbrev run_ok : {B : Type 0} → B → Result B JournalErr
run_ok b = Ok b

append_nil : (hs : List Happened) → hs ++ [] ≡ hs
append_nil [] = refl
append_nil (h ∷ hs) = ap (λ (l : List Happened). h ∷ l) (append_nil hs)

looks_none : (old new : Past) → new ≡ old → LooksOnly old new
looks_none old new same = record { rest = []; first = ap (λ (p : Past). p.first) same; log = ap (λ (p : Past). p.log) same ∙ sym (append_nil old.log); each = refl }

looks_one : (old new : Past) (path : List ℕ) → new ≡ adds old (call.Read path) effect.Same → LooksOnly old new
looks_one old new path same = record { rest = (record { call = call.Read path; effect = effect.Same }) ∷ []; first = ap (λ (p : Past). p.first) same; log = ap (λ (p : Past). p.log) same; each = refl }

-- nothing was called
pub looked_none : {A : Type 0} (seen : Seen) (r : Result A JournalErr) → (IsErrOf r run.Tree → ⊥) → Looked seen seen r
looked_none seen r none = record { tells = refl; later = omega arith; failed = λ h. absurd (none h); looks = λ tells. looks_none seen.past seen.past refl }

no_memory_tree : {A : Type 0} (r : Result A JournalErr) → IsErrAnd r (λ e. e ≡ run.NoMemory) → IsErrOf r run.Tree → ⊥
no_memory_tree r is h =
    let p = err_from_is_err_and r is in
    let now : r ≡ Err run.NoMemory = rw p.2 at p.1 in
    let d : run.NoMemory ≡ run.Tree = same r run.NoMemory run.Tree now h in cc
  where
    same : {A : Type 0} (r : Result A JournalErr) (x y : JournalErr) → r ≡ Err x → r ≡ Err y → x ≡ y
    same r x y a b = cc

pub looked_memory : {A : Type 0} (seen : Seen) (r : Result A JournalErr) → IsErrAnd r (λ e. e ≡ run.NoMemory) → Looked seen seen r
looked_memory seen r is = looked_none seen r (no_memory_tree r is)

-- a read
read_looks : {A : Type 0} (old new : Seen) (r : Result A TreeErr) (path : List ℕ) → OnOk r (new.past ≡ adds old.past (call.Read path) effect.Same)
    → (IsErrOf r tree.Failed → new.past ≡ adds old.past (call.Read path) effect.Same) → (IsErrOf r tree.NoMemory → new ≡ old) → LooksOnly old.past new.past
read_looks old new (Ok a) path made failed none = looks_one old.past new.past path made
read_looks old new (Err tree.Failed) path made failed none = looks_one old.past new.past path (failed refl)
read_looks old new (Err tree.NoMemory) path made failed none = looks_none old.past new.past (ap (λ (s : Seen). s.past) (none refl))

pub looked_read : {A B : Type 0} (old new : Seen) (r : Result A TreeErr) (s : Result B JournalErr) (path : List ℕ)
    → (old.tells ≡ true → OnOk r (new.past ≡ adds old.past (call.Read path) effect.Same))
    → (old.tells ≡ true → IsErrOf r tree.Failed → new.past ≡ adds old.past (call.Read path) effect.Same)
    → HasCause old new r → new.tells ≡ old.tells → (IsErrOf s run.Tree → IsErrOf r tree.Failed) → Looked old new s
looked_read old new r s path made failed cause tells fault = record {
  tells = tells;
  later = cause.later;
  failed = λ h. cause.failed (fault h);
  looks = λ t. read_looks old new r path (made t) (failed t) cause.no_memory;
}

pub fault_of : {A B : Type 0} (r : Result A TreeErr) (x : TreeErr) (y : JournalErr) → r ≡ Err x → y ≡ run_fault x → IsErrOf (run_err {B = B} y) run.Tree → IsErrOf r tree.Failed
fault_of {B = B} r tree.Failed y is of h = is
fault_of {B = B} r tree.NoMemory y is of h = let d : run.NoMemory ≡ run.Tree = sym of ∙ same y run.Tree h in cc
  where
    same : (a b : JournalErr) → run_err {B = B} a ≡ Err b → a ≡ b
    same a b e = cc

-- an answer passed on
pub looked_passed : {A B : Type 0} (old new : Seen) (r : Result A JournalErr) (s : Result B JournalErr) → (IsErrOf s run.Tree → IsErrOf r run.Tree) → Looked old new r → Looked old new s
looked_passed old new r s fault a = record { tells = a.tells; later = a.later; failed = λ h. a.failed (fault h); looks = a.looks }

pub fault_passed : {A B : Type 0} (r : Result A JournalErr) (s : Result B JournalErr) (x : JournalErr) → r ≡ Err x → IsErrAnd s (λ y. y ≡ x) → IsErrOf s run.Tree → IsErrOf r run.Tree
fault_passed r s x is e h =
    let p = err_from_is_err_and s e in
    let now : s ≡ Err x = rw p.2 at p.1 in
    is ∙ ap (λ (y : JournalErr). Err y) (same s x run.Tree now h)
  where
    same : {B : Type 0} (s : Result B JournalErr) (x y : JournalErr) → s ≡ Err x → s ≡ Err y → x ≡ y
    same s x y a b = cc

-- no fault of the tree
pub not_fault : {B : Type 0} (s : Result B JournalErr) (x : JournalErr) → IsErrAnd s (λ y. y ≡ x) → x ≢ run.Tree → IsErrOf s run.Tree → ⊥
not_fault s x e other h =
    let p = err_from_is_err_and s e in
    let now : s ≡ Err x = rw p.2 at p.1 in
    other (same s x run.Tree now h)
  where
    same : {B : Type 0} (s : Result B JournalErr) (x y : JournalErr) → s ≡ Err x → s ≡ Err y → x ≡ y
    same s x y a b = cc

-- ### What stands at a text's path

pub text_stands : (seen : Seen) (path bytes : List ℕ) (mode : ℕ) → Stood (now_of seen) path text_limit (found.File bytes mode) → TextStands seen path bytes
text_stands seen path bytes mode stood = record { mode = mode; is = λ tells. stood.is (map_now seen.past) (rw tells refl) }

pub no_text_stands : (seen : Seen) (path : List ℕ) (x : Found) (at : ℕ) → Stood (now_of seen) path text_limit x → bad_place x ≡ Some at → NoText seen path at
no_text_stands seen path x at stood bad = record { is = λ tells. ap bad_place (stood.is (map_now seen.past) (rw tells refl)) ∙ bad }

pub other_place : (x : Found) → ((b : List ℕ) (m : ℕ) → x ≢ found.File b m) → ((n : ℕ) → x ≢ found.TooLarge n) → bad_place x ≡ Some 0
other_place found.Absent a b = refl
other_place found.Folder a b = refl
other_place (found.File c m) a b = absurd (a c m refl)
other_place (found.Link t) a b = refl
other_place (found.TooLarge n) a b = absurd (b n refl)

pub found_stands : (seen : Seen) (path : List ℕ) (x : Found) (s : Result Blob JournalErr) → Stood (now_of seen) path text_limit x → IfOk s (IsFileOf x) → IfOk s (λ b. TextStands seen path b)
found_stands seen path x (Ok b) stood h = text_stands seen path b h.mode (subst (λ (y : Found). Stood (now_of seen) path text_limit y) h.is stood)
found_stands seen path x (Err e) stood h = tt

pub found_blames : (seen : Seen) (path : List ℕ) (f : WorkFile) (x : Found) (s : Result Blob JournalErr) → Stood (now_of seen) path text_limit x → IfErr s (IsBadFound x f) → IfErr s (TextBlames seen path f)
found_blames seen path f x (Ok b) stood h = tt
found_blames seen path f x (Err e) stood h = subst (λ (y : JournalErr). TextBlames seen path f y) (sym h.is) (no_text h.at (no_text_stands seen path x h.at stood h.place))

pub found_fault : (f : WorkFile) (x : Found) (s : Result Blob JournalErr) → IfErr s (IsBadFound x f) → IsErrOf s run.Tree → ⊥
found_fault f x (Ok b) h e = let d : Ok b ≡ Err run.Tree = e in cc
found_fault f x (Err y) h e = let d : run.PlanText f h.at ≡ run.Tree = sym h.is ∙ same y run.Tree e in cc
  where
    same : (a b : JournalErr) → run_err {B = Blob} a ≡ Err b → a ≡ b
    same a b e = cc

pub key_fault : (k l : RunKey) (e : JournalErr) → KeyBlames k l e → e ≢ run.Tree
key_fault k l (run.OtherRun field a b) h is = let d : run.OtherRun field a b ≡ run.Tree = is in cc
key_fault k l run.NoMemory h is = let d : run.NoMemory ≡ run.Tree = is in cc
key_fault k l (run.PlanText f at) h is = let d : run.PlanText f at ≡ run.Tree = is in cc
key_fault k l (run.Changed p a b) h is = let d : run.Changed p a b ≡ run.Tree = is in cc
key_fault k l (run.Refused p r) h is = let d : run.Refused p r ≡ run.Tree = is in cc
key_fault k l run.Tree h is = absurd (h.2)

pub plan_fault : (b : List ℕ) (e : JournalErr) → PlanBlames b e → e ≢ run.Tree
plan_fault b (run.PlanText f at) h is = let d : run.PlanText f at ≡ run.Tree = is in cc
plan_fault b run.NoMemory h is = let d : run.NoMemory ≡ run.Tree = is in cc
plan_fault b (run.OtherRun field k g) h is = let d : run.OtherRun field k g ≡ run.Tree = is in cc
plan_fault b (run.Changed p a c) h is = let d : run.Changed p a c ≡ run.Tree = is in cc
plan_fault b (run.Refused p r) h is = let d : run.Refused p r ≡ run.Tree = is in cc
plan_fault b run.Tree h is = absurd h

pub finished_fault : (b : List ℕ) (e : JournalErr) → FinishedBlames b e → e ≢ run.Tree
finished_fault b (run.PlanText f at) h is = let d : run.PlanText f at ≡ run.Tree = is in cc
finished_fault b run.NoMemory h is = let d : run.NoMemory ≡ run.Tree = is in cc
finished_fault b (run.OtherRun field k g) h is = let d : run.OtherRun field k g ≡ run.Tree = is in cc
finished_fault b (run.Changed p a c) h is = let d : run.Changed p a c ≡ run.Tree = is in cc
finished_fault b (run.Refused p r) h is = let d : run.Refused p r ≡ run.Tree = is in cc
finished_fault b run.Tree h is = absurd h

-- an answer after looks that went well
pub looked_more : {A B C : Type 0} (old new : Seen) (r : Result A JournalErr) (t : Result C JournalErr) (s : Result B JournalErr) (x : JournalErr) (Blames : JournalErr → Type 0) → ((y : JournalErr) → Blames y → y ≢ run.Tree)
    → t ≡ Err x → IsErrAnd s (λ y. y ≡ x) → IfErr t Blames → Looked old new r → Looked old new s
looked_more old new r t s x Blames other is e h a = looked_passed old new r s (λ f. absurd (not_fault s x e (other x (at_err t x Blames is h)) f)) a
  where
    at_err : {A : Type 0} (r : Result A JournalErr) (x : JournalErr) (Q : JournalErr → Type 0) → r ≡ Err x → IfErr r Q → Q x
    at_err r x Q is h = rw is at h

pub looked_ok : {A B : Type 0} (old new : Seen) (r : Result A JournalErr) (b : B) → Looked old new r → Looked old new (run_ok b)
looked_ok old new r b a = looked_passed old new r (run_ok b) (λ h. absurd (let d : run_ok b ≡ Err run.Tree = h in cc)) a

pub fault_blames : (seen : Seen) (path : List ℕ) (f : WorkFile) (x : TreeErr) (y : JournalErr) → y ≡ run_fault x → TextBlames seen path f y
fault_blames seen path f tree.Failed y e = subst (λ (z : JournalErr). TextBlames seen path f z) (sym e) text_fault
fault_blames seen path f tree.NoMemory y e = subst (λ (z : JournalErr). TextBlames seen path f z) (sym e) text_memory

-- ### An error has its row

pub row_of : {A : Type 0} (P : Result Opened JournalErr → Type 0) (r : Result A JournalErr) (s : Result Opened JournalErr) (x : JournalErr) (Blames : JournalErr → Type 0) → r ≡ Err x → IsErrAnd s (λ y. y ≡ x) → IfErr r Blames → ((y : JournalErr) → Blames y → P (Err y)) → P s
row_of P r s x Blames is e h row =
    let p = err_from_is_err_and s e in
    let now : s ≡ Err x = rw p.2 at p.1 in
    subst P (sym now) (row x (at_err r x Blames is h))
  where
    at_err : {A : Type 0} (r : Result A JournalErr) (x : JournalErr) (Q : JournalErr → Type 0) → r ≡ Err x → IfErr r Q → Q x
    at_err r x Q is h = rw is at h

pub memory_row : (P : Result Opened JournalErr → Type 0) (s : Result Opened JournalErr) → IsErrAnd s (λ y. y ≡ run.NoMemory) → P (Err run.NoMemory) → P s
memory_row P s e row =
    let p = err_from_is_err_and s e in
    let now : s ≡ Err run.NoMemory = rw p.2 at p.1 in
    subst P (sym now) row

-- ### A path among others

or_true : (b : Bool) → (b || true) ≡ true
or_true true = refl
or_true false = refl

among_by : (paths : List (List ℕ)) (i : ℕ) (path : List ℕ) → has_path (take i paths) path ≡ true → has_path paths path ≡ true
among_by [] zero path h = h
among_by [] (suc i) path h = h
among_by (p ∷ ps) zero path h = absurd (let d : false ≡ true = h in cc)
among_by (p ∷ ps) (suc i) path h = elim (cases_Bool (bytes_eq path p)) [
  | inl y ↦ rw y refl
  | inr n ↦ (let rest : has_path (take i ps) path ≡ true = rw n at h in rw n (among_by ps i path rest))
]

pub eq_as : (path text p : List ℕ) (r b : Bool) → r ≡ bytes_eq path text → text ≡ p → r ≡ b → bytes_eq path p ≡ b
eq_as path text p r b value is so = ap (λ (q : List ℕ). bytes_eq path q) (sym is) ∙ sym value ∙ so

pub among_here : (paths : List (List ℕ)) (i : ℕ) (p path d : List ℕ) → i < length paths → p ≡ get_or paths i d → bytes_eq path p ≡ true → true ≡ has_path paths path
among_here paths i p path d l is same = sym (among_by paths (i + 1) path (list_any_more (bytes_eq path) paths i d l
    ∙ ap (λ (b : Bool). has_path (take i paths) path || b) (ap (λ (q : List ℕ). bytes_eq path q) (sym is) ∙ same) ∙ or_true (has_path (take i paths) path)))

pub among_not : (paths : List (List ℕ)) (i : ℕ) (p path d : List ℕ) → i < length paths → p ≡ get_or paths i d → bytes_eq path p ≡ false → has_path (take i paths) path ≡ false → has_path (take (i + 1) paths) path ≡ false
among_not paths i p path d l is other so_far = list_any_more (bytes_eq path) paths i d l
    ∙ ap (λ (b : Bool). b || bytes_eq path (get_or paths i d)) so_far ∙ ap (λ (q : List ℕ). bytes_eq path q) (sym is) ∙ other
