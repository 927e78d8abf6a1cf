-- A run from a start to its end, call by call.
use Rattle.std.proofs.Common.{◌≡◌, ◌≢◌, ◌⊎◌, inl, inr, ℕ, suc, zero, ◌+◌, ◌≤◌, ◌<◌, Bool, true, false, List, [], ◌∷◌, ◌||◌, if◌then◌else◌, length, get_or, map, refl, sym, ◌∙◌, ap, subst, arith, IsTrue}
use Rattle.std.specs.Prelude.{Result, Ok, Err, OnOk, IfErr, IsOk, IsErr, IsErrOf, IsErrAnd, replicate}
use Rattle.std.proofs.lemmas.Result.{err_from_is_err_and}
use Rattle.std.specs.Str.{bytes_eq}
use Rattle.std.proofs.lemmas.List.{length-replicate, get_or-replicate, length-map}
use Rattle.std.proofs.lemmas.Slice.Eq.{bytes_eq-Decides}
use Rattle.dw_base.specs.declared.fault.Refusal.{Refusal}
use Rattle.file_tree.specs.declared.node.Node.{Node}
use Rattle.file_tree.specs.declared.node.TreeErr.{TreeErr}
use Rattle.file_tree.specs.declared.node.TreeErr.TheVariants as tree
use Rattle.file_tree.specs.Seen.{Past, Seen, map_now}
use Rattle.file_tree.specs.Trees.{TreeMap}
use Rattle.file_tree.specs.Images.{state_of}
use Rattle.file_tree.proofs.ImageLaws.{state_now}
use Rattle.journal_core.specs.declared.event.JobState.{JobState}
use Rattle.journal_core.specs.declared.event.JobState.TheVariants.{Fresh, Done}
use Rattle.journal_core.specs.declared.event.Phase.TheVariants.{Empty, Running, Closed, Renewing}
use Rattle.journal_core.specs.declared.event.Event.TheVariants.{Settle}
use Rattle.journal_core.specs.Names.{final}
use Rattle.journal_core.specs.Table.{CoreState, all_done, new_core, closed_core, old_core, settled_job, after}
use Rattle.journal_core.proofs.Rows.{settled_at}
use Rattle.work_texts.specs.declared.journal_err.JournalErr.{JournalErr}
use Rattle.work_texts.specs.declared.journal_err.JournalErr.TheVariants as run
use Rattle.work_journal.specs.Views.{MakerView, Makes}
use Rattle.work_journal.specs.Work.{work_path, has_path}
use Rattle.work_journal.specs.Wanted.{Wanted}
use Rattle.work_journal.specs.Keeps.{Keeps}
use Rattle.work_journal.specs.Ending.{IsEnding}
use Rattle.work_journal.specs.Laws.{IsEnded}
use Rattle.work_journal.specs.Rounds.{is_found, IsBegun, AreDone}
use Rattle.work_journal.specs.Runs.{Goes, Came}
use Rattle.work_journal.specs.Settling.{Keeping}
use Rattle.work_journal.specs.Blames.{run_fault, RunBlames, is_mild_run}
use Rattle.work_journal.specs.Finishing.{IsStart, is_new, is_begun, is_over, is_renewing, IsPlanned, has_begun, has_ended, AreJobs, AreTold, IsRun, end_paths, FinishRan}
use Rattle.work_journal.proofs.GoesLaws.{came_failed, came_still, came_given}
use Rattle.work_journal.proofs.RestartLaws.{end_whole}

-- ### Calls that are answered by another error, or by another value

on_any : {B F : Type 0} (s : Result B F) (P : Type 0) → P → OnOk s P
on_any (Ok b) P p = p
on_any (Err e) P p = tt

of_ok : {A E : Type 0} (r : Result A E) (P : Type 0) → IsOk r → OnOk r P → P
of_ok (Ok a) P is h = h
of_ok (Err e) P is h = let d : false ≡ true = is in absurd (cc)

goes_ok : {A E B F : Type 0} (work : List ℕ) (may : Wanted → Type 0) (c d : CoreState) (old new : Past) (r : Result A E) (s : Result B F) → IsOk r → Goes work may c old d new r → Goes work may c old d new s
goes_ok work may c d old new r s is a = record {
  ran = record { rest = a.ran.rest; last = a.ran.last; first = a.ran.first; log = a.ran.log; runs = a.ran.runs; ends = on_any s _ (of_ok r _ is a.ran.ends) };
  moments = a.moments;
  keeps = λ w given m k. on_any s _ (of_ok r _ is (a.keeps w given m k));
}

pub came_to : {hits : List ℕ → Type 0} {n : ℕ} {A E B F : Type 0} (f : E) (g : F) (work : List ℕ) (may : Wanted → Type 0) (c d : CoreState) (old new : Seen) (r : Result A E) (s : Result B F) → (IsErr s ⊎ IsOk r) → (IsErrOf s g → IsErrOf r f)
    → Came f hits n work may c old d new r → Came g hits n work may c old d new s
came_to f g work may c d old new r s (inl is) fault a = came_failed f g work may c d d old new r s is fault a
came_to f g work may c d old new r s (inr ok) fault a = record { tells = a.tells; later = a.later; failed = λ h. a.failed (fault h); spares = a.spares; goes = λ tells. goes_ok work may c d old.past new.past r s ok (a.goes tells) }

abbrev pub run_ok : Result (Unit {0}) JournalErr
run_ok = Ok tt

abbrev ok_of : {B : Type 0} → B → Result B JournalErr
ok_of b = Ok b

abbrev pub run_err : {B : Type 0} → JournalErr → Result B JournalErr
run_err y = Err y

pub came_done : {hits : List ℕ → Type 0} {n : ℕ} {A : Type 0} (work : List ℕ) (may : Wanted → Type 0) (c d : CoreState) (old new : Seen) (r : Result A TreeErr) → IsOk r → Came tree.Failed hits n work may c old d new r → Came run.Tree hits n work may c old d new run_ok
came_done work may c d old new r is a = came_to tree.Failed run.Tree work may c d old new r run_ok (inr is) (λ h. absurd (let e : run_ok ≡ Err run.Tree = h in cc)) a

-- a value made of one that was answered
abbrev tree_ok : {B : Type 0} → B → Result B TreeErr
tree_ok b = Ok b

pub came_listed : {hits : List ℕ → Type 0} {n : ℕ} {A B : Type 0} (work : List ℕ) (may : Wanted → Type 0) (c d : CoreState) (old new : Seen) (r : Result A TreeErr) (b : B) → IsOk r → Came tree.Failed hits n work may c old d new r → Came tree.Failed hits n work may c old d new (tree_ok b)
came_listed work may c d old new r b is a = came_to tree.Failed tree.Failed work may c d old new r (tree_ok b) (inr is) (λ h. absurd (let e : tree_ok b ≡ Err tree.Failed = h in cc)) a

same_err : {B : Type 0} (a b : JournalErr) → run_err {B = B} a ≡ Err b → a ≡ b
same_err a b h = cc

stopped_fault : {A B : Type 0} (r : Result A TreeErr) (x : TreeErr) (y : JournalErr) → r ≡ Err x → y ≡ run_fault x → run_err {B = B} y ≡ Err run.Tree → r ≡ Err tree.Failed
stopped_fault {B = B} r tree.Failed y is of h = is
stopped_fault {B = B} r tree.NoMemory y is of h = let d : run.NoMemory ≡ run.Tree = sym of ∙ same_err {B = B} y run.Tree h in cc

pub came_stopped : {hits : List ℕ → Type 0} {n : ℕ} {A B : Type 0} (work : List ℕ) (may : Wanted → Type 0) (c d : CoreState) (old new : Seen) (r : Result A TreeErr) (x : TreeErr) (y : JournalErr) → r ≡ Err x → y ≡ run_fault x
    → Came tree.Failed hits n work may c old d new r → Came run.Tree hits n work may c old d new (run_err {B = B} y)
came_stopped {B = B} work may c d old new r x y is of a = came_to tree.Failed run.Tree work may c d old new r (run_err {B = B} y) (inl refl) (stopped_fault {B = B} r x y is of) a

at_err : {A E : Type 0} (r : Result A E) (x : E) (P : E → Type 0) → r ≡ Err x → IfErr r P → P x
at_err r x P is h = rw is at h

-- memory ran out before any call
pub came_no_text : {hits : List ℕ → Type 0} {n : ℕ} {A B : Type 0} (work : List ℕ) (may : Wanted → Type 0) (c : CoreState) (seen : Seen) (r : Result B JournalErr) (s : Result A JournalErr) (x : JournalErr)
    → r ≡ Err x → IsErrAnd s (λ y. y ≡ x) → IfErr r (λ e. e ≡ run.NoMemory) → Came run.Tree hits n work may c seen c seen s
came_no_text {A = A} work may c seen r s x was is none =
    let p = err_from_is_err_and s is in
    let now : s ≡ Err x = rw p.2 at p.1 in
    let e : x ≡ run.NoMemory = at_err r x (λ y. y ≡ run.NoMemory) was none in
    came_still run.Tree work may c seen s (λ h. let d : run_err {B = A} run.NoMemory ≡ run_err {B = A} run.Tree = ap (λ (y : JournalErr). run_err {B = A} y) (sym e) ∙ sym now ∙ h in cc)

pub no_text_mild : {A B : Type 0} (r : Result B JournalErr) (s : Result A JournalErr) (x : JournalErr) → r ≡ Err x → IsErrAnd s (λ y. y ≡ x) → IfErr r (λ e. e ≡ run.NoMemory) → IfErr s (λ e. IsTrue (is_mild_run e))
no_text_mild r s x was is none =
    let p = err_from_is_err_and s is in
    let now : s ≡ Err x = rw p.2 at p.1 in
    let e : x ≡ run.NoMemory = at_err r x (λ y. y ≡ run.NoMemory) was none in
    rw (now, e) refl

pub on_ok_kept : {A E : Type 0} (P Q : Type 0) (s : Result A E) → (P → Q) → OnOk s P → OnOk s Q
on_ok_kept P Q (Ok x) all p = all p
on_ok_kept P Q (Err e) all p = tt

-- an error that names no file
pub mild_blames : {A : Type 0} (v : MakerView) (refuses : ℕ → List ℕ → Refusal → Type 0) (seen : Seen) (s : Result A JournalErr) → IfErr s (λ e. IsTrue (is_mild_run e)) → IfErr s (RunBlames v refuses seen)
mild_blames v refuses seen (Ok x) h = tt
mild_blames v refuses seen (Err (run.Changed p a b)) h = let d : false ≡ true = h in absurd (cc)
mild_blames v refuses seen (Err (run.Refused p q)) h = let d : false ≡ true = h in absurd (cc)
mild_blames v refuses seen (Err run.Tree) h = tt
mild_blames v refuses seen (Err run.NoMemory) h = tt
mild_blames v refuses seen (Err (run.PlanText f at)) h = let d : false ≡ true = h in absurd (cc)
mild_blames v refuses seen (Err (run.OtherRun field a b)) h = let d : false ≡ true = h in absurd (cc)

pub stopped_blames : (v : MakerView) (refuses : ℕ → List ℕ → Refusal → Type 0) (seen : Seen) (x : TreeErr) (y : JournalErr) → y ≡ run_fault x → RunBlames v refuses seen y
stopped_blames v refuses seen tree.Failed y e = subst (λ (z : JournalErr). RunBlames v refuses seen z) (sym e) tt
stopped_blames v refuses seen tree.NoMemory y e = subst (λ (z : JournalErr). RunBlames v refuses seen z) (sym e) tt

pub stopped_mild : (x : TreeErr) (y : JournalErr) → y ≡ run_fault x → IsTrue (is_mild_run y)
stopped_mild tree.Failed y e = rw e refl
stopped_mild tree.NoMemory y e = rw e refl

-- another value of calls that went well
pub came_value : {hits : List ℕ → Type 0} {n : ℕ} {A B : Type 0} (work : List ℕ) (may : Wanted → Type 0) (c d : CoreState) (old new : Seen) (r : Result A JournalErr) (x : A) (b : B) → r ≡ Ok x → Came run.Tree hits n work may c old d new r → Came run.Tree hits n work may c old d new (ok_of b)
came_value work may c d old new r x b is a = came_to run.Tree run.Tree work may c d old new r (ok_of b) (inr (rw is refl)) (λ h. absurd (let e : ok_of b ≡ Err run.Tree = h in cc)) a

-- ### From jobs that are done to the end

each_done : (ss : List JobState) → ((i : ℕ) → i < length ss → get_or ss i Done ≡ Done) → IsTrue (all_done ss)
each_done [] each = refl
each_done (s ∷ ss) each =
    let first : s ≡ Done = each 0 (omega arith) in
    let rest : all_done ss ≡ true = each_done ss (λ i l. each (suc i) (omega arith)) in
    rw (first, rest) refl

pub done_ends : (v : MakerView) (c : CoreState) → AreDone v c → IsEnding c
done_ends v c a = record { running = a.under.running; done = each_done c.states (λ i l. a.each i (let n = a.under.same_length in omega (arith, n))) }

-- ### From a start to a plan

new_states : (n i : ℕ) → i < n → settled_job (get_or (replicate n (Fresh 0)) i Done) ≡ Fresh 0
new_states n i l = rw (get_or-replicate n i (Fresh 0) Done l) refl

pub kept_begun : (v : MakerView) (c d : CoreState) → c ≡ new_core v.steps → Keeping c d → IsBegun v d
kept_begun v c d is k =
    let n = length v.steps in
    let states : d.states ≡ map settled_job (replicate (length v.steps) (Fresh 0)) = k.states_are ∙ ap (λ (x : CoreState). map settled_job x.states) is in
    record {
      under = record {
        running = k.running;
        steps_are = k.steps_are ∙ ap (λ (x : CoreState). x.steps) is;
        same_length = ap (λ (l : List JobState). length l) states ∙ length-map (replicate (length v.steps) (Fresh 0)) settled_job ∙ length-replicate (length v.steps) (Fresh 0);
      };
      found = λ i l. subst (λ (s : JobState). IsTrue (is_found (get_or v.steps i 0) s))
          (sym (ap (λ (ss : List JobState). get_or ss i Done) states ∙ settled_at (replicate (length v.steps) (Fresh 0)) i ∙ new_states (length v.steps) i l)) refl;
    }

pub start_new : (v : MakerView) (c : CoreState) → IsStart v c → c.phase ≡ Empty → c ≡ new_core v.steps
start_new v c (is_new e) h = e
start_new v c (is_begun b) h = let d : Running ≡ Empty = sym b.under.running ∙ h in cc
start_new v c (is_over e) h = let d : Closed ≡ Empty = sym e ∙ h in cc
start_new v c (is_renewing e) h = let d : Renewing false false ≡ Empty = sym (ap (λ (x : CoreState). x.phase) e) ∙ h in cc

pub start_planned : (v : MakerView) (c : CoreState) → IsStart v c → c.phase ≢ Empty → c.phase ≢ Renewing false false → IsPlanned v c
start_planned v c (is_new e) h own = absurd (h (ap (λ (x : CoreState). x.phase) e))
start_planned v c (is_begun b) h own = has_begun b
start_planned v c (is_over e) h own = has_ended e
start_planned v c (is_renewing e) h own = absurd (own (ap (λ (x : CoreState). x.phase) e))

pub ended_start : (v : MakerView) (c : CoreState) (old : Bool) → c ≡ (if old then old_core else closed_core) → IsStart v c
ended_start v c true e = is_renewing e
ended_start v c false e = is_over (ap (λ (x : CoreState). x.phase) e)

pub planned_begun : (v : MakerView) (c : CoreState) → IsPlanned v c → c.phase ≢ Closed → IsBegun v c
planned_begun v c (has_begun b) h = b
planned_begun v c (has_ended e) h = absurd (h e)

-- ### Clearing

apart_of : (a b : List ℕ) → bytes_eq a b ≡ false → a ≢ b
apart_of a b f e = let d : true ≡ false = sym ((bytes_eq-Decides a b).1 e) ∙ f in cc

neither_left : (a b : Bool) → (a || b) ≡ false → a ≡ false
neither_left true b h = let d : true ≡ false = h in cc
neither_left false b h = refl

neither_right : (a b : Bool) → (a || b) ≡ false → b ≡ false
neither_right true b h = let d : true ≡ false = h in cc
neither_right false b h = h

head_not : (q a : List ℕ) (rest : List (List ℕ)) → has_path (a ∷ rest) q ≡ false → q ≢ a
head_not q a rest h = apart_of q a (neither_left (bytes_eq q a) (has_path rest q) h)

rest_not : (q a : List ℕ) (rest : List (List ℕ)) → has_path (a ∷ rest) q ≡ false → has_path rest q ≡ false
rest_not q a rest h = neither_right (bytes_eq q a) (has_path rest q) h

none_of : (q a b c d : List ℕ) → has_path (a ∷ b ∷ c ∷ d ∷ []) q ≡ false → (q ≢ a) × (q ≢ b) × (q ≢ c) × (q ≢ d)
none_of q a b c d h =
    let first = rest_not q a (b ∷ c ∷ d ∷ []) h in
    let second = rest_not q b (c ∷ d ∷ []) first in
    let third = rest_not q c (d ∷ []) second in
    (head_not q a (b ∷ c ∷ d ∷ []) h, head_not q b (c ∷ d ∷ []) first, head_not q c (d ∷ []) second, head_not q d [] third)

pub end_apart : (work q : List ℕ) → has_path (end_paths work) q ≡ false → (i : ℕ) → i < 4 → q ≢ work_path work (final i)
end_apart work q h zero l = (none_of q (work_path work (final 0)) (work_path work (final 1)) (work_path work (final 2)) (work_path work (final 3)) h).0
end_apart work q h (suc zero) l = (none_of q (work_path work (final 0)) (work_path work (final 1)) (work_path work (final 2)) (work_path work (final 3)) h).1
end_apart work q h (suc (suc zero)) l = (none_of q (work_path work (final 0)) (work_path work (final 1)) (work_path work (final 2)) (work_path work (final 3)) h).2
end_apart work q h (suc (suc (suc zero))) l = (none_of q (work_path work (final 0)) (work_path work (final 1)) (work_path work (final 2)) (work_path work (final 3)) h).3
end_apart work q h (suc (suc (suc (suc n)))) l = absurd (omega arith)

pub settled_closed : (c d e : CoreState) → c.phase ≡ Closed → d ≡ c → e ≡ after d Settle → e.phase ≡ Closed
settled_closed c d e closed same next = ap (λ (x : CoreState). x.phase) (next ∙ ap (λ (x : CoreState). after x Settle) same) ∙ (rw closed refl)

-- ### Settles of the plan, of the jobs and their texts, and of the clearing

pub first_of_three : (n : ℕ) → 1 ≤ n + 3
first_of_three n = omega arith

pub two_of_three : (n : ℕ) → 1 + (n + 1) ≤ n + 3
two_of_three n = omega arith

pub all_of_three : (n : ℕ) → 1 + ((n + 1) + 1) ≤ n + 3
all_of_three n = omega arith

-- ### The end

pub finish_ran : {hits : List ℕ → Type 0} {n : ℕ} {A : Type 0} (work : List ℕ) (may : Wanted → Type 0) (c d : CoreState) (old mid new : Seen) (r : Result A JournalErr) → OnOk r (d.phase ≡ Closed) → new ≡ mid → Came run.Tree hits n work may c old d mid r → FinishRan hits n work may c old new r
finish_ran {hits = hits} {n = n} work may c d old mid new r closed same a = subst (λ (s : Seen). FinishRan hits n work may c old s r) (sym same) (record {
  last = d;
  closed = closed;
  came = a;
  ended = λ tells w given m k. whole r w closed ((a.goes tells).keeps w given m k);
})
  where
    whole : {A : Type 0} (s : Result A JournalErr) (w : Wanted) → OnOk s (d.phase ≡ Closed) → OnOk s (Keeps w d (state_of mid.past)) → OnOk s (IsEnded w (map_now mid.past))
    whole (Ok x) w e k = subst (λ (t : TreeMap). IsEnded w t) (state_now mid.past) (end_whole w d (state_of mid.past) k e)
    whole (Err x) w e k = tt

-- the same of a desk that was made for it
pub finish_whole : {hits : List ℕ → Type 0} {n : ℕ} {A : Type 0} (work : List ℕ) (may : Wanted → Type 0) (c lent d : CoreState) (old begun mid new : Seen) (r : Result A JournalErr) → lent ≡ c → begun ≡ old → new ≡ mid → OnOk r (d.phase ≡ Closed)
    → Came run.Tree hits n work may lent begun d mid r → FinishRan hits n work may c old new r
finish_whole {hits = hits} {n = n} work may c lent d old begun mid new r core seen same closed a =
    finish_ran work may c d old mid new r closed same (subst (λ (s : Seen). Came run.Tree hits n work may c s d mid r) seen (subst (λ (x : CoreState). Came run.Tree hits n work may x begun d mid r) core a))

-- ### The texts of the end, as they were given and as they were made

pub told_of : (w : Wanted) (v : MakerView) (makes : Makes) (plan : Node) (texts : List Node) → IsRun w v makes plan texts → AreTold w plan texts
told_of w v makes plan texts is = record { puts = is.puts; ends = is.jobs.ends }

pub jobs_by : (w : Wanted) (v : MakerView) (makes : Makes) (given made : List Node) → made ≡ given → AreJobs w v makes given → AreJobs w v makes made
jobs_by w v makes given made is a = subst (λ (ns : List Node). AreJobs w v makes ns) (sym is) a

pub run_by : (w : Wanted) (v : MakerView) (makes : Makes) (plan put : Node) (given made : List Node) → put ≡ plan → made ≡ given → IsRun w v makes plan given → IsRun w v makes put made
run_by w v makes plan put given made is are a = subst (λ (n : Node). IsRun w v makes n made) (sym is) (subst (λ (ns : List Node). IsRun w v makes plan ns) (sym are) a)

-- fewer wanted files
pub finish_given : {hits : List ℕ → Type 0} {n : ℕ} {A : Type 0} (work : List ℕ) (may must : Wanted → Type 0) (c : CoreState) (old new : Seen) (r : Result A JournalErr) → ((w : Wanted) → must w → may w) → FinishRan hits n work may c old new r → FinishRan hits n work must c old new r
finish_given work may must c old new r of a = record {
  last = a.last;
  closed = a.closed;
  came = came_given run.Tree _ _ _ _ _ _ _ _ (λ w given tells m k. of w m) a.came;
  ended = λ tells w given m k. a.ended tells w given (of w m) k;
}

on_err : {A : Type 0} (s : Result A JournalErr) (x : JournalErr) (P : Type 0) → s ≡ Err x → OnOk s P
on_err s x P is = rw is tt

-- memory ran out before any call
pub finish_no_text : {hits : List ℕ → Type 0} {n : ℕ} {A B : Type 0} (work : List ℕ) (may : Wanted → Type 0) (c : CoreState) (seen : Seen) (r : Result B JournalErr) (s : Result A JournalErr) (x : JournalErr)
    → r ≡ Err x → IsErrAnd s (λ y. y ≡ x) → IfErr r (λ e. e ≡ run.NoMemory) → FinishRan hits n work may c seen seen s
finish_no_text work may c seen r s x was is none =
    let p = err_from_is_err_and s is in
    let now : s ≡ Err x = rw p.2 at p.1 in
    record {
      last = c;
      closed = on_err s x _ now;
      came = came_no_text work may c seen r s x was is none;
      ended = λ tells w given m k. on_err s x _ now;
    }
