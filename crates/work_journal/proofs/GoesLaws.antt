-- What one call of a desk does to a run, and calls one after the other.
use Rattle.std.proofs.Common.{◌≡◌, inl, inr, ◌+◌, ℕ, List, [], ◌∷◌, ◌++◌, map, refl, sym, ap, ◌∙◌, subst, append_assoc, arith, ◌≤◌, true, false, IsTrue}
use Rattle.std.specs.Prelude.{Result, Ok, Err, OnOk, IsErrOf, IsErrAnd, IsOk, IsErr}
use Rattle.std.proofs.lemmas.Result.{err_from_is_err_and}
use Rattle.file_tree.specs.declared.node.Node.{Node}
use Rattle.file_tree.specs.declared.node.TreeErr.{TreeErr}
use Rattle.file_tree.specs.declared.node.TreeErr.TheVariants.{Failed, NoMemory}
use Rattle.file_tree.specs.declared.call.Call.{Call}
use Rattle.file_tree.specs.declared.call.Call.TheVariants as call
use Rattle.file_tree.specs.declared.call.Change.TheVariants as change
use Rattle.file_tree.specs.declared.call.Effect.{Effect}
use Rattle.file_tree.specs.declared.call.Effect.TheVariants as effect
use Rattle.file_tree.specs.Seen.{Past, Happened, Seen, adds}
use Rattle.file_tree.specs.Causes.{Fails, PutFails, MoveFails, TakeFails, HasCause, Rose}
use Rattle.file_tree.specs.Images.{state_of, LeavesOnly}
use Rattle.file_tree.proofs.MomentLaws.{spans_join}
use Rattle.journal_core.specs.declared.event.Event.{Event}
use Rattle.journal_core.specs.declared.event.Event.TheVariants.{Settle}
use Rattle.journal_core.specs.Table.{CoreState, allows, after}
use Rattle.journal_core.specs.Names.{Name}
use Rattle.journal_core.specs.Relation.{IsNear}
use Rattle.journal_core.specs.Calls.{Puts, Moves, puts_plan, puts_step, puts_mark, puts_text, puts_again, moves_plan, moves_step, moves_text, moves_again}
use Rattle.work_journal.specs.Spares.{Spares, InWork, InWorkOr}
use Rattle.work_journal.specs.Work.{work_path}
use Rattle.work_journal.specs.Wanted.{Wanted, path_of, IsPartway}
use Rattle.work_journal.specs.Keeps.{MaySweep, early, late, Does, Broke, puts_broke, moves_broke, sweeps_broke, looks_broke, Keeps, Kept}
use Rattle.work_journal.specs.Keeps.Does.{lists as does_lists, reads as does_reads, settles as does_settles, puts as does_puts, moves as does_moves, sweeps as does_sweeps}
use Rattle.work_journal.specs.Runs.{RunsOne, Runs, Ran, IsGiven, Goes, Came}
use Rattle.work_journal.specs.Runs.RunsOne.{lists as one_lists, reads as one_reads, settles as one_settles, puts as one_puts, renames as one_renames, removes as one_removes}
use Rattle.work_journal.specs.Runs.Runs.{none as runs_none, more as runs_more}
use Rattle.work_journal.proofs.SpareLaws.{EffectSpares, same_spares, settled_spares, put_spares, take_spares, move_spares, failed_put_spares, failed_move_spares, failed_take_spares, is_work_path, spares_call, spares_still, spares_then, spares_wider}
use Rattle.work_journal.proofs.StepLaws.{step_kept, failure_partway, no_call}

-- ### Runs one after the other

runs_join : {work : List ℕ} {c d e : CoreState} {ks ls : List Call} → Runs work c ks d → Runs work d ls e → Runs work c (ks ++ ls) e
runs_join runs_none b = b
runs_join (runs_more k a) b = runs_more k (runs_join a b)

calls_join : (hs js : List Happened) → map (λ (h : Happened). h.call) (hs ++ js) ≡ map (λ (h : Happened). h.call) hs ++ map (λ (h : Happened). h.call) js
calls_join [] js = refl
calls_join (h ∷ hs) js = ap (λ (ks : List Call). h.call ∷ ks) (calls_join hs js)

append_nil : (hs : List Happened) → hs ++ [] ≡ hs
append_nil [] = refl
append_nil (h ∷ hs) = ap (λ (l : List Happened). h ∷ l) (append_nil hs)

-- no call
pub ran_none : {A E : Type 0} (work : List ℕ) (c d : CoreState) (old new : Past) (r : Result A E) → new ≡ old → OnOk r (c ≡ d) → Ran work c old d new r
ran_none work c d old new r same ends = record {
  rest = [];
  last = c;
  first = ap (λ (p : Past). p.first) same;
  log = ap (λ (p : Past). p.log) same ∙ sym (append_nil old.log);
  runs = runs_none;
  ends = ends;
}

-- one call
pub ran_one : {A E : Type 0} (work : List ℕ) (c d e : CoreState) (old new : Past) (k : Call) (x : Effect) (r : Result A E) → new ≡ adds old k x → RunsOne work c k d → OnOk r (d ≡ e) → Ran work c old e new r
ran_one work c d e old new k x r same runs ends = record {
  rest = (record { call = k; effect = x }) ∷ [];
  last = d;
  first = ap (λ (p : Past). p.first) same;
  log = ap (λ (p : Past). p.log) same;
  runs = runs_more runs runs_none;
  ends = ends;
}

ok_is : {A E : Type 0} (r : Result A E) (P : Type 0) → IsOk r → OnOk r P → P
ok_is (Ok a) P is h = h
ok_is (Err e) P is h = let d : false ≡ true = is in absurd (cc)

pub ran_then : {A E B F : Type 0} (work : List ℕ) (c d e : CoreState) (old mid new : Past) (r : Result A E) (s : Result B F)
    → IsOk r → Ran work c old d mid r → Ran work d mid e new s → Ran work c old e new s
ran_then work c d e old mid new r s is a b = record {
  rest = a.rest ++ b.rest;
  last = b.last;
  first = b.first ∙ a.first;
  log = b.log ∙ ap (λ (l : List Happened). l ++ b.rest) a.log ∙ append_assoc old.log a.rest b.rest;
  runs = subst (λ (ks : List Call). Runs work c ks b.last) (sym (calls_join a.rest b.rest))
      (runs_join (subst (λ (x : CoreState). Runs work c (map (λ (h : Happened). h.call) a.rest) x) (ok_is r _ is a.ends) a.runs) b.runs);
  ends = b.ends;
}

err_any : {A E : Type 0} (r : Result A E) (P : Type 0) → IsErr r → OnOk r P
err_any (Ok a) P is = let d : false ≡ true = is in absurd (cc)
err_any (Err e) P is = tt

pub ran_failed : {A E B F : Type 0} (work : List ℕ) (c d e : CoreState) (old new : Past) (r : Result A E) (s : Result B F)
    → IsErr s → Ran work c old d new r → Ran work c old e new s
ran_failed work c d e old new r s is a = record { rest = a.rest; last = a.last; first = a.first; log = a.log; runs = a.runs; ends = err_any s _ is }

-- ### What goes on

pub goes_none : {A E : Type 0} (work : List ℕ) (may : Wanted → Type 0) (c d : CoreState) (old new : Past) (r : Result A E) → new ≡ old → OnOk r (c ≡ d) → Goes work may c old d new r
goes_none work may c d old new r same ends = record {
  ran = ran_none work c d old new r same ends;
  moments = λ w given m k. no_call w old new same k.images;
  keeps = λ w given m k. kept r ends (subst (λ (p : Past). Keeps w c (state_of p)) (sym same) k);
}
  where
    kept : {A E : Type 0} {w : Wanted} (s : Result A E) → OnOk s (c ≡ d) → Keeps w c (state_of new) → OnOk s (Keeps w d (state_of new))
    kept {w = w} (Ok a) e k = subst (λ (x : CoreState). Keeps w x (state_of new)) e k
    kept (Err a) e k = tt

pub goes_then : {A E B F : Type 0} (work : List ℕ) (may : Wanted → Type 0) (c d e : CoreState) (old mid new : Past) (r : Result A E) (s : Result B F)
    → IsOk r → Goes work may c old d mid r → Goes work may d mid e new s → Goes work may c old e new s
goes_then work may c d e old mid new r s is a b = record {
  ran = ran_then work c d e old mid new r s is a.ran b.ran;
  moments = λ w given m k. spans_join (IsPartway w) old mid new (a.moments w given m k) (b.moments w given m (ok_is r _ is (a.keeps w given m k)));
  keeps = λ w given m k. b.keeps w given m (ok_is r _ is (a.keeps w given m k));
}

pub goes_failed : {A E B F : Type 0} (work : List ℕ) (may : Wanted → Type 0) (c d e : CoreState) (old new : Past) (r : Result A E) (s : Result B F)
    → IsErr s → Goes work may c old d new r → Goes work may c old e new s
goes_failed work may c d e old new r s is a = record {
  ran = ran_failed work c d e old new r s is a.ran;
  moments = a.moments;
  keeps = λ w given m k. err_any s _ is;
}

-- fewer wanted files
pub goes_given : {A E : Type 0} (work : List ℕ) (may less : Wanted → Type 0) (c d : CoreState) (old new : Past) (r : Result A E)
    → ((w : Wanted) → IsGiven w work → less w → Keeps w c (state_of old) → may w) → Goes work may c old d new r → Goes work less c old d new r
goes_given work may less c d old new r all a = record {
  ran = a.ran;
  moments = λ w given m k. a.moments w given (all w given m k) k;
  keeps = λ w given m k. a.keeps w given (all w given m k) k;
}

-- ### One call of a desk

-- a call that is made, or fails, or finds no memory
step_goes : {A : Type 0} (work : List ℕ) (may : Wanted → Type 0) (c d : CoreState) (old new : Past) (r : Result A TreeErr) (k : Call) (x : Effect) (fails : Effect → Type 0)
    → RunsOne work c k d
    → ((w : Wanted) → IsGiven w work → may w → Does w c (record { call = k; effect = x }) d)
    → ((w : Wanted) → IsGiven w work → may w → Fails old new k fails → Broke w c old new)
    → OnOk r (new ≡ adds old k x) → (IsErrOf r Failed → Fails old new k fails) → (IsErrOf r NoMemory → new ≡ old)
    → Goes work may c old d new r
step_goes work may c d old new (Ok u) k x fails runs does broke made failed none = record {
  ran = ran_one work c d d old new k x (Ok u) made runs refl;
  moments = λ w given m h. subst (λ (p : Past). LeavesOnly (IsPartway w) old p) (sym made) (step w given m h).moments;
  keeps = λ w given m h. subst (λ (p : Past). Keeps w d (state_of p)) (sym made) (step w given m h).keeps;
}
  where
    step : (w : Wanted) → IsGiven w work → may w → Keeps w c (state_of old) → Kept w old d (adds old k x)
    step w given m h = step_kept w given.apart given.is_work c d old (record { call = k; effect = x }) (does w given m) h
step_goes work may c d old new (Err Failed) k x fails runs does broke made failed none = let f = failed refl in record {
  ran = ran_one work c d d old new k f.effect (Err Failed) f.past runs tt;
  moments = λ w given m h. failure_partway w given.apart given.is_work c old new h (broke w given m f);
  keeps = λ w given m h. tt;
}
step_goes work may c d old new (Err NoMemory) k x fails runs does broke made failed none = record {
  ran = ran_none work c d old new (Err NoMemory) (none refl) tt;
  moments = λ w given m h. no_call w old new (none refl) h.images;
  keeps = λ w given m h. tt;
}

put_path : (w : Wanted) (work : List ℕ) (e : Event) (n : Name) → w.work ≡ work → Puts e n → path_of w n ≡ work_path work n
put_path w work e n is puts_plan = ap (λ (x : List ℕ). work_path x n) is
put_path w work e n is puts_step = ap (λ (x : List ℕ). work_path x n) is
put_path w work e n is puts_mark = ap (λ (x : List ℕ). work_path x n) is
put_path w work e n is puts_text = ap (λ (x : List ℕ). work_path x n) is
put_path w work e n is puts_again = ap (λ (x : List ℕ). work_path x n) is

from_path : (w : Wanted) (work : List ℕ) (e : Event) (a b : Name) → w.work ≡ work → Moves e a b → path_of w a ≡ work_path work a
from_path w work e a b is moves_plan = ap (λ (x : List ℕ). work_path x a) is
from_path w work e a b is moves_step = ap (λ (x : List ℕ). work_path x a) is
from_path w work e a b is moves_text = ap (λ (x : List ℕ). work_path x a) is
from_path w work e a b is moves_again = ap (λ (x : List ℕ). work_path x a) is

pub put_goes : {A : Type 0} (work : List ℕ) (may : Wanted → Type 0) (c : CoreState) (old new : Past) (r : Result A TreeErr) (e : Event) (n : Name) (path : List ℕ) (node : Node)
    → Puts e n → IsTrue (allows c e) → IsNear c e → path ≡ work_path work n → ((w : Wanted) → may w → w.node n ≡ node)
    → OnOk r (new ≡ adds old (call.Put path) (effect.Changed (change.Put path node))) → (IsErrOf r Failed → Fails old new (call.Put path) (PutFails path)) → (IsErrOf r NoMemory → new ≡ old)
    → Goes work may c old (after c e) new r
put_goes work may c old new r e n path node pu al near at wanted made failed none =
    step_goes work may c (after c e) old new r (call.Put path) (effect.Changed (change.Put path node)) (PutFails path)
    (subst (λ (q : List ℕ). RunsOne work c (call.Put q) (after c e)) (sym at) (one_puts e n pu al))
    (λ w given m. subst (λ (q : List ℕ). Does w c (record { call = call.Put q; effect = effect.Changed (change.Put q node) }) (after c e)) (put_path w work e n given.work_is pu ∙ sym at)
    (subst (λ (y : Node). Does w c (record { call = call.Put (path_of w n); effect = effect.Changed (change.Put (path_of w n) y) }) (after c e)) (wanted w m) (does_puts e n pu al near)))
    (λ w given m f. puts_broke e n pu al near (subst (λ (q : List ℕ). Fails old new (call.Put q) (PutFails q)) (at ∙ sym (put_path w work e n given.work_is pu)) f))
    made failed none

pub move_goes : {A : Type 0} (work : List ℕ) (may : Wanted → Type 0) (c : CoreState) (old new : Past) (r : Result A TreeErr) (e : Event) (a b : Name) (from to : List ℕ)
    → Moves e a b → IsTrue (allows c e) → from ≡ work_path work a → ((w : Wanted) → IsGiven w work → may w → path_of w b ≡ to)
    → OnOk r (new ≡ adds old (call.Rename from to) (effect.Changed (change.Move from to))) → (IsErrOf r Failed → Fails old new (call.Rename from to) (MoveFails from to)) → (IsErrOf r NoMemory → new ≡ old)
    → Goes work may c old (after c e) new r
move_goes work may c old new r e a b from to mv al at wanted made failed none =
    step_goes work may c (after c e) old new r (call.Rename from to) (effect.Changed (change.Move from to)) (MoveFails from to)
    (subst (λ (q : List ℕ). RunsOne work c (call.Rename q to) (after c e)) (sym at) (one_renames e a b to mv al))
    (λ w given m. subst (λ (q : List ℕ). Does w c (record { call = call.Rename q to; effect = effect.Changed (change.Move q to) }) (after c e)) (from_path w work e a b given.work_is mv ∙ sym at)
    (subst (λ (y : List ℕ). Does w c (record { call = call.Rename (path_of w a) y; effect = effect.Changed (change.Move (path_of w a) y) }) (after c e)) (wanted w given m) (does_moves e a b mv al)))
    (λ w given m f. moves_broke e a b mv al
    (subst (λ (y : List ℕ). Fails old new (call.Rename (path_of w a) y) (MoveFails (path_of w a) y)) (sym (wanted w given m))
    (subst (λ (q : List ℕ). Fails old new (call.Rename q to) (MoveFails q to)) (at ∙ sym (from_path w work e a b given.work_is mv)) f)))
    made failed none

data SettleFails : Effect → Type 0 where
  nothing_settled : SettleFails effect.Same

same_fails : (old new : Past) (k : Call) → new ≡ adds old k effect.Same → Fails old new k SettleFails
same_fails old new k e = record { effect = effect.Same; can = nothing_settled; past = e }

fails_same : (w : Wanted) (c : CoreState) (old new : Past) (k : Call) → Fails old new k SettleFails → Broke w c old new
fails_same w c old new k f = looks_broke k (same f.effect f.can f.past)
  where
    same : (x : Effect) → SettleFails x → new ≡ adds old k x → new ≡ adds old k effect.Same
    same x nothing_settled e = e

pub settle_goes : {A : Type 0} (work : List ℕ) (may : Wanted → Type 0) (c : CoreState) (old new : Past) (r : Result A TreeErr)
    → OnOk r (new ≡ adds old call.Settle effect.Settled) → (IsErrOf r Failed → new ≡ adds old call.Settle effect.Same) → (IsErrOf r NoMemory → new ≡ old)
    → Goes work may c old (after c Settle) new r
settle_goes work may c old new r made failed none =
    step_goes work may c (after c Settle) old new r call.Settle effect.Settled SettleFails one_settles
    (λ w given m. does_settles) (λ w given m f. fails_same w c old new call.Settle f)
    made (λ e. same_fails old new call.Settle (failed e)) none

pub sweep_goes : {A : Type 0} (work : List ℕ) (may : Wanted → Type 0) (c : CoreState) (old new : Past) (r : Result A TreeErr) (q : List ℕ)
    → MaySweep work c q
    → OnOk r (new ≡ adds old (call.Remove q) (effect.Changed (change.Take q))) → (IsErrOf r Failed → Fails old new (call.Remove q) (TakeFails q)) → (IsErrOf r NoMemory → new ≡ old)
    → Goes work may c old c new r
sweep_goes work may c old new r q may_sweep made failed none =
    step_goes work may c c old new r (call.Remove q) (effect.Changed (change.Take q)) (TakeFails q) (one_removes q may_sweep)
    (λ w given m. subst (λ (x : List ℕ). MaySweep x c q → Does w c (record { call = call.Remove q; effect = effect.Changed (change.Take q) }) c) given.work_is (λ s. does_sweeps q s) may_sweep)
    (λ w given m f. sweeps_broke q (subst (λ (x : List ℕ). MaySweep x c q) (sym given.work_is) may_sweep) f)
    made failed none

-- ### The same of a desk's calls, as their clauses say it

-- nothing was done
pub still : {A E : Type 0} (work : List ℕ) (may : Wanted → Type 0) (c : CoreState) (p : Past) (r : Result A E) → Goes work may c p c p r
still work may c p r = goes_none work may c c p p r refl (same r)
  where
    same : {A E : Type 0} (s : Result A E) → OnOk s (c ≡ c)
    same (Ok a) = refl
    same (Err e) = tt

past_same : {A : Type 0} (old new : Seen) (r : Result A TreeErr) → HasCause old new r → IsErrOf r NoMemory → new.past ≡ old.past
past_same old new r cause h = ap (λ (s : Seen). s.past) (cause.no_memory h)

desk_puts : {A : Type 0} (work : List ℕ) (may : Wanted → Type 0) (c d : CoreState) (old new : Seen) (r : Result A TreeErr) (e : Event) (n : Name) (path : List ℕ) (node : Node)
    → Puts e n → IsTrue (allows c e) → IsNear c e → path ≡ work_path work n → ((w : Wanted) → may w → w.node n ≡ node) → d ≡ after c e
    → (old.tells ≡ true → OnOk r (new.past ≡ adds old.past (call.Put path) (effect.Changed (change.Put path node))))
    → (old.tells ≡ true → IsErrOf r Failed → Fails old.past new.past (call.Put path) (PutFails path))
    → HasCause old new r → old.tells ≡ true → Goes work may c old.past d new.past r
desk_puts work may c d old new r e n path node pu al near at wanted core made failed cause tells =
    subst (λ (x : CoreState). Goes work may c old.past x new.past r) (sym core)
    (put_goes work may c old.past new.past r e n path node pu al near at wanted (made tells) (failed tells) (past_same old new r cause))

desk_moves : {A : Type 0} (work : List ℕ) (may : Wanted → Type 0) (c d : CoreState) (old new : Seen) (r : Result A TreeErr) (e : Event) (a b : Name) (from to : List ℕ)
    → Moves e a b → IsTrue (allows c e) → from ≡ work_path work a → ((w : Wanted) → IsGiven w work → may w → path_of w b ≡ to) → d ≡ after c e
    → (old.tells ≡ true → OnOk r (new.past ≡ adds old.past (call.Rename from to) (effect.Changed (change.Move from to))))
    → (old.tells ≡ true → IsErrOf r Failed → Fails old.past new.past (call.Rename from to) (MoveFails from to))
    → HasCause old new r → old.tells ≡ true → Goes work may c old.past d new.past r
desk_moves work may c d old new r e a b from to mv al at wanted core made failed cause tells =
    subst (λ (x : CoreState). Goes work may c old.past x new.past r) (sym core)
    (move_goes work may c old.past new.past r e a b from to mv al at wanted (made tells) (failed tells) (past_same old new r cause))

desk_settles : {A : Type 0} (work : List ℕ) (may : Wanted → Type 0) (c d : CoreState) (old new : Seen) (r : Result A TreeErr) → d ≡ after c Settle
    → (old.tells ≡ true → OnOk r (new.past ≡ adds old.past call.Settle effect.Settled))
    → (old.tells ≡ true → IsErrOf r Failed → new.past ≡ adds old.past call.Settle effect.Same)
    → HasCause old new r → old.tells ≡ true → Goes work may c old.past d new.past r
desk_settles work may c d old new r core made failed cause tells =
    subst (λ (x : CoreState). Goes work may c old.past x new.past r) (sym core)
    (settle_goes work may c old.past new.past r (made tells) (failed tells) (past_same old new r cause))

desk_sweeps : {A : Type 0} (work : List ℕ) (may : Wanted → Type 0) (c d : CoreState) (old new : Seen) (r : Result A TreeErr) (q : List ℕ)
    → MaySweep work c q → d ≡ c
    → (old.tells ≡ true → OnOk r (new.past ≡ adds old.past (call.Remove q) (effect.Changed (change.Take q))))
    → (old.tells ≡ true → IsErrOf r Failed → Fails old.past new.past (call.Remove q) (TakeFails q))
    → HasCause old new r → old.tells ≡ true → Goes work may c old.past d new.past r
desk_sweeps work may c d old new r q may_sweep core made failed cause tells =
    subst (λ (x : CoreState). Goes work may c old.past x new.past r) (sym core)
    (sweep_goes work may c old.past new.past r q may_sweep (made tells) (failed tells) (past_same old new r cause))

came_by : {A : Type 0} (hits : List ℕ → Type 0) (n : ℕ) (work : List ℕ) (may : Wanted → Type 0) (c d : CoreState) (old new : Seen) (r : Result A TreeErr) → new.tells ≡ old.tells → HasCause old new r → Spares hits n old new
    → (old.tells ≡ true → Goes work may c old.past d new.past r) → Came Failed hits n work may c old d new r
came_by hits n work may c d old new r tells cause spares goes = record { tells = tells; later = cause.later; failed = cause.failed; spares = spares; goes = goes }

hit_work : (work path : List ℕ) (x : Name) → path ≡ work_path work x → InWork work path
hit_work work path x at = subst (λ (q : List ℕ). InWork work q) (sym at) (is_work_path work x)

same_fails_spare : (hits : List ℕ → Type 0) (x : Effect) → SettleFails x → EffectSpares hits x
same_fails_spare hits x nothing_settled = same_spares hits

swept_below : (work : List ℕ) (c : CoreState) (q : List ℕ) → MaySweep work c q → InWork work q
swept_below work c q (early p is) = is
swept_below work c q (late p is apart) = is

pub came_puts : {A : Type 0} (work : List ℕ) (may : Wanted → Type 0) (c d : CoreState) (old new : Seen) (r : Result A TreeErr) (e : Event) (n : Name) (path : List ℕ) (node : Node)
    → Puts e n → IsTrue (allows c e) → IsNear c e → path ≡ work_path work n → ((w : Wanted) → may w → w.node n ≡ node) → d ≡ after c e
    → (old.tells ≡ true → OnOk r (new.past ≡ adds old.past (call.Put path) (effect.Changed (change.Put path node))))
    → (old.tells ≡ true → IsErrOf r Failed → Fails old.past new.past (call.Put path) (PutFails path))
    → HasCause old new r → new.tells ≡ old.tells → Came Failed (InWork work) 0 work may c old d new r
came_puts work may c d old new r e n path node pu al near at wanted core made failed cause tells =
    came_by (InWork work) 0 work may c d old new r tells cause
    (spares_call (InWork work) 0 old new r (call.Put path) (effect.Changed (change.Put path node)) (PutFails path) (omega arith)
    (put_spares (InWork work) path node (hit_work work path n at)) (failed_put_spares (InWork work) path (hit_work work path n at)) made failed cause)
    (desk_puts work may c d old new r e n path node pu al near at wanted core made failed cause)

pub came_moves : {A : Type 0} (work : List ℕ) (may : Wanted → Type 0) (c d : CoreState) (old new : Seen) (r : Result A TreeErr) (e : Event) (a b : Name) (from to : List ℕ)
    → Moves e a b → IsTrue (allows c e) → from ≡ work_path work a → ((w : Wanted) → IsGiven w work → may w → path_of w b ≡ to) → d ≡ after c e
    → (old.tells ≡ true → OnOk r (new.past ≡ adds old.past (call.Rename from to) (effect.Changed (change.Move from to))))
    → (old.tells ≡ true → IsErrOf r Failed → Fails old.past new.past (call.Rename from to) (MoveFails from to))
    → HasCause old new r → new.tells ≡ old.tells → Came Failed (InWorkOr work to) 0 work may c old d new r
came_moves work may c d old new r e a b from to mv al at wanted core made failed cause tells =
    came_by (InWorkOr work to) 0 work may c d old new r tells cause
    (spares_call (InWorkOr work to) 0 old new r (call.Rename from to) (effect.Changed (change.Move from to)) (MoveFails from to) (omega arith)
    (move_spares (InWorkOr work to) from to (inl (hit_work work from a at)) (inr refl)) (failed_move_spares (InWorkOr work to) from to (inl (hit_work work from a at)) (inr refl)) made failed cause)
    (desk_moves work may c d old new r e a b from to mv al at wanted core made failed cause)

pub came_settles : {hits : List ℕ → Type 0} {A : Type 0} (work : List ℕ) (may : Wanted → Type 0) (c d : CoreState) (old new : Seen) (r : Result A TreeErr) → d ≡ after c Settle
    → (old.tells ≡ true → OnOk r (new.past ≡ adds old.past call.Settle effect.Settled))
    → (old.tells ≡ true → IsErrOf r Failed → new.past ≡ adds old.past call.Settle effect.Same)
    → HasCause old new r → new.tells ≡ old.tells → Came Failed hits 1 work may c old d new r
came_settles {hits = hits} work may c d old new r core made failed cause tells =
    came_by hits 1 work may c d old new r tells cause
    (spares_call hits 1 old new r call.Settle effect.Settled SettleFails (omega arith) (settled_spares hits) (same_fails_spare hits) made (λ t e. same_fails old.past new.past call.Settle (failed t e)) cause)
    (desk_settles work may c d old new r core made failed cause)

pub came_sweeps : {A : Type 0} (work : List ℕ) (may : Wanted → Type 0) (c d : CoreState) (old new : Seen) (r : Result A TreeErr) (q : List ℕ)
    → MaySweep work c q → d ≡ c
    → (old.tells ≡ true → OnOk r (new.past ≡ adds old.past (call.Remove q) (effect.Changed (change.Take q))))
    → (old.tells ≡ true → IsErrOf r Failed → Fails old.past new.past (call.Remove q) (TakeFails q))
    → HasCause old new r → new.tells ≡ old.tells → Came Failed (InWork work) 0 work may c old d new r
came_sweeps work may c d old new r q may_sweep core made failed cause tells =
    came_by (InWork work) 0 work may c d old new r tells cause
    (spares_call (InWork work) 0 old new r (call.Remove q) (effect.Changed (change.Take q)) (TakeFails q) (omega arith)
    (take_spares (InWork work) q (swept_below work c q may_sweep)) (failed_take_spares (InWork work) q (swept_below work c q may_sweep)) made failed cause)
    (desk_sweeps work may c d old new r q may_sweep core made failed cause)

-- ### One after the other

-- nothing was done, and no fault is answered
pub came_still : {hits : List ℕ → Type 0} {n : ℕ} {A E : Type 0} (fault : E) (work : List ℕ) (may : Wanted → Type 0) (c : CoreState) (seen : Seen) (r : Result A E) → (IsErrOf r fault → ⊥) → Came fault hits n work may c seen c seen r
came_still {hits = hits} {n = n} fault work may c seen r no_fault = record {
  tells = refl;
  spares = spares_still hits n seen;
  later = omega arith;
  failed = λ h. absurd (no_fault h);
  goes = λ tells. still work may c seen.past r;
}

rose_later : (a b c : ℕ) → a ≤ b → Rose b c → Rose a c
rose_later a b c l rose = omega (arith, l, rose)

pub came_then : {hits : List ℕ → Type 0} {n m : ℕ} {A E B F : Type 0} (f : E) (g : F) (work : List ℕ) (may : Wanted → Type 0) (c d e : CoreState) (old mid new : Seen) (r : Result A E) (s : Result B F)
    → IsOk r → Came f hits n work may c old d mid r → Came g hits m work may d mid e new s → Came g hits (n + m) work may c old e new s
came_then {hits = hits} {n = n} {m = m} f g work may c d e old mid new r s is a b = record {
  tells = b.tells ∙ a.tells;
  later = let l = a.later in let m = b.later in omega (arith, l, m);
  failed = λ h. rose_later old.faults mid.faults new.faults a.later (b.failed h);
  spares = spares_then hits n m old mid new a.tells a.spares b.spares;
  goes = λ tells. goes_then work may c d e old.past mid.past new.past r s is (a.goes tells) (b.goes (a.tells ∙ tells));
}

-- the answer is passed on where it is an error
pub came_failed : {hits : List ℕ → Type 0} {n : ℕ} {A E B F : Type 0} (f : E) (g : F) (work : List ℕ) (may : Wanted → Type 0) (c d e : CoreState) (old new : Seen) (r : Result A E) (s : Result B F)
    → IsErr s → (IsErrOf s g → IsErrOf r f) → Came f hits n work may c old d new r → Came g hits n work may c old e new s
came_failed f g work may c d e old new r s is fault a = record {
  tells = a.tells;
  later = a.later;
  failed = λ h. a.failed (fault h);
  spares = a.spares;
  goes = λ tells. goes_failed work may c d e old.past new.past r s is (a.goes tells);
}

pub came_given : {hits : List ℕ → Type 0} {n : ℕ} {A E : Type 0} (f : E) (work : List ℕ) (may less : Wanted → Type 0) (c d : CoreState) (old new : Seen) (r : Result A E)
    → ((w : Wanted) → IsGiven w work → old.tells ≡ true → less w → Keeps w c (state_of old.past) → may w) → Came f hits n work may c old d new r → Came f hits n work less c old d new r
came_given f work may less c d old new r all a = record {
  tells = a.tells;
  later = a.later;
  failed = a.failed;
  spares = a.spares;
  goes = λ tells. goes_given work may less c d old.past new.past r (λ w given m k. all w given tells m k) (a.goes tells);
}

no_clash : {A : Type 0} (r : Result A TreeErr) → r ≡ Err NoMemory → r ≡ Err Failed → ⊥
no_clash r a b = let d : Err NoMemory ≡ Err Failed = sym a ∙ b in cc

same_error : {A B E : Type 0} (r : Result A E) (s : Result B E) (x f : E) → r ≡ Err x → s ≡ Err x → s ≡ Err f → r ≡ Err f
same_error r s x f a b h = cc

pub err_is : {A E : Type 0} (r : Result A E) (x : E) → r ≡ Err x → IsErr r
err_is r x e = rw e refl

-- memory ran out before any call
pub came_no_memory : {hits : List ℕ → Type 0} {n : ℕ} {A : Type 0} (work : List ℕ) (may : Wanted → Type 0) (c : CoreState) (seen : Seen) (r : Result A TreeErr) → IsErrAnd r (λ e. e ≡ NoMemory) → Came Failed hits n work may c seen c seen r
came_no_memory work may c seen r is =
    let p = err_from_is_err_and r is in
    came_still Failed work may c seen r (no_clash r (p.1 ∙ ap (λ (e : TreeErr). Err e) p.2))

-- an error is passed on
pub came_passed : {hits : List ℕ → Type 0} {n : ℕ} {A B E : Type 0} (f : E) (work : List ℕ) (may : Wanted → Type 0) (c d e : CoreState) (old new : Seen) (r : Result A E) (s : Result B E) (x : E)
    → r ≡ Err x → IsErrAnd s (λ y. y ≡ x) → Came f hits n work may c old d new r → Came f hits n work may c old e new s
came_passed f work may c d e old new r s x was is a =
    let p = err_from_is_err_and s is in
    let now : s ≡ Err x = rw p.2 at p.1 in
    came_failed f f work may c d e old new r s (err_is s x now) (same_error r s x f was now) a

-- the answer of a loop so far
abbrev pub well : Result (Unit {0}) TreeErr
well = Ok tt

-- a call more that went well
pub came_well : {hits : List ℕ → Type 0} {n : ℕ} {A : Type 0} (work : List ℕ) (may : Wanted → Type 0) (c d : CoreState) (old new : Seen) (r : Result A TreeErr) (x : A) → r ≡ Ok x
    → Came Failed hits n work may c old d new r → Came Failed hits n work may c old d new well
came_well work may c d old new r x is a = record {
  tells = a.tells;
  later = a.later;
  failed = λ h. absurd (let e : Ok tt ≡ Err Failed = h in cc);
  spares = a.spares;
  goes = λ tells. goes_well work may c d old.past new.past r x is (a.goes tells);
}
  where
    at_ok : {A E : Type 0} (r : Result A E) (x : A) (P : Type 0) → r ≡ Ok x → OnOk r P → P
    at_ok r x P e h = rw e at h

    goes_well : {A : Type 0} (work : List ℕ) (may : Wanted → Type 0) (c d : CoreState) (old new : Past) (r : Result A TreeErr) (x : A) → r ≡ Ok x → Goes work may c old d new r → Goes work may c old d new well
    goes_well work may c d old new r x is a = record {
      ran = record { rest = a.ran.rest; last = a.ran.last; first = a.ran.first; log = a.ran.log; runs = a.ran.runs; ends = at_ok r x _ is a.ran.ends };
      moments = a.moments;
      keeps = λ w given m k. at_ok r x _ is (a.keeps w given m k);
    }

-- more paths that may be changed, and more settles
pub came_wider : {hits more : List ℕ → Type 0} {n m : ℕ} {A E : Type 0} {f : E} {work : List ℕ} {may : Wanted → Type 0} {c d : CoreState} {old new : Seen} {r : Result A E}
    → ((q : List ℕ) → hits q → more q) → n ≤ m → Came f hits n work may c old d new r → Came f more m work may c old d new r
came_wider {hits = hits} {more = more} {n = n} {m = m} {old = old} {new = new} all few a = record {
  tells = a.tells;
  later = a.later;
  failed = a.failed;
  spares = spares_wider hits more n m old new all few a.spares;
  goes = a.goes;
}

pub came_hits : {hits more : List ℕ → Type 0} {n : ℕ} {A E : Type 0} {f : E} {work : List ℕ} {may : Wanted → Type 0} {c d : CoreState} {old new : Seen} {r : Result A E}
    → ((q : List ℕ) → hits q → more q) → Came f hits n work may c old d new r → Came f more n work may c old d new r
came_hits all a = came_wider all (omega arith) a

pub came_most : {hits : List ℕ → Type 0} {n m : ℕ} {A E : Type 0} {f : E} {work : List ℕ} {may : Wanted → Type 0} {c d : CoreState} {old new : Seen} {r : Result A E}
    → n ≤ m → Came f hits n work may c old d new r → Came f hits m work may c old d new r
came_most few a = came_wider (λ q h. h) few a

pub came_least : {hits : List ℕ → Type 0} {m : ℕ} {A E : Type 0} {f : E} {work : List ℕ} {may : Wanted → Type 0} {c d : CoreState} {old new : Seen} {r : Result A E}
    → Came f hits 0 work may c old d new r → Came f hits m work may c old d new r
came_least a = came_wider (λ q h. h) (omega arith) a

pub came_more : {hits : List ℕ → Type 0} {n : ℕ} {A E : Type 0} {f : E} {work : List ℕ} {may : Wanted → Type 0} {c d : CoreState} {old new : Seen} {r : Result A E} (m : ℕ)
    → Came f hits n work may c old d new r → Came f hits (n + m) work may c old d new r
came_more m a = came_wider (λ q h. h) (omega arith) a

-- a rename to a name of the work folder
pub came_inside : {n : ℕ} {A E : Type 0} {f : E} {work to : List ℕ} {may : Wanted → Type 0} {c d : CoreState} {old new : Seen} {r : Result A E} (x : Name)
    → to ≡ work_path work x → Came f (InWorkOr work to) n work may c old d new r → Came f (InWork work) n work may c old d new r
came_inside {work = work} {to = to} x at a = came_hits inside a
  where
    inside : (q : List ℕ) → InWorkOr work to q → InWork work q
    inside q (inl h) = h
    inside q (inr e) = subst (λ (p : List ℕ). InWork work p) e (hit_work work to x at)

-- another call, which doesn't settle, after those that went well
pub came_next : {hits : List ℕ → Type 0} {n : ℕ} {A : Type 0} (work : List ℕ) (may one : Wanted → Type 0) (c d e : CoreState) (old mid new : Seen) (r : Result A TreeErr) → ((w : Wanted) → may w → one w)
    → Came Failed hits n work may c old d mid well → Came Failed hits 0 work one d mid e new r → Came Failed hits n work may c old e new r
came_next work may one c d e old mid new r all a b = came_wider (λ q h. h) (omega arith)
    (came_then Failed Failed work may c d e old mid new well r refl a (came_given Failed work one may d e mid new r (λ w given tells m k. all w m) b))

-- calls that settle, after those that went well
pub came_after : {hits : List ℕ → Type 0} {n m : ℕ} {A : Type 0} (work : List ℕ) (may one : Wanted → Type 0) (c d e : CoreState) (old mid new : Seen) (r : Result A TreeErr) → ((w : Wanted) → may w → one w)
    → Came Failed hits n work may c old d mid well → Came Failed hits m work one d mid e new r → Came Failed hits (n + m) work may c old e new r
came_after work may one c d e old mid new r all a b =
    came_then Failed Failed work may c d e old mid new well r refl a (came_given Failed work one may d e mid new r (λ w given tells m k. all w m) b)

-- for fewer wanted files
pub came_only : {hits : List ℕ → Type 0} {n : ℕ} {A : Type 0} (work : List ℕ) (may less : Wanted → Type 0) (c d : CoreState) (old new : Seen) (r : Result A TreeErr)
    → ((w : Wanted) → less w → may w) → Came Failed hits n work may c old d new r → Came Failed hits n work less c old d new r
came_only work may less c d old new r all a = came_given Failed work may less c d old new r (λ w given tells m k. all w m) a

-- ### Looks

look_step : (work : List ℕ) (may : Wanted → Type 0) (c d : CoreState) (old new : Seen) (A : Type 0) (r : Result A TreeErr) (path : List ℕ) → d ≡ c
    → (old.tells ≡ true → OnOk r (new.past ≡ adds old.past (call.Read path) effect.Same))
    → (old.tells ≡ true → IsErrOf r Failed → new.past ≡ adds old.past (call.Read path) effect.Same)
    → HasCause old new r → old.tells ≡ true → Goes work may c old.past d new.past r
look_step work may c d old new A r path core made failed cause tells =
    subst (λ (x : CoreState). Goes work may c old.past x new.past r) (sym core)
    (step_goes work may c c old.past new.past r (call.Read path) effect.Same SettleFails one_reads
    (λ w given m. does_reads) (λ w given m f. fails_same w c old.past new.past (call.Read path) f)
    (made tells) (λ e. same_fails old.past new.past (call.Read path) (failed tells e)) (past_same old new r cause))

pub came_reads : {hits : List ℕ → Type 0} {A : Type 0} (work : List ℕ) (may : Wanted → Type 0) (c d : CoreState) (old new : Seen) (r : Result A TreeErr) (path : List ℕ) → d ≡ c
    → (old.tells ≡ true → OnOk r (new.past ≡ adds old.past (call.Read path) effect.Same))
    → (old.tells ≡ true → IsErrOf r Failed → new.past ≡ adds old.past (call.Read path) effect.Same)
    → HasCause old new r → new.tells ≡ old.tells → Came Failed hits 0 work may c old d new r
came_reads {hits = hits} {A = A} work may c d old new r path core made failed cause tells =
    came_by hits 0 work may c d old new r tells cause
    (spares_call hits 0 old new r (call.Read path) effect.Same SettleFails (omega arith) (same_spares hits) (same_fails_spare hits) made (λ t e. same_fails old.past new.past (call.Read path) (failed t e)) cause)
    (look_step work may c d old new A r path core made failed cause)

list_step : (work : List ℕ) (may : Wanted → Type 0) (c d : CoreState) (old new : Seen) (A : Type 0) (r : Result A TreeErr) (folder : List ℕ) → d ≡ c
    → (old.tells ≡ true → OnOk r (new.past ≡ adds old.past (call.List folder) effect.Same))
    → (old.tells ≡ true → IsErrOf r Failed → new.past ≡ adds old.past (call.List folder) effect.Same)
    → HasCause old new r → old.tells ≡ true → Goes work may c old.past d new.past r
list_step work may c d old new A r folder core made failed cause tells =
    subst (λ (x : CoreState). Goes work may c old.past x new.past r) (sym core)
    (step_goes work may c c old.past new.past r (call.List folder) effect.Same SettleFails one_lists
    (λ w given m. does_lists) (λ w given m f. fails_same w c old.past new.past (call.List folder) f)
    (made tells) (λ e. same_fails old.past new.past (call.List folder) (failed tells e)) (past_same old new r cause))

pub came_lists : {hits : List ℕ → Type 0} {A : Type 0} (work : List ℕ) (may : Wanted → Type 0) (c d : CoreState) (old new : Seen) (r : Result A TreeErr) (folder : List ℕ) → d ≡ c
    → (old.tells ≡ true → OnOk r (new.past ≡ adds old.past (call.List folder) effect.Same))
    → (old.tells ≡ true → IsErrOf r Failed → new.past ≡ adds old.past (call.List folder) effect.Same)
    → HasCause old new r → new.tells ≡ old.tells → Came Failed hits 0 work may c old d new r
came_lists {hits = hits} {A = A} work may c d old new r folder core made failed cause tells =
    came_by hits 0 work may c d old new r tells cause
    (spares_call hits 0 old new r (call.List folder) effect.Same SettleFails (omega arith) (same_spares hits) (same_fails_spare hits) made (λ t e. same_fails old.past new.past (call.List folder) (failed t e)) cause)
    (list_step work may c d old new A r folder core made failed cause)
