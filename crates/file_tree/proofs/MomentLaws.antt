-- Moments of a tree after more calls: what a stop may leave then, and which paths are there.
use Rattle.std.proofs.Common.{◌≡◌, inl, inr, ℕ, Bool, true, false, cond, List, [], ◌∷◌, ◌++◌, length, refl, sym, ap, ◌∙◌, subst, arith, append_assoc, length-append, take_all, IsTrue}
use Rattle.std.proofs.lemmas.Bool.{cases_lt}
use Rattle.std.proofs.lemmas.List.{take-append-le}
use Rattle.std.specs.Prelude.{Option, Some, None, is_some, ◌&&◌}
use Rattle.std.specs.List.{list_all}
use Rattle.std.specs.Ordering.{nat_cmp, eq_by_cmp}
use Rattle.std.specs.Cmp.Lexicographic.{slice_cmp, nat_list_cmp_total}
use Rattle.std.specs.FinMap as fin
use Rattle.file_tree.specs.declared.node.Node.{Node}
use Rattle.file_tree.specs.declared.node.Node.TheVariants as node
use Rattle.file_tree.specs.declared.call.Call.{Call}
use Rattle.file_tree.specs.declared.call.Call.TheVariants as call
use Rattle.file_tree.specs.declared.call.Change.{Change}
use Rattle.file_tree.specs.declared.call.Change.TheVariants as change
use Rattle.file_tree.specs.declared.call.Effect.{Effect}
use Rattle.file_tree.specs.declared.call.Effect.TheVariants as effect
use Rattle.file_tree.specs.Trees.{TreeMap, after_change, after_changes, with_node, without, moved, carried}
use Rattle.file_tree.specs.Seen.{Happened, Past, map_now}
use Rattle.file_tree.specs.Images.{State, state_after, states_after, settled_state, state_of, Leaves, Full, Images, Always, LeavesOnly}
use Rattle.file_tree.specs.Images.Leaves.{whole, torn}
use Rattle.file_tree.specs.Images.Full.{none, more}
use Rattle.file_tree.specs.Moments.{adds_all, is_look, SamePaths, Holds, EveryCallSteps, EveryLogSteps, EveryChangeLeaves, EveryPathLeft, EveryLookCalm, EverySpanJoins, EverySpanEnds}
use Rattle.file_tree.proofs.ImageLaws.{state_of-adds, state_now, pending_all}

-- ### More calls

pub states_after-append : (s : State) (hs js : List Happened) → states_after s (hs ++ js) ≡ states_after (states_after s hs) js
states_after-append s [] js = refl
states_after-append s (h ∷ hs) js = states_after-append (state_after s h.effect) hs js

pub call_steps : EveryCallSteps
call_steps p c e = state_of-adds p c e

pub log_steps : EveryLogSteps
unfolding state_of
log_steps p hs = states_after-append (settled_state p.first) p.log hs

same_past : (old new : Past) (rest : List Happened) → new.first ≡ old.first → new.log ≡ old.log ++ rest → new ≡ adds_all old rest
same_past old new rest first log = rw (← first, ← log) refl

-- the moment after a span of calls
pub state_span : (old new : Past) (rest : List Happened) → new.first ≡ old.first → new.log ≡ old.log ++ rest → state_of new ≡ states_after (state_of old) rest
state_span old new rest first log = ap state_of (same_past old new rest first log) ∙ log_steps old rest

-- ### Images

-- all but the last of changes, and the last
pub record LastChange (t : TreeMap) (cs : List Change) (c : Change) (u : TreeMap) : Type 0 where
  pub mid : TreeMap
  pub before : Full t cs mid
  pub last : Leaves c mid u

pub full-last : (t : TreeMap) (cs : List Change) (c : Change) (u : TreeMap) → Full t (cs ++ c ∷ []) u → LastChange t cs c u
full-last t [] c u (more l none) = record { mid = t; before = none; last = l }
full-last t (d ∷ cs) c u (more {u = m} l f) =
    let r = full-last m cs c u f in
    record { mid = r.mid; before = more l r.before; last = r.last }

pub change_leaves : EveryChangeLeaves
change_leaves s c u image = elim (cases_lt (length s.changes) image.kept) [
  | inl lt ↦ inr (subst (λ (l : List Change). Full s.settled l u) (take_all image.kept (s.changes ++ c ∷ []) (omega (arith, length-append s.changes (c ∷ [])))) image.full)
  | inr le ↦ inl (record { kept = image.kept; within = le; full = subst (λ (l : List Change). Full s.settled l u) (take-append-le image.kept s.changes (c ∷ []) le) image.full })
]

pub images_more : (P : TreeMap → Type 0) (s : State) (c : Change) → Images P s → ((u : TreeMap) → Full s.settled (s.changes ++ c ∷ []) u → P u)
    → Images P (state_after s (effect.Changed c))
images_more P s c old all = record {
  each = λ u image. elim (change_leaves s c u image) [
    | inl before ↦ old.each u before
    | inr full ↦ all u full
  ];
}

-- ### Spans of calls

always-join : (P : TreeMap → Type 0) (s : State) (hs js : List Happened) → Always P s hs → Always P (states_after s hs) js → Always P s (hs ++ js)
always-join P s [] js a b = b
always-join P s (h ∷ hs) js a b = (a.0, always-join P (state_after s h.effect) hs js a.1 b)

pub always-last : (P : TreeMap → Type 0) (s : State) (hs : List Happened) → Always P s hs → Images P (states_after s hs)
always-last P s [] a = a
always-last P s (h ∷ hs) a = always-last P (state_after s h.effect) hs a.1

pub spans_join : (P : TreeMap → Type 0) (old mid new : Past) → LeavesOnly P old mid → LeavesOnly P mid new → LeavesOnly P old new
spans_join P old mid new a b = record {
  rest = a.rest ++ b.rest;
  first = b.first ∙ a.first;
  log = b.log ∙ ap (λ (l : List Happened). l ++ b.rest) a.log ∙ append_assoc old.log a.rest b.rest;
  each = always-join P (state_of old) a.rest b.rest a.each (subst (λ (s : State). Always P s b.rest) (state_span old mid a.rest a.first a.log) b.each);
}

pub span_ends : (P : TreeMap → Type 0) (old new : Past) → LeavesOnly P old new → Images P (state_of new)
span_ends P old new a = subst (λ (s : State). Images P s) (sym (state_span old new a.rest a.first a.log)) (always-last P (state_of old) a.rest a.each)

pub span_joins : EverySpanJoins
span_joins test old mid new a b = spans_join (Holds test) old mid new a b

pub span_end : EverySpanEnds
span_end test old new a = span_ends (Holds test) old new a

-- ### Looks

look_calm : (s : State) (c : Call) (e : Effect) → IsTrue (is_look (record { call = c; effect = e })) → state_after s e ≡ s
look_calm s (call.List folder) effect.Same h = refl
look_calm s (call.List folder) (effect.Changed c) h = cc
look_calm s (call.List folder) effect.Settled h = cc
look_calm s (call.Read path) effect.Same h = refl
look_calm s (call.Read path) (effect.Changed c) h = cc
look_calm s (call.Read path) effect.Settled h = cc
look_calm s (call.Put path) e h = cc
look_calm s (call.Rename from to) e h = cc
look_calm s (call.Remove path) e h = cc
look_calm s call.Settle e h = cc

both : (a b : Bool) → IsTrue (a && b) → IsTrue a × IsTrue b
both true b h = (refl, h)
both false b h = cc

looks_calm : (s : State) (hs : List Happened) → IsTrue (list_all is_look hs) → states_after s hs ≡ s
looks_calm s [] h = refl
looks_calm s (g ∷ hs) h =
    let parts = both (is_look g) (list_all is_look hs) h in
    ap (λ (x : State). states_after x hs) (look_calm s g.call g.effect parts.0) ∙ looks_calm s hs parts.1

pub look_calms : EveryLookCalm
look_calms old new looks = state_span old new looks.rest looks.first looks.log ∙ looks_calm (state_of old) looks.rest looks.each

-- ### Paths

some_by : (b : Bool) (n m : Node) (x y : Option Node) → is_some y ≡ is_some x → is_some (cond b (Some m) y) ≡ is_some (cond b (Some n) x)
some_by true n m x y same = refl
some_by false n m x y same = same

none_by : (b : Bool) (x y : Option Node) → is_some y ≡ is_some x → is_some (cond b None y) ≡ is_some (cond b None x)
none_by true x y same = refl
none_by false x y same = same

paths_put : (t u : TreeMap) (path : List ℕ) (n m : Node) → SamePaths t u → SamePaths (with_node path n t) (with_node path m u)
paths_put t u path n m same q = ap is_some (fin.get-insert nat_list_cmp_total u path m q)
    ∙ some_by (eq_by_cmp (slice_cmp nat_cmp) q path) n m (fin.get t q) (fin.get u q) (same q)
    ∙ sym (ap is_some (fin.get-insert nat_list_cmp_total t path n q))

paths_take : (t u : TreeMap) (path : List ℕ) → SamePaths t u → SamePaths (without path t) (without path u)
paths_take t u path same q = ap is_some (fin.get-remove nat_list_cmp_total u path q)
    ∙ none_by (eq_by_cmp (slice_cmp nat_cmp) q path) (fin.get t q) (fin.get u q) (same q)
    ∙ sym (ap is_some (fin.get-remove nat_list_cmp_total t path q))

paths_carried : (x y : Option Node) (t u : TreeMap) (from to : List ℕ) → is_some y ≡ is_some x → SamePaths t u → SamePaths (carried x from to t) (carried y from to u)
paths_carried None None t u from to e same = same
paths_carried None (Some m) t u from to e same = cc
paths_carried (Some n) None t u from to e same = cc
paths_carried (Some n) (Some m) t u from to e same = paths_put (without from t) (without from u) to n m (paths_take t u from same)

paths_moved : (t u : TreeMap) (from to : List ℕ) → SamePaths t u → SamePaths (moved from to t) (moved from to u)
unfolding moved
paths_moved t u from to same = paths_carried (fin.get t from) (fin.get u from) t u from to (same from) same

paths_changed : (c : Change) (t u : TreeMap) → SamePaths t u → SamePaths (after_change t c) (after_change u c)
paths_changed (change.Put path n) t u same = paths_put t u path n n same
paths_changed (change.Move from to) t u same = paths_moved t u from to same
paths_changed (change.Take path) t u same = paths_take t u path same

paths_left : (c : Change) (t u v : TreeMap) → SamePaths t u → Leaves c u v → SamePaths (after_change t c) v
paths_left c t u v same whole = paths_changed c t u same
paths_left c t u v same (torn {path = path} {bytes = bytes} {mode = mode} left bits) = paths_put t u path (node.File bytes mode) (node.File left bits) same

-- all changes, each as a stop may leave it
pub paths_full : (cs : List Change) (t u v : TreeMap) → SamePaths t u → Full u cs v → SamePaths (after_changes t cs) v
paths_full [] t u v same none = same
paths_full (c ∷ cs) t u v same (more {u = m} l f) = paths_full cs (after_change t c) m v (paths_left c t u m same l) f

state_pending : (p : Past) → (state_of p).now ≡ after_changes (state_of p).settled (state_of p).changes
unfolding state_of
state_pending p = pending_all (settled_state p.first) p.log refl

pub path_left : EveryPathLeft
path_left p u full =
    let e : after_changes (state_of p).settled (state_of p).changes ≡ map_now p = sym (state_pending p) ∙ state_now p in
    subst (λ (t : TreeMap). SamePaths t u) e (paths_full (state_of p).changes (state_of p).settled (state_of p).settled u (λ q. refl) full)

pub ruleset moment_laws = (call_steps, log_steps, change_leaves, path_left, look_calms, span_joins, span_end)
