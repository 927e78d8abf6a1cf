-- The work folder cleared path by path: before a plan is put there, and at the end of a run.
use Rattle.std.proofs.Common.{◌≡◌, ◌≢◌, ◌⊎◌, inl, inr, ℕ, ◌+◌, ◌<◌, ◌≤◌, Bool, true, false, cond, ◌||◌, ◌&&◌, not, List, [], ◌∷◌, ◌++◌, length, get_or, take, append_assoc, refl, sym, ◌∙◌, ap, subst}
use Rattle.std.specs.Prelude.{Result, Ok, Err, OnOk, Option, Some, None, option_map, is_some, if◌then◌else◌, nat_le, filter}
use Rattle.std.specs.Str.{bytes_eq}
use Rattle.std.specs.List.{list_any}
use Rattle.std.specs.Ordering.{nat_cmp, is_eq, eq_by_cmp}
use Rattle.std.specs.Cmp.Lexicographic.{slice_cmp}
use Rattle.std.specs.FinMap as fin
use Rattle.std.proofs.lemmas.Bool.{cases_Bool}
use Rattle.std.proofs.lemmas.List.{take_all}
use Rattle.std.proofs.lemmas.List.Folds.{list_any_more}
use Rattle.std.proofs.lemmas.Slice.Eq.{bytes_eq-Decides}
use Rattle.file_tree.specs.declared.node.Node.{Node}
use Rattle.file_tree.specs.declared.node.Listed.{Listed}
use Rattle.file_tree.specs.declared.node.Listed.TheVariants as listed
use Rattle.file_tree.specs.declared.call.Call.TheVariants as call
use Rattle.file_tree.specs.declared.call.Effect.TheVariants as effect
use Rattle.file_tree.specs.Trees.{TreeMap, is_below, keys_below, listed_at, with_node, without, moved}
use Rattle.file_tree.specs.Seen.{Seen, Past, Happened, adds, now_of, map_now}
use Rattle.file_tree.specs.Causes.{Lay}
use Rattle.file_tree.specs.Images.{state_of}
use Rattle.file_tree.proofs.MomentLaws.{call_steps}
use Rattle.journal_core.specs.Names.{plan_new, plan}
use Rattle.work_journal.specs.Work.{work_path, has_path}
use Rattle.work_journal.specs.Finishing.{end_paths}
use Rattle.work_journal.specs.Clearing.{is_other, AreAll, AreGone, IsCleared}
use Rattle.work_journal.specs.Settling.{HasPlanAlone, IsSince, BeganAlone}
use Rattle.work_journal.specs.Runs.{Ran}
use Rattle.journal_core.specs.Table.{CoreState}
use Rattle.work_journal.proofs.Changes.{here_eq, same_path, not_same, get_put, get_put_other, get_taken, get_taken_other}

-- ### What a tree that tells holds

told_now : (s : Seen) → s.tells ≡ true → now_of s ≡ Some (map_now s.past)
told_now s e = ap (λ (b : Bool). if b then Some (map_now s.past) else None) e

map_in : Option TreeMap → TreeMap → TreeMap
map_in None t = t
map_in (Some u) t = u

same_map : (t u : TreeMap) → Some t ≡ Some u → t ≡ u
unfolding map_in
same_map t u e = ap (λ (o : Option TreeMap). map_in o t) e

calm_map : (old new : Seen) → old.tells ≡ true → new.tells ≡ old.tells → now_of new ≡ now_of old → map_now new.past ≡ map_now old.past
calm_map old new tells same now = same_map _ _ (sym (told_now new (same ∙ tells)) ∙ now ∙ told_now old tells)

-- ### All that a list gives

apart_key : (q k : List ℕ) → bytes_eq q k ≡ false → eq_by_cmp (slice_cmp nat_cmp) q k ≡ false
apart_key q k f = elim (same_path q k) [
  | inl e ↦ absurd (let d : true ≡ false = sym ((bytes_eq-Decides q k).1 e) ∙ f in cc)
  | inr g ↦ g
]

apart_sides : (folder q k : List ℕ) → is_below folder q ≡ true → is_below folder k ≡ false → bytes_eq q k ≡ false
apart_sides folder q k below out = elim (cases_Bool (bytes_eq q k)) [
  | inl y ↦ absurd (let d : true ≡ false = sym below ∙ ap (λ (p : List ℕ). is_below folder p) ((bytes_eq-Decides q k).0 y) ∙ out in cc)
  | inr n ↦ n
]

either_left : (a b : Bool) → (a || b) ≡ false → a ≡ false
either_left true b h = let d : true ≡ false = h in cc
either_left false b h = refl

either_right : (a b : Bool) → (a || b) ≡ false → b ≡ false
either_right true b h = let d : true ≡ false = h in cc
either_right false b h = h

neither : (a b : Bool) → a ≡ false → b ≡ false → (a || b) ≡ false
neither a b e f = rw (e, f) refl

no_key : (folder q : List ℕ) (ks : List (List ℕ)) → is_below folder q ≡ true → list_any (bytes_eq q) (filter (is_below folder) ks) ≡ false → list_any (eq_by_cmp (slice_cmp nat_cmp) q) ks ≡ false
no_key folder q [] below none = refl
no_key folder q (k ∷ ks) below none = by (λ h. no_key folder q ks below h) (is_below folder k) refl none
  where
    by : (list_any (bytes_eq q) (filter (is_below folder) ks) ≡ false → list_any (eq_by_cmp (slice_cmp nat_cmp) q) ks ≡ false)
        → (b : Bool) → is_below folder k ≡ b → list_any (bytes_eq q) (cond b (k ∷ filter (is_below folder) ks) (filter (is_below folder) ks)) ≡ false
        → (eq_by_cmp (slice_cmp nat_cmp) q k || list_any (eq_by_cmp (slice_cmp nat_cmp) q) ks) ≡ false
    by rest true e h = neither _ _ (apart_key q k (either_left (bytes_eq q k) (list_any (bytes_eq q) (filter (is_below folder) ks)) h)) (rest (either_right (bytes_eq q k) (list_any (bytes_eq q) (filter (is_below folder) ks)) h))
    by rest false e h = neither _ _ (apart_key q k (apart_sides folder q k below e)) (rest h)

none_there : (o : Option Node) → is_some o ≡ false → o ≡ None
none_there None e = refl
none_there (Some n) e = let d : true ≡ false = e in absurd (cc)

paths_in : Listed → List (List ℕ)
paths_in (listed.Paths ps) = ps
paths_in listed.TooMany = []

IsPaths : Listed → Type 0
IsPaths (listed.Paths ps) = Unit {0}
IsPaths listed.TooMany = ⊥

all_paths : (ks ps : List (List ℕ)) (limit : ℕ) (b : Bool) → cond b (listed.Paths ks) listed.TooMany ≡ listed.Paths ps → ks ≡ ps
unfolding paths_in IsPaths
all_paths ks ps limit true e = ap paths_in e
all_paths ks ps limit false e = absurd (subst IsPaths (sym e) tt)

keys_listed : (t : TreeMap) (folder : List ℕ) (limit : ℕ) (ps : List (List ℕ)) → listed_at t folder limit ≡ listed.Paths ps → filter (is_below folder) (fin.keys t) ≡ ps
unfolding listed_at keys_below
keys_listed t folder limit ps e = all_paths (filter (is_below folder) (fin.keys t)) ps limit (nat_le (length (filter (is_below folder) (fin.keys t))) limit) e

none_listed : (t : TreeMap) (folder q : List ℕ) (limit : ℕ) (ps : List (List ℕ)) → listed_at t folder limit ≡ listed.Paths ps → is_below folder q ≡ true → has_path ps q ≡ false → fin.get t q ≡ None
none_listed t folder q limit ps e below none = none_there (fin.get t q) (fin.contains_key-keys t q
    ∙ no_key folder q (fin.keys t) below (ap (λ (l : List (List ℕ)). has_path l q) (keys_listed t folder limit ps e) ∙ none))

pub all_listed : (folder : List ℕ) (limit : ℕ) (x : Listed) (ps : List (List ℕ)) (old new : Seen) → x ≡ listed.Paths ps → Lay (now_of old) folder limit x → now_of new ≡ now_of old → new.tells ≡ old.tells → AreAll folder ps new
all_listed folder limit x ps old new is lay now same = record {
  others = λ tells q below none. none_listed (map_now new.past) folder q limit ps (lay.is (map_now new.past) (sym now ∙ told_now new tells) ∙ is) below none;
}

-- ### One path after the other

pub gone_none : (covers : List ℕ → Bool) (seen : Seen) → AreGone covers [] seen seen
gone_none covers seen = record { each = λ tells q o h. elim h [ inl n ↦ n | inr y ↦ absurd (let d : false ≡ true = y in cc) ] }

is_first : (q p : List ℕ) → has_path (p ∷ []) q ≡ true → q ≡ p
is_first q p h = elim (cases_Bool (bytes_eq q p)) [
  | inl y ↦ (bytes_eq-Decides q p).0 y
  | inr n ↦ absurd (let d : false ≡ true = sym (neither (bytes_eq q p) false n refl) ∙ h in cc)
]

-- a path that isn't covered stays
pub gone_kept : (covers : List ℕ → Bool) (p : List ℕ) (seen : Seen) → covers p ≡ false → AreGone covers (p ∷ []) seen seen
gone_kept covers p seen stays = record {
  each = λ tells q o h. elim h [
    | inl n ↦ n
    | inr y ↦ absurd (let d : true ≡ false = sym o ∙ ap covers (is_first q p y) ∙ stays in cc)
  ];
}

pub not_below : (work p : List ℕ) → is_below work p ≡ false → is_other work p ≡ false
not_below work p e = rw e refl

pub is_end : (work p : List ℕ) → has_path (end_paths work) p ≡ true → is_other work p ≡ false
is_end work p e = by (is_below work p) (has_path (end_paths work) p) e
  where
    by : (a b : Bool) → b ≡ true → (a && not b) ≡ false
    by true b e = rw e refl
    by false b e = refl

swept_there : (t : TreeMap) (p q : List ℕ) → fin.get t q ≡ None → fin.get (fin.remove t p) q ≡ None
swept_there t p q none = elim (same_path q p) [
  | inl e ↦ subst (λ (x : List ℕ). fin.get (fin.remove t p) x ≡ None) (sym e) (get_taken t p)
  | inr f ↦ get_taken_other t p q (λ e. let d : true ≡ false = sym (here q p e) ∙ f in cc) ∙ none
]
  where
    here : (q p : List ℕ) → q ≡ p → is_eq (slice_cmp nat_cmp q p) ≡ true
    here q p e = subst (λ (x : List ℕ). is_eq (slice_cmp nat_cmp q x) ≡ true) e (here_eq q)

-- a path that is taken away is gone
pub gone_swept : {A E : Type 0} (covers : List ℕ → Bool) (p : List ℕ) (old new : Seen) (r : Result A E) → new.tells ≡ old.tells → OnOk r (now_of new ≡ option_map (without p) (now_of old)) → OnOk r (AreGone covers (p ∷ []) old new)
gone_swept covers p old new (Ok a) same now = record {
  each = λ tells q o h. subst (λ (t : TreeMap). fin.get t q ≡ None) (sym (swept tells)) (elim h [
    | inl n ↦ swept_there (map_now old.past) p q n
    | inr y ↦ subst (λ (x : List ℕ). fin.get (fin.remove (map_now old.past) p) x ≡ None) (sym (is_first q p y)) (get_taken (map_now old.past) p)
  ]);
}
  where
    swept : old.tells ≡ true → map_now new.past ≡ fin.remove (map_now old.past) p
    swept tells = same_map _ _ (sym (told_now new (same ∙ tells)) ∙ now ∙ ap (λ (o : Option TreeMap). option_map (without p) o) (told_now old tells))
gone_swept covers p old new (Err e) same now = tt

pub gone_more : (covers : List ℕ → Bool) (paths : List (List ℕ)) (i : ℕ) (p d : List ℕ) (old mid new : Seen) → i < length paths → p ≡ get_or paths i d → mid.tells ≡ old.tells
    → AreGone covers (take i paths) old mid → AreGone covers (p ∷ []) mid new → AreGone covers (take (i + 1) paths) old new
gone_more covers paths i p d old mid new l is same a b = record {
  each = λ tells q o h. elim h [
    | inl n ↦ b.each (same ∙ tells) q o (inl (a.each tells q o (inl n)))
    | inr y ↦ last tells q o (cases_Bool (has_path (take i paths) q)) y
  ];
}
  where
    here : (q : List ℕ) → has_path (take i paths) q ≡ false → has_path (take (i + 1) paths) q ≡ true → bytes_eq q p ≡ true
    here q n y = ap (λ (x : List ℕ). bytes_eq q x) is ∙ sym (list_any_more (bytes_eq q) paths i d l ∙ ap (λ (c : Bool). c || bytes_eq q (get_or paths i d)) n) ∙ y

    last : old.tells ≡ true → (q : List ℕ) → covers q ≡ true → (has_path (take i paths) q ≡ true) ⊎ (has_path (take i paths) q ≡ false) → has_path (take (i + 1) paths) q ≡ true → fin.get (map_now new.past) q ≡ None
    last tells q o (inl so_far) y = b.each (same ∙ tells) q o (inl (a.each tells q o (inr so_far)))
    last tells q o (inr n) y = b.each (same ∙ tells) q o (inr (rw (here q n y) refl))

pub gone_all : (covers : List ℕ → Bool) (paths : List (List ℕ)) (i : ℕ) (old new : Seen) → length paths ≤ i → AreGone covers (take i paths) old new → AreGone covers paths old new
gone_all covers paths i old new l a = subst (λ (ps : List (List ℕ)). AreGone covers ps old new) (take_all i paths l) a

-- ### The whole of it

no_changes : (p q : Past) → q ≡ adds p call.Settle effect.Settled → (state_of q).changes ≡ []
no_changes p q e = ap (λ (x : Past). (state_of x).changes) e ∙ ap (λ s. s.changes) (call_steps p call.Settle effect.Settled)

below_of : (work q : List ℕ) → is_other work q ≡ true → is_below work q ≡ true
below_of work q o = by (is_below work q) (not (has_path (end_paths work) q)) o
  where
    by : (a b : Bool) → (a && b) ≡ true → a ≡ true
    by true b h = refl
    by false b h = h

pub cleared : (work : List ℕ) (paths given : List (List ℕ)) (listed swept stored : Seen) → given ≡ paths → AreAll work paths listed → AreGone (is_other work) given listed swept → swept.tells ≡ listed.tells → stored.tells ≡ swept.tells
    → now_of stored ≡ now_of swept → (swept.tells ≡ true → stored.past ≡ adds swept.past call.Settle effect.Settled) → IsCleared work stored
cleared work paths given listed swept stored is all gone same last now made = record {
  gone = λ tells q o. ap (λ (t : TreeMap). fin.get t q) (calm_map swept stored (sym last ∙ tells) last now)
      ∙ gone.each (sym same ∙ sym last ∙ tells) q o (elim (cases_Bool (has_path paths q)) [
        | inl y ↦ inr (ap (λ (ps : List (List ℕ)). has_path ps q) is ∙ y)
        | inr n ↦ inl (all.others (sym same ∙ sym last ∙ tells) q (below_of work q o) n)
      ]);
  stored = λ tells. no_changes swept.past stored.past (made (sym last ∙ tells));
}

pub cleared_whole : {A E : Type 0} (work : List ℕ) (mid new : Seen) (r : Result A E) → new ≡ mid → OnOk r (IsCleared work mid) → OnOk r (IsCleared work new)
cleared_whole work mid new (Ok a) same is = subst (λ (s : Seen). IsCleared work s) (sym same) is
cleared_whole work mid new (Err e) same is = tt

-- all that lay below the folder is gone
none_below : (work : List ℕ) (paths given : List (List ℕ)) (old new : Seen) → given ≡ paths → AreAll work paths old → AreGone (is_below work) given old new
    → old.tells ≡ true → (q : List ℕ) → is_below work q ≡ true → fin.get (map_now new.past) q ≡ None
none_below work paths given old new is all gone tells q below = gone.each tells q below (elim (cases_Bool (has_path paths q)) [
  | inl y ↦ inr (ap (λ (ps : List (List ℕ)). has_path ps q) is ∙ y)
  | inr n ↦ inl (all.others tells q below n)
])

-- ### The plan alone

-- a node that is put at one path and moved to another stands there
moved_there : (t : TreeMap) (from to : List ℕ) (n : Node) → fin.get (moved from to (with_node from n t)) to ≡ Some n
unfolding moved
moved_there t from to n = rw (get_put t from n) (get_put (fin.remove (fin.insert t from n) from) to n)

-- and nothing else comes to be there
moved_apart : (t : TreeMap) (from to q : List ℕ) (n : Node) → q ≢ to → fin.get t q ≡ None → fin.get (moved from to (with_node from n t)) q ≡ None
unfolding moved
moved_apart t from to q n out none = rw (get_put t from n) (get_put_other (fin.remove (fin.insert t from n) from) to n q out ∙ elim (same_path q from) [
  | inl e ↦ subst (λ (x : List ℕ). fin.get (fin.remove (fin.insert t from n) from) x ≡ None) (sym e) (get_taken (fin.insert t from n) from)
  | inr f ↦ get_taken_other (fin.insert t from n) from q (not_same q from f) ∙ get_put_other t from n q (not_same q from f) ∙ none
])

now_after : (change : TreeMap → TreeMap) (old new : Seen) → old.tells ≡ true → new.tells ≡ old.tells → now_of new ≡ option_map change (now_of old) → map_now new.past ≡ change (map_now old.past)
now_after change old new tells same now = same_map _ _ (sym (told_now new (same ∙ tells)) ∙ now ∙ ap (λ (o : Option TreeMap). option_map change o) (told_now old tells))

-- a plan that is put under another name, stored, and moved to its own, once all else is swept
pub plan_alone : (work : List ℕ) (paths given : List (List ℕ)) (node : Node) (old swept put settled new : Seen) → given ≡ paths → AreGone (is_below work) given old swept
    → swept.tells ≡ old.tells → put.tells ≡ swept.tells → settled.tells ≡ put.tells → new.tells ≡ settled.tells
    → now_of put ≡ option_map (with_node (work_path work plan_new) node) (now_of swept) → now_of settled ≡ now_of put
    → now_of new ≡ option_map (moved (work_path work plan_new) (work_path work plan)) (now_of settled) → AreAll work paths old → HasPlanAlone work node new
plan_alone work paths given node old swept put settled new is gone a b c d puts settles moves all = record {
  there = λ tells. let at = told tells in ap (λ (t : TreeMap). fin.get t (work_path work plan)) (last tells at)
      ∙ moved_there (map_now swept.past) (work_path work plan_new) (work_path work plan) node;
  alone = λ tells q below out. let at = told tells in ap (λ (t : TreeMap). fin.get t q) (last tells at)
      ∙ moved_apart (map_now swept.past) (work_path work plan_new) (work_path work plan) q node out (none_below work paths given old swept is all gone at q below);
}
  where
    told : new.tells ≡ true → old.tells ≡ true
    told tells = sym (d ∙ c ∙ b ∙ a) ∙ tells

    last : new.tells ≡ true → old.tells ≡ true → map_now new.past ≡ moved (work_path work plan_new) (work_path work plan) (with_node (work_path work plan_new) node (map_now swept.past))
    last tells at =
        now_after (moved (work_path work plan_new) (work_path work plan)) settled new (c ∙ b ∙ a ∙ at) d moves
        ∙ ap (moved (work_path work plan_new) (work_path work plan)) (calm_map put settled (b ∙ a ∙ at) c settles ∙ now_after (with_node (work_path work plan_new) node) swept put (a ∙ at) b puts)

-- the same by the paths' texts
pub put_at : {A E : Type 0} (r : Result A E) (old new : Option TreeMap) (p q : List ℕ) (n : Node) → p ≡ q → OnOk r (new ≡ option_map (with_node p n) old) → OnOk r (new ≡ option_map (with_node q n) old)
put_at r old new p q n e h = subst (λ (x : List ℕ). OnOk r (new ≡ option_map (with_node x n) old)) e h

pub moved_at : {A E : Type 0} (r : Result A E) (old new : Option TreeMap) (p q from to : List ℕ) → p ≡ from → q ≡ to → OnOk r (new ≡ option_map (moved p q) old) → OnOk r (new ≡ option_map (moved from to) old)
moved_at r old new p q from to e f h =
    subst (λ (x : List ℕ). OnOk r (new ≡ option_map (moved from x) old)) f (subst (λ (x : List ℕ). OnOk r (new ≡ option_map (moved x q) old)) e h)

pub since_ran : {A E : Type 0} (work : List ℕ) (c d : CoreState) (old new : Past) (r : Result A E) → Ran work c old d new r → IsSince old new
since_ran work c d old new r a = record { rest = a.rest; first = a.first; log = a.log }

pub since_then : (old mid new : Past) → IsSince old mid → IsSince mid new → IsSince old new
since_then old mid new a b = record {
  rest = a.rest ++ b.rest;
  first = b.first ∙ a.first;
  log = b.log ∙ ap (λ (l : List Happened). l ++ b.rest) a.log ∙ append_assoc old.log a.rest b.rest;
}

pub alone_whole : {A E : Type 0} (work : List ℕ) (paths : List (List ℕ)) (node : Node) (old begun mid new : Seen) (r : Result A E) → begun ≡ old → new ≡ mid
    → OnOk r (AreAll work paths begun → BeganAlone work node begun mid) → OnOk r (AreAll work paths old → BeganAlone work node old new)
alone_whole work paths node old begun mid new r first last h =
    subst (λ (s : Seen). OnOk r (AreAll work paths old → BeganAlone work node old s)) (sym last) (subst (λ (s : Seen). OnOk r (AreAll work paths s → BeganAlone work node s mid)) first h)

pub alone_named : {A E : Type 0} (work : List ℕ) (paths : List (List ℕ)) (put node : Node) (old new : Seen) (r : Result A E) → put ≡ node
    → OnOk r (AreAll work paths old → BeganAlone work put old new) → OnOk r (AreAll work paths old → BeganAlone work node old new)
alone_named work paths put node old new r same h = subst (λ (n : Node). OnOk r (AreAll work paths old → BeganAlone work n old new)) same h
