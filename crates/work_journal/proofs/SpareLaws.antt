-- What one call leaves as it is, and calls one after the other.
use Rattle.std.proofs.Common.{◌≡◌, ◌≢◌, inl, inr, ℕ, ◌+◌, ◌≤◌, true, cond, List, [], ◌∷◌, ◌++◌, map, refl, sym, ap, ◌∙◌, subst, arith, IsTrue, append_assoc, nat_eq}
use Rattle.std.specs.Prelude.{Result, Ok, Err, OnOk, IsErrOf, Option, Some, None, count_by}
use Rattle.std.specs.List.{starts_with}
use Rattle.std.specs.FinMap as fin
use Rattle.std.proofs.lemmas.Bool.Decides.{Decides-eqb}
use Rattle.std.proofs.lemmas.Slice.Eq.{starts_is}
use Rattle.std.proofs.lemmas.List.Sums.{sum_by_push}
use Rattle.file_tree.specs.declared.node.Node.{Node}
use Rattle.file_tree.specs.declared.node.TreeErr.{TreeErr}
use Rattle.file_tree.specs.declared.node.TreeErr.TheVariants.{Failed, NoMemory}
use Rattle.file_tree.specs.declared.call.Call.{Call}
use Rattle.file_tree.specs.declared.call.Change.TheVariants as change
use Rattle.file_tree.specs.declared.call.Effect.{Effect}
use Rattle.file_tree.specs.declared.call.Effect.TheVariants as effect
use Rattle.file_tree.specs.Trees.{is_below, TreeMap, carried, moved}
use Rattle.file_tree.specs.Seen.{Past, Happened, Seen, adds, after_effect, map_now, calls_of, is_settle, settles_of}
use Rattle.file_tree.specs.Causes.{Fails, HasCause, PutFails, MoveFails, TakeFails}
use Rattle.file_tree.specs.Causes.PutFails.{put_nothing, put_anything, put_taken}
use Rattle.file_tree.specs.Causes.MoveFails.{move_nothing, move_made}
use Rattle.file_tree.specs.Causes.TakeFails.{take_nothing, take_made}
use Rattle.file_tree.proofs.PastLaws.{now_more}
use Rattle.journal_core.specs.Names.{Name, IsStep}
use Rattle.work_journal.specs.Work.{work_path, name_text}
use Rattle.work_journal.specs.Views.{MakerView}
use Rattle.work_journal.specs.Spares.{Spares, InWork, InWorkOr, IsHit, in_work, is_target}
use Rattle.work_journal.proofs.Changes.{get_put_other, get_taken_other}

-- ### Paths in the work folder

starts_again : (xs ys : List ℕ) → IsTrue (starts_with nat_eq (xs ++ ys) xs)
starts_again xs ys = (starts_is Decides-eqb (xs ++ ys) xs (starts_with nat_eq (xs ++ ys) xs) refl).1 ys refl

pub is_work_path : (work : List ℕ) (n : Name) → IsTrue (is_below work (work_path work n))
unfolding work_path
is_work_path work n = subst (λ (p : List ℕ). IsTrue (starts_with nat_eq p (work ++ 47 ∷ []))) (append_assoc work (47 ∷ []) (name_text n)) (starts_again (work ++ 47 ∷ []) (name_text n))

-- ### Effects

-- an effect changes these paths alone
abbrev pub EffectSpares : (List ℕ → Type 0) → Effect → Type 0
EffectSpares hits x = (t : TreeMap) (q : List ℕ) → (hits q → ⊥) → fin.get (after_effect t x) q ≡ fin.get t q

pub same_spares : (hits : List ℕ → Type 0) → EffectSpares hits effect.Same
same_spares hits t q out = refl

pub settled_spares : (hits : List ℕ → Type 0) → EffectSpares hits effect.Settled
settled_spares hits t q out = refl

-- a path that isn't changed is another one
missed : (hits : List ℕ → Type 0) (p q : List ℕ) → hits p → (hits q → ⊥) → q ≢ p
missed hits p q hit out e = out (subst hits (sym e) hit)

pub put_spares : (hits : List ℕ → Type 0) (p : List ℕ) (n : Node) → hits p → EffectSpares hits (effect.Changed (change.Put p n))
put_spares hits p n hit t q out = get_put_other t p n q (missed hits p q hit out)

pub take_spares : (hits : List ℕ → Type 0) (p : List ℕ) → hits p → EffectSpares hits (effect.Changed (change.Take p))
take_spares hits p hit t q out = get_taken_other t p q (missed hits p q hit out)

carried_spares : (from to : List ℕ) (t : TreeMap) (q : List ℕ) → q ≢ from → q ≢ to → (o : Option Node) → fin.get (carried o from to t) q ≡ fin.get t q
carried_spares from to t q a b None = refl
carried_spares from to t q a b (Some n) = get_put_other (fin.remove t from) to n q b ∙ get_taken_other t from q a

pub move_spares : (hits : List ℕ → Type 0) (from to : List ℕ) → hits from → hits to → EffectSpares hits (effect.Changed (change.Move from to))
unfolding moved
move_spares hits from to a b t q out = carried_spares from to t q (missed hits from q a out) (missed hits to q b out) (fin.get t from)

pub failed_put_spares : (hits : List ℕ → Type 0) (p : List ℕ) → hits p → (x : Effect) → PutFails p x → EffectSpares hits x
failed_put_spares hits p hit x put_nothing = same_spares hits
failed_put_spares hits p hit x (put_anything n) = put_spares hits p n hit
failed_put_spares hits p hit x put_taken = take_spares hits p hit

pub failed_move_spares : (hits : List ℕ → Type 0) (from to : List ℕ) → hits from → hits to → (x : Effect) → MoveFails from to x → EffectSpares hits x
failed_move_spares hits from to a b x move_nothing = same_spares hits
failed_move_spares hits from to a b x move_made = move_spares hits from to a b

pub failed_take_spares : (hits : List ℕ → Type 0) (p : List ℕ) → hits p → (x : Effect) → TakeFails p x → EffectSpares hits x
failed_take_spares hits p hit x take_nothing = same_spares hits
failed_take_spares hits p hit x take_made = take_spares hits p hit

-- ### One call

calls_push : (hs : List Happened) (h : Happened) → map (λ (x : Happened). x.call) (hs ++ h ∷ []) ≡ map (λ (x : Happened). x.call) hs ++ h.call ∷ []
calls_push [] h = refl
calls_push (g ∷ hs) h = ap (λ (ks : List Call). g.call ∷ ks) (calls_push hs h)

settles_more : (p : Past) (k : Call) (x : Effect) → settles_of (adds p k x) ≡ settles_of p + cond (is_settle k) 1 0
settles_more p k x = ap (λ (ks : List Call). count_by is_settle ks) (calls_push p.log (record { call = k; effect = x })) ∙ sum_by_push (λ (y : Call). cond (is_settle y) 1 0) (calls_of p) k

pub spares_still : (hits : List ℕ → Type 0) (n : ℕ) (seen : Seen) → Spares hits n seen seen
spares_still hits n seen = record { others = λ tells q out. refl; most = λ tells. omega arith }

added_others : (hits : List ℕ → Type 0) (p new : Past) (k : Call) (x : Effect) → new ≡ adds p k x → EffectSpares hits x → (q : List ℕ) → (hits q → ⊥) → fin.get (map_now new) q ≡ fin.get (map_now p) q
added_others hits p new k x is spares q out = ap (λ (y : Past). fin.get (map_now y) q) is ∙ ap (λ (t : TreeMap). fin.get t q) (now_more p k x) ∙ spares (map_now p) q out

added_most : (n : ℕ) (p new : Past) (k : Call) (x : Effect) → new ≡ adds p k x → cond (is_settle k) 1 0 ≤ n → settles_of new ≤ settles_of p + n
added_most n p new k x is few =
    let e : settles_of new ≡ settles_of p + cond (is_settle k) 1 0 = ap settles_of is ∙ settles_more p k x in
    omega (arith, e, few)

-- a call that is made, or fails, or finds no memory
pub spares_call : {A : Type 0} (hits : List ℕ → Type 0) (n : ℕ) (old new : Seen) (r : Result A TreeErr) (k : Call) (x : Effect) (fails : Effect → Type 0)
    → cond (is_settle k) 1 0 ≤ n → EffectSpares hits x → ((y : Effect) → fails y → EffectSpares hits y)
    → (old.tells ≡ true → OnOk r (new.past ≡ adds old.past k x))
    → (old.tells ≡ true → IsErrOf r Failed → Fails old.past new.past k fails)
    → HasCause old new r → Spares hits n old new
spares_call hits n old new (Ok u) k x fails few does can made failed cause = record {
  others = λ tells q out. added_others hits old.past new.past k x (made tells) does q out;
  most = λ tells. added_most n old.past new.past k x (made tells) few;
}
spares_call hits n old new (Err Failed) k x fails few does can made failed cause = record {
  others = λ tells q out. (let f = failed tells refl in added_others hits old.past new.past k f.effect f.past (can f.effect f.can) q out);
  most = λ tells. (let f = failed tells refl in added_most n old.past new.past k f.effect f.past few);
}
spares_call hits n old new (Err NoMemory) k x fails few does can made failed cause =
    subst (λ (s : Seen). Spares hits n old s) (sym (cause.no_memory refl)) (spares_still hits n old)

-- ### One after the other

pub spares_then : (hits : List ℕ → Type 0) (n m : ℕ) (old mid new : Seen) → mid.tells ≡ old.tells → Spares hits n old mid → Spares hits m mid new → Spares hits (n + m) old new
spares_then hits n m old mid new same a b = record {
  others = λ tells q out. b.others (same ∙ tells) q out ∙ a.others tells q out;
  most = λ tells. (let l = a.most tells in let k = b.most (same ∙ tells) in omega (arith, l, k));
}

-- more paths, and more settles
pub spares_wider : (hits more : List ℕ → Type 0) (n m : ℕ) (old new : Seen) → ((q : List ℕ) → hits q → more q) → n ≤ m → Spares hits n old new → Spares more m old new
spares_wider hits more n m old new all few a = record {
  others = λ tells q out. a.others tells q (λ h. out (all q h));
  most = λ tells. (let l = a.most tells in omega (arith, l, few));
}

-- ### Paths that may be changed

pub step_hit : (work : List ℕ) (v : MakerView) (job k : ℕ) (to : List ℕ) → IsStep v.steps job k → v.target job k ≡ to → (q : List ℕ) → InWorkOr work to q → IsHit work v (λ j. j ≡ job) q
step_hit work v job k to is at q (inl inside) = in_work inside
step_hit work v job k to is at q (inr e) = is_target job k is refl (at ∙ e)

pub work_hit : (work : List ℕ) (v : MakerView) (moves : ℕ → Type 0) (q : List ℕ) → InWork work q → IsHit work v moves q
work_hit work v moves q inside = in_work inside

-- targets of more jobs
pub more_hit : (work : List ℕ) (v : MakerView) (less more : ℕ → Type 0) → ((j : ℕ) → less j → more j) → (q : List ℕ) → IsHit work v less q → IsHit work v more q
more_hit work v less more all q (in_work inside) = in_work inside
more_hit work v less more all q (is_target j k is moves at) = is_target j k is (all j moves) at

-- of a maker that has made more nodes
pub since_hit : (work : List ℕ) (u v : MakerView) (less more : ℕ → Type 0) → u ≡ v → ((j : ℕ) → less j → more j) → (q : List ℕ) → IsHit work u less q → IsHit work v more q
since_hit work u v less more same all q h = more_hit work v less more all q (subst (λ (x : MakerView). IsHit work x less q) same h)
