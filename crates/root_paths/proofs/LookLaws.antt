-- What looks at a tree leave.
use Rattle.std.proofs.Common.{◌≡◌, ℕ, true, List, [], ◌∷◌, ◌++◌, Result, Ok, Err, OnOk, IsErrOf, refl, sym, ap, ◌∙◌, arith, append_assoc, append-nil}
use Rattle.std.specs.Prelude.{IsTrue, ◌&&◌, Bool, false}
use Rattle.std.specs.List.{list_all}
use Rattle.file_tree.specs.declared.call.Call.{Call}
use Rattle.file_tree.specs.declared.call.Call.TheVariants as call
use Rattle.file_tree.specs.declared.call.Effect.TheVariants as effect
use Rattle.file_tree.specs.declared.node.TreeErr.{TreeErr}
use Rattle.file_tree.specs.declared.node.TreeErr.TheVariants as tree
use Rattle.file_tree.specs.Seen.{Seen, Past, Happened, adds, now_of}
use Rattle.file_tree.specs.Causes.{HasCause, Rose}
use Rattle.file_tree.specs.Moments.{LooksOnly, is_look}
use Rattle.root_paths.specs.Looks.{LookedAt, Looked}

-- one look more
one_look : (old new : Past) (c : Call) → is_look (record { call = c; effect = effect.Same }) ≡ true → new ≡ adds old c effect.Same → LooksOnly old new
one_look old new c look is = record {
  rest = (record { call = c; effect = effect.Same }) ∷ [];
  first = ap (λ (p : Past). p.first) is;
  log = ap (λ (p : Past). p.log) is;
  each = rw look refl;
}

no_look : (old new : Past) → new ≡ old → LooksOnly old new
no_look old new is = record {
  rest = [];
  first = ap (λ (p : Past). p.first) is;
  log = ap (λ (p : Past). p.log) is ∙ sym (append-nil old.log);
  each = refl;
}

looks_by : {X : Type 0} (old new : Seen) (c : Call) → is_look (record { call = c; effect = effect.Same }) ≡ true → (r : Result X TreeErr)
    → OnOk r (new.past ≡ adds old.past c effect.Same) → (IsErrOf r tree.Failed → new.past ≡ adds old.past c effect.Same) → HasCause old new r
    → LooksOnly old.past new.past
looks_by old new c look (Ok x) done failed cause = one_look old.past new.past c look done
looks_by old new c look (Err tree.Failed) done failed cause = one_look old.past new.past c look (failed refl)
looks_by old new c look (Err tree.NoMemory) done failed cause = no_look old.past new.past (ap (λ (s : Seen). s.past) (cause.no_memory refl))

looked_by : {X : Type 0} (old new : Seen) (c : Call) → is_look (record { call = c; effect = effect.Same }) ≡ true → (r : Result X TreeErr)
    → (old.tells ≡ true → OnOk r (new.past ≡ adds old.past c effect.Same)) → (old.tells ≡ true → IsErrOf r tree.Failed → new.past ≡ adds old.past c effect.Same)
    → HasCause old new r → now_of new ≡ now_of old → new.tells ≡ old.tells → Looked old new
looked_by old new c look r done failed cause now tells = record {
  now = now;
  later = cause.later;
  tells = tells;
  looks = λ t. looks_by old new c look r (done t) (failed t) cause;
}

pub looked_list : {X : Type 0} (old new : Seen) (folder : List ℕ) (r : Result X TreeErr)
    → (old.tells ≡ true → OnOk r (new.past ≡ adds old.past (call.List folder) effect.Same)) → (old.tells ≡ true → IsErrOf r tree.Failed → new.past ≡ adds old.past (call.List folder) effect.Same)
    → HasCause old new r → now_of new ≡ now_of old → new.tells ≡ old.tells → Looked old new
looked_list old new folder = looked_by old new (call.List folder) refl

pub looked_read : {X : Type 0} (old new : Seen) (path : List ℕ) (r : Result X TreeErr)
    → (old.tells ≡ true → OnOk r (new.past ≡ adds old.past (call.Read path) effect.Same)) → (old.tells ≡ true → IsErrOf r tree.Failed → new.past ≡ adds old.past (call.Read path) effect.Same)
    → HasCause old new r → now_of new ≡ now_of old → new.tells ≡ old.tells → Looked old new
looked_read old new path = looked_by old new (call.Read path) refl

pub each_read : {X : Type 0} (old new : Seen) (path : List ℕ) (r : Result X TreeErr) → (old.tells ≡ true → OnOk r (new.past ≡ adds old.past (call.Read path) effect.Same))
    → OnOk r (LookedAt old new (path ∷ []))
each_read old new path (Ok x) done = record { log = λ t. ap (λ (p : Past). p.log) (done t) }
each_read old new path (Err e) done = tt

pub ruleset look_rules = (looked_list, looked_read, each_read)

-- ### One after another

all_both : {X : Type 0} (p : X → Bool) (xs ys : List X) → IsTrue (list_all p xs) → IsTrue (list_all p ys) → IsTrue (list_all p (xs ++ ys))
all_both p [] ys a b = b
all_both p (x ∷ xs) ys a b = by_test (p x) (list_all p xs) (list_all p (xs ++ ys)) a (λ rest. all_both p xs ys rest b)
  where
    by_test : (t r q : Bool) → (t && r) ≡ true → (r ≡ true → q ≡ true) → (t && q) ≡ true
    by_test true r q a f = f a
    by_test false r q a f = cc

looks_then : (a b c : Past) → LooksOnly a b → LooksOnly b c → LooksOnly a c
looks_then a b c x y = record {
  rest = x.rest ++ y.rest;
  first = y.first ∙ x.first;
  log = y.log ∙ ap (λ (l : List Happened). l ++ y.rest) x.log ∙ append_assoc a.log x.rest y.rest;
  each = all_both is_look x.rest y.rest x.each y.each;
}

pub looked_none : (s : Seen) → Looked s s
looked_none s = record { now = refl; later = omega arith; tells = refl; looks = λ t. no_look s.past s.past refl }

pub looked_then : (a b c : Seen) → Looked a b → Looked b c → Looked a c
looked_then a b c x y = record {
  now = y.now ∙ x.now;
  later = omega (arith, x.later, y.later);
  tells = y.tells ∙ x.tells;
  looks = λ t. looks_then a.past b.past c.past (x.looks t) (y.looks (x.tells ∙ t));
}

-- a fault behind looks is one since the first of them
pub rose_since : (a b c : Seen) → Looked a b → Rose b.faults c.faults → Rose a.faults c.faults
rose_since a b c looked rose = omega (arith, looked.later, rose)
