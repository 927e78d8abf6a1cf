-- What looks at a tree leave of its past, and what calls add to it.
use Rattle.std.proofs.Common.{Bool, true, false, ◌≡◌, ℕ, List, [], ◌∷◌, ◌++◌, Result, Ok, Err, OnOk, IsErrOf, refl, sym, ap, ◌∙◌, append_assoc, append-nil}
use Rattle.std.specs.Prelude.{IsTrue, ◌&&◌}
use Rattle.std.specs.List.{list_all}
use Rattle.file_tree.specs.declared.call.Call.TheVariants as call
use Rattle.file_tree.specs.declared.call.Effect.TheVariants as effect
use Rattle.file_tree.specs.declared.node.TreeErr.{TreeErr}
use Rattle.file_tree.specs.declared.node.TreeErr.TheVariants as tree
use Rattle.file_tree.specs.Seen.{Seen, Past, Happened, adds, now_of}
use Rattle.file_tree.specs.Causes.{Calm, HasCause}
use Rattle.file_tree.specs.Moments.{LooksOnly, adds_all, is_look}

-- ### One look

one_look : (old new : Past) (path : List ℕ) → new ≡ adds old (call.Read path) effect.Same → LooksOnly old new
one_look old new path is = record {
  rest = (record { call = call.Read path; effect = effect.Same }) ∷ [];
  first = ap (λ (p : Past). p.first) is;
  log = ap (λ (p : Past). p.log) is;
  each = refl;
}

no_look : (old new : Past) → new ≡ old → LooksOnly old new
no_look old new is = record {
  rest = [];
  first = ap (λ (p : Past). p.first) is;
  log = ap (λ (p : Past). p.log) is ∙ sym (append-nil old.log);
  each = refl;
}

pub looked : {X : Type 0} (old new : Seen) (path : List ℕ) (r : Result X TreeErr) → (old.tells ≡ true → OnOk r (new.past ≡ adds old.past (call.Read path) effect.Same))
    → (old.tells ≡ true → IsErrOf r tree.Failed → new.past ≡ adds old.past (call.Read path) effect.Same) → HasCause old new r → old.tells ≡ true
    → LooksOnly old.past new.past
looked old new path (Ok x) done failed cause told = one_look old.past new.past path (done told)
looked old new path (Err tree.Failed) done failed cause told = one_look old.past new.past path (failed told refl)
looked old new path (Err tree.NoMemory) done failed cause told = no_look old.past new.past (ap (λ (s : Seen). s.past) (cause.no_memory refl))

pub calm-by : {X : Type 0} (old new : Seen) (r : Result X TreeErr) → now_of new ≡ now_of old → HasCause old new r → Calm old new
calm-by old new r now cause = record { now = now; later = cause.later }

pub ruleset look_rules = (looked, calm-by)

-- ### One after another

all-both : {X : Type 0} (p : X → Bool) (xs ys : List X) → IsTrue (list_all p xs) → IsTrue (list_all p ys) → IsTrue (list_all p (xs ++ ys))
all-both p [] ys a b = b
all-both p (x ∷ xs) ys a b = by_test (p x) (list_all p xs) (list_all p (xs ++ ys)) a (λ rest. all-both p xs ys rest b)
  where
    by_test : (t r q : Bool) → (t && r) ≡ true → (r ≡ true → q ≡ true) → (t && q) ≡ true
    by_test true r q a f = f a
    by_test false r q a f = cc

pub looks-then : (a b c : Past) → LooksOnly a b → LooksOnly b c → LooksOnly a c
looks-then a b c x y = record {
  rest = x.rest ++ y.rest;
  first = y.first ∙ x.first;
  log = y.log ∙ ap (λ (l : List Happened). l ++ y.rest) x.log ∙ append_assoc a.log x.rest y.rest;
  each = all-both is_look x.rest y.rest x.each y.each;
}

pub calls-then : (a b c : Past) (xs ys : List Happened) → b ≡ adds_all a xs → c ≡ adds_all b ys → c ≡ adds_all a (xs ++ ys)
calls-then a b c xs ys first then_ =
    then_ ∙ ap (λ (p : Past). adds_all p ys) first
    ∙ ap (λ (l : List Happened). record { first = a.first; log = l }) (append_assoc a.log xs ys)
