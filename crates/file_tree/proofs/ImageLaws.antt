-- What a stop may leave: the map now is one such map, after a settle it is the only one, and a torn one is another.
use Rattle.std.proofs.Common.{◌≡◌, ℕ, zero, suc, ◌≤◌, List, [], ◌∷◌, ◌++◌, length, take, map, min, refl, sym, ap, subst, ◌∙◌, arith}
use Rattle.file_tree.specs.declared.node.Node.TheVariants as node
use Rattle.file_tree.specs.declared.call.Call.{Call}
use Rattle.file_tree.specs.declared.call.Change.{Change}
use Rattle.file_tree.specs.declared.call.Change.TheVariants as change
use Rattle.file_tree.specs.declared.call.Effect.{Effect}
use Rattle.file_tree.specs.declared.call.Effect.TheVariants as effect
use Rattle.file_tree.specs.Trees.{TreeMap, after_change, after_changes}
use Rattle.file_tree.specs.Seen.{Happened, Past, adds, map_now, after_all, after_effect}
use Rattle.file_tree.specs.Images.{State, state_after, states_after, settled_state, state_of, Full, Image, torn_change, image_at}
use Rattle.file_tree.specs.Images.Leaves.{whole, torn}
use Rattle.file_tree.specs.Images.Full.{none, more}
use Rattle.file_tree.specs.Logs.{Place, happened, past_with, tree_of}
use Rattle.file_tree.specs.Pending.{states_by, pending_state}

abbrev IsPending : State → Type 0
IsPending s = s.now ≡ after_changes s.settled s.changes

pub after_changes-push : (t : TreeMap) (cs : List Change) (c : Change) → after_changes t (cs ++ c ∷ []) ≡ after_change (after_changes t cs) c
after_changes-push t [] c = refl
after_changes-push t (d ∷ cs) c = after_changes-push (after_change t d) cs c

pending_after : (s : State) (e : Effect) → IsPending s → IsPending (state_after s e)
pending_after s effect.Same so = so
pending_after s (effect.Changed c) so = ap (λ t. after_change t c) so ∙ sym (after_changes-push s.settled s.changes c)
pending_after s effect.Settled so = refl

pub pending_all : (s : State) (hs : List Happened) → IsPending s → IsPending (states_after s hs)
pending_all s [] so = so
pending_all s (h ∷ hs) so = pending_all (state_after s h.effect) hs (pending_after s h.effect so)

now_after : (s : State) (e : Effect) → (state_after s e).now ≡ after_effect s.now e
now_after s effect.Same = refl
now_after s (effect.Changed c) = refl
now_after s effect.Settled = refl

now_all : (s : State) (hs : List Happened) → (states_after s hs).now ≡ after_all s.now hs
now_all s [] = refl
now_all s (h ∷ hs) = now_all (state_after s h.effect) hs ∙ ap (λ t. after_all t hs) (now_after s h.effect)

-- the moment's map is the map now
pub state_now : (p : Past) → (state_of p).now ≡ map_now p
unfolding state_of map_now
state_now p = now_all (settled_state p.first) p.log

all_whole : (t : TreeMap) (cs : List Change) → Full t cs (after_changes t cs)
all_whole t [] = none
all_whole t (c ∷ cs) = more whole (all_whole (after_change t c) cs)

take_whole : (cs : List Change) → take (length cs) cs ≡ cs
take_whole [] = refl
take_whole (c ∷ cs) = ap (λ ds. c ∷ ds) (take_whole cs)

image_of_pending : (s : State) → IsPending s → Image s s.now
image_of_pending s so = record {
  kept = length s.changes;
  within = omega arith;
  full = rw (take_whole s.changes, so) (all_whole s.settled s.changes);
}

-- the map now is one that a stop may leave
pub image_now : (p : Past) → Image (state_of p) (map_now p)
unfolding state_of
image_now p = rw (← state_now p) (image_of_pending (state_of p) (pending_all (settled_state p.first) p.log refl))

states_after-push : (s : State) (hs : List Happened) (h : Happened) → states_after s (hs ++ h ∷ []) ≡ state_after (states_after s hs) h.effect
states_after-push s [] h = refl
states_after-push s (g ∷ hs) h = states_after-push (state_after s g.effect) hs h

-- the moment after one call more
pub state_of-adds : (p : Past) (c : Call) (e : Effect) → state_of (adds p c e) ≡ state_after (state_of p) e
unfolding state_of
state_of-adds p c e = states_after-push (settled_state p.first) p.log (record { call = c; effect = e })

full_of_none : (t u : TreeMap) → Full t [] u → u ≡ t
full_of_none t u none = refl

take_of_none : (n : ℕ) (cs : List Change) → cs ≡ [] → take n cs ≡ []
take_of_none zero cs e = refl
take_of_none (suc n) cs e = rw e refl

-- of a moment at which all is stored a stop leaves the map as it is
only_settled : (t u : TreeMap) → Image (settled_state t) u → u ≡ t
only_settled t u image = full_of_none t u (rw (take_of_none image.kept [] refl) at image.full)

-- after a settle the map now is the only one
pub image_settled : (p : Past) (c : Call) (u : TreeMap) → Image (state_of (adds p c effect.Settled)) u → u ≡ map_now p
image_settled p c u image =
    let settled : state_of (adds p c effect.Settled) ≡ settled_state (map_now p) = state_of-adds p c effect.Settled ∙ ap settled_state (state_now p) in
    only_settled (map_now p) u (subst (λ (s : State). Image s u) settled image)

all_torn : (left : List ℕ) (t : TreeMap) (cs : List Change) → Full t cs (after_changes t (map (torn_change left) cs))
all_torn left t [] = none
all_torn left t (change.Put path (node.File bytes mode) ∷ cs) = more (torn left mode) (all_torn left (after_change t (change.Put path (node.File left mode))) cs)
all_torn left t (change.Put path (node.Link target) ∷ cs) = more whole (all_torn left (after_change t (change.Put path (node.Link target))) cs)
all_torn left t (change.Move from to ∷ cs) = more whole (all_torn left (after_change t (change.Move from to)) cs)
all_torn left t (change.Take path ∷ cs) = more whole (all_torn left (after_change t (change.Take path)) cs)

take_few : (n : ℕ) (cs : List Change) → take n cs ≡ take (min n (length cs)) cs
take_few n [] = take_of_none n [] refl ∙ sym (take_of_none (min n 0) [] refl)
take_few zero (c ∷ cs) =
    let e : min 0 (suc (length cs)) ≡ 0 = omega arith in
    rw e refl
take_few (suc n) (c ∷ cs) =
    let e : min (suc n) (suc (length cs)) ≡ suc (min n (length cs)) = omega arith in
    rw e (ap (λ ds. c ∷ ds) (take_few n cs))

-- a torn map is one that a stop may leave
pub image_torn : (s : State) (kept : ℕ) (left : List ℕ) → Image s (image_at s kept left)
unfolding image_at
image_torn s kept left = record {
  kept = min kept (length s.changes);
  within = omega arith;
  full = subst (λ (cs : List Change). Full s.settled cs (after_changes s.settled (map (torn_change left) (take kept s.changes)))) (take_few kept s.changes) (all_torn left s.settled (take kept s.changes));
}

states_by_effects : (s : State) (cs : List Call) (es : List Effect) → length cs ≡ length es → states_after s (happened cs es) ≡ states_by s es
states_by_effects s [] [] even = refl
states_by_effects s [] (e ∷ es) even = absurd (omega arith)
states_by_effects s (c ∷ cs) [] even = absurd (omega arith)
states_by_effects s (c ∷ cs) (e ∷ es) even = states_by_effects (state_after s e) cs es (omega arith)

-- the moment of a tree in memory
pub state_of-past_with : (first : List Place) (cs : List Call) (es : List Effect) → length cs ≡ length es → state_of (past_with first cs es) ≡ states_by (settled_state (tree_of first)) es
unfolding state_of
state_of-past_with first cs es even = states_by_effects (settled_state (tree_of first)) cs es even

-- the first of changes that are seen through a function
pub map_take : {X : Type 0} (f : X → Change) (xs : List X) (n : ℕ) → map f (take n xs) ≡ take n (map f xs)
map_take f [] zero = refl
map_take f [] (suc n) = refl
map_take f (x ∷ xs) zero = refl
map_take f (x ∷ xs) (suc n) = ap (λ ys. f x ∷ ys) (map_take f xs n)

pub take_most : {X : Type 0} (f : X → Change) (xs : List X) (n : ℕ) → length xs ≤ n → map f xs ≡ take n (map f xs)
take_most f [] zero h = refl
take_most f [] (suc n) h = refl
take_most f (x ∷ xs) zero h = absurd (omega arith)
take_most f (x ∷ xs) (suc n) h = ap (λ ys. f x ∷ ys) (take_most f xs n (omega arith))

map_push : {X : Type 0} (f : X → Change) (xs : List X) (x : X) → map f (xs ++ x ∷ []) ≡ map f xs ++ f x ∷ []
map_push f [] x = refl
map_push f (y ∷ xs) x = ap (λ ys. f y ∷ ys) (map_push f xs x)

-- one more change is pending
pub pending_push : {X : Type 0} (f : X → Change) (t : TreeMap) (xs ys : List X) (x : X) (e : Effect) → ys ≡ xs ++ x ∷ [] → e ≡ effect.Changed (f x)
    → pending_state t (map f ys) ≡ state_after (pending_state t (map f xs)) e
pending_push f t xs ys x e pushed is =
    let changes : map f ys ≡ map f xs ++ f x ∷ [] = ap (map f) pushed ∙ map_push f xs x in
    rw (is, changes, after_changes-push t (map f xs) (f x)) refl

-- what is left, by what is settled and pending
pub left_at : (t u : TreeMap) (s : State) (pending kept : List Change) (n : ℕ) (left : List ℕ) → s ≡ pending_state t pending → kept ≡ take n pending
    → u ≡ after_changes t (map (torn_change left) kept) → u ≡ image_at s n left
unfolding image_at
left_at t u s pending kept n left is first last = rw (is, ← first) last

-- what is left of a tree in memory
pub left_of : (first : List Place) (cs : List Call) (es : List Effect) (u : TreeMap) (n : ℕ) (left : List ℕ) → length cs ≡ length es
    → u ≡ image_at (states_by (settled_state (tree_of first)) es) n left → u ≡ image_at (state_of (past_with first cs es)) n left
left_of first cs es u n left even is = is ∙ ap (λ (s : State). image_at s n left) (sym (state_of-past_with first cs es even))

pub ruleset stop_laws = (left_of, image_torn)

pub ruleset image_laws = (image_now, image_settled, state_now)

pub ruleset first_laws = (map_take, take_most)
