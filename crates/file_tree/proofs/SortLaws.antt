-- Places sorted by taking them from the end of a list.
use Rattle.std.proofs.Common.{◌≡◌, ℕ, suc, List, [], ◌∷◌, ◌++◌, length, take, drop, refl, sym, ap, ◌∙◌, arith, length-append, true}
use Rattle.std.specs.Prelude.{Bool}
use Rattle.std.specs.Ordering.{nat_cmp}
use Rattle.std.specs.Cmp.Lexicographic.{slice_cmp}
use Rattle.std.specs.FinMap as fin
use Rattle.file_tree.specs.declared.node.Node.{Node}
use Rattle.std.specs.String.{string_bytes}
use Rattle.file_tree.specs.Trees.{with_node}
use Rattle.file_tree.specs.Logs.{Place, tree_of, entries_of, are_sorted}

split_last : (all ys : List Place) (y : Place) → take (suc (length ys)) all ≡ ys ++ y ∷ [] → (take (length ys) all ≡ ys) × (drop (length ys) all ≡ y ∷ drop (suc (length ys)) all)
split_last [] [] y e = cc
split_last (x ∷ all) [] y e = (refl, cc)
split_last [] (z ∷ ys) y e = cc
split_last (x ∷ all) (z ∷ ys) y e =
    let head : x ≡ z = cc in
    let rest : take (suc (length ys)) all ≡ ys ++ y ∷ [] = cc in
    let found = split_last all ys y rest in
    (rw (head, found.0) refl, found.1)

-- the tree of places is made from the end
pub tree_cons : (p : Place) (ps : List Place) → tree_of (p ∷ ps) ≡ with_node (string_bytes p.0) p.1 (tree_of ps)
unfolding tree_of
tree_cons p ps = refl

-- one more taken from the end: the tree of what was taken has it
pub taken_more : (all old new : List Place) (p : Place) → take (length old) all ≡ old → old ≡ new ++ p ∷ []
    → (take (length new) all ≡ new) × (tree_of (drop (length new) all) ≡ with_node (string_bytes p.0) p.1 (tree_of (drop (length old) all)))
taken_more all old new p front last =
    let long : length old ≡ suc (length new) = ap length last ∙ simp length-append (omega arith) in
    let parts = split_last all new p (rw (← long) (front ∙ last)) in
    (parts.0, rw (parts.1, ← long) (tree_cons p (drop (length old) all)))

take_whole : (ps : List Place) → take (length ps) ps ≡ ps
take_whole [] = refl
take_whole (p ∷ ps) = ap (λ qs. p ∷ qs) (take_whole ps)

drop_whole : (ps : List Place) → drop (length ps) ps ≡ []
drop_whole [] = refl
drop_whole (p ∷ ps) = drop_whole ps

sorted_none : are_sorted [] ≡ true
unfolding are_sorted
sorted_none = refl

-- where a list is sorted into places
pub record Sorting (all left places : List Place) : Type 0 where
  pub front : take (length left) all ≡ left
  pub tree : tree_of places ≡ tree_of (drop (length left) all)
  pub order : are_sorted places ≡ true

pub sorting_starts : (all places : List Place) → places ≡ [] → Sorting all all places
sorting_starts all places none = record { front = take_whole all; tree = rw (none, drop_whole all) refl; order = rw none sorted_none }

pub sorting_goes_on : (all old new places more : List Place) (p : Place) → Sorting all old places → old ≡ new ++ p ∷ []
    → tree_of more ≡ with_node (string_bytes p.0) p.1 (tree_of places) → are_sorted more ≡ true → Sorting all new more
sorting_goes_on all old new places more p so last tree order =
    let step = taken_more all old new p so.front last in
    record { front = step.0; tree = tree ∙ ap (with_node (string_bytes p.0) p.1) so.tree ∙ sym step.1; order = order }

pub sorting_ends : (all left places : List Place) → Sorting all left places → left ≡ [] → tree_of places ≡ tree_of all
sorting_ends all left places so none = so.tree ∙ rw none refl

pub ruleset sort_laws = (sorting_starts, sorting_goes_on, sorting_ends)

entries_in_order : List (List ℕ × Node) → Bool
entries_in_order es = fin.is_sorted (slice_cmp nat_cmp) es

-- a copy of places in order is in order
pub sorted_copy : (copy places : List Place) → entries_of copy ≡ entries_of places → are_sorted copy ≡ are_sorted places
unfolding are_sorted entries_in_order
sorted_copy copy places same = ap entries_in_order same
