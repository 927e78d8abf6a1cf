-- The paths below a root are in byte order, and of the names of a work folder below it they have those that the tree has.
use Rattle.std.proofs.Common.{◌≡◌, ℕ, Bool, true, false, ◌||◌, cond, List, [], ◌∷◌, ◌++◌, map, nat_eq, T, refl, sym, ap, subst, ◌∙◌, eq-eqb, append_assoc}
use Rattle.std.specs.Prelude.{◌&&◌, bytes_eq, codes, is_some, Some}
use Rattle.std.specs.List.{filter, list_any, starts_with, AllByRecursion}
use Rattle.std.specs.List.Sorted.{IsStrictlySortedBy}
use Rattle.std.specs.Ordering.{nat_cmp, is_lt, eq_by_cmp}
use Rattle.std.specs.Cmp.Lexicographic.{slice_cmp}
use Rattle.std.specs.declared.cmp.Ordering.{Ordering}
use Rattle.std.specs.declared.cmp.Ordering.TheVariants.{Less, Equal, Greater}
use Rattle.std.specs.FinMap as fin
use Rattle.std.specs.FinMap.Entries as entry
use Rattle.std.proofs.lemmas.List.Kept.{IsStrictlySortedBy-filter}
use Rattle.std.proofs.lemmas.Map.Text.{is_eq-slice_cmp}
use Rattle.dw_base.proofs.TextLaws.{same_text-true}
use Rattle.file_tree.specs.declared.node.Node.{Node}
use Rattle.file_tree.specs.Causes.{AreInOrder}
use Rattle.file_tree.specs.Trees.{TreeMap, is_below, keys_below}
use Rattle.journal_core.specs.Names.{Name}
use Rattle.work_journal.specs.Laws.{ArePresent}
use Rattle.work_journal.specs.Wanted.{Wanted}
use Rattle.work_journal.specs.Work.{work_path, name_text, has_path}
use Rattle.root_plan.specs.Roots.{in_root, work_folder}
use Rattle.root_plan.specs.Walks.{AreWalked}

-- ### Byte order

both-left : (a b : Bool) → (a && b) ≡ true → a ≡ true
both-left true b e = refl
both-left false b e = cc

both-right : (a b : Bool) → (a && b) ≡ true → b ≡ true
both-right true b e = e
both-right false b e = cc

is-less : (o : Ordering) → is_lt o ≡ true → o ≡ Less
is-less Less e = refl
is-less Equal e = cc
is-less Greater e = cc

all-above : (k : List ℕ) (es : List (List ℕ × Node)) → entry.below_all (slice_cmp nat_cmp) k es ≡ true
    → AllByRecursion (λ q. slice_cmp nat_cmp k q ≡ Less) (map (λ (e : List ℕ × Node). e.0) es)
all-above k [] below = tt
all-above k (e ∷ es) below = (is-less _ (both-left _ _ below), all-above k es (both-right _ _ below))

entries-rise : (es : List (List ℕ × Node)) → entry.is_sorted (slice_cmp nat_cmp) es ≡ true → IsStrictlySortedBy (slice_cmp nat_cmp) (map (λ (e : List ℕ × Node). e.0) es)
unfolding IsStrictlySortedBy
entries-rise [] sorted = tt
entries-rise (e ∷ es) sorted = (all-above e.0 es (both-left _ _ sorted), entries-rise es (both-right _ _ sorted))

is-true : (b : Bool) → T b → b ≡ true
is-true true h = refl
is-true false h = absurd h

pub keys-order : (t : TreeMap) (root : List ℕ) → AreInOrder (keys_below t root)
unfolding keys_below
keys-order t root = IsStrictlySortedBy-filter (slice_cmp nat_cmp) (is_below root) (fin.keys t) (entries-rise (fin.entries t) (is-true (entry.is_sorted (slice_cmp nat_cmp) (fin.entries t)) (fin.entries_sorted t)))

-- ### Paths that are there

any-kept : (p : List ℕ → Bool) (q : List ℕ) → p q ≡ true → (ks : List (List ℕ)) → list_any (bytes_eq q) (filter p ks) ≡ list_any (bytes_eq q) ks
any-kept p q passes [] = refl
any-kept p q passes (k ∷ ks) = by-test (p k) (bytes_eq q k) refl refl (any-kept p q passes ks)
  where
    no-both : (b : Bool) → b ≡ true → b ≡ false → ⊥
    no-both true x y = cc
    no-both false x y = cc

    by-test : (b c : Bool) → p k ≡ b → bytes_eq q k ≡ c → list_any (bytes_eq q) (filter p ks) ≡ list_any (bytes_eq q) ks
        → list_any (bytes_eq q) (cond b (k ∷ filter p ks) (filter p ks)) ≡ (c || list_any (bytes_eq q) ks)
    by-test true c e f h = ap (λ (x : Bool). x || list_any (bytes_eq q) (filter p ks)) f ∙ ap (λ (x : Bool). c || x) h
    by-test false true e f h = absurd (no-both (p k) (subst (λ (x : List ℕ). p x ≡ true) (same_text-true q k f) passes) e)
    by-test false false e f h = h

pub any-compared : (q : List ℕ) (ks : List (List ℕ)) → list_any (bytes_eq q) ks ≡ list_any (eq_by_cmp (slice_cmp nat_cmp) q) ks
any-compared q [] = refl
any-compared q (k ∷ ks) = ap (λ (x : Bool). x || list_any (bytes_eq q) ks) (sym (is_eq-slice_cmp q k)) ∙ ap (λ (x : Bool). eq_by_cmp (slice_cmp nat_cmp) q k || x) (any-compared q ks)

pub keys-have : (t : TreeMap) (root q : List ℕ) → is_below root q ≡ true → has_path (keys_below t root) q ≡ is_some (fin.get t q)
unfolding keys_below
keys-have t root q below = any-kept (is_below root) q below (fin.keys t) ∙ any-compared q (fin.keys t) ∙ sym (fin.contains_key-keys t q)

or-by : (P : Type 0) (a b : Bool) → (a || b) ≡ true → (a ≡ true → P) → (b ≡ true → P) → P
or-by P true b e f g = f refl
or-by P false b e f g = g e

any-passes : (p : List ℕ → Bool) (q : List ℕ) (ks : List (List ℕ)) → list_any (bytes_eq q) (filter p ks) ≡ true → p q ≡ true
any-passes p q [] e = cc
any-passes p q (k ∷ ks) e = by-test (p k) refl (any-passes p q ks) e
  where
    by-test : (b : Bool) → p k ≡ b → (list_any (bytes_eq q) (filter p ks) ≡ true → p q ≡ true) → list_any (bytes_eq q) (cond b (k ∷ filter p ks) (filter p ks)) ≡ true → p q ≡ true
    by-test true passes more h =
        or-by (p q ≡ true) (bytes_eq q k) (list_any (bytes_eq q) (filter p ks)) h (λ same. subst (λ (x : List ℕ). p x ≡ true) (sym (same_text-true q k same)) passes) more
    by-test false passes more h = more h

pub key-below : (t : TreeMap) (root q : List ℕ) → has_path (keys_below t root) q ≡ true → is_below root q ≡ true
unfolding keys_below
key-below t root q h = any-passes (is_below root) q (fin.keys t) h

-- ### Names of a work folder below the root

pub front-same : (front xs ys : List ℕ) → starts_with nat_eq (front ++ xs) (front ++ ys) ≡ starts_with nat_eq xs ys
front-same [] xs ys = refl
front-same (a ∷ front) xs ys = rw (eq-eqb a a refl) (front-same front xs ys)

starts-none : (zs : List ℕ) → starts_with nat_eq zs [] ≡ true
starts-none [] = refl
starts-none (z ∷ zs) = refl

pub longer-below : (root path more : List ℕ) → is_below root path ≡ true → is_below root (path ++ more) ≡ true
longer-below root path more e = starts-longer path (root ++ 47 ∷ []) e
  where
    starts-longer : (xs ys : List ℕ) → starts_with nat_eq xs ys ≡ true → starts_with nat_eq (xs ++ more) ys ≡ true
    starts-longer xs [] h = starts-none (xs ++ more)
    starts-longer [] (y ∷ ys) h = cc
    starts-longer (x ∷ xs) (y ∷ ys) h = rw (both-left (nat_eq y x) (starts_with nat_eq xs ys) h) (starts-longer xs ys (both-right (nat_eq y x) (starts_with nat_eq xs ys) h))

pub root-below : (root : List ℕ) → is_below root (work_folder root) ≡ true
unfolding work_folder
root-below root = front-same root _ (47 ∷ [])

pub work-below : (root work : List ℕ) (n : Name) → is_below root work ≡ true → is_below root (work_path work n) ≡ true
unfolding work_path
work-below root work n below = longer-below root work (47 ∷ name_text n) below

starts-shorter : (q a b : List ℕ) → starts_with nat_eq q (a ++ b) ≡ true → starts_with nat_eq q a ≡ true
starts-shorter q [] b h = starts-none q
starts-shorter [] (y ∷ ys) b h = cc
starts-shorter (x ∷ xs) (y ∷ ys) b h =
    rw (both-left (nat_eq y x) (starts_with nat_eq xs (ys ++ b)) h) (starts-shorter xs ys b (both-right (nat_eq y x) (starts_with nat_eq xs (ys ++ b)) h))

-- what lies below the work folder lies below the root, and so does each path in the root
pub work-in-root : (root q : List ℕ) → is_below (work_folder root) q ≡ true → is_below root q ≡ true
unfolding work_folder
work-in-root root q below =
    starts-shorter q (root ++ 47 ∷ []) (codes ".dbgwork" ++ 47 ∷ [])
    (subst (λ (front : List ℕ). starts_with nat_eq q front ≡ true)
    (append_assoc root (47 ∷ codes ".dbgwork") (47 ∷ []) ∙ sym (append_assoc root (47 ∷ []) (codes ".dbgwork" ++ 47 ∷ []))) below)

pub in-root-below : (root path : List ℕ) → is_below root (in_root root path) ≡ true
in-root-below root path = front-same root (47 ∷ path) (47 ∷ []) ∙ starts-none path

-- the paths below the root have the names of the work folder that the tree has
pub present-keys : (w : Wanted) (t : TreeMap) (root : List ℕ) → is_below root w.work ≡ true → ArePresent w t (keys_below t root)
present-keys w t root below = record { named = λ x is. keys-have t root (work_path w.work x) (work-below root w.work x below) }

pub walked-present : (w : Wanted) (t : TreeMap) (root : List ℕ) (paths : List (List ℕ)) → is_below root w.work ≡ true → AreWalked (Some t) root paths → ArePresent w t paths
walked-present w t root paths below walked = subst (ArePresent w t) (sym (walked.all.are t refl)) (present-keys w t root below)
