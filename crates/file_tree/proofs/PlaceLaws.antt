-- What putting a node in its place, and taking one out, does to the entries of places.
use Rattle.std.proofs.Common.{◌≡◌, ℕ, Bool, true, false, not, cond, ◌&&◌, List, [], ◌∷◌, refl, sym, ap, get_or}
use lib.Dec.{T}
use Rattle.std.specs.Prelude.{insert, remove, Some, None, String}
use Rattle.std.specs.declared.alloc.Global.{Global}
use Rattle.std.specs.String.{string_bytes}
use Rattle.std.specs.declared.cmp.Ordering.{Ordering}
use Rattle.std.specs.declared.cmp.Ordering.TheVariants.{Less, Equal, Greater}
use Rattle.std.specs.Ordering.{nat_cmp, eq_by_cmp, is_lt, is_eq}
use Rattle.std.specs.Cmp.Lexicographic.{slice_cmp, nat_list_cmp_total}
use Rattle.std.specs.FinMap.Entries as entry
use Rattle.std.specs.FinMap.Entries.{by_order}
use Rattle.std.specs.FinMap.{slice_cmp-IsAntisymmetric, nat_cmp-IsAntisymmetric}
use Rattle.file_tree.specs.declared.node.Node.{Node}
use Rattle.file_tree.specs.Logs.{Place, entry_of, entries_of}
use Rattle.file_tree.specs.Places.{rank, rank_by, stands, stands_by}

pub same_path : (k q : List ℕ) → slice_cmp nat_cmp k q ≡ Equal → k ≡ q
same_path k q e = slice_cmp-IsAntisymmetric nat_cmp-IsAntisymmetric k q e

-- a node in the place of a path that doesn't stand
pub insert_goes : (ps : List Place) (p : String Global) (n : Node)
    → stands (string_bytes p) (entries_of ps) ≡ false
    → entries_of (insert ps (rank (string_bytes p) (entries_of ps)) (p, n)) ≡ entry.put (slice_cmp nat_cmp) (string_bytes p) n (entries_of ps)
insert_goes [] p n goes = refl
insert_goes (q ∷ qs) p n goes =
    elim (slice_cmp nat_cmp (string_bytes p) (string_bytes q.0)) as (λ r. stands_by r (stands (string_bytes p) (entries_of qs)) ≡ false
    → entries_of (insert (q ∷ qs) (rank_by r (rank (string_bytes p) (entries_of qs))) (p, n))
    ≡ by_order r ((string_bytes p, n) ∷ entry_of q ∷ entries_of qs) ((string_bytes q.0, n) ∷ entries_of qs) (entry_of q ∷ entry.put (slice_cmp nat_cmp) (string_bytes p) n (entries_of qs))) [
      | Less ↦ λ e. refl
      | Equal ↦ λ e. cc
      | Greater ↦ λ e. ap (λ es. entry_of q ∷ es) (insert_goes qs p n e)
    ] goes

-- a node in the place of the one that stands at the path
pub insert_stands : (ps : List Place) (p : String Global) (n : Node)
    → stands (string_bytes p) (entries_of ps) ≡ true
    → entries_of (insert (remove ps (rank (string_bytes p) (entries_of ps))) (rank (string_bytes p) (entries_of ps)) (p, n)) ≡ entry.put (slice_cmp nat_cmp) (string_bytes p) n (entries_of ps)
insert_stands [] p n is = cc
insert_stands (q ∷ qs) p n is =
    elim (slice_cmp nat_cmp (string_bytes p) (string_bytes q.0)) as (λ r. slice_cmp nat_cmp (string_bytes p) (string_bytes q.0) ≡ r → stands_by r (stands (string_bytes p) (entries_of qs)) ≡ true
    → entries_of (insert (remove (q ∷ qs) (rank_by r (rank (string_bytes p) (entries_of qs)))) (rank_by r (rank (string_bytes p) (entries_of qs))) (p, n))
    ≡ by_order r ((string_bytes p, n) ∷ entry_of q ∷ entries_of qs) ((string_bytes q.0, n) ∷ entries_of qs) (entry_of q ∷ entry.put (slice_cmp nat_cmp) (string_bytes p) n (entries_of qs))) [
      | Less ↦ λ o e. cc
      | Equal ↦ λ o e. ap (λ k. (k, n) ∷ entries_of qs) (same_path _ _ o)
      | Greater ↦ λ o e. ap (λ es. entry_of q ∷ es) (insert_stands qs p n e)
    ] refl is

pub both_l : (a b : Bool) → (a && b) ≡ true → a ≡ true
both_l true b e = refl
both_l false b e = cc

pub both_r : (a b : Bool) → (a && b) ≡ true → b ≡ true
both_r true b e = e
both_r false b e = cc

pub is_less : (o : Ordering) → is_lt o ≡ true → o ≡ Less
is_less Less e = refl
is_less Equal e = cc
is_less Greater e = cc

-- what is below a path is below all that the path is below
below_less : (k q : List ℕ) (es : List (List ℕ × Node)) → slice_cmp nat_cmp k q ≡ Less → entry.below_all (slice_cmp nat_cmp) q es ≡ true → entry.below_all (slice_cmp nat_cmp) k es ≡ true
below_less k q [] o below = refl
below_less k q (e ∷ es) o below =
    let here : slice_cmp nat_cmp k e.0 ≡ Less = nat_list_cmp_total.trans k q e.0 o (is_less _ (both_l _ _ below)) in
    let rest = below_less k q es o (both_r _ _ below) in
    rw (here, rest) refl

keep_below : (k : List ℕ) (es : List (List ℕ × Node)) → entry.below_all (slice_cmp nat_cmp) k es ≡ true → entry.where_key (slice_cmp nat_cmp) (λ x. not (eq_by_cmp (slice_cmp nat_cmp) k x)) es ≡ es
keep_below k [] below = refl
keep_below k (e ∷ es) below =
    let here : slice_cmp nat_cmp k e.0 ≡ Less = is_less _ (both_l _ _ below) in
    let rest = keep_below k es (both_r _ _ below) in
    rw (here, rest) refl

find_below : (k : List ℕ) (es : List (List ℕ × Node)) → entry.below_all (slice_cmp nat_cmp) k es ≡ true → entry.find (slice_cmp nat_cmp) k es ≡ None
find_below k [] below = refl
find_below k (e ∷ es) below =
    let here : slice_cmp nat_cmp k e.0 ≡ Less = is_less _ (both_l _ _ below) in
    let rest = find_below k es (both_r _ _ below) in
    rw here rest

-- the place that stands at the path, taken out
pub remove_stands : (ps : List Place) (k : List ℕ)
    → entry.is_sorted (slice_cmp nat_cmp) (entries_of ps) ≡ true → stands k (entries_of ps) ≡ true
    → entries_of (remove ps (rank k (entries_of ps))) ≡ entry.where_key (slice_cmp nat_cmp) (λ x. not (eq_by_cmp (slice_cmp nat_cmp) k x)) (entries_of ps)
remove_stands [] k sorted is = refl
remove_stands (q ∷ qs) k sorted is =
    elim (slice_cmp nat_cmp k (string_bytes q.0)) as (λ r. slice_cmp nat_cmp k (string_bytes q.0) ≡ r → stands_by r (stands k (entries_of qs)) ≡ true
    → entries_of (remove (q ∷ qs) (rank_by r (rank k (entries_of qs))))
    ≡ cond (not (is_eq r)) (entry_of q ∷ entry.where_key (slice_cmp nat_cmp) (λ x. not (eq_by_cmp (slice_cmp nat_cmp) k x)) (entries_of qs)) (entry.where_key (slice_cmp nat_cmp) (λ x. not (eq_by_cmp (slice_cmp nat_cmp) k x)) (entries_of qs))) [
      | Less ↦ λ o e. cc
      | Equal ↦ λ o e. sym (keep_below k (entries_of qs) (rw (same_path k _ o) (both_l _ _ sorted)))
      | Greater ↦ λ o e. ap (λ es. entry_of q ∷ es) (remove_stands qs k (both_r _ _ sorted) e)
    ] refl is

-- where the path doesn't stand there is nothing to take out
pub remove_goes : (es : List (List ℕ × Node)) (k : List ℕ)
    → entry.is_sorted (slice_cmp nat_cmp) es ≡ true → stands k es ≡ false
    → entry.where_key (slice_cmp nat_cmp) (λ x. not (eq_by_cmp (slice_cmp nat_cmp) k x)) es ≡ es
remove_goes [] k sorted goes = refl
remove_goes (q ∷ es) k sorted goes =
    elim (slice_cmp nat_cmp k q.0) as (λ r. slice_cmp nat_cmp k q.0 ≡ r → stands_by r (stands k es) ≡ false
    → cond (not (is_eq r)) (q ∷ entry.where_key (slice_cmp nat_cmp) (λ x. not (eq_by_cmp (slice_cmp nat_cmp) k x)) es) (entry.where_key (slice_cmp nat_cmp) (λ x. not (eq_by_cmp (slice_cmp nat_cmp) k x)) es) ≡ q ∷ es) [
      | Less ↦ λ o e. ap (λ xs. q ∷ xs) (keep_below k es (below_less k q.0 es o (both_l _ _ sorted)))
      | Equal ↦ λ o e. cc
      | Greater ↦ λ o e. ap (λ xs. q ∷ xs) (remove_goes es k (both_r _ _ sorted) e)
    ] refl goes

pub find_goes : (es : List (List ℕ × Node)) (k : List ℕ)
    → entry.is_sorted (slice_cmp nat_cmp) es ≡ true → stands k es ≡ false → entry.find (slice_cmp nat_cmp) k es ≡ None
find_goes [] k sorted goes = refl
find_goes (q ∷ es) k sorted goes =
    elim (slice_cmp nat_cmp k q.0) as (λ r. slice_cmp nat_cmp k q.0 ≡ r → stands_by r (stands k es) ≡ false
    → cond (is_eq r) (Some q.1) (entry.find (slice_cmp nat_cmp) k es) ≡ None) [
      | Less ↦ λ o e. find_below k es (below_less k q.0 es o (both_l _ _ sorted))
      | Equal ↦ λ o e. cc
      | Greater ↦ λ o e. find_goes es k (both_r _ _ sorted) e
    ] refl goes

pub find_stands : (ps : List Place) (k : List ℕ) (d : Place)
    → stands k (entries_of ps) ≡ true → entry.find (slice_cmp nat_cmp) k (entries_of ps) ≡ Some (get_or ps (rank k (entries_of ps)) d).1
find_stands [] k d is = cc
find_stands (q ∷ qs) k d is =
    elim (slice_cmp nat_cmp k (string_bytes q.0)) as (λ r. stands_by r (stands k (entries_of qs)) ≡ true
    → cond (is_eq r) (Some q.1) (entry.find (slice_cmp nat_cmp) k (entries_of qs)) ≡ Some (get_or (q ∷ qs) (rank_by r (rank k (entries_of qs))) d).1) [
      | Less ↦ λ e. cc
      | Equal ↦ λ e. refl
      | Greater ↦ λ e. find_stands qs k d e
    ] is

T_true : (b : Bool) → b ≡ true → T b
T_true true e = tt
T_true false e = cc

true_T : (b : Bool) → T b → b ≡ true
true_T true h = refl
true_T false h = absurd h

pub sorted_put : (k : List ℕ) (n : Node) (es : List (List ℕ × Node)) → entry.is_sorted (slice_cmp nat_cmp) es ≡ true → entry.is_sorted (slice_cmp nat_cmp) (entry.put (slice_cmp nat_cmp) k n es) ≡ true
sorted_put k n es sorted = true_T _ (entry.is_sorted-put (slice_cmp nat_cmp) nat_list_cmp_total k n es (T_true _ sorted))

pub sorted_where_key : (p : List ℕ → Bool) (es : List (List ℕ × Node)) → entry.is_sorted (slice_cmp nat_cmp) es ≡ true → entry.is_sorted (slice_cmp nat_cmp) (entry.where_key (slice_cmp nat_cmp) p es) ≡ true
sorted_where_key p es sorted = true_T _ (entry.is_sorted-where_key (slice_cmp nat_cmp) p es (T_true _ sorted))

pub ruleset place_laws = (remove_stands, remove_goes, find_goes, find_stands)
