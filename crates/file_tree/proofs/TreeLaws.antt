-- The tree of places: what putting and taking out does to it, and what it holds.
use Rattle.std.proofs.Common.{◌≡◌, ℕ, Bool, true, false, not, cond, T, List, [], ◌∷◌, map, refl, sym, ap, ◌∙◌}
use Rattle.std.specs.Prelude.{Some, None}
use Rattle.std.specs.String.{string_bytes}
use Rattle.std.specs.declared.cmp.Ordering.{Ordering}
use Rattle.std.specs.declared.cmp.Ordering.TheVariants.{Less, Equal, Greater}
use Rattle.std.specs.Ordering.{nat_cmp, eq_by_cmp, is_eq}
use Rattle.std.specs.Cmp.{alike_right, eq_by_cmp_equiv}
use Rattle.std.specs.Cmp.Lexicographic.{slice_cmp, nat_list_cmp_total}
use Rattle.std.specs.FinMap as fin
use Rattle.std.specs.FinMap.Entries as entry
use Rattle.std.specs.FinMap.{slice_cmp-IsAntisymmetric, nat_cmp-IsAntisymmetric}
use Rattle.file_tree.specs.declared.node.Node.{Node}
use Rattle.file_tree.specs.Trees.{TreeMap, with_node, without, moved}
use Rattle.file_tree.specs.Logs.{Place, entries_of, tree_of, are_sorted, paths_of}
use Rattle.file_tree.proofs.PlaceLaws.{sorted_put, sorted_where_key}

abbrev entries_map : List (List ℕ × Node) → TreeMap
entries_map es = fin.from_entries es

turned : {A : Type 0} (b : Bool) (x y : A) → cond (not b) x y ≡ cond b y x
turned true x y = refl
turned false x y = refl

equal_by : (o : Ordering) → is_eq o ≡ true → o ≡ Equal
equal_by Less e = cc
equal_by Equal e = refl
equal_by Greater e = cc

same_tree : (t u : TreeMap) → ((q : List ℕ) → fin.get t q ≡ fin.get u q) → t ≡ u
same_tree t u is = fin.same_map nat_list_cmp_total (slice_cmp-IsAntisymmetric nat_cmp-IsAntisymmetric) t u is

map_put : (es : List (List ℕ × Node)) (k : List ℕ) (n : Node) → entries_map (entry.put (slice_cmp nat_cmp) k n es) ≡ with_node k n (entries_map es)
map_put es k n = same_tree _ _ (λ q.
    fin.get-from_entries nat_list_cmp_total (entry.put (slice_cmp nat_cmp) k n es) q
    ∙ entry.find-put (slice_cmp nat_cmp) nat_list_cmp_total q k n es
    ∙ sym (fin.get-insert nat_list_cmp_total (entries_map es) k n q ∙ ap (cond (eq_by_cmp (slice_cmp nat_cmp) q k) (Some n)) (fin.get-from_entries nat_list_cmp_total es q)))

map_where_key : (es : List (List ℕ × Node)) (k : List ℕ) → entries_map (entry.where_key (slice_cmp nat_cmp) (λ x. not (eq_by_cmp (slice_cmp nat_cmp) k x)) es) ≡ without k (entries_map es)
map_where_key es k = same_tree _ _ (λ q.
    fin.get-from_entries nat_list_cmp_total (entry.where_key (slice_cmp nat_cmp) (λ x. not (eq_by_cmp (slice_cmp nat_cmp) k x)) es) q
    ∙ entry.find-where_key (slice_cmp nat_cmp) (λ x. not (eq_by_cmp (slice_cmp nat_cmp) k x)) q (λ x t. ap (λ r. not (is_eq r)) (sym (alike_right nat_list_cmp_total q x k t))) es
    ∙ turned (eq_by_cmp (slice_cmp nat_cmp) k q) _ _
    ∙ ap (λ b. cond b None (entry.find (slice_cmp nat_cmp) q es)) ((eq_by_cmp_equiv nat_list_cmp_total).symm k q)
    ∙ sym (fin.get-remove nat_list_cmp_total (entries_map es) k q ∙ ap (cond (eq_by_cmp (slice_cmp nat_cmp) q k) None) (fin.get-from_entries nat_list_cmp_total es q)))

-- places with a node more
pub tree_put : (old new : List Place) (k : List ℕ) (n : Node) → entries_of new ≡ entry.put (slice_cmp nat_cmp) k n (entries_of old) → tree_of new ≡ with_node k n (tree_of old)
unfolding tree_of
tree_put old new k n is = ap entries_map is ∙ map_put (entries_of old) k n

pub are_sorted_put : (old new : List Place) (k : List ℕ) (n : Node) → entries_of new ≡ entry.put (slice_cmp nat_cmp) k n (entries_of old) → are_sorted old ≡ true → are_sorted new ≡ true
unfolding are_sorted
are_sorted_put old new k n is sorted = rw is (sorted_put k n (entries_of old) sorted)

-- places without a path
pub tree_take : (old new : List Place) (k : List ℕ) → entries_of new ≡ entry.where_key (slice_cmp nat_cmp) (λ x. not (eq_by_cmp (slice_cmp nat_cmp) k x)) (entries_of old) → tree_of new ≡ without k (tree_of old)
unfolding tree_of
tree_take old new k is = ap entries_map is ∙ map_where_key (entries_of old) k

pub are_sorted_take : (old new : List Place) (k : List ℕ) → entries_of new ≡ entry.where_key (slice_cmp nat_cmp) (λ x. not (eq_by_cmp (slice_cmp nat_cmp) k x)) (entries_of old) → are_sorted old ≡ true → are_sorted new ≡ true
unfolding are_sorted
are_sorted_take old new k is sorted = rw is (sorted_where_key _ (entries_of old) sorted)

pub get_tree : (ps : List Place) (k : List ℕ) → fin.get (tree_of ps) k ≡ entry.find (slice_cmp nat_cmp) k (entries_of ps)
unfolding tree_of
get_tree ps k = fin.get-from_entries nat_list_cmp_total (entries_of ps) k

is_equal : (k q : List ℕ) → eq_by_cmp (slice_cmp nat_cmp) q k ≡ true → q ≡ k
is_equal k q e = slice_cmp-IsAntisymmetric nat_cmp-IsAntisymmetric q k (equal_by _ e)

-- to take away a path that isn't there changes nothing
pub without_absent : (k : List ℕ) (t : TreeMap) → fin.get t k ≡ None → without k t ≡ t
without_absent k t none = same_tree _ _ (λ q.
    fin.get-remove nat_list_cmp_total t k q
    ∙ elim (eq_by_cmp (slice_cmp nat_cmp) q k) as (λ b. eq_by_cmp (slice_cmp nat_cmp) q k ≡ b → cond b None (fin.get t q) ≡ fin.get t q) [
      | true ↦ λ e. sym (ap (λ x. fin.get t x) (is_equal k q e) ∙ none)
      | false ↦ λ e. refl
    ] refl)

-- to move what isn't there changes nothing, as to take it away
pub moved_absent : (from to : List ℕ) (t : TreeMap) → fin.get t from ≡ None → without from t ≡ moved from to t
unfolding moved
moved_absent from to t none = rw none (without_absent from t none)

T_true : (b : Bool) → b ≡ true → T b
T_true true e = tt
T_true false e = cc

paths_entries : (ps : List Place) → map (λ e. e.0) (entries_of ps) ≡ paths_of ps
paths_entries [] = refl
paths_entries (p ∷ ps) = ap (λ q. string_bytes p.0 ∷ q) (paths_entries ps)

-- the tree of places in order has them as its entries
pub entries_tree : (ps : List Place) → are_sorted ps ≡ true → fin.entries (tree_of ps) ≡ entries_of ps
unfolding are_sorted tree_of
entries_tree ps sorted =
    let rising : T (entry.is_sorted (slice_cmp nat_cmp) (entries_of ps)) = T_true _ sorted in
    let made : TreeMap = fin.from_sorted (entries_of ps) in
    let same : fin.from_entries (entries_of ps) ≡ made = same_tree _ _ (λ q. fin.get-from_entries nat_list_cmp_total (entries_of ps) q ∙ sym (fin.get-from_sorted (slice_cmp nat_cmp) (entries_of ps) q rising)) in
    ap fin.entries same ∙ fin.entries-from_sorted (slice_cmp nat_cmp) (entries_of ps) rising

pub keys_tree : (ps : List Place) → are_sorted ps ≡ true → fin.keys (tree_of ps) ≡ paths_of ps
keys_tree ps sorted = ap (map (λ e. e.0)) (entries_tree ps sorted) ∙ paths_entries ps

pub ruleset tree_laws = (tree_put, are_sorted_put, tree_take, are_sorted_take, get_tree)
