-- What a read or a list gives of the tree of places in order.
use Rattle.std.proofs.Common.{◌≡◌, ℕ, ◌<◌, ◌≤◌, Bool, true, false, ◌&&◌, List, [], ◌∷◌, length, refl, sym, arith, nat_le}
use Rattle.std.specs.Prelude.{Some}
use Rattle.std.specs.declared.cmp.Ordering.{Ordering}
use Rattle.std.specs.declared.cmp.Ordering.TheVariants.{Less, Equal, Greater}
use Rattle.std.specs.Ordering.{nat_cmp, is_lt}
use Rattle.std.specs.Cmp.Lexicographic.{slice_cmp}
use Rattle.std.specs.List.{filter, list_any, AllByRecursion}
use Rattle.std.specs.List.Sorted.{IsStrictlySortedBy}
use Rattle.std.proofs.lemmas.List.Kept.{IsStrictlySortedBy-filter}
use Rattle.std.specs.String.{string_bytes}
use Rattle.std.specs.FinMap.Entries as entry
use Rattle.file_tree.specs.declared.node.Found.{Found}
use Rattle.file_tree.specs.declared.node.Listed.TheVariants as listed
use Rattle.file_tree.specs.declared.node.Node.{Node}
use Rattle.std.proofs.lemmas.Bool.Decides.{nat_tests}
use Rattle.file_tree.specs.Trees.{stands_at, listed_at, keys_below, is_below, found_of, listed_of}
use Rattle.file_tree.specs.Causes.{AreInOrder, AreListed}
use Rattle.file_tree.specs.Logs.{Place, entries_of, paths_of, tree_of, are_sorted}
use Rattle.file_tree.specs.Places.{entry_at}
use Rattle.file_tree.proofs.TreeLaws.{keys_tree, get_tree}

pub stands_tree : (ps : List Place) (path : List ℕ) (limit : ℕ) → are_sorted ps ≡ true
    → stands_at (tree_of ps) path limit ≡ found_of (entry_at path (entries_of ps)) (list_any (is_below path) (paths_of ps)) limit
unfolding stands_at
stands_tree ps path limit sorted = rw (keys_tree ps sorted, get_tree ps path) refl

pub listed_tree : (ps : List Place) (folder : List ℕ) (limit : ℕ) → are_sorted ps ≡ true
    → listed_at (tree_of ps) folder limit ≡ listed_of (filter (is_below folder) (paths_of ps)) limit
unfolding listed_at keys_below
listed_tree ps folder limit sorted = rw (keys_tree ps sorted) refl

both_l : (a b : Bool) → (a && b) ≡ true → a ≡ true
both_l true b e = refl
both_l false b e = cc

both_r : (a b : Bool) → (a && b) ≡ true → b ≡ true
both_r true b e = e
both_r false b e = cc

is_less : (o : Ordering) → is_lt o ≡ true → o ≡ Less
is_less Less e = refl
is_less Equal e = cc
is_less Greater e = cc

all_above : (k : List ℕ) (ps : List Place) → entry.below_all (slice_cmp nat_cmp) k (entries_of ps) ≡ true → AllByRecursion (λ q. slice_cmp nat_cmp k q ≡ Less) (paths_of ps)
all_above k [] below = tt
all_above k (p ∷ ps) below = (is_less _ (both_l _ _ below), all_above k ps (both_r _ _ below))

rising_paths : (ps : List Place) → entry.is_sorted (slice_cmp nat_cmp) (entries_of ps) ≡ true → IsStrictlySortedBy (slice_cmp nat_cmp) (paths_of ps)
unfolding IsStrictlySortedBy
rising_paths [] sorted = tt
rising_paths (p ∷ ps) sorted = (all_above (string_bytes p.0) ps (both_l _ _ sorted), rising_paths ps (both_r _ _ sorted))

-- the paths of places in order rise, also those below a folder
pub in_order : (ps : List Place) (folder : List ℕ) → are_sorted ps ≡ true → AreInOrder (filter (is_below folder) (paths_of ps))
unfolding are_sorted
in_order ps folder sorted = IsStrictlySortedBy-filter (slice_cmp nat_cmp) (is_below folder) (paths_of ps) (rising_paths ps sorted)

-- a read of a path where a node is
pub stands_found : (ps : List Place) (path : List ℕ) (limit : ℕ) (n : Node) (f : Found) → are_sorted ps ≡ true → entry_at path (entries_of ps) ≡ Some n → ((below : Bool) → f ≡ found_of (Some n) below limit)
    → stands_at (tree_of ps) path limit ≡ f
stands_found ps path limit n f sorted here is = rw (stands_tree ps path limit sorted, here) (sym (is _))

few : (a b : ℕ) → a ≤ b → nat_le a b ≡ true
few a b h = grind (arith, nat_tests)

many : (a b : ℕ) → b < a → nat_le a b ≡ false
many a b h = grind (arith, nat_tests)

-- a list of a folder with few paths below it, and with too many
pub listed_few : (ps : List Place) (folder : List ℕ) (limit : ℕ) (found : List (List ℕ)) → are_sorted ps ≡ true → found ≡ filter (is_below folder) (paths_of ps) → length found ≤ limit
    → listed_at (tree_of ps) folder limit ≡ listed.Paths found
listed_few ps folder limit found sorted is h = rw (listed_tree ps folder limit sorted, ← is, few _ _ h) refl

pub listed_many : (ps : List Place) (folder : List ℕ) (limit : ℕ) (found : List (List ℕ)) → are_sorted ps ≡ true → found ≡ filter (is_below folder) (paths_of ps) → limit < length found
    → listed_at (tree_of ps) folder limit ≡ listed.TooMany
listed_many ps folder limit found sorted is h = rw (listed_tree ps folder limit sorted, ← is, many _ _ h) refl

pub listed_in_order : (ps : List Place) (folder : List ℕ) (limit : ℕ) (found : List (List ℕ)) → are_sorted ps ≡ true → found ≡ filter (is_below folder) (paths_of ps) → length found ≤ limit
    → AreListed limit found
listed_in_order ps folder limit found sorted is h = record { in_order = rw is (in_order ps folder sorted); few = h }
