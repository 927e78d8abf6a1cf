-- The number of the node that starts at a place.
use Rattle.std.proofs.Common.{◌≡◌, ℕ, ◌<◌, ◌≤◌, ◌⊎◌, inl, inr, List, length, Some, None, Result, Ok, Err, IfOk, IfErr, sym, ap, arith}
use Rattle.std.specs.List.Sorted.{IsSearchInRange, IsBinarySearchResult, IsNonDecreasingBy}
use Rattle.std.specs.Ordering.{nat_cmp, ordering_index}
use Rattle.std.proofs.lemmas.Bool.{cases_lt}
use Rattle.std.proofs.lemmas.Bool.Decides.{nat_tests}
use Rattle.std.proofs.lemmas.Cmp.{ranked}
use Rattle.std.proofs.lemmas.List.Sorted.{IsNonDecreasingBy-from_default}
use Rattle.entry_arena.specs.Shapes.{no_node, node_at}
use Rattle.entry_arena.specs.UnitArenas.{IsGapAt, NodesRise, StartsAt}
use Rattle.entry_arena.specs.declared.arena.EntryNode.{EntryNode}

-- a search among nodes whose places rise ends at the node, or at the gap for it
comparisons-rise : (nodes : List EntryNode) (offset : ℕ) → NodesRise nodes → IsNonDecreasingBy (λ n. ordering_index (nat_cmp n.offset offset)) nodes
comparisons-rise nodes offset rising = IsNonDecreasingBy-from_default (λ n. ordering_index (nat_cmp n.offset offset)) nodes no_node (λ i j le inside.
    let up : (node_at nodes i).offset ≤ (node_at nodes j).offset =
    grind (arith, rising.rise i j, λ (same : i ≡ j). ap (λ (k : ℕ). (node_at nodes k).offset) same) in
    grind (arith, nat_tests))

pub searched : (nodes : List EntryNode) (offset : ℕ) (r : Result ℕ ℕ) → NodesRise nodes → IsSearchInRange r (length nodes)
    → IsBinarySearchResult (λ n. nat_cmp n.offset offset) nodes r → record { found : IfOk r (StartsAt nodes offset); absent : IfErr r (IsGapAt nodes offset) }
searched nodes offset (Ok at) rising inside equal = record { found = record { inside = inside; is = ranked _ offset _ (sym (equal no_node)) }; absent = tt }
searched nodes offset (Err at) rising inside parted = record {
  found = tt;
  absent = record {
    inside = inside;
    before = λ k lt. ranked _ offset _ (sym ((parted (comparisons-rise nodes offset rising)).0 k no_node (omega arith) lt));
    behind = λ k le lt. ranked _ offset _ (sym ((parted (comparisons-rise nodes offset rising)).1 k no_node le lt));
  };
}

-- no other node starts there
pub number-found : (nodes : List EntryNode) (offset i : ℕ) → NodesRise nodes → StartsAt nodes offset i → (k : ℕ) → StartsAt nodes offset k → Some i ≡ Some k
number-found nodes offset i rising here k there = by_order (cases_lt i k) (cases_lt k i)
  where
    by_order : (i < k) ⊎ (k ≤ i) → (k < i) ⊎ (i ≤ k) → Some i ≡ Some k
    by_order (inl lt) q =
        let up = rising.rise i k lt there.inside in
        let a = here.is in
        let b = there.is in
        absurd (omega (arith, up, a, b))
    by_order (inr le) (inl lt) =
        let up = rising.rise k i lt here.inside in
        let a = here.is in
        let b = there.is in
        absurd (omega (arith, up, a, b))
    by_order (inr le) (inr ge) = ap (λ (n : ℕ). Some n) (omega (arith, le, ge))

pub number-absent : (nodes : List EntryNode) (offset i : ℕ) → IsGapAt nodes offset i → (k : ℕ) → StartsAt nodes offset k → None ≡ Some k
number-absent nodes offset i gap k there = by_order (cases_lt k i)
  where
    by_order : (k < i) ⊎ (i ≤ k) → None ≡ Some k
    by_order (inl lt) =
        let less = gap.before k lt in
        let is = there.is in
        absurd (omega (arith, less, is))
    by_order (inr le) =
        let more = gap.behind k le there.inside in
        let is = there.is in
        absurd (omega (arith, more, is))

pub starts-inside : (nodes : List EntryNode) (offset i : ℕ) → StartsAt nodes offset i → i < length nodes
starts-inside nodes offset i s = s.inside

pub ruleset number_laws = (number-found, number-absent, starts-inside)
