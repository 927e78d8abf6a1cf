-- Nodes that are linked from the last to the first.
use Rattle.std.proofs.Common.{Bool, ◌≡◌, ◌==◌, ℕ, zero, suc, ◌+◌, ◌<◌, ◌≤◌, ◌⊎◌, inl, inr, List, [], ◌∷◌, ◌++◌, length, take, drop, slice_set, Option, Some, None, refl, sym, ap, ◌∙◌, arith, if◌then◌else◌, append_assoc, append-nil, length-append}
use Rattle.std.specs.Prelude.{nat_lt}
use Rattle.std.proofs.lemmas.Bool.{cases_eq, cases_lt, eq-eqb, le-ltb, lt-ltb, ne_eqb}
use Rattle.std.proofs.lemmas.List.{drop_all, length-set, take_all}
use Rattle.entry_arena.specs.LinkedNodes.{Begun, linked_from, linked_nodes, next_at, with_links}
use Rattle.entry_arena.specs.NextNodes.{all_next, next_known, with_next}
use Rattle.entry_arena.specs.Shapes.{node_at}
use Rattle.entry_arena.specs.declared.arena.EntryNode.{EntryNode}

-- what is known in front of a node: of its depth, of deeper ones, and of others
known-same : (k d : ℕ) (next : List (Option ℕ)) → next_known (with_next k d next) d ≡ Some k
known-same k zero next = refl
known-same k (suc d) [] = known-same k d []
known-same k (suc d) (n ∷ ns) = known-same k d ns

known-deeper : (k d e : ℕ) (next : List (Option ℕ)) → d < e → next_known (with_next k d next) e ≡ None
known-deeper k zero zero next lt = absurd (omega (arith, lt))
known-deeper k zero (suc e) next lt = refl
known-deeper k (suc d) zero next lt = absurd (omega (arith, lt))
known-deeper k (suc d) (suc e) [] lt = known-deeper k d e [] (omega (arith, lt))
known-deeper k (suc d) (suc e) (n ∷ ns) lt = known-deeper k d e ns (omega (arith, lt))

known-other : (k d e : ℕ) (next : List (Option ℕ)) → e < d → next_known (with_next k d next) e ≡ next_known next e
known-other k zero e next lt = absurd (omega (arith, lt))
known-other k (suc d) zero [] lt = refl
known-other k (suc d) zero (n ∷ ns) lt = refl
known-other k (suc d) (suc e) [] lt = known-other k d e [] (omega (arith, lt))
known-other k (suc d) (suc e) (n ∷ ns) lt = known-other k d e ns (omega (arith, lt))

-- so it's the node that comes next
pub known-next : (k e : ℕ) (ds : List ℕ) → next_known (all_next k ds) e ≡ next_at e k ds
known-next k e [] = refl
known-next k e (d ∷ ds) = by_order (cases_eq d e) (cases_lt d e) (known-next (suc k) e ds)
  where
    by_order : (d ≡ e) ⊎ (d ≡ e → ⊥) → (d < e) ⊎ (e ≤ d) → next_known (all_next (suc k) ds) e ≡ next_at e (suc k) ds
        → next_known (with_next k d (all_next (suc k) ds)) e ≡ (if d == e then Some k else (if nat_lt d e then None else next_at e (suc k) ds))
    by_order (inl same) q rest =
        ap (λ (i : ℕ). next_known (with_next k d (all_next (suc k) ds)) i) (sym same) ∙ known-same k d (all_next (suc k) ds)
        ∙ sym (ap (λ (b : Bool). if b then Some k else (if nat_lt d e then None else next_at e (suc k) ds)) (eq-eqb d e same))
    by_order (inr other) (inl lt) rest =
        known-deeper k d e (all_next (suc k) ds) lt
        ∙ sym (ap (λ (b : Bool). if b then Some k else (if nat_lt d e then None else next_at e (suc k) ds)) (ne_eqb d e other)
        ∙ ap (λ (b : Bool). if b then None else next_at e (suc k) ds) (lt-ltb d e lt))
    by_order (inr other) (inr le) rest =
        known-other k d e (all_next (suc k) ds) (omega (arith, other, le)) ∙ rest
        ∙ sym (ap (λ (b : Bool). if b then Some k else (if nat_lt d e then None else next_at e (suc k) ds)) (ne_eqb d e other)
        ∙ ap (λ (b : Bool). if b then None else next_at e (suc k) ds) (le-ltb d e le))

-- the nodes in front are as they were, and those behind are linked
pub record Linking (ns : List EntryNode) (ds : List ℕ) (nodes : List EntryNode) (left : List ℕ) (next : List (Option ℕ)) : Type 0 where
  pub front : List EntryNode
  pub behind : List EntryNode
  pub done : List ℕ
  pub nodes_split : ns ≡ front ++ behind
  pub depths_split : ds ≡ left ++ done
  pub count : length front ≡ length left
  pub are : nodes ≡ front ++ linked_from (length left) behind done
  pub next_is : next ≡ all_next (length left) done

pub link-starts : (ns : List EntryNode) (ds : List ℕ) (next : List (Option ℕ)) → length ns ≡ length ds → next ≡ [] → Linking ns ds ns ds next
link-starts ns ds next same none = record {
  front = ns;
  behind = [];
  done = [];
  nodes_split = sym (append-nil ns);
  depths_split = sym (append-nil ds);
  count = same;
  are = sym (append-nil ns);
  next_is = none;
}

-- the last of some nodes
record LastOf (xs : List EntryNode) : Type 0 where
  rest : List EntryNode
  last : EntryNode
  is : xs ≡ rest ++ last ∷ []

last-of : (xs : List EntryNode) → 0 < length xs → LastOf xs
last-of [] lt = absurd (omega (arith, lt))
last-of (x ∷ []) lt = record { rest = []; last = x; is = refl }
last-of (x ∷ (y ∷ ys)) lt =
    let l : LastOf (y ∷ ys) = last-of (y ∷ ys) (omega arith) in
    record { rest = x ∷ l.rest; last = l.last; is = ap (λ (zs : List EntryNode). x ∷ zs) l.is }

set-there : (xs ys : List EntryNode) (n m : EntryNode) → slice_set (xs ++ n ∷ ys) (length xs) m ≡ xs ++ m ∷ ys
set-there [] ys n m = refl
set-there (x ∷ xs) ys n m = ap (λ (zs : List EntryNode). x ∷ zs) (set-there xs ys n m)

get-there : (xs ys : List EntryNode) (n : EntryNode) → node_at (xs ++ n ∷ ys) (length xs) ≡ n
get-there [] ys n = refl
get-there (x ∷ xs) ys n = get-there xs ys n

-- one more is linked
pub link-more : (ns : List EntryNode) (ds : List ℕ) (nodes more : List EntryNode) (left rest : List ℕ) (next known : List (Option ℕ)) (d k : ℕ) → Linking ns ds nodes left next
    → left ≡ rest ++ d ∷ [] → k ≡ length rest
    → more ≡ slice_set nodes k (with_links (node_at nodes k) (next_known next (d + 1)) (next_known next d)) → known ≡ with_next k d next → Linking ns ds more rest known
link-more ns ds nodes more left rest next known d k l split at more_is known_is =
    let size : length left ≡ suc (length rest) = ap (λ (xs : List ℕ). length xs) split ∙ (let e = length-append rest (d ∷ []) in omega (arith, e)) in
    let count = l.count in
    let last : LastOf l.front = last-of l.front (omega (arith, count, size)) in
    let front_size : length l.front ≡ suc (length last.rest) = ap (λ (xs : List EntryNode). length xs) last.is ∙ (let e = length-append last.rest (last.last ∷ []) in omega (arith, e)) in
    let place : length last.rest ≡ length rest = omega (arith, front_size, count, size) in
    let number : k ≡ length last.rest = at ∙ sym place in
    let tail : List EntryNode = linked_from (suc (length rest)) l.behind l.done in
    let were : nodes ≡ last.rest ++ last.last ∷ linked_from (suc (length rest)) l.behind l.done =
    l.are ∙ ap (λ (xs : List EntryNode). xs ++ linked_from (length left) l.behind l.done) last.is
    ∙ append_assoc last.rest (last.last ∷ []) (linked_from (length left) l.behind l.done)
    ∙ ap (λ (i : ℕ). last.rest ++ last.last ∷ linked_from i l.behind l.done) size in
    let here : node_at nodes k ≡ last.last =
    ap (λ (xs : List EntryNode). node_at xs k) were ∙ ap (node_at (last.rest ++ last.last ∷ linked_from (suc (length rest)) l.behind l.done)) number
    ∙ get-there last.rest (linked_from (suc (length rest)) l.behind l.done) last.last in
    let deeper : next_known next (d + 1) ≡ next_at (suc d) (suc (length rest)) l.done =
    ap (λ (xs : List (Option ℕ)). next_known xs (d + 1)) l.next_is
    ∙ ap (λ (i : ℕ). next_known (all_next i l.done) (d + 1)) size
    ∙ ap (next_known (all_next (suc (length rest)) l.done)) (omega arith)
    ∙ known-next (suc (length rest)) (suc d) l.done in
    let own : next_known next d ≡ next_at d (suc (length rest)) l.done =
    ap (λ (xs : List (Option ℕ)). next_known xs d) l.next_is
    ∙ ap (λ (i : ℕ). next_known (all_next i l.done) d) size
    ∙ known-next (suc (length rest)) d l.done in
    let set : with_links (node_at nodes k) (next_known next (d + 1)) (next_known next d)
    ≡ with_links last.last (next_at (suc d) (suc (length rest)) l.done) (next_at d (suc (length rest)) l.done) =
    ap (λ (n : EntryNode). with_links n (next_known next (d + 1)) (next_known next d)) here
    ∙ ap (λ (o : Option ℕ). with_links last.last o (next_known next d)) deeper
    ∙ ap (λ (o : Option ℕ). with_links last.last (next_at (suc d) (suc (length rest)) l.done) o) own in
    record {
      front = last.rest;
      behind = last.last ∷ l.behind;
      done = d ∷ l.done;
      nodes_split = l.nodes_split ∙ ap (λ (xs : List EntryNode). xs ++ l.behind) last.is ∙ append_assoc last.rest (last.last ∷ []) l.behind;
      depths_split = l.depths_split ∙ ap (λ (xs : List ℕ). xs ++ l.done) split ∙ append_assoc rest (d ∷ []) l.done;
      count = place;
      are = more_is ∙ ap (slice_set nodes k) set
          ∙ ap (λ (xs : List EntryNode). slice_set xs k (with_links last.last (next_at (suc d) (suc (length rest)) l.done) (next_at d (suc (length rest)) l.done))) were
          ∙ ap (λ (i : ℕ). slice_set (last.rest ++ last.last ∷ linked_from (suc (length rest)) l.behind l.done) i
          (with_links last.last (next_at (suc d) (suc (length rest)) l.done) (next_at d (suc (length rest)) l.done))) number
          ∙ set-there last.rest (linked_from (suc (length rest)) l.behind l.done) last.last
          (with_links last.last (next_at (suc d) (suc (length rest)) l.done) (next_at d (suc (length rest)) l.done));
      next_is = known_is ∙ ap (λ (i : ℕ). with_next i d next) at ∙ ap (with_next (length rest) d) l.next_is
          ∙ ap (λ (i : ℕ). with_next (length rest) d (all_next i l.done)) size;
    }

pub link-inside : (ns : List EntryNode) (ds : List ℕ) (nodes : List EntryNode) (left rest : List ℕ) (next : List (Option ℕ)) (d k : ℕ) → Linking ns ds nodes left next
    → left ≡ rest ++ d ∷ [] → k ≡ length rest → k < length nodes
link-inside ns ds nodes left rest next d k l split at =
    let size : length left ≡ suc (length rest) = ap (λ (xs : List ℕ). length xs) split ∙ (let e = length-append rest (d ∷ []) in omega (arith, e)) in
    let count = l.count in
    let all : length nodes ≡ length l.front + length (linked_from (length left) l.behind l.done) =
    ap (λ (xs : List EntryNode). length xs) l.are ∙ length-append l.front (linked_from (length left) l.behind l.done) in
    omega (arith, size, count, all, at)

-- in the end all are
no-front : (xs : List EntryNode) → length xs ≡ 0 → xs ≡ []
no-front [] e = refl
no-front (x ∷ xs) e = absurd (omega (arith, e))

pub link-ends : (ns : List EntryNode) (ds : List ℕ) (nodes : List EntryNode) (left : List ℕ) (next : List (Option ℕ)) → Linking ns ds nodes left next → left ≡ []
    → nodes ≡ linked_from 0 ns ds
link-ends ns ds nodes left next l none =
    let count = l.count in
    let zero_left : length left ≡ 0 = ap (λ (xs : List ℕ). length xs) none in
    let front : l.front ≡ [] = no-front l.front (omega (arith, count, zero_left)) in
    let own : ns ≡ l.behind = l.nodes_split ∙ ap (λ (xs : List EntryNode). xs ++ l.behind) front in
    let depths : ds ≡ l.done = l.depths_split ∙ ap (λ (xs : List ℕ). xs ++ l.done) none in
    l.are ∙ ap (λ (xs : List EntryNode). xs ++ linked_from (length left) l.behind l.done) front
    ∙ ap (λ (i : ℕ). linked_from i l.behind l.done) zero_left
    ∙ ap (λ (xs : List EntryNode). linked_from 0 xs l.done) (sym own) ∙ ap (linked_from 0 ns) (sym depths)

-- as many nodes as before
pub link-count : (k : ℕ) (ns : List EntryNode) (ds : List ℕ) → length (linked_from k ns ds) ≡ length ns
link-count k [] ds = refl
link-count k (n ∷ ns) [] = refl
link-count k (n ∷ ns) (d ∷ ds) = ap suc (link-count (suc k) ns ds)

-- what was lent comes back
pub link-back : (ns : List EntryNode) (ds : List ℕ) (nodes lent new : List EntryNode) (left rest : List ℕ) (next seen known : List (Option ℕ)) (d k n : ℕ)
    → Linking ns ds nodes left next → left ≡ rest ++ d ∷ [] → k ≡ length rest → lent ≡ nodes → seen ≡ next
    → new ≡ slice_set lent k (with_links (node_at lent k) (next_known seen (d + 1)) (next_known seen d)) → length lent ≡ n → known ≡ with_next k d next
    → Linking ns ds (take n (new ++ drop (length new) nodes)) rest known
link-back ns ds nodes lent new left rest next seen known d k n l split at same shown new_is size known_is =
    let long : length new ≡ length lent =
    ap (λ (xs : List EntryNode). length xs) new_is ∙ length-set lent k (with_links (node_at lent k) (next_known seen (d + 1)) (next_known seen d)) in
    let whole : length nodes ≡ length lent = ap (λ (xs : List EntryNode). length xs) (sym same) in
    let none : drop (length new) nodes ≡ [] = drop_all (length new) nodes (omega (arith, long, whole)) in
    let back : take n (new ++ drop (length new) nodes) ≡ new =
    ap (λ (xs : List EntryNode). take n (new ++ xs)) none ∙ ap (take n) (append-nil new) ∙ take_all n new (omega (arith, long, size)) in
    let own : new ≡ slice_set nodes k (with_links (node_at nodes k) (next_known next (d + 1)) (next_known next d)) =
    new_is ∙ ap (λ (xs : List EntryNode). slice_set xs k (with_links (node_at xs k) (next_known seen (d + 1)) (next_known seen d))) same
    ∙ ap (λ (xs : List (Option ℕ)). slice_set nodes k (with_links (node_at nodes k) (next_known xs (d + 1)) (next_known xs d))) shown in
    link-more ns ds nodes (take n (new ++ drop (length new) nodes)) left rest next known d k l split at (back ∙ own) known_is

-- linked nodes are as many
pub linked-small : (b : Begun) (nodes : List EntryNode) (n : ℕ) → nodes ≡ linked_nodes b → length b.nodes ≤ n → length nodes ≤ n
linked-small b nodes n is le =
    let same : length nodes ≡ length b.nodes = ap (λ (xs : List EntryNode). length xs) is ∙ link-count 0 b.nodes b.depths in
    omega (arith, same, le)

pub ruleset link_laws = (link-starts, link-more, link-inside, link-ends)
