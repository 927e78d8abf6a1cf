-- Links lead from each node to the one of the next number.
use Rattle.std.proofs.Common.{◌≡◌, ℕ, suc, ◌+◌, ◌-◌, ◌<◌, ◌≤◌, List, length, Option, Some, None, refl, sym, ap, ◌∙◌, subst, arith}
use Rattle.entry_arena.specs.Shapes.{Shape, no_nodes, node, size, root, NodesSpell, IsLinked, node_at, HasDepth, outermost, below}
use Rattle.entry_arena.specs.Walks.{IsDue, IsOver, Pending, inner_list, last_list}
use Rattle.entry_arena.specs.declared.arena.EntryNode.{EntryNode}
use Rattle.entry_arena.specs.declared.walking.WalkStep.{WalkStep}

-- what is pending lies before the end, and is no deeper than its number
record InRoom (k d count n : ℕ) : Type 0 where
  ends : k + count ≤ n
  shallow : d ≤ k

in-room : (at : ℕ → EntryNode) (n : ℕ) (p : Option ℕ) (k d : ℕ) (s : Shape) → Pending at n p k d s → InRoom k d (size s) n
in-room at n p k d s (last_list _ _ spells end) = record { ends = omega (arith, end); shallow = omega arith }
in-room at n p k d s (inner_list a _ e _ t q spells sibling parent lt deep rest) =
    let r = in-room at n q (k + size s) e t rest in
    let ends = r.ends in
    record { ends = omega (arith, ends); shallow = omega (arith, lt, deep) }

-- how deep a node stands
pending-depth : (at : ℕ → EntryNode) (n : ℕ) (p : Option ℕ) (k d : ℕ) (s : Shape) → Pending at n p k d s → (j : ℕ) → (at j).parent ≡ p → HasDepth at j d
pending-depth at n p k d s (last_list _ _ spells end) j e = outermost j e
pending-depth at n p k d s (inner_list a _ f _ t q spells sibling parent lt deep rest) j e =
    below j a f e (pending-depth at n q (k + size s) f t rest a parent)

pending-spells : (at : ℕ → EntryNode) (n : ℕ) (p : Option ℕ) (k d : ℕ) (s : Shape) → Pending at n p k d s → NodesSpell at p k s
pending-spells at n p k d s (last_list _ _ spells end) = spells
pending-spells at n p k d s (inner_list a _ e _ t q spells sibling parent lt deep rest) = spells

-- below the next node stand its children
enter : (at : ℕ → EntryNode) (n : ℕ) (p : Option ℕ) (k d : ℕ) (c t : Shape) → Pending at n p k d (node c t) → Pending at n (Some k) (suc k) (suc d) c
enter at n p k d c t (last_list _ _ spells end) =
    inner_list k (suc k) 0 c t None spells.3 spells.2 spells.0 (omega arith) (omega arith) (last_list (suc k + size c) t spells.4 (omega (arith, end)))
enter at n p k d c t (inner_list a _ e _ u q spells sibling parent lt deep rest) =
    let place : k + suc (size c + size t) ≡ suc k + size c + size t = omega arith in
    inner_list k (suc k) (suc e) c t (Some a) spells.3 spells.2 spells.0 (omega arith) (omega (arith, lt, deep))
    (inner_list a (suc k + size c) e t u q spells.4 (sibling ∙ ap (λ (i : ℕ). root i u) place) parent (omega (arith, lt)) deep
    (subst (λ (i : ℕ). Pending at n q i e u) place rest))

some-number : (k j : ℕ) → Some k ≡ Some j → k ≡ j
some-number k j e = cc

-- a first child comes next
first-child : (at : ℕ → EntryNode) (n k d : ℕ) (c : Shape) (j : ℕ) → Pending at n (Some k) (suc k) (suc d) c → root (suc k) c ≡ Some j
    → (j ≡ suc k) × ((x : Shape) × ((y : Shape) × Pending at n (Some k) (suc k) (suc d) (node x y)))
first-child at n k d no_nodes j p e = absurd cc
first-child at n k d (node x y) j p e = (sym (some-number (suc k) j e), (x, (y, p)))

child-comes : (nodes : List EntryNode) (s u : WalkStep) (j : ℕ) → IsDue nodes s → (node_at nodes s.number).first_child ≡ Some j → u.number ≡ j → u.depth ≡ s.depth + 1
    → IsDue nodes u × (u.number ≡ s.number + 1)
child-comes nodes s u j due e number depth =
    let inside = enter (node_at nodes) (length nodes) due.parent s.number s.depth due.children due.siblings due.pending in
    let spells = pending-spells (node_at nodes) (length nodes) due.parent s.number s.depth (node due.children due.siblings) due.pending in
    let f = first-child (node_at nodes) (length nodes) s.number s.depth due.children j inside (sym spells.1 ∙ e) in
    let is : u.number ≡ suc s.number = number ∙ f.0 in
    let deep : u.depth ≡ suc s.depth = depth ∙ omega arith in (
      record {
        parent = Some s.number;
        children = f.1.0;
        siblings = f.1.1.0;
        pending = subst (λ (i : ℕ). Pending (node_at nodes) (length nodes) (Some s.number) i u.depth (node f.1.0 f.1.1.0)) (sym is)
            (subst (λ (i : ℕ). Pending (node_at nodes) (length nodes) (Some s.number) (suc s.number) i (node f.1.0 f.1.1.0)) (sym deep) f.1.1.1);
      },
      omega (arith, is),
    )

pub child-due : (nodes : List EntryNode) (s u : WalkStep) (j : ℕ) → IsDue nodes s → (node_at nodes s.number).first_child ≡ Some j → u.number ≡ j → u.depth ≡ s.depth + 1
    → IsDue nodes u
child-due nodes s u j due e number depth = (child-comes nodes s u j due e number depth).0

pub child-next : (nodes : List EntryNode) (s : WalkStep) (j : ℕ) → IsDue nodes s → (node_at nodes s.number).first_child ≡ Some j → j ≡ s.number + 1
child-next nodes s j due e = (child-comes nodes s (record { number = j; depth = s.depth + 1 }) j due e refl refl).1

-- without one, nothing stands below the node
no-child : (at : ℕ → EntryNode) (n k d : ℕ) (c : Shape) → Pending at n (Some k) (suc k) (suc d) c → root (suc k) c ≡ None → Pending at n (Some k) (suc k) (suc d) no_nodes
no-child at n k d no_nodes p e = p
no-child at n k d (node x y) p e = absurd cc

pub childless-over : (nodes : List EntryNode) (s : WalkStep) (k : ℕ) → IsDue nodes s → None ≡ (node_at nodes s.number).first_child → k ≡ s.number + 1 → IsOver nodes k s
childless-over nodes s k due e next =
    let inside = enter (node_at nodes) (length nodes) due.parent s.number s.depth due.children due.siblings due.pending in
    let spells = pending-spells (node_at nodes) (length nodes) due.parent s.number s.depth (node due.children due.siblings) due.pending in
    let is : suc s.number ≡ k = omega (arith, next) in
    record {
      pending = subst (λ (i : ℕ). Pending (node_at nodes) (length nodes) (Some s.number) i (suc s.depth) no_nodes) is
          (no-child (node_at nodes) (length nodes) s.number s.depth due.children inside (sym spells.1 ∙ sym e));
    }

-- what follows a node below which all was given
record Follows (at : ℕ → EntryNode) (n a k d : ℕ) : Type 0 where
  parent : Option ℕ
  is : (at a).parent ≡ parent
  shape : Shape
  sibling : (at a).next_sibling ≡ root k shape
  pending : Pending at n parent k d shape

follows : (at : ℕ → EntryNode) (n a k d : ℕ) → Pending at n (Some a) k (suc d) no_nodes → Follows at n a k d
follows at n a k d (inner_list _ _ _ _ t q spells sibling parent lt deep rest) =
    let place : k + 0 ≡ k = omega arith in
    record {
      parent = q;
      is = parent;
      shape = t;
      sibling = sibling ∙ ap (λ (i : ℕ). root i t) place;
      pending = subst (λ (i : ℕ). Pending at n q i d t) place rest;
    }

-- its next sibling comes next
root-due : (at : ℕ → EntryNode) (n : ℕ) (p : Option ℕ) (k d : ℕ) (s : Shape) (j : ℕ) → Pending at n p k d s → root k s ≡ Some j
    → (j ≡ k) × ((x : Shape) × ((y : Shape) × Pending at n p k d (node x y)))
root-due at n p k d no_nodes j q e = absurd cc
root-due at n p k d (node x y) j q e = (sym (some-number k j e), (x, (y, q)))

sibling-comes : (nodes : List EntryNode) (k : ℕ) (s u : WalkStep) (j : ℕ) → IsOver nodes k s → (node_at nodes s.number).next_sibling ≡ Some j → u.number ≡ j → u.depth ≡ s.depth
    → IsDue nodes u × (u.number ≡ k)
sibling-comes nodes k s u j over e number depth =
    let f = follows (node_at nodes) (length nodes) s.number k s.depth over.pending in
    let r = root-due (node_at nodes) (length nodes) f.parent k s.depth f.shape j f.pending (sym f.sibling ∙ e) in
    let is : u.number ≡ k = number ∙ r.0 in (
      record {
        parent = f.parent;
        children = r.1.0;
        siblings = r.1.1.0;
        pending = subst (λ (i : ℕ). Pending (node_at nodes) (length nodes) f.parent i u.depth (node r.1.0 r.1.1.0)) (sym is)
            (subst (λ (i : ℕ). Pending (node_at nodes) (length nodes) f.parent k i (node r.1.0 r.1.1.0)) (sym depth) r.1.1.1);
      },
      is,
    )

pub sibling-due : (nodes : List EntryNode) (k : ℕ) (s u : WalkStep) (j : ℕ) → IsOver nodes k s → (node_at nodes s.number).next_sibling ≡ Some j → u.number ≡ j → u.depth ≡ s.depth
    → IsDue nodes u
sibling-due nodes k s u j over e number depth = (sibling-comes nodes k s u j over e number depth).0

pub sibling-next : (nodes : List EntryNode) (k : ℕ) (s : WalkStep) (j : ℕ) → IsOver nodes k s → (node_at nodes s.number).next_sibling ≡ Some j → j ≡ k
sibling-next nodes k s j over e = (sibling-comes nodes k s (record { number = j; depth = s.depth }) j over e refl refl).1

-- without one, all below its parent was given
no-root : (at : ℕ → EntryNode) (n : ℕ) (p : Option ℕ) (k d : ℕ) (s : Shape) → Pending at n p k d s → root k s ≡ None → Pending at n p k d no_nodes
no-root at n p k d no_nodes q e = q
no-root at n p k d (node x y) q e = absurd cc

inner-deep : (at : ℕ → EntryNode) (n : ℕ) (p : Option ℕ) (k d a : ℕ) (s : Shape) → Pending at n p k d s → p ≡ Some a → (f : ℕ) × (d ≡ suc f)
inner-deep at n p k d a s (last_list _ _ spells end) e = absurd cc
inner-deep at n p k d a s (inner_list b _ f _ t q spells sibling parent lt deep rest) e = (f, refl)

last-ends : (at : ℕ → EntryNode) (n : ℕ) (p : Option ℕ) (k d : ℕ) → Pending at n p k d no_nodes → p ≡ None → k ≡ n
last-ends at n p k d (last_list _ _ spells end) e = omega (arith, end)
last-ends at n p k d (inner_list b _ f _ t q spells sibling parent lt deep rest) e = absurd cc

record Up (nodes : List EntryNode) (k : ℕ) (s : WalkStep) (a : ℕ) : Type 0 where
  deeper : 0 < s.depth
  over : (u : WalkStep) → u.number ≡ a → u.depth ≡ s.depth - 1 → IsOver nodes k u

parent-up : (nodes : List EntryNode) (k : ℕ) (s : WalkStep) (a : ℕ) → IsOver nodes k s → None ≡ (node_at nodes s.number).next_sibling → (node_at nodes s.number).parent ≡ Some a
    → Up nodes k s a
parent-up nodes k s a over e up =
    let f = follows (node_at nodes) (length nodes) s.number k s.depth over.pending in
    let above : f.parent ≡ Some a = sym f.is ∙ up in
    let rest : Pending (node_at nodes) (length nodes) f.parent k s.depth no_nodes =
    no-root (node_at nodes) (length nodes) f.parent k s.depth f.shape f.pending (sym f.sibling ∙ sym e) in
    let deep = inner-deep (node_at nodes) (length nodes) f.parent k s.depth a no_nodes rest above in
    let is = deep.1 in
    record {
      deeper = omega (arith, is);
      over = λ u number depth. record {
        pending =
            subst (λ (i : ℕ). Pending (node_at nodes) (length nodes) (Some i) k (suc u.depth) no_nodes) (sym number)
            (subst (λ (i : ℕ). Pending (node_at nodes) (length nodes) (Some a) k i no_nodes) (omega (arith, is, depth))
            (subst (λ (o : Option ℕ). Pending (node_at nodes) (length nodes) o k s.depth no_nodes) above rest));
      };
    }

pub parent-deep : (nodes : List EntryNode) (k : ℕ) (s : WalkStep) (a : ℕ) → IsOver nodes k s → None ≡ (node_at nodes s.number).next_sibling → (node_at nodes s.number).parent ≡ Some a
    → 0 < s.depth
parent-deep nodes k s a over e up = (parent-up nodes k s a over e up).deeper

pub parent-over : (nodes : List EntryNode) (k : ℕ) (s u : WalkStep) (a : ℕ) → IsOver nodes k s → None ≡ (node_at nodes s.number).next_sibling → (node_at nodes s.number).parent ≡ Some a
    → u.number ≡ a → u.depth ≡ s.depth - 1 → IsOver nodes k u
parent-over nodes k s u a over e up number depth = (parent-up nodes k s a over e up).over u number depth

-- and without a parent all were given
pub over-ends : (nodes : List EntryNode) (k : ℕ) (s : WalkStep) → IsOver nodes k s → None ≡ (node_at nodes s.number).next_sibling → None ≡ (node_at nodes s.number).parent
    → k ≡ length nodes
over-ends nodes k s over e top =
    let f = follows (node_at nodes) (length nodes) s.number k s.depth over.pending in
    last-ends (node_at nodes) (length nodes) f.parent k s.depth
    (no-root (node_at nodes) (length nodes) f.parent k s.depth f.shape f.pending (sym f.sibling ∙ sym e)) (sym f.is ∙ sym top)

over-room : (at : ℕ → EntryNode) (n a k d : ℕ) (s : Shape) → Pending at n (Some a) k (suc d) s → (a < n) × (d ≤ a)
over-room at n a k d s (inner_list _ _ _ _ t q spells sibling parent lt deep rest) =
    let r = in-room at n q (k + size s) d t rest in
    let ends = r.ends in
    (omega (arith, ends, lt), deep)

pub over-inside : (nodes : List EntryNode) (k : ℕ) (s : WalkStep) → IsOver nodes k s → s.number < length nodes
over-inside nodes k s over = (over-room (node_at nodes) (length nodes) s.number k s.depth no_nodes over.pending).0

pub due-inside : (nodes : List EntryNode) (s : WalkStep) → IsDue nodes s → s.number < length nodes
due-inside nodes s due =
    let r = in-room (node_at nodes) (length nodes) due.parent s.number s.depth (node due.children due.siblings) due.pending in
    let ends = r.ends in
    omega (arith, ends)

pub due-shallow : (nodes : List EntryNode) (s : WalkStep) → IsDue nodes s → s.depth ≤ s.number
due-shallow nodes s due = (in-room (node_at nodes) (length nodes) due.parent s.number s.depth (node due.children due.siblings) due.pending).shallow

pub due-depth : (nodes : List EntryNode) (s : WalkStep) → IsDue nodes s → HasDepth (node_at nodes) s.number s.depth
due-depth nodes s due =
    let spells = pending-spells (node_at nodes) (length nodes) due.parent s.number s.depth (node due.children due.siblings) due.pending in
    pending-depth (node_at nodes) (length nodes) due.parent s.number s.depth (node due.children due.siblings) due.pending s.number spells.0

-- the first node comes first
pub first-due : (nodes : List EntryNode) (s : WalkStep) → IsLinked nodes → 0 < length nodes → s.number ≡ 0 → s.depth ≡ 0 → IsDue nodes s
first-due nodes s l some number depth = by_shape l.shape l.linked.spells l.linked.size_is
  where
    by_shape : (shape : Shape) → NodesSpell (node_at nodes) None 0 shape → size shape ≡ length nodes → IsDue nodes s
    by_shape no_nodes spells e = absurd (omega (arith, e, some))
    by_shape (node c t) spells e = record {
      parent = None;
      children = c;
      siblings = t;
      pending = subst (λ (i : ℕ). Pending (node_at nodes) (length nodes) None i s.depth (node c t)) (sym number)
          (subst (λ (i : ℕ). Pending (node_at nodes) (length nodes) None 0 i (node c t)) (sym depth) (last_list 0 (node c t) spells (omega (arith, e))));
    }

pub ruleset walk_laws = (child-due, child-next, childless-over, sibling-due, sibling-next, parent-deep, parent-over, over-ends, over-inside, due-inside, due-shallow, due-depth, first-due)
