-- In nodes that spell a shape a parent's number is smaller than its child's, and each node stands once in the chain in which it should.
use Rattle.std.proofs.Common.{Bool, ◌≡◌, ℕ, suc, ◌+◌, ◌<◌, ◌≤◌, ◌⊎◌, inl, inr, List, [], ◌∷◌, length, Option, Some, None, refl, sym, ap, ◌∙◌, subst, arith, if◌then◌else◌}
use Rattle.std.specs.Prelude.{IfSome}
use Rattle.std.proofs.lemmas.Bool.{eq-eqb, ne_eqb, cases_lt, cases_eq}
use Rattle.entry_arena.specs.Shapes.{Shape, no_nodes, node, size, root, NodesSpell, IsLinked, node_at, Chain, chain_end, chain_more, times_of, chain_start, StandsOnce}
use Rattle.entry_arena.specs.declared.arena.EntryNode.{EntryNode}

-- the first nodes of a shape, in order
abbrev firsts : ℕ → Shape → List ℕ
firsts k no_nodes = []
firsts k (node c t) = k ∷ firsts (suc k + size c) t

firsts-chain : (at : ℕ → EntryNode) (p : Option ℕ) (k : ℕ) (s : Shape) → NodesSpell at p k s → Chain at (root k s) (firsts k s)
firsts-chain at p k no_nodes n = chain_end
firsts-chain at p k (node c t) n =
    chain_more k (firsts (suc k + size c) t)
    (subst (λ (o : Option ℕ). Chain at o (firsts (suc k + size c) t)) (sym n.2) (firsts-chain at p (suc k + size c) t n.4))

-- a number in front of all
none-before : (j k : ℕ) (s : Shape) → j < k → times_of j (firsts k s) ≡ 0
none-before j k no_nodes lt = refl
none-before j k (node c t) lt =
    let rest : times_of j (firsts (suc k + size c) t) ≡ 0 = none-before j (suc k + size c) t (omega (arith, lt)) in
    ap (λ (b : Bool). (if b then 1 else 0) + times_of j (firsts (suc k + size c) t)) (ne_eqb k j (λ e. omega (arith, e, lt))) ∙ omega (arith, rest)

-- a node stands among the first, whose parent this is; or below one of them, once in the chain of its parent's children
record IsBelow (at : ℕ → EntryNode) (k j : ℕ) : Type 0 where
  parent : ℕ
  is : (at j).parent ≡ Some parent
  from : k ≤ parent
  smaller : parent < j
  once : StandsOnce at (at parent).first_child j

abbrev Stands : (ℕ → EntryNode) → Option ℕ → ℕ → Shape → ℕ → Type 0
Stands at p k s j = (((at j).parent ≡ p) × (times_of j (firsts k s) ≡ 1)) ⊎ IsBelow at k j

stands : (at : ℕ → EntryNode) (p : Option ℕ) (k : ℕ) (s : Shape) (j : ℕ) → NodesSpell at p k s → k ≤ j → j < k + size s → Stands at p k s j
stands at p k no_nodes j n from to = absurd (omega (arith, from, to))
stands at p k (node c t) j n from to =
    by_place (cases_eq j k) (cases_lt j (suc k + size c)) (λ a b. stands at (Some k) (suc k) c j n.3 a b) (λ a b. stands at p (suc k + size c) t j n.4 a b)
  where
    below-child : Stands at (Some k) (suc k) c j → Stands at p k (node c t) j
    below-child (inl own) = inr (record {
      parent = k;
      is = own.0;
      from = omega arith;
      smaller = smaller_than (cases_lt k j);
      once = record {
        chain = firsts (suc k) c;
        is = subst (λ (o : Option ℕ). Chain at o (firsts (suc k) c)) (sym n.1) (firsts-chain at (Some k) (suc k) c n.3);
        once = own.1;
      };
    })
      where
        smaller_than : (k < j) ⊎ (j ≤ k) → k < j
        smaller_than (inl lt) = lt
        smaller_than (inr le) =
            let none = none-before j (suc k) c (omega (arith, le)) in
            let one = own.1 in
            absurd (omega (arith, none, one))
    below-child (inr b) = inr (record { parent = b.parent; is = b.is; from = (let f = b.from in omega (arith, f)); smaller = b.smaller; once = b.once })

    among-next : k < j → Stands at p (suc k + size c) t j → Stands at p k (node c t) j
    among-next lt (inl own) =
        inl (
          own.0,
          ap (λ (b : Bool). (if b then 1 else 0) + times_of j (firsts (suc k + size c) t)) (ne_eqb k j (λ e. omega (arith, e, lt)))
              ∙ (let one = own.1 in omega (arith, one)),
        )
    among-next lt (inr b) = inr (record { parent = b.parent; is = b.is; from = (let f = b.from in omega (arith, f)); smaller = b.smaller; once = b.once })

    here : j ≡ k → Stands at p k (node c t) j
    here e =
        let none : times_of j (firsts (suc k + size c) t) ≡ 0 = none-before j (suc k + size c) t (omega (arith, e)) in
        inl (
          ap (λ (i : ℕ). (at i).parent) e ∙ n.0,
          ap (λ (b : Bool). (if b then 1 else 0) + times_of j (firsts (suc k + size c) t)) (eq-eqb k j (sym e)) ∙ omega (arith, none),
        )

    by_place : (j ≡ k) ⊎ (j ≡ k → ⊥) → (j < suc k + size c) ⊎ (suc k + size c ≤ j)
        → (suc k ≤ j → j < suc k + size c → Stands at (Some k) (suc k) c j)
        → (suc k + size c ≤ j → j < suc k + size c + size t → Stands at p (suc k + size c) t j) → Stands at p k (node c t) j
    by_place (inl e) q child next = here e
    by_place (inr other) (inl lt) child next =
        let more : suc k ≤ j = omega (arith, from, other) in
        below-child (child more lt)
    by_place (inr other) (inr le) child next = among-next (omega (arith, le)) (next le (omega (arith, to)))

-- of an arena
some-first : (s : Shape) (j : ℕ) → j < size s → root 0 s ≡ Some 0
some-first no_nodes j lt = absurd (omega (arith, lt))
some-first (node c t) j lt = refl

pub once : (nodes : List EntryNode) (j : ℕ) → IsLinked nodes → j < length nodes → StandsOnce (node_at nodes) (chain_start (node_at nodes) (node_at nodes j).parent) j
once nodes j l lt =
    let size_is = l.linked.size_is in
    by_stand (stands (node_at nodes) None 0 l.shape j l.linked.spells (omega arith) (omega (arith, lt, size_is)))
  where
    by_stand : Stands (node_at nodes) None 0 l.shape j → StandsOnce (node_at nodes) (chain_start (node_at nodes) (node_at nodes j).parent) j
    by_stand (inl own) =
        let size_is = l.linked.size_is in
        subst (λ (o : Option ℕ). StandsOnce (node_at nodes) (chain_start (node_at nodes) o) j) (sym own.0) (record {
          chain = firsts 0 l.shape;
          is = subst (λ (o : Option ℕ). Chain (node_at nodes) o (firsts 0 l.shape)) (some-first l.shape j (omega (arith, lt, size_is)))
              (firsts-chain (node_at nodes) None 0 l.shape l.linked.spells);
          once = own.1;
        })
    by_stand (inr b) = subst (λ (o : Option ℕ). StandsOnce (node_at nodes) (chain_start (node_at nodes) o) j) (sym b.is) b.once

pub parent-smaller : (nodes : List EntryNode) (j p : ℕ) → IsLinked nodes → j < length nodes → (node_at nodes j).parent ≡ Some p → p < j
parent-smaller nodes j p l lt e =
    let size_is = l.linked.size_is in
    by_stand (stands (node_at nodes) None 0 l.shape j l.linked.spells (omega arith) (omega (arith, lt, size_is)))
  where
    by_stand : Stands (node_at nodes) None 0 l.shape j → p < j
    by_stand (inl own) =
        let no : None ≡ Some p = sym own.0 ∙ e in
        absurd cc
    by_stand (inr b) =
        let same : Some b.parent ≡ Some p = sym b.is ∙ e in
        let number : b.parent ≡ p = cc in
        let lt = b.smaller in
        omega (arith, number, lt)

-- of a node that is lent
pub node-once : (nodes now : List EntryNode) (j : ℕ) (n : EntryNode) → IsLinked nodes → nodes ≡ now → j < length now → n ≡ node_at now j
    → StandsOnce (node_at now) (chain_start (node_at now) n.parent) j
node-once nodes now j n l same lt is =
    subst (λ (m : EntryNode). StandsOnce (node_at now) (chain_start (node_at now) m.parent) j) (sym is) (once now j (subst IsLinked same l) lt)

pub node-parent : (nodes now : List EntryNode) (j : ℕ) (n : EntryNode) → IsLinked nodes → nodes ≡ now → j < length now → n ≡ node_at now j
    → IfSome n.parent (λ p. p < j)
node-parent nodes now j n l same lt is = by_parent n.parent (ap (λ (m : EntryNode). m.parent) (sym is))
  where
    by_parent : (o : Option ℕ) → (node_at now j).parent ≡ o → IfSome o (λ p. p < j)
    by_parent None e = tt
    by_parent (Some p) e = parent-smaller now j p (subst IsLinked same l) lt e

pub ruleset chain_laws = (once, parent-smaller)
