-- A change of a tree that shows a marking is a change of its marks.
use Rattle.std.proofs.Common.{ℕ, ◌≡◌, ◌≢◌, ◌⊎◌, inl, inr, List, refl, sym, ap, ◌∙◌, subst, Bool, true, false, cond}
use Rattle.std.specs.Prelude.{Some, None}
use Rattle.std.specs.Ordering.{nat_cmp, is_eq, ordering_reverse}
use Rattle.std.specs.Cmp.Lexicographic.{slice_cmp}
use Rattle.std.specs.FinMap as fin
use Rattle.std.specs.FinMap.{slice_cmp-IsAntisymmetric, nat_cmp-IsAntisymmetric}
use Rattle.std.specs.declared.cmp.Ordering.{Ordering}
use Rattle.std.specs.declared.cmp.Ordering.TheVariants.{Less, Equal, Greater}
use Rattle.std.proofs.lemmas.Cmp.{nat_list_cmp_total}
use Rattle.std.proofs.lemmas.Bool.{cases_Bool, cond-false}
use Rattle.file_tree.specs.declared.node.Node.{Node}
use Rattle.file_tree.specs.declared.node.Node.TheVariants as node
use Rattle.file_tree.specs.declared.call.Change.TheVariants as change
use Rattle.file_tree.specs.Trees.{TreeMap, moved}
use Rattle.file_tree.specs.Images.{Leaves}
use Rattle.file_tree.specs.Images.Leaves.{whole as leaf_whole, torn as leaf_torn}
use Rattle.journal_core.specs.Names.{Name, IsName}
use Rattle.journal_core.specs.Marks.{Mark, Marking, mark, marked, absent, whole, any}
use Rattle.journal_core.proofs.ByName.{mark_here, mark_other}
use Rattle.work_journal.specs.Wanted.{Wanted, path_of, MarkHas, Has, IsApart}

tied : (a b : List ℕ) → slice_cmp nat_cmp a b ≡ Equal → a ≡ b
tied a b e = slice_cmp-IsAntisymmetric nat_cmp-IsAntisymmetric a b e

by_eq : (o : Ordering) → is_eq o ≡ true → o ≡ Equal
by_eq Less t = cc
by_eq Equal t = refl
by_eq Greater t = cc

pub same_path : (q p : List ℕ) → (q ≡ p) ⊎ (is_eq (slice_cmp nat_cmp q p) ≡ false)
same_path q p = elim (cases_Bool (is_eq (slice_cmp nat_cmp q p))) [
  | inl y ↦ inl (tied q p (by_eq _ y))
  | inr f ↦ inr f
]

rev_equal : (o : Ordering) → o ≡ ordering_reverse o → o ≡ Equal
rev_equal Less e = cc
rev_equal Equal e = refl
rev_equal Greater e = cc

pub here_eq : (q : List ℕ) → is_eq (slice_cmp nat_cmp q q) ≡ true
here_eq q = ap (λ (o : Ordering). is_eq o) (rev_equal (slice_cmp nat_cmp q q) (nat_list_cmp_total.antisymm q q))

apart_path : (q p : List ℕ) → q ≢ p → is_eq (slice_cmp nat_cmp q p) ≡ false
apart_path q p ne = elim (same_path q p) [
  | inl e ↦ absurd (ne e)
  | inr f ↦ f
]

pub get_put : (t : TreeMap) (p : List ℕ) (h : Node) → fin.get (fin.insert t p h) p ≡ Some h
get_put t p h = fin.get-insert nat_list_cmp_total t p h p ∙ ap (λ (b : Bool). cond b (Some h) (fin.get t p)) (here_eq p)

pub get_put_other : (t : TreeMap) (p : List ℕ) (h : Node) (q : List ℕ) → q ≢ p → fin.get (fin.insert t p h) q ≡ fin.get t q
get_put_other t p h q ne = fin.get-insert nat_list_cmp_total t p h q ∙ cond-false _ _ _ (apart_path q p ne)

pub get_taken : (t : TreeMap) (p : List ℕ) → fin.get (fin.remove t p) p ≡ None
get_taken t p = fin.get-remove nat_list_cmp_total t p p ∙ ap (λ (b : Bool). cond b None (fin.get t p)) (here_eq p)

pub get_taken_other : (t : TreeMap) (p q : List ℕ) → q ≢ p → fin.get (fin.remove t p) q ≡ fin.get t q
get_taken_other t p q ne = fin.get-remove nat_list_cmp_total t p q ∙ cond-false _ _ _ (apart_path q p ne)

clash : true ≡ false → ⊥
clash h = cc

pub not_same : (q p : List ℕ) → is_eq (slice_cmp nat_cmp q p) ≡ false → q ≢ p
not_same q p f e = clash (sym (here_eq q) ∙ ap (λ (y : List ℕ). is_eq (slice_cmp nat_cmp q y)) e ∙ f)

some_not : (h : Node) → Some h ≢ None
some_not h e = cc

-- one name is set
pub has_set : (w : Wanted) → IsApart w → (m : Marking) (t u : TreeMap) (n : Name) (x : Mark) → IsName w.steps n → Has w m t → MarkHas x (fin.get w.start (path_of w n)) (w.node n) (w.older n) (fin.get u (path_of w n)) → ((q : List ℕ) → q ≢ path_of w n → fin.get u q ≡ fin.get t q) → Has w (marked m n x) u
has_set w apart m t u n x is h here others = record {
  named = λ b isb. elim (same_path (path_of w b) (path_of w n)) [
    | inl e ↦ (let same : b ≡ n = apart.apart b n isb is e in subst (λ (y : Name). MarkHas (mark (marked m n x) y) (fin.get w.start (path_of w y)) (w.node y) (w.older y) (fin.get u (path_of w y))) (sym same) (rw (mark_here m n x) here))
    | inr f ↦ (let ne : path_of w b ≢ path_of w n = not_same _ _ f in rw (mark_other m n b x (λ e. ne (ap (λ (y : Name). path_of w y) e)), others (path_of w b) ne) (h.named b isb))
  ];
  others = λ q out. others q (out n is) ∙ h.others q out;
}

there_put : (w : Wanted) → IsApart w → (m : Marking) (t : TreeMap) (n : Name) (l : Node) → IsName w.steps n → Has w m t → Has w (marked m n any) (fin.insert t (path_of w n) l)
there_put w a m t n l is has = has_set w a m t (fin.insert t (path_of w n) l) n any is has (λ e. some_not l (sym (get_put t (path_of w n) l) ∙ e)) (λ q ne. get_put_other t (path_of w n) l q ne)

pub has_torn : (w : Wanted) → IsApart w → (m : Marking) (t : TreeMap) (n : Name) (h : Node) (u : TreeMap) → IsName w.steps n → Has w m t → Leaves (change.Put (path_of w n) h) t u → Has w (marked m n any) u
has_torn w a m t n h u is has leaf_whole = there_put w a m t n h is has
has_torn w a m t n (node.File bytes mode) u is has (leaf_torn left bits) = there_put w a m t n (node.File left bits) is has

pub has_put : (w : Wanted) → IsApart w → (m : Marking) (t : TreeMap) (n : Name) → IsName w.steps n → Has w m t → Has w (marked m n whole) (fin.insert t (path_of w n) (w.node n))
has_put w a m t n is has = has_set w a m t (fin.insert t (path_of w n) (w.node n)) n whole is has (get_put t (path_of w n) (w.node n)) (λ q ne. get_put_other t (path_of w n) (w.node n) q ne)

pub has_taken : (w : Wanted) → IsApart w → (m : Marking) (t : TreeMap) (n : Name) → IsName w.steps n → Has w m t → Has w (marked m n absent) (fin.remove t (path_of w n))
has_taken w a m t n is has = has_set w a m t (fin.remove t (path_of w n)) n absent is has (get_taken t (path_of w n)) (λ q ne. get_taken_other t (path_of w n) q ne)

-- a whole node is moved
pub has_moved : (w : Wanted) → IsApart w → (m : Marking) (t : TreeMap) (a b : Name) → a ≢ b → IsName w.steps a → IsName w.steps b → w.node a ≡ w.node b → mark m a ≡ whole → Has w m t → Has w (marked (marked m b (mark m a)) a absent) (moved (path_of w a) (path_of w b) t)
unfolding moved
has_moved w apart m t a b ne isa isb same is has =
    let there : fin.get t (path_of w a) ≡ Some (w.node a) = rw is at (has.named a isa) in
    let u = fin.insert (fin.remove t (path_of w a)) (path_of w b) (w.node a) in
    let paths : path_of w a ≢ path_of w b = (λ e. ne (apart.apart a b isa isb e)) in
    let mid : Has w (marked m b whole) (fin.insert t (path_of w b) (w.node a)) = has_set w apart m t _ b whole isb has (get_put t (path_of w b) (w.node a) ∙ ap (λ (y : Node). Some y) same) (λ q qne. get_put_other t (path_of w b) (w.node a) q qne) in
    rw (is, there) (has_set w apart (marked m b whole) _ u a absent isa mid (get_put_other _ (path_of w b) (w.node a) (path_of w a) paths ∙ get_taken t (path_of w a)) (λ q qne. elim (same_path q (path_of w b)) [
      | inl e ↦ subst (λ (y : List ℕ). fin.get u y ≡ fin.get (fin.insert t (path_of w b) (w.node a)) y) (sym e) (get_put _ (path_of w b) (w.node a) ∙ sym (get_put t (path_of w b) (w.node a)))
      | inr f ↦ (let out : q ≢ path_of w b = not_same q (path_of w b) f in get_put_other _ (path_of w b) (w.node a) q out ∙ get_taken_other t (path_of w a) q qne ∙ sym (get_put_other t (path_of w b) (w.node a) q out))
    ]))
