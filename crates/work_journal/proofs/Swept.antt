-- A path of the work folder that is taken away: what the tree shows then.
use Rattle.std.proofs.Common.{ℕ, ◌≡◌, ◌≢◌, ◌<◌, ◌⊎◌, inl, inr, List, refl, sym, ◌∙◌, subst, Bool, true, cond, IsTrue}
use Rattle.std.specs.Prelude.{Option, None}
use Rattle.std.specs.Ordering.{nat_cmp, is_eq}
use Rattle.std.specs.Cmp.Lexicographic.{slice_cmp}
use Rattle.std.specs.FinMap as fin
use Rattle.std.proofs.lemmas.Bool.{cases_Bool}
use Rattle.file_tree.specs.declared.node.Node.{Node}
use Rattle.file_tree.specs.declared.call.Change.TheVariants as change
use Rattle.file_tree.specs.Trees.{TreeMap, is_below}
use Rattle.file_tree.specs.Images.{Leaves}
use Rattle.file_tree.specs.Images.Leaves.{whole as leaf_whole}
use Rattle.journal_core.specs.Table.{CoreState}
use Rattle.journal_core.specs.Names.{Name, plan_new, plan, temp, commit, fresh, final, target, IsName}
use Rattle.journal_core.specs.Marks.{Mark, Marking, mark, absent, is_loose, is_kept, is_any}
use Rattle.journal_core.specs.Shapes.{IsFinished, HasNothing}
use Rattle.journal_core.specs.Relation.{Shows, empty, proposed, settled, running, finishing, closing, closed, renewing}
use Rattle.work_journal.specs.Wanted.{Wanted, path_of, MarkHas, Has, IsWork}
use Rattle.work_journal.specs.Keeps.{Agrees, MaySweep, early, late}
use Rattle.work_journal.proofs.Changes.{same_path, not_same, here_eq, get_taken, get_taken_other}

-- a mark, where the path is taken away
abbrev taken_mark : List ℕ → List ℕ → Mark → Mark
taken_mark q p x = cond (is_eq (slice_cmp nat_cmp p q)) absent x

-- the marking where the path is taken away: each name of the work folder that stands there is gone
abbrev swept : Wanted → Marking → List ℕ → Marking
swept w m q = record {
  plan_new = taken_mark q (path_of w plan_new) m.plan_new;
  plan = taken_mark q (path_of w plan) m.plan;
  temp = m.temp;
  commit = λ j. taken_mark q (path_of w (commit j)) (m.commit j);
  fresh = m.fresh;
  final = m.final;
  target = m.target;
}

taken_loose : (q p : List ℕ) (x : Mark) → IsTrue (is_loose x) → IsTrue (is_loose (taken_mark q p x))
taken_loose q p x h = elim (cases_Bool (is_eq (slice_cmp nat_cmp p q))) [
  | inl y ↦ rw y refl
  | inr n ↦ rw n h
]

taken_kept : (q p : List ℕ) (x : Mark) → IsTrue (is_kept x) → IsTrue (is_kept (taken_mark q p x))
taken_kept q p x h = elim (cases_Bool (is_eq (slice_cmp nat_cmp p q))) [
  | inl y ↦ rw y refl
  | inr n ↦ rw n h
]

taken_absent : (q p : List ℕ) (x : Mark) → x ≡ absent → taken_mark q p x ≡ absent
taken_absent q p x e = elim (cases_Bool (is_eq (slice_cmp nat_cmp p q))) [
  | inl y ↦ rw y refl
  | inr n ↦ rw n e
]

-- what stands at a name
taken_has : (t : TreeMap) (q p : List ℕ) (x : Mark) (was : Option Node) (node : Node) (old : Option Node) → MarkHas x was node old (fin.get t p) → MarkHas (taken_mark q p x) was node old (fin.get (fin.remove t q) p)
taken_has t q p x was node old h = elim (same_path p q) [
  | inl e ↦ subst (λ (y : List ℕ). MarkHas (taken_mark q y x) was node old (fin.get (fin.remove t q) y)) (sym e) (rw (here q) (get_taken t q))
  | inr f ↦ rw (f, get_taken_other t q p (not_same p q f)) h
]
  where
    here : (y : List ℕ) → is_eq (slice_cmp nat_cmp y y) ≡ true
    here y = elim (same_path y y) [ inl e ↦ here_eq y | inr f ↦ absurd (not_same y y f refl) ]

other_has : (t : TreeMap) (q p : List ℕ) (x : Mark) (was : Option Node) (node : Node) (old : Option Node) → p ≢ q → MarkHas x was node old (fin.get t p) → MarkHas x was node old (fin.get (fin.remove t q) p)
other_has t q p x was node old ne h = rw (get_taken_other t q p ne) h

gone_has : (t : TreeMap) (q p : List ℕ) (x : Mark) (was : Option Node) (node : Node) (old : Option Node) → x ≡ absent → MarkHas x was node old (fin.get t p) → MarkHas x was node old (fin.get (fin.remove t q) p)
gone_has t q p x was node old e h = rw e (elim (same_path p q) [
  | inl s ↦ subst (λ (y : List ℕ). fin.get (fin.remove t q) y ≡ None) (sym s) (get_taken t q)
  | inr f ↦ get_taken_other t q p (not_same p q f) ∙ (rw e at h)
])

-- a sweep of a marking whose temporary names and new texts are gone
pub record Clean (w : Wanted) (m : Marking) (q : List ℕ) : Type 0 where
  temps : (j k : ℕ) → IsName w.steps (temp j k) → m.temp j k ≡ absent
  news : (i : ℕ) → i < 4 → m.fresh i ≡ absent
  ends : (i : ℕ) → i < 4 → (m.final i ≡ absent) ⊎ (path_of w (final i) ≢ q)
  targets : (j k : ℕ) → IsName w.steps (target j k) → path_of w (target j k) ≢ q
  before : fin.get w.start q ≡ None

has_swept : (w : Wanted) (m : Marking) (t : TreeMap) (q : List ℕ) → Clean w m q → Has w m t → Has w (swept w m q) (fin.remove t q)
has_swept w m t q clean h = record { named = named; others = others }
  where
    named : (n : Name) → IsName w.steps n → MarkHas (mark (swept w m q) n) (fin.get w.start (path_of w n)) (w.node n) (w.older n) (fin.get (fin.remove t q) (path_of w n))
    named plan_new is = taken_has t q (path_of w plan_new) m.plan_new _ _ _ (h.named plan_new is)
    named plan is = taken_has t q (path_of w plan) m.plan _ _ _ (h.named plan is)
    named (temp j k) is = gone_has t q (path_of w (temp j k)) (m.temp j k) _ _ _ (clean.temps j k is) (h.named (temp j k) is)
    named (commit j) is = taken_has t q (path_of w (commit j)) (m.commit j) _ _ _ (h.named (commit j) is)
    named (fresh i) is = gone_has t q (path_of w (fresh i)) (m.fresh i) _ _ _ (clean.news i is) (h.named (fresh i) is)
    named (final i) is = elim (clean.ends i is) [
      | inl e ↦ gone_has t q (path_of w (final i)) (m.final i) _ _ _ e (h.named (final i) is)
      | inr ne ↦ other_has t q (path_of w (final i)) (m.final i) _ _ _ ne (h.named (final i) is)
    ]
    named (target j k) is = other_has t q (path_of w (target j k)) (m.target j k) _ _ _ (clean.targets j k is) (h.named (target j k) is)

    others : (p : List ℕ) → ((n : Name) → IsName w.steps n → p ≢ path_of w n) → fin.get (fin.remove t q) p ≡ fin.get w.start p
    others p out = elim (same_path p q) [
      | inl e ↦ subst (λ (y : List ℕ). fin.get (fin.remove t q) y ≡ fin.get w.start y) (sym e) (get_taken t q ∙ sym clean.before)
      | inr f ↦ get_taken_other t q p (not_same p q f) ∙ h.others p out
    ]

nothing_swept : (w : Wanted) (m : Marking) (q : List ℕ) → HasNothing w.steps m → HasNothing w.steps (swept w m q)
nothing_swept w m q h = record {
  plan = taken_absent q (path_of w plan) m.plan h.plan;
  temp = h.temp;
  commit = λ j l. taken_absent q (path_of w (commit j)) (m.commit j) (h.commit j l);
  fresh = h.fresh;
  final = h.final;
  target = h.target;
}

finished_swept : (w : Wanted) (m : Marking) (q : List ℕ) → IsFinished w.steps m → IsFinished w.steps (swept w m q)
finished_swept w m q h = record {
  plan_new = taken_absent q (path_of w plan_new) m.plan_new h.plan_new;
  plan = taken_kept q (path_of w plan) m.plan h.plan;
  temp = h.temp;
  commit = λ j l. taken_loose q (path_of w (commit j)) (m.commit j) (h.commit j l);
  fresh = h.fresh;
  final = h.final;
  target = h.target;
}

outside : (w : Wanted) (q : List ℕ) → IsWork w → IsTrue (is_below w.work q) → (j k : ℕ) → IsName w.steps (target j k) → path_of w (target j k) ≢ q
outside w q is below j k st e = is.outside j k st (subst (λ (y : List ℕ). IsTrue (is_below w.work y)) (sym e) below)

pub agrees_swept : (p : Mark → Bool) (w : Wanted) → IsWork w → (c : CoreState) (q : List ℕ) → MaySweep w.work c q → (t : TreeMap) → Agrees w p c t → Agrees w p c (fin.remove t q)
agrees_swept p w is c q may t s = go c may s.shows
  where
    go : (d : CoreState) → MaySweep w.work d q → Shows p w.steps d s.marking → Agrees w p d (fin.remove t q)
    go d (early ph below) (empty h l) = record {
      marking = swept w s.marking q;
      shows = empty (record { same_length = h.same_length; none_begun = h.none_begun; rest = nothing_swept w s.marking q h.rest }) (taken_loose q (path_of w plan_new) s.marking.plan_new l);
      has = has_swept w s.marking t q (record { temps = h.rest.temp; news = h.rest.fresh; ends = λ i k. inl (h.rest.final i k); targets = outside w q is below; before = is.clean q below }) s.has;
    }
    go d (early ph below) (proposed h l) = absurd (cc)
    go d (early ph below) (settled h l) = absurd (cc)
    go d (early ph below) (running h) = absurd (cc)
    go d (early ph below) (finishing h) = absurd (cc)
    go d (early ph below) (closing h) = absurd (cc)
    go d (early ph below) (closed e h) = absurd (cc)
    go d (early ph below) (renewing e h l q) = absurd (cc)
    go d (late ph below apart) (empty h l) = absurd (cc)
    go d (late ph below apart) (proposed h l) = absurd (cc)
    go d (late ph below apart) (settled h l) = absurd (cc)
    go d (late ph below apart) (running h) = absurd (cc)
    go d (late ph below apart) (finishing h) = absurd (cc)
    go d (late ph below apart) (closing h) = absurd (cc)
    go d (late ph below apart) (closed e h) = record {
      marking = swept w s.marking q;
      shows = closed e (finished_swept w s.marking q h);
      has = has_swept w s.marking t q (record { temps = h.temp; news = h.fresh; ends = λ i k. inr (λ x. apart i k (sym x)); targets = outside w q is below; before = is.clean q below }) s.has;
    }
    go d (late ph below apart) (renewing e h l q) = absurd (cc)

pub swept_left : (w : Wanted) → IsWork w → (c : CoreState) (q : List ℕ) → MaySweep w.work c q → (t u : TreeMap)
    → Agrees w is_any c t → Leaves (change.Take q) t u → Agrees w is_any c u
swept_left w is c q may t u agrees leaf_whole = agrees_swept is_any w is c q may t agrees
