-- A whole start of a run, whatever it makes: what it finds, once the tree is settled, is known by the names in the work folder, and at every
-- moment from its first call to its last a stop leaves the run partway.
use Rattle.std.proofs.Common.{◌≡◌, ◌≢◌, ℕ, Bool, true, false, ◌&&◌, List, length, nat_eq, bytes_eq, get_or, refl, sym, ap, subst, ◌∙◌, eqb-true, eq-eqb, arith, Result}
use Rattle.std.specs.Prelude.{Option, Some, None, is_some, IsTrue}
use Rattle.std.specs.FinMap as fin
use Rattle.dw_base.proofs.TextLaws.{same_text-true, same_text-refl}
use Rattle.file_tree.specs.declared.call.Call.TheVariants as call
use Rattle.file_tree.specs.declared.call.Effect.TheVariants as effect
use Rattle.file_tree.specs.declared.node.Node.{Node}
use Rattle.file_tree.specs.declared.node.Node.TheVariants as node
use Rattle.file_tree.specs.Trees.{TreeMap, is_below}
use Rattle.file_tree.specs.Seen.{Seen, Past, adds, map_now}
use Rattle.file_tree.specs.Images.{Images, LeavesOnly, state_of, settled_state}
use Rattle.file_tree.specs.Moments.{LooksOnly}
use Rattle.file_tree.proofs.ImageLaws.{image_now}
use Rattle.file_tree.proofs.MomentLaws.{spans_join}
use Rattle.journal_core.specs.Names.{Name, IsName, plan_new, plan, temp, commit, fresh, final, target}
use Rattle.journal_core.specs.Marks.{Mark, Marking, absent, first, whole, any, earlier, is_own, is_earlier}
use Rattle.journal_core.specs.Shapes.{HasShape, IsUnplanned}
use Rattle.journal_core.specs.Shapes.{HasShape as shape}
use Rattle.journal_core.specs.Starts.{shown_states}
use Rattle.journal_core.specs.Table.{CoreState, new_core, resumed_core}
use Rattle.work_texts.specs.declared.journal_err.JournalErr.{JournalErr}
use Rattle.work_journal.specs.Finishing.{FinishRan}
use Rattle.work_journal.specs.Keeps.{Keeps}
use Rattle.work_journal.specs.Laws.{ArePresent}
use Rattle.work_journal.specs.Runs.{IsGiven}
use Rattle.work_journal.specs.Wanted.{Wanted, IsPartway, Has, MarkHas, path_of}
use Rattle.work_journal.specs.Work.{work_path, has_path, presence}
use Rattle.work_journal.proofs.ApartLaws.{same_text}
use Rattle.work_journal.proofs.SpareLaws.{is_work_path}
use Rattle.root_run.specs.Begun.{Begun as begun}
use Rattle.root_run.specs.Partways.{IsUnstarted, IsPartwayBy}
use Rattle.root_run.specs.Partways.{IsPartwayBy as way}
use Rattle.root_run.proofs.BegunLaws.{begun_leaves, settled_stored}
use Rattle.root_run.proofs.WaysLaws.{found_plan, over_core, new-keeps, resumed-keeps, over-keeps, run-leaves}

-- ### Nodes that aren't two

node_same : Node → Node → Bool
node_same (node.File a m) (node.File b n) = bytes_eq a b && nat_eq m n
node_same (node.File a m) (node.Link b) = false
node_same (node.Link a) (node.File b n) = false
node_same (node.Link a) (node.Link b) = bytes_eq a b

entry_same : Option Node → Option Node → Bool
entry_same None None = true
entry_same None (Some y) = false
entry_same (Some x) None = false
entry_same (Some x) (Some y) = node_same x y

both-left : (a b : Bool) → (a && b) ≡ true → a ≡ true
both-left true b e = refl
both-left false b e = cc

both-right : (a b : Bool) → (a && b) ≡ true → b ≡ true
both-right true b e = e
both-right false b e = cc

both-true : (a b : Bool) → a ≡ true → b ≡ true → (a && b) ≡ true
both-true true b e f = f
both-true false b e f = e

node-is : (x y : Node) → node_same x y ≡ true → x ≡ y
unfolding node_same
node-is (node.File a m) (node.File b n) e =
    ap (λ (x : List ℕ). node.File x m) (same_text-true a b (both-left (bytes_eq a b) (nat_eq m n) e)) ∙ ap (λ (k : ℕ). node.File b k) (eqb-true m n (both-right (bytes_eq a b) (nat_eq m n) e))
node-is (node.File a m) (node.Link b) e = cc
node-is (node.Link a) (node.File b n) e = cc
node-is (node.Link a) (node.Link b) e = ap (λ (x : List ℕ). node.Link x) (same_text-true a b e)

entry-is : (a b : Option Node) → entry_same a b ≡ true → a ≡ b
unfolding entry_same
entry-is None None e = refl
entry-is None (Some y) e = cc
entry-is (Some x) None e = cc
entry-is (Some x) (Some y) e = ap (λ (n : Node). Some n) (node-is x y e)

node-own : (x : Node) → node_same x x ≡ true
unfolding node_same
node-own (node.File a m) = both-true (bytes_eq a a) (nat_eq m m) (same_text-refl a) (eq-eqb m m refl)
node-own (node.Link a) = same_text-refl a

entry-own : (a : Option Node) → entry_same a a ≡ true
unfolding entry_same
entry-own None = refl
entry-own (Some x) = node-own x

no-both : (b : Bool) → b ≡ true → b ≡ false → ⊥
no-both true e f = cc
no-both false e f = cc

-- two that can't differ are one
one-by : (a b : Option Node) (t : Bool) → entry_same a b ≡ t → ((a ≡ b → ⊥) → ⊥) → a ≡ b
one-by a b true e never = entry-is a b e
one-by a b false e never = absurd (never (λ same. no-both (entry_same a b) (subst (λ (x : Option Node). entry_same a x ≡ true) same (entry-own a)) e))

one-entry : (a b : Option Node) → ((a ≡ b → ⊥) → ⊥) → a ≡ b
one-entry a b never = one-by a b (entry_same a b) refl never

-- ### A tree without a plan

absent-has : (x : Mark) (was : Option Node) (n : Node) (older o : Option Node) → x ≡ absent → MarkHas x was n older o → o ≡ None
absent-has x was n older o e has = subst (λ (y : Mark). MarkHas y was n older o) e has

first-has : (x : Mark) (was : Option Node) (n : Node) (older o : Option Node) → x ≡ first → MarkHas x was n older o → o ≡ was
first-has x was n older o e has = subst (λ (y : Mark). MarkHas y was n older o) e has

none-some : (n : Node) (o : Option Node) → o ≡ Some n → o ≢ None
none-some n o e f = absurd-some (sym e ∙ f)
  where
    absurd-some : Some n ≡ None → ⊥
    absurd-some g = cc

-- the run's own content is there, whichever program wrote it
own-has : (x : Mark) (was : Option Node) (n : Node) (older o : Option Node) → IsTrue (is_own x) → MarkHas x was n older o → o ≢ None
own-has absent was n older o e has = cc
own-has first was n older o e has = cc
own-has whole was n older o e has = none-some n o has
own-has any was n older o e has = cc
own-has earlier was n older o e has = has.some

whole-own : (x : Mark) → x ≡ whole → IsTrue (is_own x)
whole-own x e = rw e refl

earlier-own : (x : Mark) → x ≡ earlier → IsTrue (is_own x)
earlier-own x e = rw e refl

module _ (w : Wanted) (given : IsGiven w w.work) (t : TreeMap) where
  gone : (n : Name) (x : Mark) → IsTrue (is_below w.work (path_of w n)) → x ≡ absent → MarkHas x (fin.get w.start (path_of w n)) (w.node n) (w.older n) (fin.get t (path_of w n))
      → fin.get t (path_of w n) ≡ fin.get w.start (path_of w n)
  gone n x below e has = absent-has x (fin.get w.start (path_of w n)) (w.node n) (w.older n) (fin.get t (path_of w n)) e has ∙ sym (given.is_work.clean (path_of w n) below)

  module _ (m : Marking) (h : IsUnplanned w.steps m) (has : Has w m t) where
    name-same : (n : Name) → IsName w.steps n → path_of w n ≢ work_path w.work plan_new → fin.get t (path_of w n) ≡ fin.get w.start (path_of w n)
    name-same plan_new is other = absurd (other refl)
    name-same plan is other = gone plan m.plan (is_work_path w.work plan) h.rest.plan (has.named plan is)
    name-same (temp j k) is other = gone (temp j k) (m.temp j k) (is_work_path w.work (temp j k)) (h.rest.temp j k is) (has.named (temp j k) is)
    name-same (commit j) is other = gone (commit j) (m.commit j) (is_work_path w.work (commit j)) (h.rest.commit j is) (has.named (commit j) is)
    name-same (fresh i) is other = gone (fresh i) (m.fresh i) (is_work_path w.work (fresh i)) (h.rest.fresh i is) (has.named (fresh i) is)
    name-same (final i) is other = gone (final i) (m.final i) (is_work_path w.work (final i)) (h.rest.final i is) (has.named (final i) is)
    name-same (target j k) is other =
        first-has (m.target j k) (fin.get w.start (path_of w (target j k))) (w.node (target j k)) (w.older (target j k)) (fin.get t (path_of w (target j k))) (h.rest.target j k is) (has.named (target j k) is)

    unplanned-same : (q : List ℕ) → q ≢ work_path w.work plan_new → fin.get t q ≡ fin.get w.start q
    unplanned-same q other = one-entry (fin.get t q) (fin.get w.start q) (λ differ. differ (has.others q (λ n is e. differ (subst (λ (x : List ℕ). fin.get t x ≡ fin.get w.start x) (sym e)
        (name-same n is (λ f. other (e ∙ f)))))))

  own-there : (n : Name) (x : Mark) → IsTrue (is_own x) → MarkHas x (fin.get w.start (path_of w n)) (w.node n) (w.older n) (fin.get t (path_of w n)) → fin.get t (path_of w n) ≢ None
  own-there n x own has = own-has x (fin.get w.start (path_of w n)) (w.node n) (w.older n) (fin.get t (path_of w n)) own has

  shape-unstarted : (m : Marking) → HasShape w.steps m → Has w m t → fin.get t (work_path w.work plan) ≡ None → fin.get t (work_path w.work (final 3)) ≡ None → IsUnstarted w.start w.work t
  shape-unstarted m (shape.unplanned h) has none other = record { others = unplanned-same m h has }
  shape-unstarted m (shape.underway h) has none other = absurd (own-there plan m.plan h.plan (has.named plan tt) none)
  shape-unstarted m (shape.finished h) has none other = absurd (own-there (final 3) (m.final 3) (whole-own (m.final 3) (h.final 3 (omega arith))) (has.named (final 3) (omega arith)) other)
  shape-unstarted m (shape.old h) has none other = absurd (own-there (final 3) (m.final 3) (earlier-own (m.final 3) h.finished) (has.named (final 3) (omega arith)) other)

  -- a tree partway that has neither a plan nor a finished text isn't planned yet
  pub unstarted : IsPartway w t → fin.get t (work_path w.work plan) ≡ None → fin.get t (work_path w.work (final 3)) ≡ None → IsUnstarted w.start w.work t
  unstarted p none other = shape-unstarted p.marking p.shape p.has none other

-- ### Names in the work folder

-- of the names of the work folder, these paths have those that the tree has
pub record HasNames (work : List ℕ) (t : TreeMap) (paths : List (List ℕ)) : Type 0 where
  pub named : (n : Name) → has_path paths (work_path work n) ≡ is_some (fin.get t (work_path work n))

pub plan-other : (work : List ℕ) → work_path work plan ≢ work_path work plan_new
plan-other work e = let sizes : ◌≡◌ {A = ℕ} 4 8 = ap (λ (t : List ℕ). length t) (same_text work plan plan_new e) in omega (arith, sizes)

pub finished-other : (work : List ℕ) → work_path work (final 3) ≢ work_path work plan_new
finished-other work e = let firsts : ◌≡◌ {A = ℕ} 102 112 = ap (λ (t : List ℕ). get_or t 0 0) (same_text work (final 3) plan_new e) in omega (arith, firsts)

none-there : (o : Option Node) → is_some o ≡ false → o ≡ None
none-there None e = refl
none-there (Some n) e = cc

module _ (start : TreeMap) (work : List ℕ) (may : Wanted → Type 0) (clean : (q : List ℕ) → IsTrue (is_below work q) → fin.get start q ≡ None)
    (fits : (w : Wanted) → may w → IsGiven w work) (starts : (w : Wanted) → may w → w.start ≡ start) where
  own-given : (w : Wanted) → may w → IsGiven w w.work
  own-given w is = record { work_is = refl; apart = (fits w is).apart; is_work = (fits w is).is_work }

  present-of : (w : Wanted) → may w → (t : TreeMap) (paths : List (List ℕ)) → HasNames work t paths → ArePresent w t paths
  present-of w is t paths names =
      record { named = λ x in_. subst (λ (k : List ℕ). has_path paths (work_path k x) ≡ is_some (fin.get t (work_path k x))) (sym (fits w is).work_is) (names.named x) }

  -- ### What a start finds

  -- files that are wanted, for which this core agrees with the tree
  pub record Found (core : Wanted → CoreState) (mid : Seen) : Type 0 where
    pub w : Wanted
    pub is : may w
    pub partway : IsPartway w (map_now mid.past)
    pub keeps : Keeps w (core w) (state_of mid.past)

  module _ (mid : Seen) (paths : List (List ℕ)) (partway : IsPartwayBy start work may (map_now mid.past)) (settled : state_of mid.past ≡ settled_state (map_now mid.past))
      (names : HasNames work (map_now mid.past) paths) where
    has-own : (w : Wanted) → may w → (n : Name) (b : Bool) → has_path paths (work_path work n) ≡ b → has_path paths (work_path w.work n) ≡ b
    has-own w is n b e = subst (λ (k : List ℕ). has_path paths (work_path k n) ≡ b) (sym (fits w is).work_is) e

    -- a finished text: the run is over, by whether an earlier program wrote it
    pub way-finished : (old : Bool) → ((w : Wanted) → may w → (p : IsPartway w (map_now mid.past)) → is_earlier (p.marking.final 3) ≡ old)
        → has_path paths (work_path work (final 3)) ≡ true → Found (λ w. over_core old) mid
    way-finished old olds has =
        let f = found_plan start work may (map_now mid.past) (final 3) clean (finished-other work) (sym (names.named (final 3)) ∙ has) partway in
        record {
          w = f.w;
          is = f.is;
          partway = f.partway;
          keeps = over-keeps f.w (own-given f.w f.is) mid paths f.partway old (olds f.w f.is f.partway) settled (present-of f.w f.is (map_now mid.past) paths names) (has-own f.w f.is (final 3) true has);
        }

    -- a plan: the run goes on where it was
    pub way-resumed : has_path paths (work_path work (final 3)) ≡ false → has_path paths (work_path work plan) ≡ true
        → Found (λ w. resumed_core w.steps (shown_states w.steps (presence false work paths))) mid
    way-resumed none has =
        let f = found_plan start work may (map_now mid.past) plan clean (plan-other work) (sym (names.named plan) ∙ has) partway in
        record {
          w = f.w;
          is = f.is;
          partway = f.partway;
          keeps = subst (λ (k : List ℕ). Keeps f.w (resumed_core f.w.steps (shown_states f.w.steps (presence false k paths))) (state_of mid.past)) (fits f.w f.is).work_is
              (resumed-keeps f.w (own-given f.w f.is) mid paths f.partway settled (present-of f.w f.is (map_now mid.past) paths names) (has-own f.w f.is (final 3) false none) (has-own f.w f.is plan true has));
        }

    unstarted-by : fin.get (map_now mid.past) (work_path work plan) ≡ None → fin.get (map_now mid.past) (work_path work (final 3)) ≡ None → IsPartwayBy start work may (map_now mid.past)
        → IsUnstarted start work (map_now mid.past)
    unstarted-by none other (way.unplanned u) = u
    unstarted-by none other (way.planned w is p) =
        let same : w.work ≡ work = (fits w is).work_is in
        subst (λ (s : TreeMap). IsUnstarted s work (map_now mid.past)) (starts w is)
        (subst (λ (k : List ℕ). IsUnstarted w.start k (map_now mid.past)) same
        (unstarted w (own-given w is) (map_now mid.past) p
        (subst (λ (k : List ℕ). fin.get (map_now mid.past) (work_path k plan) ≡ None) (sym same) none)
        (subst (λ (k : List ℕ). fin.get (map_now mid.past) (work_path k (final 3)) ≡ None) (sym same) other)))

    -- neither: the run isn't planned yet
    pub way-unstarted : has_path paths (work_path work (final 3)) ≡ false → has_path paths (work_path work plan) ≡ false → IsUnstarted start work (map_now mid.past)
    way-unstarted none other =
        unstarted-by (none-there (fin.get (map_now mid.past) (work_path work plan)) (sym (names.named plan) ∙ other))
        (none-there (fin.get (map_now mid.past) (work_path work (final 3))) (sym (names.named (final 3)) ∙ none)) partway

    -- and begins anew by any plan
    pub way-fresh : (w : Wanted) → may w → has_path paths (work_path work (final 3)) ≡ false → has_path paths (work_path work plan) ≡ false → Keeps w (new_core w.steps) (state_of mid.past)
    way-fresh w is none other =
        new-keeps w (own-given w is) mid paths
        (subst (λ (s : TreeMap). IsUnstarted s w.work (map_now mid.past)) (sym (starts w is))
        (subst (λ (k : List ℕ). IsUnstarted start k (map_now mid.past)) (sym (fits w is).work_is) (way-unstarted none other)))
        settled (present-of w is (map_now mid.past) paths names) (has-own w is (final 3) false none) (has-own w is plan false other)

  -- ### A whole start

  -- once it is settled, the tree is as it was, and partway
  pub settled-partway : (old first_ mid : Past) → Images (IsPartwayBy start work may) (state_of old) → first_ ≡ adds old call.Settle effect.Settled → LooksOnly first_ mid
      → IsPartwayBy start work may (map_now mid)
  settled-partway old first_ mid images e l =
      subst (IsPartwayBy start work may) (sym (settled_stored old first_ mid e l).0) (images.each (map_now old) (image_now old))

  -- whatever it answers, at every moment of it a stop leaves the run partway
  pub start-leaves : {A : Type 0} (runs : Wanted → Type 0) (w : Wanted) (n : ℕ) (hits : List ℕ → Type 0) (c : CoreState) (old first_ : Past) (mid new : Seen) (r : Result A JournalErr)
      → Images (IsPartwayBy start work may) (state_of old) → first_ ≡ adds old call.Settle effect.Settled → LooksOnly first_ mid.past → may w → runs w → mid.tells ≡ true
      → Keeps w c (state_of mid.past) → FinishRan hits n work runs c mid new r → LeavesOnly (IsPartwayBy start work may) old new.past
  start-leaves runs w n hits c old first_ mid new r images e l is run tells keeps ran =
      spans_join (IsPartwayBy start work may) old mid.past new.past (begun_leaves (IsPartwayBy start work may) old mid.past images (begun.settled_first e l))
      (run-leaves start work may runs w n hits c mid new r is run (fits w is) tells keeps ran)
