-- The plan of a root with the leavings of an earlier start in its work folder is a plan of the root before the run.
use Rattle.std.proofs.Common.{◌≡◌, ◌≤◌, ◌+◌, ℕ, zero, suc, Bool, true, false, not, cond, List, [], ◌∷◌, map, refl, sym, ap, subst, ◌∙◌, arith}
use Rattle.std.specs.Prelude.{Option, Some, None, Contains, ◌&&◌, count_by}
use Rattle.std.specs.List.{filter}
use Rattle.std.specs.Ordering.{nat_cmp}
use Rattle.std.specs.declared.cmp.Ordering.TheVariants.{Equal}
use Rattle.std.specs.Cmp.Lexicographic.{slice_cmp, nat_list_cmp_total}
use Rattle.std.specs.FinMap as fin
use Rattle.std.specs.FinMap.Entries as entry
use Rattle.std.proofs.lemmas.List.Sums.{sum_by-cons}
use Rattle.std.proofs.lemmas.List.Recursion.{is_count_by}
use Rattle.std.specs.FinMap.{slice_cmp-IsAntisymmetric, nat_cmp-IsAntisymmetric}
use Rattle.dw_base.specs.declared.fault.Refusal.{Refusal}
use Rattle.file_tree.specs.declared.node.Node.{Node}
use Rattle.file_tree.specs.Trees.{TreeMap, is_below, keys_below}
use Rattle.file_tree.specs.Causes.{AreInOrder}
use Rattle.job_types.specs.Settings.{Settings}
use Rattle.work_texts.specs.declared.plan.PlanData.{PlanData}
use Rattle.root_plan.specs.Roots.{may_be_candidate, is_outside, debug_folder}
use Rattle.root_plan.specs.Targets.{new_paths}
use Rattle.root_plan.specs.Verdicts.{JudgeView}
use Rattle.root_plan.specs.Plans.{IsRunPlan, IsTaken, skipping}
use Rattle.root_plan.specs.Plans.{IsTaken as taken}
use Rattle.root_run.proofs.MovedLaws.{tallies-move}

-- ### Lists

swap-by : {A : Type 0} (p q : A → Bool) (x : A) (xs : List A) (a b : Bool) → p x ≡ a → q x ≡ b → filter p (filter q xs) ≡ filter q (filter p xs)
    → filter p (cond b (x ∷ filter q xs) (filter q xs)) ≡ filter q (cond a (x ∷ filter p xs) (filter p xs))
swap-by {A} p q x xs true true e f h =
    ap (λ (t : Bool). cond t (x ∷ filter p (filter q xs)) (filter p (filter q xs))) e ∙ ap (λ (ys : List A). x ∷ ys) h
    ∙ sym (ap (λ (t : Bool). cond t (x ∷ filter q (filter p xs)) (filter q (filter p xs))) f)
swap-by p q x xs true false e f h = h ∙ sym (ap (λ (t : Bool). cond t (x ∷ filter q (filter p xs)) (filter q (filter p xs))) f)
swap-by p q x xs false true e f h = ap (λ (t : Bool). cond t (x ∷ filter p (filter q xs)) (filter p (filter q xs))) e ∙ h
swap-by p q x xs false false e f h = h

filter-swap : {A : Type 0} (p q : A → Bool) (xs : List A) → filter p (filter q xs) ≡ filter q (filter p xs)
filter-swap p q [] = refl
filter-swap p q (x ∷ xs) = swap-by p q x xs (p x) (q x) refl refl (filter-swap p q xs)

map-filter : (p : List ℕ → Bool) (es : List (List ℕ × Node)) → map (λ (e : List ℕ × Node). e.0) (filter (λ (e : List ℕ × Node). p e.0) es) ≡ filter p (map (λ (e : List ℕ × Node). e.0) es)
map-filter p [] = refl
map-filter p (e ∷ es) = by-test (p e.0) (map-filter p es)
  where
    by-test : (b : Bool) → map (λ (e : List ℕ × Node). e.0) (filter (λ (e : List ℕ × Node). p e.0) es) ≡ filter p (map (λ (e : List ℕ × Node). e.0) es)
        → map (λ (e : List ℕ × Node). e.0) (cond b (e ∷ filter (λ (e : List ℕ × Node). p e.0) es) (filter (λ (e : List ℕ × Node). p e.0) es)) ≡ cond b (e.0 ∷ filter p (map (λ (e : List ℕ × Node). e.0) es)) (filter p (map (λ (e : List ℕ × Node). e.0) es))
    by-test true h = ap (λ (ks : List (List ℕ)). e.0 ∷ ks) h
    by-test false h = h

contains-more : {A : Type 0} (y x : A) (xs : List A) → Contains xs x → Contains (y ∷ xs) x
contains-more y x xs c = (suc c.0, omega (arith, c.1), c.2)

contains-by : {A : Type 0} (x y : A) (b : Bool) (zs ys : List A) → (Contains zs x → Contains ys x) → Contains (cond b (y ∷ zs) zs) x → Contains (y ∷ ys) x
contains-by x y false zs ys f c = contains-more y x ys (f c)
contains-by x y true zs ys f (zero, l, e) = (zero, omega arith, e)
contains-by x y true zs ys f (suc k, l, e) = contains-more y x ys (f (k, omega (arith, l), e))

contains-filter : {A : Type 0} (p : A → Bool) (xs : List A) (x : A) → Contains (filter p xs) x → Contains xs x
contains-filter p [] x c = c
contains-filter p (y ∷ ys) x c = contains-by x y (p y) (filter p ys) ys (contains-filter p ys x) c

count-kept : {A : Type 0} (p : A → Bool) (y : A) (fs : List A) (b : Bool) → p y ≡ b → count_by p (cond b (y ∷ fs) fs) ≡ cond b (1 + count_by p fs) (count_by p fs)
count-kept p y fs true e = sum_by-cons (λ x. cond (p x) 1 0) y fs ∙ ap (λ (t : Bool). cond t 1 0 + count_by p fs) e
count-kept p y fs false e = refl

pub count-filter : {A : Type 0} (p : A → Bool) (xs : List A) → count_by p (filter p xs) ≡ count_by p xs
count-filter {A} p xs = is_count_by (λ (ys : List A). count_by p (filter p ys)) p refl (λ y ys. count-kept p y (filter p ys) (p y) refl ∙ ap (λ (t : Bool). cond t (1 + count_by p (filter p ys)) (count_by p (filter p ys))) refl) xs

-- ### Keys

abbrev kept-entries : (m : TreeMap) (p : List ℕ → Bool) → List (List ℕ × Node)
kept-entries m p = entry.where_key (slice_cmp nat_cmp) p (fin.entries m)

abbrev kept-map : (m : TreeMap) (p : List ℕ → Bool) → TreeMap
kept-map m p = fin.from_sorted (kept-entries m p)

kept-keys : (m : TreeMap) (p : List ℕ → Bool) → fin.keys (kept-map m p) ≡ filter p (fin.keys m)
kept-keys m p = ap (λ (es : List (List ℕ × Node)). map (λ (e : List ℕ × Node). e.0) es)
    (fin.entries-from_sorted (slice_cmp nat_cmp) (kept-entries m p) (entry.is_sorted-where_key (slice_cmp nat_cmp) p (fin.entries m) (fin.entries_sorted m)))
    ∙ map-filter p (fin.entries m)

same-key : (p : List ℕ → Bool) (q x : List ℕ) → slice_cmp nat_cmp q x ≡ Equal → p x ≡ p q
same-key p q x e = sym (ap p (slice_cmp-IsAntisymmetric nat_cmp-IsAntisymmetric q x e))

kept-get : (m : TreeMap) (p : List ℕ → Bool) (q : List ℕ) → fin.get (kept-map m p) q ≡ cond (p q) (fin.get m q) None
kept-get m p q = fin.get-from_sorted (slice_cmp nat_cmp) (kept-entries m p) q (entry.is_sorted-where_key (slice_cmp nat_cmp) p (fin.entries m) (fin.entries_sorted m))
    ∙ entry.find-where_key (slice_cmp nat_cmp) p q (same-key p q) (fin.entries m)
    ∙ ap (λ (o : Option Node). cond (p q) o None) (sym (fin.get-entries m q))

by-kept : (m n : TreeMap) (p : List ℕ → Bool) (q : List ℕ) (b : Bool) → p q ≡ b → (p q ≡ true → fin.get n q ≡ fin.get m q) → (p q ≡ false → fin.get n q ≡ None)
    → fin.get n q ≡ cond (p q) (fin.get m q) None
by-kept m n p q true e same none = same e ∙ ap (λ (t : Bool). cond t (fin.get m q) None) (sym e)
by-kept m n p q false e same none = none e ∙ ap (λ (t : Bool). cond t (fin.get m q) None) (sym e)

kept-is : (m n : TreeMap) (p : List ℕ → Bool) → ((q : List ℕ) → p q ≡ true → fin.get n q ≡ fin.get m q) → ((q : List ℕ) → p q ≡ false → fin.get n q ≡ None) → n ≡ kept-map m p
kept-is m n p same none = fin.same_map nat_list_cmp_total (slice_cmp-IsAntisymmetric nat_cmp-IsAntisymmetric) n (kept-map m p)
    (λ q. by-kept m n p q (p q) refl (same q) (none q) ∙ sym (kept-get m p q))

pub keys-before : (m n : TreeMap) (root : List ℕ) → ((q : List ℕ) → is_outside root q ≡ true → fin.get n q ≡ fin.get m q) → ((q : List ℕ) → is_outside root q ≡ false → fin.get n q ≡ None)
    → keys_below n root ≡ filter (is_outside root) (keys_below m root)
unfolding keys_below
keys-before m n root same none =
    ap (λ (t : TreeMap). filter (is_below root) (fin.keys t)) (kept-is m n (is_outside root) same none)
    ∙ ap (filter (is_below root)) (kept-keys m (is_outside root))
    ∙ filter-swap (is_below root) (is_outside root) (fin.keys m)

-- ### The plan

taken-more : (p : List ℕ → Bool) (present news : List (List ℕ)) (path : List ℕ) → IsTaken (filter p present) news path → IsTaken present news path
taken-more p present news path (taken.stands c d) = taken.stands c (contains-filter p present path d)
taken-more p present news path (taken.nested {other = o} c d e) = taken.nested {other = o} c (contains-filter p present o d) e
taken-more p present news path (taken.twice l) = taken.twice l
taken-more p present news path (taken.nested_new {other = o} c d e) = taken.nested_new {other = o} c d e

out-by : (a b c : Bool) → b ≡ false → (a && b && c) ≡ false
out-by true true c e = cc
out-by true false c e = refl
out-by false b c e = refl

pub candidate-outside : (root q : List ℕ) → is_outside root q ≡ false → may_be_candidate root q ≡ false
unfolding may_be_candidate
candidate-outside root q e = out-by (is_below root q) (is_outside root q) (not (is_below (debug_folder root) q)) e

no-both : (t : Bool) → t ≡ true → t ≡ false → ⊥
no-both true x y = cc
no-both false x y = cc

by-outside : (root q : List ℕ) (b : Bool) → is_outside root q ≡ b → may_be_candidate root q ≡ true → is_outside root q ≡ true
by-outside root q true e may = e
by-outside root q false e may = absurd (no-both (may_be_candidate root q) may (candidate-outside root q e))

-- a candidate lies outside the work folder
pub outside-candidate : (root q : List ℕ) → may_be_candidate root q ≡ true → is_outside root q ≡ true
outside-candidate root q may = by-outside root q (is_outside root q) refl may

pub plan-before : (s : Settings) (v : JudgeView) (fails : List ℕ → List ℕ → Refusal → Type 0) (root : List ℕ) (m n : TreeMap) (plan : PlanData)
    → ((q : List ℕ) → is_outside root q ≡ true → fin.get n q ≡ fin.get m q) → ((q : List ℕ) → is_outside root q ≡ false → fin.get n q ≡ None)
    → AreInOrder (keys_below m root)
    → IsRunPlan (Some m) root (keys_below m root) s v fails plan → IsRunPlan (Some n) root (keys_below n root) s v fails plan
plan-before s v fails root m n plan same none order is =
    let keys : keys_below n root ≡ filter (is_outside root) (keys_below m root) = keys-before m n root same none in
    subst (λ (ks : List (List ℕ)). IsRunPlan (Some n) root ks s v fails plan) (sym keys)
    (record {
      tally = is.tally;
      tallied = record {
        few = subst (λ (k : ℕ). k ≤ 200000) (sym (count-filter (is_outside root) (keys_below m root))) is.tallied.few;
        tallies = tallies-move (skipping s) v fails root m n (is_outside root) (candidate-outside root)
            (λ q may. same q (outside-candidate root q may)) (keys_below m root) is.tally is.tallied.tallies;
      };
      is = is.is;
      can = record {
        short = is.can.short;
        free = λ o. record { free = λ path t. (is.can.free order).free path (taken-more (is_outside root) (keys_below m root) (new_paths root is.tally.jobs) path t) };
      };
      within = is.within;
    })
