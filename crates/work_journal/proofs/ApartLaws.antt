-- The names of a run are told apart by their paths, where its targets differ and lie outside of the work folder.
use Rattle.std.proofs.Common.{◌≡◌, ◌≢◌, ℕ, zero, suc, ◌<◌, ◌≤◌, ◌+◌, ◌^◌, List, [], ◌∷◌, ◌++◌, length, get_or, drop, refl, sym, ◌∙◌, ap, subst, eq-eqb, true, false, arith, IsTrue}
use Rattle.std.specs.Prelude.{◌==◌, if◌then◌else◌, ◌%◌}
use Rattle.std.specs.Fmt.{decimal}
use Rattle.std.proofs.lemmas.Fmt.{decimal_injective, decimal_by_steps}
use Rattle.std.proofs.lemmas.List.{append_cancel_left}
use Rattle.file_tree.specs.Trees.{is_below}
use Rattle.journal_core.specs.Names.{Name, IsStep, plan_new, plan, temp, commit, fresh, final, target, IsName, IsWorkName}
use Rattle.work_journal.specs.Work.{work_path, name_text}
use Rattle.work_journal.specs.Wanted.{Wanted, path_of, IsApart}
use Rattle.work_journal.proofs.SpareLaws.{is_work_path}
use Rattle.work_journal.specs.Targets.{AreTargetsApart, AreNodesKept}

-- ### Decimals have no dot

pub data HasNoDot : List ℕ → Type 0 where
  no_byte : HasNoDot []
  byte_more : {x : ℕ} {xs : List ℕ} → x ≢ 46 → HasNoDot xs → HasNoDot (x ∷ xs)

no_dot_joined : (xs ys : List ℕ) → HasNoDot xs → HasNoDot ys → HasNoDot (xs ++ ys)
no_dot_joined [] ys no_byte b = b
no_dot_joined (x ∷ xs) ys (byte_more ne a) b = byte_more ne (no_dot_joined xs ys a b)

digit_no_dot : (d : ℕ) → HasNoDot ((48 + d) ∷ [])
digit_no_dot d = byte_more (λ (e : 48 + d ≡ 46). omega (arith, e)) no_byte

pub decimal_no_dot : (n : ℕ) → n < 2 ^ 64 → HasNoDot (decimal n)
decimal_no_dot n l = decimal_by_steps (λ (m : ℕ) (ds : List ℕ). HasNoDot ds) (λ m k. digit_no_dot m)
    (λ m ds k has. no_dot_joined ds ((48 + m % 10) ∷ []) has (digit_no_dot (m % 10))) n l

abbrev pub head_of : List ℕ → ℕ
head_of [] = 0
head_of (x ∷ xs) = x

abbrev pub rest_of : List ℕ → List ℕ
rest_of [] = []
rest_of (x ∷ xs) = xs

-- what stands before the first dot, and behind it
pub split_at_dot : (xs ys us vs : List ℕ) → HasNoDot xs → HasNoDot ys → xs ++ 46 ∷ us ≡ ys ++ 46 ∷ vs → (xs ≡ ys) × (us ≡ vs)
split_at_dot [] [] us vs no_byte no_byte e = (refl, ap rest_of e)
split_at_dot [] (y ∷ ys) us vs no_byte (byte_more ne b) e = absurd (ne (sym (ap head_of e)))
split_at_dot (x ∷ xs) [] us vs (byte_more ne a) no_byte e = absurd (ne (ap head_of e))
split_at_dot (x ∷ xs) (y ∷ ys) us vs (byte_more ne a) (byte_more me b) e = more (ap head_of e) (split_at_dot xs ys us vs a b (ap rest_of e))
  where
    more : x ≡ y → (xs ≡ ys) × (us ≡ vs) → (x ∷ xs ≡ y ∷ ys) × (us ≡ vs)
    more h r = (ap (λ (z : ℕ). z ∷ xs) h ∙ ap (λ (zs : List ℕ). y ∷ zs) r.0, r.1)

-- ### The texts of names

abbrev pub family : List ℕ → ℕ
family t = if head_of t == 112 then 0 else if head_of t == 116 then 1 else if head_of t == 99 then 2 else 3

abbrev family_of : Name → ℕ
family_of plan_new = 0
family_of plan = 0
family_of (temp j k) = 1
family_of (commit j) = 2
family_of (fresh i) = 3
family_of (final i) = 3
family_of (target j k) = 4

pub fresh_family : (i : ℕ) → family (name_text (fresh i)) ≡ 3
fresh_family zero = refl
fresh_family (suc zero) = refl
fresh_family (suc (suc zero)) = refl
fresh_family (suc (suc (suc n))) = refl

final_family : (i : ℕ) → i < 4 → family (name_text (final i)) ≡ 3
final_family zero l = refl
final_family (suc zero) l = refl
final_family (suc (suc zero)) l = refl
final_family (suc (suc (suc n))) l = refl

family_is : (steps : List ℕ) (a : Name) → IsWorkName steps a → family (name_text a) ≡ family_of a
family_is steps plan_new is = refl
family_is steps plan is = refl
family_is steps (temp j k) is = refl
family_is steps (commit j) is = refl
family_is steps (fresh i) is = fresh_family i
family_is steps (final i) is = final_family i is
family_is steps (target j k) is = absurd is

-- the lengths of the eight texts of the end differ
abbrev end_named : ℕ → Name
end_named n = if n == 7 then final 0 else if n == 10 then final 1 else if n == 5 then final 2 else if n == 8 then final 3
    else if n == 11 then fresh 0 else if n == 14 then fresh 1 else if n == 9 then fresh 2 else fresh 3

fresh_is : (i : ℕ) → i < 4 → end_named (length (name_text (fresh i))) ≡ fresh i
fresh_is zero l = refl
fresh_is (suc zero) l = refl
fresh_is (suc (suc zero)) l = refl
fresh_is (suc (suc (suc zero))) l = refl
fresh_is (suc (suc (suc (suc n)))) l = absurd (omega (arith, l))

final_is : (i : ℕ) → i < 4 → end_named (length (name_text (final i))) ≡ final i
final_is zero l = refl
final_is (suc zero) l = refl
final_is (suc (suc zero)) l = refl
final_is (suc (suc (suc zero))) l = refl
final_is (suc (suc (suc (suc n)))) l = absurd (omega (arith, l))

pub wide : {n j : ℕ} → n ≤ 2 ^ 32 → j < n → j < 2 ^ 64
wide m l = omega (arith, m, l)

-- at most 2^32 jobs of at most 4 steps
record AreFew (steps : List ℕ) : Type 0 where
  jobs : length steps ≤ 2 ^ 32
  most : (j : ℕ) → j < length steps → get_or steps j 0 ≤ 4

thin : (steps : List ℕ) (j k : ℕ) → AreFew steps → IsStep steps j k → k < 2 ^ 64
thin steps j k m is = let a = m.most j is.job_in in let b = is.step_in in omega (arith, a, b)

same_temp : (steps : List ℕ) (j k i l : ℕ) → AreFew steps → IsStep steps j k → IsStep steps i l → decimal j ++ 46 ∷ decimal k ≡ decimal i ++ 46 ∷ decimal l → temp j k ≡ temp i l
same_temp steps j k i l m is at h = both (split_at_dot (decimal j) (decimal i) (decimal k) (decimal l) (decimal_no_dot j (wide m.jobs is.job_in)) (decimal_no_dot i (wide m.jobs at.job_in)) h)
  where
    both : (decimal j ≡ decimal i) × (decimal k ≡ decimal l) → temp j k ≡ temp i l
    both p = ap (λ (x : ℕ). temp x k) (decimal_injective j i (wide m.jobs is.job_in) (wide m.jobs at.job_in) p.0)
        ∙ ap (λ (x : ℕ). temp i x) (decimal_injective k l (thin steps j k m is) (thin steps i l m at) p.1)

pub differ : (m n : ℕ) → m ≡ n → (m == n) ≡ false → ⊥
differ m n e f = let d : true ≡ false = sym (eq-eqb m n e) ∙ f in absurd (cc)

same_family : (steps : List ℕ) (a b : Name) → AreFew steps → IsWorkName steps a → IsWorkName steps b → family_of a ≡ family_of b → name_text a ≡ name_text b → a ≡ b
same_family steps plan_new plan_new m is at same h = refl
same_family steps plan_new plan m is at same h = absurd (differ 8 4 (ap (λ (t : List ℕ). length t) h) refl)
same_family steps plan_new (temp i l) m is at same h = absurd (differ 0 1 same refl)
same_family steps plan_new (commit i) m is at same h = absurd (differ 0 2 same refl)
same_family steps plan_new (fresh i) m is at same h = absurd (differ 0 3 same refl)
same_family steps plan_new (final i) m is at same h = absurd (differ 0 3 same refl)
same_family steps plan plan_new m is at same h = absurd (differ 4 8 (ap (λ (t : List ℕ). length t) h) refl)
same_family steps plan plan m is at same h = refl
same_family steps plan (temp i l) m is at same h = absurd (differ 0 1 same refl)
same_family steps plan (commit i) m is at same h = absurd (differ 0 2 same refl)
same_family steps plan (fresh i) m is at same h = absurd (differ 0 3 same refl)
same_family steps plan (final i) m is at same h = absurd (differ 0 3 same refl)
same_family steps (temp j k) plan_new m is at same h = absurd (differ 1 0 same refl)
same_family steps (temp j k) plan m is at same h = absurd (differ 1 0 same refl)
same_family steps (temp j k) (temp i l) m is at same h = same_temp steps j k i l m is at (ap (λ (t : List ℕ). drop 2 t) h)
same_family steps (temp j k) (commit i) m is at same h = absurd (differ 1 2 same refl)
same_family steps (temp j k) (fresh i) m is at same h = absurd (differ 1 3 same refl)
same_family steps (temp j k) (final i) m is at same h = absurd (differ 1 3 same refl)
same_family steps (commit j) plan_new m is at same h = absurd (differ 2 0 same refl)
same_family steps (commit j) plan m is at same h = absurd (differ 2 0 same refl)
same_family steps (commit j) (temp i l) m is at same h = absurd (differ 2 1 same refl)
same_family steps (commit j) (commit i) m is at same h = ap (λ (x : ℕ). commit x) (decimal_injective j i (wide m.jobs is) (wide m.jobs at) (ap (λ (t : List ℕ). drop 2 t) h))
same_family steps (commit j) (fresh i) m is at same h = absurd (differ 2 3 same refl)
same_family steps (commit j) (final i) m is at same h = absurd (differ 2 3 same refl)
same_family steps (fresh j) plan_new m is at same h = absurd (differ 3 0 same refl)
same_family steps (fresh j) plan m is at same h = absurd (differ 3 0 same refl)
same_family steps (fresh j) (temp i l) m is at same h = absurd (differ 3 1 same refl)
same_family steps (fresh j) (commit i) m is at same h = absurd (differ 3 2 same refl)
same_family steps (fresh j) (fresh i) m is at same h = sym (fresh_is j is) ∙ ap (λ (t : List ℕ). end_named (length t)) h ∙ fresh_is i at
same_family steps (fresh j) (final i) m is at same h = sym (fresh_is j is) ∙ ap (λ (t : List ℕ). end_named (length t)) h ∙ final_is i at
same_family steps (final j) plan_new m is at same h = absurd (differ 3 0 same refl)
same_family steps (final j) plan m is at same h = absurd (differ 3 0 same refl)
same_family steps (final j) (temp i l) m is at same h = absurd (differ 3 1 same refl)
same_family steps (final j) (commit i) m is at same h = absurd (differ 3 2 same refl)
same_family steps (final j) (fresh i) m is at same h = sym (final_is j is) ∙ ap (λ (t : List ℕ). end_named (length t)) h ∙ fresh_is i at
same_family steps (final j) (final i) m is at same h = sym (final_is j is) ∙ ap (λ (t : List ℕ). end_named (length t)) h ∙ final_is i at
same_family steps (target j k) b m is at same h = absurd is
same_family steps plan_new (target i l) m is at same h = absurd at
same_family steps plan (target i l) m is at same h = absurd at
same_family steps (temp j k) (target i l) m is at same h = absurd at
same_family steps (commit j) (target i l) m is at same h = absurd at
same_family steps (fresh j) (target i l) m is at same h = absurd at
same_family steps (final j) (target i l) m is at same h = absurd at

pub same_text : (work : List ℕ) (a b : Name) → work_path work a ≡ work_path work b → name_text a ≡ name_text b
unfolding work_path
same_text work a b e = ap rest_of (append_cancel_left work (47 ∷ name_text a) (47 ∷ name_text b) e)

work_apart : (work steps : List ℕ) (a b : Name) → AreFew steps → IsWorkName steps a → IsWorkName steps b → work_path work a ≡ work_path work b → a ≡ b
work_apart work steps a b m is at e =
    let h : name_text a ≡ name_text b = same_text work a b e in
    same_family steps a b m is at (sym (family_is steps a is) ∙ ap family h ∙ family_is steps b at) h

-- ### All names

data Side (w : Wanted) : Name → Type 0 where
  in_work : {n : Name} → IsWorkName w.steps n → path_of w n ≡ work_path w.work n → Side w n
  at_target : {j k : ℕ} → IsStep w.steps j k → Side w (target j k)

side_of : (w : Wanted) (n : Name) → IsName w.steps n → Side w n
side_of w plan_new is = in_work is refl
side_of w plan is = in_work is refl
side_of w (temp j k) is = in_work is refl
side_of w (commit j) is = in_work is refl
side_of w (fresh i) is = in_work is refl
side_of w (final i) is = in_work is refl
side_of w (target j k) is = at_target is

outside_work : (w : Wanted) → AreTargetsApart w → (j k : ℕ) (n : Name) → IsStep w.steps j k → w.output j k ≢ work_path w.work n
outside_work w fit j k n is e = fit.outside j k is (subst (λ (p : List ℕ). IsTrue (is_below w.work p)) (sym e) (is_work_path w.work n))

names_apart : (w : Wanted) → AreTargetsApart w → (a b : Name) → Side w a → Side w b → path_of w a ≡ path_of w b → a ≡ b
names_apart w fit a b (in_work is p) (in_work at q) e = work_apart w.work w.steps a b (record { jobs = fit.jobs; most = fit.most }) is at (sym p ∙ e ∙ q)
names_apart w fit a (target i l) (in_work is p) (at_target at) e = absurd (outside_work w fit i l a at (sym e ∙ p))
names_apart w fit (target j k) b (at_target is) (in_work at q) e = absurd (outside_work w fit j k b is (e ∙ q))
names_apart w fit (target j k) (target i l) (at_target is) (at_target at) e = both (fit.differ j k i l is at e)
  where
    both : (j ≡ i) × (k ≡ l) → target j k ≡ target i l
    both p = ap (λ (x : ℕ). target x k) p.0 ∙ ap (λ (x : ℕ). target i x) p.1

pub target_apart : (w : Wanted) → AreTargetsApart w → AreNodesKept w → IsApart w
target_apart w fit kept = record {
  some = fit.some;
  apart = λ a b is at e. names_apart w fit a b (side_of w a is) (side_of w b at) e;
  plans = kept.plans;
  temps = kept.temps;
  texts = kept.texts;
}
