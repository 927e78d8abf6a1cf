-- Fronts of paths, and the last component of one.
use Rattle.std.proofs.Common.{◌≡◌, ◌≢◌, ℕ, zero, suc, ◌+◌, ◌-◌, ◌≤◌, ◌<◌, Bool, true, false, not, ◌&&◌, ◌||◌, List, [], ◌∷◌, ◌++◌, length, take, drop, get_or, nat_eq, refl, sym, ap, ◌∙◌, subst, arith, append_assoc, Some, None}
use Rattle.std.specs.Prelude.{codes, ◌==◌}
use Rattle.std.specs.List.{starts_with}
use Rattle.std.proofs.lemmas.Bool.{ne_eqb}
use Rattle.std.proofs.lemmas.List.{take_rest, length-append}
use Rattle.std.specs.Str.{IsCharBoundary}
use Rattle.std.specs.Str.Pattern.{FindsTextPrefix}
use Rattle.std.proofs.lemmas.Str.Pattern.{starts_text}
use Rattle.file_tree.specs.Trees.{is_below}
use Rattle.root_paths.specs.Roots.{work_folder, debug_folder, is_outside, may_be_candidate, below_root, has_slash, base_name}
use Rattle.root_paths.specs.Folders.{AreFronts}

-- ### Fronts

pub work_front-is : (root text : List ℕ) → text ≡ root ++ codes "/.dbgwork/" → text ≡ work_folder root ++ 47 ∷ []
unfolding work_folder
work_front-is root text e = e ∙ sym (append_assoc root (47 ∷ codes ".dbgwork") (47 ∷ []))

pub debug_front-is : (root text : List ℕ) → text ≡ root ++ codes "/usr/lib/debug/" → text ≡ debug_folder root ++ 47 ∷ []
unfolding debug_folder
debug_front-is root text e = e ∙ sym (append_assoc root (47 ∷ codes "usr/lib/debug") (47 ∷ []))

pub ruleset front_rules = (work_front-is, debug_front-is)

-- ### What stands behind a front

pub stripped_none : (n s : List ℕ) → FindsTextPrefix n s None → starts_with nat_eq s n ≡ false
stripped_none n s f = sym (starts_text false n s f)

pub stripped_some : (n s x : List ℕ) → ((k : ℕ) × FindsTextPrefix n s (Some k) × (x ≡ drop k s) × (length x + k ≡ length s))
    → (starts_with nat_eq s n ≡ true) × (x ≡ drop (length n) s)
stripped_some n s x p =
    (sym (starts_text true n s (p.0, p.1, subst (IsCharBoundary s) (sym p.1.0) p.1.2)), p.2 ∙ ap (λ (k : ℕ). drop k s) p.1.0)

pub ruleset strip_rules = (stripped_none, stripped_some)

-- ### Candidates

pub are_fronts : (root front work debug : List ℕ) → front ≡ root ++ 47 ∷ [] → work ≡ work_folder root ++ 47 ∷ [] → debug ≡ debug_folder root ++ 47 ∷ [] → AreFronts root front work debug
are_fronts root front work debug f w d = record { front_is = f; work_is = w; debug_is = d }

pub outside-is : (root front work debug path : List ℕ) → AreFronts root front work debug → not (starts_with nat_eq path work) ≡ is_outside root path
outside-is root front work debug path are = ap (λ (x : List ℕ). not (starts_with nat_eq path x)) are.work_is

candidate-by : (a w d : Bool) → (not w && not d) ≡ false → (a && not w && not d) ≡ false
candidate-by true true true e = refl
candidate-by true true false e = refl
candidate-by true false true e = refl
candidate-by true false false e = cc
candidate-by false w d e = refl

candidate-from : (a w d : Bool) → (not w && not d) ≡ true → (a && not w && not d) ≡ a
candidate-from true true true e = cc
candidate-from true true false e = cc
candidate-from true false true e = cc
candidate-from true false false e = refl
candidate-from false w d e = refl

apart-is : (root front work debug path : List ℕ) → AreFronts root front work debug
    → (not (is_below (work_folder root) path) && not (is_below (debug_folder root) path)) ≡ (not (starts_with nat_eq path work) && not (starts_with nat_eq path debug))
apart-is root front work debug path are = rw (are.work_is, are.debug_is) refl

pub no_candidate-apart : (root front work debug path : List ℕ) → AreFronts root front work debug
    → (not (starts_with nat_eq path work) && not (starts_with nat_eq path debug)) ≡ false → may_be_candidate root path ≡ false
unfolding may_be_candidate
no_candidate-apart root front work debug path are e =
    candidate-by (is_below root path) (is_below (work_folder root) path) (is_below (debug_folder root) path) (apart-is root front work debug path are ∙ e)

pub no_candidate-front : (root front work debug path : List ℕ) → AreFronts root front work debug → starts_with nat_eq path front ≡ false → may_be_candidate root path ≡ false
unfolding may_be_candidate
no_candidate-front root front work debug path are e =
    let t : is_below root path ≡ false = ap (starts_with nat_eq path) (sym are.front_is) ∙ e in rw t refl

pub candidate-is : (root front work debug path : List ℕ) → AreFronts root front work debug
    → (not (starts_with nat_eq path work) && not (starts_with nat_eq path debug)) ≡ true → starts_with nat_eq path front ≡ true → may_be_candidate root path ≡ true
unfolding may_be_candidate
candidate-is root front work debug path are e r =
    candidate-from (is_below root path) (is_below (work_folder root) path) (is_below (debug_folder root) path) (apart-is root front work debug path are ∙ e)
    ∙ ap (starts_with nat_eq path) (sym are.front_is) ∙ r

pub candidate-behind : (root front work debug path below : List ℕ) → AreFronts root front work debug → below ≡ drop (length front) path → below ≡ below_root root path
candidate-behind root front work debug path below are e =
    let size : length front ≡ length root + 1 = ap length are.front_is ∙ length-append root (47 ∷ []) in
    e ∙ ap (λ (n : ℕ). drop n path) size

pub ruleset root_rules = (are_fronts, outside-is, no_candidate-apart, no_candidate-front, candidate-is, candidate-behind)

-- ### The last component

base-none : (xs : List ℕ) → has_slash xs ≡ false → base_name xs ≡ xs
base-none [] e = refl
base-none (x ∷ xs) e = rw e refl

slash-there : (b : ℕ) (bs : List ℕ) (n : ℕ) → n < length (b ∷ bs) → get_or (b ∷ bs) n 0 ≡ 47 → has_slash (b ∷ bs) ≡ true
slash-there b bs zero l e = rw e refl
slash-there b (c ∷ cs) (suc n) l e = by_test (b == 47) (has_slash (c ∷ cs)) (slash-there c cs n (omega arith) e)
  where
    by_test : (t r : Bool) → r ≡ true → (t || r) ≡ true
    by_test true r e = refl
    by_test false r e = e
slash-there b [] (suc n) l e = absurd (omega arith)

pub base-at : (xs : List ℕ) (n : ℕ) → n < length xs → get_or xs n 0 ≡ 47 → has_slash (drop (suc n) xs) ≡ false → base_name xs ≡ drop (suc n) xs
base-at [] n l e none = absurd (omega arith)
base-at (b ∷ bs) zero l e none = let t : has_slash (b ∷ bs) ≡ true = slash-there b bs 0 l e in rw t (base-none bs none)
base-at (b ∷ bs) (suc n) l e none = let t : has_slash (b ∷ bs) ≡ true = slash-there b bs (suc n) l e in rw t (base-at bs n (omega arith) e none)

-- no slash stands from here on, and none one byte before
slash-more : (xs : List ℕ) (n : ℕ) → n < length xs → get_or xs n 0 ≢ 47 → has_slash (drop (suc n) xs) ≡ false → has_slash (drop n xs) ≡ false
slash-more [] n l e none = absurd (omega arith)
slash-more (b ∷ bs) zero l e none = let t : (b == 47) ≡ false = ne_eqb b 47 e in rw t none
slash-more (b ∷ bs) (suc n) l e none = slash-more bs n (omega arith) e none

whole-rest : (xs : List ℕ) (n : ℕ) → n ≤ length xs → take (length xs - n) (drop n xs) ≡ drop n xs
whole-rest xs n l = take_rest xs n

pub base-found : (xs : List ℕ) (start : ℕ) → 0 < start → start ≤ length xs → get_or xs (start - 1) 0 ≡ 47 → has_slash (drop start xs) ≡ false
    → take (length xs - start) (drop start xs) ≡ base_name xs
base-found xs zero some l e none = absurd (omega arith)
base-found xs (suc n) some l e none =
    let p : suc n - 1 ≡ n = omega arith in
    whole-rest xs (suc n) l ∙ sym (base-at xs n (omega arith) (ap (λ (k : ℕ). get_or xs k 0) (sym p) ∙ e) none)

pub base-whole : (xs : List ℕ) (start : ℕ) → start ≤ 0 → has_slash (drop start xs) ≡ false → xs ≡ base_name xs
base-whole xs zero l none = sym (base-none xs none)
base-whole xs (suc n) l none = absurd (omega arith)

pub slash-before : (xs : List ℕ) (start : ℕ) → 0 < start → start ≤ length xs → get_or xs (start - 1) 0 ≢ 47 → has_slash (drop start xs) ≡ false
    → has_slash (drop (start - 1) xs) ≡ false
slash-before xs zero some l e none = absurd (omega arith)
slash-before xs (suc n) some l e none =
    let p : suc n - 1 ≡ n = omega arith in
    subst (λ (k : ℕ). has_slash (drop k xs) ≡ false) (sym p) (slash-more xs n (omega arith) (λ q. e (ap (λ (k : ℕ). get_or xs k 0) p ∙ q)) none)

pub slash-end : (xs : List ℕ) → has_slash (drop (length xs) xs) ≡ false
slash-end [] = refl
slash-end (x ∷ xs) = slash-end xs

pub ruleset base_rules = (base-found, base-whole, slash-before, slash-end)

-- what is answered of a path, by the tests that were made of it
pub answered_apart : (self root front work debug path w d : List ℕ) → self ≡ root → AreFronts root front work debug → w ≡ work → d ≡ debug
    → false ≡ (not (starts_with nat_eq path w) && not (starts_with nat_eq path d)) → may_be_candidate self path ≡ false
answered_apart self root front work debug path w d is are wi di e =
    subst (λ (x : List ℕ). may_be_candidate x path ≡ false) (sym is) (no_candidate-apart root front work debug path are (rw (sym wi, sym di) (sym e)))

pub answered_front : (self root front work debug path r : List ℕ) → self ≡ root → AreFronts root front work debug → r ≡ front → starts_with nat_eq path r ≡ false
    → may_be_candidate self path ≡ false
answered_front self root front work debug path r is are ri e =
    subst (λ (x : List ℕ). may_be_candidate x path ≡ false) (sym is) (no_candidate-front root front work debug path are (rw (sym ri) e))

pub answered_below : (self root front work debug path r w d below : List ℕ) → self ≡ root → AreFronts root front work debug → r ≡ front → w ≡ work → d ≡ debug
    → true ≡ (not (starts_with nat_eq path w) && not (starts_with nat_eq path d)) → (starts_with nat_eq path r ≡ true) × (below ≡ drop (length r) path)
    → (may_be_candidate self path ≡ true) × (below ≡ below_root self path)
answered_below self root front work debug path r w d below is are ri wi di e p =
    subst (λ (x : List ℕ). (may_be_candidate x path ≡ true) × (below ≡ below_root x path)) (sym is) (
      candidate-is root front work debug path are (rw (sym wi, sym di) (sym e)) (rw (sym ri) p.0),
      candidate-behind root front work debug path below are (rw (sym ri) p.1),
    )
