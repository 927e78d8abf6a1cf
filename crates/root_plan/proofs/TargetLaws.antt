-- Lists of paths and lines that grow, job by job.
use Rattle.std.proofs.Common.{◌≡◌, ℕ, zero, suc, ◌+◌, ◌≤◌, ◌<◌, List, [], ◌∷◌, ◌++◌, length, take, drop, map, get_or, refl, sym, ap, ◌∙◌, drop-cons, add-one}
use Rattle.std.specs.Prelude.{codes}
use Rattle.std.specs.List.{flat_map}
use Rattle.std.specs.Fmt.{decimal}
use Rattle.std.proofs.lemmas.List.{append_assoc, append-nil, map-append, drop_all}
use Rattle.hex.specs.Hex.{encode_lower}
use Rattle.work_texts.specs.declared.plan.JobLine.{JobLine}
use Rattle.root_paths.specs.Roots.{in_root}
use Rattle.root_plan.specs.Targets.{file_link, suffix, new_paths, new_paths_of}

pub link_first : (job : JobLine) (text folder name : List ℕ) → folder ≡ encode_lower (take 1 job.id) → name ≡ encode_lower (drop 1 job.id) → job.number ≡ 0
    → text ≡ codes "usr/lib/debug/.build-id/" ++ (folder ++ (codes "/" ++ name)) → text ≡ file_link job
unfolding file_link
link_first job text folder name f n none is =
    rw none (is ∙ ap (λ (x : List ℕ). codes "usr/lib/debug/.build-id/" ++ (x ++ (codes "/" ++ name))) f
    ∙ ap (λ (x : List ℕ). codes "usr/lib/debug/.build-id/" ++ (encode_lower (take 1 job.id) ++ (codes "/" ++ x))) (n ∙ sym (append-nil (encode_lower (drop 1 job.id)))))

suffix_some : (n : ℕ) → (n ≡ 0 → ⊥) → suffix n ≡ codes "." ++ decimal n
suffix_some zero some = absurd (some refl)
suffix_some (suc n) some = refl

pub link_later : (job : JobLine) (text folder name : List ℕ) → folder ≡ encode_lower (take 1 job.id) → name ≡ encode_lower (drop 1 job.id) → (job.number ≡ 0 → ⊥)
    → text ≡ codes "usr/lib/debug/.build-id/" ++ (folder ++ (codes "/" ++ (name ++ (codes "." ++ decimal job.number)))) → text ≡ file_link job
unfolding file_link
link_later job text folder name f n some is = rw (suffix_some job.number some) (rw (sym f, sym n) is)

pub ruleset link_rules = (link_first, link_later)

-- one path more, and two
pub pushed_none : (xs : List (List ℕ)) → xs ≡ xs ++ []
pushed_none xs = sym (append-nil xs)

pub pushed_two : (root : List ℕ) (xs : List (List ℕ)) (a b : List ℕ) → (xs ++ in_root root a ∷ []) ++ in_root root b ∷ [] ≡ xs ++ map (in_root root) (a ∷ b ∷ [])
pushed_two root xs a b = append_assoc xs (in_root root a ∷ []) (in_root root b ∷ [])

-- one item more, of those that are left; and none is left
pub item_more : {A B : Type 0} (f : A → List B) (xs : List A) (i : ℕ) (x : A) (out new whole : List B) → i < length xs → x ≡ get_or xs i x → new ≡ out ++ f x
    → out ++ flat_map f (drop i xs) ≡ whole → new ++ flat_map f (drop (i + 1) xs) ≡ whole
item_more {A} {B} f xs i x out new whole l is e so_far =
    let next : drop i xs ≡ x ∷ drop (i + 1) xs = drop-cons xs i x l ∙ rw (← is, add-one) refl in
    ap (λ (t : List B). t ++ flat_map f (drop (i + 1) xs)) e ∙ append_assoc out (f x) (flat_map f (drop (i + 1) xs))
    ∙ ap (λ (ys : List A). out ++ flat_map f ys) (sym next) ∙ so_far

pub items_done : {A B : Type 0} (f : A → List B) (xs : List A) (i : ℕ) (out whole : List B) → length xs ≤ i → out ++ flat_map f (drop i xs) ≡ whole → out ≡ whole
items_done {A} {B} f xs i out whole le so_far =
    sym (append-nil out) ∙ ap (λ (ys : List A). out ++ flat_map f ys) (sym (drop_all i xs le)) ∙ so_far

-- the new paths of jobs, job by job
abbrev pub paths_in : List ℕ → JobLine → List (List ℕ)
paths_in root job = map (in_root root) (new_paths_of job)

paths_all : (root : List ℕ) (jobs : List JobLine) → flat_map (paths_in root) jobs ≡ map (in_root root) (flat_map new_paths_of jobs)
paths_all root [] = refl
paths_all root (j ∷ js) = ap (λ (r : List (List ℕ)). paths_in root j ++ r) (paths_all root js) ∙ sym (map-append (in_root root) (new_paths_of j) (flat_map new_paths_of js))

pub paths_done : (root : List ℕ) (jobs : List JobLine) (i : ℕ) (out : List (List ℕ)) → length jobs ≤ i → out ++ flat_map (paths_in root) (drop i jobs) ≡ flat_map (paths_in root) jobs
    → out ≡ new_paths root jobs
unfolding new_paths
paths_done root jobs i out le so_far = items_done (paths_in root) jobs i out (flat_map (paths_in root) jobs) le so_far ∙ paths_all root jobs

pub ruleset push_rules = (pushed_none, pushed_two)

pub ruleset path_rules = (item_more, paths_done)

pub ruleset report_rules = (item_more, items_done)
