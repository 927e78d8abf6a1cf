-- Lists of what stands at each job, job by job.
use Rattle.std.proofs.Common.{◌≡◌, ℕ, ◌+◌, ◌≤◌, ◌<◌, List, [], ◌∷◌, ◌++◌, length, drop, map, get_or, Vec, String, refl, sym, ap, ◌∙◌, drop-cons, add-one}
use Rattle.std.specs.declared.alloc.Global.{Global}
use Rattle.std.specs.String.{string_bytes}
use Rattle.std.proofs.lemmas.List.{append_assoc, append-nil, map-append, drop_all}
use Rattle.work_texts.specs.declared.plan.JobLine.{JobLine}
use Rattle.work_texts.specs.Lists.{bytes_of}
use Rattle.root_paths.specs.Roots.{in_root}

-- one more, of those that are left; and none is left
each-more : {A B : Type 0} (f : A → B) (xs : List A) (i : ℕ) (x : A) (out new whole : List B) → i < length xs → x ≡ get_or xs i x → new ≡ out ++ f x ∷ []
    → out ++ map f (drop i xs) ≡ whole → new ++ map f (drop (i + 1) xs) ≡ whole
each-more {A} {B} f xs i x out new whole l is e so_far =
    let next : drop i xs ≡ x ∷ drop (i + 1) xs = drop-cons xs i x l ∙ rw (← is, add-one) refl in
    ap (λ (t : List B). t ++ map f (drop (i + 1) xs)) e ∙ append_assoc out (f x ∷ []) (map f (drop (i + 1) xs))
    ∙ ap (λ (ys : List A). out ++ map f ys) (sym next) ∙ so_far

each-done : {A B : Type 0} (f : A → B) (xs : List A) (i : ℕ) (out whole : List B) → length xs ≤ i → out ++ map f (drop i xs) ≡ whole → out ≡ whole
each-done {A} {B} f xs i out whole le so_far = sym (append-nil out) ∙ ap (λ (ys : List A). out ++ map f ys) (sym (drop_all i xs le)) ∙ so_far

abbrev pub copy_at : List ℕ → JobLine → List ℕ
copy_at folder job = in_root folder job.path

pub path_more : (folder : List ℕ) (jobs : List JobLine) (i : ℕ) (job : JobLine) (paths new : List (String Global)) (path : String Global) (whole : List (List ℕ)) → i < length jobs
    → job ≡ get_or jobs i job → string_bytes path ≡ in_root folder job.path → new ≡ paths ++ path ∷ []
    → map string_bytes paths ++ map (copy_at folder) (drop i jobs) ≡ whole → map string_bytes new ++ map (copy_at folder) (drop (i + 1) jobs) ≡ whole
path_more folder jobs i job paths new path whole l is at e so_far =
    each-more (copy_at folder) jobs i job (map string_bytes paths) (map string_bytes new) whole l is
    (ap (map string_bytes) e ∙ map-append string_bytes paths (path ∷ []) ∙ ap (λ (p : List ℕ). map string_bytes paths ++ p ∷ []) at) so_far

pub paths_done : (folder : List ℕ) (jobs : List JobLine) (i : ℕ) (out whole : List (List ℕ)) → length jobs ≤ i → out ++ map (copy_at folder) (drop i jobs) ≡ whole → out ≡ whole
paths_done folder jobs i out whole le so_far = each-done (copy_at folder) jobs i out whole le so_far

pub ruleset path_rules = (path_more, paths_done)

abbrev pub name_at : JobLine → List ℕ
name_at job = job.path

pub name_more : (jobs : List JobLine) (i : ℕ) (job : JobLine) (names new : List (Vec ℕ Global)) (name : Vec ℕ Global) (whole : List (List ℕ)) → i < length jobs
    → job ≡ get_or jobs i job → name.items ≡ job.path → new ≡ names ++ name ∷ []
    → map bytes_of names ++ map name_at (drop i jobs) ≡ whole → map bytes_of new ++ map name_at (drop (i + 1) jobs) ≡ whole
name_more jobs i job names new name whole l is at e so_far =
    each-more name_at jobs i job (map bytes_of names) (map bytes_of new) whole l is
    (ap (map bytes_of) e ∙ map-append bytes_of names (name ∷ []) ∙ ap (λ (p : List ℕ). map bytes_of names ++ p ∷ []) at) so_far

pub names_done : (jobs : List JobLine) (i : ℕ) (out whole : List (List ℕ)) → length jobs ≤ i → out ++ map name_at (drop i jobs) ≡ whole → out ≡ whole
names_done jobs i out whole le so_far = each-done name_at jobs i out whole le so_far

pub ruleset name_rules = (name_more, names_done)
