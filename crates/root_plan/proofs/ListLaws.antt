-- Lists of names that grow, name by name.
use Rattle.std.proofs.Common.{◌≡◌, ℕ, ◌≤◌, Bool, true, false, List, [], ◌∷◌, ◌++◌, length, drop, map, Vec, refl, sym, ap, ◌∙◌, if◌then◌else◌}
use Rattle.std.specs.declared.alloc.Global.{Global}
use Rattle.std.specs.List.{flat_map}
use Rattle.std.proofs.lemmas.List.{append_assoc, append-nil}
use Rattle.dw_base.specs.Texts.{laid_texts}
use Rattle.dw_base.proofs.TextLaws.{laid_texts-append}
use Rattle.work_texts.specs.declared.plan.JobLine.{JobLine}
use Rattle.work_texts.specs.Lists.{bytes_of}
use Rattle.root_plan.specs.Targets.{debug_path, file_link, debug_link, link_target, has_links}
use Rattle.root_plan.specs.Lists.{source_list, debug_names_of, debug_file_list, link_names_of, link_list}
use Rattle.root_plan.proofs.TargetLaws.{item_more, items_done}

pub slash_name : (out path : List ℕ) → (out ++ 47 ∷ []) ++ (path ++ 0 ∷ []) ≡ out ++ 47 ∷ (path ++ 0 ∷ [])
slash_name out path = append_assoc out (47 ∷ []) (path ++ 0 ∷ [])

pub no_debug_file : (out : List ℕ) (job : JobLine) → job.split ≡ false → out ≡ out ++ laid_texts (debug_names_of job)
no_debug_file out job e = rw e (sym (append-nil out))

pub one_debug_file : (out new path : List ℕ) (job : JobLine) → job.split ≡ true → path ≡ debug_path job.path → new ≡ out ++ 47 ∷ (path ++ 0 ∷ []) → new ≡ out ++ laid_texts (debug_names_of job)
one_debug_file out new path job e is made = rw e (made ∙ ap (λ (p : List ℕ). out ++ 47 ∷ (p ++ 0 ∷ [])) is)

pub no_links : (out : List ℕ) (job : JobLine) → has_links job ≡ false → out ≡ out ++ laid_texts (link_names_of job)
no_links out job e = rw e (sym (append-nil out))

-- a link and what it leads to
pub one_link : (out mid new first second a b : List ℕ) → first ≡ a → mid ≡ out ++ 47 ∷ (first ++ 0 ∷ []) → second ≡ b → new ≡ mid ++ (second ++ 0 ∷ []) → new ≡ out ++ laid_texts ((47 ∷ a) ∷ b ∷ [])
one_link out mid new first second a b f m g n =
    let flat : new ≡ out ++ laid_texts ((47 ∷ first) ∷ second ∷ []) =
    n ∙ ap (λ (x : List ℕ). x ++ (second ++ 0 ∷ [])) m ∙ append_assoc out (47 ∷ (first ++ 0 ∷ [])) (second ++ 0 ∷ [])
    ∙ ap (λ (x : List ℕ). out ++ x) (append_assoc (47 ∷ first) (0 ∷ []) (second ++ 0 ∷ [])) in
    flat ∙ ap (λ (x : List ℕ). out ++ laid_texts ((47 ∷ x) ∷ second ∷ [])) f ∙ ap (λ (x : List ℕ). out ++ laid_texts ((47 ∷ a) ∷ x ∷ [])) g

-- both links of a job that has them
pub two_links : (out mid new : List ℕ) (job : JobLine) → has_links job ≡ true → mid ≡ out ++ laid_texts ((47 ∷ file_link job) ∷ link_target job.path ∷ [])
    → new ≡ mid ++ laid_texts ((47 ∷ debug_link job) ∷ link_target (debug_path job.path) ∷ []) → new ≡ out ++ laid_texts (link_names_of job)
two_links out mid new job e m n =
    let one : List (List ℕ) = (47 ∷ file_link job) ∷ link_target job.path ∷ [] in
    let other : List (List ℕ) = (47 ∷ debug_link job) ∷ link_target (debug_path job.path) ∷ [] in
    n ∙ ap (λ (x : List ℕ). x ++ laid_texts ((47 ∷ debug_link job) ∷ link_target (debug_path job.path) ∷ [])) m
    ∙ append_assoc out (laid_texts ((47 ∷ file_link job) ∷ link_target job.path ∷ [])) (laid_texts ((47 ∷ debug_link job) ∷ link_target (debug_path job.path) ∷ []))
    ∙ ap (λ (x : List ℕ). out ++ x) (sym (laid_texts-append one other))
    ∙ ap (λ (b : Bool). out ++ laid_texts (if b then (47 ∷ file_link job) ∷ link_target job.path ∷ (47 ∷ debug_link job) ∷ link_target (debug_path job.path) ∷ [] else [])) (sym e)

pub ruleset push_rules = (slash_name, no_debug_file, one_debug_file, no_links, two_links)

-- ### Item by item

abbrev pub ended_name : Vec ℕ Global → List ℕ
ended_name v = v.items ++ 0 ∷ []

names_all : (names : List (Vec ℕ Global)) → flat_map ended_name names ≡ laid_texts (map bytes_of names)
names_all [] = refl
names_all (n ∷ ns) = append_assoc n.items (0 ∷ []) (flat_map ended_name ns) ∙ ap (λ (r : List ℕ). n.items ++ 0 ∷ r) (names_all ns)

laid_all : {A : Type 0} (f : A → List (List ℕ)) (xs : List A) → flat_map (λ x. laid_texts (f x)) xs ≡ laid_texts (flat_map f xs)
laid_all f [] = refl
laid_all f (x ∷ xs) = ap (λ (r : List ℕ). laid_texts (f x) ++ r) (laid_all f xs) ∙ sym (laid_texts-append (f x) (flat_map f xs))

abbrev pub debug_text : JobLine → List ℕ
debug_text job = laid_texts (debug_names_of job)

abbrev pub link_text : JobLine → List ℕ
link_text job = laid_texts (link_names_of job)

pub names_done : (names : List (Vec ℕ Global)) (i : ℕ) (out : List ℕ) → length names ≤ i → out ++ flat_map ended_name (drop i names) ≡ flat_map ended_name names
    → out ≡ source_list (map bytes_of names)
unfolding source_list
names_done names i out le e = items_done ended_name names i out (flat_map ended_name names) le e ∙ names_all names

pub debug_files_done : (jobs : List JobLine) (i : ℕ) (out : List ℕ) → length jobs ≤ i → out ++ flat_map debug_text (drop i jobs) ≡ flat_map debug_text jobs → out ≡ debug_file_list jobs
unfolding debug_file_list
debug_files_done jobs i out le e = items_done debug_text jobs i out (flat_map debug_text jobs) le e ∙ laid_all debug_names_of jobs

pub links_done : (jobs : List JobLine) (i : ℕ) (out : List ℕ) → length jobs ≤ i → out ++ flat_map link_text (drop i jobs) ≡ flat_map link_text jobs → out ≡ link_list jobs
unfolding link_list
links_done jobs i out le e = items_done link_text jobs i out (flat_map link_text jobs) le e ∙ laid_all link_names_of jobs

pub ruleset list_rules = (item_more, names_done, debug_files_done, links_done)
