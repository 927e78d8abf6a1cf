-- Which commands are carried out, and what holds of those that words spell.
use Rattle.std.proofs.Common.{◌≡◌, ◌≢◌, ℕ, Bool, true, false, List, [], ◌∷◌, Option, Some, None, refl, sym, ◌∙◌, subst}
use Rattle.std.specs.Prelude.{if◌then◌else◌, ◌||◌, codes, is_some, option_and_then, option_map, ⊤}
use Rattle.std.specs.List.{list_any}
use Rattle.std.proofs.lemmas.Bool.{true≢false}
use Rattle.dw_base.proofs.TextLaws.{same_text-from}
use Rattle.dw_base.specs.Texts.{has_nul, same_text}
use Rattle.job_types.specs.Settings.{Settings}
use Rattle.dbg_words.specs.CommandLines.{CommandLine, command_line}
use Rattle.dbg_words.specs.declared.command.Command.{Command}
use Rattle.dbg_words.specs.declared.command.Command.TheVariants.{Edit, Split, Run, Show, Unstrip, Check, Gather, Exercise}
use Rattle.dbg_words.specs.Decimals.{number_within}
use Rattle.dbg_words.specs.PathWords.{path_named}
use Rattle.dbg_words.specs.Words.{command, command_named, edit_listed, edit_named, edit_of, edit_paths, exercise_named, exercise_of, exercise_seeded, list_path, number_or, one_of, other_path, run_below, run_named, run_of, run_settled, settings_of, show_named, show_of, show_one, split_named, split_of, split_paths, two_of, two_paths, unless_among, three_of, is_bare, unstrip_named, unstrip_of, unstrip_paths, are_apart, check_mapped, check_named, check_of, check_paths, gather_into, gather_named, gather_of, gather_paths, has_dest_alone, has_no_job, maps_of, target_of}
use Rattle.dbg_run.specs.Built.{built, if_built, is_built}

-- a command that is none of these isn't carried out
abbrev NoEdit : Command → Type 0
NoEdit k = (input output : List ℕ) (o : Settings) (list : Option (List ℕ)) → k ≡ Edit input output o list → ⊥

abbrev NoSplit : Command → Type 0
NoSplit k = (input stripped debug : List ℕ) → k ≡ Split input stripped debug → ⊥

abbrev NoShow : Command → Type 0
NoShow k = (file : List ℕ) (debug : Option (List ℕ)) → k ≡ Show file debug → ⊥

abbrev NoUnstrip : Command → Type 0
NoUnstrip k = (stripped debug output : List ℕ) → k ≡ Unstrip stripped debug output → ⊥

abbrev NoRun : Command → Type 0
NoRun k = (root : List ℕ) (o : Settings) (jobs : ℕ) → k ≡ Run root o jobs → ⊥

abbrev NoGather : Command → Type 0
NoGather k = (root from dest : List ℕ) (jobs : ℕ) → k ≡ Gather root from dest jobs → ⊥

abbrev NoExercise : Command → Type 0
NoExercise k = (seed units : ℕ) → k ≡ Exercise seed units → ⊥

only_these : (c k : Command) (t : Bool) → is_built c ≡ t → Some k ≡ (if t then Some c else None) → NoEdit k → NoSplit k → NoShow k → NoUnstrip k → NoRun k → NoGather k → NoExercise k → ⊥
only_these c k false e is edit split show unstrip run gather exercise = cc
only_these (Edit input output o list) k true e is edit split show unstrip run gather exercise = let same : k ≡ Edit input output o list = cc in edit input output o list same
only_these (Split input stripped debug) k true e is edit split show unstrip run gather exercise = let same : k ≡ Split input stripped debug = cc in split input stripped debug same
only_these (Run root o jobs) k true e is edit split show unstrip run gather exercise = let same : k ≡ Run root o jobs = cc in run root o jobs same
only_these (Show file debug) k true e is edit split show unstrip run gather exercise = let same : k ≡ Show file debug = cc in show file debug same
only_these (Unstrip stripped debug output) k true e is edit split show unstrip run gather exercise =
    let same : k ≡ Unstrip stripped debug output = cc in unstrip stripped debug output same
only_these (Check input stripped debug maps) k true e is edit split show unstrip run gather exercise = cc
only_these (Gather root from dest jobs) k true e is edit split show unstrip run gather exercise =
    let same : k ≡ Gather root from dest jobs = cc in gather root from dest jobs same
only_these (Exercise seed units) k true e is edit split show unstrip run gather exercise =
    let same : k ≡ Exercise seed units = cc in exercise seed units same

built_from : (o : Option Command) (k : Command) → Some k ≡ option_and_then if_built o → NoEdit k → NoSplit k → NoShow k → NoUnstrip k → NoRun k → NoGather k → NoExercise k → ⊥
built_from None k is edit split show unstrip run gather exercise = cc
built_from (Some c) k is edit split show unstrip run gather exercise = only_these c k (is_built c) refl is edit split show unstrip run gather exercise

pub built_these : (words : List (List ℕ)) (k : Command) → Some k ≡ built words → NoEdit k → NoSplit k → NoShow k → NoUnstrip k → NoRun k → NoGather k → NoExercise k → ⊥
unfolding built
built_these words k is edit split show unstrip run gather exercise = built_from (command words) k is edit split show unstrip run gather exercise

-- ### The second output's path is another one than the first's

-- this holds of what is there
abbrev pub All : {A : Type 0} → (A → Type 0) → Option A → Type 0
All P None = ⊤
All P (Some x) = P x

pub any : {A : Type 0} (x : Option A) → All (λ (a : A). ⊤) x
any None = tt
any (Some a) = tt

pub all_then : {A B : Type 0} (Q : A → Type 0) (P : B → Type 0) (f : A → Option B) (x : Option A) → All Q x → ((a : A) → Q a → All P (f a)) → All P (option_and_then f x)
all_then Q P f None q step = tt
all_then Q P f (Some a) q step = step a q

pub all_map : {A B : Type 0} (Q : A → Type 0) (P : B → Type 0) (f : A → B) (x : Option A) → All Q x → ((a : A) → Q a → P (f a)) → All P (option_map f x)
all_map Q P f None q step = tt
all_map Q P f (Some a) q step = step a q

pub all_if : {A : Type 0} (P : A → Type 0) (t : Bool) (x y : Option A) → All P x → All P y → All P (if t then x else y)
all_if P true x y one other = one
all_if P false x y one other = other

-- the path of a list isn't that of the output, nor a debug file's that of the stripped file
abbrev IsApart : Command → Type 0
IsApart (Edit input output o (Some list)) = list ≢ output
IsApart (Split input stripped debug) = debug ≢ stripped
IsApart c = ⊤

unless_apart : (p q path : List ℕ) → All (λ w. w ≢ q) (unless_among p q path)
unless_apart p q path = by_tests (same_text path p) (same_text path q) refl
  where
    by_tests : (a b : Bool) → same_text path q ≡ b → All (λ w. w ≢ q) (if a || b then None else Some path)
    by_tests true b e = tt
    by_tests false true e = tt
    by_tests false false e = λ is. true≢false (sym (same_text-from path q is) ∙ e)

other_apart : (p q word : List ℕ) → All (λ w. w ≢ q) (other_path p q word)
other_apart p q word = all_then (λ a. ⊤) (λ w. w ≢ q) (unless_among p q) (path_named word) (any (path_named word)) (λ path _. unless_apart p q path)

list_apart : (p : List ℕ × List ℕ) (word : Option (List ℕ)) → All (All (λ w. w ≢ p.1)) (list_path p word)
list_apart p None = tt
list_apart p (Some word) = all_map (λ w. w ≢ p.1) (All (λ w. w ≢ p.1)) (λ list. Some list) (other_path p.0 p.1 word) (other_apart p.0 p.1 word) (λ list apart. apart)

listed_edit : (l : CommandLine) (p : List ℕ × List ℕ) (list : Option (List ℕ)) → All (λ w. w ≢ p.1) list → All IsApart (edit_listed l p list)
listed_edit l p None apart = all_map (λ a. ⊤) IsApart (λ o. Edit p.0 p.1 o None) (settings_of l) (any (settings_of l)) (λ o _. tt)
listed_edit l p (Some list) apart = all_map (λ a. ⊤) IsApart (λ o. Edit p.0 p.1 o (Some list)) (settings_of l) (any (settings_of l)) (λ o _. apart)

edit_apart : (l : CommandLine) → All IsApart (edit_of l)
unfolding edit_of
edit_apart l =
    all_if IsApart (is_some l.jobs || l.skip_refused) None (option_and_then (edit_named l) (two_of l.paths)) tt
    (all_then (λ a. ⊤) IsApart (edit_named l) (two_of l.paths) (any (two_of l.paths)) (λ w _.
    all_then (λ a. ⊤) IsApart (edit_paths l) (two_paths w) (any (two_paths w)) (λ p _.
    all_then (All (λ x. x ≢ p.1)) IsApart (edit_listed l p) (list_path p l.list_file) (list_apart p l.list_file) (λ list apart. listed_edit l p list apart))))

split_apart : (l : CommandLine) → All IsApart (split_of l)
unfolding split_of
split_apart l =
    all_if IsApart (is_bare l) (option_and_then split_named (three_of l.paths)) None
    (all_then (λ a. ⊤) IsApart split_named (three_of l.paths) (any (three_of l.paths)) (λ w _.
    all_then (λ a. ⊤) IsApart (split_paths w.2) (two_paths (w.0, w.1)) (any (two_paths (w.0, w.1))) (λ p _.
    all_map (λ x. x ≢ p.1) IsApart (λ debug. Split p.0 p.1 debug) (other_path p.0 p.1 w.2) (other_apart p.0 p.1 w.2) (λ debug apart. apart)))) tt

run_apart : (l : CommandLine) → All IsApart (run_of l)
unfolding run_of
run_apart l =
    all_if IsApart (is_some l.list_file || l.grow_inline) None (option_and_then (run_named l) (one_of l.paths)) tt
    (all_then (λ a. ⊤) IsApart (run_named l) (one_of l.paths) (any (one_of l.paths)) (λ w _.
    all_then (λ a. ⊤) IsApart (run_below l) (path_named w) (any (path_named w)) (λ root _.
    all_then (λ a. ⊤) IsApart (run_settled l root) (settings_of l) (any (settings_of l)) (λ o _.
    all_map (λ a. ⊤) IsApart (λ jobs. Run root o jobs) (number_or 1 64 1 l.jobs) (any (number_or 1 64 1 l.jobs)) (λ jobs _. tt)))))

show_apart : (l : CommandLine) → All IsApart (show_of l)
unfolding show_of
show_apart l = all_if IsApart (is_bare l) (show_named l.paths (two_of l.paths)) None (by_paths (two_of l.paths)) tt
  where
    by_paths : (w : Option (List ℕ × List ℕ)) → All IsApart (show_named l.paths w)
    by_paths (Some w) = all_map (λ a. ⊤) IsApart (λ p. Show p.0 (Some p.1)) (two_paths w) (any (two_paths w)) (λ p _. tt)
    by_paths None = all_then (λ a. ⊤) IsApart show_one (one_of l.paths) (any (one_of l.paths)) (λ w _.
        all_map (λ a. ⊤) IsApart (λ file. Show file None) (path_named w) (any (path_named w)) (λ file _. tt))

unstrip_apart : (l : CommandLine) → All IsApart (unstrip_of l)
unfolding unstrip_of
unstrip_apart l =
    all_if IsApart (is_bare l) (option_and_then unstrip_named (three_of l.paths)) None
    (all_then (λ a. ⊤) IsApart unstrip_named (three_of l.paths) (any (three_of l.paths)) (λ w _.
    all_then (λ a. ⊤) IsApart (unstrip_paths w.2) (two_paths (w.0, w.1)) (any (two_paths (w.0, w.1))) (λ p _.
    all_map (λ a. ⊤) IsApart (λ output. Unstrip p.0 p.1 output) (other_path p.0 p.1 w.2) (any (other_path p.0 p.1 w.2)) (λ output _. tt)))) tt

check_apart : (l : CommandLine) → All IsApart (check_of l)
unfolding check_of
check_apart l =
    all_if IsApart (has_no_job l) (option_and_then (check_named l) (three_of l.paths)) None
    (all_then (λ a. ⊤) IsApart (check_named l) (three_of l.paths) (any (three_of l.paths)) (λ w _.
    all_then (λ a. ⊤) IsApart (check_paths l w.2) (two_paths (w.0, w.1)) (any (two_paths (w.0, w.1))) (λ p _.
    all_then (λ a. ⊤) IsApart (check_mapped l p) (other_path p.0 p.1 w.2) (any (other_path p.0 p.1 w.2)) (λ debug _.
    all_map (λ a. ⊤) IsApart (λ maps. Check p.0 p.1 debug maps) (maps_of l) (any (maps_of l)) (λ maps _. tt))))) tt

gather_apart : (l : CommandLine) → All IsApart (gather_of l)
unfolding gather_of
gather_apart l =
    all_if IsApart (has_dest_alone l) (option_and_then (gather_named l) (two_of l.paths)) None
    (all_then (λ a. ⊤) IsApart (gather_named l) (two_of l.paths) (any (two_of l.paths)) (λ w _.
    all_then (λ a. ⊤) IsApart (gather_paths l) (two_paths w) (any (two_paths w)) (λ p _.
    all_if IsApart (are_apart p) (option_and_then (gather_into l p) (target_of l.dest_dir)) None
    (all_then (λ a. ⊤) IsApart (gather_into l p) (target_of l.dest_dir) (any (target_of l.dest_dir)) (λ dest _.
    all_map (λ a. ⊤) IsApart (λ jobs. Gather p.0 p.1 dest jobs) (number_or 1 64 1 l.jobs) (any (number_or 1 64 1 l.jobs)) (λ jobs _. tt))) tt))) tt

exercise_apart : (l : CommandLine) → All IsApart (exercise_of l)
unfolding exercise_of
exercise_apart l =
    all_if IsApart (is_bare l) (option_and_then exercise_named (two_of l.paths)) None
    (all_then (λ a. ⊤) IsApart exercise_named (two_of l.paths) (any (two_of l.paths)) (λ w _.
    all_then (λ a. ⊤) IsApart (exercise_seeded w.1) (number_within 0 18446744073709551615 w.0) (any (number_within 0 18446744073709551615 w.0)) (λ seed _.
    all_map (λ a. ⊤) IsApart (λ units. Exercise seed units) (number_within 1 10000 w.1) (any (number_within 1 10000 w.1)) (λ units _. tt)))) tt

named_apart : (name : List ℕ) (l : CommandLine) → All IsApart (command_named name l)
unfolding command_named
named_apart name l =
    all_if IsApart (same_text name (codes "edit")) (edit_of l) _ (edit_apart l)
    (all_if IsApart (same_text name (codes "split")) (split_of l) _ (split_apart l)
    (all_if IsApart (same_text name (codes "run")) (run_of l) _ (run_apart l)
    (all_if IsApart (same_text name (codes "show")) (show_of l) _ (show_apart l)
    (all_if IsApart (same_text name (codes "unstrip")) (unstrip_of l) _ (unstrip_apart l)
    (all_if IsApart (same_text name (codes "check")) (check_of l) _ (check_apart l)
    (all_if IsApart (same_text name (codes "gather")) (gather_of l) _ (gather_apart l)
    (all_if IsApart (same_text name (codes "exercise")) (exercise_of l) None (exercise_apart l) tt)))))))

command_apart : (words : List (List ℕ)) → All IsApart (command words)
unfolding command
command_apart [] = tt
command_apart (name ∷ rest) =
    all_if IsApart (list_any has_nul (name ∷ rest)) None (option_and_then (command_named name) (command_line rest)) tt
    (all_then (λ a. ⊤) IsApart (command_named name) (command_line rest) (any (command_line rest)) (λ l _. named_apart name l))

built_apart : (words : List (List ℕ)) → All IsApart (built words)
unfolding built
built_apart words =
    all_then IsApart IsApart if_built (command words) (command_apart words) (λ c apart. all_if IsApart (is_built c) (Some c) None apart tt)

pub listed_apart : (words : List (List ℕ)) (input output list : List ℕ) (o : Settings) → built words ≡ Some (Edit input output o (Some list)) → list ≢ output
listed_apart words input output list o is = subst (All IsApart) is (built_apart words)

pub parts_apart : (words : List (List ℕ)) (input stripped debug : List ℕ) → built words ≡ Some (Split input stripped debug) → debug ≢ stripped
parts_apart words input stripped debug is = subst (All IsApart) is (built_apart words)
