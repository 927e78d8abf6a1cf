-- No path of a command holds a NUL, and neither does the name of a file at it: no word holds one.
use Rattle.std.proofs.Common.{◌≡◌, ℕ, zero, suc, ◌+◌, Bool, true, false, ◌==◌, ◌||◌, List, [], ◌∷◌, map, take, drop, length, Option, Some, None, refl, subst, cond}
use Rattle.std.specs.Prelude.{if◌then◌else◌, codes, filter, is_some, option_and_then, option_map, unwrap_or, ⊤}
use Rattle.std.specs.Option.{option_flatten}
use Rattle.std.specs.List.{AllByRecursion, join_with_byte, list_any, slice_split, onto_first}
use Rattle.std.specs.Path.{cur_dir, parent_dir, normal_name, parent_and_last, path_file_name, rfind_below, root_dir, rsplit_once, split_last_component, trim_trailing, trimmed_len}
use Rattle.std.specs.Str.{bytes_eq}
use Rattle.dw_base.specs.Paths.{slash}
use Rattle.dw_base.specs.Texts.{has_nul, is_in, same_text}
use Rattle.dw_base.proofs.TextLaws.{has_nul-append_false, has_nul-drop}
use Rattle.dbg_words.specs.CommandLines.{CommandLine, Look, Part, begins_with_dash, command_line, flags, line_if_fit, line_of_parts, look_of, option_parts, parts_of, paths_of, valued_options, with_part, word_parts, are_fit}
use Rattle.dbg_words.specs.CommandLines.Look.{plain, ending, optional, short}
use Rattle.dbg_words.specs.CommandLines.Part.{path, value, flag}
use Rattle.dbg_words.specs.PathWords.{cleaned, components, is_kept, is_path_word, is_rooted, kept_components, path_named}
use Rattle.dbg_words.specs.Decimals.{number_within}
use Rattle.dbg_words.specs.Words.{command, command_named, edit_listed, edit_named, edit_of, edit_paths, exercise_named, exercise_of, exercise_seeded, is_bare, list_path, number_or, one_of, other_path, run_below, run_named, run_of, run_settled, settings_of, show_named, show_of, show_one, split_named, split_of, split_paths, three_of, two_of, two_paths, unless_among, unstrip_named, unstrip_of, unstrip_paths, are_apart, check_mapped, check_named, check_of, check_paths, gather_into, gather_named, gather_of, gather_paths, has_dest_alone, has_no_job, maps_of, target_of}
use Rattle.dbg_words.specs.declared.command.Command.{Command}
use Rattle.dbg_words.specs.declared.command.Command.TheVariants.{Edit, Split, Run, Show, Unstrip, Check, Gather, Exercise}
use Rattle.dbg_run.specs.Built.{built, if_built, is_built}
use Rattle.dbg_run.specs.Shows.{base_name}
use Rattle.dbg_run.proofs.BuiltLaws.{All, all_if, all_map, all_then, any}

abbrev pub IsBare : List ℕ → Type 0
IsBare bytes = has_nul bytes ≡ false

abbrev pub AreBare : List (List ℕ) → Type 0
AreBare words = AllByRecursion IsBare words

both : (a b : Bool) → (a || b) ≡ false → (a ≡ false) × (b ≡ false)
both false b e = (refl, e)
both true b e = cc

one-more : (x : ℕ) (xs : List ℕ) → (x == 0) ≡ false → IsBare xs → IsBare (x ∷ xs)
one-more x xs e f = rw (e, f) refl

bare-take : (n : ℕ) (xs : List ℕ) → IsBare xs → IsBare (take n xs)
bare-take zero xs e = refl
bare-take (suc n) [] e = refl
bare-take (suc n) (x ∷ xs) e = let p = both (x == 0) (has_nul xs) e in one-more x (take n xs) p.0 (bare-take n xs p.1)

-- ### The paths among words

pub words-bare : (ws : List (List ℕ)) → list_any has_nul ws ≡ false → AreBare ws
words-bare [] e = tt
words-bare (w ∷ ws) e = let p = both (has_nul w) (list_any has_nul ws) e in (p.0, words-bare ws p.1)

abbrev PathsBare : List Part → Type 0
PathsBare ps = AreBare (paths_of ps)

with-path : (w : List ℕ) (o : Option (List Part)) → IsBare w → All PathsBare o → All PathsBare (with_part (path w) o)
with-path w None b a = tt
with-path w (Some ps) b a = (b, a)

with-value : (name text : List ℕ) (o : Option (List Part)) → All PathsBare o → All PathsBare (with_part (value name text) o)
with-value name text None a = tt
with-value name text (Some ps) a = a

with-flag : (name : List ℕ) (o : Option (List Part)) → All PathsBare o → All PathsBare (with_part (flag name) o)
with-flag name None a = tt
with-flag name (Some ps) a = a

all-paths : (ws : List (List ℕ)) → AreBare ws → PathsBare (map path ws)
all-paths [] a = tt
all-paths (w ∷ ws) a = (a.0, all-paths ws a.1)

option-bare : (name : List ℕ) (text : Option (List ℕ)) (rest : Option (List ℕ) → Option (List Part)) → ((n : Option (List ℕ)) → All PathsBare (rest n))
    → All PathsBare (option_parts name text rest)
option-bare name (Some text) rest r =
    all_if PathsBare (is_in valued_options name) (with_part (value name text) (rest None)) None (with-value name text (rest None) (r None)) tt
option-bare name None rest r =
    all_if PathsBare (is_in valued_options name) (rest (Some name)) (if is_in flags name then with_part (flag name) (rest None) else None) (r (Some name))
    (all_if PathsBare (is_in flags name) (with_part (flag name) (rest None)) None (with-flag name (rest None) (r None)) tt)

word-bare : (l : Look) (w : List ℕ) (ws : List (List ℕ)) (rest : Option (List ℕ) → Option (List Part)) → IsBare w → AreBare ws
    → ((n : Option (List ℕ)) → All PathsBare (rest n)) → All PathsBare (word_parts l w ws rest)
word-bare plain w ws rest b bs r = with-path w (rest None) b (r None)
word-bare ending w ws rest b bs r = all-paths ws bs
word-bare (optional name text) w ws rest b bs r = option-bare name text rest r
word-bare short w ws rest b bs r = tt

parts-bare : (ws : List (List ℕ)) (name : Option (List ℕ)) → AreBare ws → All PathsBare (parts_of ws name)
unfolding parts_of
parts-bare [] None bs = tt
parts-bare [] (Some name) bs = tt
parts-bare (w ∷ ws) None bs = word-bare (look_of w) w ws (parts_of ws) bs.0 bs.1 (λ n. parts-bare ws n bs.1)
parts-bare (w ∷ ws) (Some name) bs =
    all_if PathsBare (begins_with_dash w) None (with_part (value name w) (parts_of ws None)) tt (with-value name w (parts_of ws None) (parts-bare ws None bs.1))

abbrev pub LineBare : CommandLine → Type 0
LineBare l = AreBare l.paths

pub line-bare : (ws : List (List ℕ)) → AreBare ws → All LineBare (command_line ws)
unfolding command_line
line-bare ws bs =
    all_then PathsBare LineBare line_if_fit (parts_of ws None) (parts-bare ws None bs)
    (λ ps b. all_if LineBare (are_fit ps) (Some (line_of_parts ps)) None b tt)

-- ### Their cleaned forms

first-bare : (x : ℕ) (parts : List (List ℕ)) → (x == 0) ≡ false → AreBare parts → AreBare (onto_first x parts)
first-bare x [] e bs = (one-more x [] e refl, tt)
first-bare x (p ∷ ps) e bs = (one-more x p e bs.0, bs.1)

split-bare : (p : ℕ → Bool) (xs : List ℕ) → IsBare xs → AreBare (slice_split p xs)
split-bare p [] e = (refl, tt)
split-bare p (x ∷ xs) e =
    let parts = both (x == 0) (has_nul xs) e in
    let rest = split-bare p xs parts.1 in
    by_test (p x) ([] ∷ slice_split p xs) (onto_first x (slice_split p xs)) (refl, rest) (first-bare x (slice_split p xs) parts.0 rest)
  where
    by_test : (t : Bool) (one other : List (List ℕ)) → AreBare one → AreBare other → AreBare (cond t one other)
    by_test true one other a b = a
    by_test false one other a b = b

filter-bare : (p : List ℕ → Bool) (ws : List (List ℕ)) → AreBare ws → AreBare (filter p ws)
filter-bare p [] bs = tt
filter-bare p (w ∷ ws) bs = by_test (p w) (filter-bare p ws bs.1)
  where
    by_test : (t : Bool) → AreBare (filter p ws) → AreBare (cond t (w ∷ filter p ws) (filter p ws))
    by_test true rest = (bs.0, rest)
    by_test false rest = rest

join-bare : (ws : List (List ℕ)) → AreBare ws → IsBare (join_with_byte slash ws)
join-bare [] bs = refl
join-bare (w ∷ []) bs = bs.0
join-bare (w ∷ v ∷ ws) bs =
    has_nul-append_false w (slash ∷ join_with_byte slash (v ∷ ws)) bs.0 (one-more slash (join_with_byte slash (v ∷ ws)) refl (join-bare (v ∷ ws) bs.1))

cleaned-bare : (w : List ℕ) → IsBare w → IsBare (cleaned w)
unfolding cleaned
cleaned-bare w b =
    let inner : IsBare (join_with_byte slash (kept_components w)) = join-bare (kept_components w) (filter-bare is_kept (components w) (split-bare (λ c. c == slash) w b)) in
    by_root (is_rooted w) (join_with_byte slash (kept_components w)) inner
  where
    by_root : (t : Bool) (xs : List ℕ) → IsBare xs → IsBare (if t then slash ∷ xs else xs)
    by_root true xs e = one-more slash xs refl e
    by_root false xs e = e

pub named-bare : (w : List ℕ) → IsBare w → All IsBare (path_named w)
named-bare w b = all_if IsBare (is_path_word w) (Some (cleaned w)) None (cleaned-bare w b) tt

-- the same of two words and the two paths that they name
pub pair-bare : (ws : List (List ℕ)) → AreBare ws → All (λ w. IsBare w.0 × IsBare w.1) (two_of ws)
pair-bare [] bs = tt
pair-bare (a ∷ []) bs = tt
pair-bare (a ∷ b ∷ []) bs = (bs.0, bs.1.0)
pair-bare (a ∷ b ∷ c ∷ ws) bs = tt

-- ### The name of the file at a path

last-bare : (t : List ℕ) (o : Option (List ℕ × List ℕ)) → IsBare t → All (λ s. IsBare s.1) o → IsBare (parent_and_last t o).1
last-bare t None b a = b
last-bare t (Some s) b a = a

behind-bare : (t : List ℕ) → IsBare t → All (λ s. IsBare s.1) (rsplit_once slash t)
unfolding rsplit_once
behind-bare t b =
    all_map (λ i. ⊤) (λ s. IsBare s.1) (λ i. (take i t, drop (i + 1) t)) (rfind_below slash t (length t)) (any (rfind_below slash t (length t)))
    (λ i _. has_nul-drop (i + 1) t b)

component-bare : (p : List ℕ) → IsBare p → All (λ s. IsBare s.1) (split_last_component p)
unfolding split_last_component trim_trailing
component-bare p b =
    let t = take (trimmed_len p (length p)) p in
    let bare : IsBare (take (trimmed_len p (length p)) p) = bare-take (trimmed_len p (length p)) p b in
    all_if (λ s. IsBare s.1) (length (take (trimmed_len p (length p)) p) == 0 || bytes_eq (take (trimmed_len p (length p)) p) root_dir) None
    (Some (parent_and_last (take (trimmed_len p (length p)) p) (rsplit_once slash (take (trimmed_len p (length p)) p)))) tt
    (last-bare (take (trimmed_len p (length p)) p) (rsplit_once slash (take (trimmed_len p (length p)) p)) bare (behind-bare (take (trimmed_len p (length p)) p) bare))

normal-bare : (last : List ℕ) → IsBare last → All IsBare (normal_name last)
normal-bare last b = all_if IsBare (bytes_eq last cur_dir || bytes_eq last parent_dir) None (Some last) tt b

file_name-bare : (o : Option (List ℕ × List ℕ)) → All (λ s. IsBare s.1) o → All IsBare (option_flatten (option_map (λ s. normal_name s.1) o))
file_name-bare None a = tt
file_name-bare (Some s) a = normal-bare s.1 a

unwrap-bare : (o : Option (List ℕ)) (p : List ℕ) → All IsBare o → IsBare p → IsBare (unwrap_or o p)
unwrap-bare None p a b = b
unwrap-bare (Some x) p a b = a

pub base-bare : (p : List ℕ) → IsBare p → IsBare (base_name p)
unfolding base_name path_file_name
base-bare p b =
    unwrap-bare (option_flatten (option_map (λ s. normal_name s.1) (split_last_component p))) p (file_name-bare (split_last_component p) (component-bare p b)) b

-- ### The debug file of a split

abbrev DebugBare : Command → Type 0
DebugBare (Split input stripped debug) = IsBare debug
DebugBare c = ⊤

pub other-bare : (p q w : List ℕ) → IsBare w → All IsBare (other_path p q w)
other-bare p q w b =
    all_then IsBare IsBare (unless_among p q) (path_named w) (named-bare w b)
    (λ x bare. all_if IsBare (same_text x p || same_text x q) None (Some x) tt bare)

third-bare : (ws : List (List ℕ)) → AreBare ws → All (λ w. IsBare w.2) (three_of ws)
third-bare [] bs = tt
third-bare (a ∷ []) bs = tt
third-bare (a ∷ b ∷ []) bs = tt
third-bare (a ∷ b ∷ c ∷ []) bs = bs.1.1.0
third-bare (a ∷ b ∷ c ∷ d ∷ ws) bs = tt

split-of-bare : (l : CommandLine) → LineBare l → All DebugBare (split_of l)
unfolding split_of
split-of-bare l bs =
    all_if DebugBare (is_bare l) (option_and_then split_named (three_of l.paths)) None
    (all_then (λ w. IsBare w.2) DebugBare split_named (three_of l.paths) (third-bare l.paths bs) (λ w third.
    all_then (λ a. ⊤) DebugBare (split_paths w.2) (two_paths (w.0, w.1)) (any (two_paths (w.0, w.1))) (λ p _.
    all_map IsBare DebugBare (λ debug. Split p.0 p.1 debug) (other_path p.0 p.1 w.2) (other-bare p.0 p.1 w.2 third) (λ debug bare. bare)))) tt

listed-free : (l : CommandLine) (p : List ℕ × List ℕ) (list : Option (List ℕ)) → All DebugBare (edit_listed l p list)
listed-free l p None = all_map (λ a. ⊤) DebugBare (λ o. Edit p.0 p.1 o None) (settings_of l) (any (settings_of l)) (λ o _. tt)
listed-free l p (Some list) = all_map (λ a. ⊤) DebugBare (λ o. Edit p.0 p.1 o (Some list)) (settings_of l) (any (settings_of l)) (λ o _. tt)

edit-free : (l : CommandLine) → All DebugBare (edit_of l)
unfolding edit_of
edit-free l =
    all_if DebugBare (is_some l.jobs || l.skip_refused) None (option_and_then (edit_named l) (two_of l.paths)) tt
    (all_then (λ a. ⊤) DebugBare (edit_named l) (two_of l.paths) (any (two_of l.paths)) (λ w _.
    all_then (λ a. ⊤) DebugBare (edit_paths l) (two_paths w) (any (two_paths w)) (λ p _.
    all_then (λ a. ⊤) DebugBare (edit_listed l p) (list_path p l.list_file) (any (list_path p l.list_file)) (λ list _. listed-free l p list))))

run-free : (l : CommandLine) → All DebugBare (run_of l)
unfolding run_of
run-free l =
    all_if DebugBare (is_some l.list_file || l.grow_inline) None (option_and_then (run_named l) (one_of l.paths)) tt
    (all_then (λ a. ⊤) DebugBare (run_named l) (one_of l.paths) (any (one_of l.paths)) (λ w _.
    all_then (λ a. ⊤) DebugBare (run_below l) (path_named w) (any (path_named w)) (λ root _.
    all_then (λ a. ⊤) DebugBare (run_settled l root) (settings_of l) (any (settings_of l)) (λ o _.
    all_map (λ a. ⊤) DebugBare (λ jobs. Run root o jobs) (number_or 1 64 1 l.jobs) (any (number_or 1 64 1 l.jobs)) (λ jobs _. tt)))))

show-free : (l : CommandLine) → All DebugBare (show_of l)
unfolding show_of
show-free l = all_if DebugBare (is_bare l) (show_named l.paths (two_of l.paths)) None (by_paths (two_of l.paths)) tt
  where
    by_paths : (w : Option (List ℕ × List ℕ)) → All DebugBare (show_named l.paths w)
    by_paths (Some w) = all_map (λ a. ⊤) DebugBare (λ p. Show p.0 (Some p.1)) (two_paths w) (any (two_paths w)) (λ p _. tt)
    by_paths None = all_then (λ a. ⊤) DebugBare show_one (one_of l.paths) (any (one_of l.paths)) (λ w _.
        all_map (λ a. ⊤) DebugBare (λ file. Show file None) (path_named w) (any (path_named w)) (λ file _. tt))

unstrip-free : (l : CommandLine) → All DebugBare (unstrip_of l)
unfolding unstrip_of
unstrip-free l =
    all_if DebugBare (is_bare l) (option_and_then unstrip_named (three_of l.paths)) None
    (all_then (λ a. ⊤) DebugBare unstrip_named (three_of l.paths) (any (three_of l.paths)) (λ w _.
    all_then (λ a. ⊤) DebugBare (unstrip_paths w.2) (two_paths (w.0, w.1)) (any (two_paths (w.0, w.1))) (λ p _.
    all_map (λ a. ⊤) DebugBare (λ output. Unstrip p.0 p.1 output) (other_path p.0 p.1 w.2) (any (other_path p.0 p.1 w.2)) (λ output _. tt)))) tt

check-free : (l : CommandLine) → All DebugBare (check_of l)
unfolding check_of
check-free l =
    all_if DebugBare (has_no_job l) (option_and_then (check_named l) (three_of l.paths)) None
    (all_then (λ a. ⊤) DebugBare (check_named l) (three_of l.paths) (any (three_of l.paths)) (λ w _.
    all_then (λ a. ⊤) DebugBare (check_paths l w.2) (two_paths (w.0, w.1)) (any (two_paths (w.0, w.1))) (λ p _.
    all_then (λ a. ⊤) DebugBare (check_mapped l p) (other_path p.0 p.1 w.2) (any (other_path p.0 p.1 w.2)) (λ debug _.
    all_map (λ a. ⊤) DebugBare (λ maps. Check p.0 p.1 debug maps) (maps_of l) (any (maps_of l)) (λ maps _. tt))))) tt

gather-free : (l : CommandLine) → All DebugBare (gather_of l)
unfolding gather_of
gather-free l =
    all_if DebugBare (has_dest_alone l) (option_and_then (gather_named l) (two_of l.paths)) None
    (all_then (λ a. ⊤) DebugBare (gather_named l) (two_of l.paths) (any (two_of l.paths)) (λ w _.
    all_then (λ a. ⊤) DebugBare (gather_paths l) (two_paths w) (any (two_paths w)) (λ p _.
    all_if DebugBare (are_apart p) (option_and_then (gather_into l p) (target_of l.dest_dir)) None
    (all_then (λ a. ⊤) DebugBare (gather_into l p) (target_of l.dest_dir) (any (target_of l.dest_dir)) (λ dest _.
    all_map (λ a. ⊤) DebugBare (λ jobs. Gather p.0 p.1 dest jobs) (number_or 1 64 1 l.jobs) (any (number_or 1 64 1 l.jobs)) (λ jobs _. tt))) tt))) tt

exercise-free : (l : CommandLine) → All DebugBare (exercise_of l)
unfolding exercise_of
exercise-free l =
    all_if DebugBare (is_bare l) (option_and_then exercise_named (two_of l.paths)) None
    (all_then (λ a. ⊤) DebugBare exercise_named (two_of l.paths) (any (two_of l.paths)) (λ w _.
    all_then (λ a. ⊤) DebugBare (exercise_seeded w.1) (number_within 0 18446744073709551615 w.0) (any (number_within 0 18446744073709551615 w.0)) (λ seed _.
    all_map (λ a. ⊤) DebugBare (λ units. Exercise seed units) (number_within 1 10000 w.1) (any (number_within 1 10000 w.1)) (λ units _. tt)))) tt

named-free : (name : List ℕ) (l : CommandLine) → LineBare l → All DebugBare (command_named name l)
unfolding command_named
named-free name l bs =
    all_if DebugBare (same_text name (codes "edit")) (edit_of l) _ (edit-free l)
    (all_if DebugBare (same_text name (codes "split")) (split_of l) _ (split-of-bare l bs)
    (all_if DebugBare (same_text name (codes "run")) (run_of l) _ (run-free l)
    (all_if DebugBare (same_text name (codes "show")) (show_of l) _ (show-free l)
    (all_if DebugBare (same_text name (codes "unstrip")) (unstrip_of l) _ (unstrip-free l)
    (all_if DebugBare (same_text name (codes "check")) (check_of l) _ (check-free l)
    (all_if DebugBare (same_text name (codes "gather")) (gather_of l) _ (gather-free l)
    (all_if DebugBare (same_text name (codes "exercise")) (exercise_of l) None (exercise-free l) tt)))))))

command-bare : (words : List (List ℕ)) → All DebugBare (command words)
unfolding command
command-bare [] = tt
command-bare (name ∷ rest) = by_nul (list_any has_nul (name ∷ rest)) refl
  where
    behind : (n r : Bool) → (n || r) ≡ false → r ≡ false
    behind false r e = e
    behind true r e = cc

    by_nul : (t : Bool) → list_any has_nul (name ∷ rest) ≡ t → All DebugBare (if t then None else option_and_then (command_named name) (command_line rest))
    by_nul true e = tt
    by_nul false e =
        all_then LineBare DebugBare (command_named name) (command_line rest) (line-bare rest (words-bare rest (behind (has_nul name) (list_any has_nul rest) e)))
        (λ l bs. named-free name l bs)

built-bare : (words : List (List ℕ)) → All DebugBare (built words)
unfolding built
built-bare words =
    all_then DebugBare DebugBare if_built (command words) (command-bare words) (λ c bare. all_if DebugBare (is_built c) (Some c) None bare tt)

pub debug-name-bare : (words : List (List ℕ)) (input stripped debug : List ℕ) → built words ≡ Some (Split input stripped debug) → IsBare (base_name debug)
debug-name-bare words input stripped debug is = base-bare debug (subst (All DebugBare) is (built-bare words))
