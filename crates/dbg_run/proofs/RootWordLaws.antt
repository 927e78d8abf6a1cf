-- What the words of a run or of a gather say: 1 to 64 of its jobs are in work at a time, and its seed has no NUL, as no word has one; what a
-- gather asks for may be asked for. An exercise is of 1 to 10,000 units.
use Rattle.std.proofs.Common.{◌≡◌, ℕ, ◌≤◌, ◌<◌, ◌+◌, Bool, true, false, not, ◌&&◌, ◌||◌, ◌==◌, drop, nat_eq, List, [], ◌∷◌, ◌++◌, map, Option, Some, None, refl, sym, ap, subst, arith, lit≤}
use Rattle.std.specs.Prelude.{if◌then◌else◌, codes, encode_utf8, is_some, nat_le, option_and_then, unwrap_or, ⊤}
use Rattle.std.specs.List.{AllByRecursion, list_any, position_or_len, starts_with}
use Rattle.std.specs.Str.{is_utf8}
use Rattle.std.specs.Str.Parse.{digits_value}
use Rattle.std.proofs.lemmas.Bool.{and_from, leb-true}
use Rattle.std.proofs.lemmas.Str.{IsUtf8-from_is_utf8, IsUtf8-past_char, encode_ascii, is_utf8-from_IsUtf8}
use Rattle.dw_base.specs.Paths.{PathMap, is_prefix, lies_under, slash, without_end_slashes}
use Rattle.dw_base.proofs.PathLaws.{is_prefix-parts, is_prefix-without_end_slashes, without_end_slashes-again}
use Rattle.dw_paths.specs.PlainPaths.{is_plain}
use Rattle.dw_base.specs.Texts.{has_nul, is_in, same_text}
use Rattle.dw_base.proofs.TextLaws.{has_nul-drop}
use Rattle.job_types.specs.Settings.{HasKey, Settings, most_file}
use Rattle.dbg_words.specs.CommandLines.{CommandLine, Look, Part, are_fit, attached, begins_with_dash, command_line, dash, equals_sign, flags, line_if_fit, line_of_parts, look_behind_one, look_behind_two, look_of, option_parts, parts_of, valued_options, value_of, with_part, word_parts}
use Rattle.dbg_words.specs.CommandLines.Look.{plain, ending, optional, short}
use Rattle.dbg_words.specs.CommandLines.Part.{path, value, flag}
use Rattle.dbg_words.specs.Decimals.{is_decimal, number_within}
use Rattle.dbg_words.specs.PathWords.{path_named}
use Rattle.dbg_words.specs.Words.{command, command_named, edit_listed, edit_named, edit_of, edit_paths, exercise_named, exercise_of, exercise_seeded, is_bare, list_path, number_or, one_of, other_path, run_below, run_named, run_of, run_settled, settings_limited, settings_mapped, settings_of, show_named, show_of, show_one, split_named, split_of, split_paths, three_of, two_of, two_paths, unstrip_named, unstrip_of, unstrip_paths, are_apart, check_mapped, check_named, check_of, check_paths, gather_into, gather_named, gather_of, gather_paths, has_dest_alone, has_no_job, maps_of, target_named, target_of, beside, is_target}
use Rattle.dbg_words.specs.declared.command.Command.{Command}
use Rattle.dbg_words.specs.declared.command.Command.TheVariants.{Edit, Split, Run, Show, Unstrip, Check, Gather, Exercise}
use Rattle.src_gather.specs.Asked.{IsAsked, IsDest}
use Rattle.src_gather.proofs.FolderLaws.{folders-apart, slash-by}
use Rattle.dbg_run.specs.Built.{built, if_built, is_built}
use Rattle.dbg_run.proofs.BareLaws.{AreBare, IsBare, LineBare, line-bare, other-bare, pair-bare, words-bare}
use Rattle.dbg_run.proofs.BuiltLaws.{All, all_if, all_map, all_then, any}

-- ### Numbers within limits

abbrev IsIn : ℕ → ℕ → ℕ → Type 0
IsIn least most n = (least ≤ n) × (n ≤ most)

within : (least most : ℕ) (word : List ℕ) → All (IsIn least most) (number_within least most word)
unfolding number_within
within least most word = by_tests (is_decimal word) (nat_le least (digits_value 10 word)) (nat_le (digits_value 10 word) most) refl refl
  where
    by_tests : (d a b : Bool) → nat_le least (digits_value 10 word) ≡ a → nat_le (digits_value 10 word) most ≡ b
        → All (IsIn least most) (if d && (a && b) then Some (digits_value 10 word) else None)
    by_tests true true true x y = (leb-true least (digits_value 10 word) x, leb-true (digits_value 10 word) most y)
    by_tests true true false x y = tt
    by_tests true false b x y = tt
    by_tests false a b x y = tt

jobs-in : (word : Option (List ℕ)) → All (IsIn 1 64) (number_or 1 64 1 word)
jobs-in None = (lit≤ tt, lit≤ tt)
jobs-in (Some word) = within 1 64 word

-- ### The values of options

abbrev ValueBare : Part → Type 0
ValueBare (path word) = ⊤
ValueBare (value name text) = IsBare text
ValueBare (flag name) = ⊤

abbrev ValuesBare : List Part → Type 0
ValuesBare ps = AllByRecursion ValueBare ps

abbrev LookBare : Look → Type 0
LookBare plain = ⊤
LookBare ending = ⊤
LookBare (optional name text) = All IsBare text
LookBare short = ⊤

attached-bare : (text : List ℕ) → IsBare text → All IsBare (attached text)
attached-bare text b =
    all_if IsBare (list_any (λ c. c == equals_sign) text) _ None (has_nul-drop (position_or_len (λ c. c == equals_sign) text + 1) text b) tt

rest-bare : (x : ℕ) (xs : List ℕ) → IsBare (x ∷ xs) → IsBare xs
rest-bare x xs b = by_first (x == 0) b
  where
    by_first : (t : Bool) → (t || has_nul xs) ≡ false → has_nul xs ≡ false
    by_first true e = cc
    by_first false e = e

look_if : (t : Bool) (one other : Look) → LookBare one → LookBare other → LookBare (if t then one else other)
look_if true one other a b = a
look_if false one other a b = b

two-bare : (text : List ℕ) → IsBare text → LookBare (look_behind_two text)
two-bare [] b = tt
two-bare (x ∷ xs) b = attached-bare (x ∷ xs) b

one-bare : (text : List ℕ) → IsBare text → LookBare (look_behind_one text)
one-bare [] b = tt
one-bare (x ∷ xs) b = look_if (x == dash) (look_behind_two xs) short (two-bare xs (rest-bare x xs b)) tt

look-bare : (word : List ℕ) → IsBare word → LookBare (look_of word)
look-bare [] b = tt
look-bare (x ∷ xs) b = look_if (x == dash) (look_behind_one xs) plain (one-bare xs (rest-bare x xs b)) tt

with-any : (p : Part) (o : Option (List Part)) → ValueBare p → All ValuesBare o → All ValuesBare (with_part p o)
with-any p None b a = tt
with-any p (Some ps) b a = (b, a)

all-plain : (ws : List (List ℕ)) → ValuesBare (map path ws)
all-plain [] = tt
all-plain (w ∷ ws) = (tt, all-plain ws)

option-bare : (name : List ℕ) (text : Option (List ℕ)) (rest : Option (List ℕ) → Option (List Part)) → All IsBare text
    → ((n : Option (List ℕ)) → All ValuesBare (rest n)) → All ValuesBare (option_parts name text rest)
option-bare name (Some text) rest b r =
    all_if ValuesBare (is_in valued_options name) (with_part (value name text) (rest None)) None (with-any (value name text) (rest None) b (r None)) tt
option-bare name None rest b r =
    all_if ValuesBare (is_in valued_options name) (rest (Some name)) (if is_in flags name then with_part (flag name) (rest None) else None) (r (Some name))
    (all_if ValuesBare (is_in flags name) (with_part (flag name) (rest None)) None (with-any (flag name) (rest None) tt (r None)) tt)

word-bare : (l : Look) (w : List ℕ) (ws : List (List ℕ)) (rest : Option (List ℕ) → Option (List Part)) → LookBare l
    → ((n : Option (List ℕ)) → All ValuesBare (rest n)) → All ValuesBare (word_parts l w ws rest)
word-bare plain w ws rest b r = with-any (path w) (rest None) tt (r None)
word-bare ending w ws rest b r = all-plain ws
word-bare (optional name text) w ws rest b r = option-bare name text rest b r
word-bare short w ws rest b r = tt

values-bare : (ws : List (List ℕ)) (name : Option (List ℕ)) → AreBare ws → All ValuesBare (parts_of ws name)
unfolding parts_of
values-bare [] None bs = tt
values-bare [] (Some name) bs = tt
values-bare (w ∷ ws) None bs = word-bare (look_of w) w ws (parts_of ws) (look-bare w bs.0) (λ n. values-bare ws n bs.1)
values-bare (w ∷ ws) (Some name) bs =
    all_if ValuesBare (begins_with_dash w) None (with_part (value name w) (parts_of ws None)) tt
    (with-any (value name w) (parts_of ws None) bs.0 (values-bare ws None bs.1))

value-bare : (name : List ℕ) (ps : List Part) → ValuesBare ps → All IsBare (value_of name ps)
value-bare name [] bs = tt
value-bare name (path word ∷ ps) bs = value-bare name ps bs.1
value-bare name (value n text ∷ ps) bs = all_if IsBare (same_text n name) (Some text) (value_of name ps) bs.0 (value-bare name ps bs.1)
value-bare name (flag n ∷ ps) bs = value-bare name ps bs.1

abbrev SeedBare : CommandLine → Type 0
SeedBare l = All IsBare l.seed

line-seed : (ws : List (List ℕ)) → AreBare ws → All SeedBare (command_line ws)
unfolding command_line
line-seed ws bs =
    all_then ValuesBare SeedBare line_if_fit (parts_of ws None) (values-bare ws None bs)
    (λ ps b. all_if SeedBare (are_fit ps) (Some (line_of_parts ps)) None (value-bare (codes "seed") ps b) tt)

-- ### A run

abbrev IsRunFit : Command → Type 0
IsRunFit (Run root o jobs) = (0 < jobs) × (jobs ≤ 64) × HasKey o
IsRunFit (Gather root from dest jobs) = (0 < jobs) × (jobs ≤ 64) × IsAsked root from dest
IsRunFit (Exercise seed units) = (0 < units) × (units ≤ 10000)
IsRunFit c = ⊤

unwrap-seed : (o : Option (List ℕ)) → All IsBare o → IsBare (unwrap_or o [])
unwrap-seed None a = refl
unwrap-seed (Some x) a = a

settings-key : (l : CommandLine) → SeedBare l → All HasKey (settings_of l)
settings-key l b =
    all_then (λ (m : PathMap). ⊤) HasKey (settings_mapped l) (maps_of l) (any (maps_of l))
    (λ maps _. all_map (λ (most : ℕ). ⊤) HasKey (settings_limited l maps) (number_or 1 most_file most_file l.max_file) (any (number_or 1 most_file most_file l.max_file))
    (λ most _. record { seed = unwrap-seed l.seed b }))

run-below-fit : (l : CommandLine) → SeedBare l → All IsRunFit (option_and_then (run_named l) (one_of l.paths))
run-below-fit l b =
    all_then (λ (a : List ℕ). ⊤) IsRunFit (run_named l) (one_of l.paths) (any (one_of l.paths)) (λ w _.
    all_then (λ (a : List ℕ). ⊤) IsRunFit (run_below l) (path_named w) (any (path_named w)) (λ root _.
    all_then HasKey IsRunFit (run_settled l root) (settings_of l) (settings-key l b) (λ o key.
    all_map (IsIn 1 64) IsRunFit (λ jobs. Run root o jobs) (number_or 1 64 1 l.jobs) (jobs-in l.jobs) (λ jobs is. (is.0, is.1, key)))))

run-fit : (l : CommandLine) → SeedBare l → All IsRunFit (run_of l)
unfolding run_of
run-fit l b = by_options (is_some l.list_file) l.grow_inline
  where
    by_options : (list grow : Bool) → All IsRunFit (if list || grow then None else option_and_then (run_named l) (one_of l.paths))
    by_options true grow = tt
    by_options false true = tt
    by_options false false = run-below-fit l b

listed-none : (l : CommandLine) (p : List ℕ × List ℕ) (list : Option (List ℕ)) → All IsRunFit (edit_listed l p list)
listed-none l p None = all_map (λ a. ⊤) IsRunFit (λ o. Edit p.0 p.1 o None) (settings_of l) (any (settings_of l)) (λ o _. tt)
listed-none l p (Some list) = all_map (λ a. ⊤) IsRunFit (λ o. Edit p.0 p.1 o (Some list)) (settings_of l) (any (settings_of l)) (λ o _. tt)

edit-none : (l : CommandLine) → All IsRunFit (edit_of l)
unfolding edit_of
edit-none l =
    all_if IsRunFit (is_some l.jobs || l.skip_refused) None (option_and_then (edit_named l) (two_of l.paths)) tt
    (all_then (λ a. ⊤) IsRunFit (edit_named l) (two_of l.paths) (any (two_of l.paths)) (λ w _.
    all_then (λ a. ⊤) IsRunFit (edit_paths l) (two_paths w) (any (two_paths w)) (λ p _.
    all_then (λ a. ⊤) IsRunFit (edit_listed l p) (list_path p l.list_file) (any (list_path p l.list_file)) (λ list _. listed-none l p list))))

split-none : (l : CommandLine) → All IsRunFit (split_of l)
unfolding split_of
split-none l =
    all_if IsRunFit (is_bare l) (option_and_then split_named (three_of l.paths)) None
    (all_then (λ a. ⊤) IsRunFit split_named (three_of l.paths) (any (three_of l.paths)) (λ w _.
    all_then (λ a. ⊤) IsRunFit (split_paths w.2) (two_paths (w.0, w.1)) (any (two_paths (w.0, w.1))) (λ p _.
    all_map (λ a. ⊤) IsRunFit (λ debug. Split p.0 p.1 debug) (other_path p.0 p.1 w.2) (any (other_path p.0 p.1 w.2)) (λ debug _. tt)))) tt

unstrip-none : (l : CommandLine) → All IsRunFit (unstrip_of l)
unfolding unstrip_of
unstrip-none l =
    all_if IsRunFit (is_bare l) (option_and_then unstrip_named (three_of l.paths)) None
    (all_then (λ a. ⊤) IsRunFit unstrip_named (three_of l.paths) (any (three_of l.paths)) (λ w _.
    all_then (λ a. ⊤) IsRunFit (unstrip_paths w.2) (two_paths (w.0, w.1)) (any (two_paths (w.0, w.1))) (λ p _.
    all_map (λ a. ⊤) IsRunFit (λ output. Unstrip p.0 p.1 output) (other_path p.0 p.1 w.2) (any (other_path p.0 p.1 w.2)) (λ output _. tt)))) tt

show-none : (l : CommandLine) → All IsRunFit (show_of l)
unfolding show_of
show-none l = all_if IsRunFit (is_bare l) (show_named l.paths (two_of l.paths)) None (by_paths (two_of l.paths)) tt
  where
    by_paths : (w : Option (List ℕ × List ℕ)) → All IsRunFit (show_named l.paths w)
    by_paths (Some w) = all_map (λ a. ⊤) IsRunFit (λ p. Show p.0 (Some p.1)) (two_paths w) (any (two_paths w)) (λ p _. tt)
    by_paths None = all_then (λ a. ⊤) IsRunFit show_one (one_of l.paths) (any (one_of l.paths)) (λ w _.
        all_map (λ a. ⊤) IsRunFit (λ file. Show file None) (path_named w) (any (path_named w)) (λ file _. tt))

check-none : (l : CommandLine) → All IsRunFit (check_of l)
unfolding check_of
check-none l =
    all_if IsRunFit (has_no_job l) (option_and_then (check_named l) (three_of l.paths)) None
    (all_then (λ a. ⊤) IsRunFit (check_named l) (three_of l.paths) (any (three_of l.paths)) (λ w _.
    all_then (λ a. ⊤) IsRunFit (check_paths l w.2) (two_paths (w.0, w.1)) (any (two_paths (w.0, w.1))) (λ p _.
    all_then (λ a. ⊤) IsRunFit (check_mapped l p) (other_path p.0 p.1 w.2) (any (other_path p.0 p.1 w.2)) (λ debug _.
    all_map (λ a. ⊤) IsRunFit (λ maps. Check p.0 p.1 debug maps) (maps_of l) (any (maps_of l)) (λ maps _. tt))))) tt

-- ### A gather

target-parts : (p a b : Bool) → (p && not (a || b)) ≡ true → (p ≡ true) × (a ≡ false) × (b ≡ false)
target-parts true false false e = (refl, refl, refl)
target-parts true false true e = cc
target-parts true true b e = cc
target-parts false a b e = cc

-- what is behind a slash is UTF-8 where all of it is
utf8-slash : (rest : List ℕ) → is_utf8 (47 ∷ rest) ≡ true → is_utf8 rest ≡ true
utf8-slash rest e =
    let first : 47 ∷ rest ≡ encode_utf8 47 ++ rest = ap (λ (bs : List ℕ). bs ++ rest) (sym (encode_ascii 47 (omega arith))) in
    is_utf8-from_IsUtf8 rest (IsUtf8-past_char (47 ∷ rest) rest 47 (IsUtf8-from_is_utf8 (47 ∷ rest) e) first)

utf8-rest : (dest : List ℕ) → starts_with nat_eq dest (slash ∷ []) ≡ true → is_utf8 dest ≡ true → is_utf8 (drop 1 dest) ≡ true
utf8-rest dest begins e = utf8-slash (drop 1 dest) (subst (λ (d : List ℕ). is_utf8 d ≡ true) (slash-by dest begins) e)

-- a cut destination may be asked for
dest-by : (dest : List ℕ) → is_prefix dest ≡ true → without_end_slashes dest ≡ dest → is_target dest ≡ true → is_utf8 dest ≡ true → IsDest dest
unfolding is_target
dest-by dest prefix cut target utf8 =
    let parts = target-parts (is_plain (drop 1 dest)) (lies_under (codes ".dbgsrc") (drop 1 dest)) (lies_under (codes ".dbgwork") (drop 1 dest)) target in
    record {
      prefix = prefix;
      cut = cut;
      plain = and_from _ _ parts.0 (utf8-rest dest (is_prefix-parts dest prefix).begins utf8);
      other = parts.1;
      other_run = parts.2;
    }

dest-made : (word : List ℕ) → is_prefix word ≡ true → is_target (without_end_slashes word) ≡ true → is_utf8 (without_end_slashes word) ≡ true → IsDest (without_end_slashes word)
dest-made word prefix target utf8 =
    dest-by (without_end_slashes word) (is_prefix-without_end_slashes word prefix) (without_end_slashes-again word) target utf8

dest-fit : (word : List ℕ) → All IsDest (target_named word)
dest-fit word = by_tests (is_prefix word) (is_target (without_end_slashes word)) (is_utf8 (without_end_slashes word)) refl refl refl
  where
    by_tests : (a b c : Bool) → is_prefix word ≡ a → is_target (without_end_slashes word) ≡ b → is_utf8 (without_end_slashes word) ≡ c
        → All IsDest (if a && b && c then Some (without_end_slashes word) else None)
    by_tests true true true x y z = dest-made word x y z
    by_tests true true false x y z = tt
    by_tests true false c x y z = tt
    by_tests false b c x y z = tt

target-fit : (word : Option (List ℕ)) → All IsDest (target_of word)
target-fit word = all_then (λ a. ⊤) IsDest target_named word (any word) (λ w _. dest-fit w)

-- the two paths of bare words are bare
paths-bare : (w : List ℕ × List ℕ) → IsBare w.0 × IsBare w.1 → All (λ p. IsBare p.1) (two_paths w)
paths-bare w b =
    all_then (λ a. ⊤) (λ p. IsBare p.1) (beside w.1) (path_named w.0) (any (path_named w.0)) (λ p _.
    all_map IsBare (λ q. IsBare q.1) (λ q. (p, q)) (other_path p p w.1) (other-bare p p w.1 b.1) (λ q bare. bare))

apart-parts : (a b : Bool) → not (a || b) ≡ true → (a ≡ false) × (b ≡ false)
apart-parts false false e = (refl, refl)
apart-parts false true e = cc
apart-parts true b e = cc

gather-apart : (l : CommandLine) (p : List ℕ × List ℕ) → IsBare p.1 → All IsRunFit (gather_paths l p)
gather-apart l p bare = by_test (are_apart p) refl
  where
    by_test : (t : Bool) → are_apart p ≡ t → All IsRunFit (if t then option_and_then (gather_into l p) (target_of l.dest_dir) else None)
    by_test true e =
        let apart = apart-parts (lies_under p.0 p.1) (lies_under p.1 p.0) e in
        all_then IsDest IsRunFit (gather_into l p) (target_of l.dest_dir) (target-fit l.dest_dir) (λ dest is.
        all_map (IsIn 1 64) IsRunFit (λ jobs. Gather p.0 p.1 dest jobs) (number_or 1 64 1 l.jobs) (jobs-in l.jobs)
        (λ jobs n. (n.0, n.1, record { is_dest = is; apart = folders-apart p.0 p.1 apart.0 apart.1; seed = bare })))
    by_test false e = tt

gather-fit : (l : CommandLine) → LineBare l → All IsRunFit (gather_of l)
unfolding gather_of
gather-fit l bs =
    all_if IsRunFit (has_dest_alone l) (option_and_then (gather_named l) (two_of l.paths)) None
    (all_then (λ w. IsBare w.0 × IsBare w.1) IsRunFit (gather_named l) (two_of l.paths) (pair-bare l.paths bs) (λ w b.
    all_then (λ p. IsBare p.1) IsRunFit (gather_paths l) (two_paths w) (paths-bare w b) (λ p bare. gather-apart l p bare))) tt

exercise-fit : (l : CommandLine) → All IsRunFit (exercise_of l)
unfolding exercise_of
exercise-fit l =
    all_if IsRunFit (is_bare l) (option_and_then exercise_named (two_of l.paths)) None
    (all_then (λ a. ⊤) IsRunFit exercise_named (two_of l.paths) (any (two_of l.paths)) (λ w _.
    all_then (λ a. ⊤) IsRunFit (exercise_seeded w.1) (number_within 0 18446744073709551615 w.0) (any (number_within 0 18446744073709551615 w.0)) (λ seed _.
    all_map (IsIn 1 10000) IsRunFit (λ units. Exercise seed units) (number_within 1 10000 w.1) (within 1 10000 w.1) (λ units is. (is.0, is.1))))) tt

named-fit : (name : List ℕ) (l : CommandLine) → SeedBare l → LineBare l → All IsRunFit (command_named name l)
unfolding command_named
named-fit name l b paths =
    all_if IsRunFit (same_text name (codes "edit")) (edit_of l) _ (edit-none l)
    (all_if IsRunFit (same_text name (codes "split")) (split_of l) _ (split-none l)
    (all_if IsRunFit (same_text name (codes "run")) (run_of l) _ (run-fit l b)
    (all_if IsRunFit (same_text name (codes "show")) (show_of l) _ (show-none l)
    (all_if IsRunFit (same_text name (codes "unstrip")) (unstrip_of l) _ (unstrip-none l)
    (all_if IsRunFit (same_text name (codes "check")) (check_of l) _ (check-none l)
    (all_if IsRunFit (same_text name (codes "gather")) (gather_of l) _ (gather-fit l paths)
    (all_if IsRunFit (same_text name (codes "exercise")) (exercise_of l) None (exercise-fit l) tt)))))))

all_both : {A : Type 0} (P Q : A → Type 0) (x : Option A) → All P x → All Q x → All (λ a. P a × Q a) x
all_both P Q None p q = tt
all_both P Q (Some a) p q = (p, q)

command-fit : (words : List (List ℕ)) → All IsRunFit (command words)
unfolding command
command-fit [] = tt
command-fit (name ∷ rest) = by_nul (list_any has_nul (name ∷ rest)) refl
  where
    behind : (n r : Bool) → (n || r) ≡ false → r ≡ false
    behind false r e = e
    behind true r e = cc

    by_nul : (t : Bool) → list_any has_nul (name ∷ rest) ≡ t → All IsRunFit (if t then None else option_and_then (command_named name) (command_line rest))
    by_nul true e = tt
    by_nul false e =
        let bare = words-bare rest (behind (has_nul name) (list_any has_nul rest) e) in
        all_then (λ l. SeedBare l × LineBare l) IsRunFit (command_named name) (command_line rest)
        (all_both SeedBare LineBare (command_line rest) (line-seed rest bare) (line-bare rest bare)) (λ l b. named-fit name l b.0 b.1)

built-fit : (words : List (List ℕ)) → All IsRunFit (built words)
unfolding built
built-fit words =
    all_then IsRunFit IsRunFit if_built (command words) (command-fit words) (λ c fit. all_if IsRunFit (is_built c) (Some c) None fit tt)

pub run-words-fit : (words : List (List ℕ)) (root : List ℕ) (o : Settings) (jobs : ℕ) → built words ≡ Some (Run root o jobs)
    → (0 < jobs) × (jobs ≤ 64) × HasKey o
run-words-fit words root o jobs is = subst (All IsRunFit) is (built-fit words)

pub gather-words-fit : (words : List (List ℕ)) (root from dest : List ℕ) (jobs : ℕ) → built words ≡ Some (Gather root from dest jobs)
    → (0 < jobs) × (jobs ≤ 64) × IsAsked root from dest
gather-words-fit words root from dest jobs is = subst (All IsRunFit) is (built-fit words)

pub exercise-words-fit : (words : List (List ℕ)) (seed units : ℕ) → built words ≡ Some (Exercise seed units) → (0 < units) × (units ≤ 10000)
exercise-words-fit words seed units is = subst (All IsRunFit) is (built-fit words)
