-- The words of the program, and the command that they are. This project's profile.
use Rattle.std.specs.Prelude.{Bool, ◌&&◌, ◌||◌, not, if◌then◌else◌, ℕ, List, [], ◌∷◌, drop, map, String, Option, Some, None, is_some, option_map, option_and_then, unwrap_or, codes}
use Rattle.std.specs.declared.alloc.Global.{Global}
use Rattle.std.specs.List.{list_any}
use Rattle.std.specs.Str.{is_utf8}
use Rattle.std.specs.String.{string_bytes}
use Rattle.dw_base.specs.Paths.{PathMap, is_prefix, lies_under, path_map, without_end_slashes}
use Rattle.dw_base.specs.Texts.{has_nul, same_text}
use Rattle.dw_paths.specs.PlainPaths.{is_plain}
use Rattle.job_types.specs.Settings.{Settings, most_file}
use Rattle.dbg_words.specs.CommandLines.{CommandLine, command_line}
use Rattle.dbg_words.specs.Decimals.{number_within}
use Rattle.dbg_words.specs.MapWords.{with_more}
use Rattle.dbg_words.specs.PathWords.{path_named}
use Rattle.dbg_words.specs.declared.command.Command.{Command}
use Rattle.dbg_words.specs.declared.command.Command.TheVariants.{Edit, Split, Run, Show, Unstrip, Check, Gather, Exercise}

-- the bytes of each word
abbrev pub texts : List (String Global) → List (List ℕ)
texts words = map string_bytes words

-- one path, two paths, three paths, where there are just so many
abbrev pub one_of : List (List ℕ) → Option (List ℕ)
one_of (a ∷ []) = Some a
one_of words = None

abbrev pub two_of : List (List ℕ) → Option (List ℕ × List ℕ)
two_of (a ∷ b ∷ []) = Some (a, b)
two_of words = None

abbrev pub three_of : List (List ℕ) → Option (List ℕ × List ℕ × List ℕ)
three_of (a ∷ b ∷ c ∷ []) = Some (a, b, c)
three_of words = None

-- the cleaned path that a word names, where it names one that differs from these two
abbrev pub unless_among : List ℕ → List ℕ → List ℕ → Option (List ℕ)
unless_among p q path = if same_text path p || same_text path q then None else Some path

abbrev pub other_path : List ℕ → List ℕ → List ℕ → Option (List ℕ)
other_path p q word = option_and_then (unless_among p q) (path_named word)

-- the cleaned paths of two words, where they name two paths that differ
abbrev pub beside : List ℕ → List ℕ → Option (List ℕ × List ℕ)
beside word p = option_map (λ q. (p, q)) (other_path p p word)

abbrev pub two_paths : List ℕ × List ℕ → Option (List ℕ × List ℕ)
two_paths w = option_and_then (beside w.1) (path_named w.0)

-- the map of a base and a destination, where both are given and may be ones
abbrev pub maps_named : Option (List ℕ) → Option (List ℕ) → Option PathMap
maps_named (Some base) (Some dest) = if is_prefix base && is_prefix dest then Some (path_map base dest) else None
maps_named base dest = None

-- the same with further pairs, where they are given and may be added
abbrev pub maps_of : CommandLine → Option PathMap
maps_of l = option_and_then (with_more l.more_maps) (maps_named l.base_dir l.dest_dir)

-- the number of an option within its limits, and another where the option isn't given
abbrev pub number_or : ℕ → ℕ → ℕ → Option (List ℕ) → Option ℕ
number_or least most other None = Some other
number_or least most other (Some word) = number_within least most word

-- what is wanted of files, as the options say it: without a seed it is empty, and without a limit it is the greatest
abbrev pub settings_limited : CommandLine → PathMap → ℕ → Settings
settings_limited l maps most = record {
  maps = maps;
  build_id = l.build_id;
  seed = unwrap_or l.seed [];
  skip = l.skip_refused;
  max_file = most;
  grow_inline = l.grow_inline;
}

abbrev pub settings_mapped : CommandLine → PathMap → Option Settings
settings_mapped l maps = option_map (settings_limited l maps) (number_or 1 most_file most_file l.max_file)

abbrev pub settings_of : CommandLine → Option Settings
settings_of l = option_and_then (settings_mapped l) (maps_of l)

-- no option is given
abbrev pub is_bare : CommandLine → Bool
is_bare l =
    not (is_some l.base_dir || is_some l.dest_dir || l.build_id || is_some l.seed)
    && not (is_some l.list_file || is_some l.max_file || is_some l.jobs || l.skip_refused)
    && not (is_some l.more_maps || l.grow_inline)

-- edit INPUT OUTPUT, with --base-dir, --dest-dir, --more-maps, --build-id, --seed, --list-file, --max-file and --grow-inline
abbrev pub list_path : List ℕ × List ℕ → Option (List ℕ) → Option (Option (List ℕ))
list_path p None = Some None
list_path p (Some word) = option_map (λ list. Some list) (other_path p.0 p.1 word)

abbrev pub edit_listed : CommandLine → List ℕ × List ℕ → Option (List ℕ) → Option Command
edit_listed l p list = option_map (λ o. Edit p.0 p.1 o list) (settings_of l)

abbrev pub edit_paths : CommandLine → List ℕ × List ℕ → Option Command
edit_paths l p = option_and_then (edit_listed l p) (list_path p l.list_file)

abbrev pub edit_named : CommandLine → List ℕ × List ℕ → Option Command
edit_named l w = option_and_then (edit_paths l) (two_paths w)

unfoldable pub edit_of : CommandLine → Option Command
edit_of l = if is_some l.jobs || l.skip_refused then None else option_and_then (edit_named l) (two_of l.paths)

-- split INPUT STRIPPED DEBUG, with no option
abbrev pub split_paths : List ℕ → List ℕ × List ℕ → Option Command
split_paths word p = option_map (λ debug. Split p.0 p.1 debug) (other_path p.0 p.1 word)

abbrev pub split_named : List ℕ × List ℕ × List ℕ → Option Command
split_named w = option_and_then (split_paths w.2) (two_paths (w.0, w.1))

unfoldable pub split_of : CommandLine → Option Command
split_of l = if is_bare l then option_and_then split_named (three_of l.paths) else None

-- run ROOT, with --base-dir, --dest-dir, --more-maps, --build-id, --seed, --jobs, --skip-refused and --max-file
abbrev pub run_settled : CommandLine → List ℕ → Settings → Option Command
run_settled l root o = option_map (λ jobs. Run root o jobs) (number_or 1 64 1 l.jobs)

abbrev pub run_below : CommandLine → List ℕ → Option Command
run_below l root = option_and_then (run_settled l root) (settings_of l)

abbrev pub run_named : CommandLine → List ℕ → Option Command
run_named l word = option_and_then (run_below l) (path_named word)

unfoldable pub run_of : CommandLine → Option Command
run_of l = if is_some l.list_file || l.grow_inline then None else option_and_then (run_named l) (one_of l.paths)

-- show FILE, and show STRIPPED DEBUG, with no option
abbrev pub show_one : List ℕ → Option Command
show_one word = option_map (λ file. Show file None) (path_named word)

abbrev pub show_two : List ℕ × List ℕ → Option Command
show_two w = option_map (λ p. Show p.0 (Some p.1)) (two_paths w)

abbrev pub show_named : List (List ℕ) → Option (List ℕ × List ℕ) → Option Command
show_named words (Some w) = show_two w
show_named words None = option_and_then show_one (one_of words)

unfoldable pub show_of : CommandLine → Option Command
show_of l = if is_bare l then show_named l.paths (two_of l.paths) else None

-- unstrip STRIPPED DEBUG OUTPUT, with no option
abbrev pub unstrip_paths : List ℕ → List ℕ × List ℕ → Option Command
unstrip_paths word p = option_map (λ output. Unstrip p.0 p.1 output) (other_path p.0 p.1 word)

abbrev pub unstrip_named : List ℕ × List ℕ × List ℕ → Option Command
unstrip_named w = option_and_then (unstrip_paths w.2) (two_paths (w.0, w.1))

unfoldable pub unstrip_of : CommandLine → Option Command
unstrip_of l = if is_bare l then option_and_then unstrip_named (three_of l.paths) else None

-- check INPUT STRIPPED DEBUG, with --base-dir, --dest-dir and --more-maps
abbrev pub has_no_job : CommandLine → Bool
has_no_job l =
    not (l.build_id || is_some l.seed || is_some l.list_file || is_some l.max_file)
    && not (is_some l.jobs || l.skip_refused || l.grow_inline)

abbrev pub check_mapped : CommandLine → List ℕ × List ℕ → List ℕ → Option Command
check_mapped l p debug = option_map (λ maps. Check p.0 p.1 debug maps) (maps_of l)

abbrev pub check_paths : CommandLine → List ℕ → List ℕ × List ℕ → Option Command
check_paths l word p = option_and_then (check_mapped l p) (other_path p.0 p.1 word)

abbrev pub check_named : CommandLine → List ℕ × List ℕ × List ℕ → Option Command
check_named l w = option_and_then (check_paths l w.2) (two_paths (w.0, w.1))

unfoldable pub check_of : CommandLine → Option Command
check_of l = if has_no_job l then option_and_then (check_named l) (three_of l.paths) else None

-- gather ROOT SOURCE, with --dest-dir and --jobs; no option but these is given
abbrev pub has_dest_alone : CommandLine → Bool
has_dest_alone l =
    not (is_some l.base_dir || is_some l.more_maps || l.build_id || is_some l.seed)
    && not (is_some l.list_file || is_some l.max_file || l.skip_refused || l.grow_inline)

-- a destination below a root: it may be one of a map, without its first slash it is plain, and it doesn't lie in a work folder; it is a text, as
-- each word is
unfoldable pub is_target : List ℕ → Bool
is_target dest =
    is_plain (drop 1 dest)
    && not (lies_under (codes ".dbgsrc") (drop 1 dest) || lies_under (codes ".dbgwork") (drop 1 dest))

abbrev pub target_named : List ℕ → Option (List ℕ)
target_named word =
    if is_prefix word && is_target (without_end_slashes word) && is_utf8 (without_end_slashes word) then Some (without_end_slashes word) else None

abbrev pub target_of : Option (List ℕ) → Option (List ℕ)
target_of o = option_and_then target_named o

-- neither path lies below the other
abbrev pub are_apart : List ℕ × List ℕ → Bool
are_apart p = not (lies_under p.0 p.1 || lies_under p.1 p.0)

abbrev pub gather_into : CommandLine → List ℕ × List ℕ → List ℕ → Option Command
gather_into l p dest = option_map (λ jobs. Gather p.0 p.1 dest jobs) (number_or 1 64 1 l.jobs)

abbrev pub gather_paths : CommandLine → List ℕ × List ℕ → Option Command
gather_paths l p = if are_apart p then option_and_then (gather_into l p) (target_of l.dest_dir) else None

abbrev pub gather_named : CommandLine → List ℕ × List ℕ → Option Command
gather_named l w = option_and_then (gather_paths l) (two_paths w)

unfoldable pub gather_of : CommandLine → Option Command
gather_of l = if has_dest_alone l then option_and_then (gather_named l) (two_of l.paths) else None

-- exercise SEED UNITS, two numbers, with no option
abbrev pub exercise_seeded : List ℕ → ℕ → Option Command
exercise_seeded word seed = option_map (λ units. Exercise seed units) (number_within 1 10000 word)

abbrev pub exercise_named : List ℕ × List ℕ → Option Command
exercise_named w = option_and_then (exercise_seeded w.1) (number_within 0 18446744073709551615 w.0)

unfoldable pub exercise_of : CommandLine → Option Command
exercise_of l = if is_bare l then option_and_then exercise_named (two_of l.paths) else None

-- the command of a name
unfoldable pub command_named : List ℕ → CommandLine → Option Command
command_named name l =
    if same_text name (codes "edit") then edit_of l
    else (if same_text name (codes "split") then split_of l
    else (if same_text name (codes "run") then run_of l
    else (if same_text name (codes "show") then show_of l
    else (if same_text name (codes "unstrip") then unstrip_of l
    else (if same_text name (codes "check") then check_of l
    else (if same_text name (codes "gather") then gather_of l
    else (if same_text name (codes "exercise") then exercise_of l else None)))))))

-- the command that words are, where they are one: the first names it, and none holds a NUL
unfoldable pub command : List (List ℕ) → Option Command
command [] = None
command (name ∷ rest) =
    if list_any has_nul (name ∷ rest) then None else option_and_then (command_named name) (command_line rest)
