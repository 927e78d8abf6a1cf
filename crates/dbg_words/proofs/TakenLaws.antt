-- What the parser takes is a command line, and the other way round, where no dash is a stray one.
use Rattle.std.proofs.Common.{◌≡◌, Bool, true, false, not, ◌&&◌, ◌||◌, List, [], ◌∷◌, ◌++◌, map, Option, Some, None, is_some, codes, refl, sym, ap, ◌∙◌}
use Rattle.std.specs.Prelude.{IfSome, fold, if◌then◌else◌, option_and_then, option_map, unwrap_or}
use Rattle.std.specs.List.{list_all}
use Rattle.std.specs.Str.{bytes_eq}
use Rattle.std.proofs.lemmas.Slice.Eq.{bytes_eq-Decides}
use Rattle.clap.specs.Kinds.{Kinds, or_else}
use Rattle.clap.specs.Faults.{built_fault, check_fault, defaults_fault, entered_fault, fault_of, settle_fault, walk_fault}
use Rattle.clap.specs.Simple.{App, entered, matches_of, names_of}
use Rattle.clap.specs.Walk.{Row, Rule, Text, Walk, first_of, has_row, idle, more_values, nothing_held, rows_after, settled_rows, walked, with_default}
use Rattle.clap.specs.declared.builder.value_parser.Reading.TheVariants.{AsWritten}
use Rattle.clap.specs.declared.parser.matches.ValueSource.TheVariants.{DefaultValue}
use Rattle.dw_base.specs.Texts.{is_in}
use Rattle.dbg_words.specs.CommandLines.{CommandLine, Part, are_fit, command_line, flags, is_given, line_if_fit, line_of_parts, parts_of, paths_of, valued_options, value_of}
use Rattle.dbg_words.specs.Dashes.{has_stray_dash}
use Rattle.dbg_words.specs.Matches.{is_true_text, line_of_rows, program_app, taken_line, unless_fault}
use Rattle.dbg_words.proofs.BoolLaws.{and_false, and_true, same_if}
use Rattle.dbg_words.proofs.ParserLaws.{app, built_is, flag_rule, path_rule, rules, shape, valued_rule}
use Rattle.dbg_words.proofs.ReadLaws.{Ending, Reads, after_parts, laws_of, parts_pass, read_passes}
use Rattle.dbg_words.proofs.UseLaws.{at_end, first_text, flag_given, found, found_given, given_row, has_row-found, found-append, or_first, or_first-none, passes_first, path_values, paths_given, value_given}
use Rattle.dbg_words.proofs.WalkLaws.{Free, is_none, is_typed, settled_is, walk_at, walk_passes}

-- ---- defaults

-- the row of a flag that isn't given
abbrev off_row : Text → Row
off_row name = record { id = name; values = codes "false" ∷ []; count = None; source = Some DefaultValue; reading = AsWritten }

fold_valued : (names : List Text) (rest : List Rule) (rows : List Row) → fold with_default rows (map valued_rule names ++ rest) ≡ fold with_default rows rest
fold_valued [] rest rows = refl
fold_valued (n ∷ ns) rest rows =
    ap (λ v. fold with_default v (map valued_rule ns ++ rest)) (same_if (has_row n rows) rows) ∙ fold_valued ns rest rows

abbrev off_flags : List Row → List Row
off_flags rows = with_default (with_default (with_default rows (flag_rule (codes "build-id"))) (flag_rule (codes "skip-refused"))) (flag_rule (codes "grow-inline"))

with_defaults : (rows : List Row) → fold with_default rows rules ≡ off_flags rows
unfolding rules
with_defaults rows =
    fold_valued valued_options (map flag_rule flags ++ path_rule ∷ []) rows ∙ same_if (has_row (codes "path") (off_flags rows)) (off_flags rows)

or_first-some : (o b : Option Row) → is_some o ≡ true → or_first o b ≡ o
or_first-some None b e = cc
or_first-some (Some r) b e = refl

-- what a flag's default adds
found_off : (id name : Text) (rows : List Row)
    → found id (with_default rows (flag_rule name)) ≡ or_first (found id rows) (if bytes_eq name id then Some (off_row name) else None)
found_off id name rows =
    elim (has_row name rows) as (λ t. has_row name rows ≡ t
    → found id (if t then rows else Rattle.clap.specs.Walk.at_row name (more_values DefaultValue (codes "false" ∷ [])) (off_row name ∷ []) rows)
    ≡ or_first (found id rows) (if bytes_eq name id then Some (off_row name) else None)) [
      | true ↦ λ e.
          elim (bytes_eq name id) as (λ t. bytes_eq name id ≡ t → found id rows ≡ or_first (found id rows) (if t then Some (off_row name) else None)) [
            | true ↦ λ f.
                let there : is_some (found id rows) ≡ true =
                sym (has_row-found id rows) ∙ (ap (λ (x : Text). has_row x rows) (sym ((bytes_eq-Decides name id).0 f)) ∙ e) in
                sym (or_first-some (found id rows) (Some (off_row name)) there)
            | false ↦ λ f. sym (or_first-none (found id rows))
          ] refl
      | false ↦ λ e.
          ap (found id) (at_end name (more_values DefaultValue (codes "false" ∷ [])) (off_row name ∷ []) rows e) ∙ found-append id rows (off_row name)
    ] refl

abbrev off_if : Text → Text → Option Row
off_if name id = if bytes_eq name id then Some (off_row name) else None

found_end : (id : Text) (rows : List Row)
    → found id (off_flags rows)
    ≡ or_first (or_first (or_first (found id rows) (off_if (codes "build-id") id)) (off_if (codes "skip-refused") id)) (off_if (codes "grow-inline") id)
found_end id rows =
    found_off id (codes "grow-inline") (with_default (with_default rows (flag_rule (codes "build-id"))) (flag_rule (codes "skip-refused")))
    ∙ ap (λ o. or_first o (off_if (codes "grow-inline") id))
    (found_off id (codes "skip-refused") (with_default rows (flag_rule (codes "build-id")))
    ∙ ap (λ o. or_first o (off_if (codes "skip-refused") id)) (found_off id (codes "build-id") rows))

-- ---- the command line that is read of the rows

-- parts that pass, and the rows that they leave
record Passed (ps : List Part) (rows : List Row) : Type 0 where
  typed : list_all is_typed ps ≡ true
  passes : parts_pass [] ps ≡ true
  leaves : after_parts [] ps ≡ rows

rows_given : (id : Text) → bytes_eq (codes "path") id ≡ false → (ps : List Part) (rows : List Row) → Passed ps rows → found id rows ≡ given_row id ps
rows_given id other ps rows p = ap (found id) (sym p.leaves) ∙ found_given id other ps [] p.passes

value_read : (id : Text) → bytes_eq (codes "path") id ≡ false → is_in valued_options id ≡ true → off_if (codes "build-id") id ≡ None
    → off_if (codes "skip-refused") id ≡ None → off_if (codes "grow-inline") id ≡ None
    → (ps : List Part) (rows : List Row) → Passed ps rows → first_of id (off_flags rows) ≡ value_of id ps
value_read id other known build skip grow ps rows p =
    ap first_text (
    found_end id rows ∙ ap (λ o. or_first (or_first (or_first (found id rows) (off_if (codes "build-id") id)) (off_if (codes "skip-refused") id)) o) grow
    ∙ or_first-none _ ∙ ap (λ o. or_first (or_first (found id rows) (off_if (codes "build-id") id)) o) skip
    ∙ or_first-none _ ∙ ap (or_first (found id rows)) build ∙ or_first-none (found id rows) ∙ rows_given id other ps rows p
    )
    ∙ value_given id known ps p.typed

is_true_of : (t : Bool) → is_true_text (if t then Some (codes "true") else Some (codes "false")) ≡ t
is_true_of true = refl
is_true_of false = refl

build_read : (ps : List Part) (rows : List Row) → Passed ps rows → is_true_text (first_of (codes "build-id") (off_flags rows)) ≡ is_given (codes "build-id") ps
build_read ps rows p =
    ap is_true_text (
    ap first_text (found_end (codes "build-id") rows ∙ or_first-none _ ∙ or_first-none _ ∙ ap (λ o. or_first o (Some (off_row (codes "build-id")))) (rows_given (codes "build-id") refl ps rows p))
    ∙ flag_given (codes "build-id") (off_row (codes "build-id")) refl ps p.typed
    )
    ∙ is_true_of (is_given (codes "build-id") ps)

skip_read : (ps : List Part) (rows : List Row) → Passed ps rows → is_true_text (first_of (codes "skip-refused") (off_flags rows)) ≡ is_given (codes "skip-refused") ps
skip_read ps rows p =
    ap is_true_text (
    ap first_text (
    found_end (codes "skip-refused") rows ∙ or_first-none _ ∙ ap (λ o. or_first o (Some (off_row (codes "skip-refused")))) (or_first-none (found (codes "skip-refused") rows))
    ∙ ap (λ o. or_first o (Some (off_row (codes "skip-refused")))) (rows_given (codes "skip-refused") refl ps rows p)
    )
    ∙ flag_given (codes "skip-refused") (off_row (codes "skip-refused")) refl ps p.typed
    )
    ∙ is_true_of (is_given (codes "skip-refused") ps)

grow_read : (ps : List Part) (rows : List Row) → Passed ps rows → is_true_text (first_of (codes "grow-inline") (off_flags rows)) ≡ is_given (codes "grow-inline") ps
grow_read ps rows p =
    ap is_true_text (
    ap first_text (
    found_end (codes "grow-inline") rows
    ∙ ap (λ o. or_first o (Some (off_row (codes "grow-inline")))) (or_first-none (or_first (found (codes "grow-inline") rows) None) ∙ or_first-none (found (codes "grow-inline") rows))
    ∙ ap (λ o. or_first o (Some (off_row (codes "grow-inline")))) (rows_given (codes "grow-inline") refl ps rows p)
    )
    ∙ flag_given (codes "grow-inline") (off_row (codes "grow-inline")) refl ps p.typed
    )
    ∙ is_true_of (is_given (codes "grow-inline") ps)

paths_read : (ps : List Part) (rows : List Row) → Passed ps rows → path_values (off_flags rows) ≡ paths_of ps
paths_read ps rows p =
    ap (λ o. unwrap_or (option_map (λ (r : Row). r.values) o) []) (found_end (codes "path") rows ∙ or_first-none _ ∙ or_first-none _ ∙ or_first-none (found (codes "path") rows))
    ∙ ap path_values (sym p.leaves) ∙ paths_given ps [] p.typed p.passes

line_read : (ps : List Part) (rows : List Row) → Passed ps rows → line_of_rows (off_flags rows) ≡ line_of_parts ps
line_read ps rows p = λ i. record {
  paths = paths_read ps rows p i;
  base_dir = value_read (codes "base-dir") refl refl refl refl refl ps rows p i;
  dest_dir = value_read (codes "dest-dir") refl refl refl refl refl ps rows p i;
  build_id = build_read ps rows p i;
  seed = value_read (codes "seed") refl refl refl refl refl ps rows p i;
  list_file = value_read (codes "list-file") refl refl refl refl refl ps rows p i;
  max_file = value_read (codes "max-file") refl refl refl refl refl ps rows p i;
  jobs = value_read (codes "jobs") refl refl refl refl refl ps rows p i;
  more_maps = value_read (codes "more-maps") refl refl refl refl refl ps rows p i;
  skip_refused = skip_read ps rows p i;
  grow_inline = grow_read ps rows p i;
}

-- ---- all that the parser looks at

-- no default fails
faultless_valued : (names : List Text) (rest : List Rule) (v : List Row) → ((u : List Row) → defaults_fault u rest ≡ [])
    → defaults_fault v (map valued_rule names ++ rest) ≡ []
unfolding defaults_fault
faultless_valued [] rest v none = none v
faultless_valued (n ∷ ns) rest v none =
    ap (λ ks. or_else ks (defaults_fault (with_default v (valued_rule n)) (map valued_rule ns ++ rest))) (same_if (has_row n v || true) [])
    ∙ faultless_valued ns rest (with_default v (valued_rule n)) none

faultless_flags : (names : List Text) (rest : List Rule) (v : List Row) → ((u : List Row) → defaults_fault u rest ≡ [])
    → defaults_fault v (map flag_rule names ++ rest) ≡ []
unfolding defaults_fault
faultless_flags [] rest v none = none v
faultless_flags (n ∷ ns) rest v none =
    ap (λ ks. or_else ks (defaults_fault (with_default v (flag_rule n)) (map flag_rule ns ++ rest))) (same_if (has_row n v || false) [])
    ∙ faultless_flags ns rest (with_default v (flag_rule n)) none

faultless_path : (v : List Row) → defaults_fault v (path_rule ∷ []) ≡ []
unfolding defaults_fault
faultless_path v = ap (λ ks. or_else ks []) (same_if (has_row (codes "path") v || true) [])

no_default_fault : (rows : List Row) → defaults_fault rows rules ≡ []
unfolding rules
no_default_fault rows =
    faultless_valued valued_options (map flag_rule flags ++ path_rule ∷ []) rows (λ u. faultless_flags flags (path_rule ∷ []) u faultless_path)

no_check_fault : (rows : List Row) → check_fault shape rows false ≡ []
unfolding rules
no_check_fault rows = refl

-- a parse that reads so
abbrev end_of : List Text → Walk
end_of words = fold (walked rules []) (walk_at [] None idle false) words

-- what fails on the way, where no subcommand is met
abbrev faults : List Text → Kinds → Bool → Kinds
faults words below met =
    or_else (walk_fault shape [] (walk_at [] None idle false) words)
    (or_else below (or_else (settle_fault rules false (end_of words).held)
    (or_else (defaults_fault (settled_rows rules (end_of words).held.pending (end_of words).held.rows) rules)
    (check_fault shape (fold with_default (settled_rows rules (end_of words).held.pending (end_of words).held.rows) rules) met))))

fault_is : (name : Text) (words : List Text)
    → fault_of program_app (name ∷ words) ≡ faults words (entered_fault app (end_of words).stopped) (is_some (entered app (end_of words).stopped))
fault_is name words = ap (λ (a : App). built_fault a nothing_held words) built_is

matches_are : (name : Text) (words : List Text)
    → matches_of program_app (name ∷ words) ≡ fold with_default (settled_rows rules (end_of words).held.pending (end_of words).held.rows) rules
matches_are name words = ap (λ (a : App). rows_after a.top.rules (names_of a) words) built_is

unless_is : (ks : Kinds) (line : CommandLine) → unless_fault ks line ≡ (if is_none ks then Some line else None)
unless_is [] line = refl
unless_is (k ∷ ks) line = refl

-- an early step that fails
third_fails : (a b c d : Kinds) → (is_none a && is_none c) ≡ false → is_none (or_else a (or_else b (or_else c d))) ≡ false
third_fails (k ∷ ks) b c d e = refl
third_fails [] (k ∷ ks) c d e = refl
third_fails [] [] (k ∷ ks) d e = refl
third_fails [] [] [] d e = cc

-- the last steps don't fail
first_and_third : (a b c d : Kinds) → b ≡ [] → d ≡ [] → is_none (or_else a (or_else b (or_else c d))) ≡ (is_none a && is_none c)
first_and_third (k ∷ ks) b c d no_b no_d = refl
first_and_third [] (k ∷ ks) c d no_b no_d = cc
first_and_third [] [] (k ∷ ks) d no_b no_d = refl
first_and_third [] [] [] [] no_b no_d = refl
first_and_third [] [] [] (k ∷ ks) no_b no_d = cc

-- ---- both agree

no_stray : (a : Bool) (stray : Bool) → stray ≡ false → (a && not stray) ≡ a
no_stray a true e = cc
no_stray a false e = and_true a

-- where the words have no parts, the parser doesn't take them
refuses : (name : Text) (words : List Text) → walk_passes (walk_at [] None idle false) words ≡ false → taken_line (name ∷ words) ≡ None
unfolding taken_line
refuses name words fails =
    let none : is_none (fault_of program_app (name ∷ words)) ≡ false = ap is_none (fault_is name words) ∙ third_fails _ _ _ _ fails in
    unless_is _ _ ∙ rw none refl

-- where they have, it takes them exactly where these are fit, and reads their line
takes : (name : Text) (words : List Text) (ps : List Part) → list_all is_typed ps ≡ true → Ending (end_of words) (after_parts [] ps)
    → walk_passes (walk_at [] None idle false) words ≡ parts_pass [] ps → taken_line (name ∷ words) ≡ line_if_fit ps
unfolding taken_line
takes name words ps typed ends passes = unless_is _ _ ∙ ap (λ t. if t then Some line else None) fault ∙ go (are_fit ps) refl
  where
    rows : List Row
    rows = after_parts [] ps

    line : CommandLine
    line = line_of_rows (matches_of program_app (name ∷ words))

    stop : (end_of words).stopped ≡ None
    stop = ap (λ (w : Walk). w.stopped) ends.is

    left : List Row
    left = settled_rows rules (end_of words).held.pending (end_of words).held.rows

    left_is : left ≡ rows
    left_is = ap (λ (w : Walk). settled_rows rules w.held.pending w.held.rows) ends.is ∙ settled_is ends.pending ends.held ends.typed ∙ ends.leaves

    last : or_else (defaults_fault left rules) (check_fault shape (fold with_default left rules) (is_some (entered app (end_of words).stopped))) ≡ []
    last =
        ap (λ ks. or_else ks (check_fault shape (fold with_default left rules) (is_some (entered app (end_of words).stopped)))) (no_default_fault left)
        ∙ ap (λ o. check_fault shape (fold with_default left rules) (is_some (entered app o))) stop ∙ no_check_fault (fold with_default left rules)

    fault : is_none (fault_of program_app (name ∷ words)) ≡ are_fit ps
    fault =
        ap is_none (fault_is name words) ∙ first_and_third _ _ _ _ (ap (entered_fault app) stop) last ∙ passes ∙ passes_first ps typed

    go : (t : Bool) → are_fit ps ≡ t → (if t then Some line else None) ≡ (if t then Some (line_of_parts ps) else None)
    go true fit =
        ap (λ v. Some (line_of_rows v)) (matches_are name words ∙ ap (λ v. fold with_default v rules) left_is ∙ with_defaults rows)
        ∙ ap (λ l. Some l) (line_read ps rows (record { typed = typed; passes = passes_first ps typed ∙ fit; leaves = refl }))
    go false fit = refl

read_so : (name : Text) (words : List Text) (stray : Bool) (parts : Option (List Part)) → stray ≡ false
    → Reads (walk_at [] None idle false) words stray true [] parts → taken_line (name ∷ words) ≡ option_and_then line_if_fit parts
read_so name words stray None calm reads = refuses name words (sym (no_stray _ stray calm) ∙ reads.passes)
read_so name words stray (Some ps) calm reads = takes name words ps reads.typed reads.ends (sym (no_stray _ stray calm) ∙ reads.passes)

-- where no dash is a stray one, the parser takes just the command lines
pub taken_is : (name : Text) (words : List Text) → has_stray_dash false words ≡ false → taken_line (name ∷ words) ≡ command_line words
unfolding command_line
taken_is name words calm = read_so name words _ _ calm ((laws_of words).free [] None idle Free.at_start refl)

none_fit : (parts : Option (List Part)) → read_passes [] parts ≡ false → IfSome parts (λ ps. list_all is_typed ps ≡ true) → option_and_then line_if_fit parts ≡ None
none_fit None fails typed = refl
none_fit (Some ps) fails typed = let fit : are_fit ps ≡ false = sym (passes_first ps typed) ∙ fails in rw fit refl

-- and where one is, the words are no command line
pub stray_is : (words : List Text) → has_stray_dash false words ≡ true → None ≡ command_line words
unfolding command_line
stray_is words stray =
    let reads = (laws_of words).free [] None idle Free.at_start refl in
    let fails : read_passes [] (parts_of words None) ≡ false =
    sym reads.passes ∙ ap (λ t. walk_passes (walk_at [] None idle false) words && not t) stray ∙ and_false _ in
    sym (none_fit (parts_of words None) fails reads.typed)
