-- The command line as the parser of the crate clap is told of it, and what is read of its matches.
use Rattle.std.specs.Prelude.{Bool, true, false, ℕ, List, [], ◌∷◌, Option, Some, None, unwrap_or, codes}
use Rattle.dw_base.specs.Texts.{same_text}
use Rattle.clap.specs.Faults.{fault_of}
use Rattle.clap.specs.Kinds.{Kinds}
use Rattle.clap.specs.Walk.{Row, Rule, all_of, first_of}
use Rattle.clap.specs.Simple.{App, matches_of, new_app, new_rule, on_top, with_rule}
use Rattle.clap.specs.declared.builder.action.ArgAction.TheVariants.{Append, Set, SetTrue}
use Rattle.clap.specs.declared.builder.value_parser.ValueParser.TheVariants.{NonEmptyString}
use Rattle.dbg_words.specs.CommandLines.{CommandLine}

-- an option with a value that isn't empty, a flag, and the paths
abbrev pub valued_arg : List ℕ → Rule
valued_arg name = record (new_rule name) { long = Some name; action = Some Set; parser = Some NonEmptyString }

abbrev pub flag_arg : List ℕ → Rule
flag_arg name = record (new_rule name) { long = Some name; action = Some SetTrue }

abbrev pub path_arg : Rule
path_arg = record (new_rule (codes "path")) { action = Some Append }

-- the program, with all its options, and with no help
abbrev pub without_help : App → App
without_help app = on_top (λ s. record s { disable_help_flag = true }) app

abbrev pub edit_options_app : App
edit_options_app =
    with_rule (with_rule (with_rule (without_help (new_app (codes "deilmuko"))) (valued_arg (codes "base-dir"))) (valued_arg (codes "dest-dir"))) (valued_arg (codes "seed"))

abbrev pub options_app : App
options_app =
    with_rule
    (with_rule
    (with_rule
    (with_rule edit_options_app (valued_arg (codes "list-file")))
    (valued_arg (codes "max-file")))
    (valued_arg (codes "jobs")))
    (valued_arg (codes "more-maps"))

abbrev pub program_app : App
program_app =
    with_rule (with_rule (with_rule (with_rule options_app (flag_arg (codes "build-id"))) (flag_arg (codes "skip-refused"))) (flag_arg (codes "grow-inline"))) path_arg

-- a flag is set where its text says so
abbrev pub is_true_text : Option (List ℕ) → Bool
is_true_text None = false
is_true_text (Some text) = same_text text (codes "true")

-- what the rows of the matches say of the paths and of each option
abbrev pub line_of_rows : List Row → CommandLine
line_of_rows rows = record {
  paths = unwrap_or (all_of (codes "path") rows) [];
  base_dir = first_of (codes "base-dir") rows;
  dest_dir = first_of (codes "dest-dir") rows;
  build_id = is_true_text (first_of (codes "build-id") rows);
  seed = first_of (codes "seed") rows;
  list_file = first_of (codes "list-file") rows;
  max_file = first_of (codes "max-file") rows;
  jobs = first_of (codes "jobs") rows;
  more_maps = first_of (codes "more-maps") rows;
  skip_refused = is_true_text (first_of (codes "skip-refused") rows);
  grow_inline = is_true_text (first_of (codes "grow-inline") rows);
}

-- what the parser finds in words, of which the first is passed over, where nothing fails
abbrev pub unless_fault : Kinds → CommandLine → Option CommandLine
unless_fault [] line = Some line
unless_fault (k ∷ ks) line = None

unfoldable pub taken_line : List (List ℕ) → Option CommandLine
taken_line words = unless_fault (fault_of program_app words) (line_of_rows (matches_of program_app words))
