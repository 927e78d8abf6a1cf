-- The rules of the program as the parser has built them, and what it finds in them.
use Rattle.std.proofs.Common.{◌≡◌, Bool, true, false, not, cond, ◌&&◌, List, [], ◌∷◌, ◌++◌, map, Option, Some, None, codes, refl, sym, ap, subst, ◌∙◌}
use Rattle.std.specs.Prelude.{find, is_some, if◌then◌else◌}
use Rattle.std.specs.Str.{bytes_eq}
use Rattle.std.proofs.lemmas.Slice.Eq.{bytes_eq-Decides}
use Rattle.clap.specs.Walk.{Rule, Text, arg_by_id, arg_by_index, arg_by_long, has_long}
use Rattle.clap.specs.Simple.{Shape, App, built, filled, with_index}
use Rattle.clap.specs.Faults.{is_simple_and_free}
use Rattle.dw_base.specs.Texts.{is_in}
use Rattle.dbg_words.specs.CommandLines.{flags, valued_options}
use Rattle.dbg_words.specs.Matches.{valued_arg, flag_arg, path_arg, program_app}
use Rattle.dbg_words.proofs.BoolLaws.{or_false}

-- an option with a value, a flag and the paths, as they are built
abbrev pub valued_rule : Text → Rule
valued_rule name = filled (valued_arg name)

abbrev pub flag_rule : Text → Rule
flag_rule name = filled (flag_arg name)

abbrev pub path_rule : Rule
path_rule = with_index 1 (filled path_arg)

unfoldable pub rules : List Rule
rules = map valued_rule valued_options ++ (map flag_rule flags ++ path_rule ∷ [])

-- the program as it is built
abbrev pub shape : Shape
shape = record {
  name = codes "deilmuko";
  aliases = [];
  rules = rules;
  is_plain = true;
  is_leaf = true;
  no_binary_name = false;
  disable_help_flag = true;
  disable_help_subcommand = true;
  disable_version_flag = false;
  propagate_version = false;
  has_version = false;
  has_long_version = false;
  args_override_self = false;
  arg_required_else_help = false;
  subcommand_required = false;
  subcommand_negates_reqs = false;
  is_built = true;
}

abbrev pub app : App
app = record { top = shape; subs = [] }

pub built_is : built program_app ≡ app
unfolding rules
built_is = refl

pub is_free : is_simple_and_free program_app ≡ true
is_free = refl

-- the first of some rules, one for each name, that passes a test which only its name passes
find_named : (rule : Text → Rule) (test : Rule → Bool) (name : Text) → ((n : Text) → test (rule n) ≡ bytes_eq n name) → (names : List Text) (rest : List Rule)
    → find test (map rule names ++ rest) ≡ (if is_in names name then Some (rule name) else find test rest)
find_named rule test name same [] rest = refl
find_named rule test name same (n ∷ ns) rest =
    let P : Bool → Type 0 = λ t. cond t (Some (rule n)) (find test (map rule ns ++ rest)) ≡ cond (cond (bytes_eq n name) true (is_in ns name)) (Some (rule name)) (find test rest) in
    subst P (sym (same n)) (
    elim (bytes_eq n name) as (λ t. bytes_eq n name ≡ t → cond t (Some (rule n)) (find test (map rule ns ++ rest)) ≡ cond (cond t true (is_in ns name)) (Some (rule name)) (find test rest)) [
      | true ↦ λ e. ap (λ x. Some (rule x)) ((bytes_eq-Decides n name).0 e)
      | false ↦ λ e. find_named rule test name same ns rest
    ] refl
    )

-- the rule of an option that is named in full
abbrev pub option_rule : Text → Option Rule
option_rule name = if is_in valued_options name then Some (valued_rule name) else (if is_in flags name then Some (flag_rule name) else None)

abbrev has_name : Text → Rule → Bool
has_name name a = not (is_some a.index) && has_long a name

pub by_long : (name : Text) → arg_by_long rules name ≡ option_rule name
unfolding rules
by_long name =
    find_named valued_rule (has_name name) name (λ n. or_false (bytes_eq n name)) valued_options (map flag_rule flags ++ path_rule ∷ [])
    ∙ ap (λ (o : Option Rule). if is_in valued_options name then Some (valued_rule name) else o) (find_named flag_rule (has_name name) name (λ n. or_false (bytes_eq n name)) flags (path_rule ∷ []))

pub by_id : (name : Text) → is_in valued_options name ≡ true → arg_by_id rules name ≡ Some (valued_rule name)
unfolding rules
by_id name known =
    find_named valued_rule (λ a. bytes_eq a.id name) name (λ n. refl) valued_options (map flag_rule flags ++ path_rule ∷ []) ∙ rw known refl

pub by_path : arg_by_id rules (codes "path") ≡ Some path_rule
unfolding rules
by_path = refl

pub by_index : arg_by_index rules 1 ≡ Some path_rule
unfolding rules
by_index = refl
