-- Command lines: which words are options, values and paths. This project's profile, in the manner of the GNU long options.
use Rattle.std.specs.Prelude.{Bool, true, false, ◌&&◌, ◌||◌, not, if◌then◌else◌, ℕ, ◌==◌, nat_lt, List, [], ◌∷◌, map, length, Option, Some, None, option_map, option_and_then, codes}
use Rattle.std.specs.List.{list_any, before_first, after_first}
use Rattle.dw_base.specs.Texts.{is_in, same_text}

-- the byte of `-`, and that of `=`
abbrev pub dash : ℕ
dash = 45

abbrev pub equals_sign : ℕ
equals_sign = 61

-- the options that take a value, and those that take none, by their names behind two dashes
abbrev pub valued_options : List (List ℕ)
valued_options =
    codes "base-dir"
    ∷ codes "dest-dir"
    ∷ codes "seed"
    ∷ codes "list-file"
    ∷ codes "max-file"
    ∷ codes "jobs"
    ∷ codes "more-maps"
    ∷ []

abbrev pub flags : List (List ℕ)
flags = codes "build-id" ∷ codes "skip-refused" ∷ codes "grow-inline" ∷ []

-- what a word looks like, by its dashes
pub data Look : Type 0 where
  -- it begins with no dash, or is a dash alone
  plain : Look
  -- two dashes alone
  ending : Look
  -- two dashes, a name, and a value where an equals sign follows the name
  optional : List ℕ → Option (List ℕ) → Look
  -- one dash with something behind it
  short : Look

-- what stands behind the first equals sign, where there is one
abbrev pub attached : List ℕ → Option (List ℕ)
attached text = if list_any (λ b. b == equals_sign) text then Some (after_first (λ b. b == equals_sign) text) else None

abbrev pub look_behind_two : List ℕ → Look
look_behind_two [] = ending
look_behind_two (b ∷ bs) = optional (before_first (λ c. c == equals_sign) (b ∷ bs)) (attached (b ∷ bs))

abbrev pub look_behind_one : List ℕ → Look
look_behind_one [] = plain
look_behind_one (b ∷ bs) = if b == dash then look_behind_two bs else short

abbrev pub look_of : List ℕ → Look
look_of [] = plain
look_of (b ∷ bs) = if b == dash then look_behind_one bs else plain

-- a word begins with a dash
abbrev pub begins_with_dash : List ℕ → Bool
begins_with_dash [] = false
begins_with_dash (b ∷ bs) = b == dash

-- what one word says, or an option and the word of its value
pub data Part : Type 0 where
  path : List ℕ → Part
  value : List ℕ → List ℕ → Part
  flag : List ℕ → Part

abbrev pub with_part : Part → Option (List Part) → Option (List Part)
with_part part parts = option_map (λ ps. part ∷ ps) parts

-- an option, which is named in full, with the value that is attached to it: a flag takes none; `rest` gives the parts of the
-- words behind, of which the first is the value of the option that is named
abbrev pub option_parts : List ℕ → Option (List ℕ) → (Option (List ℕ) → Option (List Part)) → Option (List Part)
option_parts name (Some text) rest = if is_in valued_options name then with_part (value name text) (rest None) else None
option_parts name None rest =
    if is_in valued_options name then rest (Some name)
    else (if is_in flags name then with_part (flag name) (rest None) else None)

abbrev pub word_parts : Look → List ℕ → List (List ℕ) → (Option (List ℕ) → Option (List Part)) → Option (List Part)
word_parts plain word words rest = with_part (path word) (rest None)
word_parts ending word words rest = Some (map path words)
word_parts (optional name attached) word words rest = option_parts name attached rest
word_parts short word words rest = None

-- the parts of words, where they have any; the first word is the value of the option that is named. A value that begins with
-- a dash has to be attached by an equals sign. Behind two dashes alone each word is a path.
unfoldable pub parts_of : List (List ℕ) → Option (List ℕ) → Option (List Part)
parts_of [] None = Some []
parts_of [] (Some name) = None
parts_of (w ∷ ws) None = word_parts (look_of w) w ws (parts_of ws)
parts_of (w ∷ ws) (Some name) = if begins_with_dash w then None else with_part (value name w) (parts_of ws None)

-- an option of the name is given
abbrev pub is_given : List ℕ → List Part → Bool
is_given name [] = false
is_given name (path word ∷ ps) = is_given name ps
is_given name (value n text ∷ ps) = same_text n name || is_given name ps
is_given name (flag n ∷ ps) = same_text n name || is_given name ps

-- each option is given once, and no value is empty
abbrev pub are_fit : List Part → Bool
are_fit [] = true
are_fit (path word ∷ ps) = are_fit ps
are_fit (value n text ∷ ps) = (not (is_given n ps) && nat_lt 0 (length text)) && are_fit ps
are_fit (flag n ∷ ps) = not (is_given n ps) && are_fit ps

-- the value of an option, where it is given
abbrev pub value_of : List ℕ → List Part → Option (List ℕ)
value_of name [] = None
value_of name (path word ∷ ps) = value_of name ps
value_of name (value n text ∷ ps) = if same_text n name then Some text else value_of name ps
value_of name (flag n ∷ ps) = value_of name ps

-- the paths, in order
abbrev pub paths_of : List Part → List (List ℕ)
paths_of [] = []
paths_of (path word ∷ ps) = word ∷ paths_of ps
paths_of (value n text ∷ ps) = paths_of ps
paths_of (flag n ∷ ps) = paths_of ps

-- what the words behind a command's name say: the paths, and what is given of each option
pub record CommandLine : Type 0 where
  pub paths : List (List ℕ)
  pub base_dir : Option (List ℕ)
  pub dest_dir : Option (List ℕ)
  pub build_id : Bool
  pub seed : Option (List ℕ)
  pub list_file : Option (List ℕ)
  pub max_file : Option (List ℕ)
  pub jobs : Option (List ℕ)
  pub more_maps : Option (List ℕ)
  pub skip_refused : Bool
  pub grow_inline : Bool

abbrev pub line_of_parts : List Part → CommandLine
line_of_parts ps = record {
  paths = paths_of ps;
  base_dir = value_of (codes "base-dir") ps;
  dest_dir = value_of (codes "dest-dir") ps;
  build_id = is_given (codes "build-id") ps;
  seed = value_of (codes "seed") ps;
  list_file = value_of (codes "list-file") ps;
  max_file = value_of (codes "max-file") ps;
  jobs = value_of (codes "jobs") ps;
  more_maps = value_of (codes "more-maps") ps;
  skip_refused = is_given (codes "skip-refused") ps;
  grow_inline = is_given (codes "grow-inline") ps;
}

abbrev pub line_if_fit : List Part → Option CommandLine
line_if_fit ps = if are_fit ps then Some (line_of_parts ps) else None

-- the command line that words spell, where they spell one
unfoldable pub command_line : List (List ℕ) → Option CommandLine
command_line words = option_and_then line_if_fit (parts_of words None)
