-- Dashes that stand where a command line has none: a word with one dash in front, and a dash alone as the value of an option in
-- a word of its own. A value that begins with a dash has to be attached by an equals sign.
use Rattle.std.specs.Prelude.{Bool, true, false, ◌&&◌, ◌||◌, ◌==◌, if◌then◌else◌, ℕ, List, [], ◌∷◌, Option, Some, None, codes}
use Rattle.dw_base.specs.Texts.{is_in, same_text}
use Rattle.dbg_words.specs.CommandLines.{Look, dash, optional, short, look_of, valued_options}

-- what stands behind a dash in front
abbrev pub behind_dash : List ℕ → Option (List ℕ)
behind_dash [] = None
behind_dash (b ∷ bs) = if b == dash then Some bs else None

-- the word names an option whose value is the next word
abbrev pub awaits : Look → Bool
awaits (optional name None) = is_in valued_options name
awaits look = false

-- the word has one dash in front of something
abbrev pub is_short : Look → Bool
is_short short = true
is_short look = false

-- two dashes alone: behind them no word is an option
abbrev pub ends_options : List ℕ → Bool
ends_options word = same_text word (codes "--")

-- a dash alone, where a value is due
abbrev pub is_lone : Bool → List ℕ → Bool
is_lone waits word = waits && same_text word (codes "-")

-- a dash stands where a command line has none; `waits` says that the first word is the value of an option
unfoldable pub has_stray_dash : Bool → List (List ℕ) → Bool
has_stray_dash waits [] = false
has_stray_dash waits (w ∷ ws) =
    if ends_options w then false
    else (is_short (look_of w) || is_lone waits w) || has_stray_dash (awaits (look_of w)) ws
