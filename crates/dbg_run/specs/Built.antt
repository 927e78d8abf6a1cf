-- The commands that are carried out. Words that are another command end as those that are none.
use Rattle.std.specs.Prelude.{Bool, true, false, not, if◌then◌else◌, ℕ, List, Option, Some, None, option_and_then}
use Rattle.dbg_words.specs.declared.command.Command.{Command}
use Rattle.dbg_words.specs.declared.command.Command.TheVariants.{Edit, Split, Run, Show, Unstrip, Gather, Exercise}
use Rattle.dbg_words.specs.Words.{command}

-- what is carried out: an edit, but for one that moves paths which would grow; a split, a run over a build root, a gathering of its sources,
-- a showing, a joining, and an exercise
abbrev pub is_built : Command → Bool
is_built (Edit input output o list) = not o.grow_inline
is_built (Split input stripped debug) = true
is_built (Run root o jobs) = true
is_built (Show file debug) = true
is_built (Unstrip stripped debug output) = true
is_built (Gather root from dest jobs) = true
is_built (Exercise seed units) = true
is_built c = false

abbrev pub if_built : Command → Option Command
if_built c = if is_built c then Some c else None

-- the command that words are, where it is carried out
unfoldable pub built : List (List ℕ) → Option Command
built words = option_and_then if_built (command words)
