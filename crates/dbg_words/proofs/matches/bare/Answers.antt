-- The program is made, and its help taken from it.
use Rattle.std.proofs.Common.{ap, ◌∙◌}
use Rattle.clap.specs.Simple.{app_of_fields}
use Rattle.dbg_words.specs.Matches.{without_help}
use Rattle.dbg_words.proofs.matches.bare.Goals as goal

pub returns : goal.returns
returns c = record { app = ap app_of_fields c.disable_help_flag.ensures ∙ ap without_help c.new.ensures.app }
