-- The first options are added, one after the other.
use Rattle.std.proofs.Common.{ap, codes, ◌∙◌}
use Rattle.std.proofs.lemmas.Result.{IfOk-weaker}
use Rattle.clap.specs.Simple.{App, with_rule}
use Rattle.dbg_words.specs.Matches.{valued_arg}
use Rattle.dbg_words.proofs.matches.edit_options.Goals as goal

pub returns : goal.returns
returns c =
    let one = c.in_ok-command.ensures.app ∙ ap (λ (a : App). with_rule a (valued_arg (codes "base-dir"))) c.bare.ensures.app in
    let two = c.in_ok-command-2.ensures.app ∙ ap (λ (a : App). with_rule a (valued_arg (codes "dest-dir"))) one in
    record { app = IfOk-weaker c.with_valued-3.result _ _ (λ command made. made ∙ ap (λ (a : App). with_rule a (valued_arg (codes "seed"))) two) c.with_valued-3.ensures.app }
