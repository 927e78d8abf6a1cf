-- The other options that take a value are added to the first.
use Rattle.std.proofs.Common.{ap, codes, ◌∙◌}
use Rattle.std.proofs.lemmas.Result.{IfOk-weaker}
use Rattle.clap.specs.Simple.{App, with_rule}
use Rattle.dbg_words.specs.Matches.{valued_arg}
use Rattle.dbg_words.proofs.matches.options.Goals as goal

pub returns : goal.returns
returns c =
    let one = c.in_ok-command.ensures.app ∙ ap (λ (a : App). with_rule a (valued_arg (codes "list-file"))) c.in_ok-edit_options.ensures.app in
    let two = c.in_ok-command-2.ensures.app ∙ ap (λ (a : App). with_rule a (valued_arg (codes "max-file"))) one in
    let three = c.in_ok-command-3.ensures.app ∙ ap (λ (a : App). with_rule a (valued_arg (codes "jobs"))) two in
    record { app = IfOk-weaker c.with_valued-4.result _ _ (λ command made. made ∙ ap (λ (a : App). with_rule a (valued_arg (codes "more-maps"))) three) c.with_valued-4.ensures.app }
