-- The flags and the paths are added to the options that take a value.
use Rattle.std.proofs.Common.{ap, codes, ◌∙◌}
use Rattle.std.proofs.lemmas.Result.{IfOk-weaker}
use Rattle.clap.specs.Simple.{App, with_rule}
use Rattle.dbg_words.specs.Matches.{flag_arg, path_arg}
use Rattle.dbg_words.proofs.matches.program.Goals as goal

pub returns : goal.returns
returns c =
    let one = c.in_ok-command.ensures.app ∙ ap (λ (a : App). with_rule a (flag_arg (codes "build-id"))) c.in_ok-options.ensures.app in
    let two = c.in_ok-command-2.ensures.app ∙ ap (λ (a : App). with_rule a (flag_arg (codes "skip-refused"))) one in
    let three = c.in_ok-command-3.ensures.app ∙ ap (λ (a : App). with_rule a (flag_arg (codes "grow-inline"))) two in
    record { app = IfOk-weaker c.with_paths.result _ _ (λ command made. made ∙ ap (λ (a : App). with_rule a path_arg) three) c.with_paths.ensures.app }
