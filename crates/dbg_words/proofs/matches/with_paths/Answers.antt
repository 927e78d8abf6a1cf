-- The rule of the paths is added.
use Rattle.std.proofs.Common.{ap, ◌∙◌}
use Rattle.std.proofs.lemmas.Result.{IfOk-weaker}
use Rattle.clap.specs.Simple.{app_of, with_rule}
use Rattle.dbg_words.proofs.matches.with_paths.Goals as goal

pub returns : goal.returns
returns c = record {
  app = IfOk-weaker c.arg.result _ _ (λ command made. made.shape c.paths.ensures.local ∙ ap (with_rule (app_of c.args.command)) c.paths.ensures.rule) c.arg.ensures;
}
