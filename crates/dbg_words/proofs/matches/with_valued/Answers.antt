-- The rule of an option with a value is added.
use Rattle.std.proofs.Common.{ap, ◌∙◌}
use Rattle.std.proofs.lemmas.Result.{IfOk-weaker}
use Rattle.clap.specs.Simple.{app_of, with_rule}
use Rattle.dbg_words.proofs.matches.with_valued.Goals as goal

pub returns : goal.returns
returns c = record {
  app = IfOk-weaker c.arg.result _ _ (λ command made. made.shape c.valued.ensures.local ∙ ap (with_rule (app_of c.args.command)) c.valued.ensures.rule) c.arg.ensures;
}
