-- What the parser answers.
use Rattle.clap.specs.Simple.{app_of}
use Rattle.dbg_words.specs.Words.{texts}
use Rattle.dbg_words.proofs.ParsedLaws.{parsed_ok, parsed_refused}
use Rattle.dbg_words.proofs.matches.parsed.Goals as goal

pub returns-in_ok-line-in-Ok : goal.returns-in_ok-line-in-Ok
returns-in_ok-line-in-Ok c = record {
  value = parsed_ok (app_of c.in_ok-program.field-0) (texts c.args.words.now) c.in-Ok.matches c.in_ok-line-in-Ok.line c.in_ok-program.ensures.app
      c.in-Ok.ensures.kinds c.in-Ok.ensures.matches c.in_ok-line-in-Ok.ensures.value;
}

pub returns-in-Err : goal.returns-in-Err
returns-in-Err c = record {
  value = parsed_refused (app_of c.in_ok-program.field-0) (texts c.args.words.now) c.in-Err.error c.refused.result c.in_ok-program.ensures.app
      c.in-Err.ensures.kinds c.refused.ensures.none;
}
